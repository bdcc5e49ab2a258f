-- The endpoints of a block's partitions, whose values stand one after the other.
-- Assumes nothing.
use Rattle.std.specs.Prelude.{cond, List, [], ◌∷◌, ℕ, zero, suc, ◌+◌, ◌*◌, ◌/◌, ltb, get_or}
use Rattle.endpoints_colours.specs.Colours.{nothing}
use Rattle.endpoints_rules.specs.Modes.{endpoints_of}
use Rattle.endpoints_colours.specs.declared.Endpoints.{Endpoints}
use Rattle.endpoints_colours.specs.declared.Values.{Values}

-- the eight values from place k on
unfoldable pub values_at : List ℕ → ℕ → Values
values_at ev k = record {
  v0 = get_or ev k 0;
  v1 = get_or ev (k + 1) 0;
  v2 = get_or ev (k + 2) 0;
  v3 = get_or ev (k + 3) 0;
  v4 = get_or ev (k + 4) 0;
  v5 = get_or ev (k + 5) 0;
  v6 = get_or ev (k + 6) 0;
  v7 = get_or ev (k + 7) 0;
}

-- how many values a mode takes
abbrev pub count_of : ℕ → ℕ
count_of m = 2 * (m / 4 + 1)

-- the values of the first n partitions: where those of partition n start
unfoldable pub count_to : List ℕ → ℕ → ℕ
count_to modes zero = 0
count_to modes (suc n) = count_to modes n + count_of (get_or modes n 0)

-- of partition i of those that a block has
unfoldable pub partition_endpoints : ℕ → List ℕ → List ℕ → ℕ → Endpoints
partition_endpoints parts modes ev i = cond (ltb i parts) (endpoints_of (get_or modes i 0) (values_at ev (count_to modes i))) nothing

unfoldable pub endpoints_list : ℕ → List ℕ → List ℕ → List Endpoints
endpoints_list parts modes ev =
    partition_endpoints parts modes ev 0 ∷ partition_endpoints parts modes ev 1 ∷ partition_endpoints parts modes ev 2 ∷ partition_endpoints parts modes ev 3 ∷ []
