-- What a legal block's parameters give to the layers below: each of their functions may be called.
-- Assumes nothing.
use Rattle.std.specs.Prelude.{◌≡◌, refl, true, ℕ, zero, suc, ◌/◌, ◌≤◌, ◌<◌, get_or}
use Rattle.std.proofs.Common.{sym, ap, ◌∙◌, arith}
use Rattle.sequence_ranges.specs.Ranges.{range_of, total_of}
use Rattle.footprint.specs.Footprints.{listed}
use Rattle.footprint.specs.Sides.{Sides, sides-of}
use Rattle.footprint.specs.declared.Footprint.{Footprint}
use Rattle.params_modes.specs.Modes.{class_in, modes_of, values_to}
use Rattle.params_modes.specs.ModeLaws.{modes-lt, mode-is, mode-class}
use Rattle.params_config.specs.Ranges.{cost}
use Rattle.params_config.specs.Config.{parts_of, mode_base, partitions_of, config_of}
use Rattle.params_config.specs.Bounds.{small}
use Rattle.params_rules.specs.Fields.{fields_of, answer}
use Rattle.params_rules.specs.FieldLaws.{ordinary}
use Rattle.params_room.specs.RoomLaws.{range-is}
use Rattle.params.specs.Params.{legal, params_of}
use Rattle.params.specs.Laws.{answer-is, legal-is, code_is, code-values}
use Rattle.params.specs.declared.Params.{Params}
use Rattle.endpoints.specs.Endpoints.{count_to}
use Rattle.weights_grid.specs.Grids.{Fits}
use Rattle.block_ordinary.specs.Ordinary.{grid_of, count_of}

-- ---- the values of the first n partitions, as the parameters count them and as the endpoints do
count-is : (parts base code n : ℕ) → parts ≤ 4 → n ≤ parts → count_to (modes_of parts base code) n ≡ values_to base code n
unfolding count_to values_to
count-is parts base code zero m h = refl
count-is parts base code (suc n) m h =
    let l : n < 4 = omega arith in
    let e : get_or (modes_of parts base code) n 0 / 4 ≡ class_in base code n = ap (λ (m : ℕ). m / 4) (mode-is parts base code n l (omega arith)) ∙ mode-class parts base code n in
    rw (count-is parts base code n m (omega arith), e)

-- ---- the parameters of a legal block
pub record Facts (p : Params) : Type 0 where
  pub width : p.config.width ≤ 12
  pub height : p.config.height ≤ 12
  pub weight-range : p.config.weight_range < 12
  pub least : 4 ≤ p.endpoint_range
  pub most : p.endpoint_range < 21
  pub values : p.config.values ≤ 18
  pub low : p.config.low_len ≤ 128
  pub part : 1 ≤ p.config.parts
  pub parts : p.config.parts ≤ 4
  pub planes : (1 ≤ p.config.planes) × (p.config.planes ≤ 2)
  pub modes : (i : ℕ) → get_or p.modes i 0 < 16
  pub count : count_to p.modes p.config.parts ≡ p.config.values
  pub number : p.config.number < 1024
  pub ends-len : cost p.endpoint_range p.config.values ≡ total_of (range_of p.endpoint_range) p.config.values
  pub weights-len : p.config.weight_len ≡ total_of (range_of p.config.weight_range) (count_of p)

-- and what its grid is at a footprint
pub record Ready (p : Params) (foot : Footprint) : Type 0 where
  pub facts : Facts p
  pub fits : Fits (grid_of p foot)
  pub sides : Sides foot

pub ready : (p : Params) (v : ℕ) (foot : Footprint) → p ≡ params_of v foot → p.answer ≡ 0 → listed foot ≡ true → Ready p foot
unfolding legal config_of partitions_of cost
ready p v foot e z s =
    let t = fields_of v in
    let a : answer t foot ≡ 0 = sym (answer-is t foot) ∙ ap (λ (q : Params). q.answer) (sym e) ∙ z in
    let f = sides-of foot s in
    let c = t.low in
    let k = small c in
    let l = (ordinary t foot a).rules in
    let w = range-is _ foot l in
    rw (e, legal-is t foot a)
    (record {
      facts = record {
        width = k.width;
        height = k.height;
        weight-range = omega (arith, k.weight-range);
        least = w.least;
        most = omega (arith, w.most);
        values = l.values;
        low = omega (arith, k.low_len);
        part = k.part;
        parts = k.parts;
        planes = (k.plane, k.planes);
        modes = modes-lt (mode_base c) _ (code_is (config_of c) t.extra k) (parts_of c);
        count = count-is (parts_of c) (mode_base c) _ (parts_of c) k.parts (omega arith) ∙ code-values (config_of c) t.extra (parts_of c) k.parts;
        number = k.number;
        ends-len = refl;
        weights-len = refl;
      };
      fits = record { sides = f; wide = (k.column, l.wide); high = (k.row, l.high); planes = (k.plane, k.planes); few = l.few };
      sides = f;
    })
