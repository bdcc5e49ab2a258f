-- Laws of the partitions' places.
-- Assumes nothing.
use Rattle.std.specs.Prelude.{◌≡◌, List, ℕ, zero, suc, ◌+◌, ◌≤◌, ◌<◌, get_or, set}
use Rattle.std.proofs.Common.{le_refl, add-one, arith}
use Rattle.std.proofs.Math.Decide.{dec_lt}
use Rattle.endpoints_rules.specs.Modes.{endpoints_of}
use Rattle.endpoints.specs.Endpoints.{values_at, count_of, count_to, partition_endpoints, endpoints_list}
use Rattle.endpoints_colours.specs.declared.Endpoints.{Endpoints}

pub count-mono : (modes : List ℕ) (i n : ℕ) → i ≤ n → count_to modes i ≤ count_to modes n
unfolding count_to
count-mono modes i zero l = let e : i ≡ 0 = omega arith in rw e (le_refl 0)
count-mono modes i (suc n) l = go (dec_lt i (suc n)) (count-mono modes i n)
  where
    go : Dec (i < suc n) → (i ≤ n → count_to modes i ≤ count_to modes n) → count_to modes i ≤ count_to modes n + count_of (get_or modes n 0)
    go (yes p) below = omega (arith, below (omega arith))
    go (no p) below = let e : i ≡ suc n = omega arith in rw e (le_refl _)

pub count_next : (modes : List ℕ) (i : ℕ) → count_to modes (i + 1) ≡ count_to modes i + count_of (get_or modes i 0)
unfolding count_to
count_next modes i = rw (add-one i)

-- where the values of all partitions are few, those of one start early
pub starts-early : (modes : List ℕ) (i parts : ℕ) → i < parts → count_to modes parts ≤ 18 → count_to modes i + count_of (get_or modes i 0) ≤ 18
starts-early modes i parts h l = omega (arith, count-mono modes (i + 1) parts (omega arith), count_next modes i)

past-3 : {i : ℕ} → suc (suc (suc (suc i))) < 4 → ⊥
past-3 h = omega arith

-- one partition more
pub one_more : (modes ev : List ℕ) (x : Endpoints) (i : ℕ) → i < 4 → x ≡ endpoints_of (get_or modes i 0) (values_at ev (count_to modes i)) → set (endpoints_list i modes ev) i x ≡ endpoints_list (i + 1) modes ev
unfolding endpoints_list partition_endpoints
one_more modes ev x zero h e = rw e
one_more modes ev x (suc zero) h e = rw e
one_more modes ev x (suc (suc zero)) h e = rw e
one_more modes ev x (suc (suc (suc zero))) h e = rw e
one_more modes ev x (suc (suc (suc (suc i)))) h e = absurd (past-3 h)
