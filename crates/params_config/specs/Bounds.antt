-- How large the numbers of a configuration are.
-- Assumes nothing.
use Rattle.std.specs.Prelude.{◌≡◌, refl, Bool, true, false, cond, ◌||◌, ℕ, ◌+◌, ◌-◌, ◌*◌, ◌/◌, ◌%◌, ◌≤◌, ◌<◌, eqb}
use Rattle.std.proofs.Common.{mul-le-mul, div-one, arith, ne_eqb, eqb-true}
use Rattle.std.proofs.lemmas.Nat.{mod-pow-add}
use Rattle.std.proofs.lemmas.Bool.{eqb-false}
use Rattle.footprint.specs.Footprints.{most_weights}
use Rattle.bits.specs.Bits.{bits_at}
use Rattle.bits.specs.BitLaws.{bits-lt}
use Rattle.laws.specs.Numbers.{choice, choice-le}
use Rattle.sequence_ranges.specs.Ranges.{range_of, most}
use Rattle.sequence_ranges.specs.Ranges.{per, shared, total_of}
use Rattle.sequence_ranges.specs.RangeLaws.{legal}
use Rattle.sequence_ranges.specs.declared.Kind.{Kind}
use Rattle.sequence_ranges.specs.declared.Kind.TheVariants.{Plain, Trits, Quints}
use Rattle.params_low.specs.Low.{conf_len}
use Rattle.params_low.specs.LowLaws.{conf-most}
use Rattle.params_modes.specs.Modes.{class_in, values_to}
use Rattle.params_modes.specs.ModeLaws.{Coded, values-most, values-even, values-least}
use Rattle.params_config.specs.Ranges.{cost}
use Rattle.params_config.specs.Config.{is_reserved, grid_low, grid_high, grid_of, weight_r, weight_h, weight_d, lacks_dh, parts_of, number_of, mode_base, low_modes, extra_mode_bits, partitions_of, config_of, weight_range, planes_of, grid, one_of}
use Rattle.params_config.specs.declared.Config.{Config}
use Rattle.params_config.specs.declared.Grid.{Grid}

pub record ConfigBounds (k : Config) : Type 0 where
  pub column : 2 ≤ k.width
  pub width : k.width ≤ 12
  pub row : 2 ≤ k.height
  pub height : k.height ≤ 12
  pub weight-range : k.weight_range ≤ 11
  pub plane : 1 ≤ k.planes
  pub planes : k.planes ≤ 2
  pub part : 1 ≤ k.parts
  pub parts : k.parts ≤ 4
  pub number : k.number < 1024
  pub low-modes : k.low_modes < 16
  pub coded : Coded k.base k.low_modes
  pub values : k.values ≤ 32
  pub pairs : k.values % 2 ≡ 0
  pub pair : 2 ≤ k.values
  pub low_len : k.low_len ≤ 29
  pub mode_bits : k.mode_bits ≤ 8
  pub weight_len : k.weight_len ≤ 2304 + 672

-- ---- ranges
-- the bits of the digits of n values
shared-le : (k : Kind) (n : ℕ) → (n * shared k + (per k - 1)) / per k ≤ (7 * n + 2) / 3
shared-le Plain n = omega arith
shared-le Trits n = omega arith
shared-le Quints n = omega arith

most-le : (k : Kind) → most k ≤ 8
most-le Plain = omega arith
most-le Trits = omega arith
most-le Quints = omega arith

pub cost-le : (q n : ℕ) → q < 21 → n ≤ most_weights → cost q n ≤ 2304 + 672
unfolding cost total_of
cost-le q n h l =
    let r = range_of q in
    let b : r.bits ≤ 8 = omega (arith, legal q h, most-le r.kind) in
    let m : n * r.bits ≤ most_weights * 8 = mul-le-mul l b in
    omega (arith, shared-le r.kind n)

-- ---- the grid
pub record GridSmall (g : Grid) : Type 0 where
  pub column : 2 ≤ g.width
  pub width : g.width ≤ 12
  pub row : 2 ≤ g.height
  pub height : g.height ≤ 12

fit : (w h : ℕ) → (2 ≤ w) × (w ≤ 12) × (2 ≤ h) × (h ≤ 12) → GridSmall (grid w h)
fit w h p = record { column = p.0; width = p.1; row = p.2; height = p.3 }

cond_small : (t : Bool) (a b : Grid) → GridSmall a → GridSmall b → GridSmall (cond t a b)
cond_small true a b x y = x
cond_small false a b x y = y

one-small : (k : ℕ) (a b c d : Grid) → GridSmall a → GridSmall b → GridSmall c → GridSmall d → GridSmall (one_of k a b c d)
one-small k a b c d x y z u = cond_small (eqb k 0) _ _ x (cond_small (eqb k 1) _ _ y (cond_small (eqb k 2) _ _ z u))

high_small : (c : ℕ) → GridSmall (grid_high c)
unfolding grid_high bits_at
high_small c =
    let a = c / 32 % 4 in
    let b = c / 128 % 4 in
    one-small (c / 4 % 4) _ _ _ _ (fit (b + 4) (a + 2) (omega arith)) (fit (b + 8) (a + 2) (omega arith)) (fit (a + 2) (b + 8) (omega arith))
    (cond_small (eqb (c / 256 % 2) 0) _ _ (fit (a + 2) (c / 128 % 2 + 6) (omega arith)) (fit (c / 128 % 2 + 2) (a + 2) (omega arith)))

low_small : (c : ℕ) → GridSmall (grid_low c)
unfolding grid_low bits_at
low_small c =
    let a = c / 32 % 4 in
    one-small (c / 128 % 4) _ _ _ _ (fit 12 (a + 2) (omega arith)) (fit (a + 2) 12 (omega arith)) (fit (a + 6) (c / 512 % 4 + 6) (omega arith))
    (cond_small (eqb (c / 32 % 2) 0) _ _ (fit 6 10 (omega arith)) (fit 10 6 (omega arith)))

pub grid-small : (c : ℕ) → GridSmall (grid_of c)
unfolding grid_of
grid-small c = cond_small (eqb (bits_at c 0 2) 0) _ _ (low_small c) (high_small c)

-- ---- R, H, D
or_left : (a b : Bool) → a || b ≡ false → a ≡ false
or_left true b e = e
or_left false b e = refl

pub r-least : (c : ℕ) → is_reserved c ≡ false → 2 ≤ weight_r c
unfolding weight_r bits_at is_reserved
r-least c e = rw (div-one c) (go (eqb (c % 4) 0) refl)
  where
    z : c % 16 ≡ 0 → ⊥
    z = eqb-false _ _ (or_left _ _ (rw (div-one c) at e))

    go : (b : Bool) → eqb (c % 4) 0 ≡ b → 2 ≤ c / 16 % 2 + 2 * cond b (c / 4 % 4) (c % 4)
    go true h = let q : c % 4 ≡ 0 = eqb-true _ _ h in omega (arith, z, mod-pow-add c 2 2)
    go false h = let q : c % 4 ≡ 0 → ⊥ = eqb-false _ _ h in omega arith

pub r-most : (c : ℕ) → weight_r c ≤ 7
unfolding weight_r bits_at
r-most c = go (eqb (c / 1 % 4) 0)
  where
    go : (b : Bool) → c / 16 % 2 + 2 * cond b (c / 4 % 4) (c / 1 % 4) ≤ 7
    go true = omega arith
    go false = omega arith

pub h-most : (c : ℕ) → weight_h c ≤ 1
unfolding weight_h
h-most c = choice-le (lacks_dh c) 0 (bits_at c 9 1) (omega arith) (omega (arith, bits-lt c 9 1))

pub d-most : (c : ℕ) → weight_d c ≤ 1
unfolding weight_d
d-most c = choice-le (lacks_dh c) 0 (bits_at c 10 1) (omega arith) (omega (arith, bits-lt c 10 1))

-- as the code reads them
pub h-bit : (c x : ℕ) → x ≡ cond (lacks_dh c) 0 (bits_at c 9 1) → x ≡ weight_h c
unfolding weight_h
h-bit c x e = e

pub d-bit : (c x : ℕ) → x ≡ cond (lacks_dh c) 0 (bits_at c 10 1) → x ≡ weight_d c
unfolding weight_d
d-bit c x e = e

-- ---- partitions and modes
pub parts-most : (c : ℕ) → parts_of c ≤ 4
unfolding parts_of bits_at
parts-most c = omega arith

pub parts-least : (c : ℕ) → 1 ≤ parts_of c
unfolding parts_of bits_at
parts-least c = omega arith

pub base-most : (c : ℕ) → mode_base c ≤ 3
unfolding mode_base bits_at
base-most c = choice-le (eqb (parts_of c) 1) 0 (c / 8388608 % 4) (omega arith) (omega arith)

pub number_lt : (c : ℕ) → number_of c < 1024
unfolding number_of
number_lt c = choice (eqb (parts_of c) 1) 0 (bits_at c 13 10) (omega arith) (bits-lt c 13 10)

pub low-modes-lt : (c : ℕ) → low_modes c < 16
unfolding low_modes
low-modes-lt c = choice (eqb (parts_of c) 1) (bits_at c 13 4) (bits_at c 25 4) (bits-lt c 13 4) (bits-lt c 25 4)

pub coded : (c : ℕ) → Coded (mode_base c) (low_modes c)
coded c = record { most = base-most c; alone = λ e. low-modes-lt c }

mode-bits-most : (c : ℕ) → extra_mode_bits (parts_of c) (mode_base c) ≤ 8
unfolding extra_mode_bits
mode-bits-most c = choice-le (eqb (mode_base c) 0) 0 (3 * parts_of c - 4) (omega arith) (omega (arith, parts-most c))

-- ---- all of it
pub weights-most : (c : ℕ) → (grid_of c).width * (grid_of c).height * planes_of c ≤ most_weights
weights-most c =
    let g = grid-small c in
    let p : planes_of c ≤ 2 = omega (arith, d-most c) in
    mul-le-mul (mul-le-mul g.width g.height) p

pub range-most : (c : ℕ) → weight_range c ≤ 11
range-most c = omega (arith, r-most c, h-most c)

pub small : (c : ℕ) → ConfigBounds (config_of c)
unfolding config_of partitions_of
small c = record {
  column = (grid-small c).column;
  width = (grid-small c).width;
  row = (grid-small c).row;
  height = (grid-small c).height;
  weight-range = range-most c;
  plane = omega arith;
  planes = omega (arith, d-most c);
  part = parts-least c;
  parts = parts-most c;
  number = number_lt c;
  low-modes = low-modes-lt c;
  coded = coded c;
  values = omega (arith, values-most _ _ (coded c) (parts_of c), parts-most c);
  pairs = values-even _ _ (parts_of c);
  pair = values-least _ _ (parts_of c) (parts-least c);
  low_len = conf-most (parts_of c);
  mode_bits = mode-bits-most c;
  weight_len = cost-le (weight_range c) _ (omega (arith, range-most c)) (weights-most c);
}

pub small_of : (c : ℕ) (k : Config) → k ≡ config_of c → ConfigBounds k
small_of c k e = rw e (small c)

-- ---- the partitions, as the code reads them
one-values : (x : ℕ) → 2 * (x / 4) + 2 ≡ values_to 0 x 1
unfolding values_to class_in
one-values x = omega arith

pub one-is : (c : ℕ) → parts_of c ≡ 1
    → record { parts = 1; number = 0; base = 0; low_modes = c / 8192 % 16; values = 2 * (c / 8192 % 16 / 4) + 2; low_len = 17; mode_bits = 0 } ≡ partitions_of c
unfolding partitions_of number_of mode_base low_modes extra_mode_bits conf_len bits_at
one-is c e = rw (e, one-values (c / 8192 % 16))

pub several-is : (c parts n : ℕ) (m : ℕ) → parts ≡ parts_of c → 2 ≤ parts → n ≡ values_to (c / 8388608 % 4) (c / 33554432 % 16) parts → m ≡ extra_mode_bits parts (c / 8388608 % 4)
    → record { parts = parts; number = c / 8192 % 1024; base = c / 8388608 % 4; low_modes = c / 33554432 % 16; values = n; low_len = 29; mode_bits = m } ≡ partitions_of c
unfolding partitions_of number_of mode_base low_modes conf_len bits_at
several-is c parts n m e h d g = rw (d, g, e, ne_eqb (parts_of c) 1 (λ z. omega (arith, z, e)))

pub parts_is : (c : ℕ) → c / 2048 % 4 + 1 ≡ parts_of c
unfolding parts_of bits_at
parts_is c = refl
