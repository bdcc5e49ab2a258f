-- Laws of a footprint's rows: what a loop over the rows has filled, and what stands past a row's end.
-- Assumes nothing.
use Rattle.std.specs.Prelude.{◌≡◌, cond, List, ℕ, ◌*◌, ◌/◌, ◌%◌, ◌≤◌, ◌<◌, ◌+◌, ltb, get_or, replicate}
use Rattle.std.proofs.Common.{◌∙◌, arith, lt-ltb, le-ltb}
use Rattle.std.proofs.Math.Decide.{dec_lt}
use Rattle.laws.specs.Lists.{list_of, zeros-list_of, put_at, put_at-list_of}
use Rattle.std.proofs.Math.Arith.{digits_div, digits_mod}
use Rattle.weights_infill.specs.Infill.{factors, dot, infilled}
use Rattle.weights_infill.specs.Fast.{between, row_at, texels}
use Rattle.weights_grid.specs.declared.Grid.{Grid}
use Rattle.footprint.specs.Footprints.{texels_of, most_weights}

-- between zeros there is 0
between-zero : (f h : ℕ) → between 0 0 f h ≡ 0
unfolding between infilled dot factors
between-zero f h = omega arith

-- a row's places past the footprint are 0
pub row-past : (pairs part : List ℕ) (width x h s : ℕ) → ((i : ℕ) → width ≤ i % 16 → get_or pairs i 0 ≡ 0) → width ≤ s → s < 16 → row_at pairs part (x * 16) h s ≡ 0
unfolding row_at
row-past pairs part width x h s zeros l m =
    let a : (x * 16 + s) % 16 ≡ s = omega arith in
    let b : (x * 16 + 16 + s) % 16 ≡ s = omega arith in
    rw (zeros (x * 16 + s) (omega arith), zeros (x * 16 + 16 + s) (omega arith)) (between-zero (get_or part s 0) h)

-- ---- texels

-- the texels before o, and 0 after them
abbrev pub texels_to : ℕ → ℕ → (ℕ → ℕ → ℕ) → ℕ → ℕ
texels_to width o f i = cond (ltb i o) (f (i % width) (i / width)) 0

pub texels-none : (width : ℕ) (f : ℕ → ℕ → ℕ) (n : ℕ) → replicate n 0 ≡ list_of (texels_to width 0 f) 0 n
texels-none width f n = zeros-list_of (texels_to width 0 f) n (λ k h. rw (le-ltb k 0 (omega arith)))

-- one row more, of m places, of which those past the footprint are 0
pub texels-turn : (width t m : ℕ) (f : ℕ → ℕ → ℕ) (lane : ℕ → ℕ) (out q : List ℕ) (o : ℕ) → o ≡ t * width → width ≤ m → ((s : ℕ) → s < width → lane s ≡ f s t)
    → ((s : ℕ) → width ≤ s → s < m → lane s ≡ 0) → out ≡ list_of (texels_to width o f) 0 most_weights → q ≡ put_at lane o m out → q ≡ list_of (texels_to width (o + width) f) 0 most_weights
texels-turn width t m f lane out q o e l here past old h =
    h ∙ rw old (put_at-list_of lane _ _ o m most_weights before (λ s a b. among s a (dec_lt s width)) after)
  where
    before : (i : ℕ) → i < most_weights → i < o → texels_to width o f i ≡ texels_to width (o + width) f i
    before i a b = rw (lt-ltb i o b, lt-ltb i (o + width) (omega arith))

    among : (s : ℕ) → s < m → Dec (s < width) → lane s ≡ texels_to width (o + width) f (o + s)
    among s a (yes b) = rw (lt-ltb (o + s) (o + width) (omega arith), e, digits_mod t b, digits_div t b) (here s b)
    among s a (no b) = rw (le-ltb (o + s) (o + width) (omega arith)) (past s (omega arith) a)

    after : (i : ℕ) → i < most_weights → o + m ≤ i → texels_to width o f i ≡ texels_to width (o + width) f i
    after i a b = rw (le-ltb i o (omega arith), le-ltb i (o + width) (omega arith))

pub texels-end : (g : Grid) (f : ℕ → ℕ → ℕ) (out : List ℕ) (o : ℕ) → o ≡ g.footprint.height * g.footprint.width → out ≡ list_of (texels_to g.footprint.width o f) 0 most_weights → out ≡ texels g f
unfolding texels
texels-end g f out o e h =
    let n : o ≡ texels_of g.footprint = omega arith in
    rw n at h
