-- A shape tells its bounds: what a check gives for a shape and a number is one.
-- Assumes nothing.
use Rattle.std.specs.Prelude.{◌≡◌, Result, Ok, Err, IfOk}
use Rattle.std.proofs.Common.{sym, ap, ◌∙◌, subst, arith}
use Rattle.std.proofs.Math.Bool.{Bool-set}
use Rattle.std.proofs.Math.Bridge.{le_prop}
use Rattle.answers.specs.ResultLaws.{refusal-least, one-refusal}
use Rattle.answers.specs.declared.Refusal.{Refusal}
use Rattle.image_shape.specs.Shapes.{checked}
use Rattle.image_shape.specs.ShapeLaws.{ShapeBounds}
use Rattle.image_shape.specs.declared.Shape.{Shape}
use Rattle.image_shape.specs.declared.Bounded.{Bounded}

bounds-prop : (m : Shape) → IsProp (ShapeBounds m)
bounds-prop m = hlevel (le_prop, Bool-set)

one-bounded : (s t : Shape) (b : ShapeBounds s) (c : ShapeBounds t) → s ≡ t → ◌≡◌ {A = Bounded} (record { shape = s; bounds = b }) (record { shape = t; bounds = c })
one-bounded s t b c e =
    subst (λ (u : Shape). (d : ShapeBounds u) → ◌≡◌ {A = Bounded} (record { shape = s; bounds = b }) (record { shape = u; bounds = d })) e
    (λ d. ap (λ (x : ShapeBounds s). record { shape = s; bounds = x }) (bounds-prop s b d)) c

pub one-checked : (m : Shape) (a b : Result Bounded Refusal) → checked a ≡ checked b → IfOk a (λ x. x.shape ≡ m) → IfOk b (λ x. x.shape ≡ m) → a ≡ b
one-checked m (Ok x) (Ok y) h p q = ap (λ (z : Bounded). Ok z) (one-bounded x.shape y.shape x.bounds y.bounds (p ∙ sym q))
one-checked m (Ok x) (Err e) h p q = absurd (omega (arith, refusal-least e))
one-checked m (Err e) (Ok y) h p q = absurd (omega (arith, refusal-least e))
one-checked m (Err d) (Err e) h p q = ap (λ (x : Refusal). Err x) (one-refusal d e h)
