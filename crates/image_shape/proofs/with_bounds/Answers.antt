-- A listed footprint and two sides of an image are within bounds.
use Rattle.image_shape.specs.ShapeLaws.{bounded_of}
use mathlib.Core.Path.{sym, ◌∙◌}
use Rattle.image_shape.proofs.with_bounds.Goals as goal

pub invariant_of-result : goal.invariant_of-result
invariant_of-result c = record {
  bounds = bounded_of _ (sym c.is_listed.ensures ∙ c.if-not-is_listed.false) (sym c.is_side.ensures ∙ c.if-not-is_side.false) (sym c.is_side-else-not-is_side.ensures ∙ c.if-not-is_side-2.false);
}
