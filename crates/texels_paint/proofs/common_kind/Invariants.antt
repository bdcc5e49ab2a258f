-- The partitions before p are of the first one's kind.
use Rattle.texels.specs.Kinds.{AllOf, kind_in}
use Rattle.texels_paint.proofs.common_kind.Given as goal

abbrev pub invariant-loop-p : goal.invariant-loop-p
invariant-loop-p l = AllOf (kind_in l.kind) l.p l.d.endpoints
