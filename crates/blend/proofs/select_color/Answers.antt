-- `blend::select_color` meets its contract: the sum is below 64 times the larger endpoint. Assumes nothing.
use Rattle.blend.specs.BlendLaws.{shares-most, ldr-is}
use native.Mathlib.Omega.{arith}
use Rattle.blend.proofs.select_color.Goals as goal

pub overflow_mul-c : goal.overflow_mul-c
overflow_mul-c c = omega (arith, shares-most c.expanded-x0.result c.expanded-x1.result c.args.weight c.requires.1.1)

pub overflow_mul-c-2 : goal.overflow_mul-c-2
overflow_mul-c-2 c = omega (arith, shares-most c.expanded-x0.result c.expanded-x1.result c.args.weight c.requires.1.1)

pub overflow_add-c : goal.overflow_add-c
overflow_add-c c = omega (arith, shares-most c.expanded-x0.result c.expanded-x1.result c.args.weight c.requires.1.1)

pub overflow_add-c-2 : goal.overflow_add-c-2
overflow_add-c-2 c = omega (arith, shares-most c.expanded-x0.result c.expanded-x1.result c.args.weight c.requires.1.1)

pub overflow_mul-result : goal.overflow_mul-result
overflow_mul-result c = omega (arith, shares-most c.expanded-x0.result c.expanded-x1.result c.args.weight c.requires.1.1)

pub overflow_add-result : goal.overflow_add-result
overflow_add-result c = omega (arith, shares-most c.expanded-x0.result c.expanded-x1.result c.args.weight c.requires.1.1)

pub returns : goal.returns
returns c = search ldr-is
