-- `blend::select_color_byte` meets its contract: the closed form for bytes. Assumes nothing.
use Rattle.blend.specs.BlendLaws.{shares-most, ldr-closed}
use mathlib.Core.Path.{sym}
use native.Mathlib.Omega.{arith}
use Rattle.blend.proofs.select_color_byte.Goals as goal

pub overflow_mul-v : goal.overflow_mul-v
overflow_mul-v c = omega (arith, shares-most c.args.v0 c.args.v1 c.args.weight c.requires.1.1, shares-most c.args.v1 c.args.v0 c.args.weight c.requires.1.1)

pub overflow_mul-v-2 : goal.overflow_mul-v-2
overflow_mul-v-2 c = omega (arith, shares-most c.args.v0 c.args.v1 c.args.weight c.requires.1.1, shares-most c.args.v1 c.args.v0 c.args.weight c.requires.1.1)

pub overflow_add-v : goal.overflow_add-v
overflow_add-v c = omega (arith, shares-most c.args.v0 c.args.v1 c.args.weight c.requires.1.1, shares-most c.args.v1 c.args.v0 c.args.weight c.requires.1.1)

pub overflow_add-result : goal.overflow_add-result
overflow_add-result c = omega (arith, shares-most c.args.v0 c.args.v1 c.args.weight c.requires.1.1, shares-most c.args.v1 c.args.v0 c.args.weight c.requires.1.1)

pub returns : goal.returns
returns c =
    let p = c.requires in
    let a = c.args in
    let e = ldr-closed a.v0 a.v1 a.weight p.0 p.1.0 p.1.1 in
    (sym e, omega (arith, shares-most a.v0 a.v1 a.weight p.1.1))
