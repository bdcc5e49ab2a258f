-- Each number is that of the endpoints picked.
use Rattle.endpoints_colours.specs.declared.Endpoints.{Endpoints}
use Rattle.texels.specs.KindLaws.{any_field}
use Rattle.texels_ldr.specs.LdrLaws.{numbers_of}
use Rattle.texels_ldr.proofs.any_of.Goals as goal

pub returns : goal.returns
returns c =
    let a = c.args in
    let h = c.requires.0 in
    numbers_of _ c.requires.1
    (any_field (λ (e : Endpoints). e.r0) a.p a.a a.b a.c a.d h c.any.ensures)
    (any_field (λ (e : Endpoints). e.g0) a.p a.a a.b a.c a.d h c.any-2.ensures)
    (any_field (λ (e : Endpoints). e.b0) a.p a.a a.b a.c a.d h c.any-3.ensures)
    (any_field (λ (e : Endpoints). e.a0) a.p a.a a.b a.c a.d h c.any-4.ensures)
    (any_field (λ (e : Endpoints). e.r1) a.p a.a a.b a.c a.d h c.any-5.ensures)
    (any_field (λ (e : Endpoints). e.g1) a.p a.a a.b a.c a.d h c.any-6.ensures)
    (any_field (λ (e : Endpoints). e.b1) a.p a.a a.b a.c a.d h c.any-7.ensures)
    (any_field (λ (e : Endpoints). e.a1) a.p a.a a.b a.c a.d h c.any-8.ensures)
