-- Each number is that of the endpoints picked.
use Rattle.endpoints_colours.specs.declared.Endpoints.{Endpoints}
use Rattle.texels.specs.KindLaws.{either-field}
use Rattle.texels_ldr.specs.LdrLaws.{numbers_of}
use Rattle.texels_ldr.proofs.either_of.Goals as goal

pub returns : goal.returns
returns c =
    let a = c.args in
    numbers_of _ c.requires
    (either-field (λ (e : Endpoints). e.r0) a.p a.a a.b c.either.ensures)
    (either-field (λ (e : Endpoints). e.g0) a.p a.a a.b c.either-2.ensures)
    (either-field (λ (e : Endpoints). e.b0) a.p a.a a.b c.either-3.ensures)
    (either-field (λ (e : Endpoints). e.a0) a.p a.a a.b c.either-4.ensures)
    (either-field (λ (e : Endpoints). e.r1) a.p a.a a.b c.either-5.ensures)
    (either-field (λ (e : Endpoints). e.g1) a.p a.a a.b c.either-6.ensures)
    (either-field (λ (e : Endpoints). e.b1) a.p a.a a.b c.either-7.ensures)
    (either-field (λ (e : Endpoints). e.a1) a.p a.a a.b c.either-8.ensures)
