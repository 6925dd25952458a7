use Rattle.std.proofs.Common.{◌≡◌, Err, refl}
use Rattle.modular_cut.specs.declared.cutting.CutFault.TheVariants.{Free}
use Rattle.automizer_top.proofs.parts.parts_of.Goals as goal

pub returns-in-Ok : goal.returns-in-Ok
returns-in-Ok c = record { value = c.in-Ok.ensures.parts; none_free = c.in-Ok.ensures.none_free; suffice = c.in-Ok.ensures.safe }

pub returns-in-Err-Free : goal.returns-in-Err-Free
returns-in-Err-Free c =
    let refused : c.cut.result ≡ Err (Free c.in-Err-Free.at) = cc in
    (c.in-Err-Free.at, c.cut.ensures.free c.in-Err-Free.at refused, refl)
