use Rattle.std.proofs.Common.{refl}
use Rattle.nwa_reduce.proofs.ReduceLemmas.{folding_reduces, image_trim}
use Rattle.nwa_reduce.proofs.reducing.folding_of.Goals as goal

pub returns : goal.returns
returns c =
    let v = c.in_ok-names.ensures in
    let i = c.in_ok-folding.ensures in (
      folding_reduces c.args.nwa.now c.in_ok-folding.folding _ _ c.states.ensures.valid v.0 i.0 i.1 (c.if-not-is_folding.ensures refl),
      image_trim c.args.nwa.now c.in_ok-folding.folding _ _ c.states.ensures.valid v.0 i.0 i.1 c.requires,
    )
