use Rattle.std.proofs.Common.{◌∙◌, sym}
use Rattle.nwa_reduce.proofs.ReduceLemmas.{image_reduces, image_trim, merging_total, fewer}
use Rattle.nwa_reduce.proofs.reducing.class_image.Goals as goal

pub returns-then-names-states : goal.returns-then-names-states
returns-then-names-states c = record { trim = c.requires; apart = c.in_ok-names.ensures.whole (c.if-names-states.true ∙ c.states.ensures.value) }

pub returns : goal.returns
returns c =
    let v = c.in_ok-names.ensures in
    let i = c.in_ok-image.ensures in (
      image_reduces c.args.nwa.now c.in_ok-image.field-0 _ _ v.naming i.0 i.1,
      image_trim c.args.nwa.now c.in_ok-image.field-0 _ _ c.states.ensures.valid (merging_total c.args.nwa.now _ _ v) i.0 i.1 c.requires,
      fewer c.args.nwa.now c.in_ok-image.field-0 _ _ v.naming i.1 (λ e. c.if-names-states.false (e ∙ sym c.states.ensures.value)),
    )
