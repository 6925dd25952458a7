use Rattle.std.proofs.Common.{length, arith}
use Rattle.letter_acts.proofs.LoopLemmas.{not_so, refuted, slice_from}
use Rattle.letter_acts.proofs.LayoutLemmas.{long_enough, begins_with_globals, olds_stand, frame_by_slices, numbered_by_slices, constants_by_slices}
use Rattle.letter_acts.proofs.checks.frames.is_frame.Goals as goal

pub returns-then-heads-frame : goal.returns-then-heads-frame
returns-then-heads-frame c = not_so _ (λ f. absurd (omega (arith, long_enough c.args.heads.now c.args.frame.now f, c.if-heads-frame.true)))

pub returns-then-not-starts_with_globals : goal.returns-then-not-starts_with_globals
returns-then-not-starts_with_globals c =
    not_so _ (λ f. refuted _ _ c.starts_with_globals.ensures c.if-not-starts_with_globals.true (begins_with_globals c.args.heads.now c.args.frame.now f))

pub returns-in_default : goal.returns-in_default
returns-in_default c =
    not_so _ (olds_stand c.args.heads.now c.args.frame.now _ (slice_from c.args.frame.now (length c.args.heads.now)) c.in_default.ensures)

pub returns-then-are_numbered_locals : goal.returns-then-are_numbered_locals
returns-then-are_numbered_locals c =
    let heads = c.args.heads.now in
    let frame = c.args.frame.now in
    let rest = slice_from frame (length heads) in (
      λ e.
          frame_by_slices heads frame _ _ c.in-Some.count rest (slice_from _ c.in-Some.count) (c.starts_with_globals.ensures.0 c.if-not-starts_with_globals.false) c.in-Some.ensures.1
          (c.are_numbered_locals.ensures.0 c.if-are_numbered_locals.true)
          (c.constants_stand_first.ensures.0 e),
      λ f. c.constants_stand_first.ensures.1 (constants_by_slices heads frame _ _ c.in-Some.count rest (slice_from _ c.in-Some.count) c.in-Some.ensures.1 f),
    )

pub returns-else-are_numbered_locals : goal.returns-else-are_numbered_locals
returns-else-are_numbered_locals c =
    let heads = c.args.heads.now in
    let frame = c.args.frame.now in
    let rest = slice_from frame (length heads) in (
      λ e. absurd (refuted _ _ c.are_numbered_locals.ensures c.if-are_numbered_locals.false (c.are_numbered_locals.ensures.0 e)),
      λ f. c.are_numbered_locals.ensures.1 (numbered_by_slices heads frame _ _ c.in-Some.count rest (slice_from _ c.in-Some.count) c.in-Some.ensures.1 f),
    )
