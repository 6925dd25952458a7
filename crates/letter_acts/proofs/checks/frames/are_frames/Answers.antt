use Rattle.letter_acts.proofs.FramesLemmas.{frames_share, heads_slice}
use Rattle.letter_acts.proofs.checks.frames.are_frames.Goals as goal

pub returns-in-Some : goal.returns-in-Some
returns-in-Some c =
    frames_share c.args.frames.now c.in-Some.first.now _ _ c.in-Some.ensures.value
    (heads_slice c.count_globals.result c.as_slice-columns.result.now c.in-Some.first.now.columns.items c.count_globals.ensures.value c.as_slice-columns.ensures.value)
    c.share_globals.ensures
