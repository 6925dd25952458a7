use Rattle.std.proofs.Common.{◌-◌, ap, sym, ◌∙◌, arith, refl}
use Rattle.std.specs.Vec.{vec_len}
use Rattle.typed_tree.specs.TypingRules.TypedParts.{typed_program}
use Rattle.boogie_run.specs.BoogiePoints.Points.{settled, past_first}
use Rattle.boogie_run.specs.Configurations.{Frame}
use Rattle.boogie_run.proofs.FrameLemmas.{top_is, moved_top}
use Rattle.boogie_run.proofs.FitLemmas.{top_room, fits_with_top}
use Rattle.boogie_run.proofs.frames.pass.Goals as goal

pub pass_call-requires : goal.pass_call-requires
pass_call-requires c =
    let old = c.args.config.now in
    record { room = top_room (typed_program old.program.now) old.globals.items old.frames.items (vec_len old.frames - 1) c.in-Some.frame.now (omega (arith, c.requires.runs)) c.in-Some.ensures.value c.requires.room }

pub returns-in-Some-clause-value : goal.returns-in-Some-clause-value
returns-in-Some-clause-value c =
    let old = c.args.config.now in
    let here = top_is old.globals.items old.frames.items (vec_len old.frames - 1) c.in-Some.frame.now (omega (arith, c.requires.runs)) c.in-Some.ensures.value in
    let there = c.pass_call.ensures.passed ∙ ap (λ (f : Frame). settled (past_first (typed_program old.program.now).procs f.point.todo)) (sym here) in
    moved_top old.globals.items old.frames.items (vec_len old.frames - 1) c.in-Some.frame.now _ _ (omega (arith, c.requires.runs)) c.in-Some.ensures.value (cc (there, c.clear.ensures.items))

pub returns-in-Some-clause-fits : goal.returns-in-Some-clause-fits
returns-in-Some-clause-fits c =
    let old = c.args.config.now in
    fits_with_top old.program.now old _ (vec_len old.frames - 1) _ c.requires (omega (arith, c.requires.runs)) c.pass_call.ensures.room refl refl refl
