use Rattle.std.proofs.Common.{◌-◌, ◌∙◌, ap, sym, slice_get, arith, refl}
use Rattle.std.specs.Vec.{vec_len}
use Rattle.typed_tree.specs.TypingRules.TypedParts.{typed_program}
use Rattle.boogie_run.specs.BoogiePoints.Actions.{action_at}
use Rattle.boogie_run.specs.BoogiePoints.Told.{ways_of}
use Rattle.boogie_run.specs.BoogiePoints.View.{point_of}
use Rattle.boogie_run.specs.Configurations.{Frame, Config}
use Rattle.boogie_run.specs.RunView.{config_of}
use Rattle.boogie_run.specs.Steps.{Went}
use Rattle.boogie_run.specs.ToldActs.{kept_on_if}
use Rattle.boogie_run.proofs.FitLemmas.{top_room, fits_with_top}
use Rattle.boogie_run.proofs.FrameLemmas.{same_top, top_is}
use Rattle.boogie_run.proofs.TopSteps.{changed_top}
use Rattle.boogie_run.proofs.frames.go_keeping.Goals as goal

pub go_on-requires-clause-room : goal.go_on-requires-clause-room
go_on-requires-clause-room c =
    let old = c.args.config.now in
    top_room (typed_program old.program.now) old.globals.items old.frames.items (vec_len old.frames - 1) c.in-Some.frame.now (omega (arith, c.requires.fits.runs)) c.in-Some.ensures.value
    c.requires.fits.room

pub returns-in-Some-clause-fits : goal.returns-in-Some-clause-fits
returns-in-Some-clause-fits c =
    let old = c.args.config.now in
    fits_with_top old.program.now old _ (vec_len old.frames - 1) _ c.requires.fits (omega (arith, c.requires.fits.runs)) c.go_on.ensures.room refl refl refl

pub returns-in-Some-clause-kept : goal.returns-in-Some-clause-kept
returns-in-Some-clause-kept c e =
    let old = c.args.config.now in
    same_top old.globals.items old.frames.items (vec_len old.frames - 1) c.in-Some.frame.now _ (omega (arith, c.requires.fits.runs)) c.in-Some.ensures.value (cc (c.go_on.ensures.kept e))

pub returns-in-Some-clause-went : goal.returns-in-Some-clause-went
returns-in-Some-clause-went c e =
    let old = c.args.config.now in
    let n = vec_len old.frames - 1 in
    let there = top_is old.globals.items old.frames.items n c.in-Some.frame.now (omega (arith, c.requires.fits.runs)) c.in-Some.ensures.value in
    ap (λ o. kept_on_if o (config_of old)) (ap (λ (x : Frame). slice_get (ways_of (action_at (typed_program old.program.now) x.proc x.point)) c.args.way) there ∙ c.go_on.ensures.ok e)
    ∙ ap (λ (x : Config). Went x) (sym (changed_top old.globals.items old.frames.items n c.in-Some.frame.now _ (λ (f : Frame). record f { point = point_of c.go_on.new.point }) (omega (arith, c.requires.fits.runs)) c.in-Some.ensures.value refl))
