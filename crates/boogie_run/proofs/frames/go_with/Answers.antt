use Rattle.std.proofs.Common.{◌-◌, rules, arith, refl}
use Rattle.std.specs.Vec.{vec_len}
use Rattle.typed_tree.specs.TypingRules.TypedParts.{typed_program}
use Rattle.boogie_run.proofs.FrameLemmas.{same_top, taken_back}
use Rattle.boogie_run.proofs.FitLemmas.{top_room, fits_with_top, fits_at_point}
use Rattle.boogie_run.proofs.frames.go_with.Goals as goal

pub returns-in_err-push-clause-fits : goal.returns-in_err-push-clause-fits
returns-in_err-push-clause-fits c =
    let old = c.args.config.now in
    fits_at_point old.program.now old _ (vec_len old.frames - 1) c.in-Some.frame.now _ c.requires.fits (omega (arith, c.requires.fits.runs)) c.in-Some.ensures.value refl refl refl refl

pub go_on-gone-requires-clause-room : goal.go_on-gone-requires-clause-room
go_on-gone-requires-clause-room c =
    let old = c.args.config.now in
    top_room (typed_program old.program.now) old.globals.items old.frames.items (vec_len old.frames - 1) c.in-Some.frame.now (omega (arith, c.requires.fits.runs)) c.in-Some.ensures.value c.requires.fits.room

pub returns-then-is_err-clause-kept : goal.returns-then-is_err-clause-kept
returns-then-is_err-clause-kept c _ =
    let old = c.args.config.now in
    let back = taken_back c.in-Some.frame.now.kept.items c.push.new.self.items c.pop.new.self.items _ (vec_len c.push.new.self) c.in_ok-push.ensures.items (omega arith) c.pop.ensures.rest in
    let there = c.go_on-gone.ensures.kept (search rules) in
    same_top old.globals.items old.frames.items (vec_len old.frames - 1) c.in-Some.frame.now _ (omega (arith, c.requires.fits.runs)) c.in-Some.ensures.value (cc (there, back))

pub returns-then-is_err-clause-fits : goal.returns-then-is_err-clause-fits
returns-then-is_err-clause-fits c =
    let old = c.args.config.now in
    fits_with_top old.program.now old _ (vec_len old.frames - 1) _ c.requires.fits (omega (arith, c.requires.fits.runs)) c.go_on-gone.ensures.room refl refl refl

pub returns-clause-fits : goal.returns-clause-fits
returns-clause-fits c =
    let old = c.args.config.now in
    fits_with_top old.program.now old _ (vec_len old.frames - 1) _ c.requires.fits (omega (arith, c.requires.fits.runs)) c.go_on-gone.ensures.room refl refl refl
