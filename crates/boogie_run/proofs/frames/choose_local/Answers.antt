use Rattle.std.proofs.Common.{◌-◌, arith, refl}
use Rattle.std.specs.Vec.{vec_len}
use Rattle.boogie_run.proofs.FitLemmas.{fits_at_point}
use Rattle.boogie_run.proofs.frames.choose_local.Goals as goal

pub returns-in_err-push-clause-fits : goal.returns-in_err-push-clause-fits
returns-in_err-push-clause-fits c =
    let old = c.args.config.now in
    fits_at_point old.program.now old _ (vec_len old.frames - 1) c.in-Some.frame.now _ c.requires (omega (arith, c.requires.runs)) c.in-Some.ensures.value refl refl refl refl

pub returns-in_ok-push-clause-fits : goal.returns-in_ok-push-clause-fits
returns-in_ok-push-clause-fits c =
    let old = c.args.config.now in
    fits_at_point old.program.now old _ (vec_len old.frames - 1) c.in-Some.frame.now _ c.requires (omega (arith, c.requires.runs)) c.in-Some.ensures.value refl refl refl refl
