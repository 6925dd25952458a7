use Rattle.std.proofs.Common.{◌-◌, [], ap, sym, arith, refl}
use Rattle.std.specs.Vec.{vec_len}
use Rattle.boogie_run.specs.Configurations.{Frame}
use Rattle.boogie_run.proofs.FrameLemmas.{top_is}
use Rattle.boogie_run.proofs.FitLemmas.{fits_at_point}
use Rattle.boogie_run.proofs.TopSteps.{changed_top}
use Rattle.boogie_run.proofs.frames.take_kept.Goals as goal

pub returns-in-Some-clause-kept : goal.returns-in-Some-clause-kept
returns-in-Some-clause-kept c =
    let old = c.args.config.now in
    rw c.replace.ensures.value (ap (λ (f : Frame). f.kept) (sym (top_is old.globals.items old.frames.items (vec_len old.frames - 1) c.in-Some.frame.now (omega (arith, c.requires.runs)) c.in-Some.ensures.value)))

pub returns-in-Some-clause-fits : goal.returns-in-Some-clause-fits
returns-in-Some-clause-fits c =
    let old = c.args.config.now in
    fits_at_point old.program.now old _ (vec_len old.frames - 1) c.in-Some.frame.now _ c.requires (omega (arith, c.requires.runs)) c.in-Some.ensures.value refl refl refl refl

pub returns-in-Some-clause-value : goal.returns-in-Some-clause-value
returns-in-Some-clause-value c =
    let old = c.args.config.now in
    changed_top old.globals.items old.frames.items (vec_len old.frames - 1) c.in-Some.frame.now _ (λ (f : Frame). record f { kept = [] }) (omega (arith, c.requires.runs)) c.in-Some.ensures.value
    (cc (c.replace.ensures.after, c.new.ensures.items))
