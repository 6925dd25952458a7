use Rattle.std.proofs.Common.{◌≡◌, ◌-◌, rules, arith, refl}
use Rattle.std.specs.Vec.{vec_len}
use Rattle.boogie_run.proofs.FrameLemmas.{same_top, taken_back}
use Rattle.boogie_run.proofs.FitLemmas.{fits_at_point}
use Rattle.boogie_run.proofs.frames.choose_global.Goals as goal

pub returns-in_err-push-clause-fits : goal.returns-in_err-push-clause-fits
returns-in_err-push-clause-fits c =
    let old = c.args.config.now in
    fits_at_point old.program.now old _ (vec_len old.frames - 1) c.in-Some.frame.now _ c.requires (omega (arith, c.requires.runs)) c.in-Some.ensures.value refl refl refl refl

pub returns-then-is_err-clause-kept : goal.returns-then-is_err-clause-kept
returns-then-is_err-clause-kept c _ =
    let old = c.args.config.now in
    let back = taken_back c.in-Some.frame.now.entry.items c.push.new.self.items c.pop.new.self.items _ (vec_len c.push.new.self) c.in_ok-push.ensures.items (omega arith) c.pop.ensures.rest in
    let same : c.push-2.new.self.items ≡ old.globals.items = search rules in
    rw same (same_top old.globals.items old.frames.items (vec_len old.frames - 1) c.in-Some.frame.now _ (omega (arith, c.requires.runs)) c.in-Some.ensures.value (cc back))

pub returns-then-is_err-clause-fits : goal.returns-then-is_err-clause-fits
returns-then-is_err-clause-fits c =
    let old = c.args.config.now in
    fits_at_point old.program.now old _ (vec_len old.frames - 1) c.in-Some.frame.now _ c.requires (omega (arith, c.requires.runs)) c.in-Some.ensures.value refl refl refl refl

pub returns-clause-fits : goal.returns-clause-fits
returns-clause-fits c =
    let old = c.args.config.now in
    fits_at_point old.program.now old _ (vec_len old.frames - 1) c.in-Some.frame.now _ c.requires (omega (arith, c.requires.runs)) c.in-Some.ensures.value refl refl refl refl
