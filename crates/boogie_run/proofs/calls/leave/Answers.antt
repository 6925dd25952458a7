use Rattle.std.proofs.Common.{◌≡◌, ◌∙◌, ℤ, List, ap, arith, refl}
use Rattle.typed_tree.specs.TypingRules.TypedParts.{typed_program}
use Rattle.boogie_run.specs.Steps.{left, Went}
use Rattle.boogie_run.specs.RunView.{frames_of, config_with, config_of}
use Rattle.boogie_run.specs.StepView.{returned}
use Rattle.boogie_run.proofs.FitLemmas.{fits_popped}
use Rattle.boogie_run.proofs.Leaving.{first_frame, left_below}
use Rattle.boogie_run.proofs.calls.leave.Goals as goal

pub returns-then-len-lt2-clause-answer : goal.returns-then-len-lt2-clause-answer
returns-then-len-lt2-clause-answer c =
    let old = c.args.config.now in
    let none = first_frame old.globals.items old.frames.items (omega arith) in
    (tt, rw none refl)

pub take_results-requires : goal.take_results-requires
take_results-requires c =
    let old = c.args.config.now in
    record { fits = fits_popped old.program.now old _ c.in-Some.done c.requires.fits (omega (arith, c.in-Some.ensures.cases)) refl refl c.in-Some.ensures.items }

pub returns-clause-answer : goal.returns-clause-answer
returns-clause-answer c =
    let old = c.args.config.now in
    let t = typed_program old.program.now in
    let e : left t (config_of old) (config_of old).below ≡ Went (config_of c.take_results.new.config) =
    left_below t old.globals.items old.frames.items c.pop.new.self.items c.in-Some.done (config_of c.take_results.new.config) c.in-Some.ensures.items
    (omega (arith, c.in-Some.ensures.cases))
    (c.take_results.ensures.value ∙ ap (λ (zs : List ℤ). returned t (config_with old.globals.items (frames_of c.pop.new.self.items)) zs) c.results.ensures) in
    (tt, rw e refl)
