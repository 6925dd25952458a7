use Rattle.std.proofs.Common.{refl, map}
use Rattle.typed_tree.specs.TypedView.{expression}
use Rattle.typed_tree.specs.TypingRules.TypedParts.{typed_program}
use Rattle.boogie_run.specs.Configurations.{state_of}
use Rattle.boogie_run.specs.RunView.{config_of}
use Rattle.boogie_run.specs.Steps.{values}
use Rattle.boogie_run.proofs.TopSteps.{entered_on}
use Rattle.boogie_run.proofs.FitLemmas.{fits_pushed}
use Rattle.boogie_run.proofs.calls.enter.Goals as goal

pub returns-clause-answer : goal.returns-clause-answer
returns-clause-answer c =
    let old = c.args.config.now in (
      (rw c.env.ensures at c.in_ok-locals.ensures.fit) refl,
      entered_on (typed_program old.program.now) old.globals.items old.frames.items _ _ c.args.callee (values (state_of (config_of old)) (map expression c.args.args.now)) c.requires.fits.runs c.in_ok-push.ensures.items
          (cc ((rw c.env.ensures at c.in_ok-locals.ensures.ok), c.in_ok-at_entry.ensures.items, c.deref.ensures.value, c.in_ok-point.ensures.point, c.new.ensures.items)),
    )

pub returns-clause-fits : goal.returns-clause-fits
returns-clause-fits c =
    let old = c.args.config.now in
    fits_pushed old.program.now old _ _ c.requires.fits c.in_ok-point.ensures.room refl refl refl c.in_ok-push.ensures.items
