use Rattle.std.proofs.Common.{ℕ, ℤ, List, Some, sym, ap, subst, ◌∙◌}
use Rattle.std.specs.List.{AllByRecursion}
use Rattle.math_facts.specs.Fits.{Fits}
use Rattle.typed_tree.specs.TypingRules.TypedParts.{typed_program}
use Rattle.trace_replay.specs.Replays.{Replays}
use Rattle.race_core.specs.declared.ends.End.{End}
use Rattle.race_verdicts.specs.Verdicts.{IsFailureBy}
use Rattle.race_verdicts.proofs.FailureLaws.{replays, values_fit, failure}
use Rattle.race_verdicts.proofs.verdicts.verdict_of.Goals as goal

pub failure_of-requires-clause-replays : goal.failure_of-requires-clause-replays
failure_of-requires-clause-replays c =
    subst (λ (xs : List ℤ). (i : ℕ) × Replays (typed_program c.args.program.now) c.in-Some-Unsafe.steps xs i) (sym c.deref.ensures.value)
    (replays (typed_program c.args.program.now) c.requires.race.0 c.requires.race.1 c.args.race.now c.in-Some-Unsafe.field-0-0 c.in-Some-Unsafe.steps c.in-Some-Unsafe.choices
    c.what_fails_when_tried_replays.ensures c.requires.race.2 (sym c.in-Some-Unsafe.ensures ∙ ap (λ (e : End). Some e) c.in-Some-Unsafe.field-0-is))

pub failure_of-requires-clause-fit : goal.failure_of-requires-clause-fit
failure_of-requires-clause-fit c =
    subst (λ (xs : List ℤ). AllByRecursion Fits xs) (sym c.deref.ensures.value)
    (values_fit (typed_program c.args.program.now) c.requires.race.0 c.requires.race.1 c.args.race.now c.in-Some-Unsafe.field-0-0 c.in-Some-Unsafe.steps c.in-Some-Unsafe.choices
    c.requires.race.2 (sym c.in-Some-Unsafe.ensures ∙ ap (λ (e : End). Some e) c.in-Some-Unsafe.field-0-is))

pub returns-in_ok-failure-in-Some-Unsafe : goal.returns-in_ok-failure-in-Some-Unsafe
returns-in_ok-failure-in-Some-Unsafe c =
    failure (typed_program c.args.program.now) c.requires.race.0 c.requires.race.1 c.args.race.now c.in-Some-Unsafe.field-0-0 c.version-rounds.result c.in-Some-Unsafe.steps c.in-Some-Unsafe.choices
    c.in_ok-failure-in-Some-Unsafe.failure c.requires.race.2 (sym c.in-Some-Unsafe.ensures ∙ ap (λ (e : End). Some e) c.in-Some-Unsafe.field-0-is) c.version-rounds.ensures
    (subst (λ (xs : List ℤ). IsFailureBy (typed_program c.args.program.now) c.version-rounds.result c.in-Some-Unsafe.steps xs c.in_ok-failure-in-Some-Unsafe.failure) c.deref.ensures.value c.in_ok-failure-in-Some-Unsafe.ensures)
