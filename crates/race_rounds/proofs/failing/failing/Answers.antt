use Rattle.std.proofs.Common.{ℤ, List, rules, ap, sym, subst, ◌∙◌}
use Rattle.std.specs.List.{AllByRecursion}
use Rattle.lin_rows.specs.Rows.{Holds}
use Rattle.lin_rows.specs.Points.{point_of}
use Rattle.letter_acts.specs.Feasible.{IsFeasible}
use Rattle.letter_acts.specs.Invariant.{Graph, alphabet_of}
use Rattle.typed_tree.specs.TypingRules.TypedParts.{typed_program}
use Rattle.path_rows.specs.Paths.{path_of}
use Rattle.trace_replay.specs.FailureText.{numbers}
use Rattle.trace_replay.specs.declared.causes.ReplayFault.{ReplayFault}
use Rattle.trace_replay.specs.ToldRuns.{IsToldFault}
use Rattle.race_rounds.specs.Ends.{FailsAfter}
use Rattle.race_rounds.proofs.Says.{fault_says, told_run_fails}
use Rattle.race_rounds.proofs.failing.failing.Goals as goal

pub returns-in_ok-numbers_of-in-Ok : goal.returns-in_ok-numbers_of-in-Ok
returns-in_ok-numbers_of-in-Ok c = λ n. (
  search rules,
  subst (λ (g : Graph). IsFeasible (alphabet_of g) c.args.word) c.requires.lowered c.requires.feasible,
  subst (λ (cs : List ℤ). FailsAfter (typed_program c.args.program.now) c.args.word c.in-Ok.trail.steps cs)
      (sym (c.in_ok-numbers_of-in-Ok.ensures ∙ ap numbers c.deref.ensures.value))
      (told_run_fails (typed_program c.args.program.now) c.args.word c.args.point.now c.in-Ok.trail.steps (numbers c.in-Ok.trail.choices.items) c.fronts_fail_alone.ensures
      (subst (λ (g : Graph). AllByRecursion (Holds (point_of c.args.point.now)) (path_of g c.args.word).rows) c.requires.lowered c.requires.whole.meets)
      c.in-Ok.ensures.told c.in-Ok.ensures.fit),
)

pub unless_others_fail-requires-clause-cause : goal.unless_others_fail-requires-clause-cause
unless_others_fail-requires-clause-cause c = λ n.
    let h = subst (λ (f : ReplayFault). IsToldFault (typed_program c.args.program.now) (point_of c.args.point.now) c.args.word f) c.in-Err-At.field-0-is c.in-Err-At.ensures.fault in
    fault_says (typed_program c.args.program.now) c.args.icfg.now c.args.limits n c.args.word c.args.point.now c.in-Err-At.field-0-0 c.in-Err-At.cause c.cause_of.result c.requires.lowered
    c.requires.whole.decided c.cause_of.ensures.number c.cause_of.ensures.product h
