use Rattle.std.proofs.Common.{ℤ, List, Option, rules, ap, sym, subst, ◌∙◌}
use Rattle.std.specs.Prelude.{IfSome}
use Rattle.std.specs.List.{AllByRecursion}
use Rattle.math_facts.specs.Fits.{Fits}
use Rattle.lin_rows.specs.Rows.{Holds}
use Rattle.lin_rows.specs.Points.{point_of}
use Rattle.letter_acts.specs.Feasible.{IsFeasible}
use Rattle.letter_acts.specs.Invariant.{Graph, alphabet_of}
use Rattle.typed_tree.specs.TypingRules.TypedParts.{typed_program}
use Rattle.path_rows.specs.Paths.{path_of}
use Rattle.trace_replay.specs.declared.failure.Trail.{Trail}
use Rattle.trace_replay.specs.FailureText.{numbers}
use Rattle.trace_replay.specs.Guesses.{IsGuessed}
use Rattle.race_rounds.specs.Ends.{FailsAfter}
use Rattle.race_rounds.proofs.Says.{coarse_by_products, other_run_fails}
use Rattle.race_rounds.proofs.failing.unless_others_fail.Goals as goal

pub returns-in-Some : goal.returns-in-Some
returns-in-Some c = λ n.
    let t = typed_program c.args.program.now in
    let coarse = coarse_by_products t c.args.limits n c.args.word c.args.cause (c.requires.cause n) (sym c.is_by_products.ensures ∙ c.if-not-is_by_products.false) in
    let guessed = subst (λ (o : Option Trail). IfSome o (λ trail. IsGuessed t trail.steps (numbers trail.choices.items))) c.in-Some.is c.in_ok-other.ensures.guessed in
    let fit = subst (λ (o : Option Trail). IfSome o (λ trail. AllByRecursion Fits (numbers trail.choices.items))) c.in-Some.is c.in_ok-other.ensures.fit in (
      search rules,
      subst (λ (g : Graph). IsFeasible (alphabet_of g) c.args.word) c.requires.lowered c.requires.feasible,
      subst (λ (cs : List ℤ). FailsAfter t c.args.word c.in-Some.other.steps cs)
          (sym (c.in_ok-numbers_of-in-Some.ensures ∙ ap numbers c.deref-in-Some.ensures.value))
          (other_run_fails t c.args.word c.args.point.now c.in-Some.other.steps (numbers c.in-Some.other.choices.items)
          (subst (λ (g : Graph). AllByRecursion (Holds (point_of c.args.point.now)) (path_of g c.args.word).rows) c.requires.lowered c.requires.whole.meets) coarse guessed fit),
    )
