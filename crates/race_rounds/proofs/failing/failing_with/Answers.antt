use Rattle.std.proofs.Common.{ℤ, List, rules, ap, sym, subst, ◌∙◌}
use Rattle.std.specs.List.{AllByRecursion}
use Rattle.nwa_base.specs.declared.letters.Letter.{Letter}
use Rattle.lin_rows.specs.Rows.{LinearRow, Holds}
use Rattle.lin_rows.specs.Points.{point_of}
use Rattle.letter_acts.specs.Feasible.{IsFeasible}
use Rattle.letter_acts.specs.Invariant.{Graph, alphabet_of}
use Rattle.typed_tree.specs.TypingRules.TypedParts.{typed_program}
use Rattle.path_rows.specs.Paths.{path_of}
use Rattle.trace_replay.specs.FailureText.{numbers}
use Rattle.race_rounds.specs.Ends.{FailsAfter}
use Rattle.race_rounds.proofs.Says.{told_run_fails}
use Rattle.race_rounds.proofs.failing.failing_with.Goals as goal

pub returns-in_ok-numbers_of-in-Ok : goal.returns-in_ok-numbers_of-in-Ok
returns-in_ok-numbers_of-in-Ok c = λ n.
    let t = typed_program c.args.program.now in
    let point = point_of c.args.numbers.now in
    let meets : AllByRecursion (Holds point) c.args.path.now.rows = c.if-not-are_met.ensures.meets (search rules) in
    let of_path = subst (λ (rows : List LinearRow). AllByRecursion (Holds point) rows) c.requires.path.rows meets in
    let of_word = subst (λ (w : List Letter). AllByRecursion (Holds point) (path_of c.args.icfg.now w).rows) c.requires.word of_path in (
      c.in_ok-copy-in-Ok.ensures,
      subst (λ (g : Graph). IsFeasible (alphabet_of g) c.args.word.now) c.requires.lowered (c.requires.exact point meets),
      subst (λ (cs : List ℤ). FailsAfter t c.args.word.now c.in-Ok.found.steps cs)
          (sym (c.in_ok-numbers_of-in-Ok.ensures ∙ ap numbers c.deref.ensures.value))
          (told_run_fails t c.args.word.now c.args.numbers.now c.in-Ok.found.steps (numbers c.in-Ok.found.choices.items) c.fronts_fail_alone.ensures
          (subst (λ (g : Graph). AllByRecursion (Holds point) (path_of g c.args.word.now).rows) c.requires.lowered of_word)
          c.in-Ok.ensures.told c.in-Ok.ensures.fit),
    )
