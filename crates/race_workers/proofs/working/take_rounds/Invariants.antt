use Rattle.std.specs.Prelude.{IfSome}
use Rattle.typed_tree.specs.TypingRules.TypedParts.{typed_program}
use Rattle.race_rounds.specs.Rounds.{IsOwn}
use Rattle.race_workers.specs.Ties.Parts.{IsPassAt}
use Rattle.race_workers.proofs.working.take_rounds.Given as goal

abbrev pub invariant-loop : goal.invariant-loop
invariant-loop g l =
    (goal.iterator-loop g).can_next l.iterator' × (goal.iterator-loop g).is_finite l.iterator'
    × IsPassAt l.job.cell.now (typed_program l.job.program.now) l.job.limits l.initial.pass.shares l.pass
    × IfSome l.carried (IsOwn (typed_program l.job.program.now))
