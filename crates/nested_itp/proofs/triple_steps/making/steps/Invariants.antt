use Rattle.nested_itp.proofs.TripleSteps.StepLaws.{StepsRead}
use Rattle.nested_itp.proofs.triple_steps.making.steps.Given as goal

abbrev pub invariant-loop-i : goal.invariant-loop-i
invariant-loop-i l = StepsRead l.icfg l.path.word l.total l.i l.reading l.steps.items
