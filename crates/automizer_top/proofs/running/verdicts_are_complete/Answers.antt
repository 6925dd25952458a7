use Rattle.automizer_top.proofs.CompleteLaws.{never_rounds, never_whole}
use Rattle.automizer_top.proofs.running.verdicts_are_complete.Goals as goal

pub returns-clause-rounds : goal.returns-clause-rounds
returns-clause-rounds c = never_rounds c.rounds_are_enough.ensures

pub returns-clause-whole : goal.returns-clause-whole
returns-clause-whole c = never_whole
