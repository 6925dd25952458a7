use Rattle.automizer_top.proofs.PartConfirmed.{parts_told}
use Rattle.automizer_top.proofs.PartTruth.{parts_are_safe, part_fails}
use Rattle.automizer_top.proofs.running.part_verdicts_are_true.Goals as goal

pub returns-clause-told : goal.returns-clause-told
returns-clause-told c = parts_told

pub returns-clause-safe : goal.returns-clause-safe
returns-clause-safe c = parts_are_safe c.certified_words_are_infeasible.ensures c.lowering_is_faithful.ensures

pub returns-clause-fails : goal.returns-clause-fails
returns-clause-fails c = part_fails c.what_replays_fails.ensures
