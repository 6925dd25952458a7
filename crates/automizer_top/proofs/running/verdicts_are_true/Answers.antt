use Rattle.automizer_top.proofs.AgreeLaws.{safe_is_true, unsafe_is_true}
use Rattle.automizer_top.proofs.ConfirmedLaws.{verdict_told}
use Rattle.automizer_top.proofs.running.verdicts_are_true.Goals as goal

pub returns-clause-told : goal.returns-clause-told
returns-clause-told c = verdict_told

pub returns-clause-safe : goal.returns-clause-safe
returns-clause-safe c = safe_is_true c.certified_words_are_infeasible.ensures c.lowering_is_faithful.ensures

pub returns-clause-fails : goal.returns-clause-fails
returns-clause-fails c = unsafe_is_true c.what_replays_fails.ensures
