use Rattle.automizer_top.proofs.AgreeLaws.{never_both, without_error_words}
use Rattle.automizer_top.proofs.running.verdicts_agree.Goals as goal

pub returns-clause-one : goal.returns-clause-one
returns-clause-one c = never_both c.certified_words_are_infeasible.ensures

pub returns-clause-at_once : goal.returns-clause-at_once
returns-clause-at_once c = without_error_words
