use Rattle.std.proofs.Common.{codes, inl, inr}
use Rattle.trace_replay.proofs.Stripped.{stripped, not_in_front}
use Rattle.rank_lasso.specs.Lines.{IsFaultIn, IsEndingFault, GoesOn, rank_ending, excluded_ending}
use Rattle.rank_lasso.proofs.KindLaws.{of_error, no_rank_there, no_exclusion_there}
use Rattle.rank_lasso.proofs.ranking_lines.ending.Goals as goal

pub returns-in-Some-clause-fault : goal.returns-in-Some-clause-fault
returns-in-Some-clause-fault c =
    of_error (IsFaultIn 4 GoesOn excluded_ending c.args.text.now) (IsEndingFault c.args.text.now) c.excluded_ending.result
    (λ e h. inr (h, no_rank_there c.args.text.now c.in-Some.field-0.now (stripped (codes "excluded") c.args.text.now c.in-Some.field-0.now c.in-Some.ensures.cases))) c.excluded_ending.ensures.fault

pub returns-in-None-clause-fault : goal.returns-in-None-clause-fault
returns-in-None-clause-fault c =
    of_error (IsFaultIn 4 GoesOn rank_ending c.args.text.now) (IsEndingFault c.args.text.now) c.rank_ending.result
    (λ e h. inl (h, no_exclusion_there c.args.text.now (not_in_front (codes "excluded") c.args.text.now c.in-None.ensures.cases))) c.rank_ending.ensures.fault
