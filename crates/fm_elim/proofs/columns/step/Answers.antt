use Rattle.fm_elim.specs.Answers.{eliminated_of}
use Rattle.fm_elim.specs.Columns.{is_pivot}
use Rattle.fm_elim.proofs.StepLemmas.{found_passes, step_bounded}
use Rattle.fm_elim.proofs.columns.step.Goals as goal

pub by_equality-requires : goal.by_equality-requires
by_equality-requires c = found_passes (is_pivot c.args.column) c.args.rows.items c.in-Some.equality c.in-Some.ensures.0

pub returns-in_ok-all_halved-in-None : goal.returns-in_ok-all_halved-in-None
returns-in_ok-all_halved-in-None c =
    step_bounded c.args.column c.args.rows.items c.take_pivot.new.rows.items c.in_ok-all_halved-in-None.field-0.items eliminated_of c.by_pairs.result
    c.in-None.ensures.0 c.in-None.ensures.1 c.in_ok-all_halved-in-None.ensures c.by_pairs.ensures
