use Rattle.std.proofs.Common.{refl, arith}
use Rattle.letter_acts.specs.FrameRows.Frames.{is_old}
use Rattle.path_rows.specs.Versions.{old_part}
use Rattle.nested_itp.specs.NestedPredicates.Walking.{is_bool}
use Rattle.nested_itp.proofs.TripleSteps.BoundLaws.{few_chosen, bounds_twice}
use Rattle.nested_itp.proofs.triple_steps.bounds.old_bounds.Goals as goal

pub overflow_add-result : goal.overflow_add-result
overflow_add-result c = let e = c.bool_old_count-booleans.ensures in let l = few_chosen is_bool (old_part c.args.frame.now) in let m = few_chosen is_old c.args.frame.now in omega (arith, e, l, m)

pub returns : goal.returns
returns c = bounds_twice (old_part c.args.frame.now) c.bool_old_count-booleans.result _ c.bool_old_count-booleans.ensures refl
