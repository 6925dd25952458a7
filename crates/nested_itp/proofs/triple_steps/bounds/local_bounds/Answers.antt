use Rattle.std.proofs.Common.{refl, arith}
use Rattle.letter_acts.specs.Frames.{is_local}
use Rattle.path_rows.specs.Versions.{local_columns}
use Rattle.nested_itp.specs.NestedPredicates.Walking.{is_bool}
use Rattle.nested_itp.proofs.TripleSteps.BoundLaws.{few_chosen, bounds_twice}
use Rattle.nested_itp.proofs.triple_steps.bounds.local_bounds.Goals as goal

pub overflow_add-result : goal.overflow_add-result
overflow_add-result c = let e = c.bool_local_count-booleans.ensures in let l = few_chosen is_bool (local_columns c.args.frame.now) in let m = few_chosen is_local c.args.frame.now in omega (arith, e, l, m)

pub returns : goal.returns
returns c = bounds_twice (local_columns c.args.frame.now) c.bool_local_count-booleans.result _ c.bool_local_count-booleans.ensures refl
