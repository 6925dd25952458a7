use Rattle.std.proofs.Common.{refl, arith}
use Rattle.nested_itp.specs.NestedPredicates.Walking.{is_bool_at}
use Rattle.nested_itp.proofs.TripleSteps.BoundLaws.{few_chosen, bounds_twice_at}
use Rattle.nested_itp.proofs.triple_steps.bounds.bounds_at.Goals as goal

pub overflow_add-result : goal.overflow_add-result
overflow_add-result c = let e = c.bool_count_at-booleans.ensures in let l = few_chosen (is_bool_at c.args.frame.now) c.args.columns.now in omega (arith, e, l)

pub returns : goal.returns
returns c = bounds_twice_at c.args.frame.now c.args.columns.now c.bool_count_at-booleans.result _ c.bool_count_at-booleans.ensures refl
