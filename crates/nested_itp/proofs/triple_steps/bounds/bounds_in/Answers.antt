use Rattle.std.proofs.Common.{refl, arith}
use Rattle.nested_itp.specs.NestedPredicates.Walking.{is_bool}
use Rattle.nested_itp.proofs.TripleSteps.BoundLaws.{few_chosen, bounds_twice}
use Rattle.nested_itp.proofs.triple_steps.bounds.bounds_in.Goals as goal

pub overflow_add-result : goal.overflow_add-result
overflow_add-result c = let e = c.bool_count-booleans.ensures in let l = few_chosen is_bool c.args.frame.now in omega (arith, e, l)

pub returns : goal.returns
returns c = bounds_twice c.args.frame.now c.bool_count-booleans.result _ c.bool_count-booleans.ensures refl
