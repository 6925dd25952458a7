use Rattle.std.proofs.Common.{refl, arith, rules, FitsSigned}
use Rattle.std.specs.Int.{w128}
use Rattle.std.proofs.lemmas.Int.{to_z-of_z}
use Rattle.nested_itp.proofs.NestedPredicates.RunningLaws.{bound_added}
use Rattle.nested_itp.proofs.nested_predicates.running.Running.add_bound.Goals as goal

pub returns : goal.returns
returns c =
    let f : FitsSigned w128 c.args.number = search rules in
    bound_added c.args.self.now _ c.args.number c.requires.counted (omega (arith, c.if-self-ge-MOST_TERMS.false)) refl (simp to_z-of_z at c.plus-self.ensures.value)
    c.plus-self.ensures.count refl
