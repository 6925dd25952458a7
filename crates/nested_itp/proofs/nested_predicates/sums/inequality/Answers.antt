use Rattle.std.proofs.Common.{◌≢◌, ◌∙◌, length, Err, ap, rules, FitsSigned}
use Rattle.std.specs.Int.{w128}
use Rattle.std.proofs.lemmas.Int.{to_z-of_z}
use Rattle.nested_itp.proofs.NestedPredicates.SumLaws.{sums_fit, atom_of}
use Rattle.nested_itp.proofs.nested_predicates.sums.inequality.Goals as goal

pub unreachable-requires : goal.unreachable-requires
unreachable-requires c =
    let f : FitsSigned w128 c.args.bound = search rules in
    (simp to_z-of_z at c.row.ensures.past) (c.in-Err-Past.is ∙ ap (λ e. Err e) c.in-Err-Past.field-0-is) (sums_fit c.args.terms.now c.args.bound c.requires.terms c.requires.bound)

pub returns-in-Ok : goal.returns-in-Ok
returns-in-Ok c =
    let f : FitsSigned w128 c.args.bound = search rules in
    let n : length c.args.terms.now ≢ 0 = search rules in
    atom_of c.args.terms.now c.args.bound c.in-Ok.atom n c.requires.terms (simp to_z-of_z at c.in-Ok.ensures.value)
