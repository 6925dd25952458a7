use Rattle.std.proofs.Common.{FitsSigned, rules, sym}
use Rattle.std.specs.Int.{w128}
use Rattle.std.proofs.lemmas.Int.{to_z-of_z}
use Rattle.explained_proof.proofs.RowExpressions.CaseLaws.{rest_fits}
use Rattle.explained_proof.proofs.row_expressions.rows.case_said.Goals as goal

pub said_under-requires-clause-left : goal.said_under-requires-clause-left
said_under-requires-clause-left c =
    let f : FitsSigned w128 c.args.bound = search rules in
    let g : FitsSigned w128 c.in-Some.left = search rules in
    simp to_z-of_z (rest_fits c.args.bound c.in-Some.left c.deref.result.now c.args.case.now c.requires.bound (sym (simp to_z-of_z at c.in-Some.ensures)))
