use Rattle.std.proofs.Common.{◌≡◌, ◌∙◌, ℤ, pos, ◌+ℤ◌, neg_ℤ, FitsSigned, IfOk, map, rules, sym, subst}
use Rattle.std.specs.Int.{w128}
use Rattle.std.specs.Option.{option_map}
use Rattle.std.proofs.lemmas.Int.{to_z-of_z}
use Rattle.std.proofs.lemmas.List.{length-map}
use Rattle.boogie_tree.specs.View as tree
use Rattle.explained_proof.proofs.RowExpressions.SumLaws.{compared_by, neg_fits, from_zero}
use Rattle.explained_proof.proofs.row_expressions.sums.compared.Goals as goal

pub returns : goal.returns
returns c =
    let f : FitsSigned w128 c.args.bound = search rules in
    let g : FitsSigned w128 (pos 0 +ℤ neg_ℤ c.args.bound) = neg_fits c.args.bound c.requires in
    subst (λ v. IfOk c.related.result (λ o. option_map tree.expression o ≡ v))
    (compared_by c.args.op c.args.bound (map tree.expression c.args.left.items) (map tree.expression c.args.right.items) c.len-count.result c.len-others.result c.stands_left.result c.stands_right.result
    (pos 0 +ℤ neg_ℤ c.args.bound) (option_map tree.expression c.in_ok-left.left) (option_map tree.expression c.in_ok-right.right)
    (c.len-count.ensures ∙ c.args.left.ok.0 ∙ sym (length-map c.args.left.items tree.expression))
    (c.len-others.ensures ∙ c.args.right.ok.0 ∙ sym (length-map c.args.right.items tree.expression))
    (simp to_z-of_z at c.stands_left.ensures) (simp to_z-of_z at c.stands_right.ensures) (from_zero c.args.bound)
    (simp to_z-of_z at c.in_ok-left.ensures) (simp to_z-of_z at c.in_ok-right.ensures))
    c.related.ensures
