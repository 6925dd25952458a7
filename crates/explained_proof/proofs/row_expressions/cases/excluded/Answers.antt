use Rattle.std.proofs.Common.{◌∙◌, [], ◌∷◌, Some, map, sym, ap}
use Rattle.std.proofs.lemmas.List.{map-append}
use Rattle.boogie_tree.specs.View as tree
use Rattle.explained_proof.specs.RowExpressions.Cases as spec
use Rattle.explained_proof.proofs.RowExpressions.CaseLaws.{excluded_last}
use Rattle.explained_proof.proofs.row_expressions.cases.excluded.Goals as goal

pub returns-in_ok-implied-in-Some : goal.returns-in_ok-implied-in-Some
returns-in_ok-implied-in-Some c =
    let ps = map tree.expression c.pop.new.self.items in
    ap Some (c.in_ok-implied-in-Some.ensures ∙ ap (spec.implied ps) c.in_ok-last-in-Some.ensures) ∙ sym (excluded_last ps (tree.expression c.in-Some.last)) ∙
    ap spec.excluded (sym (map-append tree.expression c.pop.new.self.items (c.in-Some.last ∷ [])) ∙ ap (map tree.expression) (sym c.in-Some.ensures.items))
