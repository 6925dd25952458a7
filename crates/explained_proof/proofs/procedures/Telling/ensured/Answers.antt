use Rattle.std.proofs.Common.{◌≡◌, ◌∙◌, ℕ, List, Option, map, ap, subst}
use Rattle.std.specs.Prelude.{IfOk}
use Rattle.boogie_tree.specs.Tree as plain
use Rattle.boogie_tree.specs.Tree.{Expression, Specification}
use Rattle.boogie_tree.specs.View as tree
use Rattle.explained_proof.specs.declared.row_expressions.scopes.Position.TheVariants as positions
use Rattle.explained_proof.specs.Clauses.{holding}
use Rattle.explained_proof.specs.Explained as spec
use Rattle.explained_proof.specs.Statements.{condition}
use Rattle.explained_proof.specs.Ties.Views as view
use Rattle.explained_proof.proofs.procedures.Telling.ensured.Goals as goal

pub returns-in_ok-holding-in-Some : goal.returns-in_ok-holding-in-Some
returns-in_ok-holding-in-Some c =
    let k = view.procedure c.args.procedure.now in
    let f : Expression → Specification = λ e. plain.Ensures (condition e) in
    subst (λ (ss : List Specification). IfOk c.ensures_of.result (λ list. map tree.specification list.items ≡ ss))
    (ap (map f) c.in_ok-holding-in-Some.ensures ∙ ap (λ (n : ℕ). map f (holding k positions.Ensures n)) c.from.ensures ∙
    ap (spec.ensures_at k) (c.in-Some.ensures ∙ ap (λ (xs : List (Option ℕ)). spec.place_of xs c.args.number) c.exits.ensures.value))
    c.ensures_of.ensures
