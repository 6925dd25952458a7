use Rattle.std.proofs.Common.{◌∙◌, List, Some, ap, sym}
use Rattle.std.specs.Option.{option_map, option_and_then}
use Rattle.typed_tree.specs.declared.types.TStmt.{TStmt}
use Rattle.typed_tree.specs.TypedView as view
use Rattle.icfg_lower.proofs.label_places.labels.statements_of.Goals as goal

pub returns-in-Some : goal.returns-in-Some
returns-in-Some c =
    ap (λ (xs : List TStmt). Some (view.statements xs)) c.deref.ensures.value ∙ ap (λ o. option_map (λ b. view.statements b.items) o) (sym c.in-Some.is)
    ∙ ap (option_and_then (λ q. q.body)) c.in_ok-listed.ensures

pub returns-in-None : goal.returns-in-None
returns-in-None c = ap (λ o. option_map (λ b. view.statements b.items) o) (sym c.in-None.is) ∙ ap (option_and_then (λ q. q.body)) c.in_ok-listed.ensures
