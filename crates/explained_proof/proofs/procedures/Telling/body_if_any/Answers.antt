use Rattle.std.proofs.Common.{◌∙◌, Option, Some, sym, ap}
use Rattle.std.specs.Option.{option_map}
use Rattle.boogie_tree.specs.declared.tree.Body.{Body}
use Rattle.boogie_tree.specs.View as tree
use Rattle.typed_tree.specs.TypedView as typed
use Rattle.explained_proof.specs.Clauses.{KnownProcedure}
use Rattle.explained_proof.specs.Explained as spec
use Rattle.explained_proof.specs.Ties.Views as view
use Rattle.explained_proof.proofs.procedures.Telling.body_if_any.Goals as goal

pub returns-in_ok-body-in-Some : goal.returns-in_ok-body-in-Some
returns-in_ok-body-in-Some c =
    let d = view.told c.args.self.now in
    let q = typed.procedure c.args.listed.now in
    ap Some (c.in_ok-body-in-Some.ensures ∙
    ap (λ (k : KnownProcedure). spec.body_from d k (tree.body c.in-Some.given) q q.body (spec.place_of d.graph.entries c.args.number)) c.requires.known) ∙
    ap (λ (o : Option Body). option_map (spec.explained_body d c.args.number q) (tree.body_of o)) (sym c.in-Some.is)
