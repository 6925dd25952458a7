use Rattle.std.proofs.Common.{◌≡◌, ◌∙◌, List, sym, ap, subst}
use Rattle.triple_rows.specs.declared.predicates.PredNode.{PredNode}
use Rattle.triple_rows.specs.Predicates.{Formula, prefix_of, formula_of}
use Rattle.nested_itp.specs.NestedPredicates.Joins.{simplified}
use Rattle.nested_itp.specs.NestedPredicates.Simplifying.{SpellsJoined}
use Rattle.nested_itp.proofs.NestedPredicates.PredLaws.{has_nodes, same_nodes, some_not}
use Rattle.nested_itp.proofs.nested_predicates.preds.predicate.Goals as goal

pub nodes_at-requires : goal.nodes_at-requires
nodes_at-requires c = has_nodes c.args.position c.args.table.now (prefix_of c.requires.0) c.requires.1

pub without_truth-requires : goal.without_truth-requires
without_truth-requires c =
    let e : c.in_ok-nodes.nodes.items ≡ prefix_of c.requires.0 = same_nodes c.in_ok-nodes.nodes.items (prefix_of c.requires.0) (c.in_ok-nodes.ensures ∙ c.requires.1) in
    subst SpellsJoined (sym e) c.requires.2.joined

pub returns : goal.returns
returns c = λ f s k.
    c.in-Some.ensures.value ∙ c.in_ok-simple.ensures ∙
    ap (λ (l : List PredNode). prefix_of (simplified (formula_of l))) (same_nodes c.in_ok-nodes.nodes.items (prefix_of f) (c.in_ok-nodes.ensures ∙ s)) ∙
    ap (λ (x : Formula). prefix_of (simplified x)) k.read

pub unreachable-requires : goal.unreachable-requires
unreachable-requires c =
    let f : Formula = c.requires.0 in
    let e : c.in_ok-simple.simple.items ≡ prefix_of (simplified f) =
    c.in_ok-simple.ensures ∙
    ap (λ (l : List PredNode). prefix_of (simplified (formula_of l))) (same_nodes c.in_ok-nodes.nodes.items (prefix_of f) (c.in_ok-nodes.ensures ∙ c.requires.1)) ∙
    ap (λ (x : Formula). prefix_of (simplified x)) c.requires.2.read in
    some_not c.pred.result (c.pred.ensures.found.1 (simplified f, sym e, c.requires.2.predicate)) c.in_default.not-Some
