use Rattle.std.proofs.Common.{◌≡◌, List, Err, length, map, sym, subst, arith}
use Rattle.triple_rows.specs.declared.triples.Scoped.{Scoped}
use Rattle.proof_form.specs.Lines as form
use Rattle.proof_names.specs.declared.fault.NameFault.TheVariants.{At}
use Rattle.proof_names.specs.declared.outlines.NamedNode.{NamedNode}
use Rattle.proof_names.specs.Items.{first_node, first_step}
use Rattle.proof_names.specs.Outlines.{node}
use Rattle.proof_names.specs.Pairs.{ArePaired}
use Rattle.proof_names.proofs.ItemLaws.{PredsIn, TriplesIn, NodesIn, all_named, all_named_are}
use Rattle.proof_names.proofs.OutlineLaws.{counted, preds_end, triples_end, nodes_end, steps_end, preds_stop, triples_stop, nodes_stop, steps_stop}
use Rattle.proof_names.proofs.naming.outline.Goals as goal

pub returns-in_err-preds-clause-at : goal.returns-in_err-preds-clause-at
returns-in_err-preds-clause-at c = λ i e.
    let h = rw e at c.from_residual.ensures.1 in
    let w : c.preds_named.result ≡ Err c.in_err-preds.field-0.0 = c.in_err-preds.was in
    let q : c.preds_named.result ≡ Err (At i) = cc in
    preds_stop c.args.icfg.now c.args.proof.now c.preds.result.now i c.preds.ensures.value (c.preds_named.ensures.at i q)

pub returns-in_err-triples-clause-at : goal.returns-in_err-triples-clause-at
returns-in_err-triples-clause-at c = λ i e.
    let p : ArePaired (PredsIn c.args.icfg.now) c.args.proof.now.preds c.in_ok-preds.preds.items =
    preds_end c.args.icfg.now c.args.proof.now c.preds.result.now c.in_ok-preds.preds.items c.preds.ensures.value c.in_ok-preds.ensures.ok in
    let one : ArePaired (PredsIn c.args.icfg.now) c.args.proof.now.preds c.deref.result.now =
    subst (λ (l : List Scoped). ArePaired (PredsIn c.args.icfg.now) c.args.proof.now.preds l) (sym c.deref.ensures.value) p in
    let first : length c.preds-2.result.now ≡ length c.args.proof.now.preds = counted form.pred c.preds-2.result.now c.args.proof.now.preds c.preds-2.ensures.value in
    let h = rw e at c.from_residual-in_err-triples.ensures.1 in
    let w : c.triples_named.result ≡ Err c.in_err-triples.field-0.0 = c.in_err-triples.was in
    let q : c.triples_named.result ≡ Err (At i) = cc in
    triples_stop c.args.icfg.now c.args.proof.now c.deref.result.now c.triples.result.now (length c.preds-2.result.now) i one c.triples.ensures.value first (c.triples_named.ensures.at i q)

pub returns-in_err-nodes-clause-at : goal.returns-in_err-nodes-clause-at
returns-in_err-nodes-clause-at c = λ i e.
    let p : ArePaired (PredsIn c.args.icfg.now) c.args.proof.now.preds c.in_ok-preds.preds.items =
    preds_end c.args.icfg.now c.args.proof.now c.preds.result.now c.in_ok-preds.preds.items c.preds.ensures.value c.in_ok-preds.ensures.ok in
    let one : ArePaired (PredsIn c.args.icfg.now) c.args.proof.now.preds c.deref.result.now =
    subst (λ (l : List Scoped). ArePaired (PredsIn c.args.icfg.now) c.args.proof.now.preds l) (sym c.deref.ensures.value) p in
    let first : length c.preds-2.result.now ≡ length c.args.proof.now.preds = counted form.pred c.preds-2.result.now c.args.proof.now.preds c.preds-2.ensures.value in
    let t : ArePaired (TriplesIn c.args.icfg.now c.args.proof.now) c.args.proof.now.triples c.in_ok-triples.triples.items =
    triples_end c.args.icfg.now c.args.proof.now c.deref.result.now c.triples.result.now c.in_ok-triples.triples.items one c.triples.ensures.value c.in_ok-triples.ensures.ok in
    let two : ArePaired (PredsIn c.args.icfg.now) c.args.proof.now.preds c.deref-2.result.now =
    subst (λ (l : List Scoped). ArePaired (PredsIn c.args.icfg.now) c.args.proof.now.preds l) (sym c.deref-2.ensures.value) p in
    let second : length c.triples-2.result.now ≡ length c.args.proof.now.triples = counted form.triple c.triples-2.result.now c.args.proof.now.triples c.triples-2.ensures.value in
    let node_item : c.in_ok-first_node.first_node ≡ first_node c.args.proof.now = let k = c.in_ok-first_node.ensures.ok in omega (arith, first, second, k) in
    let h = rw e at c.from_residual-in_err-nodes.ensures.1 in
    let w : c.nodes_named.result ≡ Err c.in_err-nodes.field-0.0 = c.in_err-nodes.was in
    let q : c.nodes_named.result ≡ Err (At i) = cc in
    nodes_stop c.args.icfg.now c.args.proof.now c.deref-2.result.now c.in_ok-triples.triples.items c.nodes.result.now c.in_ok-first_node.first_node i two t c.nodes.ensures.value node_item
    (c.nodes_named.ensures.at i q)

pub returns-in_err-steps-clause-at : goal.returns-in_err-steps-clause-at
returns-in_err-steps-clause-at c = λ i e.
    let p : ArePaired (PredsIn c.args.icfg.now) c.args.proof.now.preds c.in_ok-preds.preds.items =
    preds_end c.args.icfg.now c.args.proof.now c.preds.result.now c.in_ok-preds.preds.items c.preds.ensures.value c.in_ok-preds.ensures.ok in
    let one : ArePaired (PredsIn c.args.icfg.now) c.args.proof.now.preds c.deref.result.now =
    subst (λ (l : List Scoped). ArePaired (PredsIn c.args.icfg.now) c.args.proof.now.preds l) (sym c.deref.ensures.value) p in
    let first : length c.preds-2.result.now ≡ length c.args.proof.now.preds = counted form.pred c.preds-2.result.now c.args.proof.now.preds c.preds-2.ensures.value in
    let t : ArePaired (TriplesIn c.args.icfg.now c.args.proof.now) c.args.proof.now.triples c.in_ok-triples.triples.items =
    triples_end c.args.icfg.now c.args.proof.now c.deref.result.now c.triples.result.now c.in_ok-triples.triples.items one c.triples.ensures.value c.in_ok-triples.ensures.ok in
    let two : ArePaired (PredsIn c.args.icfg.now) c.args.proof.now.preds c.deref-2.result.now =
    subst (λ (l : List Scoped). ArePaired (PredsIn c.args.icfg.now) c.args.proof.now.preds l) (sym c.deref-2.ensures.value) p in
    let second : length c.triples-2.result.now ≡ length c.args.proof.now.triples = counted form.triple c.triples-2.result.now c.args.proof.now.triples c.triples-2.ensures.value in
    let node_item : c.in_ok-first_node.first_node ≡ first_node c.args.proof.now = let k = c.in_ok-first_node.ensures.ok in omega (arith, first, second, k) in
    let n : ArePaired (NodesIn c.args.icfg.now c.args.proof.now) c.args.proof.now.nodes (map node c.in_ok-nodes.nodes.items) =
    nodes_end c.args.icfg.now c.args.proof.now c.deref-2.result.now c.nodes.result.now (map node c.in_ok-nodes.nodes.items) two c.nodes.ensures.value c.in_ok-nodes.ensures.ok in
    let three : ArePaired (NodesIn c.args.icfg.now c.args.proof.now) c.args.proof.now.nodes (map node c.deref-3.result.now) =
    subst (λ (l : List NamedNode). ArePaired (NodesIn c.args.icfg.now c.args.proof.now) c.args.proof.now.nodes (map node l)) (sym c.deref-3.ensures.value) n in
    let third : length c.nodes-2.result.now ≡ length c.args.proof.now.nodes = counted form.node c.nodes-2.result.now c.args.proof.now.nodes c.nodes-2.ensures.value in
    let step_item : c.in_ok-first_step.first_step ≡ first_step c.args.proof.now = let k = c.in_ok-first_step.ensures.ok in omega (arith, node_item, third, k) in
    let h = rw e at c.from_residual-in_err-steps.ensures.1 in
    let w : c.steps_named.result ≡ Err c.in_err-steps.field-0.0 = c.in_err-steps.was in
    let q : c.steps_named.result ≡ Err (At i) = cc in
    steps_stop c.args.icfg.now c.args.proof.now c.deref-2.result.now c.in_ok-triples.triples.items c.deref-3.result.now c.steps.result.now c.in_ok-first_step.first_step i two t three
    c.steps.ensures.value step_item (c.steps_named.ensures.at i q)

pub returns-clause-ok : goal.returns-clause-ok
returns-clause-ok c =
    let p : ArePaired (PredsIn c.args.icfg.now) c.args.proof.now.preds c.in_ok-preds.preds.items =
    preds_end c.args.icfg.now c.args.proof.now c.preds.result.now c.in_ok-preds.preds.items c.preds.ensures.value c.in_ok-preds.ensures.ok in
    let one : ArePaired (PredsIn c.args.icfg.now) c.args.proof.now.preds c.deref.result.now =
    subst (λ (l : List Scoped). ArePaired (PredsIn c.args.icfg.now) c.args.proof.now.preds l) (sym c.deref.ensures.value) p in
    let t : ArePaired (TriplesIn c.args.icfg.now c.args.proof.now) c.args.proof.now.triples c.in_ok-triples.triples.items =
    triples_end c.args.icfg.now c.args.proof.now c.deref.result.now c.triples.result.now c.in_ok-triples.triples.items one c.triples.ensures.value c.in_ok-triples.ensures.ok in
    let two : ArePaired (PredsIn c.args.icfg.now) c.args.proof.now.preds c.deref-2.result.now =
    subst (λ (l : List Scoped). ArePaired (PredsIn c.args.icfg.now) c.args.proof.now.preds l) (sym c.deref-2.ensures.value) p in
    let n : ArePaired (NodesIn c.args.icfg.now c.args.proof.now) c.args.proof.now.nodes (map node c.in_ok-nodes.nodes.items) =
    nodes_end c.args.icfg.now c.args.proof.now c.deref-2.result.now c.nodes.result.now (map node c.in_ok-nodes.nodes.items) two c.nodes.ensures.value c.in_ok-nodes.ensures.ok in
    let three : ArePaired (NodesIn c.args.icfg.now c.args.proof.now) c.args.proof.now.nodes (map node c.deref-3.result.now) =
    subst (λ (l : List NamedNode). ArePaired (NodesIn c.args.icfg.now c.args.proof.now) c.args.proof.now.nodes (map node l)) (sym c.deref-3.ensures.value) n in
    all_named_are c.args.icfg.now c.args.proof.now _ (all_named (PredsIn c.args.icfg.now) c.args.proof.now.preds c.in_ok-preds.preds.items p) t n
    (steps_end c.args.icfg.now c.args.proof.now c.deref-3.result.now c.steps.result.now c.in_ok-steps.steps.items three c.steps.ensures.value c.in_ok-steps.ensures.ok)
