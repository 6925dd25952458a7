use Rattle.std.proofs.Common.{◌∙◌, [], ◌∷◌, ap, map}
use Rattle.std.specs.Prelude.{slice_get}
use Rattle.std.proofs.lemmas.List.{map-append}
use Rattle.proof_form.specs.Lines as form
use Rattle.proof_names.specs.Naming.{NamesNode}
use Rattle.proof_names.specs.Outlines.{node}
use Rattle.proof_names.proofs.PairLaws.{so_far_mapped, stops_mapped}
use Rattle.proof_names.proofs.SoFarLaws.{so_far_start, mapped_end}
use Rattle.proof_names.proofs.naming.nodes_named.Goals as goal

pub returns-in-None-clause-at : goal.returns-in-None-clause-at
returns-in-None-clause-at c =
    λ i e. stops_mapped form.node (NamesNode c.args.icfg.now (slice_get c.args.preds.now) (map form.node c.args.lines.now)) c.args.lines.now c.args.first i c.loop-n.n
    (map node c.loop-n.nodes.items) c.index-lines-n.result c.loop-n.invariant c.loop-n-test.true c.index-lines-n.is (rw c.in-None.is at c.in_ok-node.ensures) (c.unnamed.ensures i (cc))

pub loop-n-preserved : goal.loop-n-preserved
loop-n-preserved c =
    so_far_mapped form.node (NamesNode c.args.icfg.now (slice_get c.args.preds.now) (map form.node c.args.lines.now)) c.args.lines.now c.loop-n.n (map node c.loop-n.nodes.items) _
    c.index-lines-n.result (node c.in-Some.node) c.loop-n.invariant c.loop-n-test.true c.index-lines-n.is (rw c.in-Some.is at c.in_ok-node.ensures)
    (ap (map node) c.in_ok-push-in-Some.ensures.items ∙ map-append node c.loop-n.nodes.items (c.in-Some.node ∷ []))

pub loop-n-init : goal.loop-n-init
loop-n-init c = so_far_start (NamesNode c.args.icfg.now (slice_get c.args.preds.now) (map form.node c.args.lines.now)) (map form.node c.args.lines.now) (map node c.in_ok-nodes.nodes.items) (ap (map node) c.in_ok-nodes.ensures.items)

pub returns-clause-ok : goal.returns-clause-ok
returns-clause-ok c =
    mapped_end form.node (NamesNode c.args.icfg.now (slice_get c.args.preds.now) (map form.node c.args.lines.now)) c.args.lines.now c.loop-n.n (map node c.loop-n.nodes.items) c.loop-n.invariant c.loop-n-test.false
    c.loop-n.auto.n-end
