use Rattle.std.proofs.Common.{◌≡◌, ◌<◌, ◌∙◌, sym, None, Some, reverse, get_or, length, [], ◌∷◌, ◌++◌, List, ℕ, ap}
use Rattle.farkas_check.specs.Nodes.{plain, plain_nodes}
use Rattle.int_decide.specs.Ties.CutCounts.{after_node, have_few_cuts}
use Rattle.int_decide.proofs.CutLaws.{few_stop, few_go}
use Rattle.int_decide.proofs.accepting.have_few_cuts.Goals as goal

pub returns-then-not-passes : goal.returns-then-not-passes
returns-then-not-passes c =
    let nodes = c.args.nodes.now in
    let i = c.loop-node.node-index in
    let d = c.node-item.result in
    let within : i < length nodes = c.loop-node-test.true in
    let stops : after_node (reverse c.loop-node.lefts.items) (plain (get_or nodes i d)) ≡ None = rw c.node-item.is at (rw c.if-not-passes.true at c.in_ok-passes.ensures) in
    sym (c.loop-node.invariant ∙ few_stop nodes i d c.loop-node.lefts.items within stops)

pub loop-node-preserved : goal.loop-node-preserved
loop-node-preserved c =
    let nodes = c.args.nodes.now in
    let i = c.loop-node.node-index in
    let d = c.node-item.result in
    let within : i < length nodes = c.loop-node-test.true in
    let goes : after_node (reverse c.loop-node.lefts.items) (plain (get_or nodes i d)) ≡ Some (reverse c.pass_node.new.lefts.items) =
    rw c.node-item.is at (rw c.if-not-passes.false at c.in_ok-passes.ensures) in
    c.loop-node.invariant ∙ few_go nodes i d c.loop-node.lefts.items c.pass_node.new.lefts.items within goes

pub loop-node-init : goal.loop-node-init
loop-node-init c =
    ap (λ (ls : List ℕ). have_few_cuts (reverse ls) (plain_nodes c.args.nodes.now)) (sym (c.in_ok-push.ensures.items ∙ ap (λ (ls : List ℕ). ls ++ c.args.depth ∷ []) c.new-lefts.ensures.items))
