use Rattle.std.proofs.Common.{◌≡◌, ℕ, ◌+◌, ◌++◌, ap, ◌∙◌, arith}
use Rattle.proof_form.specs.Lines.{node, node_text}
use Rattle.proof_form.proofs.ItemLaws.{lines_begin, one_line, all_lines}
use Rattle.proof_form.proofs.text_writing.push_nodes.Goals as goal

pub loop-i-init : goal.loop-i-init
loop-i-init c = lines_begin node node_text 0 c.args.out.now.items c.args.nodes.now

pub loop-i-preserved : goal.loop-i-preserved
loop-i-preserved c =
    let number : c.loop-i.i ≡ c.loop-i.i + 0 = omega arith in
    one_line node node_text 0 c.args.nodes.now c.loop-i.i c.index-nodes-i.result c.loop-i.out.items _ _ _ c.loop-i-test.true c.index-nodes-i.is
    (c.in_ok-push_node.ensures ∙ ap (λ (k : ℕ). c.loop-i.out.items ++ node_text k (node c.index-nodes-i.result)) number) c.in_ok-push.ensures.items c.loop-i.invariant

pub returns : goal.returns
returns c = all_lines node node_text 0 c.args.nodes.now c.loop-i.i _ _ c.loop-i-test.false c.loop-i.invariant
