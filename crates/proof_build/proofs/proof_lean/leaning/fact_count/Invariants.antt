use Rattle.std.proofs.Common.{◌≡◌, length, sum_by, take}
use Rattle.proof_form.specs.declared.lines.NodeLine.{NodeLine}
use Rattle.proof_build.proofs.proof_lean.leaning.fact_count.Given as goal

abbrev pub invariant-loop-node : goal.invariant-loop-node
invariant-loop-node l = l.count ≡ sum_by (λ (line : NodeLine). length line.preds.items) (take l.node-index l.nodes)
