use Rattle.std.proofs.Common.{◌≡◌, ◌++◌, map}
use Rattle.std.specs.List.{flat_map}
use Rattle.proof_form.specs.Annotations.{numbered, ended}
use Rattle.proof_form.specs.Lines.{node, node_text}
use Rattle.proof_form.proofs.ItemLaws.{with_lines}
use Rattle.proof_form.proofs.text_writing.push_nodes.Given as goal

abbrev pub invariant-loop-i : goal.invariant-loop-i
invariant-loop-i l = with_lines node node_text 0 l.out.items l.nodes l.i ≡ l.fn.out.items ++ flat_map ended (numbered node_text 0 (map node l.nodes))
