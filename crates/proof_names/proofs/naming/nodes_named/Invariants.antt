use Rattle.std.proofs.Common.{map}
use Rattle.std.specs.Prelude.{slice_get}
use Rattle.proof_form.specs.Lines as form
use Rattle.proof_names.specs.Naming.{NamesNode}
use Rattle.proof_names.specs.Outlines.{node}
use Rattle.proof_names.proofs.PairLaws.{SoFar}
use Rattle.proof_names.proofs.naming.nodes_named.Given as goal

abbrev pub invariant-loop-n : goal.invariant-loop-n
invariant-loop-n l = SoFar (NamesNode l.icfg (slice_get l.preds) (map form.node l.lines)) (map form.node l.lines) l.n (map node l.nodes.items)
