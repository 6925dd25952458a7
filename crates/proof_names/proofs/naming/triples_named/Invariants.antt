use Rattle.std.proofs.Common.{map}
use Rattle.std.specs.Prelude.{slice_get}
use Rattle.proof_form.specs.Lines as form
use Rattle.proof_names.specs.Naming.{NamesTriple}
use Rattle.proof_names.proofs.PairLaws.{SoFar}
use Rattle.proof_names.proofs.naming.triples_named.Given as goal

abbrev pub invariant-loop-k : goal.invariant-loop-k
invariant-loop-k l = SoFar (λ k line t. NamesTriple l.icfg (slice_get l.preds) line t) (map form.triple l.lines) l.k l.triples.items
