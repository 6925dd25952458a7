use Rattle.std.specs.List.{AllByRecursion}
use Rattle.letter_acts.specs.Invariant.{alphabet_of}
use Rattle.triple_rows.specs.Triples.{Agrees}
use Rattle.proof_form.specs.Annotations.{Content}
use Rattle.proof_reuse.specs.Ties.Choices.{IsTakenFrom}
use Rattle.proof_reuse.specs.Ties.Settling.{IsSettling}
use Rattle.proof_reuse.specs.Ties.Views.{taken}
use Rattle.proof_reuse.proofs.settling.settle_letters.Given as goal

abbrev pub invariant-loop-letter : goal.invariant-loop-letter
invariant-loop-letter g l = record {
  settles : (old : Content) → IsTakenFrom l.icfg old (taken l.earlier) → IsSettling l.icfg old l.letter l.work.waiting.items l.work.proofs.items;
  agree : AllByRecursion (Agrees (alphabet_of l.icfg)) l.work.waiting.items;
}
