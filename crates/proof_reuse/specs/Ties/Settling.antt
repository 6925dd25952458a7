-- Candidates that are tried letter by letter.
use Rattle.std.specs.Prelude.{◌⊎◌, ℕ, ◌<◌, List}
use Rattle.std.specs.List.{AllByRecursion}
use Rattle.nwa_base.specs.Members.{Member}
use Rattle.letter_acts.specs.Invariant.{Graph, alphabet_of}
use Rattle.triple_rows.specs.declared.triples.Triple.{Triple}
use Rattle.triple_rows.specs.Proofs.{PlainProof}
use Rattle.hoare_check.specs.Decided.{IsProofFor}
use Rattle.proof_form.specs.Annotations.{Content}
use Rattle.itp_automaton.specs.Settling.{SettlesTriple, letter_in}
use Rattle.proof_reuse.specs.Candidates.{IsCandidate}

-- Candidates wait to be tried, the proofs are of candidates, and each candidate by a letter below n is settled or waits.
pub record IsSettling (g : Graph) (old : Content) (n : ℕ) (waiting : List Triple) (proofs : List PlainProof) : Type 0 where
  pub waiting_are : AllByRecursion (IsCandidate g old) waiting
  pub proved : AllByRecursion (IsProofFor (alphabet_of g)) proofs
  pub candidates : AllByRecursion (λ p. IsCandidate g old p.triple) proofs
  pub due : (t : Triple) → IsCandidate g old t → letter_in t < n → SettlesTriple (alphabet_of g) proofs t ⊎ Member waiting t
