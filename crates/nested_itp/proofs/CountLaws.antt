-- Proofs of the first triples of a list; and a proof for an alphabet is one over it.
use Rattle.std.proofs.Common.{◌≡◌, ◌∙◌, ℕ, ◌≤◌, List, [], ◌∷◌, length, map, take, sym, ap}
use Rattle.std.specs.List.{AllByRecursion}
use Rattle.std.proofs.lemmas.List.{length-map, take_all}
use Rattle.letter_acts.specs.Acts.{Alphabet}
use Rattle.triple_rows.specs.declared.triples.Triple.{Triple}
use Rattle.triple_rows.specs.Proofs.{PlainProof, IsProofOver}
use Rattle.hoare_check.specs.Decided.{IsProofFor}

-- there are as many proofs as triples
pub proofs_counted : (i : ℕ) (triples : List Triple) (proofs : List PlainProof) → map (λ p. p.triple) proofs ≡ take i triples → length triples ≤ i → length proofs ≡ length triples
proofs_counted i triples proofs e l =
    sym (length-map proofs (λ (p : PlainProof). p.triple)) ∙ ap (λ (l : List Triple). length l) e ∙ ap (λ (l : List Triple). length l) (take_all i triples l)

-- proofs for an alphabet are proofs over it
pub proved_over : (al : Alphabet) (proofs : List PlainProof) → AllByRecursion (IsProofFor al) proofs → AllByRecursion (IsProofOver al) proofs
proved_over al [] h = h
proved_over al (p ∷ proofs) h = (h.0.over, proved_over al proofs h.1)
