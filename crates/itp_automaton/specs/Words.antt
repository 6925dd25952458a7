-- Predicates and proofs along a word.
use Rattle.std.specs.Prelude.{◌≡◌, suc, List, [], length, map}
use Rattle.std.specs.List.{AllByRecursion}
use Rattle.nwa_base.specs.declared.letters.Letter.{Letter}
use Rattle.letter_acts.specs.Invariant.{Graph, alphabet_of}
use Rattle.triple_rows.specs.declared.triples.Scoped.{Scoped}
use Rattle.triple_rows.specs.Proofs.{PlainProof}
use Rattle.hoare_check.specs.Decided.{IsProofFor}
use Rattle.nested_itp.specs.NestedPredicates.Interpolants.{triples_along, BeginsTrue, EndsFalse}

-- a predicate for each position of the word, the first true and the last false, and for each letter a proof of the triple
-- between them, of three places at returns
pub record AreAlong (g : Graph) (w : List Letter) (preds : List Scoped) (proofs : List PlainProof) : Type 0 where
  pub count : length preds ≡ suc (length w)
  pub begins : BeginsTrue preds
  pub ends : EndsFalse preds
  pub triples : map (λ p. p.triple) proofs ≡ triples_along w preds []
  pub proved : AllByRecursion (IsProofFor (alphabet_of g)) proofs
