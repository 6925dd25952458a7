-- Terms at the front of bytes.
use Rattle.std.proofs.Common.{◌≡◌, ◌≢◌, ℕ, true, false, List, ◌∷◌, ◌++◌, IsTrue, refl, sym, ap, ◌∙◌, append_assoc}
use Rattle.std.proofs.lemmas.Bool.{false≢true}
use Rattle.proof_form.specs.declared.numerals.Numeral.{Numeral}
use Rattle.proof_form.specs.Names.{is_column}
use Rattle.proof_form.specs.Numerals.{is_numeral, numeral_text}
use Rattle.proof_form.specs.Predicates.{term_text}
use Rattle.proof_form.proofs.RunLaws.{both_hold}
use Rattle.rank_lasso.specs.RankingText.{is_rank_term}
use Rattle.rank_lasso.specs.Lines.{HasNo, IsBreak, IsNumeral, Spells}
use Rattle.rank_lasso.proofs.Cuts.{same_word}
use Rattle.rank_lasso.proofs.Contents.{numeral_has_no_space, column_has_no_space}

abbrev IsWord : List ℕ → List ℕ → List ℕ → Type 0
IsWord bytes word rest = HasNo 32 word × IsBreak rest × (bytes ≡ 32 ∷ (word ++ rest))

-- no term is at the front
abbrev NoTerm : List ℕ → Type 0
NoTerm bytes = (t : Numeral × List ℕ) (more : List ℕ) → IsTrue (is_rank_term t) → IsBreak more → bytes ≢ term_text t ++ more

regrouped : (t : Numeral × List ℕ) (more : List ℕ) → term_text t ++ more ≡ 32 ∷ (numeral_text t.0 ++ (32 ∷ (t.1 ++ more)))
regrouped t more = ap (λ x. 32 ∷ x) (append_assoc (numeral_text t.0) (32 ∷ t.1) more)

-- no word stands there
pub no_first_word : (bytes : List ℕ) → ((rest : List ℕ) → bytes ≢ 32 ∷ rest) → NoTerm bytes
no_first_word bytes none t more h b e = none (numeral_text t.0 ++ (32 ∷ (t.1 ++ more))) (e ∙ regrouped t more)

-- the two words of a term
record TwoWords (number rest : List ℕ) (t : Numeral × List ℕ) (more : List ℕ) : Type 0 where
  numeral : number ≡ numeral_text t.0
  behind : rest ≡ 32 ∷ (t.1 ++ more)

two_words : (bytes number rest : List ℕ) → IsWord bytes number rest → (t : Numeral × List ℕ) (more : List ℕ) → IsTrue (is_rank_term t) → bytes ≡ term_text t ++ more → TwoWords number rest t more
two_words bytes number rest w t more h e =
    let k = both_hold (is_numeral t.0) (is_column t.1) h in
    let spelled = w.2 in
    let text = regrouped t more in
    let same : number ++ rest ≡ numeral_text t.0 ++ (32 ∷ (t.1 ++ more)) = cc in
    let parts = same_word number (numeral_text t.0) rest (32 ∷ (t.1 ++ more)) w.0 w.1 (numeral_has_no_space t.0 k.0) refl same in
    record { numeral = parts.0; behind = parts.1 }

-- only one does
pub no_second_word : (bytes number rest : List ℕ) → IsWord bytes number rest → ((more : List ℕ) → rest ≢ 32 ∷ more) → NoTerm bytes
no_second_word bytes number rest w none t more h b e = none (t.1 ++ more) (two_words bytes number rest w t more h e).behind

second_word : (column behind : List ℕ) (rest : List ℕ) → IsWord rest column behind → (t : Numeral × List ℕ) (more : List ℕ) → IsTrue (is_rank_term t) → IsBreak more → rest ≡ 32 ∷ (t.1 ++ more) →
    (column ≡ t.1) × (behind ≡ more)
second_word column behind rest w t more h b e =
    let k = both_hold (is_numeral t.0) (is_column t.1) h in
    let spelled = w.2 in
    let same : column ++ behind ≡ t.1 ++ more = cc in
    same_word column t.1 behind more w.0 w.1 (column_has_no_space t.1 k.1) b same

-- the second word names no column
pub no_column : (bytes number rest column behind : List ℕ) → IsWord bytes number rest → IsWord rest column behind → is_column column ≡ false → NoTerm bytes
no_column bytes number rest column behind w v f t more h b e =
    let k = both_hold (is_numeral t.0) (is_column t.1) h in
    let two = two_words bytes number rest w t more h e in
    false≢true (sym f ∙ ap is_column (second_word column behind rest v t more h b two.behind).0 ∙ k.1)

-- the first word is no numeral
pub no_coefficient : (bytes number rest : List ℕ) → IsWord bytes number rest → (Spells IsNumeral numeral_text number → ⊥) → NoTerm bytes
no_coefficient bytes number rest w none t more h b e =
    none (t.0, (both_hold (is_numeral t.0) (is_column t.1) h).0, (two_words bytes number rest w t more h e).numeral)

-- a term is
pub term_read : (bytes number rest column behind : List ℕ) (n : Numeral) → IsWord bytes number rest → IsWord rest column behind → is_column column ≡ true → is_numeral n ≡ true →
    number ≡ numeral_text n → IsTrue (is_rank_term (n, column)) × IsBreak behind × (bytes ≡ term_text (n, column) ++ behind)
term_read bytes number rest column behind n w v c h e = (
  rw (h, c) refl,
  v.1,
  w.2 ∙ ap (λ x. 32 ∷ (x ++ rest)) e ∙ ap (λ x. 32 ∷ (numeral_text n ++ x)) v.2 ∙ sym (regrouped (n, column) behind),
)
