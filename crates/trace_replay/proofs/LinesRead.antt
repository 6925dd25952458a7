-- What is read of the lines, and what is left of the text.
use Rattle.std.proofs.Common.{◌≡◌, ◌≢◌, ◌∙◌, ℕ, suc, ◌^◌, ◌<◌, ◌==◌, true, false, List, [], ◌∷◌, ◌++◌, codes, length, refl, ap, arith, append_assoc}
use Rattle.std.specs.Fmt.{decimal}
use Rattle.std.proofs.lemmas.Bool.{eqb-true}
use Rattle.trace_replay.specs.FailureText.{assertion_line}

-- an assertion behind both words
pub assertion_read : (number line : ℕ) (bytes rest behind last left : List ℕ) → bytes ≡ codes "assertion " ++ rest → (number < 2 ^ 32) × (rest ≡ (decimal number ++ 32 ∷ []) ++ behind) → behind ≡ codes "line " ++ last → (line < 2 ^ 32) × (last ≡ (decimal line ++ 10 ∷ []) ++ left) → ((number < 2 ^ 32) × (line < 2 ^ 32)) × (bytes ≡ assertion_line number line ++ left)
assertion_read number line bytes rest behind last left is read word more = (
  (read.0, more.0),
  is
      ∙ ap (λ bs. codes "assertion " ++ bs) (read.1 ∙ ap (λ bs. (decimal number ++ 32 ∷ []) ++ bs) (word ∙ ap (λ bs. codes "line " ++ bs) more.1))
      ∙ simp append_assoc,
)

-- nothing is left
pub none_left : (rest : List ℕ) → (length rest == 0) ≡ true → rest ≡ []
none_left [] e = refl
none_left (b ∷ bs) e = absurd (let z : suc (length bs) ≡ 0 = eqb-true (suc (length bs)) 0 e in omega (arith, z))

-- and some is
pub some_left : (rest : List ℕ) → (length rest == 0) ≡ false → rest ≢ []
some_left [] e = absurd (let z : true ≡ false = e in cc)
some_left (b ∷ bs) e = λ q. let no : ⊥ = cc in no
