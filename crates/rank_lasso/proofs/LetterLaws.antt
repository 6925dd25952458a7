-- Letters at the front of bytes.
use Rattle.std.proofs.Common.{◌≡◌, ◌≢◌, ℕ, ◌^◌, ◌<◌, ◌≤◌, true, false, List, [], ◌∷◌, ◌++◌, Option, Result, Ok, Err, MatchOption, refl, sym, ap, ◌∙◌, subst, arith}
use Rattle.std.specs.List.{list_all}
use Rattle.std.specs.Result.{OkIff, result_ok}
use Rattle.std.specs.Fmt.{decimal}
use Rattle.std.proofs.lemmas.Bool.{false≢true}
use Rattle.boogie_tree.specs.Names.{is_digit}
use Rattle.trace_replay.proofs.Decimals.{AreDigits, decimal_digits, decimal_injective}
use Rattle.rank_lasso.specs.Lines.{HasNo, IsBreak}
use Rattle.rank_lasso.proofs.Cuts.{same_word}
use Rattle.rank_lasso.proofs.Contents.{decimal_has_no}

all_pass : (ds : List ℕ) → AreDigits ds → list_all is_digit ds ≡ true
all_pass [] h = refl
all_pass (d ∷ ds) h = rw (h.0, all_pass ds h.1) refl

-- what has another byte than digits is no number
pub not_a_number : (word : List ℕ) → list_all is_digit word ≡ false → (n : ℕ) → n < 10 ^ 64 → word ≢ decimal n
not_a_number word h n l e = false≢true (sym h ∙ ap (list_all is_digit) e ∙ all_pass (decimal n) (decimal_digits n l))

pub not_digits : (word : List ℕ) → list_all is_digit word ≡ false → (n : ℕ) → n < 2 ^ 32 → word ≢ decimal n
not_digits word h n l = not_a_number word h n (omega arith)

-- the word is a number below a bound, or no such number
abbrev pub IsNumberBelow : ℕ → List ℕ → Option ℕ → Type 0
IsNumberBelow b word o = MatchOption o ((n : ℕ) → n < b → word ≢ decimal n) (λ n. (n < b) × (word ≡ decimal n))

pub number_below : {E : Type 0} (b : ℕ) → b ≤ 2 ^ 64 → (word : List ℕ) (m : ℕ) (r : Result ℕ E) (o : Option ℕ) → OkIff r (m < b) m → o ≡ result_ok r → (m < 2 ^ 128) × (word ≡ decimal m) →
    IsNumberBelow b word o
number_below b k word m r o h e p = subst (IsNumberBelow b word) (sym e) (of_result r h)
  where
    of_result : {E : Type 0} (r : Result ℕ E) → OkIff r (m < b) m → IsNumberBelow b word (result_ok r)
    of_result (Ok x) h = (subst (λ (i : ℕ). i < b) (sym h.1) h.0, p.1 ∙ ap decimal (sym h.1))
    of_result (Err x) h = λ n l e. h (subst (λ (i : ℕ). i < b) (sym (decimal_injective m n (omega (arith, p.0)) (omega (arith, k, l)) (sym p.1 ∙ e))) l)

pub letter_of : {E : Type 0} (word : List ℕ) (m : ℕ) (r : Result ℕ E) (o : Option ℕ) → OkIff r (m < 2 ^ 32) m → o ≡ result_ok r → (m < 2 ^ 128) × (word ≡ decimal m) → IsNumberBelow (2 ^ 32) word o
letter_of word m r o h e p = number_below (2 ^ 32) (omega arith) word m r o h e p

-- a word that is no letter
pub no_letter : (bytes word rest : List ℕ) → HasNo 32 word × IsBreak rest × (bytes ≡ 32 ∷ (word ++ rest)) → ((n : ℕ) → n < 2 ^ 32 → word ≢ decimal n) →
    (x : ℕ) (more : List ℕ) → x < 2 ^ 32 → IsBreak more → bytes ≢ (32 ∷ decimal x) ++ more
no_letter bytes word rest read none x more l b e =
    let spelled = read.2 in
    let same : word ++ rest ≡ decimal x ++ more = cc in
    none x l (same_word word (decimal x) rest more read.0 read.1 (decimal_has_no 32 x refl l) b same).0
