-- Lines at the front of bytes.
use Rattle.std.proofs.Common.{◌≡◌, ◌≢◌, ℕ, ◌^◌, ◌<◌, ◌≤◌, ℤ, pos, negsuc, unsigned_abs, true, false, List, [], ◌∷◌, ◌++◌, codes, drop, Option, Some, None, Result, Ok, Err, refl, sym, ap, ◌∙◌, subst, arith, append_assoc}
use Rattle.std.specs.Borrow.{Bor}
use Rattle.std.specs.Result.{OkIff, result_ok}
use Rattle.std.specs.Fmt.{decimal}
use Rattle.std.proofs.lemmas.List.{append_cancel_left}
use Rattle.boogie_tree.specs.Names.{is_digit}
use Rattle.boogie_run.specs.declared.types.AssertId.{AssertId}
use Rattle.boogie_run.specs.declared.types.Choice.{Choice}
use Rattle.math_facts.specs.Fits.{Fits}
use Rattle.trace_replay.specs.FailureText.{numbered_line, assertion_line, value_line}
use Rattle.trace_replay.specs.Ties.Pieces.{Reads, IsBelowZero}
use Rattle.trace_replay.proofs.Decimals.{AreDigits, decimal_digits}
use Rattle.trace_replay.proofs.NumeralReading.{same_number}

-- a result that is no Ok
pub not_ok : {T E P : Type 0} (v : T) (r : Result T E) → OkIff r P v → None ≡ result_ok r → P → ⊥
not_ok v (Ok x) h e p = let n : ⊥ = cc in n
not_ok v (Err x) h e p = h p

-- Another number is in front than those below a limit.
pub another_number : (m end limit : ℕ) (bytes rest : List ℕ) → (m < 2 ^ 128) × (bytes ≡ (decimal m ++ end ∷ []) ++ rest) → is_digit end ≡ false → limit ≤ 2 ^ 128 → (m < limit → ⊥) → (n : ℕ) (more : List ℕ) → n < limit → bytes ≢ (decimal n ++ end ∷ []) ++ more
another_number m end limit bytes rest read stop wide over n more small e =
    let same = same_number m n end bytes rest more read.0 (omega arith) stop read.1 e in
    over (subst (λ k. k < limit) (sym same.0) small)

-- Values

pub below_zero_is_not_zero : (z : ℤ) → IsBelowZero z → 0 < unsigned_abs z
below_zero_is_not_zero (pos n) h = absurd h
below_zero_is_not_zero (negsuc n) h = omega arith

-- 0 with a minus is no value
pub minus_zero : (m : ℕ) (bytes rest : List ℕ) → (m < 2 ^ 128) × (bytes ≡ (decimal m ++ 10 ∷ []) ++ rest) → m ≡ 0 → (x : Choice) (more : List ℕ) → Fits x.0 × IsBelowZero x.0 → bytes ≢ (decimal (unsigned_abs x.0) ++ 10 ∷ []) ++ more
minus_zero m bytes rest read zero x more fits e =
    let same = same_number m (unsigned_abs x.0) 10 bytes rest more read.0 (omega (arith, fits.0)) refl read.1 e in
    omega (arith, below_zero_is_not_zero x.0 fits.1, same.0)

-- a decimal begins with no minus
pub no_minus : (n : ℕ) (ds rest more : List ℕ) → ds ≡ decimal n → n < 10 ^ 64 → (ds ++ 10 ∷ []) ++ rest ≢ 45 ∷ more
no_minus n [] rest more is small e = let no : ⊥ = cc in no
no_minus n (d ∷ ds) rest more is small e =
    let digits = subst (λ xs. AreDigits xs) (sym is) (decimal_digits n small) in
    let minus : d ≡ 45 = cc in
    let digit : is_digit 45 ≡ true = subst (λ b. is_digit b ≡ true) minus digits.0 in
    let no : ⊥ = cc in no

-- a value below 0 is its magnitude behind a minus
below_zero_line : (z : ℤ) → IsBelowZero z → value_line z ≡ 45 ∷ (decimal (unsigned_abs z) ++ 10 ∷ [])
below_zero_line (pos n) h = absurd h
below_zero_line (negsuc n) h = refl

no_value : (z : ℤ) (bytes rest more : List ℕ) → bytes ≡ (45 ∷ []) ++ rest → ((x : Choice) (r : List ℕ) → Fits x.0 × IsBelowZero x.0 → rest ≢ (decimal (unsigned_abs x.0) ++ 10 ∷ []) ++ r) → Fits z → bytes ≢ value_line z ++ more
no_value (pos n) bytes rest more is none fits e = no_minus n (decimal n) more rest refl (omega arith) (sym e ∙ is)
no_value (negsuc n) bytes rest more is none fits e = none (record { 0 = negsuc n }) more (fits, tt) (ap (drop 1) (sym is ∙ e))

-- a value behind a minus
pub minus_and_value : (bytes rest : List ℕ) (r : Option (Choice × Bor (List ℕ))) → bytes ≡ (45 ∷ []) ++ rest → Reads {A = Choice} (λ c. Fits c.0 × IsBelowZero c.0) (λ c. decimal (unsigned_abs c.0) ++ 10 ∷ []) rest r → Reads {A = Choice} (λ c. Fits c.0) (λ c. value_line c.0) bytes r
minus_and_value bytes rest None is h = λ x more fits e. no_value x.0 bytes rest more is h fits e
minus_and_value bytes rest (Some found) is h =
    (h.0.0, is ∙ ap (λ bs. 45 ∷ bs) h.1 ∙ ap (λ bs. bs ++ found.1.now) (sym (below_zero_line found.0.0 h.0.1)))

-- A word and a number

pub no_word : (word bytes : List ℕ) → ((rest : List ℕ) → bytes ≢ word ++ rest) → (n : ℕ) (more : List ℕ) → n < 2 ^ 64 → bytes ≢ numbered_line word n ++ more
no_word word bytes none n more small e = none ((decimal n ++ 10 ∷ []) ++ more) (e ∙ append_assoc word (decimal n ++ 10 ∷ []) more)

pub number_behind_word : (word bytes rest : List ℕ) (r : Option (ℕ × Bor (List ℕ))) → bytes ≡ word ++ rest → Reads {A = ℕ} (λ n. n < 2 ^ 64) (λ n. decimal n ++ 10 ∷ []) rest r → Reads {A = ℕ} (λ n. n < 2 ^ 64) (numbered_line word) bytes r
number_behind_word word bytes rest None is h =
    λ n more small e. h n more small (append_cancel_left word rest ((decimal n ++ 10 ∷ []) ++ more) (sym is ∙ e ∙ append_assoc word (decimal n ++ 10 ∷ []) more))
number_behind_word word bytes rest (Some found) is h =
    (h.0, is ∙ ap (λ bs. word ++ bs) h.1 ∙ sym (append_assoc word (decimal found.0 ++ 10 ∷ []) found.1.now))

-- Assertions

-- what stands behind the number of an assertion
abbrev behind_number : ℕ → List ℕ → List ℕ
behind_number line more = codes "line " ++ ((decimal line ++ 10 ∷ []) ++ more)

-- and behind the word
behind_word : (number line : ℕ) (bytes rest more : List ℕ) → bytes ≡ codes "assertion " ++ rest → bytes ≡ assertion_line number line ++ more → rest ≡ (decimal number ++ 32 ∷ []) ++ behind_number line more
behind_word number line bytes rest more is e =
    append_cancel_left (codes "assertion ") rest ((decimal number ++ 32 ∷ []) ++ behind_number line more)
    (sym is ∙ e ∙ simp append_assoc)

-- The word is not in front.
pub no_assertion_word : (bytes : List ℕ) → ((rest : List ℕ) → bytes ≢ codes "assertion " ++ rest) → (id : AssertId) (more : List ℕ) → (id.number < 2 ^ 32) × (id.line < 2 ^ 32) → bytes ≢ assertion_line id.number id.line ++ more
no_assertion_word bytes none id more small e = none ((decimal id.number ++ (codes " line " ++ (decimal id.line ++ 10 ∷ []))) ++ more) (e ∙ append_assoc (codes "assertion ") (decimal id.number ++ (codes " line " ++ (decimal id.line ++ 10 ∷ []))) more)

-- No number is behind the word.
pub no_assertion_number : (bytes rest : List ℕ) → bytes ≡ codes "assertion " ++ rest → ((n : ℕ) (more : List ℕ) → n < 2 ^ 32 → rest ≢ (decimal n ++ 32 ∷ []) ++ more) → (id : AssertId) (more : List ℕ) → (id.number < 2 ^ 32) × (id.line < 2 ^ 32) → bytes ≢ assertion_line id.number id.line ++ more
no_assertion_number bytes rest is none id more small e = none id.number (behind_number id.line more) small.0 (behind_word id.number id.line bytes rest more is e)

-- what is behind the number
after_number : (n : ℕ) (id : AssertId) (bytes rest behind more : List ℕ) → bytes ≡ codes "assertion " ++ rest → (n < 2 ^ 32) × (rest ≡ (decimal n ++ 32 ∷ []) ++ behind) → id.number < 2 ^ 32 → bytes ≡ assertion_line id.number id.line ++ more → behind ≡ behind_number id.line more
after_number n id bytes rest behind more is read small e =
    (same_number n id.number 32 rest behind (behind_number id.line more) (omega (arith, read.0)) (omega arith) refl read.1 (behind_word id.number id.line bytes rest more is e)).1

-- No `line` is behind the number.
pub no_assertion_line : (n : ℕ) (bytes rest behind : List ℕ) → bytes ≡ codes "assertion " ++ rest → (n < 2 ^ 32) × (rest ≡ (decimal n ++ 32 ∷ []) ++ behind) → ((more : List ℕ) → behind ≢ codes "line " ++ more) → (id : AssertId) (more : List ℕ) → (id.number < 2 ^ 32) × (id.line < 2 ^ 32) → bytes ≢ assertion_line id.number id.line ++ more
no_assertion_line n bytes rest behind is read none id more small e = none ((decimal id.line ++ 10 ∷ []) ++ more) (after_number n id bytes rest behind more is read small.0 e)

-- No number is behind `line`.
pub no_line_number : (n : ℕ) (bytes rest behind last : List ℕ) → bytes ≡ codes "assertion " ++ rest → (n < 2 ^ 32) × (rest ≡ (decimal n ++ 32 ∷ []) ++ behind) → behind ≡ codes "line " ++ last → ((m : ℕ) (more : List ℕ) → m < 2 ^ 32 → last ≢ (decimal m ++ 10 ∷ []) ++ more) → (id : AssertId) (more : List ℕ) → (id.number < 2 ^ 32) × (id.line < 2 ^ 32) → bytes ≢ assertion_line id.number id.line ++ more
no_line_number n bytes rest behind last is read line none id more small e =
    none id.line more small.1
    (append_cancel_left (codes "line ") last ((decimal id.line ++ 10 ∷ []) ++ more) (sym line ∙ after_number n id bytes rest behind more is read small.0 e))
