-- How long what a text begins with is.
use Rattle.std.proofs.Common.{◌≡◌, ℕ, suc, ◌<◌, ◌≤◌, Bool, true, nat_eq, List, [], ◌∷◌, length, arith}
use Rattle.std.specs.List.{starts_with}
use Rattle.std.proofs.lemmas.Bool.{and_parts, cond_both}
use Rattle.boogie_parse.specs.Lexing.Tokens.{passing_length}

pub run_within : (p : ℕ → Bool) (bs : List ℕ) → passing_length p bs ≤ length bs
run_within p [] = omega arith
run_within p (b ∷ bs) =
    let short = run_within p bs in
    cond_both (p b) (suc (passing_length p bs)) 0 (λ n. n ≤ suc (length bs)) (λ _. omega arith) (λ _. omega arith)

pub run_fits : (p : ℕ → Bool) (b : ℕ) (bs : List ℕ) → p b ≡ true → (0 < passing_length p (b ∷ bs)) × (passing_length p (b ∷ bs) ≤ length (b ∷ bs))
run_fits p b bs passes =
    let short = run_within p bs in
    rw passes (omega arith, omega arith)

-- what a text begins with is no longer than the text
pub front_within : (m text : List ℕ) → starts_with nat_eq text m ≡ true → length m ≤ length text
front_within [] text is = omega arith
front_within (b ∷ m) [] is = cc
front_within (b ∷ m) (c ∷ text) is =
    let short = front_within m text (and_parts (nat_eq b c) (starts_with nat_eq text m) is).1 in
    omega arith
