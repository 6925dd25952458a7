-- Small facts about lists, tests and texts.
use Rattle.std.proofs.Common.{◌≡◌, ℕ, ◌<◌, ◌≤◌, Bool, true, false, not, ◌&&◌, nat_eq, List, [], ◌∷◌, ◌++◌, length, Option, Some, None, ◌⊎◌, inl, inr, refl, arith, length-append, subst}
use Rattle.std.proofs.lemmas.List.{append-nil}
use Rattle.std.specs.List.{list_all, flat_map, AllByRecursion, prefix_len}
use Rattle.boogie_tree.specs.Names.{is_digit}
use Rattle.proof_form.specs.Outcomes.{then_or}
use Rattle.std.proofs.lemmas.Bool.{false≢true}
use Rattle.std.proofs.lemmas.Bool.Decides.{nat_tests}
use Rattle.proof_form.specs.declared.numerals.Numeral.{Numeral}
use Rattle.proof_form.specs.Numerals.{is_numeral, numeral_text}
use Rattle.proof_form.specs.Reading.{is_word_byte, is_number_byte, item_follows}
use Rattle.proof_form.proofs.RunLaws.{both_hold}

-- each passes the test
pub each_passes : {A : Type 0} (p : A → Bool) (xs : List A) → list_all p xs ≡ true → AllByRecursion (λ x. p x ≡ true) xs
each_passes p [] h = tt
each_passes p (x ∷ xs) h = let k = both_hold (p x) _ h in (k.0, each_passes p xs k.1)

-- there are no more texts than bytes, where none is empty
pub no_more_texts : {A : Type 0} (text : A → List ℕ) (rest : List ℕ) → ((x : A) → 0 < length (text x)) → (xs : List A) → length xs ≤ length (flat_map text xs ++ rest)
no_more_texts text rest some [] = omega arith
no_more_texts text rest some (x ∷ xs) =
    let h = no_more_texts text rest some xs in
    let s = some x in
    let a = length-append (flat_map text xs) rest in
    let b = length-append (text x ++ flat_map text xs) rest in
    let c = length-append (text x) (flat_map text xs) in omega arith

pub no_more_texts_alone : {A : Type 0} (text : A → List ℕ) → ((x : A) → 0 < length (text x)) → (xs : List A) → length xs ≤ length (flat_map text xs)
no_more_texts_alone text some xs = let h = no_more_texts text [] some xs in subst (λ bs. length xs ≤ length bs) (append-nil (flat_map text xs)) h

-- which of two readings gave something
pub which_read : {A B : Type 0} (o : Option A) (f : A → Option B) (other : Option B) (y : B) → then_or o f other ≡ Some y → ((x : A) × (o ≡ Some x) × (f x ≡ Some y)) ⊎ (other ≡ Some y)
which_read None f other y h = inr h
which_read (Some x) f other y h = inl (x, refl, h)

-- a numeral does not begin with a parenthesis
no_parenthesis : (d : ℕ) → is_digit d ≡ true → not (nat_eq d 40) ≡ true
no_parenthesis d h = grind (arith, nat_tests)

first_of_numeral : (negative : Bool) (ds rest : List ℕ) → is_numeral (record { negative = negative; digits = ds }) ≡ true → item_follows (32 ∷ (numeral_text (record { negative = negative; digits = ds }) ++ rest)) ≡ true
first_of_numeral true ds rest h = refl
first_of_numeral false [] rest h = absurd (false≢true h)
first_of_numeral false (d ∷ ds) rest h =
    let k = both_hold (is_digit d && list_all is_digit ds) _ h in
    let j = both_hold (is_digit d) _ k.0 in no_parenthesis d j.0

pub numeral_follows : (n : Numeral) (rest : List ℕ) → is_numeral n ≡ true → item_follows (32 ∷ (numeral_text n ++ rest)) ≡ true
numeral_follows n rest h = first_of_numeral n.negative n.digits rest h

-- no byte of a name or of a numeral follows
pub record Stops (rest : List ℕ) : Type 0 where
  pub word : prefix_len is_word_byte rest ≡ 0
  pub number : prefix_len is_number_byte rest ≡ 0

pub nothing_stops : Stops []
nothing_stops = record { word = refl; number = refl }

pub space_stops : (rest : List ℕ) → Stops (32 ∷ rest)
space_stops rest = record { word = refl; number = refl }

pub end_stops : (rest : List ℕ) → Stops (41 ∷ rest)
end_stops rest = record { word = refl; number = refl }
