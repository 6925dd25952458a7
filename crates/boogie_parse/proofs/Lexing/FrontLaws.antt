-- What a text begins with has one byte or more, and no more than the text.
use Rattle.std.proofs.Common.{◌≡◌, ℕ, zero, suc, ◌+◌, ◌^◌, ◌<◌, ◌≤◌, Bool, true, false, ◌||◌, not, nat_eq, nat_lt, List, [], ◌∷◌, length, take, drop, Option, None, Some, IfSome, codes, refl, arith, length-drop, ltb-true}
use Rattle.std.specs.List.{find, list_all, starts_with}
use Rattle.std.specs.Str.Parse.{digits_value}
use Rattle.std.proofs.lemmas.Bool.{and_parts, cond_both}
use Rattle.boogie_tree.specs.Names.{is_digit, is_name_byte}
use Rattle.boogie_parse.specs.Lexing.Bytes.{is_blank}
use Rattle.boogie_parse.specs.Lexing.Tokens.{passing_length, marks, makes_real}
use Rattle.boogie_parse.specs.Lexing.Pieces.{Front, longer, opens_comment, closes_comment, comment_length, string_length, is_in_line, literal_front, comment_front, string_front, mark_front, front}
use Rattle.boogie_parse.specs.Ties.Turns.{length_of}
use Rattle.boogie_parse.proofs.Lexing.TokenExtents.{run_within, run_fits, front_within}

-- it has one byte or more, and stands in the text
abbrev pub Fits : List ℕ → Front → Type 0
Fits text f = (0 < length_of f) × (length_of f ≤ length text)

longer_within : (k m n : ℕ) (o : Option ℕ) → k + m ≤ n → IfSome o (λ i. i ≤ m) → IfSome (longer k o) (λ i. i ≤ n)
longer_within k m n None h within = tt
longer_within k m n (Some i) h within = omega arith

pub comment_within : (inner : ℕ) (bs : List ℕ) → IfSome (comment_length inner bs) (λ n. n ≤ length bs)
comment_within inner [] = tt
comment_within inner (a ∷ []) = tt
comment_within zero (a ∷ b ∷ r) =
    let P : Option ℕ → Type 0 = λ o. IfSome o (λ n. n ≤ length (a ∷ b ∷ r)) in
    cond_both (opens_comment a b) _ _ P
    (λ _. longer_within 2 (length r) _ (comment_length 1 r) (omega arith) (comment_within 1 r))
    (λ _. cond_both (closes_comment a b) _ _ P (λ _. omega arith) (λ _. longer_within 1 (length (b ∷ r)) _ (comment_length zero (b ∷ r)) (omega arith) (comment_within zero (b ∷ r))))
comment_within (suc inner) (a ∷ b ∷ r) =
    let P : Option ℕ → Type 0 = λ o. IfSome o (λ n. n ≤ length (a ∷ b ∷ r)) in
    cond_both (opens_comment a b) _ _ P
    (λ _. longer_within 2 (length r) _ (comment_length (suc (suc inner)) r) (omega arith) (comment_within (suc (suc inner)) r))
    (λ _. cond_both (closes_comment a b) _ _ P
    (λ _. longer_within 2 (length r) _ (comment_length inner r) (omega arith) (comment_within inner r))
    (λ _. longer_within 1 (length (b ∷ r)) _ (comment_length (suc inner) (b ∷ r)) (omega arith) (comment_within (suc inner) (b ∷ r))))

string_within : (before : ℕ) (bs : List ℕ) → IfSome (string_length before bs) (λ n. n ≤ length bs)
string_within before [] = tt
string_within before (b ∷ r) =
    let P : Option ℕ → Type 0 = λ o. IfSome o (λ n. n ≤ length (b ∷ r)) in
    cond_both (nat_eq b 10) _ _ P (λ _. tt)
    (λ _. cond_both _ (Some 1) (longer 1 (string_length b r)) P (λ _. omega arith) (λ _. longer_within 1 (length r) _ (string_length b r) (omega arith) (string_within b r)))

literal_fits : (b : ℕ) (r : List ℕ) → is_digit b ≡ true → Fits (b ∷ r) (literal_front (passing_length is_digit (b ∷ r)) (b ∷ r))
literal_fits b r digit =
    let P : Front → Type 0 = Fits (b ∷ r) in
    let fits : (0 < passing_length is_digit (b ∷ r)) × (passing_length is_digit (b ∷ r) ≤ length (b ∷ r)) = run_fits is_digit b r digit in
    cond_both (nat_lt (digits_value 10 (take (passing_length is_digit (b ∷ r)) (b ∷ r))) (2 ^ 127)) _ _ P
    (λ _. cond_both (makes_real (drop (passing_length is_digit (b ∷ r)) (b ∷ r))) _ _ P (λ _. fits) (λ _. fits))
    (λ _. fits)

string_fits : (b : ℕ) (r : List ℕ) → Fits (b ∷ r) (string_front (passing_length is_in_line r) (string_length 34 r))
string_fits b r = by_length b r (string_length 34 r) (string_within 34 r)
  where
    by_length : (b : ℕ) (r : List ℕ) (o : Option ℕ) → IfSome o (λ n. n ≤ length r) → Fits (b ∷ r) (string_front (passing_length is_in_line r) o)
    by_length b r None h = let short = run_within is_in_line r in (omega arith, omega arith)
    by_length b r (Some n) h = (omega arith, omega arith)

comment_fits : (b : ℕ) (r : List ℕ) → starts_with nat_eq (b ∷ r) (codes "/*") ≡ true → Fits (b ∷ r) (comment_front (length (b ∷ r)) (comment_length 0 (drop 1 r)))
comment_fits b r begins = by_length b r (comment_length 0 (drop 1 r)) (front_within (codes "/*") (b ∷ r) begins) (comment_within 0 (drop 1 r))
  where
    by_length : (b : ℕ) (r : List ℕ) (o : Option ℕ) → 2 ≤ length (b ∷ r) → IfSome o (λ n. n ≤ length (drop 1 r)) → Fits (b ∷ r) (comment_front (length (b ∷ r)) o)
    by_length b r None two h = (omega arith, omega arith)
    by_length b r (Some n) two h = let rest = length-drop 1 r in (omega arith, omega arith)

mark_fits : (b : ℕ) (r : List ℕ) (ms : List (List ℕ)) → list_all (λ m. nat_lt 0 (length m)) ms ≡ true → Fits (b ∷ r) (mark_front (find (λ m. starts_with nat_eq (b ∷ r) m) ms))
mark_fits b r [] some = (omega arith, omega arith)
mark_fits b r (m ∷ ms) some =
    let parts = and_parts (nat_lt 0 (length m)) (list_all (λ m. nat_lt 0 (length m)) ms) some in
    cond_both (starts_with nat_eq (b ∷ r) m) (Some m) (find (λ m. starts_with nat_eq (b ∷ r) m) ms) (λ o. Fits (b ∷ r) (mark_front o))
    (λ is. (ltb-true 0 (length m) parts.0, front_within m (b ∷ r) is))
    (λ _. mark_fits b r ms parts.1)

-- what is no blank is no line feed
in_line : (b : ℕ) → is_blank b ≡ false → is_in_line b ≡ true
in_line b h = by_tests (nat_eq b 32) (nat_eq b 9) (nat_eq b 10) (nat_eq b 13) h
  where
    by_tests : (x y z w : Bool) → (((x || y) || z) || w) ≡ false → not z ≡ true
    by_tests true y z w h = cc
    by_tests false true z w h = cc
    by_tests false false true w h = cc
    by_tests false false false w h = refl

pub front_fits : (b : ℕ) (r : List ℕ) → Fits (b ∷ r) (front b r)
unfolding front
front_fits b r =
    let P : Front → Type 0 = Fits (b ∷ r) in
    cond_both (is_blank b) _ _ P (λ _. (omega arith, omega arith))
    (λ ink. cond_both (is_digit b) _ _ P (literal_fits b r)
    (λ _. cond_both (is_name_byte b) _ _ P (run_fits is_name_byte b r)
    (λ _. cond_both (nat_eq b 34) _ _ P (λ _. string_fits b r)
    (λ _. cond_both (starts_with nat_eq (b ∷ r) (codes "//")) _ _ P (λ _. run_fits is_in_line b r (in_line b ink))
    (λ _. cond_both (starts_with nat_eq (b ∷ r) (codes "/*")) _ _ P (comment_fits b r)
    (λ _. mark_fits b r marks refl))))))
