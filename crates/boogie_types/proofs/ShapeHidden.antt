-- The names of hidden locals: spelled as made names are, and different from all names and from each other.
use Rattle.std.proofs.Common.{◌≡◌, ℕ, zero, suc, ◌+◌, ◌-◌, ◌<◌, true, false, not, List, [], ◌∷◌, ◌++◌, map, length, get_or, codes, bytes_eq, refl, ap, ap₂, sym, ◌∙◌, arith}
use Rattle.std.specs.Int.Digits.{digits_of, AllBelowBase}
use Rattle.std.specs.List.{list_all, list_any}
use Rattle.std.proofs.lemmas.Bool.{and_from, or_left, or_from, false_from_ne_true, false≢true}
use Rattle.std.proofs.lemmas.Bool.Decides.{nat_tests}
use Rattle.std.proofs.lemmas.Int.Digits.{all_below_base_digits_of, first_digits_of, same_from_digits_of}
use Rattle.std.proofs.lemmas.Slice.Eq.{bytes_eq-Decides}
use Rattle.boogie_tree.specs.Names.{is_digit, is_name, is_spelled}
use Rattle.typed_tree.specs.TypingRules.Rules.{all_differ}
use Rattle.boogie_types.specs.Sorted.{decimal_of, hidden_locals}
use Rattle.boogie_types.proofs.ShapeLists.{all_differ_cons}

abbrev pub hidden_name : ℕ → List ℕ
hidden_name n = codes "h:" ++ decimal_of n

-- ---- the digits of a number above 0

digit_is : (d : ℕ) → d < 10 → is_digit (48 + d) ≡ true
digit_is d h = grind (arith, nat_tests)

digits_are : (ds : List ℕ) → AllBelowBase 10 ds → list_all is_digit (map (λ d. 48 + d) ds) ≡ true
digits_are [] h = refl
digits_are (d ∷ ds) h = and_from (is_digit (48 + d)) (list_all is_digit (map (λ e. 48 + e) ds)) (digit_is d h.0) (digits_are ds h.1)

some_digit : (ds : List ℕ) → 0 < get_or ds 0 0 → 0 < length (map (λ d. 48 + d) ds)
some_digit [] h = absurd (omega arith)
some_digit (d ∷ ds) h = omega arith

-- the numbers of digits
digits_back : List ℕ → List ℕ
digits_back [] = []
digits_back (c ∷ cs) = (c - 48) ∷ digits_back cs

digits_again : (ds : List ℕ) → digits_back (map (λ d. 48 + d) ds) ≡ ds
unfolding digits_back
digits_again [] = refl
digits_again (d ∷ ds) = let e : (48 + d) - 48 ≡ d = omega arith in ap₂ (λ (c : ℕ) (cs : List ℕ). c ∷ cs) e (digits_again ds)

decimal_tells : (a b : ℕ) → decimal_of a ≡ decimal_of b → a ≡ b
decimal_tells a b e =
    same_from_digits_of 10 a b (omega arith) (sym (digits_again (digits_of 10 a)) ∙ (ap digits_back e ∙ digits_again (digits_of 10 b)))

-- ---- the name of a hidden local

made_spelled : (ds : List ℕ) → 0 < length ds → list_all is_digit ds ≡ true → is_spelled (104 ∷ 58 ∷ ds) ≡ true
made_spelled [] few h = absurd (omega arith)
made_spelled (d ∷ ds) few h = or_left (list_all is_digit (d ∷ ds)) (is_name (d ∷ ds)) h

hidden_spelled : (n : ℕ) → 0 < n → is_spelled (hidden_name n) ≡ true
hidden_spelled n some =
    made_spelled (decimal_of n) (some_digit (digits_of 10 n) (first_digits_of 10 n (omega arith) some))
    (digits_are (digits_of 10 n) (all_below_base_digits_of 10 n (omega arith)))

-- a name has no colon
pub no_name : (n : ℕ) → is_name (hidden_name n) ≡ false
no_name n = refl

same_bytes : (xs ys : List ℕ) → bytes_eq xs ys ≡ true → xs ≡ ys
same_bytes xs ys e = (bytes_eq-Decides xs ys).0 e

name_apart : (x : List ℕ) (n : ℕ) → is_name x ≡ true → bytes_eq x (hidden_name n) ≡ false
name_apart x n h =
    false_from_ne_true (bytes_eq x (hidden_name n))
    (λ e. false≢true (sym (no_name n) ∙ (ap is_name (sym (same_bytes x (hidden_name n) e)) ∙ h)))

pub names_apart : (x : List ℕ) (from n : ℕ) → is_name x ≡ true → list_any (bytes_eq x) (map (λ v. v.name) (hidden_locals from n)) ≡ false
names_apart x from zero h = refl
names_apart x from (suc n) h =
    or_from (bytes_eq x (hidden_name from)) (list_any (bytes_eq x) (map (λ v. v.name) (hidden_locals (from + 1) n))) (name_apart x from h) (names_apart x (from + 1) n h)

-- what is behind the mark tells the number
behind_mark : List ℕ → List ℕ
behind_mark (a ∷ b ∷ bs) = bs
behind_mark bs = []

hidden_apart : (a b : ℕ) → a < b → bytes_eq (hidden_name a) (hidden_name b) ≡ false
unfolding behind_mark
hidden_apart a b less =
    false_from_ne_true (bytes_eq (hidden_name a) (hidden_name b))
    (λ e.
    let s : hidden_name a ≡ hidden_name b = same_bytes (hidden_name a) (hidden_name b) e in
    let d : decimal_of a ≡ decimal_of b = ap behind_mark s in
    let n : a ≡ b = decimal_tells a b d in
    omega arith)

later_apart : (a from n : ℕ) → a < from → list_any (bytes_eq (hidden_name a)) (map (λ v. v.name) (hidden_locals from n)) ≡ false
later_apart a from zero less = refl
later_apart a from (suc n) less =
    or_from (bytes_eq (hidden_name a) (hidden_name from)) (list_any (bytes_eq (hidden_name a)) (map (λ v. v.name) (hidden_locals (from + 1) n)))
    (hidden_apart a from less) (later_apart a (from + 1) n (omega arith))

pub hidden_differ : (from n : ℕ) → all_differ bytes_eq (map (λ v. v.name) (hidden_locals from n)) ≡ true
hidden_differ from zero = refl
hidden_differ from (suc n) =
    all_differ_cons bytes_eq (hidden_name from) (map (λ v. v.name) (hidden_locals (from + 1) n))
    (later_apart from (from + 1) n (omega arith)) (hidden_differ (from + 1) n)

pub all_hidden_spelled : (from n : ℕ) → 0 < from → list_all is_spelled (map (λ v. v.name) (hidden_locals from n)) ≡ true
all_hidden_spelled from zero some = refl
all_hidden_spelled from (suc n) some =
    and_from (is_spelled (hidden_name from)) (list_all is_spelled (map (λ v. v.name) (hidden_locals (from + 1) n)))
    (hidden_spelled from some) (all_hidden_spelled (from + 1) n (omega arith))

-- no hidden local is a constant
pub hidden_vary : (from n : ℕ) → list_all (λ v. not v.constant) (hidden_locals from n) ≡ true
hidden_vary from zero = refl
hidden_vary from (suc n) = hidden_vary (from + 1) n
