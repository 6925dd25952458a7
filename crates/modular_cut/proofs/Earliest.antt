-- The earliest place is the first in the text.
use Rattle.std.proofs.Common.{◌≡◌, ◌⊎◌, inl, inr, zero, suc, ◌<◌, ◌≤◌, Bool, true, false, ◌&&◌, ◌||◌, nat_lt, nat_eq, List, [], ◌∷◌, Option, None, Some, Contains, refl, sym, ap, subst, ◌∙◌, arith, if◌then◌else◌}
use Rattle.std.proofs.lemmas.Bool.Decides.{nat_tests}
use Rattle.boogie_tree.specs.declared.span.Span.{Span}
use Rattle.typed_tree.specs.TypedTree.{TypedProgram}
use Rattle.boogie_tree.specs.Spans.{stands_before}
use Rattle.modular_cut.specs.Ties.Earliest.{earlier, earliest}
use Rattle.modular_cut.specs.FreeConditions.{free_spans, IsNotAfter, IsFirstFree}

not_after_self : (a : Span) → IsNotAfter a a
not_after_self a = inr (refl, omega arith)

not_after_trans : (a b c : Span) → IsNotAfter a b → IsNotAfter b c → IsNotAfter a c
not_after_trans a b c (inl h) (inl k) = inl (omega arith)
not_after_trans a b c (inl h) (inr (e, k)) = inl (omega arith)
not_after_trans a b c (inr (e, h)) (inl k) = inl (omega arith)
not_after_trans a b c (inr (e, h)) (inr (f, k)) = inr (e ∙ f, omega arith)

before_is : (a b : Span) → stands_before a b ≡ true → IsNotAfter a b
before_is a b h = by_line (nat_lt a.line b.line) refl h
  where
    by_col : (x y : Bool) → nat_eq a.line b.line ≡ x → nat_lt a.col b.col ≡ y → (x && y) ≡ true → IsNotAfter a b
    by_col true true e f h =
        let same : a.line ≡ b.line = grind (arith, nat_tests) in
        let less : a.col ≤ b.col = grind (arith, nat_tests) in inr (same, less)
    by_col true false e f h = absurd (cc)
    by_col false y e f h = absurd (cc)

    by_line : (x : Bool) → nat_lt a.line b.line ≡ x → (x || (nat_eq a.line b.line && nat_lt a.col b.col)) ≡ true → IsNotAfter a b
    by_line true e h = let less : a.line < b.line = grind (arith, nat_tests) in inl less
    by_line false e h = by_col (nat_eq a.line b.line) (nat_lt a.col b.col) refl refl h

not_before_is : (a b : Span) → stands_before a b ≡ false → IsNotAfter b a
not_before_is a b h = by_line (nat_lt a.line b.line) refl h
  where
    by_col : (x y : Bool) → nat_lt a.line b.line ≡ false → nat_eq a.line b.line ≡ x → nat_lt a.col b.col ≡ y → (x && y) ≡ false → IsNotAfter b a
    by_col true true n e f h = absurd (cc)
    by_col true false n e f h =
        let same : b.line ≡ a.line = grind (arith, nat_tests) in
        let less : b.col ≤ a.col = grind (arith, nat_tests) in inr (same, less)
    by_col false y n e f h = let less : b.line < a.line = grind (arith, nat_tests) in inl less

    by_line : (x : Bool) → nat_lt a.line b.line ≡ x → (x || (nat_eq a.line b.line && nat_lt a.col b.col)) ≡ false → IsNotAfter b a
    by_line true e h = absurd (cc)
    by_line false e h = by_col (nat_eq a.line b.line) (nat_lt a.col b.col) e refl refl h

-- none of these, and not the one that was told, stands before the place, which is one of them
record IsEarliest (so_far : Option Span) (ss : List Span) (at : Span) : Type 0 where
  among : (so_far ≡ Some at) ⊎ Contains ss at
  told : (s : Span) → so_far ≡ Some s → IsNotAfter at s
  first : (s : Span) → Contains ss s → IsNotAfter at s

contains_next : {X : Type 0} (x y : X) (xs : List X) → Contains xs y → Contains (x ∷ xs) y
contains_next x y xs (k, l, e) = (suc k, omega arith, e)

earlier_one : (o : Option Span) (s a : Span) → earlier o s ≡ Some a → ((o ≡ Some a) ⊎ (s ≡ a)) × IsNotAfter a s × ((b : Span) → o ≡ Some b → IsNotAfter a b)
earlier_one None s a e = let same : s ≡ a = cc in (inr same, subst (λ (x : Span). IsNotAfter x s) same (not_after_self s), λ b f. absurd (cc))
earlier_one (Some b) s a e = by_test (stands_before s b) refl e
  where
    by_test : (x : Bool) → stands_before s b ≡ x → (if x then Some s else Some b) ≡ Some a → ((Some b ≡ Some a) ⊎ (s ≡ a)) × IsNotAfter a s × ((c : Span) → Some b ≡ Some c → IsNotAfter a c)
    by_test true t f =
        let same : s ≡ a = cc in
        (inr same, subst (λ (x : Span). IsNotAfter x s) same (not_after_self s), λ c g. let told : b ≡ c = cc in subst (λ (x : Span). IsNotAfter a x) told (subst (λ (x : Span). IsNotAfter x b) same (before_is s b t)))
    by_test false t f =
        let same : b ≡ a = cc in
        (inl f, subst (λ (x : Span). IsNotAfter x s) same (not_before_is s b t), λ c g. let told : b ≡ c = cc in subst (λ (x : Span). IsNotAfter a x) told (subst (λ (x : Span). IsNotAfter x b) same (not_after_self b)))

some_earlier : (o : Option Span) (s : Span) → (a : Span) × (earlier o s ≡ Some a)
some_earlier None s = (s, refl)
some_earlier (Some b) s = by_test (stands_before s b)
  where
    by_test : (x : Bool) → (a : Span) × ((if x then Some s else Some b) ≡ Some a)
    by_test true = (s, refl)
    by_test false = (b, refl)

earliest_is : (o : Option Span) (ss : List Span) (at : Span) → earliest o ss ≡ Some at → IsEarliest o ss at
earliest_is o [] at e = record {
  among = inl e;
  told = λ s f. let one : Some at ≡ Some s = sym e ∙ f in let same : at ≡ s = cc in subst (λ (x : Span). IsNotAfter at x) same (not_after_self at);
  first = λ s (k, l, f). absurd (omega arith);
}
earliest_is o (x ∷ xs) at e =
    let later : IsEarliest (earlier o x) xs at = earliest_is (earlier o x) xs at e in
    let some = some_earlier o x in
    let a : Span = some.0 in
    let one = earlier_one o x a some.1 in
    let below : IsNotAfter at a = later.told a some.1 in
    record {
      among = by_among a some.1 one.0 later.among;
      told = λ s f. not_after_trans at a s below (one.2 s f);
      first = λ s c. by_first a below one.1 later.first s c;
    }
  where
    by_among : (a : Span) → earlier o x ≡ Some a → (o ≡ Some a) ⊎ (x ≡ a) → (earlier o x ≡ Some at) ⊎ Contains xs at → (o ≡ Some at) ⊎ Contains (x ∷ xs) at
    by_among a is which (inr c) = inr (contains_next x at xs c)
    by_among a is (inl told) (inl f) = let two : Some a ≡ Some at = sym is ∙ f in inl (told ∙ two)
    by_among a is (inr here) (inl f) = let two : Some a ≡ Some at = sym is ∙ f in let same : a ≡ at = cc in inr (0, omega arith, here ∙ same)

    by_first : (a : Span) → IsNotAfter at a → IsNotAfter a x → ((s : Span) → Contains xs s → IsNotAfter at s) → (s : Span) → Contains (x ∷ xs) s → IsNotAfter at s
    by_first a h k rest s (zero, l, e) = subst (λ (y : Span). IsNotAfter at y) e (not_after_trans at a x h k)
    by_first a h k rest s (suc n, l, e) = rest s (n, omega arith, e)

pub first_free_is : (t : TypedProgram) (at : Span) → earliest None (free_spans t) ≡ Some at → IsFirstFree t at
first_free_is t at e =
    let h : IsEarliest None (free_spans t) at = earliest_is None (free_spans t) at e in
    record { is_free = by_among h.among; first = h.first }
  where
    by_among : (None ≡ Some at) ⊎ Contains (free_spans t) at → Contains (free_spans t) at
    by_among (inl f) = absurd (cc)
    by_among (inr c) = c

-- where none is told there is none
pub none_free_is : (ss : List Span) → earliest None ss ≡ None → ss ≡ []
none_free_is [] e = refl
none_free_is (x ∷ xs) e = absurd (still_some x xs e)
  where
    still_some : (a : Span) (ss : List Span) → earliest (Some a) ss ≡ None → ⊥
    still_some a [] e = cc
    still_some a (s ∷ ss) e = let b = some_earlier (Some a) s in still_some b.0 ss (sym (ap (λ (o : Option Span). earliest o ss) b.1) ∙ e)
