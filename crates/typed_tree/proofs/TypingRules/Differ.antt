-- Lists in which no two are the same.
use Rattle.std.proofs.Common.{◌≡◌, ℕ, ◌+◌, ◌<◌, Bool, true, false, not, ◌||◌, List, [], ◌∷◌, ◌++◌, ◌⊎◌, inl, inr, refl, ap, sym, ◌∙◌, arith, nat_eq, take, drop, get_or, length}
use Rattle.std.specs.List.{list_any}
use Rattle.std.proofs.lemmas.List.{take_more, drop_more, take-append-drop}
use Rattle.std.proofs.lemmas.Bool.Decides.{nat_tests}
use Rattle.std.proofs.lemmas.Bool.{and_parts, and_from, and_left, and_right, or_parts, or_from, or_cases, or_left, or_right, not-true, not_from_true, not_from_false, false≢true}
use Rattle.std.proofs.lemmas.List.Folds.{list_any-append}
use Rattle.typed_tree.specs.TypingRules.Rules.{all_differ}

pub all_differ-head : {X : Type 0} (same : X → X → Bool) (x : X) (xs : List X) → all_differ same (x ∷ xs) ≡ true →
    (list_any (same x) xs ≡ false) × (all_differ same xs ≡ true)
all_differ-head same x xs h =
    let p : (not (list_any (same x) xs) ≡ true) × (all_differ same xs ≡ true) =
    and_parts (not (list_any (same x) xs)) (all_differ same xs) h in
    (not-true (list_any (same x) xs) p.0, p.1)

module _ {X : Type 0} (same : X → X → Bool) (turns : (x y : X) → same x y ≡ same y x) where
  -- one more that is like none before it
  pub all_differ_push : (xs : List X) (x : X) → all_differ same xs ≡ true → list_any (same x) xs ≡ false →
      all_differ same (xs ++ x ∷ []) ≡ true
  all_differ_push [] x h n = refl
  all_differ_push (y ∷ xs) x h n =
      let p : (list_any (same y) xs ≡ false) × (all_differ same xs ≡ true) = all_differ-head same y xs h in
      let q : (same x y ≡ false) × (list_any (same x) xs ≡ false) = or_parts (same x y) (list_any (same x) xs) n in
      let last : (same y x || false) ≡ false = or_from (same y x) false (turns y x ∙ q.0) refl in
      let e : list_any (same y) (xs ++ x ∷ []) ≡ false =
      list_any-append (same y) xs (x ∷ []) ∙ or_from (list_any (same y) xs) (same y x || false) p.0 last in
      and_from (not (list_any (same y) (xs ++ x ∷ []))) (all_differ same (xs ++ x ∷ []))
      (not_from_false (list_any (same y) (xs ++ x ∷ [])) e) (all_differ_push xs x p.1 q.1)

  -- one more that is like one before it
  pub all_differ_repeat : (xs : List X) (x : X) (ys : List X) → list_any (same x) xs ≡ true → all_differ same (xs ++ x ∷ ys) ≡ false
  all_differ_repeat [] x ys h = absurd (false≢true h)
  all_differ_repeat (y ∷ xs) x ys h =
      by_head (λ f. all_differ_repeat xs x ys f) (or_cases (same x y) (list_any (same x) xs) h)
    where
      by_head : (list_any (same x) xs ≡ true → all_differ same (xs ++ x ∷ ys) ≡ false) →
          (same x y ≡ true) ⊎ (list_any (same x) xs ≡ true) → all_differ same (y ∷ (xs ++ x ∷ ys)) ≡ false
      by_head rest (inl e) =
          let here : (same y x || list_any (same y) ys) ≡ true = or_left (same y x) (list_any (same y) ys) (turns y x ∙ e) in
          let f : list_any (same y) (xs ++ x ∷ ys) ≡ true =
          list_any-append (same y) xs (x ∷ ys) ∙ or_right (list_any (same y) xs) (same y x || list_any (same y) ys) here in
          and_left (not (list_any (same y) (xs ++ x ∷ ys))) (all_differ same (xs ++ x ∷ ys))
          (not_from_true (list_any (same y) (xs ++ x ∷ ys)) f)
      by_head rest (inr f) =
          and_right (not (list_any (same y) (xs ++ x ∷ ys))) (all_differ same (xs ++ x ∷ ys)) (rest f)

nat_eq_turns : (x y : ℕ) → nat_eq x y ≡ nat_eq y x
nat_eq_turns x y = grind (arith, nat_tests)

-- one more number that is none of those before it
pub numbers_differ_more : (xs : List ℕ) (i : ℕ) → i < length xs → all_differ nat_eq (take i xs) ≡ true →
    list_any (nat_eq (get_or xs i 0)) (take i xs) ≡ false → all_differ nat_eq (take (i + 1) xs) ≡ true
numbers_differ_more xs i l h n = rw (take_more xs i 0 l) (all_differ_push nat_eq nat_eq_turns (take i xs) (get_or xs i 0) h n)

-- a number that is one of those before it
pub number_repeated : (xs : List ℕ) (i : ℕ) → i < length xs → list_any (nat_eq (get_or xs i 0)) (take i xs) ≡ true →
    all_differ nat_eq xs ≡ false
number_repeated xs i l h =
    ap (all_differ nat_eq) (sym (take-append-drop i xs) ∙ ap (λ (rest : List ℕ). take i xs ++ rest) (drop_more xs i 0 l))
    ∙ all_differ_repeat nat_eq nat_eq_turns (take i xs) (get_or xs i 0) (drop (i + 1) xs) h
