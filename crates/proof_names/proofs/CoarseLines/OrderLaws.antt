-- Ascending numbers that pass a test are all that pass it, in order.
use Rattle.std.proofs.Common.{◌≡◌, ◌≢◌, ℕ, zero, suc, ◌+◌, ◌<◌, ◌≤◌, Bool, true, false, cond, ◌&&◌, ◌||◌, nat_eq, nat_le, List, [], ◌∷◌, Option, None, Some, refl, sym, ap, ◌∙◌, subst, arith}
use Rattle.std.specs.List.{AllByRecursion, filter, list_any, range_with_len}
use Rattle.std.proofs.lemmas.Bool.{and_parts, false≢true, le-leb, leb-true, eqb-true, eq-eqb, ne_eqb}
use Rattle.proof_names.specs.CoarseLines.CoarseLetters.{first_wrong_from}

-- a number is one of these
abbrev pub has : List ℕ → ℕ → Bool
has ns n = list_any (nat_eq n) ns

pub not_some : {A : Type 0} (x : A) → Some x ≡ None → ⊥
not_some x e = let no : ⊥ = cc in no

-- a line that is right is followed by right ones
goes_on : (b : Bool) (k : ℕ) (o : Option ℕ) → cond b o (Some k) ≡ None → (b ≡ true) × (o ≡ None)
goes_on true k o h = (refl, h)
goes_on false k o h = absurd (not_some k h)

pub or_false : (a b : Bool) → (a || b) ≡ true → a ≡ false → b ≡ true
or_false true b h e = absurd (false≢true (sym e))
or_false false b h e = h

-- a test passes or fails
pub by_two : {A : Type 0} (b : Bool) → (b ≡ true → A) → (b ≡ false → A) → A
by_two true f g = f refl
by_two false f g = g refl

differ : (a b : ℕ) → nat_eq a b ≡ false → a ≢ b
differ a b f same = false≢true (sym f ∙ eq-eqb a b same)

module _ (test : ℕ → Bool) where
  filter_true : (x : ℕ) (xs : List ℕ) → test x ≡ true → filter test (x ∷ xs) ≡ x ∷ filter test xs
  filter_true x xs e = rw e refl

  filter_false : (x : ℕ) (xs : List ℕ) → test x ≡ false → filter test (x ∷ xs) ≡ filter test xs
  filter_false x xs e = rw e refl

  -- what a right line says of its letter
  record Right (low at n : ℕ) (ns : List ℕ) : Type 0 where
    above : low ≤ n
    passes : test n ≡ true
    rest : first_wrong_from test (n + 1) (at + 1) ns ≡ None

  right : (low at n : ℕ) (ns : List ℕ) → first_wrong_from test low at (n ∷ ns) ≡ None → Right low at n ns
  right low at n ns h =
      let parts = goes_on (nat_le low n && test n) at (first_wrong_from test (n + 1) (at + 1) ns) h in
      let both = and_parts (nat_le low n) (test n) parts.0 in
      record { above = leb-true low n both.0; passes = both.1; rest = parts.1 }

  -- the letters of right lines are no less than the least that the first may have
  has_above : (ns : List ℕ) (low at m : ℕ) → first_wrong_from test low at ns ≡ None → has ns m ≡ true → low ≤ m
  has_above [] low at m h k = absurd (false≢true k)
  has_above (n ∷ ns) low at m h k =
      let r = right low at n ns h in
      by_two (nat_eq m n) (λ e. (let same = eqb-true m n e in let a = r.above in omega arith))
      (λ e. (let more = has_above ns (n + 1) (at + 1) m r.rest (or_false (nat_eq m n) (has ns m) k e) in let a = r.above in omega arith))

  -- where the least does not pass, the first may as well be greater
  skips : (ns : List ℕ) (low at : ℕ) → test low ≡ false → first_wrong_from test low at ns ≡ None → first_wrong_from test (low + 1) at ns ≡ None
  skips [] low at e h = refl
  skips (n ∷ ns) low at e h =
      let r = right low at n ns h in
      let other : low ≢ n = λ same. false≢true (sym e ∙ ap test same ∙ r.passes) in
      let above : low + 1 ≤ n = (let a = r.above in omega (arith, other)) in
      rw (le-leb (low + 1) n above, r.passes) r.rest

  -- where the least passes it is the first
  first_is : (low at : ℕ) (end ns : List ℕ) → first_wrong_from test low at ns ≡ None → ((n : ℕ) → low ≤ n → test n ≡ true → has ns n ≡ true) → test low ≡ true
      → ((ms : List ℕ) → first_wrong_from test (low + 1) (at + 1) ms ≡ None → ((n : ℕ) → low + 1 ≤ n → test n ≡ true → has ms n ≡ true) → ms ≡ end) → ns ≡ low ∷ end
  first_is low at end [] h all e rest = absurd (false≢true (all low (omega arith) e))
  first_is low at end (n ∷ ns) h all e rest =
      let r = right low at n ns h in
      let same : low ≡ n = by_two (nat_eq low n) (λ q. eqb-true low n q)
      (λ q. absurd (let more = has_above ns (n + 1) (at + 1) low r.rest (or_false (nat_eq low n) (has ns low) (all low (omega arith) e) q) in let a = r.above in omega arith)) in
      let lower : first_wrong_from test (low + 1) (at + 1) ns ≡ None = subst (λ (m : ℕ). first_wrong_from test (m + 1) (at + 1) ns ≡ None) (sym same) r.rest in
      ap (λ (m : ℕ). m ∷ ns) (sym same) ∙ ap (λ ms. low ∷ ms) (rest ns lower (λ m l p. or_false (nat_eq m n) (has ns m) (all m (omega arith) p) (ne_eqb m n (λ is. (omega (arith, same, is, l))))))

  pub right_is_picked : (k low at : ℕ) (ns : List ℕ) → ((n : ℕ) → low + k ≤ n → test n ≡ false) → first_wrong_from test low at ns ≡ None
      → ((n : ℕ) → low ≤ n → test n ≡ true → has ns n ≡ true) → ns ≡ filter test (range_with_len low k)
  right_is_picked zero low at [] past h all = refl
  right_is_picked zero low at (n ∷ ns) past h all =
      let r = right low at n ns h in
      absurd (false≢true (sym (past n (let a = r.above in omega arith)) ∙ r.passes))
  right_is_picked (suc k) low at ns past h all =
      let end = filter test (range_with_len (low + 1) k) in
      let higher : (n : ℕ) → low + 1 + k ≤ n → test n ≡ false = λ n l. past n (omega arith) in
      by_two (test low)
      (λ e. first_is low at end ns h all e (λ ms lower more. right_is_picked k (low + 1) (at + 1) ms higher lower more) ∙ sym (filter_true low (range_with_len (low + 1) k) e))
      (λ e. right_is_picked k (low + 1) at ns higher (skips ns low at e h) (λ n l p. all n (omega arith) p) ∙ sym (filter_false low (range_with_len (low + 1) k) e))

  pub picked_is_right : (k low least at : ℕ) → least ≤ low → first_wrong_from test least at (filter test (range_with_len low k)) ≡ None
  picked_is_right zero low least at l = refl
  picked_is_right (suc k) low least at l =
      let end = range_with_len (low + 1) k in
      by_two (test low)
      (λ e. ap (first_wrong_from test least at) (filter_true low end e) ∙ rw (le-leb least low l, e) (picked_is_right k (low + 1) (low + 1) (at + 1) (omega arith)))
      (λ e. ap (first_wrong_from test least at) (filter_false low end e) ∙ picked_is_right k (low + 1) least at (omega arith))

  -- ---- what is picked

  pub not_picked : (xs : List ℕ) (n : ℕ) → test n ≡ false → has (filter test xs) n ≡ false
  not_picked [] n e = refl
  not_picked (x ∷ xs) n e = by_two (test x)
      (λ p. ap (λ ys. has ys n) (filter_true x xs p) ∙ rw (ne_eqb n x (λ same. false≢true (sym e ∙ ap test same ∙ p))) (not_picked xs n e))
      (λ p. ap (λ ys. has ys n) (filter_false x xs p) ∙ not_picked xs n e)

  pub is_picked : (k low n : ℕ) → low ≤ n → n < low + k → test n ≡ true → has (filter test (range_with_len low k)) n ≡ true
  is_picked zero low n l m e = absurd (omega arith)
  is_picked (suc k) low n l m e =
      let end = range_with_len (low + 1) k in
      by_two (nat_eq n low)
      (λ q. ap (λ ys. has ys n) (filter_true low end (ap test (sym (eqb-true n low q)) ∙ e)) ∙ rw q refl)
      (λ q. (let other = differ n low q in
      let rest = is_picked k (low + 1) n (omega (arith, other)) (omega arith) e in
      by_two (test low) (λ t. ap (λ ys. has ys n) (filter_true low end t) ∙ rw q rest) (λ t. ap (λ ys. has ys n) (filter_false low end t) ∙ rest)))

  pub all_picked : (P : ℕ → Type 0) → ((n : ℕ) → test n ≡ true → P n) → (xs : List ℕ) → AllByRecursion P (filter test xs)
  all_picked P f [] = tt
  all_picked P f (x ∷ xs) = by_two (test x)
      (λ e. subst (λ ys. AllByRecursion P ys) (sym (filter_true x xs e)) (f x e, all_picked P f xs))
      (λ e. subst (λ ys. AllByRecursion P ys) (sym (filter_false x xs e)) (all_picked P f xs))

-- ---- tests that agree

pub same_picked : (p q : ℕ → Bool) → ((n : ℕ) → p n ≡ q n) → (xs : List ℕ) → filter p xs ≡ filter q xs
same_picked p q e [] = refl
same_picked p q e (x ∷ xs) = rw (e x, same_picked p q e xs) refl

pub same_wrong : (p q : ℕ → Bool) → ((n : ℕ) → p n ≡ q n) → (ns : List ℕ) (low at : ℕ) → first_wrong_from p low at ns ≡ first_wrong_from q low at ns
same_wrong p q e [] low at = refl
same_wrong p q e (n ∷ ns) low at = rw (e n, same_wrong p q e ns (n + 1) (at + 1)) refl
