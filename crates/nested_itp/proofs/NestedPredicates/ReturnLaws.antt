-- A call has a return in the word where a return behind it is not matched there.
use Rattle.std.proofs.Common.{◌≡◌, ◌∙◌, ℕ, zero, suc, ◌+◌, ◌-◌, ◌<◌, ◌≤◌, Bool, true, false, List, [], ◌∷◌, ◌++◌, length, drop, get_or, reverse, refl, sym, ap, arith}
use Rattle.std.specs.Prelude.{nat_lt}
use Rattle.std.proofs.lemmas.Bool.{lt-ltb, le-ltb, ltb-true, ltb-false}
use Rattle.std.proofs.lemmas.List.{drop_more, reverse-append}
use Rattle.nwa_base.specs.declared.letters.Kind.{Kind}
use Rattle.nwa_base.specs.declared.letters.Kind.TheVariants.{Inside, Call, Back}
use Rattle.nwa_base.specs.declared.letters.Letter.{Letter}
use Rattle.nested_itp.specs.NestedPredicates.Positions.{returned_by, has_return}
use Rattle.nested_itp.specs.NestedPredicates.Walking.{unmatched_before, unmatched, return_tests}

same_test : (a b c d : ℕ) → (a < b → c < d) → (b ≤ a → d ≤ c) → nat_lt a b ≡ nat_lt c d
same_test a b c d f g = by_test (nat_lt a b) refl
  where
    by_test : (t : Bool) → nat_lt a b ≡ t → t ≡ nat_lt c d
    by_test true e = sym (lt-ltb c d (f (ltb-true a b e)))
    by_test false e = sym (le-ltb c d (g (ltb-false a b e)))

by_kind : (kind : Kind) (later : ℕ) (w : List Letter) → ((n : ℕ) → has_return n w ≡ nat_lt n (unmatched w)) →
    returned_by kind later (λ n. has_return n w) ≡ nat_lt later (unmatched_before kind (unmatched w))
by_kind Inside later w h = h later
by_kind Call later w h = h (suc later) ∙ same_test (suc later) (unmatched w) later (unmatched w - 1) (λ l. omega (arith, l)) (λ l. omega (arith, l))
by_kind Back zero w h = sym (lt-ltb 0 (suc (unmatched w)) (omega arith))
by_kind Back (suc later) w h = h later ∙ same_test later (unmatched w) (suc later) (suc (unmatched w)) (λ l. omega (arith, l)) (λ l. omega (arith, l))

return_counted : (later : ℕ) (w : List Letter) → has_return later w ≡ nat_lt later (unmatched w)
return_counted later [] = sym (le-ltb later 0 (omega arith))
return_counted later (a ∷ w) = by_kind a.kind later w (λ n. return_counted n w)

-- the letter before the last i ones
front : (w : List Letter) (i : ℕ) (a d : Letter) → i < length w → a ≡ get_or w (length w - 1 - i) d → drop (length w - (i + 1)) w ≡ a ∷ drop (length w - i) w
front w i a d l e =
    let n : ℕ = length w - (i + 1) in
    let x : n ≡ length w - 1 - i = omega (arith, l) in
    let y : n + 1 ≡ length w - i = omega (arith, l) in
    drop_more w n d (omega (arith, l)) ∙ ap (λ (b : Letter). b ∷ drop (n + 1) w) (ap (λ (k : ℕ). get_or w k d) x ∙ sym e) ∙ ap (λ (k : ℕ). a ∷ drop k w) y

pub unmatched_next : (w : List Letter) (i : ℕ) (a d : Letter) (now new : ℕ) → i < length w → a ≡ get_or w (length w - 1 - i) d →
    now ≡ unmatched (drop (length w - i) w) → new ≡ unmatched_before a.kind now → new ≡ unmatched (drop (length w - (i + 1)) w)
unmatched_next w i a d now new l e h k = k ∙ ap (unmatched_before a.kind) h ∙ sym (ap unmatched (front w i a d l e))

pub tests_next : (w : List Letter) (i : ℕ) (a d : Letter) (count : ℕ) (now new : List Bool) → i < length w → a ≡ get_or w (length w - 1 - i) d →
    count ≡ unmatched (drop (length w - i) w) → reverse now ≡ return_tests (drop (length w - i) w) → new ≡ now ++ nat_lt 0 count ∷ [] →
    reverse new ≡ return_tests (drop (length w - (i + 1)) w)
tests_next w i a d count now new l e c h k =
    let rest : List Letter = drop (length w - i) w in
    ap reverse k ∙ reverse-append now (nat_lt 0 count ∷ []) ∙
    ap (λ (b : Bool). b ∷ reverse now) (ap (nat_lt 0) c ∙ sym (return_counted 0 rest)) ∙ ap (λ (l : List Bool). has_return 0 rest ∷ l) h ∙
    sym (ap return_tests (front w i a d l e))

pub one_more : (kind : Kind) (n i : ℕ) → n ≤ i → unmatched_before kind n ≤ i + 1
one_more Inside n i l = omega (arith, l)
one_more Call n i l = omega (arith, l)
one_more Back n i l = omega (arith, l)
