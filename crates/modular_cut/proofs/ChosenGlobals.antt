-- Globals that are put where they may differ are the new ones.
use Rattle.std.proofs.Common.{◌≡◌, ℕ, zero, suc, ℤ, Bool, true, false, nat_eq, List, [], ◌∷◌, ◌++◌, map, length, drop, refl, sym, ap, subst, ◌∙◌, arith}
use Rattle.std.proofs.lemmas.Bool.Decides.{nat_tests}
use Rattle.std.proofs.lemmas.Bool.{or_from}
use Rattle.typed_tree.specs.Values.{member}
use Rattle.typed_tree.specs.TypingRules.Rules.{is_member}
use Rattle.boogie_run.specs.Steps.{put, all_put}

-- the same values but at these numbers
abbrev pub DifferIn : List ℕ → List ℤ → List ℤ → Type 0
DifferIn ns old new = (m : ℕ) → is_member m ns ≡ false → member new m ≡ member old m

same_members : (xs ys : List ℤ) → length xs ≡ length ys → ((m : ℕ) → member ys m ≡ member xs m) → xs ≡ ys
same_members [] [] l h = refl
same_members [] (y ∷ ys) l h = absurd (omega arith)
same_members (x ∷ xs) [] l h = absurd (omega arith)
same_members (x ∷ xs) (y ∷ ys) l h = λ i. sym (h 0) i ∷ same_members xs ys (omega arith) (λ m. h (suc m)) i

put_long : (zs : List ℤ) (n : ℕ) (z : ℤ) → length (put zs n z) ≡ length zs
put_long [] n z = refl
put_long (x ∷ xs) zero z = refl
put_long (x ∷ xs) (suc n) z = ap suc (put_long xs n z)

-- what is put stands there, where the list is long enough
put_here : (zs new : List ℤ) (n : ℕ) → length zs ≡ length new → member (put zs n (member new n)) n ≡ member new n
put_here [] [] n l = refl
put_here [] (y ∷ ys) n l = absurd (omega arith)
put_here (x ∷ xs) [] n l = absurd (omega arith)
put_here (x ∷ xs) (y ∷ ys) zero l = refl
put_here (x ∷ xs) (y ∷ ys) (suc n) l = put_here xs ys n (omega arith)

pub put_elsewhere : (zs : List ℤ) (n m : ℕ) (z : ℤ) → (m ≡ n → ⊥) → member (put zs n z) m ≡ member zs m
put_elsewhere [] n m z d = refl
put_elsewhere (x ∷ xs) zero zero z d = absurd (d refl)
put_elsewhere (x ∷ xs) zero (suc m) z d = refl
put_elsewhere (x ∷ xs) (suc n) zero z d = refl
put_elsewhere (x ∷ xs) (suc n) (suc m) z d = put_elsewhere xs n m z (λ e. d (ap suc e))

-- with the new value at the first of them, they differ in the others
differ_less : (n : ℕ) (ns : List ℕ) (old new : List ℤ) → length old ≡ length new → DifferIn (n ∷ ns) old new → DifferIn ns (put old n (member new n)) new
differ_less n ns old new l h m none = by_test (nat_eq m n) refl
  where
    same_number : nat_eq m n ≡ true → m ≡ n
    same_number e = grind (arith, nat_tests)

    other_number : nat_eq m n ≡ false → m ≡ n → ⊥
    other_number e same = grind (arith, nat_tests)

    by_test : (b : Bool) → nat_eq m n ≡ b → member new m ≡ member (put old n (member new n)) m
    by_test true e = let same : m ≡ n = same_number e in subst (λ (x : ℕ). member new x ≡ member (put old n (member new n)) x) (sym same) (sym (put_here old new n l))
    by_test false e = h m (or_from (nat_eq m n) (is_member m ns) e none) ∙ sym (put_elsewhere old n m (member new n) (other_number e))

pub all_put_new : (ns : List ℕ) (old new more : List ℤ) → length old ≡ length new → DifferIn ns old new → all_put old ns (map (member new) ns ++ more) ≡ new
all_put_new [] old new more l h = same_members old new l (λ m. h m refl)
all_put_new (n ∷ ns) old new more l h = all_put_new ns (put old n (member new n)) new more (put_long old n (member new n) ∙ l) (differ_less n ns old new l h)

pub drop_chosen : (ns : List ℕ) (new more : List ℤ) → drop (length ns) (map (member new) ns ++ more) ≡ more
drop_chosen [] new more = refl
drop_chosen (n ∷ ns) new more = drop_chosen ns new more
