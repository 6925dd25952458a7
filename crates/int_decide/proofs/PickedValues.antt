-- Values that are shown to be picked are those of the elimination, up to the first that is not whole.
use Rattle.std.proofs.Common.{◌≡◌, ℕ, zero, suc, ◌+◌, ◌≤◌, ℤ, pos, negsuc, neg_ℤ, ◌+ℤ◌, ◌-ℤ◌, ◌*ℤ◌, ◌≤ℤ◌, ◌<ℤ◌, Bool, true, false, List, [], ◌∷◌, ◌++◌, Option, None, Some, Result, Ok, Err, length, map, drop, get_or, nat_eq, refl, sym, ap, ◌∙◌, subst, inl, inr, ◌⊎◌, arith}
use Rattle.std.specs.Prelude.{int_lt, unsigned_abs, IfOk, IsTrue}
use Rattle.std.specs.declared.alloc.AllocError.{AllocError}
use Rattle.std.specs.List.{AllByRecursion}
use Rattle.std.proofs.lemmas.Bool.{eqb-true, ne_eqb}
use Rattle.std.proofs.lemmas.Int.{ints}
use Rattle.math_facts.proofs.Whole.{product_comm, product_assoc, product_one_left, product_one_right, product_neg_left, product_monotone, product_strict, cancel_strict}
use Rattle.frac.specs.Fractions.{Fraction, IsLowest, IsRatio}
use Rattle.lin_rows.specs.Rows.{LinearRow, IsRow, RowsBelow}
use Rattle.lin_rows.specs.Tightening.{tightened}
use Rattle.farkas_check.specs.Refutes.{at_most, above}
use Rattle.fm_elim.specs.Quotients.{whole, floor}
use Rattle.fm_elim.specs.Values.{value_at}
use Rattle.fm_elim.specs.Elimination as outcome
use Rattle.fm_elim.specs.Worth.{HoldsAt, IsSolvable, MeetsAll}
use Rattle.fm_elim.specs.Slices.{IsOnTheWay, IsPick, InSlice, IsPicked, IsPoint, IsPickedOutcome}
use Rattle.fm_elim.proofs.Lists.{all_append, all_middle}
use Rattle.fm_elim.proofs.Multipliers.{less_is, not_less_is}
use Rattle.fm_elim.proofs.Picks.{zero_on_way}
use Rattle.fm_elim.proofs.PickedPoints.{point_is_picked}
use Rattle.int_decide.specs.Decide.{first_broken}
use Rattle.int_decide.specs.Ties.Searching.{cut_at, values_if}
use Rattle.int_decide.specs.Ties.Picking.{fixed, IsNearest, IsApart, IfWhole, ArePicked}
use Rattle.int_decide.specs.Ties.Alike.{AreAlike, StandsIn}
use Rattle.int_decide.proofs.Broken.{floor_is}

-- ---- whole values in front

abbrev wholes : List ℤ → List Fraction
wholes ks = map whole ks

wholes_more : (ks : List ℤ) (k : ℤ) (xs : List Fraction) → wholes ks ++ whole k ∷ xs ≡ wholes (ks ++ k ∷ []) ++ xs
wholes_more [] k xs = refl
wholes_more (j ∷ ks) k xs = ap (λ (ys : List Fraction). whole j ∷ ys) (wholes_more ks k xs)

length_more : (ks : List ℤ) (k : ℤ) → length (ks ++ k ∷ []) ≡ suc (length ks)
length_more [] k = refl
length_more (j ∷ ks) k = ap (λ (n : ℕ). suc n) (length_more ks k)

-- the columns from c on have these values, over the denominator d
abbrev HaveValues : ℤ → (ℕ → ℤ) → ℕ → List ℤ → Type 0
HaveValues d p c [] = Unit {0}
HaveValues d p c (k ∷ ks) = (p c ≡ k *ℤ d) × HaveValues d p (suc c) ks

values_less : (d : ℤ) (p : ℕ → ℤ) (c : ℕ) (ks : List ℤ) (k : ℤ) → HaveValues d p c (ks ++ k ∷ []) → HaveValues d p c ks × (p (c + length ks) ≡ k *ℤ d)
values_less d p c [] k h = (tt, let e : c ≡ c + 0 = omega arith in subst (λ (i : ℕ). p i ≡ k *ℤ d) e h.0)
values_less d p c (j ∷ ks) k h =
    let r = values_less d p (suc c) ks k h.1 in
    let e : suc c + length ks ≡ c + suc (length ks) = omega arith in
    ((h.0, r.0), subst (λ (i : ℕ). p i ≡ k *ℤ d) e r.1)

from_ratio : (z x d : ℤ) → IsRatio (whole z) x d → x ≡ z *ℤ d
from_ratio z x d e = sym (product_one_right x) ∙ sym e

values_from : (d : ℤ) (p : ℕ → ℤ) (c : ℕ) (ks : List ℤ) (w : Fraction) (rest : List Fraction) →
    ((i : ℕ) → IsRatio (value_at (wholes ks ++ w ∷ rest) i) (p (c + i)) d) → HaveValues d p c ks × IsRatio w (p (c + length ks)) d
values_from d p c [] w rest f = (tt, f 0)
values_from d p c (x ∷ ks) w rest f =
    let e : c + 0 ≡ c = omega arith in
    let g : suc c + length ks ≡ c + suc (length ks) = omega arith in
    let r = values_from d p (suc c) ks w rest
    (λ i. let g : c + suc i ≡ suc c + i = omega arith in subst (λ (m : ℕ). IsRatio (value_at (wholes ks ++ w ∷ rest) i) (p m) d) g (f (suc i))) in
    ((from_ratio x (p c) d (subst (λ (i : ℕ). IsRatio (whole x) (p i) d) e (f 0)), r.0), subst (λ (m : ℕ). IsRatio w (p m) d) g r.1)

-- a point of the rows that begins with the values, and then w
record IsBegun (rows : List LinearRow) (ks : List ℤ) (w : Fraction) : Type 0 where
  pub d : ℤ
  pub p : ℕ → ℤ
  pub positive : pos 0 <ℤ d
  pub holds : AllByRecursion (HoldsAt d p) rows
  pub have : HaveValues d p 0 ks
  pub next : IsRatio w (p (length ks)) d

begun : (n : ℕ) (rows : List LinearRow) (ks : List ℤ) (w : Fraction) (rest : List Fraction) → IsPoint n rows (wholes ks ++ w ∷ rest) → IsBegun rows ks w
begun n rows ks w rest h =
    let m : MeetsAll n rows (wholes ks ++ w ∷ rest) = h.meets in
    let v = values_from m.d m.p 0 ks w rest
    (λ i. let e : 0 + i ≡ i = omega arith in subst (λ (c : ℕ). IsRatio (value_at (wholes ks ++ w ∷ rest) i) (m.p c) m.d) (sym e) (m.values_are i)) in
    let e : 0 + length ks ≡ length ks = omega arith in
    record { d = m.d; p = m.p; positive = m.positive; holds = m.holds; have = v.0; next = subst (λ (i : ℕ). IsRatio w (m.p i) m.d) e v.1 }

-- ---- the rows of a column

fixed_holds : (d : ℤ) (p : ℕ → ℤ) (c : ℕ) (k : ℤ) → p c ≡ k *ℤ d → HoldsAt d p (fixed c k)
fixed_holds d p c k e = let o : pos 1 *ℤ p c ≡ p c = product_one_left (p c) in (let g : (pos 1 *ℤ p c) +ℤ pos 0 ≡ k *ℤ d = omega (arith, ints) in g)

lt_cases : (a b : ℤ) → (a <ℤ b) ⊎ (b ≤ℤ a)
lt_cases a b = by_test (int_lt a b) refl
  where
    by_test : (t : Bool) → int_lt a b ≡ t → (a <ℤ b) ⊎ (b ≤ℤ a)
    by_test true e = inl (less_is a b e)
    by_test false e = inr (not_less_is a b e)

at_most_holds : (d : ℤ) (p : ℕ → ℤ) (c : ℕ) (k : ℤ) → p c ≤ℤ (k *ℤ d) → HoldsAt d p (at_most c k)
at_most_holds d p c k l =
    let o : pos 1 *ℤ p c ≡ p c = product_one_left (p c) in
    (let g : ((pos 1 *ℤ p c) +ℤ pos 0) ≤ℤ (k *ℤ d) = omega (arith, ints) in g)

above_holds : (d : ℤ) (p : ℕ → ℤ) (c : ℕ) (k : ℤ) → ((k +ℤ pos 1) *ℤ d) ≤ℤ p c → HoldsAt d p (above c k)
above_holds d p c k l =
    let o : negsuc 0 *ℤ p c ≡ neg_ℤ (pos 1 *ℤ p c) = product_neg_left (pos 1) (p c) in
    let o2 : pos 1 *ℤ p c ≡ p c = product_one_left (p c) in
    let f : neg_ℤ (k +ℤ pos 1) *ℤ d ≡ neg_ℤ ((k +ℤ pos 1) *ℤ d) = product_neg_left (k +ℤ pos 1) d in
    let g : (above c k).bound ≡ neg_ℤ (k +ℤ pos 1) = omega (arith, ints) in
    let i : (above c k).bound *ℤ d ≡ neg_ℤ (k +ℤ pos 1) *ℤ d = ap (λ (x : ℤ). x *ℤ d) g in
    (let r : ((negsuc 0 *ℤ p c) +ℤ pos 0) ≤ℤ ((above c k).bound *ℤ d) = omega (arith, ints) in r)

times_less : (d a b : ℤ) → pos 0 <ℤ d → a ≤ℤ b → (a *ℤ d) ≤ℤ (b *ℤ d)
times_less d a b q l =
    let m : (d *ℤ a) ≤ℤ (d *ℤ b) = product_monotone d a b (omega (arith, ints)) l in
    let e : d *ℤ a ≡ a *ℤ d = product_comm d a in
    let f : d *ℤ b ≡ b *ℤ d = product_comm d b in
    omega (arith, ints)

-- a value that is nearest lies on the way to each other whole value
on_way : (rows : List LinearRow) (c : ℕ) (k j : ℤ) (d : ℤ) (p : ℕ → ℤ) → pos 0 <ℤ d → AllByRecursion (HoldsAt d p) rows → p c ≡ j *ℤ d → IsNearest rows c k → IsOnTheWay k j
on_way rows c (pos zero) j d p q h e n = zero_on_way j
on_way rows c (pos (suc m)) j d p q h e n = by_cases (lt_cases j (pos (suc m)))
  where
    by_cases : ((j <ℤ pos (suc m)) ⊎ (pos (suc m) ≤ℤ j)) → IsOnTheWay (pos (suc m)) j
    by_cases (inl l) =
        let a : (j *ℤ d) ≤ℤ ((pos (suc m) -ℤ pos 1) *ℤ d) = times_less d j (pos (suc m) -ℤ pos 1) q (omega (arith, ints)) in
        absurd (n.not_less (omega (arith, ints))
        (record { d = d; p = p; positive = q; holds = all_append (HoldsAt d p) rows (at_most c (pos (suc m) -ℤ pos 1) ∷ []) h (at_most_holds d p c (pos (suc m) -ℤ pos 1) (omega (arith, ints)), tt) }))
    by_cases (inr l) = inl (omega (arith, ints), l)
on_way rows c (negsuc m) j d p q h e n = by_cases (lt_cases (negsuc m) j)
  where
    by_cases : ((negsuc m <ℤ j) ⊎ (j ≤ℤ negsuc m)) → IsOnTheWay (negsuc m) j
    by_cases (inl l) =
        let a : ((negsuc m +ℤ pos 1) *ℤ d) ≤ℤ (j *ℤ d) = times_less d (negsuc m +ℤ pos 1) j q (omega (arith, ints)) in
        absurd (n.not_more (omega (arith, ints))
        (record { d = d; p = p; positive = q; holds = all_append (HoldsAt d p) rows (above c (negsuc m) ∷ []) h (above_holds d p c (negsuc m) (omega (arith, ints)), tt) }))
    by_cases (inr l) = inr (l, omega (arith, ints))

-- two numbers on the way to each other are one
both_ways : (j k : ℤ) → IsOnTheWay j k → IsOnTheWay k j → j ≡ k
both_ways j k (inl a) (inl b) = let x = a.1 in let y = b.1 in omega (arith, ints)
both_ways j k (inl a) (inr b) = let x = a.1 in let y = b.0 in let z = a.0 in let w = b.1 in omega (arith, ints)
both_ways j k (inr a) (inl b) = let x = a.0 in let y = b.1 in let z = a.1 in let w = b.0 in omega (arith, ints)
both_ways j k (inr a) (inr b) = let x = a.0 in let y = b.0 in omega (arith, ints)

-- ---- values apart from the whole numbers

-- k < x < k + 1
record LiesBetween (k : ℤ) (x : Fraction) : Type 0 where
  pub over : (k *ℤ x.den) <ℤ x.num
  pub under : x.num <ℤ ((k +ℤ pos 1) *ℤ x.den)

-- a ratio compares as its fraction does
ratio_over : (k num den a d : ℤ) → pos 0 <ℤ d → pos 0 <ℤ den → num *ℤ d ≡ a *ℤ den → (k *ℤ d) <ℤ a → (k *ℤ den) <ℤ num
ratio_over k num den a d q r e l =
    let s : (den *ℤ (k *ℤ d)) <ℤ (den *ℤ a) = product_strict den (k *ℤ d) a r l in
    let e1 : den *ℤ a ≡ a *ℤ den = product_comm den a in
    let e2 : den *ℤ (k *ℤ d) ≡ (den *ℤ k) *ℤ d = sym (product_assoc den k d) in
    let e3 : den *ℤ k ≡ k *ℤ den = product_comm den k in
    let e4 : (den *ℤ k) *ℤ d ≡ (k *ℤ den) *ℤ d = ap (λ (x : ℤ). x *ℤ d) e3 in
    let e5 : (k *ℤ den) *ℤ d ≡ d *ℤ (k *ℤ den) = product_comm (k *ℤ den) d in
    let e6 : num *ℤ d ≡ d *ℤ num = product_comm num d in
    cancel_strict d (k *ℤ den) num (omega (arith, ints)) (omega (arith, ints))

ratio_under : (k num den a d : ℤ) → pos 0 <ℤ d → pos 0 <ℤ den → num *ℤ d ≡ a *ℤ den → a <ℤ (k *ℤ d) → num <ℤ (k *ℤ den)
ratio_under k num den a d q r e l =
    let s : (den *ℤ a) <ℤ (den *ℤ (k *ℤ d)) = product_strict den a (k *ℤ d) r l in
    let e1 : den *ℤ a ≡ a *ℤ den = product_comm den a in
    let e2 : den *ℤ (k *ℤ d) ≡ (den *ℤ k) *ℤ d = sym (product_assoc den k d) in
    let e3 : den *ℤ k ≡ k *ℤ den = product_comm den k in
    let e4 : (den *ℤ k) *ℤ d ≡ (k *ℤ den) *ℤ d = ap (λ (x : ℤ). x *ℤ d) e3 in
    let e5 : (k *ℤ den) *ℤ d ≡ d *ℤ (k *ℤ den) = product_comm (k *ℤ den) d in
    let e6 : num *ℤ d ≡ d *ℤ num = product_comm num d in
    cancel_strict d num (k *ℤ den) (omega (arith, ints)) (omega (arith, ints))

lies_between : (rows held : List LinearRow) (ks : List ℤ) (k : ℤ) (x : Fraction) → IsLowest x → (b : IsBegun rows ks x) → AllByRecursion (HoldsAt b.d b.p) held →
    IsApart held (length ks) k → LiesBetween k x
lies_between rows held ks k x low b h a =
    let c : ℕ = length ks in
    record {
      over = ratio_over k x.num x.den (b.p c) b.d b.positive low.positive b.next (from_below (lt_cases (k *ℤ b.d) (b.p c)));
      under = ratio_under (k +ℤ pos 1) x.num x.den (b.p c) b.d b.positive low.positive b.next (from_above (lt_cases (b.p c) ((k +ℤ pos 1) *ℤ b.d)));
    }
  where
    from_below : (((k *ℤ b.d) <ℤ b.p (length ks)) ⊎ (b.p (length ks) ≤ℤ (k *ℤ b.d))) → (k *ℤ b.d) <ℤ b.p (length ks)
    from_below (inl l) = l
    from_below (inr l) =
        absurd (a.not_below (record { d = b.d; p = b.p; positive = b.positive; holds = all_append (HoldsAt b.d b.p) held (at_most (length ks) k ∷ []) h (at_most_holds b.d b.p (length ks) k l, tt) }))

    from_above : ((b.p (length ks) <ℤ ((k +ℤ pos 1) *ℤ b.d)) ⊎ (((k +ℤ pos 1) *ℤ b.d) ≤ℤ b.p (length ks))) → b.p (length ks) <ℤ ((k +ℤ pos 1) *ℤ b.d)
    from_above (inl l) = l
    from_above (inr l) =
        absurd (a.not_above (record { d = b.d; p = b.p; positive = b.positive; holds = all_append (HoldsAt b.d b.p) held (above (length ks) k ∷ []) h (above_holds b.d b.p (length ks) k l, tt) }))

-- ---- the first value that is not whole

front_whole : (c : ℕ) (f : Fraction) (fs : List Fraction) → nat_eq (unsigned_abs f.den) 1 ≡ true → first_broken c (f ∷ fs) ≡ first_broken (suc c) fs
front_whole c f fs t = rw t refl

front_broken : (c : ℕ) (f : Fraction) (fs : List Fraction) → nat_eq (unsigned_abs f.den) 1 ≡ false → first_broken c (f ∷ fs) ≡ Some (c, f)
front_broken c f fs t = rw t refl

whole_is : (f : Fraction) → IsLowest f → nat_eq (unsigned_abs f.den) 1 ≡ true → f ≡ whole f.num
whole_is f low t =
    let a : unsigned_abs f.den ≡ 1 = eqb-true (unsigned_abs f.den) 1 t in
    let p : pos 0 <ℤ f.den = low.positive in
    let e : f.den ≡ pos 1 = omega (arith, ints) in
    (λ i. record { num = f.num; den = e i })

between_is_broken : (k : ℤ) (x : Fraction) → IsLowest x → LiesBetween k x → (nat_eq (unsigned_abs x.den) 1 ≡ false) × (floor x ≡ k)
between_is_broken k x low b = (by_test (nat_eq (unsigned_abs x.den) 1) refl, sym (floor_is x.num x.den k low.positive (let l = b.over in omega (arith, ints)) b.under))
  where
    by_test : (t : Bool) → nat_eq (unsigned_abs x.den) 1 ≡ t → nat_eq (unsigned_abs x.den) 1 ≡ false
    by_test false e = e
    by_test true e =
        let a : unsigned_abs x.den ≡ 1 = eqb-true (unsigned_abs x.den) 1 e in
        let p : pos 0 <ℤ x.den = low.positive in
        let one : x.den ≡ pos 1 = omega (arith, ints) in
        let f : k *ℤ x.den ≡ k = ap (λ (z : ℤ). k *ℤ z) one ∙ product_one_right k in
        let g : (k +ℤ pos 1) *ℤ x.den ≡ k +ℤ pos 1 = ap (λ (z : ℤ). (k +ℤ pos 1) *ℤ z) one ∙ product_one_right (k +ℤ pos 1) in
        let l = b.over in
        let m = b.under in
        absurd (omega (arith, ints))

-- ---- the values are alike

-- from the column c on
record AreCutAlike (c : ℕ) (xs ys : List Fraction) : Type 0 where
  pub cuts : cut_at (first_broken c xs) ≡ cut_at (first_broken c ys)
  pub same : first_broken c ys ≡ None → xs ≡ ys

alike_front : (c : ℕ) (x y : Fraction) (xs ys : List Fraction) → x ≡ y → nat_eq (unsigned_abs y.den) 1 ≡ true → AreCutAlike (suc c) xs ys → AreCutAlike c (x ∷ xs) (y ∷ ys)
alike_front c x y xs ys s t h =
    subst (λ (z : Fraction). AreCutAlike c (z ∷ xs) (y ∷ ys)) (sym s) (record {
      cuts = ap cut_at (front_whole c y xs t) ∙ h.cuts ∙ ap cut_at (sym (front_whole c y ys t));
      same = λ e. ap (λ (zs : List Fraction). y ∷ zs) (h.same (sym (front_whole c y ys t) ∙ e));
    })

broken_alike : (c : ℕ) (x y : Fraction) (xs ys : List Fraction) → nat_eq (unsigned_abs x.den) 1 ≡ false → nat_eq (unsigned_abs y.den) 1 ≡ false → floor x ≡ floor y →
    AreCutAlike c (x ∷ xs) (y ∷ ys)
broken_alike c x y xs ys t u e = record {
  cuts = ap cut_at (front_broken c x xs t) ∙ (λ i. Some (c, e i)) ∙ ap cut_at (sym (front_broken c y ys u));
  same = λ n. absurd (let s : first_broken c (y ∷ ys) ≡ Some (c, y) = front_broken c y ys u in (let z : ⊥ = cc in z));
}

-- what the rows that are held say of the points that begin with the values
abbrev Keeps : List LinearRow → List LinearRow → List ℤ → Type 0
Keeps rows held ks = (d : ℤ) (p : ℕ → ℤ) → AllByRecursion (HoldsAt d p) rows → HaveValues d p 0 ks → AllByRecursion (HoldsAt d p) held

keeps_more : (rows held : List LinearRow) (ks : List ℤ) (k : ℤ) → Keeps rows held ks → Keeps rows (held ++ fixed (length ks) k ∷ []) (ks ++ k ∷ [])
keeps_more rows held ks k h d p r v =
    let s = values_less d p 0 ks k v in
    let e : 0 + length ks ≡ length ks = omega arith in
    all_append (HoldsAt d p) held (fixed (length ks) k ∷ []) (h d p r s.0)
    (fixed_holds d p (length ks) k (subst (λ (i : ℕ). p i ≡ k *ℤ d) e s.1), tt)

-- the picked value is the one that is shown to be nearest
nearest_is : (n : ℕ) (rows held : List LinearRow) (ks : List ℤ) (k : ℤ) (x : Fraction) (rest : List Fraction) → Keeps rows held ks → IsNearest held (length ks) k →
    IsPick (InSlice (IsPoint n rows) (wholes ks)) x → IsPoint n rows (wholes ks ++ whole k ∷ rest) → x ≡ whole k
nearest_is n rows held ks k x rest h near pick one =
    let s = pick.nearest k (rest, one) in
    let z : ℤ = s.0 in
    let m : InSlice (IsPoint n rows) (wholes ks) (whole z) = subst (InSlice (IsPoint n rows) (wholes ks)) s.1.0 pick.member in
    let b : IsBegun rows ks (whole z) = begun n rows ks (whole z) m.0 m.1 in
    let w : IsOnTheWay k z = on_way held (length ks) k z b.d b.p b.positive (h b.d b.p b.holds b.have) (from_ratio z (b.p (length ks)) b.d b.next) near in
    s.1.0 ∙ ap whole (both_ways z k s.1.1 w)

apart_is : (n : ℕ) (rows held : List LinearRow) (ks : List ℤ) (k : ℤ) (x : Fraction) → Keeps rows held ks → IsApart held (length ks) k →
    IsPick (InSlice (IsPoint n rows) (wholes ks)) x → IsLowest x → LiesBetween k x
apart_is n rows held ks k x h apart pick low =
    let b : IsBegun rows ks x = begun n rows ks x pick.member.0 pick.member.1 in
    lies_between rows held ks k x low b (h b.d b.p b.holds b.have) apart

alike_from : (n : ℕ) (rows held : List LinearRow) (own values : List Fraction) (ks : List ℤ) (c : ℕ) (xs ys : List Fraction) → IsPicked (IsPoint n rows) own → IsPoint n rows values →
    Keeps rows held ks → c ≡ length ks → own ≡ wholes ks ++ xs → values ≡ wholes ks ++ ys → length xs ≡ length ys → ArePicked held c ys → AreCutAlike c xs ys
alike_from n rows held own values ks c [] [] h v k i e f l a = record { cuts = refl; same = λ z. refl }
alike_from n rows held own values ks c [] (y ∷ ys) h v k i e f l a = absurd (let z : ⊥ = omega arith in z)
alike_from n rows held own values ks c (x ∷ xs) [] h v k i e f l a = absurd (let z : ⊥ = omega arith in z)
alike_from n rows held own values ks c (x ∷ xs) (y ∷ ys) h v k i e f l a =
    by_test (nat_eq (unsigned_abs y.den) 1) refl
    (λ k2 m2 e2 f2 l2 a2. alike_from n rows (held ++ fixed c y.num ∷ []) own values (ks ++ y.num ∷ []) (suc c) xs ys h v k2 m2 e2 f2 l2 a2)
  where
    lowest_y : IsLowest y
    lowest_y = all_middle IsLowest (wholes ks) y ys values (sym f) v.lowest

    lowest_x : IsLowest x
    lowest_x = all_middle IsLowest (wholes ks) x xs own (sym e) h.one.lowest

    at_whole : nat_eq (unsigned_abs y.den) 1 ≡ true → IsNearest held c y.num → ArePicked (held ++ fixed c y.num ∷ []) (suc c) ys →
        (Keeps rows (held ++ fixed c y.num ∷ []) (ks ++ y.num ∷ []) → suc c ≡ length (ks ++ y.num ∷ []) → own ≡ wholes (ks ++ y.num ∷ []) ++ xs →
        values ≡ wholes (ks ++ y.num ∷ []) ++ ys → length xs ≡ length ys → ArePicked (held ++ fixed c y.num ∷ []) (suc c) ys → AreCutAlike (suc c) xs ys) →
        AreCutAlike c (x ∷ xs) (y ∷ ys)
    at_whole t near rest more =
        let w : y ≡ whole y.num = whole_is y lowest_y t in
        let fy : values ≡ wholes ks ++ whole y.num ∷ ys = f ∙ ap (λ (z : Fraction). wholes ks ++ z ∷ ys) w in
        let sx : x ≡ whole y.num =
        nearest_is n rows held ks y.num x ys k (subst (λ (j : ℕ). IsNearest held j y.num) i near) (h.picks (wholes ks) x xs e) (subst (IsPoint n rows) fy v) in
        let fx : own ≡ wholes ks ++ whole y.num ∷ xs = e ∙ ap (λ (z : Fraction). wholes ks ++ z ∷ xs) sx in
        let m : suc c ≡ length (ks ++ y.num ∷ []) = ap (λ (j : ℕ). suc j) i ∙ sym (length_more ks y.num) in
        alike_front c x y xs ys (sx ∙ sym w) t
        (more
        (subst (λ (j : ℕ). Keeps rows (held ++ fixed j y.num ∷ []) (ks ++ y.num ∷ [])) (sym i) (keeps_more rows held ks y.num k)) m
        (fx ∙ wholes_more ks y.num xs) (fy ∙ wholes_more ks y.num ys) (let q : suc (length xs) ≡ suc (length ys) = l in omega arith) rest)

    at_broken : nat_eq (unsigned_abs y.den) 1 ≡ false → IsApart held c (floor y) → AreCutAlike c (x ∷ xs) (y ∷ ys)
    at_broken t apart =
        let b : LiesBetween (floor y) x =
        apart_is n rows held ks (floor y) x k (subst (λ (j : ℕ). IsApart held j (floor y)) i apart) (h.picks (wholes ks) x xs e) lowest_x in
        let s = between_is_broken (floor y) x lowest_x b in
        broken_alike c x y xs ys s.0 t s.1

    by_test : (t : Bool) → nat_eq (unsigned_abs y.den) 1 ≡ t →
        (Keeps rows (held ++ fixed c y.num ∷ []) (ks ++ y.num ∷ []) → suc c ≡ length (ks ++ y.num ∷ []) → own ≡ wholes (ks ++ y.num ∷ []) ++ xs →
        values ≡ wholes (ks ++ y.num ∷ []) ++ ys → length xs ≡ length ys → ArePicked (held ++ fixed c y.num ∷ []) (suc c) ys → AreCutAlike (suc c) xs ys) →
        AreCutAlike c (x ∷ xs) (y ∷ ys)
    by_test true t more =
        let u : IfWhole true (IsNearest held c y.num × ArePicked (held ++ fixed c y.num ∷ []) (suc c) ys) (IsApart held c (floor y)) =
        subst (λ (z : Bool). IfWhole z (IsNearest held c y.num × ArePicked (held ++ fixed c y.num ∷ []) (suc c) ys) (IsApart held c (floor y))) t a in
        at_whole t u.0 u.1 more
    by_test false t more =
        at_broken t (subst (λ (z : Bool). IfWhole z (IsNearest held c y.num × ArePicked (held ++ fixed c y.num ∷ []) (suc c) ys) (IsApart held c (floor y))) t a)

numbers_alike : (own values : List Fraction) (a b : Option (ℕ × Fraction)) → cut_at a ≡ cut_at b → (b ≡ None → own ≡ values) → values_if own a ≡ values_if values b
numbers_alike own values None None e f = ap (λ (xs : List Fraction). Some (map (λ (g : Fraction). g.num) xs)) (f refl)
numbers_alike own values None (Some y) e f = absurd (let z : ⊥ = cc in z)
numbers_alike own values (Some x) None e f = absurd (let z : ⊥ = cc in z)
numbers_alike own values (Some x) (Some y) e f = refl

alike_by : (n : ℕ) (rows : List LinearRow) (values : List Fraction) (o : outcome.EliminationOutcome) → IsPickedOutcome n rows o → IsPoint n rows values → ArePicked rows 0 values →
    AreAlike o (outcome.point values)
alike_by n rows values (outcome.refuted parts) u v a = u (record { d = v.meets.d; p = v.meets.p; positive = v.meets.positive; holds = v.meets.holds })
alike_by n rows values (outcome.point own) u v a =
    let h : AreCutAlike 0 own values = alike_from n rows rows own values [] 0 own values u v (λ d p r w. r) refl refl refl (u.one.meets.columns ∙ sym v.meets.columns) a in
    record { cuts = h.cuts; numbers = numbers_alike own values (first_broken 0 own) (first_broken 0 values) h.cuts h.same }

refuted_by : (n : ℕ) (rows : List LinearRow) (parts : List (ℕ × ℤ)) (o : outcome.EliminationOutcome) → IsPickedOutcome n rows o → (IsSolvable rows → ⊥) → AreAlike o (outcome.refuted parts)
refuted_by n rows parts (outcome.refuted own) u h = tt
refuted_by n rows parts (outcome.point own) u h = h (record { d = u.one.meets.d; p = u.one.meets.p; positive = u.one.meets.positive; holds = u.one.meets.holds })

pub own_outcome : (n : ℕ) (rows : List LinearRow) → AllByRecursion IsRow rows → RowsBelow n rows → map tightened rows ≡ rows → IsPickedOutcome n rows (outcome.elimination n rows)
own_outcome n rows v b t = subst (λ (rs : List LinearRow). IsPickedOutcome n rs (outcome.elimination n rows)) t (point_is_picked n rows v b)

-- multipliers stand in where no rational point meets the rows
pub refuted_stands : (n : ℕ) (rows : List LinearRow) (parts : List (ℕ × ℤ)) → AllByRecursion IsRow rows → RowsBelow n rows → map tightened rows ≡ rows → (IsSolvable rows → ⊥) →
    StandsIn n rows (outcome.refuted parts)
refuted_stands n rows parts v b t h = record { alike = refuted_by n rows parts (outcome.elimination n rows) (own_outcome n rows v b t) h; meets = tt }

-- a point stands in whose values are shown to be picked
pub point_stands : (n : ℕ) (rows : List LinearRow) (values : List Fraction) → AllByRecursion IsRow rows → RowsBelow n rows → map tightened rows ≡ rows → IsPoint n rows values →
    ArePicked rows 0 values → StandsIn n rows (outcome.point values)
point_stands n rows values v b t p a = record {
  alike = alike_by n rows values (outcome.elimination n rows) (own_outcome n rows v b t) p a;
  meets = subst (λ (rs : List LinearRow). MeetsAll n rs values) (sym t) p.meets;
}

-- ---- along the values

-- a value that is not whole lies apart
pub apart_picked : (rows : List LinearRow) (c : ℕ) (f : Fraction) (fs : List Fraction) (k : ℤ) → IsLowest f → (f.den ≡ pos 1 → ⊥) → (k *ℤ f.den) ≤ℤ f.num →
    f.num <ℤ ((k +ℤ pos 1) *ℤ f.den) → IsApart rows c k → ArePicked rows c (f ∷ fs)
apart_picked rows c f fs k low n m h a =
    let e : k ≡ floor f = floor_is f.num f.den k low.positive m h in
    let t : nat_eq (unsigned_abs f.den) 1 ≡ false = ne_eqb (unsigned_abs f.den) 1 (λ z. let p : pos 0 <ℤ f.den = low.positive in n (omega (arith, ints))) in
    subst (λ (b : Bool). IfWhole b (IsNearest rows c f.num × ArePicked (rows ++ fixed c f.num ∷ []) (suc c) fs) (IsApart rows c (floor f))) (sym t)
    (subst (λ (z : ℤ). IsApart rows c z) e a)

-- a whole value is nearest, and so are those after it
pub nearest_picked : (rows : List LinearRow) (c : ℕ) (f : Fraction) (fs : List Fraction) → f.den ≡ pos 1 → IsNearest rows c f.num →
    ArePicked (rows ++ fixed c f.num ∷ []) (suc c) fs → ArePicked rows c (f ∷ fs)
nearest_picked rows c f fs e n rest =
    let u : unsigned_abs f.den ≡ 1 = ap unsigned_abs e in
    let t : nat_eq (unsigned_abs f.den) 1 ≡ true = ap (λ (m : ℕ). nat_eq m 1) u in
    subst (λ (b : Bool). IfWhole b (IsNearest rows c f.num × ArePicked (rows ++ fixed c f.num ∷ []) (suc c) fs) (IsApart rows c (floor f))) (sym t) (n, rest)

front_of : (left : List Fraction) (f : Fraction) → 1 ≤ length left → f ≡ get_or left 0 f → left ≡ f ∷ drop 1 left
front_of [] f l e = absurd (let z : ⊥ = omega arith in z)
front_of (x ∷ xs) f l e = ap (λ (y : Fraction). y ∷ xs) (sym e)

-- at a value that is not whole
pub apart_ends : (result : Result Bool AllocError) (rows : List LinearRow) (c : ℕ) (left : List Fraction) (f : Fraction) (k : ℤ) (Q : Type 0) → 1 ≤ length left →
    f ≡ get_or left 0 f → IsLowest f → (f.den ≡ pos 1 → ⊥) → (k *ℤ f.den) ≤ℤ f.num → f.num <ℤ ((k +ℤ pos 1) *ℤ f.den) → (ArePicked rows c left → Q) →
    IfOk result (λ yes. IsTrue yes → IsApart rows c k) → IfOk result (λ yes. IsTrue yes → Q)
apart_ends (Err e) rows c left f k Q l g low n m h i a = tt
apart_ends (Ok b) rows c left f k Q l g low n m h i a = λ t.
    i (subst (λ (xs : List Fraction). ArePicked rows c xs) (sym (front_of left f l g)) (apart_picked rows c f (drop 1 left) k low n m h (a t)))
