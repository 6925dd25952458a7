-- The nearest value between two ends is the pick of what lies between them, and a pick is one.
use Rattle.std.proofs.Common.{◌≡◌, ℤ, pos, negsuc, neg_ℤ, ◌*ℤ◌, ◌≤ℤ◌, ◌<ℤ◌, Bool, true, false, Option, None, Some, refl, sym, ap, ◌∙◌, subst, inl, inr, ◌⊎◌, arith, if◌then◌else◌}
use Rattle.std.specs.Prelude.{int_le}
use Rattle.std.specs.Int.{int_div_euclid, int_max, int_min}
use Rattle.std.proofs.lemmas.Int.{ints, clamps}
use Rattle.math_facts.proofs.Whole.{product_comm, product_one_right, product_neg_left}
use Rattle.math_facts.proofs.Division.{floor_at_most}
use Rattle.frac.specs.Fractions.{Fraction, IsLowest}
use Rattle.frac.proofs.LowestTerms.{same_lowest}
use Rattle.fm_elim.specs.Quotients.{whole, floor, ceiling, nearest}
use Rattle.fm_elim.specs.Slices.{IsOnTheWay, IsAtMost, IsPick}
use Rattle.fm_elim.proofs.Between.{AtMost, Lies}

-- the same set has the same pick
pub pick_of_same : (P Q : Fraction → Type 0) (v : Fraction) → ((w : Fraction) → P w → Q w) → ((w : Fraction) → Q w → P w) → IsPick P v → IsPick Q v
pick_of_same P Q v f g h = record {
  member = f v h.member;
  nearest = λ j i. h.nearest j (g (whole j) i);
  least = λ n w i. h.least (λ j k. n j (f (whole j) k)) w (g w i);
}

itself : (j : ℤ) → IsOnTheWay j j
itself (pos n) = inl (omega (arith, ints), omega (arith, ints))
itself (negsuc n) = inr (omega (arith, ints), omega (arith, ints))

-- the only member is the pick
pub only_is_pick : (P : Fraction → Type 0) (v : Fraction) → P v → ((w : Fraction) → P w → w ≡ v) → IsPick P v
only_is_pick P v m e = record {
  member = m;
  nearest = λ j i. (j, (sym (e (whole j) i), itself j));
  least = λ n w i. subst (λ (x : Fraction). IsAtMost v x) (sym (e w i)) (let l : (v.num *ℤ v.den) ≤ℤ (v.num *ℤ v.den) = omega (arith, ints) in l);
}

-- ---- whole numbers between two ends

floor_from : (n d s : ℤ) → pos 0 <ℤ d → (s *ℤ d) ≤ℤ n → s ≤ℤ int_div_euclid n d
floor_from n (pos g) s p l =
    let e : s *ℤ pos g ≡ pos g *ℤ s = product_comm s (pos g) in
    (floor_at_most g s n (omega (arith, ints))).0 (omega (arith, ints))
floor_from n (negsuc g) s p l = absurd (omega (arith, ints))

at_most_floor : (u : Fraction) (j : ℤ) → AtMost (whole j) u → j ≤ℤ floor u
at_most_floor u j h =
    let e : u.num *ℤ pos 1 ≡ u.num = product_one_right u.num in
    let o : (j *ℤ u.den) ≤ℤ (u.num *ℤ pos 1) = h.order in
    floor_from u.num u.den j h.right (omega (arith, ints))

at_least_ceiling : (l : Fraction) (j : ℤ) → AtMost l (whole j) → ceiling l ≤ℤ j
at_least_ceiling l j h =
    let e : l.num *ℤ pos 1 ≡ l.num = product_one_right l.num in
    let o : (l.num *ℤ pos 1) ≤ℤ (j *ℤ l.den) = h.order in
    let f : neg_ℤ j *ℤ l.den ≡ neg_ℤ (j *ℤ l.den) = product_neg_left j l.den in
    let k : neg_ℤ j ≤ℤ int_div_euclid (neg_ℤ l.num) l.den = floor_from (neg_ℤ l.num) l.den (neg_ℤ j) h.left (omega (arith, ints)) in
    (let q : neg_ℤ (int_div_euclid (neg_ℤ l.num) l.den) ≤ℤ j = omega (arith, ints) in q)

pub zero_on_way : (j : ℤ) → IsOnTheWay (pos 0) j
zero_on_way (pos n) = inl (omega (arith, ints), omega (arith, ints))
zero_on_way (negsuc n) = inr (omega (arith, ints), omega (arith, ints))

up_on_way : (c j : ℤ) → c ≤ℤ j → IsOnTheWay (int_max c (pos 0)) j
up_on_way c (pos n) l = inl (omega (arith, ints, clamps), omega (arith, ints, clamps))
up_on_way c (negsuc n) l = inr (omega (arith, ints, clamps), omega (arith, ints, clamps))

down_on_way : (f j : ℤ) → j ≤ℤ f → IsOnTheWay (int_min (pos 0) f) j
down_on_way f (pos n) l = inl (omega (arith, ints, clamps), omega (arith, ints, clamps))
down_on_way f (negsuc n) l = inr (omega (arith, ints, clamps), omega (arith, ints, clamps))

between_on_way : (c f j : ℤ) → c ≤ℤ j → j ≤ℤ f → IsOnTheWay (int_max c (int_min (pos 0) f)) j
between_on_way c f (pos n) l m = inl (omega (arith, ints, clamps), omega (arith, ints, clamps))
between_on_way c f (negsuc n) l m = inr (omega (arith, ints, clamps), omega (arith, ints, clamps))

int_le_not : (a b : ℤ) → int_le a b ≡ false → b <ℤ a
int_le_not a b e = grind (arith, ints)

-- where all of a set lies between two ends, and the nearest value is in it, that is its pick
pub nearest_is_pick : (P : Fraction → Type 0) (l u : Option Fraction) → ((w : Fraction) → P w → Lies l u w) → P (nearest l u) → IsPick P (nearest l u)
nearest_is_pick P None None f m = record {
  member = m;
  nearest = λ j i. (pos 0, (refl, zero_on_way j));
  least = λ n w i. absurd (n (pos 0) m);
}
nearest_is_pick P (Some l) None f m = record {
  member = m;
  nearest = λ j i. (int_max (ceiling l) (pos 0), (refl, up_on_way (ceiling l) j (at_least_ceiling l j (f (whole j) i))));
  least = λ n w i. absurd (n (int_max (ceiling l) (pos 0)) m);
}
nearest_is_pick P None (Some u) f m = record {
  member = m;
  nearest = λ j i. (int_min (pos 0) (floor u), (refl, down_on_way (floor u) j (at_most_floor u j (f (whole j) i))));
  least = λ n w i. absurd (n (int_min (pos 0) (floor u)) m);
}
nearest_is_pick P (Some l) (Some u) f m = by_test (int_le (ceiling l) (floor u)) refl m
  where
    by_test : (b : Bool) → int_le (ceiling l) (floor u) ≡ b →
        let v : Fraction = if b then whole (int_max (ceiling l) (int_min (pos 0) (floor u))) else l in P v → IsPick P v
    by_test true e m = record {
      member = m;
      nearest = λ j i.
          let k = f (whole j) i in (
            int_max (ceiling l) (int_min (pos 0) (floor u)),
            (refl, between_on_way (ceiling l) (floor u) j (at_least_ceiling l j k.0) (at_most_floor u j k.1)),
          );
      least = λ n w i. absurd (n (int_max (ceiling l) (int_min (pos 0) (floor u))) m);
    }
    by_test false e m = record {
      member = m;
      nearest = λ j i.
          let k = f (whole j) i in
          let a : ceiling l ≤ℤ j = at_least_ceiling l j k.0 in
          let b : j ≤ℤ floor u = at_most_floor u j k.1 in
          let c : floor u <ℤ ceiling l = int_le_not (ceiling l) (floor u) e in
          absurd (let d : ⊥ = omega (arith, ints, a, b, c) in d);
      least = λ n w i. (f w i).0.order;
    }

-- ---- a pick is one

same_on_way : (y z : ℤ) → IsOnTheWay y z → IsOnTheWay z y → y ≡ z
same_on_way y z (inl a) (inl b) = let a0 = a.0 in let a1 = a.1 in let b1 = b.1 in omega (arith, ints)
same_on_way y z (inl a) (inr b) = let a0 = a.0 in let a1 = a.1 in let b0 = b.0 in let b1 = b.1 in omega (arith, ints)
same_on_way y z (inr a) (inl b) = let a0 = a.0 in let a1 = a.1 in let b0 = b.0 in let b1 = b.1 in omega (arith, ints)
same_on_way y z (inr a) (inr b) = let a0 = a.0 in let b0 = b.0 in omega (arith, ints)

whole_is_one : (y z : ℤ) → whole y ≡ whole z → y ≡ z
whole_is_one y z e = ap (λ (f : Fraction). f.num) e

-- a whole pick is the other pick
whole_pick : (P : Fraction → Type 0) (a b : Fraction) (z : ℤ) → a ≡ whole z → IsPick P a → IsPick P b → a ≡ b
whole_pick P a b z e h i =
    let n = i.nearest z (subst P e h.member) in
    let y : ℤ = n.0 in
    let m = h.nearest y (subst P n.1.0 i.member) in
    let f : m.0 ≡ z = whole_is_one m.0 z (sym m.1.0 ∙ e) in
    let g : y ≡ z = same_on_way y z n.1.1 (subst (λ (x : ℤ). IsOnTheWay x y) f m.1.1) in
    e ∙ ap whole (sym g) ∙ sym n.1.0

abbrev is_whole : Fraction → Type 0
is_whole a = (z : ℤ) × (a ≡ whole z)

whole_cases : (a : Fraction) → is_whole a ⊎ (is_whole a → ⊥)
whole_cases a = by_cases (den_cases a.den)
  where
    den_cases : (d : ℤ) → (d ≡ pos 1) ⊎ (d ≡ pos 1 → ⊥)
    den_cases d = grind (arith, ints)

    by_cases : ((a.den ≡ pos 1) ⊎ (a.den ≡ pos 1 → ⊥)) → is_whole a ⊎ (is_whole a → ⊥)
    by_cases (inl e) = inl (a.num, ap (λ (d : ℤ). let f : Fraction = record { num = a.num; den = d } in f) e)
    by_cases (inr n) = inr (λ h. n (ap (λ (f : Fraction). f.den) h.1))

pub pick_is_one : (P : Fraction → Type 0) (a b : Fraction) → ((w : Fraction) → P w → IsLowest w) → IsPick P a → IsPick P b → a ≡ b
pick_is_one P a b low h i = by_cases (whole_cases a) (whole_cases b)
  where
    none : (c : Fraction) → IsPick P c → (is_whole c → ⊥) → (j : ℤ) → P (whole j) → ⊥
    none c k n j p = let q = k.nearest j p in n (q.0, q.1.0)

    by_cases : is_whole a ⊎ (is_whole a → ⊥) → is_whole b ⊎ (is_whole b → ⊥) → a ≡ b
    by_cases (inl e) t = whole_pick P a b e.0 e.1 h i
    by_cases (inr n) (inl e) = sym (whole_pick P b a e.0 e.1 i h)
    by_cases (inr n) (inr m) =
        let x : (a.num *ℤ b.den) ≤ℤ (b.num *ℤ a.den) = h.least (none a h n) b i.member in
        let y : (b.num *ℤ a.den) ≤ℤ (a.num *ℤ b.den) = i.least (none b i m) a h.member in
        same_lowest a b (low a h.member) (low b i.member) (omega (arith, ints))
