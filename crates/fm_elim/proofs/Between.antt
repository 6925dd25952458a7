-- A value between the greatest lower end and the least upper end is between all of them.
use Rattle.std.proofs.Common.{◌≡◌, ℤ, pos, negsuc, neg_ℤ, ◌*ℤ◌, ◌≤ℤ◌, ◌<ℤ◌, Bool, true, false, List, [], ◌∷◌, Option, None, Some, refl, sym, ap, ◌∙◌, subst, arith, if◌then◌else◌}
use Rattle.std.specs.Prelude.{int_le}
use Rattle.std.specs.Int.{int_div_euclid, int_max, int_min}
use Rattle.std.specs.List.{AllByRecursion, fold}
use Rattle.std.proofs.lemmas.Int.{ints, clamps}
use Rattle.math_facts.proofs.Whole.{product_comm, product_swap, product_monotone, product_one_right, product_neg_left, cancel_order}
use Rattle.math_facts.proofs.Division.{floor_at_most}
use Rattle.frac.specs.Fractions.{Fraction}
use Rattle.fm_elim.specs.Quotients.{whole, is_less, floor, ceiling, nearest}
use Rattle.fm_elim.specs.Derivations.{DerivedRow}
use Rattle.fm_elim.specs.Values.{greater_end, less_end}
use Rattle.fm_elim.proofs.Lists.{all_weaker}
use Rattle.fm_elim.proofs.Multipliers.{less_is, not_less_is}

-- a is at most b
pub record AtMost (a b : Fraction) : Type 0 where
  pub left : pos 0 <ℤ a.den
  pub right : pos 0 <ℤ b.den
  pub order : (a.num *ℤ b.den) ≤ℤ (b.num *ℤ a.den)

pub turn : (x y z : ℤ) → x *ℤ (y *ℤ z) ≡ z *ℤ (y *ℤ x)
turn x y z = product_swap x y z ∙ ap (λ (u : ℤ). y *ℤ u) (product_comm x z) ∙ product_swap y z x

pub at_most_refl : (a : Fraction) → pos 0 <ℤ a.den → AtMost a a
at_most_refl a p = record { left = p; right = p; order = omega (arith, ints) }

positive_at_least : (a : ℤ) → pos 0 <ℤ a → pos 0 ≤ℤ a
positive_at_least a p = omega (arith, ints)

pub at_most_trans : (a b c : Fraction) → AtMost a b → AtMost b c → AtMost a c
at_most_trans a b c h i =
    let k : (c.den *ℤ (a.num *ℤ b.den)) ≤ℤ (c.den *ℤ (b.num *ℤ a.den)) =
    product_monotone c.den (a.num *ℤ b.den) (b.num *ℤ a.den) (positive_at_least c.den i.right) h.order in
    let l : (a.den *ℤ (b.num *ℤ c.den)) ≤ℤ (a.den *ℤ (c.num *ℤ b.den)) =
    product_monotone a.den (b.num *ℤ c.den) (c.num *ℤ b.den) (positive_at_least a.den h.left) i.order in
    let e : b.den *ℤ (a.num *ℤ c.den) ≡ c.den *ℤ (a.num *ℤ b.den) = turn b.den a.num c.den in
    let f : c.den *ℤ (b.num *ℤ a.den) ≡ a.den *ℤ (b.num *ℤ c.den) = turn c.den b.num a.den in
    let g : a.den *ℤ (c.num *ℤ b.den) ≡ b.den *ℤ (c.num *ℤ a.den) = turn a.den c.num b.den in
    record {
      left = h.left;
      right = i.right;
      order = cancel_order b.den (a.num *ℤ c.den) (c.num *ℤ a.den) h.right (omega (arith, ints));
    }

less_at_most : (a b : Fraction) → pos 0 <ℤ a.den → pos 0 <ℤ b.den → is_less a b ≡ true → AtMost a b
less_at_most a b p q e =
    let l : (a.num *ℤ b.den) <ℤ (b.num *ℤ a.den) = less_is (a.num *ℤ b.den) (b.num *ℤ a.den) e in
    record { left = p; right = q; order = omega (arith, ints) }

not_less_at_most : (a b : Fraction) → pos 0 <ℤ a.den → pos 0 <ℤ b.den → is_less a b ≡ false → AtMost b a
not_less_at_most a b p q e = record { left = q; right = p; order = not_less_is (a.num *ℤ b.den) (b.num *ℤ a.den) e }

-- ---- the best of several ends

-- by an order R the end is past all ends of the rows, and no further than needed; no end stands for no row
abbrev pub IsBest : (Fraction → Fraction → Type 0) → (DerivedRow → Fraction) → Option Fraction → List DerivedRow → Type 0
IsBest R f None rows = rows ≡ []
IsBest R f (Some m) rows = (pos 0 <ℤ m.den) × AllByRecursion (λ r. R (f r) m) rows × ((b : Fraction) → AllByRecursion (λ r. R (f r) b) rows → R m b)

-- the same of the ends of the rows and one end more
abbrev IsBestFrom : (Fraction → Fraction → Type 0) → (DerivedRow → Fraction) → Fraction → Option Fraction → List DerivedRow → Type 0
IsBestFrom R f a None rows = ⊥
IsBestFrom R f a (Some m) rows =
    (pos 0 <ℤ m.den) × R a m × AllByRecursion (λ r. R (f r) m) rows × ((b : Fraction) → R a b → AllByRecursion (λ r. R (f r) b) rows → R m b)

-- `pick` takes the better of two ends
module _ (R : Fraction → Fraction → Type 0) (same : (a : Fraction) → pos 0 <ℤ a.den → R a a) (trans : (a b c : Fraction) → R a b → R b c → R a c)
    (good : (a b : Fraction) → R a b → pos 0 <ℤ b.den)
    (pick : Fraction → Fraction → Fraction)
    (pick_left : (a b : Fraction) → pos 0 <ℤ a.den → pos 0 <ℤ b.den → R a (pick a b))
    (pick_right : (a b : Fraction) → pos 0 <ℤ a.den → pos 0 <ℤ b.den → R b (pick a b))
    (pick_least : (a b c : Fraction) → R a c → R b c → R (pick a b) c)
    (f : DerivedRow → Fraction)
    (next : Option Fraction → DerivedRow → Option Fraction) (next_none : (r : DerivedRow) → next None r ≡ Some (f r)) (next_some : (m : Fraction) (r : DerivedRow) → next (Some m) r ≡ Some (pick m (f r))) where
  best_joined : (a : Fraction) (r : DerivedRow) (rows : List DerivedRow) (o : Option Fraction) → pos 0 <ℤ a.den → pos 0 <ℤ (f r).den →
      IsBestFrom R f (pick a (f r)) o rows → IsBestFrom R f a o (r ∷ rows)
  best_joined a r rows None p q h = h
  best_joined a r rows (Some m) p q h = (
    h.0,
    trans a (pick a (f r)) m (pick_left a (f r) p q) h.1,
    (trans (f r) (pick a (f r)) m (pick_right a (f r) p q) h.1, h.2),
    λ b i j. h.3 b (pick_least a (f r) b i j.0) j.1,
  )

  best_from : (a : Fraction) (rows : List DerivedRow) → pos 0 <ℤ a.den → AllByRecursion (λ r. pos 0 <ℤ (f r).den) rows → IsBestFrom R f a (fold next (Some a) rows) rows
  best_from a [] p h = (p, same a p, tt, λ b i j. i)
  best_from a (r ∷ rows) p h =
      best_joined a r rows (fold next (next (Some a) r) rows) p h.0
      (subst (λ (o : Option Fraction). IsBestFrom R f (pick a (f r)) (fold next o rows) rows) (sym (next_some a r))
      (best_from (pick a (f r)) rows (good a (pick a (f r)) (pick_left a (f r) p h.0)) h.1))

  best_of_first : (r : DerivedRow) (rows : List DerivedRow) (o : Option Fraction) → IsBestFrom R f (f r) o rows → IsBest R f o (r ∷ rows)
  best_of_first r rows None h = absurd h
  best_of_first r rows (Some m) h = (h.0, (h.1, h.2), λ b j. h.3 b j.0 j.1)

  pub best_is : (rows : List DerivedRow) → AllByRecursion (λ r. pos 0 <ℤ (f r).den) rows → IsBest R f (fold next None rows) rows
  best_is [] h = refl
  best_is (r ∷ rows) h =
      best_of_first r rows (fold next (next None r) rows)
      (subst (λ (o : Option Fraction). IsBestFrom R f (f r) (fold next o rows) rows) (sym (next_none r)) (best_from (f r) rows h.0 h.1))

-- ---- the greater and the less of two ends

abbrev pub greater : Fraction → Fraction → Fraction
greater a b = greater_end (Some a) b

abbrev pub less : Fraction → Fraction → Fraction
less a b = less_end (Some a) b

pub greater_left : (a b : Fraction) → pos 0 <ℤ a.den → pos 0 <ℤ b.den → AtMost a (greater a b)
greater_left a b p q = by_test (is_less a b) refl
  where
    by_test : (c : Bool) → is_less a b ≡ c → AtMost a (if c then b else a)
    by_test true e = less_at_most a b p q e
    by_test false e = at_most_refl a p

pub greater_right : (a b : Fraction) → pos 0 <ℤ a.den → pos 0 <ℤ b.den → AtMost b (greater a b)
greater_right a b p q = by_test (is_less a b) refl
  where
    by_test : (c : Bool) → is_less a b ≡ c → AtMost b (if c then b else a)
    by_test true e = at_most_refl b q
    by_test false e = not_less_at_most a b p q e

pub greater_least : (a b c : Fraction) → AtMost a c → AtMost b c → AtMost (greater a b) c
greater_least a b c h i = by_test (is_less a b)
  where
    by_test : (t : Bool) → AtMost (if t then b else a) c
    by_test true = i
    by_test false = h

abbrev pub AtLeast : Fraction → Fraction → Type 0
AtLeast a b = AtMost b a

pub less_left : (a b : Fraction) → pos 0 <ℤ a.den → pos 0 <ℤ b.den → AtLeast a (less a b)
less_left a b p q = by_test (is_less b a) refl
  where
    by_test : (c : Bool) → is_less b a ≡ c → AtMost (if c then b else a) a
    by_test true e = less_at_most b a q p e
    by_test false e = at_most_refl a p

pub less_right : (a b : Fraction) → pos 0 <ℤ a.den → pos 0 <ℤ b.den → AtLeast b (less a b)
less_right a b p q = by_test (is_less b a) refl
  where
    by_test : (c : Bool) → is_less b a ≡ c → AtMost (if c then b else a) b
    by_test true e = at_most_refl b q
    by_test false e = not_less_at_most b a q p e

pub less_greatest : (a b c : Fraction) → AtLeast a c → AtLeast b c → AtLeast (less a b) c
less_greatest a b c h i = by_test (is_less b a)
  where
    by_test : (t : Bool) → AtMost c (if t then b else a)
    by_test true = i
    by_test false = h

-- ---- the nearest whole number

floor_fits : (n d s : ℤ) → pos 0 <ℤ d → s ≤ℤ int_div_euclid n d → (s *ℤ d) ≤ℤ n
floor_fits n (pos g) s p l =
    let k : (pos g *ℤ s) ≤ℤ n = (floor_at_most g s n (omega (arith, ints))).1 l in
    let e : s *ℤ pos g ≡ pos g *ℤ s = product_comm s (pos g) in
    omega (arith, ints)
floor_fits n (negsuc g) s p l = absurd (omega (arith, ints))

whole_below : (u : Fraction) (z : ℤ) → pos 0 <ℤ u.den → z ≤ℤ floor u → AtMost (whole z) u
whole_below u z p l =
    let k : (z *ℤ u.den) ≤ℤ u.num = floor_fits u.num u.den z p l in
    let e : u.num *ℤ pos 1 ≡ u.num = product_one_right u.num in
    record { left = omega (arith, ints); right = p; order = omega (arith, ints) }

whole_above : (l : Fraction) (z : ℤ) → pos 0 <ℤ l.den → ceiling l ≤ℤ z → AtMost l (whole z)
whole_above l z p h =
    let q : ℤ = int_div_euclid (neg_ℤ l.num) l.den in
    let k : (neg_ℤ z *ℤ l.den) ≤ℤ neg_ℤ l.num = floor_fits (neg_ℤ l.num) l.den (neg_ℤ z) p (let m : neg_ℤ q ≤ℤ z = h in omega (arith, ints)) in
    let f : neg_ℤ z *ℤ l.den ≡ neg_ℤ (z *ℤ l.den) = product_neg_left z l.den in
    let e : l.num *ℤ pos 1 ≡ l.num = product_one_right l.num in
    record { left = p; right = omega (arith, ints); order = omega (arith, ints) }

int_le_is : (a b : ℤ) → int_le a b ≡ true → a ≤ℤ b
int_le_is a b e = grind (arith, ints)

-- the value is at least the lower end and at most the upper one
abbrev pub Lies : Option Fraction → Option Fraction → Fraction → Type 0
Lies None None v = pos 0 <ℤ v.den
Lies (Some l) None v = AtMost l v
Lies None (Some u) v = AtMost v u
Lies (Some l) (Some u) v = AtMost l v × AtMost v u

abbrev InOrder : Option Fraction → Option Fraction → Type 0
InOrder None None = Unit {0}
InOrder (Some l) None = pos 0 <ℤ l.den
InOrder None (Some u) = pos 0 <ℤ u.den
InOrder (Some l) (Some u) = AtMost l u

nearest_lies : (l u : Option Fraction) → InOrder l u → Lies l u (nearest l u)
nearest_lies None None h = omega (arith, ints)
nearest_lies (Some l) None h = whole_above l (int_max (ceiling l) (pos 0)) h (omega (arith, ints, clamps))
nearest_lies None (Some u) h = whole_below u (int_min (pos 0) (floor u)) h (omega (arith, ints, clamps))
nearest_lies (Some l) (Some u) h = by_test (int_le (ceiling l) (floor u)) refl
  where
    by_test : (b : Bool) → int_le (ceiling l) (floor u) ≡ b → Lies (Some l) (Some u) (if b then whole (int_max (ceiling l) (int_min (pos 0) (floor u))) else l)
    by_test true e =
        let o : ceiling l ≤ℤ floor u = int_le_is (ceiling l) (floor u) e in (
          whole_above l (int_max (ceiling l) (int_min (pos 0) (floor u))) h.left (omega (arith, ints, clamps)),
          whole_below u (int_max (ceiling l) (int_min (pos 0) (floor u))) h.right (omega (arith, ints, clamps)),
        )
    by_test false e = (at_most_refl l h.left, h)

-- ---- the value among all ends

in_order : (f : DerivedRow → Fraction) (l u : Option Fraction) (lows ups : List DerivedRow) → IsBest AtMost f l lows → IsBest AtLeast f u ups →
    AllByRecursion (λ x. AllByRecursion (λ y. AtMost (f x) (f y)) ups) lows → InOrder l u
in_order f None None lows ups h i p = tt
in_order f (Some l) None lows ups h i p = h.0
in_order f None (Some u) lows ups h i p = i.0
in_order f (Some l) (Some u) lows ups h i p =
    h.2 u (all_weaker (λ x. AllByRecursion (λ y. AtMost (f x) (f y)) ups) (λ x. AtMost (f x) u) lows (λ x q. i.2 (f x) q) p)

-- the nearest value lies between the ends, if each lower end is at most each upper end
pub value_lies : (f : DerivedRow → Fraction) (l u : Option Fraction) (lows ups : List DerivedRow) → IsBest AtMost f l lows → IsBest AtLeast f u ups →
    AllByRecursion (λ x. AllByRecursion (λ y. AtMost (f x) (f y)) ups) lows → Lies l u (nearest l u)
value_lies f l u lows ups h i p = nearest_lies l u (in_order f l u lows ups h i p)

pub lows_below : (f : DerivedRow → Fraction) (l u : Option Fraction) (v : Fraction) (lows : List DerivedRow) → IsBest AtMost f l lows → Lies l u v →
    AllByRecursion (λ x. AtMost (f x) v) lows
lows_below f None u v lows h i = subst (λ (xs : List DerivedRow). AllByRecursion (λ x. AtMost (f x) v) xs) (sym h) tt
lows_below f (Some l) None v lows h i = all_weaker (λ x. AtMost (f x) l) (λ x. AtMost (f x) v) lows (λ x q. at_most_trans (f x) l v q i) h.1
lows_below f (Some l) (Some u) v lows h i = all_weaker (λ x. AtMost (f x) l) (λ x. AtMost (f x) v) lows (λ x q. at_most_trans (f x) l v q i.0) h.1

pub ups_above : (f : DerivedRow → Fraction) (l u : Option Fraction) (v : Fraction) (ups : List DerivedRow) → IsBest AtLeast f u ups → Lies l u v →
    AllByRecursion (λ y. AtMost v (f y)) ups
ups_above f l None v ups h i = subst (λ (xs : List DerivedRow). AllByRecursion (λ y. AtMost v (f y)) xs) (sym h) tt
ups_above f None (Some u) v ups h i = all_weaker (λ y. AtMost u (f y)) (λ y. AtMost v (f y)) ups (λ y q. at_most_trans v u (f y) i q) h.1
ups_above f (Some l) (Some u) v ups h i = all_weaker (λ y. AtMost u (f y)) (λ y. AtMost v (f y)) ups (λ y q. at_most_trans v u (f y) i.1 q) h.1

pub lies_positive : (l u : Option Fraction) (v : Fraction) → Lies l u v → pos 0 <ℤ v.den
lies_positive None None v h = h
lies_positive (Some l) None v h = h.right
lies_positive None (Some u) v h = h.left
lies_positive (Some l) (Some u) v h = h.0.right
