-- What sums of columns compared with a number are worth.
use Rattle.std.proofs.Common.{◌≡◌, ◌∙◌, ℕ, ℤ, pos, negsuc, ◌+ℤ◌, ◌*ℤ◌, neg_ℤ, ◌≤ℤ◌, ◌<ℤ◌, Bool, true, false, not, List, [], ◌∷◌, ◌++◌, length, Option, None, Some, nat_eq, nat_lt, refl, sym, ap, arith}
use Rattle.std.specs.Prelude.{◌&&◌, ◌||◌, int_le, int_lt, if◌then◌else◌}
use Rattle.std.specs.Option.{option_map}
use Rattle.std.specs.Ordering.{int_eq}
use Rattle.std.proofs.lemmas.Bool.{ltb-false}
use Rattle.std.proofs.lemmas.Bool.Decides.{Decides-int_eq, same_from_decides}
use Rattle.std.proofs.lemmas.Int.{ints}
use Rattle.math_facts.specs.Terms.{dot}
use Rattle.math_facts.proofs.Whole.{product_one_left, product_neg_left}
use Rattle.boogie_tree.specs.declared.tree.Op.{Op}
use Rattle.boogie_tree.specs.declared.tree.Op.TheVariants as ops
use Rattle.boogie_tree.specs.Tree.{Expression}
use Rattle.explained_proof.specs.BuiltExpressions.Building.{number, operation, chained}
use Rattle.explained_proof.proofs.BuiltExpressions.ChainWorth.{both, row_worth, row_first, within_worth}
use Rattle.explained_proof.specs.RowExpressions.Options.{in_front}
use Rattle.explained_proof.specs.RowExpressions.Scopes.{ClauseScope, number_said}
use Rattle.explained_proof.specs.RowExpressions.Sums.{magnitude, times, term_said, is_on, side, stands_right, stands_left, number_if, related, compared, comparison, begins_below, comparing, sum_said}
use Rattle.explained_proof.specs.RowExpressions.Worth.{IsReading, HasColumns, meets}

-- ---- whole numbers

abbrev plus : ℤ → ℤ → ℤ
plus x y = x +ℤ y

plus_joins : (x y z : ℤ) → plus (plus x y) z ≡ plus x (plus y z)
plus_joins x y z = omega (arith, ints)

plus_none : (x : ℤ) → x +ℤ pos 0 ≡ x
plus_none x = omega (arith, ints)

none_plus : (x : ℤ) → pos 0 +ℤ x ≡ x
none_plus x = omega (arith, ints)

opposite_plus : (x : ℤ) → neg_ℤ x +ℤ x ≡ pos 0
opposite_plus x = omega (arith, ints)

le_yes : (a b : ℤ) → int_le a b ≡ true → a ≤ℤ b
le_yes a b h = grind (arith, ints)

le_no : (a b : ℤ) → int_le a b ≡ false → b <ℤ a
le_no a b h = grind (arith, ints)

lt_yes : (a b : ℤ) → int_lt a b ≡ true → a <ℤ b
lt_yes a b h = grind (arith, ints)

lt_no : (a b : ℤ) → int_lt a b ≡ false → b ≤ℤ a
lt_no a b h = grind (arith, ints)

zero_at_most : (n : ℕ) → nat_lt 0 n ≡ false → n ≡ 0
zero_at_most n h = omega (arith, ltb-false 0 n h)

above_itself : (z : ℤ) → int_lt (pos 0) z ≡ true → magnitude z ≡ z
above_itself (pos n) h = refl
above_itself (negsuc n) h = let no : ⊥ = cc in absurd no

not_above : (z : ℤ) → int_lt (pos 0) z ≡ false → magnitude z ≡ neg_ℤ z
not_above (pos n) h = let e : n ≡ 0 = zero_at_most n h in ap (λ (m : ℕ). magnitude (pos m)) e ∙ sym (ap (λ (m : ℕ). neg_ℤ (pos m)) e)
not_above (negsuc n) h = refl

not_both_ways : (b : ℤ) → int_lt (pos 0) b ≡ true → int_lt b (pos 0) ≡ true → ⊥
not_both_ways b h k = omega (arith, ints, lt_yes (pos 0) b h, lt_yes b (pos 0) k)

neither_way : (b : ℤ) → int_lt (pos 0) b ≡ false → int_lt b (pos 0) ≡ false → b ≡ pos 0
neither_way b h k = omega (arith, ints, lt_no (pos 0) b h, lt_no b (pos 0) k)

not_past : (l r d b : ℤ) → l +ℤ b ≡ r +ℤ d → l ≤ℤ r → b <ℤ d → ⊥
not_past l r d b h p q = omega (arith, ints)

not_short : (l r d b : ℤ) → l +ℤ b ≡ r +ℤ d → r <ℤ l → d ≤ℤ b → ⊥
not_short l r d b h p q = omega (arith, ints)

le_shifts : (l r d b : ℤ) → l +ℤ b ≡ r +ℤ d → int_le l r ≡ int_le d b
le_shifts l r d b h = by (int_le l r) (int_le d b) refl refl
  where
    by : (x y : Bool) → int_le l r ≡ x → int_le d b ≡ y → x ≡ y
    by true true e f = refl
    by false false e f = refl
    by true false e f = absurd (not_past l r d b h (le_yes l r e) (le_no d b f))
    by false true e f = absurd (not_short l r d b h (le_no l r e) (le_yes d b f))

eq_from : (l r d b : ℤ) → (l ≡ r → d ≡ b) → (d ≡ b → l ≡ r) → int_eq l r ≡ int_eq d b
eq_from l r d b to back =
    same_from_decides {P = l ≡ r} (int_eq l r) (int_eq d b) (Decides-int_eq l r) (λ h. back ((Decides-int_eq d b).0 h), λ h. (Decides-int_eq d b).1 (to h))

same_shift : (l r d b : ℤ) → l +ℤ b ≡ r +ℤ d → l ≡ r → d ≡ b
same_shift l r d b h e = omega (arith, ints)

same_shift_back : (l r d b : ℤ) → l +ℤ b ≡ r +ℤ d → d ≡ b → l ≡ r
same_shift_back l r d b h e = omega (arith, ints)

other_shift : (l r d b : ℤ) → l +ℤ d ≡ r +ℤ b → l ≡ r → d ≡ b
other_shift l r d b h e = omega (arith, ints)

other_shift_back : (l r d b : ℤ) → l +ℤ d ≡ r +ℤ b → d ≡ b → l ≡ r
other_shift_back l r d b h e = omega (arith, ints)

pub meets_shifts : (equal : Bool) (l r d b : ℤ) → l +ℤ b ≡ r +ℤ d → meets equal l r ≡ meets equal d b
meets_shifts true l r d b h = eq_from l r d b (same_shift l r d b h) (same_shift_back l r d b h)
meets_shifts false l r d b h = le_shifts l r d b h

-- ---- sums of expressions

abbrev total : (Expression → ℤ) → List Expression → ℤ
total worth [] = pos 0
total worth (e ∷ es) = worth e +ℤ total worth es

total-append : (worth : Expression → ℤ) (es fs : List Expression) → total worth (es ++ fs) ≡ total worth es +ℤ total worth fs
total-append worth [] fs = sym (none_plus (total worth fs))
total-append worth (e ∷ es) fs = ap (λ z. worth e +ℤ z) (total-append worth es fs) ∙ sym (plus_joins (worth e) (total worth es) (total worth fs))

abbrev amount : Option ℤ → ℤ
amount None = pos 0
amount (Some z) = z

amount_both : (x : ℤ) (o : Option ℤ) → amount (both plus (Some x) o) ≡ x +ℤ amount o
amount_both x None = sym (plus_none x)
amount_both x (Some y) = refl

-- the terms of one side at a point
abbrev part : Bool → (ℕ → ℤ) → List (ℕ × ℤ) → ℤ
part b point [] = pos 0
part b point (t ∷ ts) = if is_on b t.1 then (magnitude t.1 *ℤ point t.0) +ℤ part b point ts else part b point ts

moved : (a c D N P : ℤ) → c ≡ a → D +ℤ N ≡ P → (a +ℤ D) +ℤ N ≡ c +ℤ P
moved a c D N P e h = omega (arith, ints)

taken_out : (a c D N P : ℤ) → c ≡ neg_ℤ a → D +ℤ N ≡ P → (a +ℤ D) +ℤ (c +ℤ N) ≡ P
taken_out a c D N P e h = omega (arith, ints)

term_parts : (b : Bool) (z p D N P : ℤ) → int_lt (pos 0) z ≡ b → D +ℤ N ≡ P →
    ((z *ℤ p) +ℤ D) +ℤ (if not b then (magnitude z *ℤ p) +ℤ N else N) ≡ (if b then (magnitude z *ℤ p) +ℤ P else P)
term_parts true z p D N P h e = moved (z *ℤ p) (magnitude z *ℤ p) D N P (ap (λ y. y *ℤ p) (above_itself z h)) e
term_parts false z p D N P h e = taken_out (z *ℤ p) (magnitude z *ℤ p) D N P (ap (λ y. y *ℤ p) (not_above z h) ∙ product_neg_left z p) e

parts_dot : (point : ℕ → ℤ) (ts : List (ℕ × ℤ)) → dot point ts +ℤ part false point ts ≡ part true point ts
parts_dot point [] = refl
parts_dot point (t ∷ ts) =
    term_parts (int_lt (pos 0) t.1) t.1 (point t.0) (dot point ts) (part false point ts) (part true point ts) refl (parts_dot point ts)

-- the parts of a list that is there
pub record Fronted {X : Type 0} (o : Option X) (os : Option (List X)) (es : List X) : Type 0 where
  pub first : X
  pub rest : List X
  pub has_first : o ≡ Some first
  pub has_rest : os ≡ Some rest
  pub whole : es ≡ first ∷ rest

pub fronted : {X : Type 0} (o : Option X) (os : Option (List X)) (es : List X) → in_front o os ≡ Some es → Fronted o os es
fronted None os es h = let no : ⊥ = cc in absurd no
fronted (Some x) None es h = let no : ⊥ = cc in absurd no
fronted (Some x) (Some xs) es h = record { first = x; rest = xs; has_first = refl; has_rest = refl; whole = let e : es ≡ x ∷ xs = cc in e }

pub there : {X : Type 0} (x y : X) → Some x ≡ Some y → x ≡ y
there x y h = cc

-- a comparison that is there has its two sides
record Related (op : Op) (a b : Option Expression) (e : Expression) : Type 0 where
  left : Expression
  right : Expression
  has_left : a ≡ Some left
  has_right : b ≡ Some right
  whole : e ≡ operation op left right

related_parts : (op : Op) (a b : Option Expression) (e : Expression) → related op a b ≡ Some e → Related op a b e
related_parts op None b e h = let no : ⊥ = cc in absurd no
related_parts op (Some x) None e h = let no : ⊥ = cc in absurd no
related_parts op (Some x) (Some y) e h = record { left = x; right = y; has_left = refl; has_right = refl; whole = sym (there (operation op x y) e h) }

abbrev number_there : Bool → ℤ → ℤ
number_there true z = z
number_there false z = pos 0

numbers_stand : (r0 l0 above below : Bool) (b : ℤ) → (above ≡ true → below ≡ true → ⊥) → (above ≡ false → below ≡ false → b ≡ pos 0) →
    number_there (r0 || (not l0 && above)) b ≡ number_there (not r0 && (l0 || below)) (neg_ℤ b) +ℤ b
numbers_stand true l0 above below b n e = sym (none_plus b)
numbers_stand false true above below b n e = sym (opposite_plus b)
numbers_stand false false true true b n e = absurd (n refl refl)
numbers_stand false false true false b n e = sym (none_plus b)
numbers_stand false false false true b n e = sym (opposite_plus b)
numbers_stand false false false false b n e = sym (none_plus b ∙ e refl refl)

sides_balance : (X Y A B b D W V : ℤ) → W ≡ X +ℤ A → V ≡ Y +ℤ B → B ≡ A +ℤ b → D +ℤ Y ≡ X → W +ℤ b ≡ V +ℤ D
sides_balance X Y A B b D W V w v e d = omega (arith, ints)

-- the sides are exchanged, and the number is the opposite one
sides_exchanged : (X Y A B b D W V : ℤ) → W ≡ X +ℤ A → V ≡ Y +ℤ B → B ≡ A +ℤ neg_ℤ b → D +ℤ X ≡ Y → W +ℤ D ≡ V +ℤ b
sides_exchanged X Y A B b D W V w v e d = omega (arith, ints)

module _ (worth : Expression → ℤ) (holds : Expression → Bool) (reading : IsReading worth holds) where
  add_row : (es : List Expression) → amount (row_worth worth ops.Add es) ≡ total worth es
  add_row [] = refl
  add_row (e ∷ es) =
      ap amount (row_first ℤ worth ops.Add plus reading.sums plus_joins e es) ∙ amount_both (worth e) (row_worth worth ops.Add es) ∙ ap (λ z. worth e +ℤ z) (add_row es)

  chained_add : (es : List Expression) (e : Expression) → chained ops.Add es ≡ Some e → worth e ≡ total worth es
  chained_add es e h =
      ap amount (sym (ap (option_map worth) h) ∙ within_worth ℤ worth ops.Add plus reading.sums plus_joins (length es) es) ∙ add_row es

  number_total : (here : Bool) (z : ℤ) → total worth (number_if here z) ≡ number_there here z
  number_total true z = plus_none (worth (number z)) ∙ reading.numbers z
  number_total false z = refl

  times_by : (b : Bool) (z : ℤ) (e : Expression) → int_eq z (pos 1) ≡ b → worth (if b then e else operation ops.Mul (number z) e) ≡ z *ℤ worth e
  times_by true z e h = sym (ap (λ y. y *ℤ worth e) ((Decides-int_eq z (pos 1)).0 h) ∙ product_one_left (worth e))
  times_by false z e h = reading.products (number z) e ∙ ap (λ y. y *ℤ worth e) (reading.numbers z)

  times_worth : (z : ℤ) (e : Expression) → worth (times z e) ≡ z *ℤ worth e
  times_worth z e = times_by (int_eq z (pos 1)) z e refl

  mapped_worth : (m p : ℤ) (o : Option Expression) (x : Expression) → ((e : Expression) → o ≡ Some e → worth e ≡ p) → option_map (times m) o ≡ Some x → worth x ≡ m *ℤ p
  mapped_worth m p None x k h = let no : ⊥ = cc in absurd no
  mapped_worth m p (Some e) x k h = ap worth (sym (there (times m e) x h)) ∙ times_worth m e ∙ ap (λ y. m *ℤ y) (k e refl)

  module _ (s : ClauseScope) (point : ℕ → ℤ) (state : HasColumns worth holds s point) where
    term_worth : (c : ℕ) (z : ℤ) (x : Expression) → term_said s c z ≡ Some x → worth x ≡ magnitude z *ℤ point c
    term_worth c z x h = mapped_worth (magnitude z) (point c) (number_said s c) x (state.columns c) h

    side_step : (on : Bool) (t : ℕ × ℤ) (o : Option (List Expression)) (N : ℤ) (es : List Expression) → ((fs : List Expression) → o ≡ Some fs → total worth fs ≡ N) →
        (if on then in_front (term_said s t.0 t.1) o else o) ≡ Some es → total worth es ≡ (if on then (magnitude t.1 *ℤ point t.0) +ℤ N else N)
    side_step true t o N es k h =
        let f = fronted (term_said s t.0 t.1) o es h in
        ap (total worth) f.whole ∙ ap (λ z. z +ℤ total worth f.rest) (term_worth t.0 t.1 f.first f.has_first) ∙ ap (λ z. (magnitude t.1 *ℤ point t.0) +ℤ z) (k f.rest f.has_rest)
    side_step false t o N es k h = k es h

    side_total : (b : Bool) (ts : List (ℕ × ℤ)) (es : List Expression) → side s b ts ≡ Some es → total worth es ≡ part b point ts
    side_total b [] es h = ap (total worth) (sym (there [] es h))
    side_total b (t ∷ ts) es h = side_step (is_on b t.1) t (side s b ts) (part b point ts) es (side_total b ts) h

    -- the sides of a comparison, and what they are worth
    compared_sides : (op : Op) (b : ℤ) (ls rs : List Expression) (e : Expression) → compared op b ls rs ≡ Some e →
        (l : Expression) × (r : Expression) × (A : ℤ) × (B : ℤ) × (e ≡ operation op l r) × (worth l ≡ total worth ls +ℤ A) × (worth r ≡ total worth rs +ℤ B) × (B ≡ A +ℤ b)
    compared_sides op b ls rs e h =
        let on_left = stands_left (length ls) (length rs) b in
        let on_right = stands_right (length ls) (length rs) b in
        let lefts = ls ++ number_if on_left (neg_ℤ b) in
        let rights = rs ++ number_if on_right b in
        let f = related_parts op (chained ops.Add lefts) (chained ops.Add rights) e h in (
          f.left,
          f.right,
          number_there on_left (neg_ℤ b),
          number_there on_right b,
          f.whole,
          chained_add lefts f.left f.has_left ∙ total-append worth ls (number_if on_left (neg_ℤ b)) ∙ ap (λ z. total worth ls +ℤ z) (number_total on_left (neg_ℤ b)),
          chained_add rights f.right f.has_right ∙ total-append worth rs (number_if on_right b) ∙ ap (λ z. total worth rs +ℤ z) (number_total on_right b),
          numbers_stand (nat_eq (length rs) 0) (nat_eq (length ls) 0) (int_lt (pos 0) b) (int_lt b (pos 0)) b (not_both_ways b) (neither_way b),
        )

    comparing_holds : (equal : Bool) (l r : Expression) → holds (operation (comparing equal) l r) ≡ meets equal (worth l) (worth r)
    comparing_holds true l r = reading.equal l r
    comparing_holds false l r = reading.at_most l r

    -- the terms with positive coefficients stand on the left
    upright : (equal : Bool) (ts : List (ℕ × ℤ)) (b : ℤ) (ls rs : Option (List Expression)) (e : Expression) → side s true ts ≡ ls → side s false ts ≡ rs →
        comparison (comparing equal) b ls rs ≡ Some e → holds e ≡ meets equal (dot point ts) b
    upright equal ts b None rs e p q h = let no : ⊥ = cc in absurd no
    upright equal ts b (Some ls) None e p q h = let no : ⊥ = cc in absurd no
    upright equal ts b (Some ls) (Some rs) e p q h =
        let c = compared_sides (comparing equal) b ls rs e h in
        let x = side_total true ts ls p in
        let y = side_total false ts rs q in
        ap holds c.4 ∙ comparing_holds equal c.0 c.1 ∙
        meets_shifts equal (worth c.0) (worth c.1) (dot point ts) b
        (sides_balance (part true point ts) (part false point ts) c.2 c.3 b (dot point ts) (worth c.0) (worth c.1) (c.5 ∙ ap (λ z. z +ℤ c.2) x) (c.6 ∙ ap (λ z. z +ℤ c.3) y) c.7 (parts_dot point ts))

    -- an equation whose sides are exchanged
    exchanged : (ts : List (ℕ × ℤ)) (b : ℤ) (ls rs : Option (List Expression)) (e : Expression) → side s false ts ≡ ls → side s true ts ≡ rs →
        comparison ops.Eq (neg_ℤ b) ls rs ≡ Some e → holds e ≡ int_eq (dot point ts) b
    exchanged ts b None rs e p q h = let no : ⊥ = cc in absurd no
    exchanged ts b (Some ls) None e p q h = let no : ⊥ = cc in absurd no
    exchanged ts b (Some ls) (Some rs) e p q h =
        let c = compared_sides ops.Eq (neg_ℤ b) ls rs e h in
        let x = side_total false ts ls p in
        let y = side_total true ts rs q in
        let balance = sides_exchanged (part false point ts) (part true point ts) c.2 c.3 b (dot point ts) (worth c.0) (worth c.1) (c.5 ∙ ap (λ z. z +ℤ c.2) x) (c.6 ∙ ap (λ z. z +ℤ c.3) y) c.7 (parts_dot point ts) in
        ap holds c.4 ∙ reading.equal c.0 c.1 ∙
        eq_from (worth c.0) (worth c.1) (dot point ts) b (other_shift (worth c.0) (worth c.1) (dot point ts) b balance) (other_shift_back (worth c.0) (worth c.1) (dot point ts) b balance)

    sum_by : (equal below : Bool) (ts : List (ℕ × ℤ)) (b : ℤ) (e : Expression) →
        (if equal && below then comparison ops.Eq (neg_ℤ b) (side s false ts) (side s true ts) else comparison (comparing equal) b (side s true ts) (side s false ts)) ≡ Some e →
        holds e ≡ meets equal (dot point ts) b
    sum_by true true ts b e h = exchanged ts b (side s false ts) (side s true ts) e refl refl h
    sum_by true false ts b e h = upright true ts b (side s true ts) (side s false ts) e refl refl h
    sum_by false below ts b e h = upright false ts b (side s true ts) (side s false ts) e refl refl h

    -- a sum that is said holds exactly where it meets its bound
    pub sum_holds : (equal : Bool) (ts : List (ℕ × ℤ)) (b : ℤ) (e : Expression) → sum_said s equal ts b ≡ Some e → holds e ≡ meets equal (dot point ts) b
    sum_holds equal ts b e h = sum_by equal (begins_below ts) ts b e h
