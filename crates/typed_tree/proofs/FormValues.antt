-- The form of a whole-number expression has its value.
use Rattle.std.proofs.Common.{◌≡◌, suc, Bool, true, false, ◌&&◌, ◌||◌, ℤ, pos, negsuc, ◌+ℤ◌, ◌-ℤ◌, ◌*ℤ◌, neg_ℤ, List, [], ◌∷◌, map, if◌then◌else◌, refl, ap, sym, ◌∙◌, arith}
use Rattle.std.proofs.lemmas.Bool.{and_parts, eqb-true, false≢true}
use Rattle.std.proofs.lemmas.Int.{ints}
use Rattle.math_facts.proofs.Whole.{product_comm, product_assoc, distrib_left, distrib_right, product_zero_left, product_one_left, product_neg_left}
use Rattle.boogie_tree.specs.declared.tree.Op.{Op}
use Rattle.boogie_tree.specs.declared.tree.Op.TheVariants.{Iff, Implies, And, Or, Eq, Ne, Lt, Le, Gt, Ge, Add, Sub, Mul, Div, Mod}
use Rattle.boogie_tree.specs.declared.tree.Column.{Column}
use Rattle.boogie_tree.specs.declared.tree.Column.TheVariants as columns
use Rattle.typed_tree.specs.TypedTree.{TypedExpression, Lit, Truth, Var, Old, Not, Neg, Bin}
use Rattle.typed_tree.specs.Values.{State, column_value, at_entry, value, operation_value}
use Rattle.typed_tree.specs.AffineForm.{Form, is_before, form_is_zero, form_led_by, form_added_at, added_to, form_number, form_scaled, form_times, form_plus, form_quotient, product, operation, is_constant, is_empty, read_at, form_column, form, is_linear, is_linear_operation, is_affine, is_affine_operator}
use Rattle.typed_tree.specs.Laws.{sum_of, form_value, state_of, FixedStay}
use Rattle.typed_tree.proofs.ColumnOrder.{same_place}

zero_is : (a : ℤ) → form_is_zero a ≡ true → a ≡ pos 0
zero_is (pos n) e = ap pos (eqb-true n 0 e)
zero_is (negsuc n) e = absurd (omega (arith, eqb-true (suc n) 0 e))

sum_of-led_by : (s : State) (c : Column) (a : ℤ) (ts : List (Column × ℤ)) → sum_of s (form_led_by c a ts) ≡ (a *ℤ column_value s c) +ℤ sum_of s ts
sum_of-led_by s c a ts = by_test (form_is_zero a) refl
  where
    by_test : (z : Bool) → form_is_zero a ≡ z → sum_of s (if z then ts else (c, a) ∷ ts) ≡ (a *ℤ column_value s c) +ℤ sum_of s ts
    by_test true e =
        let f : a *ℤ column_value s c ≡ pos 0 = ap (λ (m : ℤ). m *ℤ column_value s c) (zero_is a e) ∙ product_zero_left (column_value s c) in
        omega (arith, ints)
    by_test false e = refl

sum_of-added_at : (s : State) (c : Column) (a : ℤ) (ts : List (Column × ℤ)) → sum_of s (form_added_at c a ts) ≡ (a *ℤ column_value s c) +ℤ sum_of s ts
sum_of-added_at s c a [] = sum_of-led_by s c a []
sum_of-added_at s c a (t ∷ ts) = by_tests (is_before c t.0) (is_before t.0 c) refl refl (sum_of-added_at s c a ts)
  where
    by_tests : (k l : Bool) → is_before c t.0 ≡ k → is_before t.0 c ≡ l → sum_of s (form_added_at c a ts) ≡ (a *ℤ column_value s c) +ℤ sum_of s ts →
        sum_of s (if k then form_led_by c a (t ∷ ts) else (if l then t ∷ form_added_at c a ts else form_led_by c (t.1 +ℤ a) ts)) ≡ (a *ℤ column_value s c) +ℤ ((t.1 *ℤ column_value s t.0) +ℤ sum_of s ts)
    by_tests true l e f h = sum_of-led_by s c a (t ∷ ts)
    by_tests false true e f h =
        let g : sum_of s (t ∷ form_added_at c a ts) ≡ (t.1 *ℤ column_value s t.0) +ℤ sum_of s (form_added_at c a ts) = refl in
        omega (arith, ints, g, h)
    by_tests false false e f h =
        let g : sum_of s (form_led_by c (t.1 +ℤ a) ts) ≡ ((t.1 +ℤ a) *ℤ column_value s c) +ℤ sum_of s ts = sum_of-led_by s c (t.1 +ℤ a) ts in
        let d : (t.1 +ℤ a) *ℤ column_value s c ≡ (t.1 *ℤ column_value s c) +ℤ (a *ℤ column_value s c) = distrib_right t.1 a (column_value s c) in
        let k : t.1 *ℤ column_value s c ≡ t.1 *ℤ column_value s t.0 = ap (λ (d : Column). t.1 *ℤ column_value s d) (same_place c t.0 e f) in
        omega (arith, ints, g, d, k)

sum_of-added_to : (s : State) (ts us : List (Column × ℤ)) → sum_of s (added_to ts us) ≡ sum_of s ts +ℤ sum_of s us
sum_of-added_to s ts [] = omega (arith, ints)
sum_of-added_to s ts (u ∷ us) =
    let h : sum_of s (added_to (form_added_at u.0 u.1 ts) us) ≡ sum_of s (form_added_at u.0 u.1 ts) +ℤ sum_of s us = sum_of-added_to s (form_added_at u.0 u.1 ts) us in
    let k : sum_of s (form_added_at u.0 u.1 ts) ≡ (u.1 *ℤ column_value s u.0) +ℤ sum_of s ts = sum_of-added_at s u.0 u.1 ts in
    let g : sum_of s (u ∷ us) ≡ (u.1 *ℤ column_value s u.0) +ℤ sum_of s us = refl in
    omega (arith, ints, h, k, g)

sum_of-scaled : (s : State) (m : ℤ) (ts : List (Column × ℤ)) → sum_of s (map (λ t. (t.0, m *ℤ t.1)) ts) ≡ m *ℤ sum_of s ts
sum_of-scaled s m [] = sym (product_comm m (pos 0) ∙ product_zero_left m)
sum_of-scaled s m (t ∷ ts) =
    let v : ℤ = column_value s t.0 in
    let h : sum_of s (map (λ t. (t.0, m *ℤ t.1)) ts) ≡ m *ℤ sum_of s ts = sum_of-scaled s m ts in
    let k : (m *ℤ t.1) *ℤ column_value s t.0 ≡ m *ℤ (t.1 *ℤ column_value s t.0) = product_assoc m t.1 (column_value s t.0) in
    let d : m *ℤ ((t.1 *ℤ column_value s t.0) +ℤ sum_of s ts) ≡ (m *ℤ (t.1 *ℤ column_value s t.0)) +ℤ (m *ℤ sum_of s ts) = distrib_left m (t.1 *ℤ column_value s t.0) (sum_of s ts) in
    ap (λ (z : ℤ). ((m *ℤ t.1) *ℤ column_value s t.0) +ℤ z) h ∙ ap (λ (z : ℤ). z +ℤ (m *ℤ sum_of s ts)) k ∙ sym d

form_value-plus : (s : State) (a b : Form) → form_value s (form_plus a b) ≡ form_value s a +ℤ form_value s b
form_value-plus s a b =
    let h : sum_of s (added_to a.terms b.terms) ≡ sum_of s a.terms +ℤ sum_of s b.terms = sum_of-added_to s a.terms b.terms in
    omega (arith, ints, h)

form_value-times : (s : State) (m : ℤ) (b : Form) → form_value s (form_times m b) ≡ m *ℤ form_value s b
form_value-times s m b = by_test (form_is_zero m) refl
  where
    by_test : (z : Bool) → form_is_zero m ≡ z → form_value s (if z then form_number (pos 0) else form_scaled m b) ≡ m *ℤ form_value s b
    by_test true e = sym (ap (λ (k : ℤ). k *ℤ form_value s b) (zero_is m e) ∙ product_zero_left (form_value s b))
    by_test false e = ap (λ (z : ℤ). z +ℤ (m *ℤ b.constant)) (sum_of-scaled s m b.terms) ∙ sym (distrib_left m (sum_of s b.terms) b.constant)

empty_sum : (s : State) (ts : List (Column × ℤ)) → is_empty ts ≡ true → sum_of s ts ≡ pos 0
empty_sum s [] e = refl
empty_sum s (t ∷ ts) e = absurd (false≢true e)

constant_value : (s : State) (a : Form) → is_constant a ≡ true → form_value s a ≡ a.constant
constant_value s a e =
    let h : sum_of s a.terms ≡ pos 0 = empty_sum s a.terms (and_parts (is_empty a.terms) (is_empty a.quotients) e).0 in
    omega (arith, ints, h)

form_value-product : (s : State) (a b : Form) → (is_constant a || is_constant b) ≡ true → form_value s (product a b) ≡ form_value s a *ℤ form_value s b
form_value-product s a b h = by_tests (is_constant a) (is_constant b) refl refl h
  where
    by_tests : (x y : Bool) → is_constant a ≡ x → is_constant b ≡ y → (x || y) ≡ true →
        form_value s (if x then form_times a.constant b else (if y then form_times b.constant a else form_quotient)) ≡ form_value s a *ℤ form_value s b
    by_tests true y e f c = form_value-times s a.constant b ∙ ap (λ (z : ℤ). z *ℤ form_value s b) (sym (constant_value s a e))
    by_tests false true e f c =
        form_value-times s b.constant a ∙ product_comm b.constant (form_value s a) ∙ ap (λ (z : ℤ). form_value s a *ℤ z) (sym (constant_value s b f))
    by_tests false false e f c = absurd (false≢true c)

minus_one : (z : ℤ) → negsuc 0 *ℤ z ≡ neg_ℤ z
minus_one z = product_neg_left (pos 1) z ∙ ap neg_ℤ (product_one_left z)

read_value : (old : Bool) (s : State) (c : Column) → column_value (state_of old s) c ≡ column_value s (read_at old c)
read_value true s (columns.Global n) = refl
read_value true s (columns.Old n) = refl
read_value true s (columns.Local n) = refl
read_value false s c = refl

-- a constant has its value at the entry, too
stays : (g : Column → Bool) (old : Bool) (s : State) (c : Column) → FixedStay g s → g c ≡ true → column_value (state_of old s) c ≡ column_value s c
stays g true s c h e = h c e
stays g false s c h e = refl

named_value : (g : Column → Bool) (old : Bool) (s : State) (c : Column) → FixedStay g s → column_value (state_of old s) c ≡ column_value s (form_column g old c)
named_value g old s c h = by_test (g c) refl
  where
    by_test : (z : Bool) → g c ≡ z → column_value (state_of old s) c ≡ column_value s (if z then c else read_at old c)
    by_test true e = stays g old s c h e
    by_test false e = read_value old s c

entry_of : (old : Bool) (s : State) → at_entry (state_of old s) ≡ state_of true s
entry_of true s = refl
entry_of false s = refl

operation_has_value : (s : State) (op : Op) (a b : Form) → is_affine_operator op ≡ true → (op ≡ Mul → (is_constant a || is_constant b) ≡ true) →
    operation_value op (form_value s a) (form_value s b) ≡ form_value s (operation op a b)
operation_has_value s Add a b e h = sym (form_value-plus s a b)
operation_has_value s Sub a b e h =
    let p : form_value s (form_plus a (form_times (negsuc 0) b)) ≡ form_value s a +ℤ form_value s (form_times (negsuc 0) b) = form_value-plus s a (form_times (negsuc 0) b) in
    let q : form_value s (form_times (negsuc 0) b) ≡ neg_ℤ (form_value s b) = form_value-times s (negsuc 0) b ∙ minus_one (form_value s b) in
    omega (arith, ints, p, q)
operation_has_value s Mul a b e h = sym (form_value-product s a b (h refl))
operation_has_value s Div a b e h = absurd (false≢true e)
operation_has_value s Mod a b e h = absurd (false≢true e)
operation_has_value s Iff a b e h = absurd (false≢true e)
operation_has_value s Implies a b e h = absurd (false≢true e)
operation_has_value s And a b e h = absurd (false≢true e)
operation_has_value s Or a b e h = absurd (false≢true e)
operation_has_value s Eq a b e h = absurd (false≢true e)
operation_has_value s Ne a b e h = absurd (false≢true e)
operation_has_value s Lt a b e h = absurd (false≢true e)
operation_has_value s Le a b e h = absurd (false≢true e)
operation_has_value s Gt a b e h = absurd (false≢true e)
operation_has_value s Ge a b e h = absurd (false≢true e)

pub factor_of : (g : Column → Bool) (old : Bool) (op : Op) (a b : TypedExpression) → is_linear_operation g old op a b ≡ true → op ≡ Mul → (is_constant (form g old a) || is_constant (form g old b)) ≡ true
factor_of g old Mul a b h e = h
factor_of g old Add a b h e = absurd (cc)
factor_of g old Sub a b h e = absurd (cc)
factor_of g old Div a b h e = absurd (cc)
factor_of g old Mod a b h e = absurd (cc)
factor_of g old Iff a b h e = absurd (cc)
factor_of g old Implies a b h e = absurd (cc)
factor_of g old And a b h e = absurd (cc)
factor_of g old Or a b h e = absurd (cc)
factor_of g old Eq a b h e = absurd (cc)
factor_of g old Ne a b h e = absurd (cc)
factor_of g old Lt a b h e = absurd (cc)
factor_of g old Le a b h e = absurd (cc)
factor_of g old Gt a b h e = absurd (cc)
factor_of g old Ge a b h e = absurd (cc)

pub form_has_value : (g : Column → Bool) (old : Bool) (s : State) (e : TypedExpression) → FixedStay g s → is_affine e ≡ true → is_linear g old e ≡ true → value (state_of old s) e ≡ form_value s (form g old e)
form_has_value g old s (Lit at n) k h l = omega (arith, ints)
form_has_value g old s (Truth at b) k h l = absurd (false≢true h)
form_has_value g old s (Var at c) k h l =
    let v : column_value (state_of old s) c ≡ column_value s (form_column g old c) = named_value g old s c k in
    let w : pos 1 *ℤ column_value s (form_column g old c) ≡ column_value s (form_column g old c) = product_one_left (column_value s (form_column g old c)) in
    v ∙ sym w ∙ plain (pos 1 *ℤ column_value s (form_column g old c))
  where
    plain : (z : ℤ) → z ≡ (z +ℤ pos 0) +ℤ pos 0
    plain z = omega (arith, ints)
form_has_value g old s (Old at e) k h l = ap (λ (u : State). value u e) (entry_of old s) ∙ form_has_value g true s e k h l
form_has_value g old s (Not at e) k h l = absurd (false≢true h)
form_has_value g old s (Neg at e) k h l =
    ap neg_ℤ (form_has_value g old s e k h l) ∙ sym (minus_one (form_value s (form g old e))) ∙ sym (form_value-times s (negsuc 0) (form g old e))
form_has_value g old s (Bin at op a b) k h l =
    let p = and_parts (is_affine_operator op) (is_affine a && is_affine b) h in
    let q = and_parts (is_affine a) (is_affine b) p.1 in
    let m = and_parts (is_linear g old a) (is_linear g old b && is_linear_operation g old op a b) l in
    let n = and_parts (is_linear g old b) (is_linear_operation g old op a b) m.1 in
    ap (λ (z : ℤ). operation_value op z (value (state_of old s) b)) (form_has_value g old s a k q.0 m.0) ∙
    ap (λ (z : ℤ). operation_value op (form_value s (form g old a)) z) (form_has_value g old s b k q.1 n.0) ∙
    operation_has_value s op (form g old a) (form g old b) p.0 (factor_of g old op a b n.1)
