-- An expression whose form is constant has that value, whatever its quotients are.
use Rattle.std.proofs.Common.{◌≡◌, suc, Bool, true, false, ◌&&◌, ◌||◌, ℤ, pos, negsuc, ◌+ℤ◌, ◌-ℤ◌, ◌*ℤ◌, neg_ℤ, List, [], ◌∷◌, ◌++◌, map, Some, if◌then◌else◌, refl, ap, sym, ◌∙◌, subst, arith}
use Rattle.std.proofs.lemmas.Bool.{and_parts, eqb-true, false≢true}
use Rattle.std.proofs.lemmas.Int.{ints}
use Rattle.math_facts.proofs.Whole.{product_comm, product_assoc, distrib_left, distrib_right, product_zero_left, product_zero_right, product_one_left, product_neg_left}
use Rattle.boogie_tree.specs.declared.tree.Op.{Op}
use Rattle.boogie_tree.specs.declared.tree.Op.TheVariants.{Iff, Implies, And, Or, Eq, Ne, Lt, Le, Gt, Ge, Add, Sub, Mul, Div, Mod}
use Rattle.boogie_tree.specs.declared.tree.Ty.TheVariants as types
use Rattle.boogie_tree.specs.declared.tree.Column.{Column}
use Rattle.typed_tree.specs.TypedTree.{TypedExpression, Lit, Truth, Var, Old, Not, Neg, Bin}
use Rattle.typed_tree.specs.Values.{State, column_value, value, operation_value}
use Rattle.typed_tree.specs.AffineForm.{Form, is_before, form_is_zero, form_led_by, form_added_at, added_to, form_number, form_quotient, form_scaled, form_times, form_plus, product, operation, is_constant, is_empty, read_at, form_column, form, is_linear, is_linear_operation}
use Rattle.typed_tree.specs.Laws.{sum_of, form_value, state_of, FixedStay}
use Rattle.typed_tree.proofs.ColumnOrder.{same_place}
use Rattle.cond_jumps.specs.Environments.{Environment, type_in}
use Rattle.cond_jumps.specs.Paths.{constant_operation, constant_of}
use Rattle.cond_jumps.proofs.TypeLemmas.{AreTyped, operands, only_is, not_both, is_arithmetic, whole_operation, read_value, entry_of}

-- ---- the values of forms, without their quotients

zero_is : (a : ℤ) → form_is_zero a ≡ true → a ≡ pos 0
zero_is (pos n) e = ap pos (eqb-true n 0 e)
zero_is (negsuc n) e = absurd (omega (arith, eqb-true (suc n) 0 e))

sum_of-led_by : (s : State) (c : Column) (a : ℤ) (ts : List (Column × ℤ)) → sum_of s (form_led_by c a ts) ≡ (a *ℤ column_value s c) +ℤ sum_of s ts
sum_of-led_by s c a ts = by_test (form_is_zero a) refl
  where
    by_test : (z : Bool) → form_is_zero a ≡ z → sum_of s (if z then ts else (c, a) ∷ ts) ≡ (a *ℤ column_value s c) +ℤ sum_of s ts
    by_test true e =
        let f : a *ℤ column_value s c ≡ pos 0 = ap (λ (m : ℤ). m *ℤ column_value s c) (zero_is a e) ∙ product_zero_left (column_value s c) in
        omega (arith, ints)
    by_test false e = refl

sum_of-added_at : (s : State) (c : Column) (a : ℤ) (ts : List (Column × ℤ)) → sum_of s (form_added_at c a ts) ≡ (a *ℤ column_value s c) +ℤ sum_of s ts
sum_of-added_at s c a [] = sum_of-led_by s c a []
sum_of-added_at s c a (t ∷ ts) = by_tests (is_before c t.0) (is_before t.0 c) refl refl (sum_of-added_at s c a ts)
  where
    by_tests : (k l : Bool) → is_before c t.0 ≡ k → is_before t.0 c ≡ l → sum_of s (form_added_at c a ts) ≡ (a *ℤ column_value s c) +ℤ sum_of s ts →
        sum_of s (if k then form_led_by c a (t ∷ ts) else (if l then t ∷ form_added_at c a ts else form_led_by c (t.1 +ℤ a) ts)) ≡ (a *ℤ column_value s c) +ℤ ((t.1 *ℤ column_value s t.0) +ℤ sum_of s ts)
    by_tests true l e f h = sum_of-led_by s c a (t ∷ ts)
    by_tests false true e f h =
        let g : sum_of s (t ∷ form_added_at c a ts) ≡ (t.1 *ℤ column_value s t.0) +ℤ sum_of s (form_added_at c a ts) = refl in
        omega (arith, ints, g, h)
    by_tests false false e f h =
        let g : sum_of s (form_led_by c (t.1 +ℤ a) ts) ≡ ((t.1 +ℤ a) *ℤ column_value s c) +ℤ sum_of s ts = sum_of-led_by s c (t.1 +ℤ a) ts in
        let d : (t.1 +ℤ a) *ℤ column_value s c ≡ (t.1 *ℤ column_value s c) +ℤ (a *ℤ column_value s c) = distrib_right t.1 a (column_value s c) in
        let k : t.1 *ℤ column_value s c ≡ t.1 *ℤ column_value s t.0 = ap (λ (d : Column). t.1 *ℤ column_value s d) (same_place c t.0 e f) in
        omega (arith, ints, g, d, k)

sum_of-added_to : (s : State) (ts us : List (Column × ℤ)) → sum_of s (added_to ts us) ≡ sum_of s ts +ℤ sum_of s us
sum_of-added_to s ts [] = omega (arith, ints)
sum_of-added_to s ts (u ∷ us) =
    let h : sum_of s (added_to (form_added_at u.0 u.1 ts) us) ≡ sum_of s (form_added_at u.0 u.1 ts) +ℤ sum_of s us = sum_of-added_to s (form_added_at u.0 u.1 ts) us in
    let k : sum_of s (form_added_at u.0 u.1 ts) ≡ (u.1 *ℤ column_value s u.0) +ℤ sum_of s ts = sum_of-added_at s u.0 u.1 ts in
    let g : sum_of s (u ∷ us) ≡ (u.1 *ℤ column_value s u.0) +ℤ sum_of s us = refl in
    omega (arith, ints, h, k, g)

sum_of-scaled : (s : State) (m : ℤ) (ts : List (Column × ℤ)) → sum_of s (map (λ t. (t.0, m *ℤ t.1)) ts) ≡ m *ℤ sum_of s ts
sum_of-scaled s m [] = sym (product_comm m (pos 0) ∙ product_zero_left m)
sum_of-scaled s m (t ∷ ts) =
    let v : ℤ = column_value s t.0 in
    let h : sum_of s (map (λ t. (t.0, m *ℤ t.1)) ts) ≡ m *ℤ sum_of s ts = sum_of-scaled s m ts in
    let k : (m *ℤ t.1) *ℤ column_value s t.0 ≡ m *ℤ (t.1 *ℤ column_value s t.0) = product_assoc m t.1 (column_value s t.0) in
    let d : m *ℤ ((t.1 *ℤ column_value s t.0) +ℤ sum_of s ts) ≡ (m *ℤ (t.1 *ℤ column_value s t.0)) +ℤ (m *ℤ sum_of s ts) = distrib_left m (t.1 *ℤ column_value s t.0) (sum_of s ts) in
    ap (λ (z : ℤ). ((m *ℤ t.1) *ℤ column_value s t.0) +ℤ z) h ∙ ap (λ (z : ℤ). z +ℤ (m *ℤ sum_of s ts)) k ∙ sym d

form_value-plus : (s : State) (a b : Form) → form_value s (form_plus a b) ≡ form_value s a +ℤ form_value s b
form_value-plus s a b =
    let h : sum_of s (added_to a.terms b.terms) ≡ sum_of s a.terms +ℤ sum_of s b.terms = sum_of-added_to s a.terms b.terms in
    omega (arith, ints, h)

form_value-times : (s : State) (m : ℤ) (b : Form) → form_value s (form_times m b) ≡ m *ℤ form_value s b
form_value-times s m b = by_test (form_is_zero m) refl
  where
    by_test : (z : Bool) → form_is_zero m ≡ z → form_value s (if z then form_number (pos 0) else form_scaled m b) ≡ m *ℤ form_value s b
    by_test true e = sym (ap (λ (k : ℤ). k *ℤ form_value s b) (zero_is m e) ∙ product_zero_left (form_value s b))
    by_test false e = ap (λ (z : ℤ). z +ℤ (m *ℤ b.constant)) (sum_of-scaled s m b.terms) ∙ sym (distrib_left m (sum_of s b.terms) b.constant)

empty_sum : (s : State) (ts : List (Column × ℤ)) → is_empty ts ≡ true → sum_of s ts ≡ pos 0
empty_sum s [] e = refl
empty_sum s (t ∷ ts) e = absurd (false≢true e)

constant_value : (s : State) (a : Form) → is_constant a ≡ true → form_value s a ≡ a.constant
constant_value s a e =
    let h : sum_of s a.terms ≡ pos 0 = empty_sum s a.terms (and_parts (is_empty a.terms) (is_empty a.quotients) e).0 in
    omega (arith, ints, h)

-- ---- quotients

-- a sum of multiples of these numbers
abbrev pub Spans : List ℤ → ℤ → Type 0
Spans [] z = z ≡ pos 0
Spans (q ∷ qs) z = (w : ℤ) × (y : ℤ) × Spans qs y × (z ≡ (q *ℤ w) +ℤ y)

Spans-append : (qs rs : List ℤ) (x y : ℤ) → Spans qs x → Spans rs y → Spans (qs ++ rs) (x +ℤ y)
Spans-append [] rs x y h k = let e : y ≡ x +ℤ y = omega (arith, ints) in subst (Spans rs) e k
Spans-append (q ∷ qs) rs x y h k =
    (h.0, h.1 +ℤ y, Spans-append qs rs h.1 y h.2 k, let e : x ≡ (q *ℤ h.0) +ℤ h.1 = h.3 in omega (arith, ints))

Spans-scaled : (m : ℤ) (qs : List ℤ) (x : ℤ) → Spans qs x → Spans (map (λ q. m *ℤ q) qs) (m *ℤ x)
Spans-scaled m [] x h = ap (λ (z : ℤ). m *ℤ z) h ∙ product_zero_right m
Spans-scaled m (q ∷ qs) x h = (
  h.0,
  m *ℤ h.1,
  Spans-scaled m qs h.1 h.2,
  let e : m *ℤ x ≡ m *ℤ ((q *ℤ h.0) +ℤ h.1) = ap (λ (z : ℤ). m *ℤ z) h.3 in
      let d : m *ℤ ((q *ℤ h.0) +ℤ h.1) ≡ (m *ℤ (q *ℤ h.0)) +ℤ (m *ℤ h.1) = distrib_left m (q *ℤ h.0) h.1 in
      let f : (m *ℤ q) *ℤ h.0 ≡ m *ℤ (q *ℤ h.0) = product_assoc m q h.0 in
      omega (arith, ints),
)

-- v is the form's value and a sum of multiples of its quotients' coefficients
pub record IsFormOf (s : State) (f : Form) (v : ℤ) : Type 0 where
  pub rest : ℤ
  pub spans : Spans f.quotients rest
  pub is : v ≡ form_value s f +ℤ rest

form_of-plus : (s : State) (f g : Form) (u v : ℤ) → IsFormOf s f u → IsFormOf s g v → IsFormOf s (form_plus f g) (u +ℤ v)
form_of-plus s f g u v h k =
    let e : form_value s (form_plus f g) ≡ form_value s f +ℤ form_value s g = form_value-plus s f g in
    let x : u ≡ form_value s f +ℤ h.rest = h.is in
    let y : v ≡ form_value s g +ℤ k.rest = k.is in
    record { rest = h.rest +ℤ k.rest; spans = Spans-append f.quotients g.quotients h.rest k.rest h.spans k.spans; is = omega (arith, ints, e, x, y) }

form_of-times : (s : State) (m : ℤ) (f : Form) (u : ℤ) → IsFormOf s f u → IsFormOf s (form_times m f) (m *ℤ u)
form_of-times s m f u h = by_test (form_is_zero m) refl
  where
    by_test : (z : Bool) → form_is_zero m ≡ z → IsFormOf s (if z then form_number (pos 0) else form_scaled m f) (m *ℤ u)
    by_test true e =
        let z : m *ℤ u ≡ pos 0 = ap (λ (k : ℤ). k *ℤ u) (zero_is m e) ∙ product_zero_left u in
        record { rest = pos 0; spans = refl; is = omega (arith, ints, z) }
    by_test false e =
        let t : form_value s (form_scaled m f) ≡ m *ℤ form_value s f =
        ap (λ (z : ℤ). z +ℤ (m *ℤ f.constant)) (sum_of-scaled s m f.terms) ∙ sym (distrib_left m (sum_of s f.terms) f.constant) in
        let x : m *ℤ u ≡ m *ℤ (form_value s f +ℤ h.rest) = ap (λ (z : ℤ). m *ℤ z) h.is in
        let d : m *ℤ (form_value s f +ℤ h.rest) ≡ (m *ℤ form_value s f) +ℤ (m *ℤ h.rest) = distrib_left m (form_value s f) h.rest in
        record { rest = m *ℤ h.rest; spans = Spans-scaled m f.quotients h.rest h.spans; is = omega (arith, ints, t, x, d) }

no_quotients : (qs : List ℤ) (z : ℤ) → is_empty qs ≡ true → Spans qs z → z ≡ pos 0
no_quotients [] z e h = h
no_quotients (q ∷ qs) z e h = absurd (false≢true e)

-- a constant form has its constant as value
pub constant_is : (s : State) (f : Form) (u : ℤ) → is_constant f ≡ true → IsFormOf s f u → u ≡ f.constant
constant_is s f u e h =
    let c : form_value s f ≡ f.constant = constant_value s f e in
    let z : h.rest ≡ pos 0 = no_quotients f.quotients h.rest (and_parts (is_empty f.terms) (is_empty f.quotients) e).1 h.spans in
    let x : u ≡ form_value s f +ℤ h.rest = h.is in
    omega (arith, ints, c, z, x)

minus_one : (z : ℤ) → negsuc 0 *ℤ z ≡ neg_ℤ z
minus_one z = product_neg_left (pos 1) z ∙ ap neg_ℤ (product_one_left z)

form_of-product : (s : State) (f g : Form) (u v : ℤ) → (is_constant f || is_constant g) ≡ true → IsFormOf s f u → IsFormOf s g v → IsFormOf s (product f g) (u *ℤ v)
form_of-product s f g u v e h k = by_tests (is_constant f) (is_constant g) refl refl e
  where
    by_tests : (x y : Bool) → is_constant f ≡ x → is_constant g ≡ y → (x || y) ≡ true →
        IsFormOf s (if x then form_times f.constant g else (if y then form_times g.constant f else form_quotient)) (u *ℤ v)
    by_tests true y t q c =
        let x : f.constant *ℤ v ≡ u *ℤ v = ap (λ (z : ℤ). z *ℤ v) (sym (constant_is s f u t h)) in
        subst (IsFormOf s (form_times f.constant g)) x (form_of-times s f.constant g v k)
    by_tests false true t q c =
        let x : g.constant *ℤ u ≡ u *ℤ v = ap (λ (z : ℤ). z *ℤ u) (sym (constant_is s g v q k)) ∙ product_comm v u in
        subst (IsFormOf s (form_times g.constant f)) x (form_of-times s g.constant f u h)
    by_tests false false t q c = absurd (false≢true c)

form_of-quotient : (s : State) (v : ℤ) → IsFormOf s form_quotient v
form_of-quotient s v =
    let e : pos 1 *ℤ v ≡ v = product_one_left v in
    record { rest = v; spans = (v, pos 0, refl, omega (arith, ints)); is = omega (arith, ints) }

pub factor_of : (g : Column → Bool) (old : Bool) (a b : TypedExpression) (op : Op) → is_linear_operation g old op a b ≡ true → op ≡ Mul → (is_constant (form g old a) || is_constant (form g old b)) ≡ true
factor_of g old a b op h e = let P : Op → Type 0 = λ o. is_linear_operation g old o a b ≡ true in subst P e h

form_of-operation : (s : State) (op : Op) (f g : Form) (u v : ℤ) → is_arithmetic op ≡ true → (op ≡ Mul → (is_constant f || is_constant g) ≡ true) →
    IsFormOf s f u → IsFormOf s g v → IsFormOf s (operation op f g) (operation_value op u v)
form_of-operation s Add f g u v e c h k = form_of-plus s f g u v h k
form_of-operation s Sub f g u v e c h k =
    let x : u +ℤ (negsuc 0 *ℤ v) ≡ u -ℤ v = (let m = minus_one v in omega (arith, ints, m)) in
    subst (IsFormOf s (form_plus f (form_times (negsuc 0) g))) x (form_of-plus s f (form_times (negsuc 0) g) u (negsuc 0 *ℤ v) h (form_of-times s (negsuc 0) g v k))
form_of-operation s Mul f g u v e c h k = form_of-product s f g u v (c refl) h k
form_of-operation s Div f g u v e c h k = form_of-quotient s (operation_value Div u v)
form_of-operation s Mod f g u v e c h k = form_of-quotient s (operation_value Mod u v)
form_of-operation s Iff f g u v e c h k = absurd (false≢true e)
form_of-operation s Implies f g u v e c h k = absurd (false≢true e)
form_of-operation s And f g u v e c h k = absurd (false≢true e)
form_of-operation s Or f g u v e c h k = absurd (false≢true e)
form_of-operation s Eq f g u v e c h k = absurd (false≢true e)
form_of-operation s Ne f g u v e c h k = absurd (false≢true e)
form_of-operation s Lt f g u v e c h k = absurd (false≢true e)
form_of-operation s Le f g u v e c h k = absurd (false≢true e)
form_of-operation s Gt f g u v e c h k = absurd (false≢true e)
form_of-operation s Ge f g u v e c h k = absurd (false≢true e)

-- the parts of an operation that keeps the rule of operators
pub linear_parts : (g : Column → Bool) (old : Bool) (op : Op) (a b : TypedExpression) → (is_linear g old a && (is_linear g old b && is_linear_operation g old op a b)) ≡ true →
    (is_linear g old a ≡ true) × (is_linear g old b ≡ true) × (is_linear_operation g old op a b ≡ true)
linear_parts g old op a b h =
    let x = and_parts (is_linear g old a) (is_linear g old b && is_linear_operation g old op a b) h in
    let y = and_parts (is_linear g old b) (is_linear_operation g old op a b) x.1 in
    (x.0, y.0, y.1)

-- a constant has its value at the entry, too
stays : (g : Column → Bool) (old : Bool) (s : State) (c : Column) → FixedStay g s → g c ≡ true → column_value (state_of old s) c ≡ column_value s c
stays g true s c h e = h c e
stays g false s c h e = refl

named_value : (g : Column → Bool) (old : Bool) (s : State) (c : Column) → FixedStay g s → column_value (state_of old s) c ≡ column_value s (form_column g old c)
named_value g old s c h = by_test (g c) refl
  where
    by_test : (z : Bool) → g c ≡ z → column_value (state_of old s) c ≡ column_value s (if z then c else read_at old c)
    by_test true e = stays g old s c h e
    by_test false e = read_value old s c

-- the value of a whole-number expression is that of its form, and a sum of multiples of its quotients
pub form_of_value : (v : Environment) (old : Bool) (s : State) (e : TypedExpression) → FixedStay v.fixed s → type_in v old e ≡ Some types.Int → is_linear v.fixed old e ≡ true →
    IsFormOf s (form v.fixed old e) (value (state_of old s) e)
form_of_value v old s (Lit at n) k t l = record { rest = pos 0; spans = refl; is = omega (arith, ints) }
form_of_value v old s (Truth at b) k t l = absurd (cc)
form_of_value v old s (Var at c) k t l =
    let n = form_column v.fixed old c in
    let x : column_value (state_of old s) c ≡ column_value s n = named_value v.fixed old s c k in
    let y : pos 1 *ℤ column_value s n ≡ column_value s n = product_one_left (column_value s n) in
    record { rest = pos 0; spans = refl; is = omega (arith, ints, x, y) }
form_of_value v old s (Old at e) k t l =
    let P : State → Type 0 = λ z. IsFormOf s (form v.fixed true e) (value z e) in
    subst P (sym (entry_of old s)) (form_of_value v true s e k t l)
form_of_value v old s (Not at e) k t l = absurd (not_both (only_is types.Bool (type_in v old e) types.Int t).1)
form_of_value v old s (Neg at e) k t l =
    let h = form_of_value v old s e k (only_is types.Int (type_in v old e) types.Int t).0 l in
    subst (IsFormOf s (form_times (negsuc 0) (form v.fixed old e))) (minus_one (value (state_of old s) e)) (form_of-times s (negsuc 0) (form v.fixed old e) (value (state_of old s) e) h)
form_of_value v old s (Bin at op a b) k t l =
    let o : AreTyped v old op a b types.Int = operands v old op a b types.Int t in
    let w = whole_operation op o.first o.second o.operation_is in
    let p = linear_parts v.fixed old op a b l in
    form_of-operation s op (form v.fixed old a) (form v.fixed old b) (value (state_of old s) a) (value (state_of old s) b) w.0 (factor_of v.fixed old a b op p.2)
    (form_of_value v old s a k (o.first_is ∙ ap Some w.1) p.0) (form_of_value v old s b k (o.second_is ∙ ap Some w.2) p.1)

-- ---- the constant of a form

times_constant : (m : ℤ) (f : Form) → (form_times m f).constant ≡ m *ℤ f.constant
times_constant m f = by_test (form_is_zero m) refl
  where
    by_test : (z : Bool) → form_is_zero m ≡ z → (if z then form_number (pos 0) else form_scaled m f).constant ≡ m *ℤ f.constant
    by_test true e = sym (ap (λ (k : ℤ). k *ℤ f.constant) (zero_is m e) ∙ product_zero_left f.constant)
    by_test false e = refl

product_constant : (f g : Form) → (is_constant f || is_constant g) ≡ true → (product f g).constant ≡ f.constant *ℤ g.constant
product_constant f g h = by_tests (is_constant f) (is_constant g) h
  where
    by_tests : (x y : Bool) → (x || y) ≡ true → (if x then form_times f.constant g else (if y then form_times g.constant f else form_quotient)).constant ≡ f.constant *ℤ g.constant
    by_tests true y c = times_constant f.constant g
    by_tests false true c = times_constant g.constant f ∙ product_comm g.constant f.constant
    by_tests false false c = absurd (false≢true c)

operation_constant : (op : Op) (f g : Form) → (op ≡ Mul → (is_constant f || is_constant g) ≡ true) → (operation op f g).constant ≡ constant_operation op f.constant g.constant
operation_constant Add f g h = refl
operation_constant Sub f g h = let e = times_constant (negsuc 0) g in let d = minus_one g.constant in omega (arith, ints, e, d)
operation_constant Mul f g h = product_constant f g (h refl)
operation_constant Div f g h = refl
operation_constant Mod f g h = refl
operation_constant Iff f g h = refl
operation_constant Implies f g h = refl
operation_constant And f g h = refl
operation_constant Or f g h = refl
operation_constant Eq f g h = refl
operation_constant Ne f g h = refl
operation_constant Lt f g h = refl
operation_constant Le f g h = refl
operation_constant Gt f g h = refl
operation_constant Ge f g h = refl

-- the constant of the affine form of an expression whose products have a constant factor each
pub form_constant : (g : Column → Bool) (old : Bool) (e : TypedExpression) → is_linear g old e ≡ true → (form g old e).constant ≡ constant_of e
form_constant g old (Lit at n) l = refl
form_constant g old (Truth at b) l = refl
form_constant g old (Var at c) l = refl
form_constant g old (Old at e) l = form_constant g true e l
form_constant g old (Not at e) l = refl
form_constant g old (Neg at e) l = times_constant (negsuc 0) (form g old e) ∙ minus_one (form g old e).constant ∙ ap neg_ℤ (form_constant g old e l)
form_constant g old (Bin at op a b) l =
    let p = linear_parts g old op a b l in
    let x = form_constant g old a p.0 in
    let y = form_constant g old b p.1 in
    operation_constant op (form g old a) (form g old b) (factor_of g old a b op p.2) ∙ (λ d. constant_operation op (x d) (y d))
