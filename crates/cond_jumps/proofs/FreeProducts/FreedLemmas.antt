-- An expression in which locals stand in the places of its free products: it has the same forms and types, keeps the rules of operators, and has
-- the same value where the locals have the values of the products.
use Rattle.std.proofs.Common.{◌≡◌, ℕ, suc, ◌+◌, ◌<◌, Bool, true, false, not, ◌&&◌, ◌||◌, ℤ, pos, negsuc, ◌+ℤ◌, ◌*ℤ◌, neg_ℤ, List, [], ◌∷◌, ◌++◌, map, length, Some, option_and_then, if◌then◌else◌, refl, ap, sym, ◌∙◌, subst, arith}
use Rattle.std.proofs.lemmas.Bool.{and_parts, and_from, or_parts, false≢true, true≢false}
use Rattle.std.proofs.lemmas.Int.{ints}
use Rattle.math_facts.proofs.Whole.{product_one_left}
use Rattle.boogie_tree.specs.declared.span.Span.{Span}
use Rattle.boogie_tree.specs.declared.tree.Op.{Op}
use Rattle.boogie_tree.specs.declared.tree.Op.TheVariants as ops
use Rattle.boogie_tree.specs.declared.tree.Column.{Column}
use Rattle.boogie_tree.specs.declared.tree.Column.TheVariants as columns
use Rattle.boogie_tree.specs.declared.tree.Ty.{Ty}
use Rattle.boogie_tree.specs.declared.tree.Ty.TheVariants as types
use Rattle.typed_tree.specs.TypedTree.{TypedExpression, Lit, Truth, Var, Old, Not, Neg, Bin}
use Rattle.typed_tree.specs.Typing.{operation_type, only}
use Rattle.typed_tree.specs.Values.{State, column_value, member, value, truth, value_is_zero, div_of, mod_of, operation_value}
use Rattle.typed_tree.specs.AffineForm.{Form, form, form_times, form_quotient, product, operation, is_constant, read_at, divisor_of, is_divisor, is_linear, is_linear_operation}
use Rattle.typed_tree.specs.Divided.{is_divided, is_divided_operation}
use Rattle.typed_tree.specs.Laws.{state_of}
use Rattle.typed_tree.proofs.Euclidean.{euclidean}
use Rattle.cond_jumps.specs.Environments.{Environment, type_in}
use Rattle.cond_jumps.proofs.TypeLemmas.{AreTyped, operands, only_is, operation_result, read_value, entry_of}
use Rattle.cond_jumps.specs.FreeProducts.FreeProducts.{is_free, as_read, free_products, stand_in, freed}

-- ---- free products

-- what is free is a product, and neither factor has a constant form
pub record IsFree (g : Column → Bool) (old : Bool) (op : Op) (a b : TypedExpression) : Type 0 where
  pub product : op ≡ ops.Mul
  pub first : is_constant (form g old a) ≡ false
  pub second : is_constant (form g old b) ≡ false

not_both : (x : Bool) → not x ≡ true → x ≡ false
not_both true e = absurd (false≢true e)
not_both false e = refl

pub free_is : (g : Column → Bool) (old : Bool) (op : Op) (a b : TypedExpression) → is_free g old op a b ≡ true → IsFree g old op a b
free_is g old ops.Mul a b e =
    let p = or_parts (is_constant (form g old a)) (is_constant (form g old b)) (not_both (is_constant (form g old a) || is_constant (form g old b)) e) in
    record { product = refl; first = p.0; second = p.1 }
free_is g old op a b e = absurd (false≢true e)

-- ---- forms

product_form : (a b : Form) → is_constant a ≡ false → is_constant b ≡ false → product a b ≡ form_quotient
product_form a b e f = λ i. if e i then form_times a.constant b else (if f i then form_times b.constant a else form_quotient)

pub freed_form : (g : Column → Bool) (n : ℕ) (old : Bool) (e : TypedExpression) → form g old (freed g n old e) ≡ form g old e
freed_form g n old (Lit at k) = refl
freed_form g n old (Truth at b) = refl
freed_form g n old (Var at c) = refl
freed_form g n old (Old at e) = freed_form g n true e
freed_form g n old (Not at e) = refl
freed_form g n old (Neg at e) = ap (form_times (negsuc 0)) (freed_form g n old e)
freed_form g n old (Bin at op a b) =
    by_test (is_free g old op a b) refl (freed_form g n old a) (freed_form g (n + length (free_products g old a)) old b)
  where
    by_test : (t : Bool) → is_free g old op a b ≡ t → form g old (freed g n old a) ≡ form g old a → form g old (freed g (n + length (free_products g old a)) old b) ≡ form g old b →
        form g old (if t then stand_in at n else Bin at op (freed g n old a) (freed g (n + length (free_products g old a)) old b)) ≡ operation op (form g old a) (form g old b)
    by_test true e h k =
        let f = free_is g old op a b e in
        sym (ap (λ (o : Op). operation o (form g old a) (form g old b)) f.product ∙ product_form (form g old a) (form g old b) f.first f.second)
    by_test false e h k = λ i. operation op (h i) (k i)

-- ---- the rule of operators

freed_divisor : (g : Column → Bool) (n : ℕ) (old : Bool) (e : TypedExpression) → is_divisor (divisor_of e) ≡ true → is_divisor (divisor_of (freed g n old e)) ≡ true
freed_divisor g n old (Lit at k) h = h
freed_divisor g n old (Neg at (Lit at1 k)) h = h
freed_divisor g n old e h = absurd (false≢true h)

linear_product : (x y : Form) (u v : Form) → u ≡ x → v ≡ y → not (is_constant x || is_constant y) ≡ false → (is_constant u || is_constant v) ≡ true
linear_product x y u v e f h = (λ i. is_constant (e i) || is_constant (f i)) ∙ of_not (is_constant x || is_constant y) h
  where
    of_not : (b : Bool) → not b ≡ false → b ≡ true
    of_not true k = refl
    of_not false k = absurd (true≢false k)

linear_operation : (g : Column → Bool) (n m : ℕ) (old : Bool) (op : Op) (a b : TypedExpression) → is_free g old op a b ≡ false → is_divided_operation op b ≡ true →
    is_linear_operation g old op (freed g n old a) (freed g m old b) ≡ true
linear_operation g n m old ops.Mul a b f h =
    linear_product (form g old a) (form g old b) (form g old (freed g n old a)) (form g old (freed g m old b)) (freed_form g n old a) (freed_form g m old b) f
linear_operation g n m old ops.Div a b f h = freed_divisor g m old b h
linear_operation g n m old ops.Mod a b f h = freed_divisor g m old b h
linear_operation g n m old op a b f h = refl

pub freed_linear : (g : Column → Bool) (n : ℕ) (old : Bool) (e : TypedExpression) → is_divided e ≡ true → is_linear g old (freed g n old e) ≡ true
freed_linear g n old (Lit at k) h = refl
freed_linear g n old (Truth at b) h = refl
freed_linear g n old (Var at c) h = refl
freed_linear g n old (Old at e) h = freed_linear g n true e h
freed_linear g n old (Not at e) h = freed_linear g n old e h
freed_linear g n old (Neg at e) h = freed_linear g n old e h
freed_linear g n old (Bin at op a b) h =
    let p = and_parts (is_divided a) (is_divided b && is_divided_operation op b) h in
    let q = and_parts (is_divided b) (is_divided_operation op b) p.1 in
    by_test (is_free g old op a b) refl (freed_linear g n old a p.0) (freed_linear g (n + length (free_products g old a)) old b q.0) q.1
  where
    by_test : (t : Bool) → is_free g old op a b ≡ t → is_linear g old (freed g n old a) ≡ true → is_linear g old (freed g (n + length (free_products g old a)) old b) ≡ true → is_divided_operation op b ≡ true →
        is_linear g old (if t then stand_in at n else Bin at op (freed g n old a) (freed g (n + length (free_products g old a)) old b)) ≡ true
    by_test true e h k d = refl
    by_test false e h k d =
        let m : ℕ = n + length (free_products g old a) in
        and_from (is_linear g old (freed g n old a)) (is_linear g old (freed g m old b) && is_linear_operation g old op (freed g n old a) (freed g m old b)) h
        (and_from (is_linear g old (freed g m old b)) (is_linear_operation g old op (freed g n old a) (freed g m old b)) k (linear_operation g n m old op a b e d))

-- ---- nothing is free

no_append : {X : Type 0} (xs ys : List X) → length (xs ++ ys) ≡ 0 → (length xs ≡ 0) × (length ys ≡ 0)
no_append [] ys e = (refl, e)
no_append (x ∷ xs) ys e = absurd (omega (arith, e))

-- an expression without free products stays as it is
pub freed_same : (g : Column → Bool) (n : ℕ) (old : Bool) (e : TypedExpression) → length (free_products g old e) ≡ 0 → freed g n old e ≡ e
freed_same g n old (Lit at k) h = refl
freed_same g n old (Truth at b) h = refl
freed_same g n old (Var at c) h = refl
freed_same g n old (Old at e) h = ap (Old at) (freed_same g n true e h)
freed_same g n old (Not at e) h = ap (Not at) (freed_same g n old e h)
freed_same g n old (Neg at e) h = ap (Neg at) (freed_same g n old e h)
freed_same g n old (Bin at op a b) h =
    by_test (is_free g old op a b) h (λ k. freed_same g n old a k) (λ k. freed_same g (n + length (free_products g old a)) old b k)
  where
    by_test : (t : Bool) → length (if t then as_read old at (Bin at op a b) ∷ [] else free_products g old a ++ free_products g old b) ≡ 0 →
        (length (free_products g old a) ≡ 0 → freed g n old a ≡ a) → (length (free_products g old b) ≡ 0 → freed g (n + length (free_products g old a)) old b ≡ b) →
        (if t then stand_in at n else Bin at op (freed g n old a) (freed g (n + length (free_products g old a)) old b)) ≡ Bin at op a b
    by_test true e h k = absurd (omega (arith, e))
    by_test false e h k =
        let p = no_append (free_products g old a) (free_products g old b) e in
        let x = h p.0 in
        let y = k p.1 in
        λ i. Bin at op (x i) (y i)

-- ---- types

-- the locals from number n on, so many, are whole numbers
abbrev pub AreNumbers : Environment → ℕ → ℕ → Type 0
AreNumbers v n k = (i : ℕ) → i < k → v.type (columns.Local (n + i)) ≡ Some types.Int

local_read : (old : Bool) (n : ℕ) → read_at old (columns.Local n) ≡ columns.Local n
local_read true n = refl
local_read false n = refl

product_number : (op : Op) (t u r : Ty) → op ≡ ops.Mul → operation_type op t u ≡ Some r → r ≡ types.Int
product_number op t u r e h = operation_result ops.Mul t u r (ap (λ (o : Op). operation_type o t u) (sym e) ∙ h)

pub length_append : {X : Type 0} (xs ys : List X) → length (xs ++ ys) ≡ length xs + length ys
length_append [] ys = omega arith
length_append (x ∷ xs) ys = let e = length_append xs ys in omega (arith, e)

-- a typed expression keeps its type where the locals are whole numbers, and what stands for the other columns keeps its types
pub freed_type : (g : Column → Bool) (v u : Environment) → ((c : Column) (t : Ty) → v.type c ≡ Some t → u.type c ≡ Some t) → (n : ℕ) (old : Bool) (e : TypedExpression) (t : Ty) →
    type_in v old e ≡ Some t → AreNumbers u n (length (free_products g old e)) → type_in u old (freed g n old e) ≡ Some t
freed_type g v u f n old (Lit at k) t h m = h
freed_type g v u f n old (Truth at b) t h m = h
freed_type g v u f n old (Var at c) t h m = f (read_at old c) t h
freed_type g v u f n old (Old at e) t h m = freed_type g v u f n true e t h m
freed_type g v u f n old (Not at e) t h m =
    let p = only_is types.Bool (type_in v old e) t h in
    ap (option_and_then (only types.Bool)) (freed_type g v u f n old e types.Bool p.0 m) ∙ ap Some (sym p.1)
freed_type g v u f n old (Neg at e) t h m =
    let p = only_is types.Int (type_in v old e) t h in
    ap (option_and_then (only types.Int)) (freed_type g v u f n old e types.Int p.0 m) ∙ ap Some (sym p.1)
freed_type g v u f n old (Bin at op a b) t h m =
    let o : AreTyped v old op a b t = operands v old op a b t h in
    by_test (is_free g old op a b) refl m o
    (λ k. freed_type g v u f n old a o.first o.first_is k) (λ k. freed_type g v u f (n + length (free_products g old a)) old b o.second o.second_is k)
  where
    by_test : (z : Bool) → is_free g old op a b ≡ z → AreNumbers u n (length (if z then as_read old at (Bin at op a b) ∷ [] else free_products g old a ++ free_products g old b)) →
        (o : AreTyped v old op a b t) →
        (AreNumbers u n (length (free_products g old a)) → type_in u old (freed g n old a) ≡ Some o.first) →
        (AreNumbers u (n + length (free_products g old a)) (length (free_products g old b)) → type_in u old (freed g (n + length (free_products g old a)) old b) ≡ Some o.second) →
        type_in u old (if z then stand_in at n else Bin at op (freed g n old a) (freed g (n + length (free_products g old a)) old b)) ≡ Some t
    by_test true e m o h k =
        let i : n + 0 ≡ n = omega arith in
        let d : u.type (read_at old (columns.Local n)) ≡ Some types.Int = ap u.type (local_read old n) ∙ ap (λ (j : ℕ). u.type (columns.Local j)) (sym i) ∙ m 0 (omega arith) in
        ap (option_and_then (λ x. option_and_then (operation_type ops.Div x) (Some types.Int))) d ∙
        ap Some (sym (product_number op o.first o.second t (free_is g old op a b e).product o.operation_is))
    by_test false e m o h k =
        let l : length (free_products g old a ++ free_products g old b) ≡ length (free_products g old a) + length (free_products g old b) = length_append (free_products g old a) (free_products g old b) in
        let x = h (λ i j. m i (omega (arith, l))) in
        let y = k (λ i j.
        let q : n + (length (free_products g old a) + i) ≡ (n + length (free_products g old a)) + i = omega arith in
        ap (λ (d : ℕ). u.type (columns.Local d)) (sym q) ∙ m (length (free_products g old a) + i) (omega (arith, l))) in
        (λ i. option_and_then (λ t. option_and_then (operation_type op t) (y i)) (x i)) ∙ o.operation_is

-- ---- values

-- the locals from number n on have these values
abbrev pub LocalsAre : List ℤ → ℕ → List ℤ → Type 0
LocalsAre locals n [] = Unit {0}
LocalsAre locals n (z ∷ zs) = (member locals n ≡ z) × LocalsAre locals (suc n) zs

pub locals_split : (locals : List ℤ) (n m : ℕ) (xs ys : List ℤ) → m ≡ n + length xs → LocalsAre locals n (xs ++ ys) → LocalsAre locals n xs × LocalsAre locals m ys
locals_split locals n m [] ys e h = (tt, (let g : n ≡ m = omega (arith, e) in subst (λ (j : ℕ). LocalsAre locals j ys) g h))
locals_split locals n m (x ∷ xs) ys e h =
    let p = locals_split locals (suc n) m xs ys (omega (arith, e)) h.1 in
    ((h.0, p.0), p.1)

pub map_append : {X Y : Type 0} (f : X → Y) (xs ys : List X) → map f (xs ++ ys) ≡ map f xs ++ map f ys
map_append f [] ys = refl
map_append f (x ∷ xs) ys = ap (λ zs. f x ∷ zs) (map_append f xs ys)

pub map_length : {X Y : Type 0} (f : X → Y) (xs : List X) → length (map f xs) ≡ length xs
map_length f [] = refl
map_length f (x ∷ xs) = ap suc (map_length f xs)

-- what is divided by 1 stays
divided_by_1 : (z : ℤ) → div_of z (pos 1) ≡ z
divided_by_1 z =
    let e = euclidean z (pos 1) refl in
    let a : z ≡ (pos 1 *ℤ div_of z (pos 1)) +ℤ mod_of z (pos 1) = e.0 in
    let b = e.1 in
    let c = e.2 in
    let d : pos 1 *ℤ div_of z (pos 1) ≡ div_of z (pos 1) = product_one_left (div_of z (pos 1)) in
    omega (arith, ints, a, b, c, d)

read_value_of : (old : Bool) (s : State) (at : Span) (e : TypedExpression) → value s (as_read old at e) ≡ value (state_of old s) e
read_value_of true s at e = refl
read_value_of false s at e = refl

local_value : (old : Bool) (s : State) (n : ℕ) → column_value (state_of old s) (columns.Local n) ≡ member s.locals n
local_value true s n = refl
local_value false s n = refl

-- a typed expression has its value at a state in which the locals have the values of the products, and the other columns that it may read theirs
pub freed_value : (g : Column → Bool) (v : Environment) (s u : State) → ((c : Column) (t : Ty) → v.type c ≡ Some t → column_value u c ≡ column_value s c) →
    (n : ℕ) (old : Bool) (e : TypedExpression) (t : Ty) → type_in v old e ≡ Some t → LocalsAre u.locals n (map (value s) (free_products g old e)) →
    value (state_of old u) (freed g n old e) ≡ value (state_of old s) e
freed_value g v s u f n old (Lit at k) t h m = refl
freed_value g v s u f n old (Truth at b) t h m = refl
freed_value g v s u f n old (Var at c) t h m = read_value old u c ∙ f (read_at old c) t h ∙ sym (read_value old s c)
freed_value g v s u f n old (Old at e) t h m =
    ap (λ (z : State). value z (freed g n true e)) (entry_of old u) ∙ freed_value g v s u f n true e t h m ∙ ap (λ (z : State). value z e) (sym (entry_of old s))
freed_value g v s u f n old (Not at e) t h m =
    ap (λ (z : ℤ). truth (value_is_zero z)) (freed_value g v s u f n old e types.Bool (only_is types.Bool (type_in v old e) t h).0 m)
freed_value g v s u f n old (Neg at e) t h m = ap neg_ℤ (freed_value g v s u f n old e types.Int (only_is types.Int (type_in v old e) t h).0 m)
freed_value g v s u f n old (Bin at op a b) t h m =
    let o : AreTyped v old op a b t = operands v old op a b t h in
    by_test (is_free g old op a b) m
    (λ k. freed_value g v s u f n old a o.first o.first_is k) (λ k. freed_value g v s u f (n + length (free_products g old a)) old b o.second o.second_is k)
  where
    by_test : (z : Bool) → LocalsAre u.locals n (map (value s) (if z then as_read old at (Bin at op a b) ∷ [] else free_products g old a ++ free_products g old b)) →
        (LocalsAre u.locals n (map (value s) (free_products g old a)) → value (state_of old u) (freed g n old a) ≡ value (state_of old s) a) →
        (LocalsAre u.locals (n + length (free_products g old a)) (map (value s) (free_products g old b)) →
        value (state_of old u) (freed g (n + length (free_products g old a)) old b) ≡ value (state_of old s) b) →
        value (state_of old u) (if z then stand_in at n else Bin at op (freed g n old a) (freed g (n + length (free_products g old a)) old b)) ≡ value (state_of old s) (Bin at op a b)
    by_test true m h k = divided_by_1 (column_value (state_of old u) (columns.Local n)) ∙ local_value old u n ∙ m.0 ∙ read_value_of old s at (Bin at op a b)
    by_test false m h k =
        let l : length (map (value s) (free_products g old a)) ≡ length (free_products g old a) = map_length (value s) (free_products g old a) in
        let p =
        locals_split u.locals n (n + length (free_products g old a)) (map (value s) (free_products g old a)) (map (value s) (free_products g old b)) (omega (arith, l))
        (subst (LocalsAre u.locals n) (map_append (value s) (free_products g old a) (free_products g old b)) m) in
        let x = h p.0 in
        let y = k p.1 in
        λ i. operation_value op (x i) (y i)
