-- The value of a typed expression is told by what its scope sees.
use Rattle.std.proofs.Common.{◌≡◌, ℕ, zero, suc, ◌<◌, ℤ, Bool, true, false, ◌||◌, List, [], ◌∷◌, ◌++◌, length, Option, None, Some, slice_get, refl, sym, ap, ◌∙◌, arith, if◌then◌else◌}
use Rattle.std.specs.Option.{option_map, option_and_then}
use Rattle.std.proofs.lemmas.Option.{none-some}
use Rattle.std.proofs.lemmas.Bool.{and_parts, false≢true}
use Rattle.boogie_tree.specs.declared.tree.Ty.{Ty}
use Rattle.boogie_tree.specs.declared.tree.Ty.TheVariants as types
use Rattle.boogie_tree.specs.declared.tree.Column.TheVariants as columns
use Rattle.boogie_tree.specs.declared.tree.VarInfo.{VarInfo}
use Rattle.typed_tree.specs.TypedTree.{TypedExpression, Lit, Truth, Var, Old, Not, Neg, Bin}
use Rattle.typed_tree.specs.Scope.{Scope, axiom_scope, requires_scope, body_scope, unless_hidden, variable_at, fixed}
use Rattle.typed_tree.specs.Typing.{type_of, only, operation_type, is_some_of, has_type}
use Rattle.typed_tree.specs.KeptRules.{is_right, is_arithmetic}
use Rattle.typed_tree.specs.Values.{State, member, at_entry, truth, value_is_zero, operation_value, value}
use Rattle.std.specs.Prelude.{neg_ℤ}

-- what is seen has the same values in both states
pub record SeesSame (s : Scope) (a b : State) : Type 0 where
  pub globals : (n : ℕ) (v : VarInfo) → variable_at s (columns.Global n) ≡ Some v → member a.globals n ≡ member b.globals n
  pub old : s.old ≡ true → (n : ℕ) (v : VarInfo) → variable_at s (columns.Global n) ≡ Some v → member a.old n ≡ member b.old n
  pub locals : (n : ℕ) (v : VarInfo) → slice_get s.locals n ≡ Some v → member a.locals n ≡ member b.locals n

mapped_some : {A B : Type 0} (f : A → B) (o : Option A) (y : B) → option_map f o ≡ Some y → (x : A) × (o ≡ Some x)
mapped_some f None y h = absurd (none-some y h)
mapped_some f (Some x) y h = (x, refl)

then_some : {A B : Type 0} (f : A → Option B) (o : Option A) (y : B) → option_and_then f o ≡ Some y → (x : A) × (o ≡ Some x) × (f x ≡ Some y)
then_some f None y h = absurd (none-some y h)
then_some f (Some x) y h = (x, refl, h)

if_some : {A : Type 0} (b : Bool) (o : Option A) (y : A) → (if b then o else None) ≡ Some y → (b ≡ true) × (o ≡ Some y)
if_some true o y h = (refl, h)
if_some false o y h = absurd (none-some y h)

pub seen_value : (s : Scope) (ty : Ty) (e : TypedExpression) (a b : State) → type_of s e ≡ Some ty → SeesSame s a b → value a e ≡ value b e
seen_value s ty (Lit at n) a b h k = refl
seen_value s ty (Truth at x) a b h k = refl
seen_value s ty (Var at (columns.Global n)) a b h k = let v = mapped_some (λ (w : VarInfo). w.ty) (variable_at s (columns.Global n)) ty h in k.globals n v.0 v.1
seen_value s ty (Var at (columns.Old n)) a b h k = absurd (none-some ty h)
seen_value s ty (Var at (columns.Local n)) a b h k = let v = mapped_some (λ (w : VarInfo). w.ty) (variable_at s (columns.Local n)) ty h in k.locals n v.0 v.1
seen_value s ty (Old at e) a b h k =
    let u = if_some s.old (type_of s e) ty h in
    seen_value s ty e (at_entry a) (at_entry b) u.1 (record { globals = k.old u.0; old = k.old; locals = k.locals })
seen_value s ty (Not at e) a b h k =
    let u = then_some (only types.Bool) (type_of s e) ty h in ap (λ z. truth (value_is_zero z)) (seen_value s u.0 e a b u.1 k)
seen_value s ty (Neg at e) a b h k =
    let u = then_some (only types.Int) (type_of s e) ty h in ap neg_ℤ (seen_value s u.0 e a b u.1 k)
seen_value s ty (Bin at op x y) a b h k =
    let u = then_some (λ (t : Ty). option_and_then (operation_type op t) (type_of s y)) (type_of s x) ty h in
    let w = then_some (operation_type op u.0) (type_of s y) ty u.2 in
    λ i. operation_value op (seen_value s u.0 x a b u.1 k i) (seen_value s w.0 y a b w.1 k i)

some_of : (wanted : Ty) (o : Option Ty) → is_some_of wanted o ≡ true → (ty : Ty) × (o ≡ Some ty)
some_of wanted None h = absurd (false≢true h)
some_of wanted (Some ty) h = (ty, refl)

-- a condition has the same value in states that agree on what it sees
pub condition_value : (s : Scope) (e : TypedExpression) (a b : State) → is_right s types.Bool e ≡ true → SeesSame s a b → value a e ≡ value b e
condition_value s e a b h k =
    let both = and_parts (has_type s types.Bool e) (is_arithmetic (fixed s) false e) h in
    let ty = some_of types.Bool (type_of s e) both.0 in
    seen_value s ty.0 e a b ty.1 k

-- ---- what scopes see

-- a global that a scope sees is one of the program
hidden_some : (variables : Bool) (o : Option VarInfo) (v : VarInfo) → option_and_then (unless_hidden variables) o ≡ Some v → (o ≡ Some v) × ((variables || v.constant) ≡ true)
hidden_some variables None v h = absurd (none-some v h)
hidden_some variables (Some w) v h = by_test (variables || w.constant) refl h
  where
    by_test : (b : Bool) → (variables || w.constant) ≡ b → (if b then Some w else None) ≡ Some v → (Some w ≡ Some v) × ((variables || v.constant) ≡ true)
    by_test true e f = let same : w ≡ v = cc in (f, sym (ap (λ (x : VarInfo). variables || x.constant) same) ∙ e)
    by_test false e f = absurd (none-some v f)

-- axioms see constants
pub axiom_sees : (globals : List VarInfo) (a b : State) → ((n : ℕ) (v : VarInfo) → slice_get globals n ≡ Some v → v.constant ≡ true → member a.globals n ≡ member b.globals n) →
    SeesSame (axiom_scope globals) a b
axiom_sees globals a b h = record {
  globals = λ n v e. let x = hidden_some false (slice_get globals n) v e in h n v x.0 x.1;
  old = λ no. absurd (false≢true no);
  locals = λ n v e. absurd (none-some v e);
}

-- requires see globals and parameters
pub requires_sees : (globals params : List VarInfo) (a b : State) → a.globals ≡ b.globals → ((n : ℕ) (v : VarInfo) → slice_get params n ≡ Some v → member a.locals n ≡ member b.locals n) →
    SeesSame (requires_scope globals params) a b
requires_sees globals params a b g l = record { globals = λ n v e. ap (λ (zs : List ℤ). member zs n) g; old = λ no. absurd (false≢true no); locals = l }

-- ensures see results too
pub ensures_sees : (globals locals : List VarInfo) (a b : State) → a.globals ≡ b.globals → a.old ≡ b.old → ((n : ℕ) (v : VarInfo) → slice_get locals n ≡ Some v → member a.locals n ≡ member b.locals n) →
    SeesSame (body_scope globals locals) a b
ensures_sees globals locals a b g o l = record { globals = λ n v e. ap (λ (zs : List ℤ). member zs n) g; old = λ yes n v e. ap (λ (zs : List ℤ). member zs n) o; locals = l }

-- ---- values at the front of a list

pub member_front : (xs ys zs : List ℤ) (n : ℕ) → n < length xs → member (xs ++ ys) n ≡ member (xs ++ zs) n
member_front [] ys zs n h = absurd (omega arith)
member_front (x ∷ xs) ys zs zero h = refl
member_front (x ∷ xs) ys zs (suc n) h = member_front xs ys zs n (omega arith)
