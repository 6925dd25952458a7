-- The value of a condition of an axiom or a requires is told by what it sees.
use Rattle.std.proofs.Common.{◌≡◌, ℕ, zero, suc, ◌<◌, ℤ, Bool, true, false, ◌||◌, ◌&&◌, List, [], ◌∷◌, ◌++◌, length, Option, None, Some, refl, sym, ap, subst, ◌∙◌, arith, IsTrue, if◌then◌else◌}
use Rattle.std.specs.Prelude.{slice_get, neg_ℤ}
use Rattle.std.specs.List.{AllByRecursion, list_all}
use Rattle.std.specs.Option.{option_map, option_and_then}
use Rattle.std.proofs.lemmas.Option.{none-some}
use Rattle.std.proofs.lemmas.Bool.{and_parts, false≢true}
use Rattle.boogie_tree.specs.declared.tree.Ty.{Ty}
use Rattle.boogie_tree.specs.declared.tree.Ty.TheVariants as types
use Rattle.boogie_tree.specs.declared.tree.Column.{Column}
use Rattle.boogie_tree.specs.declared.tree.Column.TheVariants as columns
use Rattle.boogie_tree.specs.declared.tree.VarInfo.{VarInfo}
use Rattle.typed_tree.specs.TypedTree.{TypedExpression, Lit, Truth, Var, Old, Not, Neg, Bin, TypedInvariant, TypedSpecification, Requires, Ensures, TypedProcedure, TypedProgram}
use Rattle.typed_tree.specs.Scope.{Scope, axiom_scope, requires_scope, unless_hidden, variable_at, fixed}
use Rattle.typed_tree.specs.Typing.{type_of, only, operation_type, is_some_of, has_type}
use Rattle.typed_tree.specs.KeptRules.{is_arithmetic}
use Rattle.typed_tree.specs.Values.{State, member, column_value, truth, value_is_zero, operation_value, value}
use Rattle.typed_tree.specs.TypingRules.Counts.{numbers_fit}
use Rattle.typed_tree.specs.TypingRules.Rules.{is_condition, is_specification, is_body_if_any, context_of, params_of, procedure_keeps_rules, keeps_typing}
use Rattle.typed_tree.specs.TypingRules.Shape.{has_shape}
use Rattle.typed_tree.specs.TypingRules.ValidProgram.{has_entry, is_typed, is_valid}
use Rattle.boogie_run.specs.BoogiePoints.Actions.{plain_conditions}

-- ---- expressions without `old`

-- what is seen has the same values in both states
abbrev SeesSame : Scope → State → State → Type 0
SeesSame s a b = (c : Column) (v : VarInfo) → variable_at s c ≡ Some v → column_value a c ≡ column_value b c

mapped_some : {A B : Type 0} (f : A → B) (o : Option A) (y : B) → option_map f o ≡ Some y → (x : A) × (o ≡ Some x)
mapped_some f None y h = absurd (none-some y h)
mapped_some f (Some x) y h = (x, refl)

then_some : {A B : Type 0} (f : A → Option B) (o : Option A) (y : B) → option_and_then f o ≡ Some y → (x : A) × (o ≡ Some x) × (f x ≡ Some y)
then_some f None y h = absurd (none-some y h)
then_some f (Some x) y h = (x, refl, h)

if_some : {A : Type 0} (b : Bool) (o : Option A) (y : A) → (if b then o else None) ≡ Some y → b ≡ true
if_some true o y h = refl
if_some false o y h = absurd (none-some y h)

seen_value : (s : Scope) (ty : Ty) (e : TypedExpression) (a b : State) → s.old ≡ false → type_of s e ≡ Some ty → SeesSame s a b → value a e ≡ value b e
seen_value s ty (Lit at n) a b o h k = refl
seen_value s ty (Truth at x) a b o h k = refl
seen_value s ty (Var at c) a b o h k = let v = mapped_some (λ (w : VarInfo). w.ty) (variable_at s c) ty h in k c v.0 v.1
seen_value s ty (Old at e) a b o h k = absurd (false≢true (sym o ∙ if_some s.old (type_of s e) ty h))
seen_value s ty (Not at e) a b o h k =
    let u = then_some (only types.Bool) (type_of s e) ty h in ap (λ z. truth (value_is_zero z)) (seen_value s u.0 e a b o u.1 k)
seen_value s ty (Neg at e) a b o h k =
    let u = then_some (only types.Int) (type_of s e) ty h in ap neg_ℤ (seen_value s u.0 e a b o u.1 k)
seen_value s ty (Bin at op x y) a b o h k =
    let u = then_some (λ (t : Ty). option_and_then (operation_type op t) (type_of s y)) (type_of s x) ty h in
    let w = then_some (operation_type op u.0) (type_of s y) ty u.2 in
    λ i. operation_value op (seen_value s u.0 x a b o u.1 k i) (seen_value s w.0 y a b o w.1 k i)

some_of : (wanted : Ty) (o : Option Ty) → is_some_of wanted o ≡ true → (ty : Ty) × (o ≡ Some ty)
some_of wanted None h = absurd (false≢true h)
some_of wanted (Some ty) h = (ty, refl)

condition_value : (s : Scope) (e : TypedExpression) (a b : State) → s.old ≡ false → is_condition s e ≡ true → SeesSame s a b → value a e ≡ value b e
condition_value s e a b o h k =
    let both = and_parts (has_type s types.Bool e) (is_arithmetic (fixed s) false e) h in
    let ty = some_of types.Bool (type_of s e) both.0 in
    seen_value s ty.0 e a b o ty.1 k

-- ---- what axioms and requires see

-- a global that a scope sees is one of the program
hidden_some : (variables : Bool) (o : Option VarInfo) (v : VarInfo) → option_and_then (unless_hidden variables) o ≡ Some v → (o ≡ Some v) × ((variables || v.constant) ≡ true)
hidden_some variables None v h = absurd (none-some v h)
hidden_some variables (Some w) v h = by_test (variables || w.constant) refl h
  where
    by_test : (b : Bool) → (variables || w.constant) ≡ b → (if b then Some w else None) ≡ Some v → (Some w ≡ Some v) × ((variables || v.constant) ≡ true)
    by_test true e f = let same : w ≡ v = cc in (f, sym (ap (λ (x : VarInfo). variables || x.constant) same) ∙ e)
    by_test false e f = absurd (none-some v f)

abbrev pub SameConstants : TypedProgram → List ℤ → List ℤ → Type 0
SameConstants t xs ys = (n : ℕ) (v : VarInfo) → slice_get t.globals n ≡ Some v → v.constant ≡ true → member xs n ≡ member ys n

axiom_sees : (t : TypedProgram) (a b : State) → SameConstants t a.globals b.globals → SeesSame (axiom_scope t.globals) a b
axiom_sees t a b h (columns.Global n) v e = let x = hidden_some false (slice_get t.globals n) v e in h n v x.0 x.1
axiom_sees t a b h (columns.Old n) v e = absurd (none-some v e)
axiom_sees t a b h (columns.Local n) v e = absurd (none-some v e)

requires_sees : (globals params : List VarInfo) (a b : State) → a.globals ≡ b.globals → ((n : ℕ) (v : VarInfo) → slice_get params n ≡ Some v → member a.locals n ≡ member b.locals n) →
    SeesSame (requires_scope globals params) a b
requires_sees globals params a b g l (columns.Global n) v e = ap (λ (zs : List ℤ). member zs n) g
requires_sees globals params a b g l (columns.Old n) v e = absurd (none-some v e)
requires_sees globals params a b g l (columns.Local n) v e = l n v e

member_front : (xs ys : List ℤ) (n : ℕ) → n < length xs → member xs n ≡ member (xs ++ ys) n
member_front [] ys n h = absurd (omega arith)
member_front (x ∷ xs) ys zero h = refl
member_front (x ∷ xs) ys (suc n) h = member_front xs ys n (omega arith)

within : {X : Type 0} (xs : List X) (n : ℕ) (x : X) → slice_get xs n ≡ Some x → n < length xs
within [] n x e = absurd (cc)
within (y ∷ ys) zero x e = omega arith
within (y ∷ ys) (suc n) x e = let h = within ys n x e in omega arith

passes_at : {X : Type 0} (a : X → Bool) (xs : List X) (n : ℕ) (x : X) → list_all a xs ≡ true → slice_get xs n ≡ Some x → a x ≡ true
passes_at a [] n x h e = absurd (cc)
passes_at a (y ∷ ys) zero x h e = let same : y ≡ x = cc in sym (ap a same) ∙ (and_parts (a y) (list_all a ys) h).0
passes_at a (y ∷ ys) (suc n) x h e = passes_at a ys n x (and_parts (a y) (list_all a ys) h).1 e

all_get : {X : Type 0} (P : X → Type 0) (xs : List X) (n : ℕ) (x : X) → AllByRecursion P xs → slice_get xs n ≡ Some x → P x
all_get P [] n x h e = absurd (cc)
all_get P (y ∷ ys) zero x h e = let same : y ≡ x = cc in subst P same h.0
all_get P (y ∷ ys) (suc n) x h e = all_get P ys n x h.1 e

requires_of : (globals : List VarInfo) (p : TypedProcedure) (ss : List TypedSpecification) → list_all (is_specification globals p) ss ≡ true →
    AllByRecursion (λ i. is_condition (requires_scope globals (params_of p)) i.cond ≡ true) (plain_conditions ss)
requires_of globals p [] h = tt
requires_of globals p (Requires i ∷ ss) h =
    let both = and_parts (is_condition (requires_scope globals (params_of p)) i.cond) (list_all (is_specification globals p) ss) h in by_free i.free both.0 (requires_of globals p ss both.1)
  where
    by_free : (b : Bool) → is_condition (requires_scope globals (params_of p)) i.cond ≡ true →
        AllByRecursion (λ j. is_condition (requires_scope globals (params_of p)) j.cond ≡ true) (plain_conditions ss) →
        AllByRecursion (λ j. is_condition (requires_scope globals (params_of p)) j.cond ≡ true) (if b then plain_conditions ss else i ∷ plain_conditions ss)
    by_free true e k = k
    by_free false e k = (e, k)
requires_of globals p (Ensures i ∷ ss) h = requires_of globals p ss (and_parts (is_specification globals p (Ensures i)) (list_all (is_specification globals p) ss) h).1

-- ---- of a valid program

module _ (t : TypedProgram) (valid : IsTrue (is_valid t)) where
  keeps : keeps_typing t ≡ true
  keeps = (and_parts (keeps_typing t) (has_entry t) (and_parts (has_shape t) (keeps_typing t && has_entry t) (and_parts (is_typed t) (numbers_fit t) valid).0).1).0

  rules : (list_all (is_condition (axiom_scope t.globals)) t.axioms ≡ true) × (list_all (procedure_keeps_rules t.globals t.procs) t.procs ≡ true)
  rules = and_parts (list_all (is_condition (axiom_scope t.globals)) t.axioms) (list_all (procedure_keeps_rules t.globals t.procs) t.procs) keeps

  -- an axiom has the same value where the constants are the same
  pub axiom_value : (n : ℕ) (e : TypedExpression) (a b : State) → slice_get t.axioms n ≡ Some e → SameConstants t a.globals b.globals → value a e ≡ value b e
  axiom_value n e a b found same =
      condition_value (axiom_scope t.globals) e a b refl (passes_at (is_condition (axiom_scope t.globals)) t.axioms n e rules.0 found) (axiom_sees t a b same)

  requires_typed : (f : ℕ) (q : TypedProcedure) → slice_get t.procs f ≡ Some q → AllByRecursion (λ i. is_condition (requires_scope t.globals (params_of q)) i.cond ≡ true) (plain_conditions q.specs)
  requires_typed f q e =
      let kept = passes_at (procedure_keeps_rules t.globals t.procs) t.procs f q rules.1 e in
      requires_of t.globals q q.specs (and_parts (list_all (is_specification t.globals q) q.specs) (is_body_if_any (context_of t.globals t.procs q) q.body) kept).0

  -- and a requires where the globals are the same, and the locals begin with the same values of the parameters
  pub requires_value : (f j : ℕ) (q : TypedProcedure) (i : TypedInvariant) (gs old now zs more : List ℤ) → slice_get t.procs f ≡ Some q → slice_get (plain_conditions q.specs) j ≡ Some i →
      length zs ≡ length (params_of q) → value (record { globals = gs; old = old; locals = zs }) i.cond ≡ value (record { globals = gs; old = now; locals = zs ++ more }) i.cond
  requires_value f j q i gs old now zs more is found many =
      let params : List VarInfo = params_of q in
      let a : State = record { globals = gs; old = old; locals = zs } in
      let b : State = record { globals = gs; old = now; locals = zs ++ more } in
      condition_value (requires_scope t.globals params) i.cond a b refl
      (all_get (λ x. is_condition (requires_scope t.globals params) x.cond ≡ true) (plain_conditions q.specs) j i (requires_typed f q is) found)
      (requires_sees t.globals params a b refl (λ n v e. let l : n < length params = within params n v e in member_front zs more n (omega arith)))
