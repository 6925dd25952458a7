-- Literal arguments in the places of their parameters: a condition keeps its type, its value and its divisors.
use Rattle.std.proofs.Common.{◌≡◌, ℕ, zero, suc, Bool, true, false, not, ◌&&◌, ℤ, neg_ℤ, List, [], ◌∷◌, map, Option, None, Some, option_and_then, if◌then◌else◌, refl, ap, sym, ◌∙◌}
use Rattle.std.specs.Prelude.{slice_get, unwrap_or}
use Rattle.std.specs.Option.{is_some, option_map}
use Rattle.std.proofs.lemmas.Bool.{and_parts, and_from, false≢true}
use Rattle.boogie_tree.specs.declared.span.Span.{Span}
use Rattle.boogie_tree.specs.declared.tree.Op.{Op}
use Rattle.boogie_tree.specs.declared.tree.Op.TheVariants as ops
use Rattle.boogie_tree.specs.declared.tree.Column.{Column}
use Rattle.boogie_tree.specs.declared.tree.Column.TheVariants as columns
use Rattle.boogie_tree.specs.declared.tree.Ty.TheVariants as types
use Rattle.typed_tree.specs.TypedTree.{TypedExpression, Lit, Truth, Var, Old, Not, Neg, Bin}
use Rattle.typed_tree.specs.Typing.{operation_type, only}
use Rattle.typed_tree.specs.Values.{State, column_value, member, value, truth, value_is_zero, operation_value}
use Rattle.typed_tree.specs.AffineForm.{divisor_of, is_divisor, is_empty, forms_fit}
use Rattle.typed_tree.specs.Divided.{is_divided, is_divided_operation}
use Rattle.typed_tree.specs.Laws.{state_of}
use Rattle.cond_jumps.specs.Environments.{Environment, type_in}
use Rattle.cond_jumps.specs.Passing.{Passed, standing_type, standing_environment, passed, passed_state}
use Rattle.cond_jumps.proofs.TypeLemmas.{entry_of}
use Rattle.cond_jumps.specs.FreeProducts.FreeProducts.{free_products}
use Rattle.cond_jumps.specs.FreeProducts.FrameLetters.{if_literal, literal_or, put_in, told_condition}
use Rattle.cond_jumps.specs.FreeProducts.FrameLaws.{IsDividedCondition}

-- ---- literals

pub literal_type : (e : TypedExpression) → is_some (divisor_of e) ≡ true → (v : Environment) (old : Bool) → type_in v old e ≡ Some types.Int
literal_type (Lit at n) h v old = refl
literal_type (Neg at (Lit at1 n)) h v old = refl
literal_type e h v old = absurd (false≢true h)

pub literal_value : (e : TypedExpression) → is_some (divisor_of e) ≡ true → (s t : State) → value s e ≡ value t e
literal_value (Lit at n) h s t = refl
literal_value (Neg at (Lit at1 n)) h s t = refl
literal_value e h s t = absurd (false≢true h)

pub literal_divided : (e : TypedExpression) → is_some (divisor_of e) ≡ true → is_divided e ≡ true
literal_divided (Lit at n) h = refl
literal_divided (Neg at (Lit at1 n)) h = refl
literal_divided e h = absurd (false≢true h)

-- what stands in the place of a variable: a literal argument, or the variable itself
pub place_by : {X : Type 0} (f : TypedExpression → X) (o : Option TypedExpression) (e : TypedExpression) (x : X) → f e ≡ x → ((a : TypedExpression) → o ≡ Some a → is_some (divisor_of a) ≡ true → f a ≡ x) →
    f (unwrap_or (option_and_then if_literal o) e) ≡ x
place_by f None e x h k = h
place_by {X} f (Some a) e x h k = by_test (is_some (divisor_of a)) refl
  where
    by_test : (b : Bool) → is_some (divisor_of a) ≡ b → f (unwrap_or (if b then Some a else None) e) ≡ x
    by_test true g = k a refl g
    by_test false g = h

-- ---- types

-- the environment in which the arguments stand for the parameters
abbrev called : Environment → List TypedExpression → Environment
called v args = standing_environment v (passed args)

variable_type : (v : Environment) (args : List TypedExpression) (old : Bool) (at : Span) (c : Column) → type_in (called v args) old (literal_or args c (Var at c)) ≡ type_in (called v args) old (Var at c)
variable_type v args old at (columns.Global n) = refl
variable_type v args old at (columns.Old n) = refl
variable_type v args true at (columns.Local n) =
    place_by (type_in (called v args) true) (slice_get args n) (Var at (columns.Local n)) (standing_type v (option_map Passed (slice_get args n))) refl
    (λ a e l. literal_type a l (called v args) true ∙ sym (literal_type a l v false) ∙ ap (λ (o : Option TypedExpression). standing_type v (option_map Passed o)) (sym e))
variable_type v args false at (columns.Local n) =
    place_by (type_in (called v args) false) (slice_get args n) (Var at (columns.Local n)) (standing_type v (option_map Passed (slice_get args n))) refl
    (λ a e l. literal_type a l (called v args) false ∙ sym (literal_type a l v false) ∙ ap (λ (o : Option TypedExpression). standing_type v (option_map Passed o)) (sym e))

pub put_type : (v : Environment) (args : List TypedExpression) (old : Bool) (e : TypedExpression) → type_in (called v args) old (put_in args e) ≡ type_in (called v args) old e
put_type v args old (Lit at n) = refl
put_type v args old (Truth at b) = refl
put_type v args old (Var at c) = variable_type v args old at c
put_type v args old (Old at e) = put_type v args true e
put_type v args old (Not at e) = ap (option_and_then (only types.Bool)) (put_type v args old e)
put_type v args old (Neg at e) = ap (option_and_then (only types.Int)) (put_type v args old e)
put_type v args old (Bin at op a b) =
    let x = put_type v args old a in
    let y = put_type v args old b in
    λ i. option_and_then (λ t. option_and_then (operation_type op t) (y i)) (x i)

-- ---- values

pub argument_value : (s : State) (args : List TypedExpression) (n : ℕ) (a : TypedExpression) → slice_get args n ≡ Some a → member (map (value s) args) n ≡ value s a
argument_value s [] n a e = absurd (cc)
argument_value s (x ∷ xs) zero a e = let f : x ≡ a = cc in ap (value s) f
argument_value s (x ∷ xs) (suc n) a e = argument_value s xs n a e

variable_value : (s : State) (args : List TypedExpression) (old : Bool) (at : Span) (c : Column) →
    value (state_of old (passed_state s args)) (literal_or args c (Var at c)) ≡ column_value (state_of old (passed_state s args)) c
variable_value s args old at (columns.Global n) = refl
variable_value s args old at (columns.Old n) = refl
variable_value s args true at (columns.Local n) =
    place_by (value (state_of true (passed_state s args))) (slice_get args n) (Var at (columns.Local n)) (member (map (value s) args) n) refl
    (λ a e l. literal_value a l (state_of true (passed_state s args)) s ∙ sym (argument_value s args n a e))
variable_value s args false at (columns.Local n) =
    place_by (value (state_of false (passed_state s args))) (slice_get args n) (Var at (columns.Local n)) (member (map (value s) args) n) refl
    (λ a e l. literal_value a l (state_of false (passed_state s args)) s ∙ sym (argument_value s args n a e))

pub put_value : (s : State) (args : List TypedExpression) (old : Bool) (e : TypedExpression) →
    value (state_of old (passed_state s args)) (put_in args e) ≡ value (state_of old (passed_state s args)) e
put_value s args old (Lit at n) = refl
put_value s args old (Truth at b) = refl
put_value s args old (Var at c) = variable_value s args old at c
put_value s args old (Old at e) =
    ap (λ (z : State). value z (put_in args e)) (entry_of old (passed_state s args)) ∙ put_value s args true e ∙ ap (λ (z : State). value z e) (sym (entry_of old (passed_state s args)))
put_value s args old (Not at e) = ap (λ (z : ℤ). truth (value_is_zero z)) (put_value s args old e)
put_value s args old (Neg at e) = ap neg_ℤ (put_value s args old e)
put_value s args old (Bin at op a b) =
    let x = put_value s args old a in
    let y = put_value s args old b in
    λ i. operation_value op (x i) (y i)

-- ---- divisors

pub put_divisor : (args : List TypedExpression) (e : TypedExpression) → is_divisor (divisor_of e) ≡ true → is_divisor (divisor_of (put_in args e)) ≡ true
put_divisor args (Lit at k) h = h
put_divisor args (Neg at (Lit at1 k)) h = h
put_divisor args e h = absurd (false≢true h)

pub put_division : (args : List TypedExpression) (op : Op) (e : TypedExpression) → is_divided_operation op e ≡ true → is_divided_operation op (put_in args e) ≡ true
put_division args ops.Div e h = put_divisor args e h
put_division args ops.Mod e h = put_divisor args e h
put_division args op e h = refl

variable_divided : (args : List TypedExpression) (at : Span) (c : Column) → is_divided (literal_or args c (Var at c)) ≡ true
variable_divided args at (columns.Global n) = refl
variable_divided args at (columns.Old n) = refl
variable_divided args at (columns.Local n) = place_by is_divided (slice_get args n) (Var at (columns.Local n)) true refl (λ a e l. literal_divided a l)

pub put_divided : (args : List TypedExpression) (e : TypedExpression) → is_divided e ≡ true → is_divided (put_in args e) ≡ true
put_divided args (Lit at n) h = refl
put_divided args (Truth at b) h = refl
put_divided args (Var at c) h = variable_divided args at c
put_divided args (Old at e) h = put_divided args e h
put_divided args (Not at e) h = put_divided args e h
put_divided args (Neg at e) h = put_divided args e h
put_divided args (Bin at op a b) h =
    let p = and_parts (is_divided a) (is_divided b && is_divided_operation op b) h in
    let q = and_parts (is_divided b) (is_divided_operation op b) p.1 in
    and_from (is_divided (put_in args a)) (is_divided (put_in args b) && is_divided_operation op (put_in args b)) (put_divided args a p.0)
    (and_from (is_divided (put_in args b)) (is_divided_operation op (put_in args b)) (put_divided args b q.0) (put_division args op b q.1))

-- ---- the condition as it is told

pub told_value : (g : Column → Bool) (s : State) (args : List TypedExpression) (e : TypedExpression) → value (passed_state s args) (told_condition g args e) ≡ value (passed_state s args) e
told_value g s args e = by_test (not (is_empty (free_products g false e)) && forms_fit g false (put_in args e))
  where
    by_test : (b : Bool) → value (passed_state s args) (if b then put_in args e else e) ≡ value (passed_state s args) e
    by_test true = put_value s args false e
    by_test false = refl

pub told_is_condition : (g : Column → Bool) (v : Environment) (args : List TypedExpression) (e : TypedExpression) → IsDividedCondition (called v args) e → IsDividedCondition (called v args) (told_condition g args e)
told_is_condition g v args e h = by_test (not (is_empty (free_products g false e)) && forms_fit g false (put_in args e))
  where
    by_test : (b : Bool) → IsDividedCondition (called v args) (if b then put_in args e else e)
    by_test true = record { typed = put_type v args false e ∙ h.typed; divided = put_divided args e h.divided }
    by_test false = h
