-- The ensures of a procedure without body, with literal arguments in the places of their parameters, and with locals in the places of their products.
use Rattle.std.proofs.Common.{◌≡◌, ℕ, zero, suc, ◌+◌, ◌<◌, Bool, true, false, not, ◌&&◌, ℤ, neg_ℤ, List, [], ◌∷◌, ◌++◌, map, length, Option, None, Some, option_and_then, if◌then◌else◌, refl, ap, sym, ◌∙◌, arith}
use Rattle.std.specs.Prelude.{slice_get}
use Rattle.std.specs.List.{AllByRecursion}
use Rattle.boogie_tree.specs.declared.span.Span.{Span}
use Rattle.boogie_tree.specs.declared.tree.Column.{Column}
use Rattle.boogie_tree.specs.declared.tree.Column.TheVariants as columns
use Rattle.boogie_tree.specs.declared.tree.Ty.{Ty}
use Rattle.boogie_tree.specs.declared.tree.Ty.TheVariants as types
use Rattle.boogie_tree.specs.declared.tree.VarInfo.{VarInfo}
use Rattle.typed_tree.specs.TypedTree.{TypedExpression, Lit, Truth, Var, Old, Not, Neg, Bin}
use Rattle.typed_tree.specs.Typing.{operation_type, only}
use Rattle.typed_tree.specs.Values.{State, column_value, member, value, truth, value_is_zero, operation_value}
use Rattle.typed_tree.specs.AffineForm.{is_empty, forms_fit, is_linear}
use Rattle.typed_tree.specs.Laws.{state_of}
use Rattle.cond_jumps.specs.Environments.{Environment, type_in}
use Rattle.cond_jumps.specs.Passing.{Numbered, Passed, standing_type, standing_environment, left_in, passed_locals, imported, imported_state}
use Rattle.cond_jumps.proofs.TypeLemmas.{entry_of}
use Rattle.cond_jumps.specs.FreeProducts.FreeProducts.{free_products, freed, all_free_products, all_freed}
use Rattle.cond_jumps.specs.FreeProducts.FrameLetters.{literal_or, put_in, told_condition}
use Rattle.cond_jumps.specs.FreeProducts.FrameLaws.{IsDividedCondition, IsDividedValue}
use Rattle.cond_jumps.proofs.FreeProducts.FreedLemmas.{freed_type, freed_linear, AreNumbers, length_append}
use Rattle.cond_jumps.proofs.FreeProducts.MeanLemmas.{numbers_part}
use Rattle.cond_jumps.proofs.FreeProducts.ToldLemmas.{literal_type, literal_value, place_by, put_divided}
use Rattle.lowered_graph.specs.LoweredSteps.Edges.{left_if, typed_column, results_at, whole_columns}
use Rattle.lowered_graph.proofs.LoweredImports.Followed.{IsTypedIn, AreTrue}

-- ---- types

-- the environment in which the arguments and the columns of the results stand for the locals
abbrev imports : Environment → (ℕ → Option (ℕ × Ty)) → List TypedExpression → List (ℕ × Ty) → Environment
imports v left args results = standing_environment v (imported left args results)

argument_stands : (args : List TypedExpression) (results : List (ℕ × Ty)) (n : ℕ) (a : TypedExpression) → slice_get args n ≡ Some a → slice_get (passed_locals args results) n ≡ Some (Passed a)
argument_stands [] results n a e = absurd (cc)
argument_stands (x ∷ xs) results zero a e = let f : x ≡ a = cc in ap (λ (y : TypedExpression). Some (Passed y)) f
argument_stands (x ∷ xs) results (suc n) a e = argument_stands xs results n a e

variable_type : (v : Environment) (left : ℕ → Option (ℕ × Ty)) (args : List TypedExpression) (results : List (ℕ × Ty)) (old : Bool) (at : Span) (c : Column) →
    type_in (imports v left args results) old (literal_or args c (Var at c)) ≡ type_in (imports v left args results) old (Var at c)
variable_type v left args results old at (columns.Global n) = refl
variable_type v left args results old at (columns.Old n) = refl
variable_type v left args results true at (columns.Local n) =
    place_by (type_in (imports v left args results) true) (slice_get args n) (Var at (columns.Local n)) (standing_type v (slice_get (passed_locals args results) n)) refl
    (λ a e l. literal_type a l (imports v left args results) true ∙ sym (literal_type a l v false) ∙ ap (standing_type v) (sym (argument_stands args results n a e)))
variable_type v left args results false at (columns.Local n) =
    place_by (type_in (imports v left args results) false) (slice_get args n) (Var at (columns.Local n)) (standing_type v (slice_get (passed_locals args results) n)) refl
    (λ a e l. literal_type a l (imports v left args results) false ∙ sym (literal_type a l v false) ∙ ap (standing_type v) (sym (argument_stands args results n a e)))

put_type : (v : Environment) (left : ℕ → Option (ℕ × Ty)) (args : List TypedExpression) (results : List (ℕ × Ty)) (old : Bool) (e : TypedExpression) →
    type_in (imports v left args results) old (put_in args e) ≡ type_in (imports v left args results) old e
put_type v left args results old (Lit at n) = refl
put_type v left args results old (Truth at b) = refl
put_type v left args results old (Var at c) = variable_type v left args results old at c
put_type v left args results old (Old at e) = put_type v left args results true e
put_type v left args results old (Not at e) = ap (option_and_then (only types.Bool)) (put_type v left args results old e)
put_type v left args results old (Neg at e) = ap (option_and_then (only types.Int)) (put_type v left args results old e)
put_type v left args results old (Bin at op a b) =
    let x = put_type v left args results old a in
    let y = put_type v left args results old b in
    λ i. option_and_then (λ t. option_and_then (operation_type op t) (y i)) (x i)

-- ---- values

argument_value : (s : State) (args : List TypedExpression) (zs : List ℤ) (n : ℕ) (a : TypedExpression) → slice_get args n ≡ Some a → member (map (value s) args ++ zs) n ≡ value s a
argument_value s [] zs n a e = absurd (cc)
argument_value s (x ∷ xs) zs zero a e = let f : x ≡ a = cc in ap (value s) f
argument_value s (x ∷ xs) zs (suc n) a e = argument_value s xs zs n a e

variable_value : (s : State) (globals : List ℤ) (args : List TypedExpression) (zs : List ℤ) (old : Bool) (at : Span) (c : Column) →
    value (state_of old (imported_state s globals args zs)) (literal_or args c (Var at c)) ≡ column_value (state_of old (imported_state s globals args zs)) c
variable_value s globals args zs old at (columns.Global n) = refl
variable_value s globals args zs old at (columns.Old n) = refl
variable_value s globals args zs true at (columns.Local n) =
    place_by (value (state_of true (imported_state s globals args zs))) (slice_get args n) (Var at (columns.Local n)) (member (map (value s) args ++ zs) n) refl
    (λ a e l. literal_value a l (state_of true (imported_state s globals args zs)) s ∙ sym (argument_value s args zs n a e))
variable_value s globals args zs false at (columns.Local n) =
    place_by (value (state_of false (imported_state s globals args zs))) (slice_get args n) (Var at (columns.Local n)) (member (map (value s) args ++ zs) n) refl
    (λ a e l. literal_value a l (state_of false (imported_state s globals args zs)) s ∙ sym (argument_value s args zs n a e))

put_value : (s : State) (globals : List ℤ) (args : List TypedExpression) (zs : List ℤ) (old : Bool) (e : TypedExpression) →
    value (state_of old (imported_state s globals args zs)) (put_in args e) ≡ value (state_of old (imported_state s globals args zs)) e
put_value s globals args zs old (Lit at n) = refl
put_value s globals args zs old (Truth at b) = refl
put_value s globals args zs old (Var at c) = variable_value s globals args zs old at c
put_value s globals args zs old (Old at e) =
    ap (λ (z : State). value z (put_in args e)) (entry_of old (imported_state s globals args zs)) ∙ put_value s globals args zs true e
    ∙ ap (λ (z : State). value z e) (sym (entry_of old (imported_state s globals args zs)))
put_value s globals args zs old (Not at e) = ap (λ (z : ℤ). truth (value_is_zero z)) (put_value s globals args zs old e)
put_value s globals args zs old (Neg at e) = ap neg_ℤ (put_value s globals args zs old e)
put_value s globals args zs old (Bin at op a b) =
    let x = put_value s globals args zs old a in
    let y = put_value s globals args zs old b in
    λ i. operation_value op (x i) (y i)

-- ---- the ensures as it is told

pub told_import_value : (g : Column → Bool) (s : State) (globals : List ℤ) (args : List TypedExpression) (zs : List ℤ) (e : TypedExpression) →
    value (imported_state s globals args zs) (told_condition g args e) ≡ value (imported_state s globals args zs) e
told_import_value g s globals args zs e = by_test (not (is_empty (free_products g false e)) && forms_fit g false (put_in args e))
  where
    by_test : (b : Bool) → value (imported_state s globals args zs) (if b then put_in args e else e) ≡ value (imported_state s globals args zs) e
    by_test true = put_value s globals args zs false e
    by_test false = refl

pub told_import_condition : (g : Column → Bool) (v : Environment) (left : ℕ → Option (ℕ × Ty)) (args : List TypedExpression) (results : List (ℕ × Ty)) (e : TypedExpression) →
    IsDividedCondition (standing_environment v (imported left args results)) e → IsDividedCondition (standing_environment v (imported left args results)) (told_condition g args e)
told_import_condition g v left args results e h = by_test (not (is_empty (free_products g false e)) && forms_fit g false (put_in args e))
  where
    by_test : (b : Bool) → IsDividedCondition (imports v left args results) (if b then put_in args e else e)
    by_test true = record { typed = put_type v left args results false e ∙ h.typed; divided = put_divided args e h.divided }
    by_test false = h

-- ---- what stands for the columns with products, and without

-- a global stands where one of the same type stood, whatever the first written column is
pub left_kept : (v u : Environment) (globals : List VarInfo) (base longer g : ℕ) (k h i : Option ℕ) → (h ≡ None → i ≡ None) → (i ≡ None → h ≡ None) →
    ((t : Ty) → v.type (columns.Global g) ≡ Some t → u.type (columns.Global g) ≡ Some t) → (t : Ty) → standing_type v (Some (left_in g (left_if globals base g k h))) ≡ Some t →
    standing_type u (Some (left_in g (left_if globals longer g k i))) ≡ Some t
left_kept v u globals base longer g None h i a b f t e = f t e
left_kept v u globals base longer g (Some k) None None a b f t e = by_variable (slice_get globals g) e
  where
    by_variable : (o : Option VarInfo) → standing_type v (Some (left_in g (typed_column (base + k) o))) ≡ Some t → standing_type u (Some (left_in g (typed_column (longer + k) o))) ≡ Some t
    by_variable None e = f t e
    by_variable (Some w) e = e
left_kept v u globals base longer g (Some k) (Some h) (Some i) a b f t e = by_variable (slice_get globals g) e
  where
    by_variable : (o : Option VarInfo) → standing_type v (Some (left_in g (typed_column h o))) ≡ Some t → standing_type u (Some (left_in g (typed_column i o))) ≡ Some t
    by_variable None e = f t e
    by_variable (Some w) e = e
left_kept v u globals base longer g (Some k) None (Some i) a b f t e = absurd (let c : Some i ≡ None = a refl in cc)
left_kept v u globals base longer g (Some k) (Some h) None a b f t e = absurd (let c : Some h ≡ None = b refl in cc)

-- a result stands in a column of the same type
pub results_kept : (v u : Environment) (base longer : ℕ) (written ts : List ℕ) (vs : List VarInfo) (more : List (ℕ × Ty)) (n : ℕ) (t : Ty) →
    standing_type v (slice_get (map (λ r. Numbered r.0 r.1) (results_at base written ts vs)) n) ≡ Some t →
    standing_type u (slice_get (map (λ r. Numbered r.0 r.1) (results_at longer written ts vs ++ more)) n) ≡ Some t
results_kept v u base longer written [] vs more n t e = absurd (cc)
results_kept v u base longer written (c ∷ cs) [] more n t e = absurd (cc)
results_kept v u base longer written (c ∷ cs) (x ∷ xs) more zero t e = e
results_kept v u base longer written (c ∷ cs) (x ∷ xs) more (suc n) t e = results_kept v u base longer written cs xs more n t e

-- an argument keeps its type where its products are further locals, and what stands behind the arguments its own
pub locals_kept : (g : Column → Bool) (v u : Environment) → ((c : Column) (t : Ty) → v.type c ≡ Some t → u.type c ≡ Some t) → (j : ℕ) (args : List TypedExpression) (rs qs : List (ℕ × Ty)) →
    ((n : ℕ) (t : Ty) → standing_type v (slice_get (map (λ r. Numbered r.0 r.1) rs) n) ≡ Some t → standing_type u (slice_get (map (λ r. Numbered r.0 r.1) qs) n) ≡ Some t) →
    AreNumbers u j (length (all_free_products g args)) → (n : ℕ) (t : Ty) → standing_type v (slice_get (passed_locals args rs) n) ≡ Some t →
    standing_type u (slice_get (passed_locals (all_freed g j args) qs) n) ≡ Some t
locals_kept g v u f j [] rs qs k h n t e = k n t e
locals_kept g v u f j (a ∷ es) rs qs k h zero t e =
    let l : length (all_free_products g (a ∷ es)) ≡ length (free_products g false a) + length (all_free_products g es) = length_append (free_products g false a) (all_free_products g es) in
    freed_type g v u f j false a t e (λ i q. h i (omega (arith, l, q)))
locals_kept g v u f j (a ∷ es) rs qs k h (suc n) t e =
    let o : ℕ = length (free_products g false a) in
    let l : length (all_free_products g (a ∷ es)) ≡ o + length (all_free_products g es) = length_append (free_products g false a) (all_free_products g es) in
    locals_kept g v u f (j + o) es rs qs k (numbers_part u j (j + o) (length (all_free_products g (a ∷ es))) (length (all_free_products g es)) (omega (arith, l)) (omega arith) h) n t e

-- the columns of products are whole numbers
pub whole_type : (u : Environment) (args : List TypedExpression) (rs : List (ℕ × Ty)) (c k n i : ℕ) → n ≡ length args + length rs + i → i < k →
    standing_type u (slice_get (passed_locals args (rs ++ whole_columns c k)) n) ≡ Some types.Int
whole_type u (a ∷ es) rs c k zero i e l = absurd (omega (arith, e))
whole_type u (a ∷ es) rs c k (suc n) i e l = whole_type u es rs c k n i (omega (arith, e)) l
whole_type u [] (r ∷ rs) c k zero i e l = absurd (omega (arith, e))
whole_type u [] (r ∷ rs) c k (suc n) i e l = whole_type u [] rs c k n i (omega (arith, e)) l
whole_type u [] [] c zero n i e l = absurd (omega arith)
whole_type u [] [] c (suc k) zero i e l = refl
whole_type u [] [] c (suc k) (suc n) zero e l = absurd (omega (arith, e))
whole_type u [] [] c (suc k) (suc n) (suc i) e l = whole_type u [] [] (suc c) k n i (omega (arith, e)) (omega arith)

-- ---- all of them

-- typed conditions whose divisors are literals, with locals in the places of their products, are typed, and their operators keep their rules
pub all_typed_in : (g : Column → Bool) (v u : Environment) → u.fixed ≡ g → ((c : Column) (t : Ty) → v.type c ≡ Some t → u.type c ≡ Some t) → (n : ℕ) (es : List TypedExpression) →
    AllByRecursion (IsDividedCondition v) es → AreNumbers u n (length (all_free_products g es)) → AllByRecursion (IsTypedIn u) (all_freed g n es)
all_typed_in g v u f t n [] h k = tt
all_typed_in g v u f t n (e ∷ es) h k =
    let a : ℕ = length (free_products g false e) in
    let l : length (all_free_products g (e ∷ es)) ≡ a + length (all_free_products g es) = length_append (free_products g false e) (all_free_products g es) in (
      record {
        typed = freed_type g v u t n false e types.Bool h.0.typed (λ i q. k i (omega (arith, l, q)));
        linear = ap (λ (z : Column → Bool). is_linear z false (freed g n false e)) f ∙ freed_linear g n false e h.0.divided;
      },
      all_typed_in g v u f t (n + a) es h.1 (numbers_part u n (n + a) (length (all_free_products g (e ∷ es))) (length (all_free_products g es)) (omega (arith, l)) (omega arith) k),
    )

pub conditions_are_values : (v : Environment) (es : List TypedExpression) → AllByRecursion (IsDividedCondition v) es → AllByRecursion (IsDividedValue v) es
conditions_are_values v [] h = tt
conditions_are_values v (e ∷ es) h = (record { type = types.Bool; typed = h.0.typed; divided = h.0.divided }, conditions_are_values v es h.1)

-- where values are equal, so is their truth
pub true_as : (s u : State) (es fs : List TypedExpression) → map (value s) es ≡ map (value u) fs → AreTrue s es → AreTrue u fs
true_as s u [] [] e h = tt
true_as s u [] (f ∷ fs) e h = absurd (cc)
true_as s u (e ∷ es) [] d h = absurd (cc)
true_as s u (e ∷ es) (f ∷ fs) d h =
    let a : value s e ≡ value u f = cc in
    let b : map (value s) es ≡ map (value u) fs = cc in
    (sym a ∙ h.0, true_as s u es fs b h.1)
