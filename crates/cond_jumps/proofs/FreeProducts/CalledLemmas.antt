-- The letters of conditions of called procedures mean what they say.
use Rattle.std.proofs.Common.{◌≡◌, ℕ, zero, suc, ◌+◌, ◌<◌, Bool, true, false, ℤ, List, [], ◌∷◌, ◌++◌, map, length, append-nil, Some, refl, ap, sym, ◌∙◌, subst, arith}
use Rattle.std.specs.Prelude.{slice_get}
use Rattle.std.specs.Option.{option_map}
use Rattle.std.specs.List.{AllByRecursion}
use Rattle.boogie_tree.specs.declared.tree.Column.{Column}
use Rattle.boogie_tree.specs.declared.tree.Column.TheVariants as columns
use Rattle.boogie_tree.specs.declared.tree.Ty.{Ty}
use Rattle.boogie_tree.specs.declared.tree.Ty.TheVariants as types
use Rattle.typed_tree.specs.TypedTree.{TypedExpression}
use Rattle.typed_tree.specs.Values.{State, column_value, member, value, truth}
use Rattle.typed_tree.specs.AffineForm.{is_linear}
use Rattle.lin_rows.specs.Points.{point_of}
use Rattle.letter_acts.specs.Frames.{Columns}
use Rattle.letter_acts.proofs.PointLemmas.{state_length}
use Rattle.cond_jumps.specs.Conjunctions.{Conjunction, listed_plan}
use Rattle.cond_jumps.specs.Environments.{Environment, type_in}
use Rattle.cond_jumps.specs.Frames.{frame_environment, fixed_in}
use Rattle.cond_jumps.specs.Lists.{Decide}
use Rattle.cond_jumps.specs.Passing.{Passed, standing_type, standing_environment, passed, passed_state}
use Rattle.cond_jumps.specs.Paths.{paths}
use Rattle.cond_jumps.specs.Worth.{IsChoice, Shows}
use Rattle.cond_jumps.proofs.MeaningLemmas.{agrees_refl}
use Rattle.cond_jumps.proofs.PathLemmas.{paths_mean}
use Rattle.cond_jumps.proofs.FrameLemmas.{frame_shows}
use Rattle.cond_jumps.proofs.PassingLemmas.{passed_show}
use Rattle.cond_jumps.proofs.ListLemmas.{decided_at}
use Rattle.cond_jumps.specs.FreeProducts.FreeProducts.{free_products, freed, all_free_products, all_freed}
use Rattle.cond_jumps.specs.FreeProducts.FrameLetters.{widened, all_product_count, told_condition, product_arguments, passed_arguments, passed_count, freed_passed_plan, told_letters}
use Rattle.cond_jumps.specs.FreeProducts.FrameLaws.{IsWholeState, IsDividedCondition, IsDividedValue, Marks, CalledConditionsMean}
use Rattle.cond_jumps.proofs.FreeProducts.FreedLemmas.{freed_linear, freed_type, freed_value, AreNumbers, LocalsAre, locals_split, map_append, map_length, length_append}
use Rattle.cond_jumps.proofs.FreeProducts.WidenedLemmas.{same_fixed, same_type_in, are_numbers, grown, member-left, same_column_value, locals_grown, shown_widened}
use Rattle.cond_jumps.proofs.FreeProducts.MeanLemmas.{marks_of, decide_as, numbers_part, all_values, all_freed_length}
use Rattle.cond_jumps.proofs.FreeProducts.ToldLemmas.{told_value, told_is_condition}

-- ---- the arguments

-- an argument keeps its type where its products are further locals
argument_type : (g : Column → Bool) (v u : Environment) → ((c : Column) (t : Ty) → v.type c ≡ Some t → u.type c ≡ Some t) → (j n : ℕ) (args rest : List TypedExpression) (t : Ty) →
    AreNumbers u j (length (all_free_products g args)) → standing_type v (option_map Passed (slice_get args n)) ≡ Some t → standing_type u (option_map Passed (slice_get (all_freed g j args ++ rest) n)) ≡ Some t
argument_type g v u f j n [] rest t h e = absurd (cc)
argument_type g v u f j zero (a ∷ es) rest t h e =
    let l : length (all_free_products g (a ∷ es)) ≡ length (free_products g false a) + length (all_free_products g es) = length_append (free_products g false a) (all_free_products g es) in
    freed_type g v u f j false a t e (λ i q. h i (omega (arith, l, q)))
argument_type g v u f j (suc n) (a ∷ es) rest t h e =
    let k : ℕ = length (free_products g false a) in
    let l : length (all_free_products g (a ∷ es)) ≡ k + length (all_free_products g es) = length_append (free_products g false a) (all_free_products g es) in
    argument_type g v u f (j + k) n es rest t (numbers_part u j (j + k) (length (all_free_products g (a ∷ es))) (length (all_free_products g es)) (omega (arith, l)) (omega arith) h) e

-- a product of the condition, as a further argument, is a whole number
product_type : (u : Environment) (j k i : ℕ) (ps front : List TypedExpression) (n : ℕ) → length front ≡ k → n ≡ k + i → i < length ps → AreNumbers u j (length ps) →
    standing_type u (option_map Passed (slice_get (front ++ product_arguments j ps) n)) ≡ Some types.Int
product_type u j k i ps (a ∷ es) zero l e q h = absurd (omega (arith, l, e))
product_type u j k i ps (a ∷ es) (suc n) l e q h = product_type u j (length es) i ps es n refl (omega (arith, l, e)) q h
product_type u j k i [] [] n l e q h = absurd (omega arith)
product_type u j k i (p ∷ ps) [] zero l e q h =
    let z : j + 0 ≡ j = omega arith in
    ap (λ (c : ℕ). u.type (columns.Local c)) (sym z) ∙ h 0 (omega arith)
product_type u j k zero (p ∷ ps) [] (suc n) l e q h = absurd (omega (arith, l, e))
product_type u j k (suc i) (p ∷ ps) [] (suc n) l e q h =
    product_type u (suc j) 0 i ps [] n refl (omega (arith, l, e)) (omega (arith, q)) (λ d r. let z : j + suc d ≡ suc j + d = omega arith in ap (λ (c : ℕ). u.type (columns.Local c)) (sym z) ∙ h (suc d) (omega arith))

-- the further arguments have the values of the products
product_values : (u : State) (j : ℕ) (ps : List TypedExpression) (zs : List ℤ) → length zs ≡ length ps → LocalsAre u.locals j zs → map (value u) (product_arguments j ps) ≡ zs
product_values u j [] [] l h = refl
product_values u j [] (z ∷ zs) l h = absurd (omega (arith, l))
product_values u j (p ∷ ps) [] l h = absurd (omega (arith, l))
product_values u j (p ∷ ps) (z ∷ zs) l h =
    let x : member u.locals j ≡ z = h.0 in
    let y = product_values u (suc j) ps zs (omega (arith, l)) h.1 in
    λ i. x i ∷ y i

-- all of them are linear
arguments_linear : (g f : Column → Bool) → f ≡ g → (v : Environment) (j k : ℕ) (args ps : List TypedExpression) → AllByRecursion (IsDividedValue v) args →
    AllByRecursion (λ (e : TypedExpression). is_linear f false e ≡ true) (all_freed g j args ++ product_arguments k ps)
arguments_linear g f e v j k [] [] h = tt
arguments_linear g f e v j k [] (p ∷ ps) h = (refl, arguments_linear g f e v j (suc k) [] ps h)
arguments_linear g f e v j k (a ∷ es) ps h = (
  ap (λ (z : Column → Bool). is_linear z false (freed g j false a)) e ∙ freed_linear g j false a h.0.divided,
  arguments_linear g f e v (j + length (free_products g false a)) k es ps h.1,
)

-- ---- the environment of the called procedure

-- what is seen through the arguments keeps its value with further parameters
passed_column : (v : Environment) (s : State) (args : List TypedExpression) (zs : List ℤ) (c : Column) (t : Ty) → (standing_environment v (passed args)).type c ≡ Some t →
    column_value (grown (passed_state s args) zs) c ≡ column_value (passed_state s args) c
passed_column v s args zs (columns.Global n) t e = refl
passed_column v s args zs (columns.Old n) t e = refl
passed_column v s args zs (columns.Local n) t e =
    let l : length (map (value s) args) ≡ length args = map_length (value s) args in
    member-left (map (value s) args) zs n (let i : n < length args = inside args n e in omega (arith, l, i))
  where
    inside : (es : List TypedExpression) (n : ℕ) → standing_type v (option_map Passed (slice_get es n)) ≡ Some t → n < length es
    inside [] n e = absurd (cc)
    inside (a ∷ es) zero e = omega arith
    inside (a ∷ es) (suc n) e = let h : n < length es = inside es n e in omega (arith, h)

passed_type : (g : Column → Bool) (v u : Environment) → ((c : Column) (t : Ty) → v.type c ≡ Some t → u.type c ≡ Some t) → (j : ℕ) (args rest : List TypedExpression) →
    AreNumbers u j (length (all_free_products g args)) → (c : Column) (t : Ty) → (standing_environment v (passed args)).type c ≡ Some t →
    (standing_environment u (passed (all_freed g j args ++ rest))).type c ≡ Some t
passed_type g v u f j args rest h (columns.Global n) t e = f (columns.Global n) t e
passed_type g v u f j args rest h (columns.Old n) t e = f (columns.Old n) t e
passed_type g v u f j args rest h (columns.Local n) t e = argument_type g v u f j n args rest t h e

-- ---- the law, of a condition as it is told

told_mean : (frame : Columns) (s : State) (values : List ℤ) (args : List TypedExpression) (e : TypedExpression) (want : Bool) → IsWholeState frame s values →
    AllByRecursion (IsDividedValue (frame_environment frame)) args → IsDividedCondition (standing_environment (frame_environment frame) (passed args)) e →
    Marks values (told_letters frame (length s.locals) args e want) (value (passed_state s args) e ≡ truth want)
told_mean frame s values args e want h c d =
    let m : ℕ = length s.locals in
    let g : Column → Bool = fixed_in frame in
    let a : ℕ = all_product_count frame args in
    let ps : List TypedExpression = free_products g false e in
    let k : ℕ = passed_count frame args e in
    let w : Columns = widened frame m k in
    let v : Environment = frame_environment frame in
    let u : Environment = frame_environment w in
    let t : State = passed_state s args in
    let firsts : List ℤ = map (value s) (all_free_products g args) in
    let seconds : List ℤ = map (value t) ps in
    let products : List ℤ = firsts ++ seconds in
    let first_length : length firsts ≡ a = map_length (value s) (all_free_products g args) in
    let second_length : length seconds ≡ length ps = map_length (value t) ps in
    let whole : length products ≡ length firsts + length seconds = length_append firsts seconds in
    let many : length products ≡ k = omega (arith, first_length, second_length, whole) in
    let r : State = grown s products in
    let given : List TypedExpression = passed_arguments g m args e in
    let numbers : AreNumbers u m k = are_numbers frame m k h.locals in
    let same : (c : Column) (t : Ty) → v.type c ≡ Some t → u.type c ≡ Some t = same_type_in frame m k in
    let shown = shown_widened frame s values products k many h in
    let all : LocalsAre r.locals m products = locals_grown s.locals products m refl in
    let parts : LocalsAre r.locals m firsts × LocalsAre r.locals (m + a) seconds = locals_split r.locals m (m + a) firsts seconds (omega (arith, first_length)) all in
    let values_are : map (value r) given ≡ map (value s) args ++ seconds =
    map_append (value r) (all_freed g m args) (product_arguments (m + a) ps) ∙
    (λ i. all_values g v s r (same_column_value frame s products h.locals) m args c parts.0 i ++ product_values r (m + a) ps seconds second_length parts.1 i) in
    let state_is : passed_state r given ≡ grown t seconds = (λ i. record { globals = s.globals; old = s.old; locals = values_are i }) in
    let type_is : type_in (standing_environment u (passed given)) false (freed g (length args) false e) ≡ Some types.Bool =
    freed_type g (standing_environment v (passed args)) (standing_environment u (passed given))
    (passed_type g v u same m args (product_arguments (m + a) ps) (λ i q. numbers i (omega (arith, q)))) (length args) false e types.Bool d.typed
    (λ i q. product_type u (m + a) (length args) i ps (all_freed g m args) (length args + i) (all_freed_length g m args) refl q
    (numbers_part u m (m + a) k (length ps) (omega arith) (omega arith) numbers)) in
    let linear_is : is_linear (fixed_in w) false (freed g (length args) false e) ≡ true =
    ap (λ (f : Column → Bool). is_linear f false (freed g (length args) false e)) (same_fixed frame m k) ∙ freed_linear g (length args) false e d.divided in
    let params : length t.locals ≡ length args = map_length (value s) args in
    let value_is : value (passed_state r given) (freed g (length args) false e) ≡ value t e =
    ap (λ (z : State). value z (freed g (length args) false e)) state_is ∙
    freed_value g (standing_environment v (passed args)) t (grown t seconds) (passed_column v s args seconds) (length args) false e types.Bool d.typed
    (locals_grown t.locals seconds (length args) (sym params)) in
    let point : ℕ → ℤ = point_of (values ++ products) in
    let shows : Shows (length w) point (standing_environment u (passed given)) (passed_state r given) =
    passed_show (length w) point u r (frame_shows w r (values ++ products) shown) given (arguments_linear g (fixed_in w) (same_fixed frame m k) v m (m + a) args ps c) in
    let choice : IsChoice (length w) point (paths (standing_environment u (passed given)) false (freed g (length args) false e)) (value (passed_state r given) (freed g (length args) false e)) =
    paths_mean (length w) point (standing_environment u (passed given)) (passed_state r given) shows false (freed g (length args) false e) type_is linear_is in
    let cs : List Conjunction = listed_plan (freed_passed_plan frame m args e want) (length w) in
    let x : Decide (values ++ products) cs (value (passed_state r given) (freed g (length args) false e) ≡ truth want) =
    decided_at (length w) point (listed_plan (freed_passed_plan frame m args e want)) (value (passed_state r given) (freed g (length args) false e) ≡ truth want) (values ++ products) (length w)
    (state_length w (values ++ products) shown.state) (choice.path want) (omega arith) (agrees_refl (length w) point) in
    let y : Decide (values ++ products) cs (value t e ≡ truth want) =
    decide_as (values ++ products) cs (value (passed_state r given) (freed g (length args) false e) ≡ truth want) (value t e ≡ truth want) (λ p. sym value_is ∙ p) (λ p. value_is ∙ p) x in
    let z : Decide ((values ++ products) ++ []) cs (value t e ≡ truth want) =
    subst (λ (vs : List ℤ). Decide vs cs (value t e ≡ truth want)) (sym (append-nil (values ++ products))) y in
    subst (λ (vs : List ℤ). Marks vs (told_letters frame m args e want) (value t e ≡ truth want)) (append-nil values)
    (marks_of values products [] cs (value t e ≡ truth want) (length frame) k 0 (state_length frame values h.shown.state) many refl z)

pub called_conditions_mean : CalledConditionsMean
called_conditions_mean frame s values args e want h c d =
    let g : Column → Bool = fixed_in frame in
    let t : TypedExpression = told_condition g args e in
    subst (λ (z : ℤ). Marks values (told_letters frame (length s.locals) args t want) (z ≡ truth want)) (told_value g s args e)
    (told_mean frame s values args t want h c (told_is_condition g (frame_environment frame) args e d))
