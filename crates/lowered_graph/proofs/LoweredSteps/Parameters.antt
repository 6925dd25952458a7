-- The rows of a call: the parameters have the values of the arguments.
use Rattle.std.proofs.Common.{◌≡◌, ℕ, suc, ◌+◌, ◌<◌, ◌≤◌, Bool, true, false, ℤ, pos, ◌-ℤ◌, List, [], ◌∷◌, ◌++◌, map, length, Option, None, Some, inl, inr, refl, sym, ap, subst, ◌∙◌, arith}
use Rattle.std.specs.Option.{option_map}
use Rattle.std.specs.List.{AllByRecursion}
use Rattle.std.specs.Prelude.{option_and_then}
use Rattle.boogie_tree.specs.declared.tree.Ty.{Ty}
use Rattle.boogie_tree.specs.declared.tree.Ty.TheVariants as types
use Rattle.boogie_tree.specs.declared.tree.Column.{Column}
use Rattle.boogie_tree.specs.declared.tree.VarInfo.{VarInfo}
use Rattle.typed_tree.specs.TypedTree.{TypedExpression, Lit, Truth, Var, Old, Not, Neg, Bin, TypedProgram}
use Rattle.typed_tree.specs.Values.{State, value, truth, column_value, value_is_zero}
use Rattle.typed_tree.specs.Typing.{only}
use Rattle.typed_tree.specs.AffineForm.{is_linear}
use Rattle.typed_tree.specs.Laws.{IsTruth}
use Rattle.lin_rows.specs.Points.{point_of}
use Rattle.letter_acts.specs.Frames.{Columns}
use Rattle.letter_acts.proofs.PointLemmas.{point_of-left, point_of-right, state_length}
use Rattle.cond_jumps.specs.Conjunctions.{Conjunction, listed_plan}
use Rattle.cond_jumps.specs.Forms.{Linears, column, linear_number, linear_minus}
use Rattle.cond_jumps.specs.Comparisons.{compared, equal}
use Rattle.cond_jumps.specs.Environments.{Environment, type_in}
use Rattle.cond_jumps.specs.Frames.{fixed_in, column_place_in, linear_at, frame_environment, IsShown}
use Rattle.cond_jumps.specs.Meaning.{Agrees, IsPath}
use Rattle.cond_jumps.specs.Worth.{IsSum, IsChoice, Read}
use Rattle.cond_jumps.specs.Lists.{Decide}
use Rattle.cond_jumps.proofs.MeaningLemmas.{agrees_refl, agrees_trans, agrees_less, path_both}
use Rattle.cond_jumps.proofs.PathLemmas.{paths_mean}
use Rattle.cond_jumps.specs.Paths.{linear, paths}
use Rattle.std.proofs.lemmas.List.{length-append}
use Rattle.cond_jumps.proofs.FormLemmas.{number_sum, column_sum, minus_sum}
use Rattle.cond_jumps.proofs.ComparisonLemmas.{always_path, equal_path}
use Rattle.cond_jumps.proofs.FrameLemmas.{placed, frame_shows}
use Rattle.cond_jumps.proofs.LinearLemmas.{linear_form}
use Rattle.cond_jumps.proofs.ListLemmas as lists
use Rattle.cond_jumps.specs.FreeProducts.FreeProducts.{free_products, freed, all_free_products, all_freed}
use Rattle.cond_jumps.specs.FreeProducts.FrameLetters.{widened, all_product_count}
use Rattle.cond_jumps.specs.FreeProducts.FrameLaws.{LocalsBelow, IsDividedValue, Marks}
use Rattle.cond_jumps.proofs.FreeProducts.FreedLemmas.{freed_linear, freed_type, AreNumbers, map_length, length_append}
use Rattle.cond_jumps.proofs.FreeProducts.WidenedLemmas.{same_fixed, same_type_in, are_numbers, grown, same_column_value, locals_grown, shown_widened}
use Rattle.cond_jumps.proofs.FreeProducts.MeanLemmas.{marks_of, decide_as, numbers_part, all_values, all_freed_length}
use Rattle.lowered_graph.specs.LoweredSteps.ProgramFrames.{frame_at, width_at, shown}
use Rattle.lowered_graph.specs.LoweredSteps.Edges.{argument_sum, parameters_get, call_plan, call_letters, columns_before_locals, local_count}
use Rattle.lowered_graph.specs.LoweredSteps.Moves.{FrameKeeps, IsSimple, AreArguments}
use Rattle.lowered_graph.proofs.LoweredSteps.FrameColumns.{shown_state}
use Rattle.lowered_graph.proofs.LoweredSteps.FrameMarks.{frame_locals, local_count_is, whole_state}

-- ---- the sum of an argument

-- a column, whatever its type
var_sum : (frame : Columns) (s : State) (values : List ℤ) (c : Column) (o : Option (ℕ × VarInfo)) (ty : Ty) → IsShown frame s values → column_place_in frame c ≡ o → option_map (λ x. x.1.ty) o ≡ Some ty →
    IsSum (length frame) (point_of values) (linear_at o) (column_value s c)
var_sum frame s values c None ty h e t = absurd (cc)
var_sum frame s values c (Some x) ty h e t =
    let r = placed frame s values c x h e in
    subst (IsSum (length frame) (point_of values) (column x.0)) r.value_is (column_sum (length frame) (point_of values) x.0 r.inside)

no_whole_number : (o : Option Ty) → option_and_then (only types.Bool) o ≡ Some types.Int → ⊥
no_whole_number None e = cc
no_whole_number (Some types.Int) e = cc
no_whole_number (Some types.Bool) e = cc

-- one less a truth value is its opposite
one_less : (v : ℤ) → IsTruth v → (pos 1 -ℤ v) ≡ truth (value_is_zero v)
one_less v (inl e) = ap (λ (z : ℤ). pos 1 -ℤ z) e ∙ ap (λ (z : ℤ). truth (value_is_zero z)) (sym e)
one_less v (inr e) = ap (λ (z : ℤ). pos 1 -ℤ z) e ∙ ap (λ (z : ℤ). truth (value_is_zero z)) (sym e)

is_boolean : (o : Option Ty) (ty : Ty) → option_and_then (only types.Bool) o ≡ Some ty → (o ≡ Some types.Bool) × (ty ≡ types.Bool)
is_boolean None ty e = absurd (cc)
is_boolean (Some types.Int) ty e = absurd (cc)
is_boolean (Some types.Bool) ty e = (refl, cc)

-- an expression that is no simple one is a whole number
whole_sum : (frame : Columns) (s : State) (values : List ℤ) (e : TypedExpression) (ty : Ty) → IsShown frame s values → type_in (frame_environment frame) false e ≡ Some ty → is_linear (fixed_in frame) false e ≡ true →
    (ty ≡ types.Bool → ⊥) → IsSum (length frame) (point_of values) (linear (frame_environment frame) false e) (value s e)
whole_sum frame s values e types.Int h t l k = linear_form (length frame) (point_of values) (frame_environment frame) s (frame_shows frame s values h) false e t l
whole_sum frame s values e types.Bool h t l k = absurd (k refl)

pub sum_of_argument : (frame : Columns) (s : State) (values : List ℤ) (e : TypedExpression) (ty : Ty) → IsShown frame s values → type_in (frame_environment frame) false e ≡ Some ty → is_linear (fixed_in frame) false e ≡ true →
    (ty ≡ types.Bool → IsSimple e) → IsSum (length frame) (point_of values) (argument_sum (frame_environment frame) e) (value s e)
sum_of_argument frame s values (Lit at n) ty h t l k = number_sum (length frame) (point_of values) n
sum_of_argument frame s values (Truth at b) ty h t l k = number_sum (length frame) (point_of values) (truth b)
sum_of_argument frame s values (Var at c) ty h t l k = var_sum frame s values c (column_place_in frame c) ty h refl t
sum_of_argument frame s values (Old at e) ty h t l k = whole_sum frame s values (Old at e) ty h t l k
sum_of_argument frame s values (Not at (Lit at2 n)) ty h t l k = absurd (k (is_boolean (Some types.Int) ty t).1)
sum_of_argument frame s values (Not at (Truth at2 b)) ty h t l k = absurd (k (is_boolean (Some types.Bool) ty t).1)
sum_of_argument frame s values (Not at (Var at2 c)) ty h t l k =
    let env : Environment = frame_environment frame in
    let w : ℕ = length frame in
    let p : ℕ → ℤ = point_of values in
    let typed : type_in env false (Var at2 c) ≡ Some types.Bool = (is_boolean (type_in env false (Var at2 c)) ty t).0 in
    let choice : IsChoice w p (paths env false (Var at2 c)) (value s (Var at2 c)) = paths_mean w p env s (frame_shows frame s values h) false (Var at2 c) typed refl in
    let sum : IsSum w p (linear_minus (linear_number (pos 1)) (argument_sum env (Var at2 c))) (pos 1 -ℤ column_value s c) =
    minus_sum w p (linear_number (pos 1)) (argument_sum env (Var at2 c)) (pos 1) (column_value s c) (number_sum w p (pos 1)) (var_sum frame s values c (column_place_in frame c) types.Bool h refl typed) in
    subst (IsSum w p (linear_minus (linear_number (pos 1)) (argument_sum env (Var at2 c)))) (one_less (column_value s c) choice.truth_value) sum
sum_of_argument frame s values (Not at (Old at2 e)) ty h t l k = absurd (k (is_boolean (type_in (frame_environment frame) false (Old at2 e)) ty t).1)
sum_of_argument frame s values (Not at (Not at2 e)) ty h t l k = absurd (k (is_boolean (type_in (frame_environment frame) false (Not at2 e)) ty t).1)
sum_of_argument frame s values (Not at (Neg at2 e)) ty h t l k = absurd (k (is_boolean (type_in (frame_environment frame) false (Neg at2 e)) ty t).1)
sum_of_argument frame s values (Not at (Bin at2 op a b)) ty h t l k = absurd (k (is_boolean (type_in (frame_environment frame) false (Bin at2 op a b)) ty t).1)
sum_of_argument frame s values (Neg at e) ty h t l k = whole_sum frame s values (Neg at e) ty h t l k
sum_of_argument frame s values (Bin at op a b) ty h t l k = whole_sum frame s values (Bin at op a b) ty h t l k

-- ---- all parameters

-- an argument as the rows of cond_jumps take it: its operators keep their rules
record IsLinearArgument (frame : Columns) (v : VarInfo) (e : TypedExpression) : Type 0 where
  typed : type_in (frame_environment frame) false e ≡ Some v.ty
  linear : is_linear (fixed_in frame) false e ≡ true
  simple : v.ty ≡ types.Bool → IsSimple e

abbrev AreLinearArguments : Columns → List VarInfo → List TypedExpression → Type 0
AreLinearArguments frame [] [] = Unit {0}
AreLinearArguments frame [] (e ∷ es) = ⊥
AreLinearArguments frame (v ∷ vs) [] = ⊥
AreLinearArguments frame (v ∷ vs) (e ∷ es) = IsLinearArgument frame v e × AreLinearArguments frame vs es

freed_simple : (g : Column → Bool) (n : ℕ) (old : Bool) (e : TypedExpression) → IsSimple e → IsSimple (freed g n old e)
freed_simple g n old (Lit at k) h = tt
freed_simple g n old (Truth at b) h = tt
freed_simple g n old (Var at c) h = tt
freed_simple g n old (Old at e) h = absurd h
freed_simple g n old (Not at (Lit at2 k)) h = absurd h
freed_simple g n old (Not at (Truth at2 b)) h = absurd h
freed_simple g n old (Not at (Var at2 c)) h = tt
freed_simple g n old (Not at (Old at2 e)) h = absurd h
freed_simple g n old (Not at (Not at2 e)) h = absurd h
freed_simple g n old (Not at (Neg at2 e)) h = absurd h
freed_simple g n old (Not at (Bin at2 op a b)) h = absurd h
freed_simple g n old (Neg at e) h = absurd h
freed_simple g n old (Bin at op a b) h = absurd h

-- arguments with locals in the places of their products, over a frame that has these locals, too
freed_arguments : (frame wide : Columns) → fixed_in wide ≡ fixed_in frame → ((c : Column) (t : Ty) → (frame_environment frame).type c ≡ Some t → (frame_environment wide).type c ≡ Some t) →
    (n : ℕ) (vs : List VarInfo) (es : List TypedExpression) → AreArguments frame vs es → AreNumbers (frame_environment wide) n (length (all_free_products (fixed_in frame) es)) →
    AreLinearArguments wide vs (all_freed (fixed_in frame) n es)
freed_arguments frame wide f s n [] [] a k = tt
freed_arguments frame wide f s n [] (e ∷ es) a k = absurd a
freed_arguments frame wide f s n (v ∷ vs) [] a k = absurd a
freed_arguments frame wide f s n (v ∷ vs) (e ∷ es) a k =
    let g : Column → Bool = fixed_in frame in
    let u : Environment = frame_environment wide in
    let own : ℕ = length (free_products g false e) in
    let l : length (all_free_products g (e ∷ es)) ≡ own + length (all_free_products g es) = length_append (free_products g false e) (all_free_products g es) in (
      record {
        typed = freed_type g (frame_environment frame) u s n false e v.ty a.0.typed (λ i q. k i (omega (arith, l, q)));
        linear = ap (λ (z : Column → Bool). is_linear z false (freed g n false e)) f ∙ freed_linear g n false e a.0.divided;
        simple = λ b. freed_simple g n false e (a.0.simple b);
      },
      freed_arguments frame wide f s (n + own) vs es a.1 (numbers_part u n (n + own) (length (all_free_products g (e ∷ es))) (length (all_free_products g es)) (omega (arith, l)) (omega arith) k),
    )

pub arguments_divided : (frame : Columns) (vs : List VarInfo) (es : List TypedExpression) → AreArguments frame vs es → AllByRecursion (IsDividedValue (frame_environment frame)) es
arguments_divided frame [] [] a = tt
arguments_divided frame [] (e ∷ es) a = absurd a
arguments_divided frame (v ∷ vs) [] a = absurd a
arguments_divided frame (v ∷ vs) (e ∷ es) a = (record { type = v.ty; typed = a.0.typed; divided = a.0.divided }, arguments_divided frame vs es a.1)

sum_later : (w m : ℕ) (p q : ℕ → ℤ) (a : Linears) (v : ℤ) → w ≤ m → Agrees w p q → IsSum w p a v → IsSum m q a v
sum_later w m p q a v l s h = record {
  narrow = λ n k. h.narrow n (omega arith);
  worth = λ n r k t. h.worth n r (omega arith) (agrees_trans w p q r s (agrees_less w m q r l t));
}

parameters_path : (frame : Columns) (s : State) (values : List ℤ) (m : ℕ) (p : ℕ → ℤ) → IsShown frame s values → length frame ≤ m → Agrees (length frame) (point_of values) p →
    (vs : List VarInfo) (es : List TypedExpression) → AreLinearArguments frame vs es → (j : ℕ) → j + length es ≤ m →
    IsPath m p (listed_plan (parameters_get (frame_environment frame) j es)) (Read p j (map (value s) es))
parameters_path frame s values m p h l g [] [] a j k = always_path m p
parameters_path frame s values m p h l g [] (e ∷ es) a j k = absurd a
parameters_path frame s values m p h l g (v ∷ vs) [] a j k = absurd a
parameters_path frame s values m p h l g (v ∷ vs) (e ∷ es) a j k =
    let env : Environment = frame_environment frame in
    let arg : Linears = argument_sum env e in
    let sum : IsSum m p arg (value s e) = sum_later (length frame) m (point_of values) p arg (value s e) l g (sum_of_argument frame s values e v.ty h a.0.typed a.0.linear a.0.simple) in
    let inside : j < m = omega arith in
    let first : IsPath m p (compared equal (column j) arg) (p j ≡ value s e) = equal_path m p (column j) arg (p j) (value s e) (column_sum m p j inside) sum in
    path_both m p (compared equal (column j) arg) (listed_plan (parameters_get env (suc j) es)) (p j ≡ value s e) (Read p (suc j) (map (value s) es)) first
    (parameters_path frame s values m p h l g vs es a.1 (suc j) (omega arith))

-- ---- the rows of a call between the caller's state and a state of the callee

longer_agrees : (xs ys : List ℤ) (n : ℕ) → length xs ≡ n → Agrees n (point_of xs) (point_of (xs ++ ys))
longer_agrees xs ys n e = record { same = λ c l. point_of-left xs ys c (omega arith) }

-- columns of one point that stand elsewhere in another
read_moved : (p q : ℕ → ℤ) (j k : ℕ) (zs : List ℤ) → ((i : ℕ) → i < length zs → p (j + i) ≡ q (k + i)) → Read p j zs → Read q k zs
read_moved p q j k [] h r = tt
read_moved p q j k (z ∷ zs) h r =
    let a : j + 0 ≡ j = omega arith in
    let b : k ≡ k + 0 = omega arith in
    let own : p (j + 0) ≡ q (k + 0) = h 0 (omega arith) in (
      ap q b ∙ sym own ∙ ap p a ∙ r.0,
      read_moved p q (suc j) (suc k) zs (λ i l.
          let c : suc j + i ≡ j + suc i = omega arith in
          let d : suc k + i ≡ k + suc i = omega arith in
          ap p c ∙ h (suc i) (omega arith) ∙ ap q (sym d)) r.1,
    )

-- what stands behind is the same whatever stands in the middle
behind_is : (xs ps ys : List ℤ) (n m i : ℕ) → n ≡ length xs + i → m ≡ length (xs ++ ps) + i → point_of ((xs ++ ps) ++ ys) m ≡ point_of (xs ++ ys) n
behind_is xs ps ys n m i e f = point_of-right (xs ++ ps) ys m i f ∙ sym (point_of-right xs ys n i e)

pub call_marks : (t : TypedProgram) (n f : ℕ) (s u : State) (vs : List VarInfo) (args : List TypedExpression) → FrameKeeps t n s → FrameKeeps t f u → AreArguments (frame_at t n) vs args →
    columns_before_locals t + length args ≤ width_at t f →
    Marks (shown t s ++ shown t u) (call_letters t n f args) (Read (point_of (shown t s ++ shown t u)) (width_at t n + columns_before_locals t) (map (value s) args))
call_marks t n f s u vs args k i a room =
    let frame : Columns = frame_at t n in
    let g : Column → Bool = fixed_in frame in
    let m : ℕ = local_count t n in
    let c : ℕ = all_product_count frame args in
    let own : length (shown t s) ≡ width_at t n = state_length frame (shown t s) (shown_state t n s k) in
    let other : length (shown t u) ≡ width_at t f = state_length (frame_at t f) (shown t u) (shown_state t f u i) in
    let products : List ℤ = map (value s) (all_free_products g args) in
    let many : length products ≡ c = map_length (value s) (all_free_products g args) in
    let front : List ℤ = shown t s ++ products in
    let long : length front ≡ length (shown t s) + length products = length-append (shown t s) products in
    let whole : List ℤ = front ++ shown t u in
    let longer : length whole ≡ length front + length (shown t u) = length-append front (shown t u) in
    let wide : Columns = widened frame m c in
    let r : State = grown s products in
    let counted : length s.locals ≡ m = local_count_is t n s k in
    let shows : IsShown wide r front = subst (λ (d : ℕ). IsShown (widened frame d c) r front) counted (shown_widened frame s (shown t s) products c many (whole_state t n s k)) in
    let width : length front ≡ length wide = state_length wide front shows.state in
    let w : ℕ = width_at t n + c + width_at t f in
    let j : ℕ = width_at t n + c + columns_before_locals t in
    let below : LocalsBelow (length s.locals) frame = (whole_state t n s k).locals in
    let numbers : AreNumbers (frame_environment wide) m c = are_numbers frame m c (frame_locals t n) in
    let fs : List TypedExpression = all_freed g m args in
    let lengths : length fs ≡ length args = all_freed_length g m args in
    let linear : AreLinearArguments wide vs fs = freed_arguments frame wide (same_fixed frame m c) (same_type_in frame m c) m vs args a numbers in
    let values_are : map (value r) fs ≡ map (value s) args =
    all_values g (frame_environment frame) s r (same_column_value frame s products below) m args (arguments_divided frame vs args a) (locals_grown s.locals products m (sym counted)) in
    let cs : List Conjunction = listed_plan (call_plan t n args) w in
    let path : IsPath w (point_of whole) (listed_plan (parameters_get (frame_environment wide) j fs)) (Read (point_of whole) j (map (value r) fs)) =
    parameters_path wide r front w (point_of whole) shows (omega arith) (longer_agrees front (shown t u) (length wide) width) vs fs linear j (omega arith) in
    let decided : Decide whole cs (Read (point_of whole) j (map (value r) fs)) =
    lists.decided_at w (point_of whole) (listed_plan (parameters_get (frame_environment wide) j fs)) (Read (point_of whole) j (map (value r) fs)) whole w (omega arith) path (omega arith)
    (agrees_refl w (point_of whole)) in
    let seen : Decide whole cs (Read (point_of whole) j (map (value s) args)) = subst (λ (zs : List ℤ). Decide whole cs (Read (point_of whole) j zs)) values_are decided in
    let moved : (d : ℕ) → point_of whole (j + d) ≡ point_of (shown t s ++ shown t u) (width_at t n + columns_before_locals t + d) =
    (λ d. behind_is (shown t s) products (shown t u) (width_at t n + columns_before_locals t + d) (j + d) (columns_before_locals t + d) (omega arith) (omega arith)) in
    let marked : Decide whole cs (Read (point_of (shown t s ++ shown t u)) (width_at t n + columns_before_locals t) (map (value s) args)) =
    decide_as whole cs (Read (point_of whole) j (map (value s) args)) (Read (point_of (shown t s ++ shown t u)) (width_at t n + columns_before_locals t) (map (value s) args))
    (λ h. read_moved (point_of whole) (point_of (shown t s ++ shown t u)) j (width_at t n + columns_before_locals t) (map (value s) args) (λ d l. moved d) h)
    (λ h. read_moved (point_of (shown t s ++ shown t u)) (point_of whole) (width_at t n + columns_before_locals t) j (map (value s) args) (λ d l. sym (moved d)) h) seen in
    marks_of (shown t s) products (shown t u) cs (Read (point_of (shown t s ++ shown t u)) (width_at t n + columns_before_locals t) (map (value s) args)) (width_at t n) c (width_at t f) own many other marked
