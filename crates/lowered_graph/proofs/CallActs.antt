-- The acts of calls and returns are as a graph keeps them.
use Rattle.std.proofs.Common.{◌≡◌, ◌∙◌, ◌⊎◌, ℕ, zero, suc, ◌+◌, ◌-◌, ◌<◌, ◌≤◌, ◌^◌, pos, Bool, true, false, not, List, [], ◌∷◌, ◌++◌, length, Option, Some, inl, inr, refl, sym, ap, subst, arith}
use Rattle.std.specs.Prelude.{slice_get, take, drop, IsSomeAnd}
use Rattle.std.specs.List.{AllByRecursion}
use Rattle.std.specs.Option.{option_map}
use Rattle.std.proofs.lemmas.Option.{slice_get_within}
use Rattle.boogie_tree.specs.declared.tree.Column.{Column}
use Rattle.boogie_tree.specs.declared.tree.Column.TheVariants as columns
use Rattle.boogie_tree.specs.declared.tree.VarInfo.{VarInfo}
use Rattle.typed_tree.specs.TypedTree.{TypedExpression, Lit, Truth, Var, Old, Not, Neg, Bin, TypedProcedure, TypedProgram}
use Rattle.letter_acts.specs.Frames.{Columns, added, globals_from, old_columns, locals_from, is_parameter, is_result, places, result_columns}
use Rattle.letter_acts.specs.Invariant.{AreDistinct, MayName, Take, type_at, written_by, BackIsActed}
use Rattle.cond_jumps.specs.Conjunctions.{Just, listed_plan}
use Rattle.cond_jumps.specs.Forms.{linear_number, column}
use Rattle.cond_jumps.specs.Comparisons.{equal, compared}
use Rattle.cond_jumps.specs.Environments.{Environment}
use Rattle.cond_jumps.specs.Frames.{frame_environment, fixed_in}
use Rattle.cond_jumps.specs.FreeProducts.FreeProducts.{all_freed}
use Rattle.cond_jumps.specs.FreeProducts.Letters.{MarkedConjunction}
use Rattle.cond_jumps.specs.FreeProducts.FrameLetters.{widened, all_product_count}
use Rattle.cond_jumps.proofs.FreeProducts.MeanLemmas.{all_freed_length}
use Rattle.boogie_run.specs.Needs.{locals_at, locals_if_any}
use Rattle.typed_tree.specs.TypingRules.Rules.{results_of as results_of_procedure}
use Rattle.lowered_graph.specs.LoweredSteps.ProgramFrames.{frame_at, width_at, column_number}
use Rattle.lowered_graph.specs.LoweredSteps.Edges.{argument_sum, parameters_get, call_plan, call_letters, columns_before_locals, numbers_in, local_count}
use Rattle.lowered_graph.specs.LoweredSteps.Moves.{AreArguments, AreTargets, HasParameters}
use Rattle.lowered_graph.specs.LoweredSteps.Stacks.{IsAmong}
use Rattle.lowered_graph.proofs.NamedColumns.{RowsName, AreNamed, IsNamed, SumNames, ListNames, EachNames, column_names, equal_names, minus_names, PlanNames, with_names, always_names, linear_names}
use Rattle.lowered_graph.proofs.FrameTargets.{local_place, AreStanding, target_stands, targets_stand, stands_type, standing_targets, standing_distinct}
use Rattle.lowered_graph.proofs.EdgeActs.{wide_length, frame_names, each_wider}
use Rattle.lowered_graph.proofs.LetterNames.{LettersName, letters_name}
use Rattle.lowered_graph.proofs.LoweredSteps.Enters.{width_is}
use Rattle.lowered_graph.proofs.LoweredSteps.Goodness.{take_at_most}
use Rattle.lowered_graph.proofs.Lists.{get_behind}
use Rattle.letter_acts.proofs.ListLemmas.{all_weaker}
use Rattle.lowered_graph.proofs.StartLetter.{globals_count}

-- ---- arguments

argument_names : (A : ℕ → Type 0) (v : Environment) → EachNames A v → (e : TypedExpression) (n : ℕ) → SumNames A n (argument_sum v e n)
argument_names A v s (Lit at k) n = linear_names A v s false (Lit at k) n
argument_names A v s (Truth at b) n = record { terms = tt; rows = tt }
argument_names A v s (Var at c) n = linear_names A v s false (Var at c) n
argument_names A v s (Old at e) n = linear_names A v s false (Old at e) n
argument_names A v s (Not at e) n = minus_names A (linear_number (pos 1)) (argument_sum v e) n (record { terms = tt; rows = tt }) (argument_names A v s e (n + 0))
argument_names A v s (Neg at e) n = linear_names A v s false (Neg at e) n
argument_names A v s (Bin at op a b) n = linear_names A v s false (Bin at op a b) n

-- the rows of parameters from column j on
parameters_names : (A : ℕ → Type 0) (v : Environment) → EachNames A v → (j : ℕ) (es : List TypedExpression) → ((c : ℕ) → j ≤ c → c < j + length es → A c) → PlanNames A (parameters_get v j es)
parameters_names A v s j [] h = always_names A
parameters_names A v s j (e ∷ es) h =
    with_names A (Just (compared equal (column j) (argument_sum v e))) (parameters_get v (suc j) es)
    (λ n. equal_names A (column j) (argument_sum v e) n (column_names A j n (h j (omega arith) (omega arith))) (argument_names A v s e (n + 0)))
    (parameters_names A v s (suc j) es (λ c l u. h c (omega arith) (omega arith)))

-- ---- parameters in the callee's frame

-- local l of a frame
local_at : (t : TypedProgram) (f l : ℕ) (v : VarInfo) → slice_get (locals_at t f) l ≡ Some v → slice_get (frame_at t f) (columns_before_locals t + l) ≡ Some (columns.Local l, v)
local_at t f l v e =
    let globals : Columns = globals_from 0 t.globals in
    let olds : Columns = old_columns 0 t.globals in
    let locals : Columns = locals_from 0 (locals_at t f) in
    let z : 0 + l ≡ l = omega arith in
    let count : length globals ≡ length t.globals = globals_count 0 t.globals in
    let there : slice_get locals l ≡ Some (columns.Local l, v) = local_place 0 (locals_at t f) l v e ∙ ap (λ (m : ℕ). Some (columns.Local m, v)) z in
    let at : length globals + (length olds + l) ≡ columns_before_locals t + l = omega arith in
    subst (λ (m : ℕ). slice_get (frame_at t f) m ≡ Some (columns.Local l, v)) at (get_behind globals (olds ++ locals) (length olds + l) (columns.Local l, v) (get_behind olds locals l (columns.Local l, v) there))

-- a member of the first ones
taken_member : (k : ℕ) (vs : List VarInfo) (i : ℕ) → AllByRecursion (λ v. v.constant ≡ true) (take k vs) → i < length (take k vs) → (v : VarInfo) × (slice_get vs i ≡ Some v) × (v.constant ≡ true)
taken_member zero vs i h l = absurd (omega arith)
taken_member (suc k) [] i h l = absurd (omega arith)
taken_member (suc k) (v ∷ vs) zero h l = (v, refl, h.0)
taken_member (suc k) (v ∷ vs) (suc i) h l = taken_member k vs i h.1 (omega arith)

arguments_count : (frame : Columns) (vs : List VarInfo) (es : List TypedExpression) → AreArguments frame vs es → length es ≡ length vs
arguments_count frame [] [] h = refl
arguments_count frame [] (e ∷ es) h = absurd h
arguments_count frame (v ∷ vs) [] h = absurd h
arguments_count frame (v ∷ vs) (e ∷ es) h = ap suc (arguments_count frame vs es h.1)

-- ---- calls

-- the caller's columns, and the callee's parameters
abbrev CallColumns : TypedProgram → ℕ → ℕ → ℕ → Type 0
CallColumns t n count c = (c < width_at t n) ⊎ ((width_at t n + columns_before_locals t ≤ c) × (c < width_at t n + columns_before_locals t + count))

-- what typing says of a call
pub record CallIsKnown (t : TypedProgram) (n f : ℕ) (args : List TypedExpression) (cs : List Column) : Type 0 where
  pub procedure : TypedProcedure
  pub is : slice_get t.procs f ≡ Some procedure
  pub enough : procedure.params + procedure.results ≤ length procedure.locals
  pub shape : HasParameters procedure
  pub arguments : AreArguments (frame_at t n) (take procedure.params procedure.locals) args
  pub targets : AreTargets t n (results_of_procedure procedure) cs
  pub targets_differ : AreDistinct cs

-- the same with the products behind the caller's columns
abbrev WideColumns : TypedProgram → ℕ → ℕ → ℕ → ℕ → Type 0
WideColumns t n free count c = (c < width_at t n + free) ⊎ ((width_at t n + free + columns_before_locals t ≤ c) × (c < width_at t n + free + columns_before_locals t + count))

wide_named : (t : TypedProgram) (n f : ℕ) (args : List TypedExpression) → let free : ℕ = all_product_count (frame_at t n) args in
    ListNames (WideColumns t n free (length args)) (width_at t n + free + width_at t f) (listed_plan (call_plan t n args) (width_at t n + free + width_at t f))
wide_named t n f args =
    let free : ℕ = all_product_count (frame_at t n) args in
    let wide : Columns = widened (frame_at t n) (local_count t n) free in
    let width : length wide ≡ width_at t n + free = wide_length (frame_at t n) (local_count t n) free in
    let fs : List TypedExpression = all_freed (fixed_in (frame_at t n)) (local_count t n) args in
    let many : length fs ≡ length args = all_freed_length (fixed_in (frame_at t n)) (local_count t n) args in
    let A : ℕ → Type 0 = WideColumns t n free (length args) in
    parameters_names A (frame_environment wide) (each_wider (λ c. c < length wide) A (frame_environment wide) (λ c l. inl (let k : c < length wide = l in omega arith)) (frame_names wide))
    (width_at t n + free + columns_before_locals t) fs (λ c l u. inr (l, (let k : c < width_at t n + free + columns_before_locals t + length fs = u in omega arith))) (width_at t n + free + width_at t f)

call_named : (t : TypedProgram) (n f : ℕ) (args : List TypedExpression) → columns_before_locals t + length args ≤ width_at t f →
    LettersName (CallColumns t n (length args)) (width_at t n + width_at t f) (call_letters t n f args)
call_named t n f args room =
    let free : ℕ = all_product_count (frame_at t n) args in
    letters_name (width_at t n) free (width_at t f) (WideColumns t n free (length args)) (CallColumns t n (length args)) (λ d h. bounded free d h) (λ d l h. inl l) (λ d l h. further free d l h)
    (listed_plan (call_plan t n args) (width_at t n + free + width_at t f)) (wide_named t n f args)
  where
    bounded : (free d : ℕ) → WideColumns t n free (length args) d → d < width_at t n + free + width_at t f
    bounded free d (inl l) = (let a : d < width_at t n + free = l in omega arith)
    bounded free d (inr h) = (let a : d < width_at t n + free + columns_before_locals t + length args = h.1 in omega arith)

    further : (free d : ℕ) → d < width_at t f → WideColumns t n free (length args) (width_at t n + free + d) → CallColumns t n (length args) (width_at t n + d)
    further free d l (inl h) = absurd (let a : width_at t n + free + d < width_at t n + free = h in omega arith)
    further free d l (inr h) =
        let a : width_at t n + free + columns_before_locals t ≤ width_at t n + free + d = h.0 in
        let b : width_at t n + free + d < width_at t n + free + columns_before_locals t + length args = h.1 in
        inr (omega arith, omega arith)

named_may : (t : TypedProgram) (n f k : ℕ) (args : List TypedExpression) (cs : List Column) → CallIsKnown t n f args cs → (c : ℕ) → IsNamed (CallColumns t n (length args)) (width_at t n + width_at t f) k c →
    MayName (frame_at t n) (frame_at t f) k c
named_may t n f k args cs w c (inl (inl l)) = record {
  within = (let b : c < width_at t n = l in omega arith);
  parameter = λ a b. absurd (let d : c < width_at t n = l in omega arith);
}
named_may t n f k args cs w c (inl (inr h)) =
    let lower : width_at t n + columns_before_locals t ≤ c = h.0 in
    let upper : c < width_at t n + columns_before_locals t + length args = h.1 in
    let i : ℕ = c - (width_at t n + columns_before_locals t) in
    let count : length args ≡ length (take w.procedure.params w.procedure.locals) = arguments_count (frame_at t n) (take w.procedure.params w.procedure.locals) args w.arguments in
    let member = taken_member w.procedure.params w.procedure.locals i w.shape.constant (let b : i < length (take w.procedure.params w.procedure.locals) = omega arith in b) in
    let locals : locals_at t f ≡ w.procedure.locals = ap locals_if_any w.is in
    let local : slice_get (locals_at t f) i ≡ Some member.0 = ap (λ (vs : List VarInfo). slice_get vs i) locals ∙ member.1 in
    let stands : slice_get (frame_at t f) (columns_before_locals t + i) ≡ Some (columns.Local i, member.0) = local_at t f i member.0 local in
    let inside : columns_before_locals t + i < width_at t f = slice_get_within (frame_at t f) (columns_before_locals t + i) (columns.Local i, member.0) stands in
    let at : columns_before_locals t + i ≡ c - width_at t n = omega arith in
    let found : slice_get (frame_at t f) (c - width_at t n) ≡ Some (columns.Local i, member.0) = subst (λ (m : ℕ). slice_get (frame_at t f) m ≡ Some (columns.Local i, member.0)) at stands in
    record {
      within = omega arith;
      parameter = λ a b. subst (λ (o : Option (Column × VarInfo)). IsSomeAnd o (λ v. is_parameter v ≡ true)) (sym found) member.2;
    }
named_may t n f k args cs w c (inr h) =
    let lower : width_at t n + width_at t f ≤ c = h.0 in
    let upper : c < width_at t n + width_at t f + k = h.1 in
    record { within = omega arith; parameter = λ a b. absurd (omega arith) }

among_all : {X : Type 0} (P : X → Type 0) (xs : List X) (x : X) → AllByRecursion P xs → IsAmong xs x → P x
among_all P [] x h m = absurd m
among_all P (y ∷ xs) x h (inl e) = subst P e h.0
among_all P (y ∷ xs) x h (inr m) = among_all P xs x h.1 m

-- what is passed stands among the callee's locals
passed_room : (t : TypedProgram) (n f : ℕ) (args : List TypedExpression) (cs : List Column) → CallIsKnown t n f args cs → columns_before_locals t + length args ≤ width_at t f
passed_room t n f args cs w =
    let count : length args ≡ length (take w.procedure.params w.procedure.locals) = arguments_count (frame_at t n) (take w.procedure.params w.procedure.locals) args w.arguments in
    let few : length (take w.procedure.params w.procedure.locals) ≤ w.procedure.params = take_at_most w.procedure.params w.procedure.locals in
    let enough : w.procedure.params + w.procedure.results ≤ length w.procedure.locals = w.enough in
    let own : length (locals_at t f) ≡ length w.procedure.locals = ap (λ (o : Option TypedProcedure). length (locals_if_any o)) w.is in
    let wide : width_at t f ≡ columns_before_locals t + length (locals_at t f) = width_is t f in
    omega arith

-- the rows of a call name the caller's columns, the callee's parameters and the helpers
pub call_may_name : (t : TypedProgram) (n f : ℕ) (args : List TypedExpression) (cs : List Column) → CallIsKnown t n f args cs → (c : MarkedConjunction) → IsAmong (call_letters t n f args) c →
    AllByRecursion (λ r. AllByRecursion (λ x. MayName (frame_at t n) (frame_at t f) c.plain.helpers x.0) r.terms) c.plain.rows
call_may_name t n f args cs w c m =
    let A : ℕ → Type 0 = IsNamed (CallColumns t n (length args)) (width_at t n + width_at t f) c.plain.helpers in
    let named : RowsName A c.plain.rows = among_all (λ d. RowsName (IsNamed (CallColumns t n (length args)) (width_at t n + width_at t f) d.plain.helpers) d.plain.rows) (call_letters t n f args) c
    (call_named t n f args (passed_room t n f args cs w)) m in
    all_weaker (λ r. AreNamed A r.terms) (λ r. AllByRecursion (λ x. MayName (frame_at t n) (frame_at t f) c.plain.helpers x.0) r.terms)
    (λ r h. all_weaker (λ x. A x.0) (λ x. MayName (frame_at t n) (frame_at t f) c.plain.helpers x.0) (λ x k. named_may t n f c.plain.helpers args cs w x.0 k) r.terms h) c.plain.rows named

-- ---- results

abbrev count_up : ℕ → ℕ → List ℕ
count_up n zero = []
count_up n (suc k) = n ∷ count_up (suc n) k

places_append : (test : Column × VarInfo → Bool) (n : ℕ) (xs ys : Columns) → places test n (xs ++ ys) ≡ places test n xs ++ places test (n + length xs) ys
places_append test n [] ys = let z : n ≡ n + 0 = omega arith in ap (λ (m : ℕ). places test m ys) z
places_append test n (x ∷ xs) ys =
    let next : suc n + length xs ≡ n + suc (length xs) = omega arith in
    ap (added (test x) n) (places_append test (suc n) xs ys ∙ ap (λ (m : ℕ). places test (suc n) xs ++ places test m ys) next) ∙ in_front (test x) n (places test (suc n) xs) (places test (n + suc (length xs)) ys)
  where
    in_front : (b : Bool) (m : ℕ) (us ws : List ℕ) → added b m (us ++ ws) ≡ added b m us ++ ws
    in_front true m us ws = refl
    in_front false m us ws = refl

no_globals : (n k : ℕ) (vs : List VarInfo) → places is_result n (globals_from k vs) ≡ []
no_globals n k [] = refl
no_globals n k (v ∷ vs) = no_globals (suc n) (suc k) vs

no_olds : (n k : ℕ) (vs : List VarInfo) → places is_result n (old_columns k vs) ≡ []
no_olds n k [] = refl
no_olds n k (v ∷ vs) = by_test (not v.constant) (no_olds n (suc k) vs) (no_olds (suc n) (suc k) vs)
  where
    by_test : (b : Bool) → places is_result n (old_columns (suc k) vs) ≡ [] → places is_result (suc n) (old_columns (suc k) vs) ≡ [] → places is_result n (added b (columns.Old k, v) (old_columns (suc k) vs)) ≡ []
    by_test true h g = g
    by_test false h g = h

-- parameters are no results
parameters_skipped : (n k params : ℕ) (vs : List VarInfo) → AllByRecursion (λ v. v.constant ≡ true) (take params vs) → params ≤ length vs →
    places is_result n (locals_from k vs) ≡ places is_result (n + params) (locals_from (k + params) (drop params vs))
parameters_skipped n k zero vs h l =
    let a : n ≡ n + 0 = omega arith in
    let b : k ≡ k + 0 = omega arith in
    λ i. places is_result (a i) (locals_from (b i) vs)
parameters_skipped n k (suc params) [] h l = absurd (omega arith)
parameters_skipped n k (suc params) (v ∷ vs) h l =
    let a : suc n + params ≡ n + suc params = omega arith in
    let b : suc k + params ≡ k + suc params = omega arith in
    ap (λ (c : Bool). added (not c) n (places is_result (suc n) (locals_from (suc k) vs))) h.0 ∙ parameters_skipped (suc n) (suc k) params vs h.1 (omega arith)
    ∙ (λ i. places is_result (a i) (locals_from (b i) (drop params vs)))

-- the rest are
rest_counted : (n k : ℕ) (vs : List VarInfo) → AllByRecursion (λ v. v.constant ≡ false) vs → places is_result n (locals_from k vs) ≡ count_up n (length vs)
rest_counted n k [] h = refl
rest_counted n k (v ∷ vs) h = ap (λ (c : Bool). added (not c) n (places is_result (suc n) (locals_from (suc k) vs))) h.0 ∙ ap (λ (l : List ℕ). n ∷ l) (rest_counted (suc n) (suc k) vs h.1)

results_are : (t : TypedProgram) (f : ℕ) (q : TypedProcedure) → slice_get t.procs f ≡ Some q → q.params ≤ length q.locals → HasParameters q →
    result_columns (frame_at t f) ≡ count_up (columns_before_locals t + q.params) (length (drop q.params q.locals))
results_are t f q e l h =
    let globals : Columns = globals_from 0 t.globals in
    let olds : Columns = old_columns 0 t.globals in
    let locals : locals_at t f ≡ q.locals = ap locals_if_any e in
    let m : ℕ = 0 + length globals in
    let k : ℕ = m + length olds in
    let count : length globals ≡ length t.globals = globals_count 0 t.globals in
    let at : k + q.params ≡ columns_before_locals t + q.params = omega arith in
    places_append is_result 0 globals (olds ++ locals_from 0 (locals_at t f))
    ∙ ap (λ (xs : List ℕ). xs ++ places is_result m (olds ++ locals_from 0 (locals_at t f))) (no_globals 0 0 t.globals)
    ∙ places_append is_result m olds (locals_from 0 (locals_at t f))
    ∙ ap (λ (xs : List ℕ). xs ++ places is_result k (locals_from 0 (locals_at t f))) (no_olds m 0 t.globals)
    ∙ ap (λ (vs : List VarInfo). places is_result k (locals_from 0 vs)) locals
    ∙ parameters_skipped k 0 q.params q.locals h.constant l
    ∙ rest_counted (k + q.params) (0 + q.params) (drop q.params q.locals) h.vary
    ∙ ap (λ (i : ℕ). count_up i (length (drop q.params q.locals))) at

-- a member behind others
get_dropped : (k : ℕ) (vs : List VarInfo) (i : ℕ) (v : VarInfo) → slice_get (drop k vs) i ≡ Some v → slice_get vs (k + i) ≡ Some v
get_dropped zero vs i v e = let z : i ≡ 0 + i = omega arith in subst (λ (m : ℕ). slice_get vs m ≡ Some v) z e
get_dropped (suc k) [] i v e = absurd (cc)
get_dropped (suc k) (w ∷ vs) i v e = let z : suc (k + i) ≡ suc k + i = omega arith in subst (λ (m : ℕ). slice_get (w ∷ vs) m ≡ Some v) z (get_dropped k vs i v e)

type_of_local : (t : TypedProgram) (f l : ℕ) (v : VarInfo) → slice_get (locals_at t f) l ≡ Some v → type_at (frame_at t f) (columns_before_locals t + l) ≡ Some v.ty
type_of_local t f l v e = ap (option_map (λ x. x.1.ty)) (local_at t f l v e)

-- each target takes the result in its place
takes_from : (t : TypedProgram) (n f j : ℕ) (count : ℕ) (vs rest : List VarInfo) (cs : List Column) → ((i : ℕ) (v : VarInfo) → slice_get rest i ≡ Some v → slice_get (locals_at t f) (j + i) ≡ Some v) →
    vs ≡ take count rest → AreTargets t n vs cs → Take (frame_at t n) (frame_at t f) (numbers_in (frame_at t n) cs) (count_up (columns_before_locals t + j) (length rest))
takes_from t n f j count vs rest [] h e g = tt
takes_from t n f j count [] rest (c ∷ cs) h e g = absurd g
takes_from t n f j zero (v ∷ vs) rest (c ∷ cs) h e g = absurd (cc)
takes_from t n f j (suc count) (v ∷ vs) [] (c ∷ cs) h e g = absurd (cc)
takes_from t n f j (suc count) (v ∷ vs) (w ∷ rest) (c ∷ cs) h e g =
    let same : v ≡ w = cc in
    let more : vs ≡ take count rest = cc in
    let here : j + 0 ≡ j = omega arith in
    let local : slice_get (locals_at t f) j ≡ Some w = subst (λ (m : ℕ). slice_get (locals_at t f) m ≡ Some w) here (h 0 w refl) in
    let target : type_at (frame_at t n) (column_number (frame_at t n) c) ≡ Some v.ty = stands_type t n v.ty c (target_stands t n v.ty c g.0) in
    let result : type_at (frame_at t f) (columns_before_locals t + j) ≡ Some w.ty = type_of_local t f j w local in
    let next : columns_before_locals t + suc j ≡ suc (columns_before_locals t + j) = omega arith in
    let later : (i : ℕ) (x : VarInfo) → slice_get rest i ≡ Some x → slice_get (locals_at t f) (suc j + i) ≡ Some x =
    λ i x k. subst (λ (m : ℕ). slice_get (locals_at t f) m ≡ Some x) (let z : j + suc i ≡ suc j + i = omega arith in z) (h (suc i) x k) in (
      target ∙ ap (λ (x : VarInfo). Some x.ty) same ∙ sym result,
      subst (λ (m : ℕ). Take (frame_at t n) (frame_at t f) (numbers_in (frame_at t n) cs) (count_up m (length rest))) next (takes_from t n f (suc j) count vs rest cs later more g.1),
    )

takes_results : (t : TypedProgram) (n f : ℕ) (args : List TypedExpression) (cs : List Column) → CallIsKnown t n f args cs → Take (frame_at t n) (frame_at t f) (numbers_in (frame_at t n) cs) (result_columns (frame_at t f))
takes_results t n f args cs w =
    let q : TypedProcedure = w.procedure in
    let enough : q.params + q.results ≤ length q.locals = w.enough in
    let locals : locals_at t f ≡ q.locals = ap locals_if_any w.is in
    let from : (i : ℕ) (v : VarInfo) → slice_get (drop q.params q.locals) i ≡ Some v → slice_get (locals_at t f) (q.params + i) ≡ Some v =
    λ i v e. ap (λ (vs : List VarInfo). slice_get vs (q.params + i)) locals ∙ get_dropped q.params q.locals i v e in
    subst (Take (frame_at t n) (frame_at t f) (numbers_in (frame_at t n) cs)) (sym (results_are t f q w.is (omega arith) w.shape))
    (takes_from t n f q.params q.results (results_of_procedure q) (drop q.params q.locals) cs from refl w.targets)

-- the act of a return, where the numbers of its columns fit
pub back_acted : (t : TypedProgram) (n f : ℕ) (args : List TypedExpression) (cs : List Column) (helpers : ℕ) → CallIsKnown t n f args cs →
    length (frame_at t f) + length (frame_at t n) + length (written_by (frame_at t n) (numbers_in (frame_at t n) cs)) + helpers ≤ 2 ^ 32 →
    BackIsActed (frame_at t n) (frame_at t f) helpers (numbers_in (frame_at t n) cs)
back_acted t n f args cs helpers w fit =
    let standing : AreStanding t n cs = targets_stand t n (results_of_procedure w.procedure) cs w.targets in
    record {
      may_target = standing_targets t n cs standing;
      distinct = standing_distinct t n cs standing w.targets_differ;
      take = takes_results t n f args cs w;
      numbers_fit = fit;
    }
