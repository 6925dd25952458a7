-- The columns of a whole call without body: the frame before it, what is written, and the helpers. What stands for the columns in its ensures has the
-- values behind the call.
use Rattle.std.proofs.Common.{◌≡◌, inl, inr, ℕ, zero, suc, ◌+◌, ◌<◌, ◌≤◌, Bool, true, false, ℤ, List, [], ◌∷◌, ◌++◌, map, length, take, drop, Option, None, Some, slice_get, refl, sym, ap, subst, ◌∙◌, arith, append_assoc}
use Rattle.std.specs.List.{AllByRecursion}
use Rattle.std.proofs.lemmas.List.{length-append, length-map}
use Rattle.std.proofs.lemmas.Bool.{false≢true}
use Rattle.std.proofs.lemmas.Option.{slice_get_within}
use Rattle.boogie_tree.specs.declared.tree.Ty.{Ty}
use Rattle.boogie_tree.specs.declared.tree.Column.{Column}
use Rattle.boogie_tree.specs.declared.tree.Column.TheVariants as columns
use Rattle.boogie_tree.specs.declared.tree.VarInfo.{VarInfo}
use Rattle.typed_tree.specs.TypedTree.{TypedExpression, TypedInvariant, TypedProcedure, TypedProgram}
use Rattle.typed_tree.specs.Values.{State, column_value, member, value}
use Rattle.typed_tree.specs.AffineForm.{is_linear}
use Rattle.nwa_base.specs.Members.{Member}
use Rattle.lin_rows.specs.Points.{point_of}
use Rattle.letter_acts.specs.Frames.{Columns, IsValue, IsState, globals_from, old_columns, locals_from}
use Rattle.letter_acts.specs.Values.{picked, put_all}
use Rattle.letter_acts.proofs.PointLemmas.{point_of-left, point_of-right, state_length, length-put_all, put_all_other, picked_put}
use Rattle.cond_jumps.specs.Environments.{Environment}
use Rattle.cond_jumps.specs.Frames.{place_from, is_constant_place, fixed_in, frame_environment, IsShown}
use Rattle.cond_jumps.specs.Meaning.{Agrees}
use Rattle.cond_jumps.specs.Passing.{standing_type, passed_locals, imported_state}
use Rattle.cond_jumps.specs.Worth.{IsSound, Shows}
use Rattle.cond_jumps.proofs.FrameLemmas.{frame_shows}
use Rattle.cond_jumps.proofs.ListLemmas.{shows_agrees}
use Rattle.cond_jumps.proofs.PassingLemmas.{AreResults, import_show}
use Rattle.cond_jumps.specs.FreeProducts.FreeProducts.{all_free_products, all_freed}
use Rattle.cond_jumps.specs.FreeProducts.FrameLetters.{widened, all_product_count, told_condition}
use Rattle.cond_jumps.specs.FreeProducts.FrameLaws.{IsDividedCondition}
use Rattle.cond_jumps.proofs.FreeProducts.FreedLemmas.{AreNumbers, locals_split, map_length}
use Rattle.cond_jumps.proofs.FreeProducts.WidenedLemmas.{same_fixed, same_type_in, are_numbers, grown, member-left, locals_grown, same_column_value, shown_widened}
use Rattle.cond_jumps.proofs.FreeProducts.MeanLemmas.{all_sound, all_values, all_freed_length}
use Rattle.boogie_run.specs.BoogiePoints.Actions.{ensured_conditions}
use Rattle.boogie_run.specs.BoogiePoints.Starts.{targets_at}
use Rattle.boogie_run.specs.Configurations.{Config, state_of}
use Rattle.boogie_run.specs.Needs.{locals_at}
use Rattle.boogie_run.specs.Steps.{put, all_put, modifies_of, granted_state}
use Rattle.lowered_graph.specs.LoweredSteps.ProgramFrames.{frame_at, variable_values, shown, column_number, column_number_if_any}
use Rattle.lowered_graph.specs.LoweredSteps.Edges.{found_from, those_in, import_written, left_at, found_or_0, results_at, whole_columns, told_ensures, import_products, numbers_in, local_count, import_environment}
use Rattle.lowered_graph.specs.LoweredSteps.Moves.{HasTypes, FrameKeeps, IsTarget, AreTargets}
use Rattle.typed_tree.specs.TypingRules.Rules.{results_of}
use Rattle.lowered_graph.proofs.LoweredSteps.FrameColumns.{types_length, shown_state}
use Rattle.lowered_graph.proofs.LoweredSteps.FrameMarks.{frame_locals, local_count_is, whole_state}
use Rattle.lowered_graph.proofs.LoweredSteps.Parameters.{arguments_divided}
use Rattle.lowered_graph.proofs.LoweredSteps.Places.{before_locals, global_place, local_place, put_is_set, IsThere}
use Rattle.lowered_graph.specs.LoweredImports.Imports.{IsModified, ensures_environment, IsEnsured, IsKnownImport, AreGlobalValues, keeping}
use Rattle.lowered_graph.proofs.LoweredImports.ValidParts.{all_get}
use Rattle.lowered_graph.proofs.LoweredImports.Followed.{IsTypedIn, Follows}
use Rattle.lowered_graph.proofs.LoweredImports.ToldEnsures.{told_import_value, told_import_condition, left_kept, results_kept, locals_kept, whole_type, all_typed_in, conditions_are_values}
use Rattle.lowered_graph.proofs.LoweredImports.ImportLists.{found_shift, target_written, both_member, both_members, slice_left, number_of_global, targets_there, numbers_distinct}
use Rattle.lowered_graph.proofs.LoweredImports.ImportShown.{FoundIs, found_is, IsNear, near_of, import_follows, left_by, left_of, left_near_of}
use Rattle.lowered_graph.proofs.LoweredImports.ImportStates.{changed, changed_keeps, changed_shown, global_values_length, put_kept, drop_kept}

-- ---- lists

all_of_member : {X : Type 0} (P : X → Type 0) (xs : List X) (x : X) → AllByRecursion P xs → Member xs x → P x
all_of_member P [] x h m = absurd m
all_of_member P (y ∷ ys) x h (inl e) = subst P e h.0
all_of_member P (y ∷ ys) x h (inr m) = all_of_member P ys x h.1 m

pub member_point : (zs : List ℤ) (n : ℕ) → member zs n ≡ point_of zs n
member_point [] n = refl
member_point (z ∷ zs) zero = refl
member_point (z ∷ zs) (suc n) = member_point zs n

pub all_put_is : (zs : List ℤ) (ns : List ℕ) (vs : List ℤ) → all_put zs ns vs ≡ put_all zs ns vs
all_put_is zs [] vs = refl
all_put_is zs (n ∷ ns) [] = refl
all_put_is zs (n ∷ ns) (v ∷ vs) = all_put_is (put zs n v) ns vs ∙ ap (λ (xs : List ℤ). put_all xs ns vs) (sym (put_is_set zs n v))

types_at : (vs : List VarInfo) (zs : List ℤ) (g : ℕ) (v : VarInfo) → HasTypes vs zs → slice_get vs g ≡ Some v → IsValue v.ty (member zs g)
types_at [] zs g v h e = absurd (cc)
types_at (w ∷ ws) [] g v h e = absurd h
types_at (w ∷ ws) (z ∷ zs) zero v h e = let same : w ≡ v = cc in subst (λ (x : VarInfo). IsValue x.ty z) same h.0
types_at (w ∷ ws) (z ∷ zs) (suc g) v h e = types_at ws zs g v h.1 e

pub state_at : (cs : Columns) (zs : List ℤ) (k : ℕ) (d : Column × VarInfo) → IsState cs zs → slice_get cs k ≡ Some d → IsValue d.1.ty (point_of zs k)
state_at [] zs k d h e = absurd (cc)
state_at (c ∷ cs) [] k d h e = absurd h
state_at (c ∷ cs) (z ∷ zs) zero d h e = let same : c ≡ d = cc in subst (λ (x : Column × VarInfo). IsValue x.1.ty z) same h.0
state_at (c ∷ cs) (z ∷ zs) (suc k) d h e = state_at cs zs k d h.1 e

pub member_of_slice : (ns : List ℕ) (k g : ℕ) → slice_get ns k ≡ Some g → Member ns g
member_of_slice [] k g e = absurd (cc)
member_of_slice (n ∷ ns) zero g e = inl (let i : n ≡ g = cc in i)
member_of_slice (n ∷ ns) (suc k) g e = inr (member_of_slice ns k g e)

-- ---- columns of a frame

globals_stand : (k : ℕ) (vs : List VarInfo) (rest : Columns) (g : ℕ) (v : VarInfo) → slice_get vs g ≡ Some v → (c : Column) × (slice_get (globals_from k vs ++ rest) g ≡ Some (c, v))
globals_stand k [] rest g v e = absurd (cc)
globals_stand k (w ∷ ws) rest zero v e = let same : w ≡ v = cc in (columns.Global k, ap (λ (x : VarInfo). Some (columns.Global k, x)) same)
globals_stand k (w ∷ ws) rest (suc g) v e = globals_stand (suc k) ws rest g v e

locals_stand : (k : ℕ) (vs : List VarInfo) (l : ℕ) (v : VarInfo) → slice_get vs l ≡ Some v → (c : Column) × (slice_get (locals_from k vs) l ≡ Some (c, v))
locals_stand k [] l v e = absurd (cc)
locals_stand k (w ∷ ws) zero v e = let same : w ≡ v = cc in (columns.Local k, ap (λ (x : VarInfo). Some (columns.Local k, x)) same)
locals_stand k (w ∷ ws) (suc l) v e = locals_stand (suc k) ws l v e

slice_behind : {X : Type 0} (xs ys : List X) (i : ℕ) → slice_get (xs ++ ys) (length xs + i) ≡ slice_get ys i
slice_behind [] ys i = let e : 0 + i ≡ i = omega arith in rw e refl
slice_behind (x ∷ xs) ys i = let e : suc (length xs) + i ≡ suc (length xs + i) = omega arith in rw e (slice_behind xs ys i)

globals_length : (k : ℕ) (vs : List VarInfo) → length (globals_from k vs) ≡ length vs
globals_length k [] = refl
globals_length k (v ∷ vs) = ap suc (globals_length (suc k) vs)

-- a column that may be written stands in the frame under its number
pub target_stands : (t : TypedProgram) (n : ℕ) (ty : Ty) (c : Column) → IsTarget t n ty c →
    (d : Column × VarInfo) × (slice_get (frame_at t n) (column_number (frame_at t n) c) ≡ Some d) × (d.1.ty ≡ ty)
target_stands t n ty (columns.Global g) h =
    let r = globals_stand 0 t.globals (old_columns 0 t.globals ++ locals_from 0 (locals_at t n)) g h.info h.is in
    ((r.0, h.info), ap (slice_get (frame_at t n)) (number_of_global t n g h.info h.is) ∙ r.1, h.type)
target_stands t n ty (columns.Old g) h = absurd h
target_stands t n ty (columns.Local l) h =
    let globals : Columns = globals_from 0 t.globals in
    let olds : Columns = old_columns 0 t.globals in
    let locals : Columns = locals_from 0 (locals_at t n) in
    let r = locals_stand 0 (locals_at t n) l h.info h.is in
    let counted : length globals ≡ length t.globals = globals_length 0 t.globals in
    let at : before_locals t + l ≡ length globals + (length olds + l) = omega arith in
    let number : column_number (frame_at t n) (columns.Local l) ≡ before_locals t + l = ap column_number_if_any (local_place t n l h.info h.is) in
    ((r.0, h.info), ap (slice_get (frame_at t n)) (number ∙ at) ∙ slice_behind globals (olds ++ locals) (length olds + l) ∙ slice_behind olds locals l ∙ r.1, h.type)

targets_inside : (t : TypedProgram) (n : ℕ) (vs : List VarInfo) (cs : List Column) (m : ℕ) → length (frame_at t n) ≡ m → AreTargets t n vs cs → AllByRecursion (λ c. c < m) (numbers_in (frame_at t n) cs)
targets_inside t n [] [] m e h = tt
targets_inside t n [] (c ∷ cs) m e h = absurd h
targets_inside t n (v ∷ vs) [] m e h = absurd h
targets_inside t n (v ∷ vs) (c ∷ cs) m e h =
    let r = target_stands t n v.ty c h.0 in
    let inside : column_number (frame_at t n) c < length (frame_at t n) = slice_get_within (frame_at t n) (column_number (frame_at t n) c) r.0 r.1 in
    (omega arith, targets_inside t n vs cs m e h.1)

-- values at the places of targets are of their types
pub targets_typed : (t : TypedProgram) (n : ℕ) (vs : List VarInfo) (cs : List Column) (zs : List ℤ) → IsState (frame_at t n) zs → AreTargets t n vs cs → HasTypes vs (picked zs (numbers_in (frame_at t n) cs))
targets_typed t n [] [] zs s h = tt
targets_typed t n [] (c ∷ cs) zs s h = absurd h
targets_typed t n (v ∷ vs) [] zs s h = absurd h
targets_typed t n (v ∷ vs) (c ∷ cs) zs s h =
    let r = target_stands t n v.ty c h.0 in
    (subst (λ (ty : Ty). IsValue ty (point_of zs (column_number (frame_at t n) c))) r.2 (state_at (frame_at t n) zs (column_number (frame_at t n) c) r.0 s r.1), targets_typed t n vs cs zs s h.1)

-- so is that of a global
pub global_typed : (t : TypedProgram) (n g : ℕ) (v : VarInfo) (zs : List ℤ) → IsState (frame_at t n) zs → slice_get t.globals g ≡ Some v → IsValue v.ty (point_of zs g)
global_typed t n g v zs s e =
    let r = globals_stand 0 t.globals (old_columns 0 t.globals ++ locals_from 0 (locals_at t n)) g v e in
    state_at (frame_at t n) zs g (r.0, v) s r.1

targets_count : (t : TypedProgram) (n : ℕ) (vs : List VarInfo) (cs : List Column) → AreTargets t n vs cs → length cs ≡ length vs
targets_count t n [] [] a = refl
targets_count t n [] (c ∷ cs) a = absurd a
targets_count t n (v ∷ vs) [] a = absurd a
targets_count t n (v ∷ vs) (c ∷ cs) a = ap suc (targets_count t n vs cs a.1)

modified_inside : (t : TypedProgram) (ns : List ℕ) (m : ℕ) → length t.globals ≤ m → AllByRecursion (IsModified t) ns → AllByRecursion (λ c. c < m) ns
modified_inside t [] m l h = tt
modified_inside t (n ∷ ns) m l h =
    let inside : n < length t.globals = slice_get_within t.globals n h.0.info h.0.is in
    (omega arith, modified_inside t ns m l h.1)

-- results in the columns that are written for their targets
results_stand : (m base : ℕ) (p : ℕ → ℤ) (after : List ℤ) (ws ts : List ℕ) (vs : List VarInfo) (zs : List ℤ) → base + length ws ≤ m →
    ((j g : ℕ) → slice_get ws j ≡ Some g → p (base + j) ≡ point_of after g) → ((c : ℕ) → Member ts c → Member ws c) → HasTypes vs zs → zs ≡ picked after ts → AreResults m p (results_at base ws ts vs) zs
results_stand m base p after ws [] vs zs l w among h e = tt
results_stand m base p after ws (c ∷ cs) [] zs l w among h e = tt
results_stand m base p after ws (c ∷ cs) (v ∷ vs) [] l w among h e = absurd h
results_stand m base p after ws (c ∷ cs) (v ∷ vs) (z ∷ zs) l w among h e =
    let parts : z ≡ point_of after c = cc in
    let rest : zs ≡ picked after cs = cc in
    by_place (found_from 0 ws c) (found_is 0 ws c) parts (results_stand m base p after ws cs vs zs l w (λ d i. among d (inr i)) h.1 rest)
  where
    by_place : (o : Option ℕ) → FoundIs 0 ws c o → z ≡ point_of after c → AreResults m p (results_at base ws cs vs) zs →
        (base + found_or_0 o < m) × (p (base + found_or_0 o) ≡ z) × IsValue v.ty z × AreResults m p (results_at base ws cs vs) zs
    by_place None f parts rest = absurd (f (among c (inl refl)))
    by_place (Some j) (i, d, s) parts rest =
        let same : i ≡ j = omega (arith, d) in
        let inside : i < length ws = slice_get_within ws i c s in
        (omega arith, ap (λ (x : ℕ). p (base + x)) (sym same) ∙ w i c s ∙ sym parts, h.0, rest)

results_append : (m : ℕ) (p : ℕ → ℤ) (rs qs : List (ℕ × Ty)) (zs ys : List ℤ) → AreResults m p rs zs → length rs ≡ length zs → AreResults m p qs ys → AreResults m p (rs ++ qs) (zs ++ ys)
results_append m p [] qs [] ys h e k = k
results_append m p [] qs (z ∷ zs) ys h e k = absurd (omega (arith, e))
results_append m p (r ∷ rs) qs [] ys h e k = absurd h
results_append m p (r ∷ rs) qs (z ∷ zs) ys h e k = (h.0, h.1, h.2, results_append m p rs qs zs ys h.3 (omega (arith, e)) k)

-- whole numbers in columns one after the other
whole_results : (m : ℕ) (p : ℕ → ℤ) (n k : ℕ) (zs : List ℤ) → length zs ≡ k → n + k ≤ m → ((i : ℕ) → i < length zs → p (n + i) ≡ point_of zs i) → AreResults m p (whole_columns n k) zs
whole_results m p n zero [] e l h = tt
whole_results m p n zero (z ∷ zs) e l h = absurd (omega (arith, e))
whole_results m p n (suc k) [] e l h = absurd (omega (arith, e))
whole_results m p n (suc k) (z ∷ zs) e l h =
    let a : n ≡ n + 0 = omega arith in (
      omega arith,
      ap p a ∙ h 0 (omega arith),
      tt,
      whole_results m p (suc n) k zs (omega (arith, e)) (omega arith) (λ i j. let b : suc n + i ≡ n + suc i = omega arith in ap p b ∙ h (suc i) (omega arith)),
    )

sound_linear : (v : Environment) (es : List TypedExpression) → AllByRecursion (IsSound v) es → AllByRecursion (λ e. is_linear v.fixed false e ≡ true) es
sound_linear v [] h = tt
sound_linear v (e ∷ es) h = (h.0.linear, sound_linear v es h.1)

-- what stands for a local is one of the arguments or of the results
standing_inside : (v : Environment) (args : List TypedExpression) (rs : List (ℕ × Ty)) (n : ℕ) (ty : Ty) → standing_type v (slice_get (passed_locals args rs) n) ≡ Some ty → n < length args + length rs
standing_inside v (a ∷ es) rs zero ty e = omega arith
standing_inside v (a ∷ es) rs (suc n) ty e = let h = standing_inside v es rs n ty e in omega (arith, h)
standing_inside v [] (r ∷ rs) zero ty e = omega arith
standing_inside v [] (r ∷ rs) (suc n) ty e = let h = standing_inside v [] rs n ty e in omega (arith, h)
standing_inside v [] [] n ty e = absurd (cc)

module _ (t : TypedProgram) (c : Config) (f : ℕ) (args : List TypedExpression) (k : IsKnownImport t c.top.proc c.top.point f args) (keeps : FrameKeeps t c.top.proc (state_of c)) where
  -- the frame of the caller
  abbrev pub call_frame : Columns
  call_frame = frame_at t c.top.proc

  abbrev pub modified : List ℕ
  modified = k.procedure.modifies

  abbrev pub targets : List ℕ
  targets = numbers_in (frame_at t c.top.proc) (targets_at c.top.point.todo)

  abbrev pub written : List ℕ
  written = import_written modified targets

  -- the modified globals that are targets, too
  abbrev pub both : List ℕ
  both = those_in targets modified

  -- the values before the call
  abbrev pub before : List ℤ
  before = shown t (state_of c)

  -- the columns of constants
  abbrev pub constant : Column → Bool
  constant = fixed_in call_frame

  -- the first local of a product
  abbrev pub past_locals : ℕ
  past_locals = local_count t c.top.proc

  -- the ensures, and as their products are told
  abbrev pub ensured : List TypedExpression
  ensured = map (λ i. i.cond) (ensured_conditions k.procedure.specs)

  abbrev pub told : List TypedExpression
  told = told_ensures call_frame k.procedure args

  -- how many products the arguments have, and all
  abbrev pub first_free : ℕ
  first_free = all_product_count call_frame args

  abbrev pub second_free : ℕ
  second_free = all_product_count call_frame told

  abbrev pub free : ℕ
  free = import_products call_frame k.procedure args

  -- the frame with the products
  abbrev pub wide : Columns
  wide = widened call_frame past_locals free

  -- the number of the first written column, behind the frame and the products
  abbrev pub base : ℕ
  base = length call_frame + free

  -- the number of the first helper, and of the first one of the ensures
  abbrev pub helpers_from : ℕ
  helpers_from = base + length written

  abbrev pub whole : ℕ
  whole = helpers_from + length both

  -- the first local of a product of the ensures
  abbrev pub past_results : ℕ
  past_results = length args + length (results_of k.procedure)

  abbrev pub freed_arguments : List TypedExpression
  freed_arguments = all_freed constant past_locals args

  abbrev pub freed_ensures : List TypedExpression
  freed_ensures = all_freed constant past_results told

  -- what stands for the columns as typing reads the ensures, and with the products
  abbrev pub typing_environment : Environment
  typing_environment = ensures_environment call_frame t.globals k.procedure args targets

  abbrev pub environment : Environment
  environment = import_environment call_frame past_locals t.globals k.procedure args targets

  pub before_length : length before ≡ length call_frame
  before_length = state_length call_frame before (shown_state t c.top.proc (state_of c) keeps)

  globals_inside : length t.globals ≤ length before
  globals_inside =
      let a : length before ≡ length c.globals + length (variable_values t.globals c.top.entry ++ c.top.locals) = length-append c.globals (variable_values t.globals c.top.entry ++ c.top.locals) in
      let b : length c.globals ≡ length t.globals = types_length t.globals c.globals keeps.globals in
      omega arith

  pub inside_modified : AllByRecursion (λ x. x < length before) modified
  inside_modified = modified_inside t modified (length before) globals_inside k.modified

  pub inside_targets : AllByRecursion (λ x. x < length before) targets
  inside_targets = targets_inside t c.top.proc (results_of k.procedure) (targets_at c.top.point.todo) (length before) (sym before_length) k.targets

  pub global_inside : (g : ℕ) (v : VarInfo) → slice_get t.globals g ≡ Some v → g < length c.globals
  global_inside g v e =
      let a : g < length t.globals = slice_get_within t.globals g v e in
      let b : length c.globals ≡ length t.globals = types_length t.globals c.globals keeps.globals in
      omega arith

  pub modified_at : (j g : ℕ) → slice_get modified j ≡ Some g → IsModified t g
  modified_at j g e = all_get (IsModified t) modified j g k.modified e

  both_at : (i g : ℕ) → slice_get both i ≡ Some g → Member modified g
  both_at i g e = (both_members targets modified g (member_of_slice both i g e)).1

  -- ---- types

  pub told_conditions : AllByRecursion (IsDividedCondition typing_environment) told
  told_conditions = of_all (ensured_conditions k.procedure.specs) k.ensured
    where
      of_all : (is : List TypedInvariant) → AllByRecursion (λ i. IsEnsured (frame_at t c.top.proc) t.globals k.procedure args (numbers_in (frame_at t c.top.proc) (targets_at c.top.point.todo)) i.cond) is →
          AllByRecursion (IsDividedCondition (ensures_environment (frame_at t c.top.proc) t.globals k.procedure args (numbers_in (frame_at t c.top.proc) (targets_at c.top.point.todo))))
          (map (λ i. told_condition (fixed_in (frame_at t c.top.proc)) args i.cond) is)
      of_all [] h = tt
      of_all (i ∷ is) h = (
        told_import_condition (fixed_in (frame_at t c.top.proc)) (frame_environment (frame_at t c.top.proc))
            (left_at t.globals (length (frame_at t c.top.proc)) k.procedure.modifies (numbers_in (frame_at t c.top.proc) (targets_at c.top.point.todo))) args
            (results_at (length (frame_at t c.top.proc)) (import_written k.procedure.modifies (numbers_in (frame_at t c.top.proc) (targets_at c.top.point.todo)))
            (numbers_in (frame_at t c.top.proc) (targets_at c.top.point.todo)) (results_of k.procedure)) i.cond h.0,
        of_all is h.1,
      )

  results_length : (from : ℕ) → length (results_at from written targets (results_of k.procedure)) ≡ length (results_of k.procedure)
  results_length from = as_many targets (results_of k.procedure) (length-map (targets_at c.top.point.todo) (column_number (frame_at t c.top.proc)) ∙ targets_count t c.top.proc (results_of k.procedure) (targets_at c.top.point.todo) k.targets)
    where
      as_many : (ts : List ℕ) (vs : List VarInfo) → length ts ≡ length vs → length (results_at from (import_written k.procedure.modifies (numbers_in (frame_at t c.top.proc) (targets_at c.top.point.todo))) ts vs) ≡ length vs
      as_many [] [] e = refl
      as_many [] (v ∷ vs) e = absurd (omega (arith, e))
      as_many (x ∷ xs) [] e = refl
      as_many (x ∷ xs) (v ∷ vs) e = ap suc (as_many xs vs (omega (arith, e)))

  numbers : AreNumbers (frame_environment wide) past_locals free
  numbers = are_numbers call_frame past_locals free (frame_locals t c.top.proc)

  first_numbers : AreNumbers (frame_environment wide) past_locals first_free
  first_numbers i l = numbers i (omega arith)

  keeps_types : (d : Column) (ty : Ty) → (frame_environment call_frame).type d ≡ Some ty → (frame_environment wide).type d ≡ Some ty
  keeps_types = same_type_in call_frame past_locals free

  environment_types : (d : Column) (ty : Ty) → typing_environment.type d ≡ Some ty → environment.type d ≡ Some ty
  environment_types (columns.Global g) ty e =
      left_kept (frame_environment call_frame) (frame_environment wide) t.globals (length call_frame) base g (found_from 0 modified g) (found_from (length call_frame + length written) both g)
      (found_from (base + length written) both g) (found_shift (length call_frame + length written) (base + length written) both g) (found_shift (base + length written) (length call_frame + length written) both g)
      (keeps_types (columns.Global g)) ty e
  environment_types (columns.Old g) ty e = keeps_types (columns.Global g) ty e
  environment_types (columns.Local l) ty e =
      locals_kept constant (frame_environment call_frame) (frame_environment wide) keeps_types past_locals args (results_at (length call_frame) written targets (results_of k.procedure))
      (results_at base written targets (results_of k.procedure) ++ whole_columns (length call_frame + first_free) second_free)
      (λ n r h. results_kept (frame_environment call_frame) (frame_environment wide) (length call_frame) base written targets (results_of k.procedure) (whole_columns (length call_frame + first_free) second_free) n r h)
      first_numbers l ty e

  environment_numbers : AreNumbers environment past_results second_free
  environment_numbers i l =
      let a : length freed_arguments ≡ length args = all_freed_length constant past_locals args in
      let b : length (results_at base written targets (results_of k.procedure)) ≡ length (results_of k.procedure) = results_length base in
      whole_type (frame_environment wide) freed_arguments (results_at base written targets (results_of k.procedure)) (length call_frame + first_free) second_free (past_results + i) i (omega arith) l

  pub ensured_typed : AllByRecursion (IsTypedIn environment) freed_ensures
  ensured_typed = all_typed_in constant typing_environment environment (same_fixed call_frame past_locals free) environment_types past_results told told_conditions environment_numbers

  module _ (held results : List ℤ) (held_typed : AreGlobalValues t.globals k.procedure.modifies held) (results_typed : HasTypes (results_of k.procedure) results) where
    -- the values where the globals are written and the targets are not, and behind the call
    abbrev pub middle : List ℤ
    middle = put_all before modified held

    abbrev pub after : List ℤ
    after = put_all middle targets results

    abbrev pub globals_behind : List ℤ
    globals_behind = all_put c.globals modified held

    abbrev pub ensured_state : State
    ensured_state = imported_state (state_of c) globals_behind args results

    -- the values of the products
    abbrev pub firsts : List ℤ
    firsts = map (value (state_of c)) (all_free_products constant args)

    abbrev pub seconds : List ℤ
    seconds = map (value ensured_state) (all_free_products constant told)

    abbrev pub products : List ℤ
    products = firsts ++ seconds

    pub products_length : length products ≡ free
    products_length =
        let a : length products ≡ length firsts + length seconds = length-append firsts seconds in
        let b : length firsts ≡ first_free = map_length (value (state_of c)) (all_free_products constant args) in
        let d : length seconds ≡ second_free = map_length (value ensured_state) (all_free_products constant told) in
        omega arith

    -- the state with the products as further locals
    abbrev pub grown_state : State
    grown_state = grown (state_of c) products

    -- the state in which the ensures are read, with locals in the places of their products
    abbrev pub read_state : State
    read_state = imported_state grown_state globals_behind freed_arguments (results ++ seconds)

    locals_are : length c.top.locals ≡ past_locals
    locals_are = local_count_is t c.top.proc (state_of c) keeps

    arguments_are : map (value grown_state) freed_arguments ≡ map (value (state_of c)) args
    arguments_are =
        let b : length firsts ≡ first_free = map_length (value (state_of c)) (all_free_products constant args) in
        let parts = locals_split grown_state.locals past_locals (past_locals + first_free) firsts seconds (omega arith) (locals_grown c.top.locals products past_locals (sym locals_are)) in
        all_values constant (frame_environment call_frame) (state_of c) grown_state (same_column_value call_frame (state_of c) products (whole_state t c.top.proc (state_of c) keeps).locals) past_locals args
        (arguments_divided call_frame (take k.procedure.params k.procedure.locals) args k.arguments) parts.0

    read_is : read_state ≡ grown ensured_state seconds
    read_is =
        let e : map (value grown_state) freed_arguments ++ (results ++ seconds) ≡ (map (value (state_of c)) args ++ results) ++ seconds =
        ap (λ (zs : List ℤ). zs ++ (results ++ seconds)) arguments_are ∙ sym (append_assoc (map (value (state_of c)) args) results seconds) in
        λ i. record { globals = globals_behind; old = c.globals; locals = e i }

    -- what typing reads keeps its value
    read_column : (d : Column) (ty : Ty) → typing_environment.type d ≡ Some ty → column_value (grown ensured_state seconds) d ≡ column_value ensured_state d
    read_column (columns.Global g) ty e = refl
    read_column (columns.Old g) ty e = refl
    read_column (columns.Local l) ty e =
        let a : length (map (value (state_of c)) args ++ results) ≡ length (map (value (state_of c)) args) + length results = length-append (map (value (state_of c)) args) results in
        let b : length (map (value (state_of c)) args) ≡ length args = length-map args (value (state_of c)) in
        let d : length (results_at (length call_frame) written targets (results_of k.procedure)) ≡ length (results_of k.procedure) = results_length (length call_frame) in
        let f : length results ≡ length (results_of k.procedure) = types_length (results_of k.procedure) results results_typed in
        let i : l < length args + length (results_at (length call_frame) written targets (results_of k.procedure)) =
        standing_inside (frame_environment call_frame) args (results_at (length call_frame) written targets (results_of k.procedure)) l ty e in
        member-left (map (value (state_of c)) args ++ results) seconds l (omega arith)

    told_values : map (value (grown ensured_state seconds)) freed_ensures ≡ map (value ensured_state) told
    told_values =
        let a : length (map (value (state_of c)) args ++ results) ≡ length (map (value (state_of c)) args) + length results = length-append (map (value (state_of c)) args) results in
        let b : length (map (value (state_of c)) args) ≡ length args = length-map args (value (state_of c)) in
        let f : length results ≡ length (results_of k.procedure) = types_length (results_of k.procedure) results results_typed in
        all_values constant typing_environment ensured_state (grown ensured_state seconds) read_column past_results told (conditions_are_values typing_environment told told_conditions)
        (locals_grown (map (value (state_of c)) args ++ results) seconds past_results (omega arith))

    pub read_values : map (value read_state) freed_ensures ≡ map (value ensured_state) ensured
    read_values = ap (λ (s : State). map (value s) freed_ensures) read_is ∙ told_values ∙ of_all (ensured_conditions k.procedure.specs)
      where
        of_all : (is : List TypedInvariant) → map (value (imported_state (state_of c) (all_put c.globals k.procedure.modifies held) args results)) (map (λ i. told_condition (fixed_in (frame_at t c.top.proc)) args i.cond) is)
            ≡ map (value (imported_state (state_of c) (all_put c.globals k.procedure.modifies held) args results)) (map (λ i. i.cond) is)
        of_all [] = refl
        of_all (i ∷ is) =
            let x = told_import_value (fixed_in (frame_at t c.top.proc)) (state_of c) (all_put c.globals k.procedure.modifies held) args results i.cond in
            let y = of_all is in
            λ j. x j ∷ y j

    behind_keeps : FrameKeeps t c.top.proc (changed (state_of c) modified held)
    behind_keeps = changed_keeps t c.top.proc (state_of c) modified held keeps k.modified held_typed

    pub global_in_middle : (g : ℕ) (v : VarInfo) → slice_get t.globals g ≡ Some v → point_of middle g ≡ member globals_behind g
    global_in_middle g v e =
        let rest : List ℤ = variable_values t.globals c.top.entry ++ c.top.locals in
        let counted : length globals_behind ≡ length t.globals = types_length t.globals globals_behind behind_keeps.globals in
        let inside : g < length t.globals = slice_get_within t.globals g v e in
        ap (λ (zs : List ℤ). point_of zs g) (changed_shown t c.top.proc (state_of c) modified held keeps k.modified held_typed)
        ∙ point_of-left globals_behind rest g (omega arith)
        ∙ sym (member_point globals_behind g)

    pub outside : (g : ℕ) → (Member modified g → ⊥) → member c.globals g ≡ member globals_behind g
    outside g apart =
        member_point c.globals g ∙ sym (put_all_other c.globals modified held g apart) ∙ ap (λ (zs : List ℤ). point_of zs g) (sym (all_put_is c.globals modified held)) ∙ sym (member_point globals_behind g)

    -- a constant is not modified
    constants_left : (g : ℕ) → fixed_in call_frame (columns.Global g) ≡ true → member c.globals g ≡ member globals_behind g
    constants_left g e = outside g (λ m. varying (all_of_member (IsModified t) modified g k.modified m) e)
      where
        varying : IsModified t g → is_constant_place (place_from 0 call_frame (columns.Global g)) ≡ true → ⊥
        varying m h = false≢true (sym m.varies ∙ sym (ap is_constant_place (global_place t c.top.proc g m.info m.is)) ∙ h)

    pub global_after : (j g : ℕ) (v : VarInfo) → slice_get modified j ≡ Some g → (Member both g → ⊥) → slice_get t.globals g ≡ Some v → point_of after g ≡ member globals_behind g
    global_after j g v e apart h =
        put_all_other middle targets results g (λ m. apart (both_member targets modified g m (member_of_slice modified j g e))) ∙ global_in_middle g v h

    typed_behind : (g : ℕ) (v : VarInfo) → slice_get t.globals g ≡ Some v → IsValue v.ty (member globals_behind g)
    typed_behind g v e = types_at t.globals globals_behind g v behind_keeps.globals e

    pub results_count : length results ≡ length targets
    results_count =
        types_length (results_of k.procedure) results results_typed
        ∙ sym (targets_count t c.top.proc (results_of k.procedure) (targets_at c.top.point.todo) k.targets)
        ∙ sym (length-map (targets_at c.top.point.todo) (column_number (frame_at t c.top.proc)))

    pub results_read : results ≡ picked after targets
    results_read =
        let there : AllByRecursion (IsThere t c.top.proc) (targets_at c.top.point.todo) = targets_there t c.top.proc (results_of k.procedure) (targets_at c.top.point.todo) k.targets in
        sym (picked_put middle targets results (numbers_distinct t c.top.proc (targets_at c.top.point.todo) there k.targets_differ)
        (subst (λ (m : ℕ). AllByRecursion (λ x. x < m) targets) (sym (length-put_all before modified held)) inside_targets) results_count)

    -- a point over the columns of the call: as before it, and the written columns as behind it
    module _ (p : ℕ → ℤ) (agrees : Agrees base (point_of (before ++ products)) p) (at_written : (j g : ℕ) → slice_get written j ≡ Some g → p (base + j) ≡ point_of after g) where
      wide_shown : IsShown wide grown_state (before ++ products)
      wide_shown =
          subst (λ (m : ℕ). IsShown (widened call_frame m free) grown_state (before ++ products)) locals_are
          (shown_widened call_frame (state_of c) before products free products_length (whole_state t c.top.proc (state_of c) keeps))

      wide_length : length wide ≡ base
      wide_length =
          let a : length (before ++ products) ≡ length wide = state_length wide (before ++ products) wide_shown.state in
          let b : length (before ++ products) ≡ length before + length products = length-append before products in
          let d = before_length in
          let e = products_length in
          omega arith

      frame_shown : Shows base p (frame_environment wide) grown_state
      frame_shown =
          subst (λ (m : ℕ). Shows m p (frame_environment wide) grown_state) wide_length
          (shows_agrees (length wide) (point_of (before ++ products)) p (frame_environment wide) grown_state (subst (λ (m : ℕ). Agrees m (point_of (before ++ products)) p) (sym wide_length) agrees)
          (frame_shows wide grown_state (before ++ products) wide_shown))

      in_written : (j g : ℕ) → slice_get modified j ≡ Some g → (base + j < whole) × (p (base + j) ≡ point_of after g)
      in_written j g e =
          let stands : slice_get written j ≡ Some g = slice_left modified _ j g e in
          let inside : j < length written = slice_get_within written j g stands in
          (omega arith, at_written j g stands)

      results_there : AreResults whole p (results_at base written targets (results_of k.procedure) ++ whole_columns (length call_frame + first_free) second_free) (results ++ seconds)
      results_there =
          results_append whole p (results_at base written targets (results_of k.procedure)) (whole_columns (length call_frame + first_free) second_free) results seconds
          (results_stand whole base p after written targets (results_of k.procedure) results (omega arith) at_written (λ x i. target_written modified targets x i) results_typed results_read)
          (results_length base ∙ sym (types_length (results_of k.procedure) results results_typed))
          (whole_results whole p (length call_frame + first_free) second_free seconds (map_length (value ensured_state) (all_free_products constant told)) (omega arith)
          (λ i l.
          let a : length firsts ≡ first_free = map_length (value (state_of c)) (all_free_products constant args) in
          let e : length seconds ≡ second_free = map_length (value ensured_state) (all_free_products constant told) in
          let b : length before ≡ length call_frame = before_length in
          let d : length (before ++ firsts) ≡ length before + length firsts = length-append before firsts in
          agrees.same (length call_frame + first_free + i) (omega arith)
          ∙ ap (λ (zs : List ℤ). point_of zs (length call_frame + first_free + i)) (sym (append_assoc before firsts seconds))
          ∙ point_of-right (before ++ firsts) seconds (length call_frame + first_free + i) i (omega arith)))

      arguments_linear : AllByRecursion (λ e. is_linear (fixed_in wide) false e ≡ true) freed_arguments
      arguments_linear = sound_linear (frame_environment wide) freed_arguments
          (all_sound constant (frame_environment call_frame) (frame_environment wide) (same_fixed call_frame past_locals free) keeps_types past_locals args
          (arguments_divided call_frame (take k.procedure.params k.procedure.locals) args k.arguments) first_numbers)

      constants_left_wide : (g : ℕ) → fixed_in wide (columns.Global g) ≡ true → member c.globals g ≡ member globals_behind g
      constants_left_wide g e = constants_left g (sym (ap (λ (f : Column → Bool). f (columns.Global g)) (same_fixed call_frame past_locals free)) ∙ e)

      -- with the values of the modified globals that are targets in the helpers
      pub call_shows : ((i g : ℕ) → slice_get both i ≡ Some g → p (helpers_from + i) ≡ point_of middle g) → Shows whole p environment read_state
      call_shows helper =
          import_show base whole p (frame_environment wide) grown_state frame_shown (omega arith) (left_at t.globals base modified targets) freed_arguments
          (results_at base written targets (results_of k.procedure) ++ whole_columns (length call_frame + first_free) second_free) globals_behind (results ++ seconds) arguments_linear
          (λ g. left_of whole p grown_state globals_behind g (left_at t.globals base modified targets g)
          (left_by t.globals base helpers_from g modified both (λ x ty. (x < whole) × (p x ≡ member globals_behind g) × IsValue ty (member globals_behind g)) (member c.globals g ≡ member globals_behind g) (outside g)
          (λ j e. let m = modified_at j g e in (m.info, m.is))
          (λ j v e apart h. let r = in_written j g e in (r.0, r.1 ∙ global_after j g v e apart h, typed_behind g v h))
          (λ i v first e h. let inside : i < length both = slice_get_within both i g e in (omega arith, helper i g e ∙ global_in_middle g v h, typed_behind g v h)))) results_there constants_left_wide

      -- with numbers near them in the helpers
      pub call_follows : ((i g : ℕ) (v : VarInfo) → found_from 0 both g ≡ Some i → slice_get both i ≡ Some g → slice_get t.globals g ≡ Some v → IsNear v.ty (p (helpers_from + i)) (member globals_behind g)) →
          Follows whole p environment read_state
      call_follows helper =
          import_follows base whole p (frame_environment wide) grown_state frame_shown (omega arith) (left_at t.globals base modified targets) freed_arguments
          (results_at base written targets (results_of k.procedure) ++ whole_columns (length call_frame + first_free) second_free) globals_behind (results ++ seconds) arguments_linear
          (λ g. left_near_of whole p grown_state globals_behind g (left_at t.globals base modified targets g)
          (left_by t.globals base helpers_from g modified both (λ x ty. (x < whole) × IsNear ty (p x) (member globals_behind g)) (member c.globals g ≡ member globals_behind g) (outside g)
          (λ j e. let m = modified_at j g e in (m.info, m.is))
          (λ j v e apart h. let r = in_written j g e in (r.0, near_of v.ty (p (base + j)) (member globals_behind g) (r.1 ∙ global_after j g v e apart h) (typed_behind g v h)))
          (λ i v first e h. let inside : i < length both = slice_get_within both i g e in (omega arith, helper i g v first e h)))) results_there constants_left_wide

    -- the state of the run in which each ensures is read
    pub granted_is : granted_state t (keeping c (held ++ results)) f args ≡ ensured_state
    granted_is =
        let counted : length held ≡ length modified = global_values_length t.globals modified held held_typed in
        let globals : all_put c.globals modified (held ++ results) ≡ globals_behind = put_kept c.globals modified held results counted in
        let rest : drop (length modified) (held ++ results) ≡ results = drop_kept held results (length modified) counted in
        let of_procedure : Option TypedProcedure → State = λ o. record {
          globals = all_put c.globals (modifies_of o) (held ++ results);
          old = c.globals;
          locals = map (value (state_of c)) args ++ drop (length (modifies_of o)) (held ++ results);
        } in
        ap of_procedure k.is ∙ (λ i. record { globals = globals i; old = c.globals; locals = map (value (state_of c)) args ++ rest i })
