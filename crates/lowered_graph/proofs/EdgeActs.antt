-- The acts of inside edges are as a graph keeps them.
use Rattle.std.proofs.Common.{◌≡◌, ◌∙◌, ℕ, zero, suc, ◌+◌, ◌<◌, ◌≤◌, ℤ, Bool, true, false, List, [], ◌∷◌, ◌++◌, map, length, Option, None, Some, inl, inr, refl, sym, ap, subst, arith, nat_eq, if◌then◌else◌}
use Rattle.std.specs.Prelude.{slice_get}
use Rattle.std.specs.List.{AllByRecursion}
use Rattle.std.specs.Option.{option_map}
use Rattle.std.proofs.lemmas.List.{length-append, length-map}
use Rattle.boogie_tree.specs.declared.tree.Ty.{Ty}
use Rattle.boogie_tree.specs.declared.tree.Column.{Column}
use Rattle.boogie_tree.specs.declared.tree.Column.TheVariants as columns
use Rattle.boogie_tree.specs.declared.tree.VarInfo.{VarInfo}
use Rattle.typed_tree.specs.TypedTree.{TypedExpression, TypedProcedure, TypedProgram}
use Rattle.typed_tree.specs.TypingRules.Rules.{results_of}
use Rattle.math_facts.specs.Terms.{IsBelow}
use Rattle.lin_rows.specs.Rows.{LinearRow}
use Rattle.letter_acts.specs.Frames.{Columns}
use Rattle.letter_acts.specs.Invariant.{AreDistinct, MayWrite, IsOld, inside_width}
use Rattle.cond_jumps.specs.Conjunctions.{Conjunction, listed_plan}
use Rattle.cond_jumps.specs.Forms.{Linear}
use Rattle.cond_jumps.specs.Environments.{Environment}
use Rattle.cond_jumps.specs.Frames.{place_from, or_else, if_constant, column_place_in, linear_at, plan_at, fixed_in, frame_environment}
use Rattle.cond_jumps.specs.Passing.{Standing, Same, Numbered, Passed, standing_sum, standing_plan, standing_environment, passed, left_in, passed_locals, imported}
use Rattle.cond_jumps.specs.Paths.{paths}
use Rattle.cond_jumps.specs.Lists.{path_list, assign_list}
use Rattle.cond_jumps.proofs.FrameLemmas.{IsFound, found_from}
use Rattle.cond_jumps.specs.FreeProducts.FreeProducts.{freed, all_freed}
use Rattle.cond_jumps.specs.FreeProducts.Letters.{MarkedConjunction, marked_letter}
use Rattle.cond_jumps.specs.FreeProducts.FrameLetters.{product_columns, widened, product_count, all_product_count, passed_count, passed_arguments, freed_passed_plan, told_condition, path_letters, assign_letters, told_letters, passed_letters}
use Rattle.cond_jumps.proofs.FreeProducts.MeanLemmas.{all_freed_length}
use Rattle.boogie_run.specs.BoogiePoints.Points.{Point, settled, past_first}
use Rattle.boogie_run.specs.BoogiePoints.Actions as actions
use Rattle.boogie_run.specs.BoogiePoints.Actions.{Action}
use Rattle.boogie_run.specs.BoogiePoints.Starts.{targets_at}
use Rattle.lowered_graph.specs.LoweredSteps.ProgramFrames.{frame_at, column_number}
use Rattle.lowered_graph.specs.LoweredSteps.Edges as edges
use Rattle.lowered_graph.specs.LoweredSteps.Edges.{Spot, At, Wrong, Edge, leads, no_rows, those_in, those_not_in, import_written, typed_column, left_if, left_at, found_or_0, results_at, all_hold, behind_helpers, told_ensures, import_products, whole_columns, import_environment, import_plan, import_letters, import_edges, skips, numbers_in, local_count, inside_edges}
use Rattle.lowered_graph.specs.LoweredSteps.Stacks.{IsAmong}
use Rattle.lowered_graph.proofs.NamedColumns.{RowsName, AreNamed, IsNamed, SumNames, ListNames, EachNames, terms_so, rows_so, column_names, named_names, PlanNames, with_names, always_names, linear_names, paths_names, assigns_names}
use Rattle.lowered_graph.proofs.LetterNames.{LettersName, letters_name}
use Rattle.lowered_graph.proofs.FrameTargets.{StandsAt, AreStanding, AreVarying, stands_written, stands_new, standing_written, standing_new, standing_distinct, import_may_write, import_new, import_distinct}
use Rattle.lowered_graph.proofs.Lists.{among_either}

-- ---- a frame with products

products_length : (m k : ℕ) → length (product_columns m k) ≡ k
products_length m zero = refl
products_length m (suc k) = ap suc (products_length (suc m) k)

pub wide_length : (frame : Columns) (m k : ℕ) → length (widened frame m k) ≡ length frame + k
wide_length frame m k = let e : length (product_columns m k) ≡ k = products_length m k in length-append frame (product_columns m k) ∙ omega arith

-- ---- what stands for the columns

sum_wider : (A B : ℕ → Type 0) → ((c : ℕ) → A c → B c) → (n : ℕ) (x : Linear) → SumNames A n x → SumNames B n x
sum_wider A B f n x h =
    let g : (c : ℕ) → IsNamed A n x.helpers c → IsNamed B n x.helpers c = λ c i. either c i in
    record { terms = terms_so (IsNamed A n x.helpers) (IsNamed B n x.helpers) g x.terms h.terms; rows = rows_so (IsNamed A n x.helpers) (IsNamed B n x.helpers) g x.rows h.rows }
  where
    either : (c : ℕ) → IsNamed A n x.helpers c → IsNamed B n x.helpers c
    either c (inl a) = inl (f c a)
    either c (inr l) = inr l

list_wider : (A B : ℕ → Type 0) → ((c : ℕ) → A c → B c) → (n : ℕ) (cs : List Conjunction) → ListNames A n cs → ListNames B n cs
list_wider A B f n [] h = tt
list_wider A B f n (x ∷ cs) h = (rows_so (IsNamed A n x.helpers) (IsNamed B n x.helpers) (λ c i. either c i) x.rows h.0, list_wider A B f n cs h.1)
  where
    either : (c : ℕ) → IsNamed A n x.helpers c → IsNamed B n x.helpers c
    either c (inl a) = inl (f c a)
    either c (inr l) = inr l

pub each_wider : (A B : ℕ → Type 0) (v : Environment) → ((c : ℕ) → A c → B c) → EachNames A v → EachNames B v
each_wider A B v f h = record {
  sums = λ c n. sum_wider A B f n (v.sum c n) (h.sums c n);
  plans = λ c want n. list_wider A B f n (listed_plan (v.plan c want) n) (h.plans c want n);
}

-- a place is inside the frame
found_inside : (frame : Columns) (c : Column) (x : ℕ × VarInfo) → place_from 0 frame c ≡ Some x → x.0 < length frame
found_inside frame c x e =
    let f : IsFound 0 frame c x = found_from 0 frame c x e in
    let at : x.0 ≡ 0 + f.index = f.at in
    let inside : f.index < length frame = f.inside in
    omega arith

old_inside : (frame : Columns) (g : ℕ) (x : ℕ × VarInfo) (a b : Option (ℕ × VarInfo)) → place_from 0 frame (columns.Old g) ≡ a → place_from 0 frame (columns.Global g) ≡ b → or_else a (if_constant b) ≡ Some x → x.0 < length frame
old_inside frame g x (Some y) b e f h = found_inside frame (columns.Old g) x (e ∙ h)
old_inside frame g x None None e f h = absurd (cc)
old_inside frame g x None (Some y) e f h = by_test y.1.constant h
  where
    by_test : (b : Bool) → (if b then Some y else None) ≡ Some x → x.0 < length frame
    by_test true k = found_inside frame (columns.Global g) x (f ∙ k)
    by_test false k = absurd (cc)

place_inside : (frame : Columns) (c : Column) (x : ℕ × VarInfo) → column_place_in frame c ≡ Some x → x.0 < length frame
place_inside frame (columns.Global g) x e = found_inside frame (columns.Global g) x e
place_inside frame (columns.Old g) x e = old_inside frame g x (place_from 0 frame (columns.Old g)) (place_from 0 frame (columns.Global g)) refl refl e
place_inside frame (columns.Local l) x e = found_inside frame (columns.Local l) x e

-- the columns of a frame
pub frame_names : (frame : Columns) → EachNames (λ c. c < length frame) (frame_environment frame)
frame_names frame = record {
  sums = λ c n. sum_named (column_place_in frame c) n (λ x e. place_inside frame c x e);
  plans = λ c want n. plan_named (column_place_in frame c) want n (λ x e. place_inside frame c x e);
}
  where
    sum_named : (o : Option (ℕ × VarInfo)) (n : ℕ) → ((x : ℕ × VarInfo) → o ≡ Some x → x.0 < length frame) → SumNames (λ c. c < length frame) n (linear_at o n)
    sum_named None n h = record { terms = tt; rows = tt }
    sum_named (Some x) n h = column_names (λ c. c < length frame) x.0 n (h x refl)

    plan_named : (o : Option (ℕ × VarInfo)) (want : Bool) (n : ℕ) → ((x : ℕ × VarInfo) → o ≡ Some x → x.0 < length frame) → ListNames (λ c. c < length frame) n (listed_plan (plan_at o want) n)
    plan_named None want n h = tt
    plan_named (Some x) want n h = named_names (λ c. c < length frame) x.0 want n (h x refl)

-- columns by number, and expressions, in place of columns
standing_names : (A : ℕ → Type 0) (v : Environment) (stands : Column → Option Standing) → EachNames A v → ((c : Column) (k : ℕ) (ty : Ty) → stands c ≡ Some (Numbered k ty) → A k) → EachNames A (standing_environment v stands)
standing_names A v stands s h = record {
  sums = λ c n. sum_named (stands c) n (h c);
  plans = λ c want n. plan_named (stands c) want n (h c);
}
  where
    sum_named : (o : Option Standing) (n : ℕ) → ((k : ℕ) (ty : Ty) → o ≡ Some (Numbered k ty) → A k) → SumNames A n (standing_sum v o n)
    sum_named None n g = record { terms = tt; rows = tt }
    sum_named (Some (Same c)) n g = s.sums c n
    sum_named (Some (Numbered k ty)) n g = column_names A k n (g k ty refl)
    sum_named (Some (Passed e)) n g = linear_names A v s false e n

    plan_named : (o : Option Standing) (want : Bool) (n : ℕ) → ((k : ℕ) (ty : Ty) → o ≡ Some (Numbered k ty) → A k) → ListNames A n (listed_plan (standing_plan v o want) n)
    plan_named None want n g = tt
    plan_named (Some (Same c)) want n g = s.plans c want n
    plan_named (Some (Numbered k ty)) want n g = named_names A k want n (g k ty refl)
    plan_named (Some (Passed e)) want n g = paths_names A v s false e want n

passed_names : (A : ℕ → Type 0) (v : Environment) (args : List TypedExpression) → EachNames A v → EachNames A (standing_environment v (passed args))
passed_names A v args s = standing_names A v (passed args) s by_column
  where
    no_number : (o : Option TypedExpression) (k : ℕ) (ty : Ty) → option_map Passed o ≡ Some (Numbered k ty) → A k
    no_number None k ty e = absurd (cc)
    no_number (Some x) k ty e = absurd (cc)

    by_column : (c : Column) (k : ℕ) (ty : Ty) → passed args c ≡ Some (Numbered k ty) → A k
    by_column (columns.Global n) k ty e = absurd (cc)
    by_column (columns.Old n) k ty e = absurd (cc)
    by_column (columns.Local n) k ty e = no_number (slice_get args n) k ty e

-- ---- what stands for the columns of a call without body

found_below : (k : ℕ) (xs : List ℕ) (n i : ℕ) → edges.found_from k xs n ≡ Some i → i < k + length xs
found_below k [] n i e = absurd (cc)
found_below k (x ∷ xs) n i e = by_test (nat_eq x n) e (found_below (suc k) xs n i)
  where
    by_test : (b : Bool) → (if b then Some k else edges.found_from (suc k) xs n) ≡ Some i → (edges.found_from (suc k) xs n ≡ Some i → i < suc k + length xs) → i < k + suc (length xs)
    by_test true h f = let same : k ≡ i = cc in omega arith
    by_test false h f = let l : i < suc k + length xs = f h in omega arith

left_below : (globals : List VarInfo) (base bound n : ℕ) (o p : Option ℕ) (k : ℕ) (ty : Ty) → ((i : ℕ) → o ≡ Some i → base + i < bound) → ((i : ℕ) → p ≡ Some i → i < bound) →
    left_in n (left_if globals base n o p) ≡ Numbered k ty → k < bound
left_below globals base bound n None p k ty h g e = absurd (cc)
left_below globals base bound n (Some i) None k ty h g e = by_info (slice_get globals n) e
  where
    by_info : (v : Option VarInfo) → left_in n (typed_column (base + i) v) ≡ Numbered k ty → k < bound
    by_info None f = absurd (cc)
    by_info (Some v) f = let same : base + i ≡ k = cc in subst (λ (m : ℕ). m < bound) same (h i refl)
left_below globals base bound n (Some i) (Some j) k ty h g e = by_info (slice_get globals n) e
  where
    by_info : (v : Option VarInfo) → left_in n (typed_column j v) ≡ Numbered k ty → k < bound
    by_info None f = absurd (cc)
    by_info (Some v) f = let same : j ≡ k = cc in subst (λ (m : ℕ). m < bound) same (g j refl)

-- a found number, or 0, is inside a list that has members
found_within : (xs : List ℕ) (n : ℕ) → 1 ≤ length xs → found_or_0 (edges.found_from 0 xs n) < length xs
found_within xs n l = by_found (edges.found_from 0 xs n) (λ i e. found_below 0 xs n i e)
  where
    by_found : (o : Option ℕ) → ((i : ℕ) → o ≡ Some i → i < 0 + length xs) → found_or_0 o < length xs
    by_found None h = omega arith
    by_found (Some i) h = let b : i < 0 + length xs = h i refl in omega arith

-- a call with a target writes something
writes_some : (modified targets : List ℕ) (c : ℕ) → 1 ≤ length (import_written modified (c ∷ targets))
writes_some [] targets c = omega arith
writes_some (m ∷ ms) targets c = omega arith

locals_below : (bound : ℕ) (args : List TypedExpression) (results : List (ℕ × Ty)) (n k : ℕ) (ty : Ty) → AllByRecursion (λ r. r.0 < bound) results → slice_get (passed_locals args results) n ≡ Some (Numbered k ty) → k < bound
locals_below bound (a ∷ args) results zero k ty h e = absurd (cc)
locals_below bound (a ∷ args) results (suc n) k ty h e = locals_below bound args results n k ty h e
locals_below bound [] [] n k ty h e = absurd (cc)
locals_below bound [] (r ∷ rs) zero k ty h e = let same : r.0 ≡ k = cc in subst (λ (m : ℕ). m < bound) same h.0
locals_below bound [] (r ∷ rs) (suc n) k ty h e = locals_below bound [] rs n k ty h.1 e

results_below : (base bound : ℕ) (written cs : List ℕ) (vs : List VarInfo) → (1 ≤ length cs → 1 ≤ length written) → base + length written ≤ bound → AllByRecursion (λ r. r.0 < bound) (results_at base written cs vs)
results_below base bound written [] vs h l = tt
results_below base bound written (c ∷ cs) [] h l = tt
results_below base bound written (c ∷ cs) (v ∷ vs) h l =
    let some : 1 ≤ length written = h (omega arith) in
    let within : found_or_0 (edges.found_from 0 written c) < length written = found_within written c some in
    ((let b : base + found_or_0 (edges.found_from 0 written c) < bound = omega arith in b), results_below base bound written cs vs (λ m. some) l)

some_written : (modified targets : List ℕ) → 1 ≤ length targets → 1 ≤ length (import_written modified targets)
some_written modified [] l = absurd (omega arith)
some_written modified (c ∷ targets) l = writes_some modified targets c

-- the columns of products
whole_below : (bound n k : ℕ) → n + k ≤ bound → AllByRecursion (λ r. r.0 < bound) (whole_columns n k)
whole_below bound n zero l = tt
whole_below bound n (suc k) l = ((let b : n < bound = omega arith in b), whole_below bound (suc n) k (omega arith))

both_below : (bound : ℕ) (rs qs : List (ℕ × Ty)) → AllByRecursion (λ r. r.0 < bound) rs → AllByRecursion (λ r. r.0 < bound) qs → AllByRecursion (λ r. r.0 < bound) (rs ++ qs)
both_below bound [] qs h k = k
both_below bound (r ∷ rs) qs h k = (h.0, both_below bound rs qs h.1 k)

-- the columns of the frame and the products, the written ones, and the helpers of modified globals that are targets
abbrev import_bound : Columns → TypedProcedure → List TypedExpression → List ℕ → ℕ
import_bound frame q args targets = length frame + import_products frame q args + length (import_written q.modifies targets) + length (those_in targets q.modifies)

import_names : (frame : Columns) (m : ℕ) (globals : List VarInfo) (q : TypedProcedure) (args : List TypedExpression) (targets : List ℕ) →
    EachNames (λ c. c < import_bound frame q args targets) (import_environment frame m globals q args targets)
import_names frame m globals q args targets =
    let told : ℕ = all_product_count frame args in
    let seconds : ℕ = all_product_count frame (told_ensures frame q args) in
    let wide : Columns = widened frame m (import_products frame q args) in
    let base : ℕ = length frame + import_products frame q args in
    let written : List ℕ = import_written q.modifies targets in
    let bound : ℕ = import_bound frame q args targets in
    let width : length wide ≡ base = wide_length frame m (import_products frame q args) in
    let results : List (ℕ × Ty) = results_at base written targets (results_of q) ++ whole_columns (length frame + told) seconds in
    let more : length written ≡ length q.modifies + length (those_not_in q.modifies targets) = length-append q.modifies (those_not_in q.modifies targets) in
    standing_names (λ c. c < bound) (frame_environment wide) (imported (left_at globals base q.modifies targets) (all_freed (fixed_in frame) m args) results)
    (each_wider (λ c. c < length wide) (λ c. c < bound) (frame_environment wide) (λ c l. (let k : c < length wide = l in omega arith)) (frame_names wide))
    (by_column base written bound (all_freed (fixed_in frame) m args) results (both_below bound (results_at base written targets (results_of q)) (whole_columns (length frame + told) seconds)
    (results_below base bound written targets (results_of q) (some_written q.modifies targets) (omega arith)) (whole_below bound (length frame + told) seconds (omega arith))) more)
  where
    by_column : (base : ℕ) (written : List ℕ) (bound : ℕ) (es : List TypedExpression) (results : List (ℕ × Ty)) →
        AllByRecursion (λ r. r.0 < length frame + import_products frame q args + length (import_written q.modifies targets) + length (those_in targets q.modifies)) results →
        length (import_written q.modifies targets) ≡ length q.modifies + length (those_not_in q.modifies targets) →
        (c : Column) (k : ℕ) (ty : Ty) → imported (left_at globals (length frame + import_products frame q args) q.modifies targets) es results c ≡ Some (Numbered k ty) → k < import_bound frame q args targets
    by_column base written bound es results h more (columns.Global n) k ty e =
        let from : ℕ = length frame + import_products frame q args in
        let is : left_in n (left_at globals from q.modifies targets n) ≡ Numbered k ty = cc in
        left_below globals from (import_bound frame q args targets) n (edges.found_from 0 q.modifies n) (edges.found_from (from + length (import_written q.modifies targets)) (those_in targets q.modifies) n) k ty
        (λ i f. (let l : i < 0 + length q.modifies = found_below 0 q.modifies n i f in omega arith))
        (λ i f. found_below (from + length (import_written q.modifies targets)) (those_in targets q.modifies) n i f) is
    by_column base written bound es results h more (columns.Old n) k ty e = absurd (cc)
    by_column base written bound es results h more (columns.Local n) k ty e = locals_below (import_bound frame q args targets) es results n k ty h e

-- ---- lists within columns

-- the rows of each letter are over the act's columns
abbrev pub AreWithin : Columns → List ℕ → List MarkedConjunction → Type 0
AreWithin frame written ls = AllByRecursion (λ l. AllByRecursion (λ r. IsBelow (inside_width frame written l.plain.helpers) r.terms) l.plain.rows) ls

below_terms : (m : ℕ) (ts : List (ℕ × ℤ)) → AreNamed (λ c. c < m) ts → IsBelow m ts
below_terms m [] h = tt
below_terms m (x ∷ ts) h = (h.0, below_terms m ts h.1)

below_rows : (m : ℕ) (rs : List LinearRow) → RowsName (λ c. c < m) rs → AllByRecursion (λ r. IsBelow m r.terms) rs
below_rows m [] h = tt
below_rows m (r ∷ rs) h = (below_terms m r.terms h.0, below_rows m rs h.1)

named_below : (n k c : ℕ) → IsNamed (λ c. c < n) n k c → c < n + k
named_below n k c (inl l) = let b : c < n = l in omega arith
named_below n k c (inr h) = h.1

name_within : (frame : Columns) (written : List ℕ) (n : ℕ) (ls : List MarkedConjunction) → n ≡ length frame + length written → LettersName (λ c. c < n) n ls → AreWithin frame written ls
name_within frame written n [] e h = tt
name_within frame written n (l ∷ ls) e h =
    let rows : AllByRecursion (λ r. IsBelow (n + l.plain.helpers) r.terms) l.plain.rows =
    below_rows (n + l.plain.helpers) l.plain.rows (rows_so (IsNamed (λ c. c < n) n l.plain.helpers) (λ x. x < n + l.plain.helpers) (λ x i. named_below n l.plain.helpers x i) l.plain.rows h.0) in
    (subst (λ (m : ℕ). AllByRecursion (λ r. IsBelow (m + l.plain.helpers) r.terms) l.plain.rows) e rows, name_within frame written n ls e h.1)

-- the letters of a list over the frame, the products and further columns
letters_below : (low count more w : ℕ) (cs : List Conjunction) → w ≡ low + count + more → ListNames (λ c. c < w) w cs → LettersName (λ c. c < low + more) (low + more) (map (marked_letter low count more) cs)
letters_below low count more w cs e h =
    letters_name low count more (λ c. c < low + count + more) (λ c. c < low + more) (λ d l. l) (λ d l k. (let a : d < low = l in omega arith)) (λ d l k. (let a : d < more = l in omega arith)) cs
    (subst (λ (n : ℕ). ListNames (λ c. c < n) n cs) e h)

pub letters_within : (frame : Columns) (written : List ℕ) (count more w : ℕ) (cs : List Conjunction) → w ≡ length frame + count + more → more ≡ length written → ListNames (λ c. c < w) w cs →
    AreWithin frame written (map (marked_letter (length frame) count more) cs)
letters_within frame written count more w cs e f h =
    name_within frame written (length frame + more) (map (marked_letter (length frame) count more) cs) (omega arith) (letters_below (length frame) count more w cs e h)

path_within : (frame : Columns) (m : ℕ) (e : TypedExpression) (want : Bool) → AreWithin frame [] (path_letters frame m e want)
path_within frame m e want =
    let k : ℕ = product_count frame e in
    let wide : Columns = widened frame m k in
    let width : length wide ≡ length frame + k = wide_length frame m k in
    letters_within frame [] k 0 (length wide) (path_list wide (freed (fixed_in frame) m false e) want) (omega arith) refl
    (paths_names (λ c. c < length wide) (frame_environment wide) (frame_names wide) false (freed (fixed_in frame) m false e) want (length wide))

told_within : (frame : Columns) (m : ℕ) (args : List TypedExpression) (e : TypedExpression) (want : Bool) → AreWithin frame [] (told_letters frame m args e want)
told_within frame m args e want =
    let k : ℕ = passed_count frame args e in
    let wide : Columns = widened frame m k in
    let width : length wide ≡ length frame + k = wide_length frame m k in
    let given : List TypedExpression = passed_arguments (fixed_in frame) m args e in
    letters_within frame [] k 0 (length wide) (listed_plan (freed_passed_plan frame m args e want) (length wide)) (omega arith) refl
    (paths_names (λ c. c < length wide) (standing_environment (frame_environment wide) (passed given)) (passed_names (λ c. c < length wide) (frame_environment wide) given (frame_names wide)) false
    (freed (fixed_in frame) (length args) false e) want (length wide))

passed_within : (frame : Columns) (m : ℕ) (args : List TypedExpression) (e : TypedExpression) (want : Bool) → AreWithin frame [] (passed_letters frame m args e want)
passed_within frame m args e want = told_within frame m args (told_condition (fixed_in frame) args e) want

assign_within : (frame : Columns) (m : ℕ) (written : List ℕ) (es : List TypedExpression) → length es ≡ length written → AreWithin frame written (assign_letters frame m (length es) es)
assign_within frame m written es e =
    let k : ℕ = all_product_count frame es in
    let wide : Columns = widened frame m k in
    let width : length wide ≡ length frame + k = wide_length frame m k in
    let fs : List TypedExpression = all_freed (fixed_in frame) m es in
    let many : length fs ≡ length es = all_freed_length (fixed_in frame) m es in
    let bound : ℕ = length wide + length es in
    letters_within frame written k (length es) bound (assign_list wide (length es) fs) (omega arith) e
    (assigns_names (λ c. c < bound) (frame_environment wide) (each_wider (λ c. c < length wide) (λ c. c < bound) (frame_environment wide) (λ c l. (let k : c < length wide = l in omega arith)) (frame_names wide)) (length wide) fs
    (λ c l u. (let b : c < length wide + length fs = u in omega arith)) bound)

no_rows_within : (frame : Columns) (written : List ℕ) → AreWithin frame written no_rows
no_rows_within frame written = (tt, tt)

all_hold_names : (A : ℕ → Type 0) (v : Environment) → EachNames A v → (es : List TypedExpression) → PlanNames A (all_hold v es)
all_hold_names A v s [] = always_names A
all_hold_names A v s (e ∷ es) = with_names A (paths v false e true) (all_hold v es) (paths_names A v s false e true) (all_hold_names A v s es)

-- letters behind so many helpers
behind_within : (frame : Columns) (written : List ℕ) (n k : ℕ) (f : Conjunction → MarkedConjunction) (cs : List Conjunction) → n ≡ length frame + length written + k → LettersName (λ c. c < n) n (map f cs) →
    AreWithin frame written (map (λ c. behind_helpers k (f c)) cs)
behind_within frame written n k f [] e h = tt
behind_within frame written n k f (c ∷ cs) e h =
    let l : MarkedConjunction = f c in
    let rows : AllByRecursion (λ r. IsBelow (n + l.plain.helpers) r.terms) l.plain.rows =
    below_rows (n + l.plain.helpers) l.plain.rows (rows_so (IsNamed (λ c. c < n) n l.plain.helpers) (λ x. x < n + l.plain.helpers) (λ x i. named_below n l.plain.helpers x i) l.plain.rows h.0) in (
      subst (λ (m : ℕ). AllByRecursion (λ r. IsBelow m r.terms) l.plain.rows) (let s : n + l.plain.helpers ≡ length frame + length written + (k + l.plain.helpers) = omega arith in s) rows,
      behind_within frame written n k f cs e h.1,
    )

import_within : (frame : Columns) (m : ℕ) (globals : List VarInfo) (q : TypedProcedure) (args : List TypedExpression) (targets : List ℕ) →
    AreWithin frame (import_written q.modifies targets) (import_letters frame m globals q args targets)
import_within frame m globals q args targets =
    let written : List ℕ = import_written q.modifies targets in
    let free : ℕ = import_products frame q args in
    let k : ℕ = length (those_in targets q.modifies) in
    let w : ℕ = import_bound frame q args targets in
    let v : Environment = import_environment frame m globals q args targets in
    let es : List TypedExpression = all_freed (fixed_in frame) (length args + length (results_of q)) (told_ensures frame q args) in
    let cs : List Conjunction = listed_plan (import_plan frame m globals q args targets) w in
    behind_within frame written (length frame + (length written + k)) k (marked_letter (length frame) free (length written + k)) cs (omega arith)
    (letters_below (length frame) free (length written + k) w cs (omega arith) (all_hold_names (λ c. c < w) v (import_names frame m globals q args targets) es w))

-- ---- edges

-- what typing says of the columns that an action writes
pub record ImportWrites (t : TypedProgram) (n : ℕ) (q : TypedProcedure) (cs : List Column) : Type 0 where
  pub modified : AreVarying t q.modifies
  pub modified_differ : AreDistinct q.modifies
  pub targets : AreStanding t n cs
  pub targets_differ : AreDistinct cs

abbrev pub ImportIsKnown : TypedProgram → ℕ → Point → ℕ → Type 0
ImportIsKnown t n p f = (q : TypedProcedure) → slice_get t.procs f ≡ Some q → ImportWrites t n q (targets_at p.todo)

pub record AssignWrites (t : TypedProgram) (n : ℕ) (cs : List Column) (es : List TypedExpression) : Type 0 where
  pub targets : AreStanding t n cs
  pub differ : AreDistinct cs
  pub as_many : length es ≡ length cs

abbrev pub ActionWrites : TypedProgram → ℕ → Point → Action → Type 0
ActionWrites t n p (actions.Check id at e next) = Unit {0}
ActionWrites t n p (actions.Suppose e next) = Unit {0}
ActionWrites t n p (actions.Demand id at e args next) = Unit {0}
ActionWrites t n p (actions.Write cs es next) = AssignWrites t n cs es
ActionWrites t n p (actions.Guess c next) = (ty : Ty) × StandsAt t n ty c
ActionWrites t n p (actions.Test e hit miss) = Unit {0}
ActionWrites t n p (actions.Pick ways) = Unit {0}
ActionWrites t n p (actions.Jump next) = Unit {0}
ActionWrites t n p (actions.Enter f args) = Unit {0}
ActionWrites t n p (actions.Keep f args c next) = ImportIsKnown t n p f
ActionWrites t n p (actions.Grant f args e next) = ImportIsKnown t n p f
ActionWrites t n p (actions.Finish f args targets next) = ImportIsKnown t n p f
ActionWrites t n p actions.Leave = Unit {0}

-- what the act of an edge keeps, and that it writes no old column
pub record EdgeIsActed (t : TypedProgram) (n : ℕ) (e : Edge) : Type 0 where
  pub may_write : AllByRecursion (MayWrite (frame_at t n)) e.written
  pub distinct : AreDistinct e.written
  pub within : AllByRecursion (λ r. IsBelow (inside_width (frame_at t n) e.written e.rows.helpers) r.terms) e.rows.rows
  pub new : AllByRecursion (λ c. IsOld (frame_at t n) c → ⊥) e.written

-- what the columns that edges write keep
record WrittenColumns (t : TypedProgram) (n : ℕ) (written : List ℕ) : Type 0 where
  may_write : AllByRecursion (MayWrite (frame_at t n)) written
  distinct : AreDistinct written
  new : AllByRecursion (λ c. IsOld (frame_at t n) c → ⊥) written

nothing_written : (t : TypedProgram) (n : ℕ) → WrittenColumns t n []
nothing_written t n = record { may_write = tt; distinct = tt; new = tt }

leads_acted : (t : TypedProgram) (n : ℕ) (written : List ℕ) (cs : List MarkedConjunction) (to : Spot) (e : Edge) → WrittenColumns t n written → AreWithin (frame_at t n) written cs → IsAmong (leads written cs to) e → EdgeIsActed t n e
leads_acted t n written [] to e w h m = absurd m
leads_acted t n written (c ∷ cs) to e w h (inl is) =
    let one : EdgeIsActed t n (record { to = to; written = written; rows = c.plain; coarse = c.coarse }) = record { may_write = w.may_write; distinct = w.distinct; within = h.0; new = w.new } in
    subst (EdgeIsActed t n) is one
leads_acted t n written (c ∷ cs) to e w h (inr m) = leads_acted t n written cs to e w h.1 m

skips_acted : (t : TypedProgram) (n : ℕ) (ways : List Point) (e : Edge) → IsAmong (skips ways) e → EdgeIsActed t n e
skips_acted t n [] e m = absurd m
skips_acted t n (p ∷ ways) e m = elim (among_either (leads [] no_rows (At p)) (skips ways) e m) [
  | inl h ↦ leads_acted t n [] no_rows (At p) e (nothing_written t n) (no_rows_within (frame_at t n) []) h
  | inr h ↦ skips_acted t n ways e h
]

import_acted : (t : TypedProgram) (n : ℕ) (o : Option TypedProcedure) (args : List TypedExpression) (cs : List Column) (next : Point) (e : Edge) → ((q : TypedProcedure) → o ≡ Some q → ImportWrites t n q cs) →
    IsAmong (import_edges (frame_at t n) (local_count t n) t.globals o args (numbers_in (frame_at t n) cs) next) e → EdgeIsActed t n e
import_acted t n None args cs next e h m = absurd m
import_acted t n (Some q) args cs next e h m =
    let w : ImportWrites t n q cs = h q refl in
    let targets : List ℕ = numbers_in (frame_at t n) cs in
    leads_acted t n (import_written q.modifies targets) (import_letters (frame_at t n) (local_count t n) t.globals q args targets) (At next) e
    (record { may_write = import_may_write t n q.modifies cs w.modified w.targets; distinct = import_distinct t n q.modifies cs w.modified_differ w.targets w.targets_differ; new = import_new t n q.modifies cs w.modified w.targets })
    (import_within (frame_at t n) (local_count t n) t.globals q args targets) m

both_acted : (t : TypedProgram) (n : ℕ) (xs ys : List MarkedConjunction) (to other : Spot) (e : Edge) → AreWithin (frame_at t n) [] xs → AreWithin (frame_at t n) [] ys → IsAmong (leads [] xs to ++ leads [] ys other) e → EdgeIsActed t n e
both_acted t n xs ys to other e h k m = elim (among_either (leads [] xs to) (leads [] ys other) e m) [
  | inl i ↦ leads_acted t n [] xs to e (nothing_written t n) h i
  | inr i ↦ leads_acted t n [] ys other e (nothing_written t n) k i
]

pub edge_acted : (t : TypedProgram) (n : ℕ) (p : Point) (a : Action) (e : Edge) → ActionWrites t n p a → IsAmong (inside_edges t n p a) e → EdgeIsActed t n e
edge_acted t n p (actions.Check id at c next) e w m = both_acted t n (path_letters (frame_at t n) (local_count t n) c true) (path_letters (frame_at t n) (local_count t n) c false) (At next) (Wrong id) e (path_within (frame_at t n) (local_count t n) c true) (path_within (frame_at t n) (local_count t n) c false) m
edge_acted t n p (actions.Suppose c next) e w m = leads_acted t n [] (path_letters (frame_at t n) (local_count t n) c true) (At next) e (nothing_written t n) (path_within (frame_at t n) (local_count t n) c true) m
edge_acted t n p (actions.Demand id at c args next) e w m =
    both_acted t n (passed_letters (frame_at t n) (local_count t n) args c true) (passed_letters (frame_at t n) (local_count t n) args c false) (At next) (Wrong id) e (passed_within (frame_at t n) (local_count t n) args c true) (passed_within (frame_at t n) (local_count t n) args c false) m
edge_acted t n p (actions.Write cs es next) e w m =
    let frame : Columns = frame_at t n in
    let count : length (numbers_in frame cs) ≡ length cs = length-map cs (column_number frame) in
    leads_acted t n (numbers_in frame cs) (assign_letters frame (local_count t n) (length es) es) (At next) e
    (record { may_write = standing_written t n cs w.targets; distinct = standing_distinct t n cs w.targets w.differ; new = standing_new t n cs w.targets })
    (assign_within frame (local_count t n) (numbers_in frame cs) es (w.as_many ∙ sym count)) m
edge_acted t n p (actions.Guess c next) e w m =
    leads_acted t n (column_number (frame_at t n) c ∷ []) no_rows (At next) e
    (record { may_write = (stands_written t n w.0 c w.1, tt); distinct = (λ m. m, tt); new = (stands_new t n w.0 c w.1, tt) }) (no_rows_within (frame_at t n) (column_number (frame_at t n) c ∷ [])) m
edge_acted t n p (actions.Test c hit miss) e w m = both_acted t n (path_letters (frame_at t n) (local_count t n) c true) (path_letters (frame_at t n) (local_count t n) c false) (At hit) (At miss) e (path_within (frame_at t n) (local_count t n) c true) (path_within (frame_at t n) (local_count t n) c false) m
edge_acted t n p (actions.Pick ways) e w m = skips_acted t n ways e m
edge_acted t n p (actions.Jump next) e w m = skips_acted t n (next ∷ []) e m
edge_acted t n p (actions.Enter f args) e w m = absurd m
edge_acted t n p (actions.Keep f args c next) e w m = import_acted t n (slice_get t.procs f) args (targets_at p.todo) (settled (past_first t.procs p.todo)) e w m
edge_acted t n p (actions.Grant f args c next) e w m = import_acted t n (slice_get t.procs f) args (targets_at p.todo) (settled (past_first t.procs p.todo)) e w m
edge_acted t n p (actions.Finish f args targets next) e w m = import_acted t n (slice_get t.procs f) args (targets_at p.todo) (settled (past_first t.procs p.todo)) e w m
edge_acted t n p actions.Leave e w m = absurd m
