-- What stands for the columns of a called procedure's conditions stands for them in the environment of the call.
use Rattle.std.proofs.Common.{◌≡◌, ℕ, zero, suc, ◌+◌, ◌<◌, ◌≤◌, Bool, true, false, pos, List, [], ◌∷◌, ◌++◌, map, length, nat_eq, Option, None, Some, if◌then◌else◌, refl, ◌∙◌, ap, subst, arith}
use Rattle.std.proofs.lemmas.Bool.{eqb-true, eqb-false}
use Rattle.std.proofs.lemmas.Bool.Decides.{nat_tests}
use Rattle.std.specs.Prelude.{slice_get}
use Rattle.std.specs.Option.{option_map}
use Rattle.boogie_tree.specs.declared.tree.Ty.{Ty}
use Rattle.boogie_tree.specs.declared.tree.Column.{Column}
use Rattle.boogie_tree.specs.declared.tree.Column.TheVariants as columns
use Rattle.boogie_tree.specs.declared.tree.VarInfo.{VarInfo}
use Rattle.typed_tree.specs.TypedTree.{TypedExpression}
use Rattle.letter_acts.specs.Frames.{Columns}
use Rattle.cond_jumps.specs.Conjunctions.{Just}
use Rattle.cond_jumps.specs.Forms.{Linears, linear_number, column}
use Rattle.cond_jumps.specs.Comparisons.{no_jumps, truth_of_column}
use Rattle.cond_jumps.specs.Environments.{Environment, type_in}
use Rattle.cond_jumps.specs.Paths.{linear, paths}
use Rattle.cond_jumps.specs.Frames.{same_frame_column, place_from, or_else, column_place_in, linear_at, plan_at, frame_environment}
use Rattle.cond_jumps.specs.Lists.{path_plan}
use Rattle.cond_jumps.specs.Passing.{Passed, standing_type, standing_sum, standing_plan, standing_environment, passed}
use Rattle.cond_jumps.proofs.EvenLemmas.{place_inside}
use Rattle.icfg_lower.specs.CallJumps.Ties.Sums.{IsSame}
use Rattle.icfg_lower.specs.CallJumps.Ties.Reading.{read_by}
use Rattle.icfg_lower.specs.CallJumps.Ties.Readings.{IsNumbered, StandsFor, AllStand}
use Rattle.icfg_lower.specs.CallJumps.Ties.Stands.{nothing, numbered, place_stand, or_nothing, frame_stand, argument_stand, requires_stand}
use Rattle.icfg_lower.specs.CallJumps.Ties.Numbered.{plain, numbered_columns}
use Rattle.icfg_lower.specs.CallJumps.CallLists.{passed_plan}
use Rattle.icfg_lower.proofs.CallJumps.SumLemmas.{same}
use Rattle.icfg_lower.proofs.CallJumps.ReadingLemmas.{read_reads}

-- ---- numbered columns

length_snoc : {X : Type 0} (xs : List X) (x : X) → length (xs ++ x ∷ []) ≡ suc (length xs)
length_snoc [] x = refl
length_snoc (y ∷ ys) x = ap suc (length_snoc ys x)

pub numbered_width : (w : ℕ) → length (numbered_columns w) ≡ w
numbered_width zero = refl
numbered_width (suc w) = length_snoc (numbered_columns w) (columns.Local w, plain) ∙ ap suc (numbered_width w)

place_snoc : (n : ℕ) (ds : Columns) (d : Column × VarInfo) (c : Column) → place_from n (ds ++ d ∷ []) c ≡ or_else (place_from n ds c) (place_from (n + length ds) (d ∷ []) c)
place_snoc n [] d c =
    let e : n ≡ n + 0 = omega arith in
    λ j. place_from (e j) (d ∷ []) c
place_snoc n (x ∷ ds) d c = by_test (same_frame_column x.0 c) (place_snoc (suc n) ds d c)
  where
    by_test : (b : Bool) → place_from (suc n) (ds ++ d ∷ []) c ≡ or_else (place_from (suc n) ds c) (place_from (suc n + length ds) (d ∷ []) c) →
        (if b then Some (n, x.1) else place_from (suc n) (ds ++ d ∷ []) c) ≡ or_else (if b then Some (n, x.1) else place_from (suc n) ds c) (place_from (n + suc (length ds)) (d ∷ []) c)
    by_test true h = refl
    by_test false h =
        let e : suc n + length ds ≡ n + suc (length ds) = omega arith in
        h ∙ (λ j. or_else (place_from (suc n) ds c) (place_from (e j) (d ∷ []) c))

last_place : (w i : ℕ) → place_from 0 (numbered_columns (suc w)) (columns.Local i) ≡
    or_else (place_from 0 (numbered_columns w) (columns.Local i)) (if nat_eq w i then Some (w, plain) else None)
last_place w i =
    let e : 0 + length (numbered_columns w) ≡ w = (let l = numbered_width w in omega (arith, l)) in
    place_snoc 0 (numbered_columns w) (columns.Local w, plain) (columns.Local i)
    ∙ (λ j. or_else (place_from 0 (numbered_columns w) (columns.Local i)) (if nat_eq w i then Some (e j, plain) else None))

not_placed : (w i : ℕ) → w ≤ i → place_from 0 (numbered_columns w) (columns.Local i) ≡ None
not_placed zero i l = refl
not_placed (suc w) i l =
    let e : nat_eq w i ≡ false = grind (arith, nat_tests) in
    last_place w i ∙ (λ j. or_else (not_placed w i (omega arith) j) (if e j then Some (w, plain) else None))

pub numbered_place : (w i : ℕ) → i < w → column_place_in (numbered_columns w) (columns.Local i) ≡ Some (i, plain)
numbered_place zero i l = absurd (omega arith)
numbered_place (suc w) i l = by_test (nat_eq w i) refl (λ k. numbered_place w i k)
  where
    by_test : (b : Bool) → nat_eq w i ≡ b → (i < w → place_from 0 (numbered_columns w) (columns.Local i) ≡ Some (i, plain)) →
        place_from 0 (numbered_columns (suc w)) (columns.Local i) ≡ Some (i, plain)
    by_test true e r =
        let k : w ≡ i = eqb-true w i e in
        last_place w i ∙ (λ j. or_else (not_placed w i (omega arith) j) (if e j then Some (k j, plain) else None))
    by_test false e r =
        let k : i < w = (let d = eqb-false w i e in omega (arith, d)) in
        last_place w i ∙ (λ j. or_else (r k j) (if nat_eq w i then Some (w, plain) else None))

pub numbered_is : (w : ℕ) → IsNumbered w (frame_environment (numbered_columns w))
numbered_is w =
    record {
      sums = λ i l. ap linear_at (numbered_place w i l);
      plans = λ i l want. λ j. plan_at (numbered_place w i l j) want;
    }

-- ---- columns

same_at : (u : Environment) (e : TypedExpression) (a : Linears) → linear u false e ≡ a → (n : ℕ) → IsSame (linear u false e n) (a n)
same_at u e a h n = subst (λ (b : Linears). IsSame (linear u false e n) (b n)) h (same (linear u false e n))

pub nothing_stands : (u : Environment) → StandsFor u (linear_number (pos 0)) (λ want. Just no_jumps) None nothing
nothing_stands u = record { sum_is = λ n. same (linear_number (pos 0) n); plan_is = λ want. refl; type_is = refl }

pub numbered_stands : (w : ℕ) (u : Environment) → IsNumbered w u → (i : ℕ) (t : Ty) → i < w → StandsFor u (column i) (λ want. Just (truth_of_column i want)) (Some t) (numbered i t)
numbered_stands w u h i t l = record { sum_is = same_at u (numbered i t).expression (column i) (h.sums i l); plan_is = h.plans i l; type_is = refl }

-- the column at a place
pub placed_stands : (w : ℕ) (u : Environment) → IsNumbered w u → (frame : Columns) → length frame ≤ w → (c : Column) →
    StandsFor u ((frame_environment frame).sum c) ((frame_environment frame).plan c) ((frame_environment frame).type c) (place_stand (column_place_in frame c))
placed_stands w u h frame l c = by_place (column_place_in frame c) refl
  where
    by_place : (o : Option (ℕ × VarInfo)) → column_place_in frame c ≡ o → StandsFor u (linear_at o) (plan_at o) (option_map (λ x. x.1.ty) o) (place_stand o)
    by_place None e = nothing_stands u
    by_place (Some x) e = let i : x.0 < length frame = place_inside frame c x e in numbered_stands w u h x.0 x.1.ty (omega arith)

-- an expression over the frame
pub argument_stands : (w : ℕ) (u : Environment) → IsNumbered w u → (frame : Columns) → length frame ≤ w → (e : TypedExpression) →
    StandsFor u (linear (frame_environment frame) false e) (paths (frame_environment frame) false e) (type_in (frame_environment frame) false e) (argument_stand frame e)
argument_stands w u h frame l e =
    let r = read_reads u (frame_environment frame) (frame_stand frame) (λ c. placed_stands w u h frame l c) false e in
    record { sum_is = r.sum_is; plan_is = r.plan_is; type_is = refl }

-- ---- requires

-- an argument, or nothing
parameter_stands : (w : ℕ) (u : Environment) → IsNumbered w u → (frame : Columns) → length frame ≤ w → (args : List TypedExpression) (n : ℕ) →
    StandsFor u (standing_sum (frame_environment frame) (option_map Passed (slice_get args n))) (standing_plan (frame_environment frame) (option_map Passed (slice_get args n)))
    (standing_type (frame_environment frame) (option_map Passed (slice_get args n))) (or_nothing (slice_get (map (argument_stand frame) args) n))
parameter_stands w u h frame l [] n = nothing_stands u
parameter_stands w u h frame l (e ∷ es) zero = argument_stands w u h frame l e
parameter_stands w u h frame l (e ∷ es) (suc n) = parameter_stands w u h frame l es n

pub requires_stands : (w : ℕ) (u : Environment) → IsNumbered w u → (frame : Columns) → length frame ≤ w → (args : List TypedExpression) →
    AllStand u (standing_environment (frame_environment frame) (passed args)) (requires_stand frame (map (argument_stand frame) args))
requires_stands w u h frame l args (columns.Global n) = placed_stands w u h frame l (columns.Global n)
requires_stands w u h frame l args (columns.Old n) = placed_stands w u h frame l (columns.Old n)
requires_stands w u h frame l args (columns.Local n) = parameter_stands w u h frame l args n

-- the list of a requires over numbered columns
pub requires_plan : (frame : Columns) (args : List TypedExpression) (e : TypedExpression) (want : Bool) →
    path_plan (numbered_columns (length frame)) (read_by (requires_stand frame (map (argument_stand frame) args)) false e) want ≡ passed_plan frame args e want
requires_plan frame args e want =
    let w : ℕ = length frame in
    let u : Environment = frame_environment (numbered_columns w) in
    let v : Environment = standing_environment (frame_environment frame) (passed args) in
    (read_reads u v (requires_stand frame (map (argument_stand frame) args)) (requires_stands w u (numbered_is w) frame (omega arith) args) false e).plan_is want
