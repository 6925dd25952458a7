-- What stands for the columns of the ensures of a procedure without body.
use Rattle.std.proofs.Common.{◌≡◌, inl, inr, ℕ, zero, suc, ◌+◌, ◌<◌, ◌≤◌, Bool, true, false, not, ◌||◌, cond, nat_eq, List, [], ◌∷◌, ◌++◌, map, length, Option, None, Some, refl, ◌∙◌, subst, length-append, take, drop, arith}
use Rattle.std.specs.Prelude.{slice_get}
use Rattle.std.specs.List.{AllByRecursion}
use Rattle.std.proofs.lemmas.Bool.{eqb-true}
use Rattle.std.proofs.lemmas.Bool.Decides.{nat_tests}
use Rattle.boogie_tree.specs.declared.tree.Ty.{Ty}
use Rattle.boogie_tree.specs.declared.tree.Column.{Column}
use Rattle.boogie_tree.specs.declared.tree.Column.TheVariants as columns
use Rattle.boogie_tree.specs.declared.tree.VarInfo.{VarInfo}
use Rattle.typed_tree.specs.TypedTree.{TypedExpression, TypedProcedure}
use Rattle.letter_acts.specs.Frames.{Columns}
use Rattle.cond_jumps.specs.Conjunctions.{With}
use Rattle.cond_jumps.specs.Environments.{Environment}
use Rattle.cond_jumps.specs.Frames.{frame_environment}
use Rattle.cond_jumps.specs.Passing.{Numbered, standing_type, standing_sum, standing_plan, standing_environment, left_in, passed_locals, imported}
use Rattle.lowered_graph.specs.LoweredSteps.Edges.{those_in, those_not_in, found_from, import_written, typed_column, left_if, left_at, found_or_0, results_at, all_hold, whole_columns}
use Rattle.letter_acts.specs.Reading.{is_listed}
use Rattle.icfg_lower.specs.CallJumps.Ties.Reading.{Stand, read_by}
use Rattle.icfg_lower.specs.CallJumps.Ties.Readings.{IsNumbered, StandsFor, AllStand}
use Rattle.icfg_lower.specs.CallJumps.Ties.Stands.{or_nothing, argument_stand, left_stand, ensures_stand, result_stand}
use Rattle.icfg_lower.specs.CallJumps.Ties.Numbered.{numbered_columns}
use Rattle.icfg_lower.specs.CallJumps.CallLists.{ensures_plan, behind_written}
use Rattle.icfg_lower.specs.CallJumps.Ties.ImportView.{import_results, import_stands, import_conditions}
use Rattle.icfg_lower.proofs.CallJumps.PlaceLemmas.{found_inside, found_where_in, in_append}
use Rattle.icfg_lower.proofs.CallJumps.ReadingLemmas.{read_reads}
use Rattle.icfg_lower.proofs.CallJumps.StandLemmas.{nothing_stands, numbered_stands, placed_stands, argument_stands, numbered_is}

-- ---- written columns

in_others : (ms ts : List ℕ) (t : ℕ) → is_listed ms t ≡ false → is_listed ts t ≡ true → is_listed (those_not_in ms ts) t ≡ true
in_others ms [] t h k = k
in_others ms (s ∷ ts) t h k = by_test (nat_eq s t) refl (λ e. in_others ms ts t h e) k
  where
    kept : (b : Bool) → is_listed (those_not_in ms ts) t ≡ true → is_listed (cond b (s ∷ those_not_in ms ts) (those_not_in ms ts)) t ≡ true
    kept true e = by_name (nat_eq s t) e
      where
        by_name : (b : Bool) → is_listed (those_not_in ms ts) t ≡ true → (b || is_listed (those_not_in ms ts) t) ≡ true
        by_name true e = refl
        by_name false e = e
    kept false e = e

    by_test : (b : Bool) → nat_eq s t ≡ b → (is_listed ts t ≡ true → is_listed (those_not_in ms ts) t ≡ true) → (b || is_listed ts t) ≡ true → is_listed (cond (not (is_listed ms s)) (s ∷ those_not_in ms ts) (those_not_in ms ts)) t ≡ true
    by_test true e r i =
        let f : is_listed ms s ≡ false = (λ j. is_listed ms (eqb-true s t e j)) ∙ h in
        (λ j. is_listed (cond (not (f j)) (s ∷ those_not_in ms ts) (those_not_in ms ts)) t) ∙ (λ j. e j || is_listed (those_not_in ms ts) t)
    by_test false e r i = kept (not (is_listed ms s)) (r i)

-- each target is written
target_written : (ms ts : List ℕ) (t : ℕ) → is_listed ts t ≡ true → is_listed (import_written ms ts) t ≡ true
target_written ms ts t h = by_test (is_listed ms t) refl
  where
    by_test : (b : Bool) → is_listed ms t ≡ b → is_listed (import_written ms ts) t ≡ true
    by_test true e = in_append ms (those_not_in ms ts) t (inl e)
    by_test false e = in_append ms (those_not_in ms ts) t (inr (in_others ms ts t e h))

-- the columns of results are below w
abbrev pub AreBelow : ℕ → List (ℕ × Ty) → Type 0
AreBelow w rs = AllByRecursion (λ r. r.0 < w) rs

result_below : (w base : ℕ) (written : List ℕ) (t : ℕ) → base + length written ≤ w → is_listed written t ≡ true → base + found_or_0 (found_from 0 written t) < w
result_below w base written t l h =
    let f = found_where_in 0 written t h in
    let g = found_inside 0 written t f.0 f.1 in
    let e : base + found_or_0 (found_from 0 written t) ≡ base + f.0 = (λ j. base + found_or_0 (f.1 j)) in
    omega (arith, e, g)

results_below : (w base : ℕ) (written targets : List ℕ) (vs : List VarInfo) → base + length written ≤ w → ((t : ℕ) → is_listed targets t ≡ true → is_listed written t ≡ true) →
    AreBelow w (results_at base written targets vs)
results_below w base written [] vs l h = tt
results_below w base written (t ∷ ts) [] l h = tt
results_below w base written (t ∷ ts) (v ∷ vs) l h =
    (result_below w base written t l (h t (first (nat_eq t t) (same_number t))), results_below w base written ts vs l (λ s k. h s (later (nat_eq t s) (is_listed ts s) k)))
  where
    same_number : (n : ℕ) → nat_eq n n ≡ true
    same_number n = grind (arith, nat_tests)

    first : (b : Bool) → b ≡ true → (b || is_listed ts t) ≡ true
    first true e = refl
    first false e = absurd (cc)

    later : (b c : Bool) → c ≡ true → (b || c) ≡ true
    later true c e = refl
    later false c e = e

-- ---- globals

left_stands : (w : ℕ) (u : Environment) → IsNumbered w u → (frame : Columns) → length frame ≤ w → (n : ℕ) (o : Option (ℕ × Ty)) →
    ((x : ℕ × Ty) → o ≡ Some x → x.0 < w) →
    StandsFor u (standing_sum (frame_environment frame) (Some (left_in n o))) (standing_plan (frame_environment frame) (Some (left_in n o)))
    (standing_type (frame_environment frame) (Some (left_in n o))) (left_stand frame n o)
left_stands w u h frame l n None k = placed_stands w u h frame l (columns.Global n)
left_stands w u h frame l n (Some x) k = numbered_stands w u h x.0 x.1 (k x refl)

typed_inside : (w c : ℕ) (o : Option VarInfo) (x : ℕ × Ty) → c < w → typed_column c o ≡ Some x → x.0 < w
typed_inside w c None x l e = absurd (cc)
typed_inside w c (Some v) x l e = let f : (c, v.ty) ≡ x = cc in subst (λ (y : ℕ × Ty). y.0 < w) f l

left_inside : (w : ℕ) (globals : List VarInfo) (base : ℕ) (modified targets : List ℕ) (n : ℕ) (x : ℕ × Ty) →
    base + length (import_written modified targets) + length (those_in targets modified) ≤ w → left_at globals base modified targets n ≡ Some x → x.0 < w
left_inside w globals base modified targets n x l e = by_places (found_from 0 modified n) (found_from (base + length (import_written modified targets)) (those_in targets modified) n) refl refl e
  where
    by_places : (o p : Option ℕ) → found_from 0 modified n ≡ o → found_from (base + length (import_written modified targets)) (those_in targets modified) n ≡ p →
        left_if globals base n o p ≡ Some x → x.0 < w
    by_places None p f g k = absurd (cc)
    by_places (Some i) None f g k =
        let a = found_inside 0 modified n i f in
        let b = length-append modified (those_not_in modified targets) in
        typed_inside w (base + i) (slice_get globals n) x (omega (arith, a, b)) k
    by_places (Some i) (Some p) f g k =
        let a = found_inside (base + length (import_written modified targets)) (those_in targets modified) n p g in
        typed_inside w p (slice_get globals n) x (omega (arith, a)) k

-- ---- arguments and results

result_stands : (w : ℕ) (u : Environment) → IsNumbered w u → (frame : Columns) (rs : List (ℕ × Ty)) → AreBelow w rs → (n : ℕ) →
    StandsFor u (standing_sum (frame_environment frame) (slice_get (map (λ r. Numbered r.0 r.1) rs) n)) (standing_plan (frame_environment frame) (slice_get (map (λ r. Numbered r.0 r.1) rs) n))
    (standing_type (frame_environment frame) (slice_get (map (λ r. Numbered r.0 r.1) rs) n)) (or_nothing (slice_get (map result_stand rs) n))
result_stands w u h frame [] b n = nothing_stands u
result_stands w u h frame (r ∷ rs) b zero = numbered_stands w u h r.0 r.1 b.0
result_stands w u h frame (r ∷ rs) b (suc n) = result_stands w u h frame rs b.1 n

local_stands : (w : ℕ) (u : Environment) → IsNumbered w u → (frame : Columns) → length frame ≤ w → (args : List TypedExpression) (rs : List (ℕ × Ty)) → AreBelow w rs → (n : ℕ) →
    StandsFor u (standing_sum (frame_environment frame) (slice_get (passed_locals args rs) n)) (standing_plan (frame_environment frame) (slice_get (passed_locals args rs) n))
    (standing_type (frame_environment frame) (slice_get (passed_locals args rs) n)) (or_nothing (slice_get (map (argument_stand frame) args ++ map result_stand rs) n))
local_stands w u h frame l [] rs b n = result_stands w u h frame rs b n
local_stands w u h frame l (e ∷ es) rs b zero = argument_stands w u h frame l e
local_stands w u h frame l (e ∷ es) rs b (suc n) = local_stands w u h frame l es rs b n

-- ---- ensures

-- the columns of the ensures of a called procedure
pub ensures_stands : (w : ℕ) (u : Environment) → IsNumbered w u → (frame : Columns) → length frame ≤ w → (left : ℕ → Option (ℕ × Ty)) → ((n : ℕ) (x : ℕ × Ty) → left n ≡ Some x → x.0 < w) →
    (args : List TypedExpression) (rs : List (ℕ × Ty)) → AreBelow w rs →
    AllStand u (standing_environment (frame_environment frame) (imported left args rs)) (ensures_stand frame left (map (argument_stand frame) args ++ map result_stand rs))
ensures_stands w u h frame l left k args rs b (columns.Global n) = left_stands w u h frame l n (left n) (k n)
ensures_stands w u h frame l left k args rs b (columns.Old n) = placed_stands w u h frame l (columns.Global n)
ensures_stands w u h frame l left k args rs b (columns.Local n) = local_stands w u h frame l args rs b n

-- conditions that hold together
all_read_hold : (u v : Environment) (stands : Column → Stand) → AllStand u v stands → (es : List TypedExpression) → all_hold u (map (read_by stands false) es) ≡ all_hold v es
all_read_hold u v stands h [] = refl
all_read_hold u v stands h (e ∷ es) = λ j. With ((read_reads u v stands h false e).plan_is true j) (all_read_hold u v stands h es j)

both_below : (w : ℕ) (xs ys : List (ℕ × Ty)) → AreBelow w xs → AreBelow w ys → AreBelow w (xs ++ ys)
both_below w [] ys a b = b
both_below w (x ∷ xs) ys a b = (a.0, both_below w xs ys a.1 b)

higher : (v w : ℕ) → v ≤ w → (xs : List (ℕ × Ty)) → AreBelow v xs → AreBelow w xs
higher v w l [] b = tt
higher v w l (x ∷ xs) b = ((let k = b.0 in omega (arith, l, k)), higher v w l xs b.1)

pub whole_below : (w n k : ℕ) → n + k ≤ w → AreBelow w (whole_columns n k)
whole_below w n zero l = tt
whole_below w n (suc k) l = (omega (arith, l), whole_below w (suc n) k (omega (arith, l)))

pub ensures_plan_is : (frame : Columns) (base : ℕ) (globals : List VarInfo) (q : TypedProcedure) (args : List TypedExpression) (targets : List ℕ) (more : List (ℕ × Ty)) (es : List TypedExpression) →
    length frame ≤ base → AreBelow base more →
    all_hold (frame_environment (numbered_columns (behind_written base q targets))) (import_conditions frame base globals q args targets more es) ≡ ensures_plan frame base globals q args targets more es
ensures_plan_is frame base globals q args targets more es k b =
    let w : ℕ = behind_written base q targets in
    let u : Environment = frame_environment (numbered_columns w) in
    let l : length frame ≤ w = omega (arith, k) in
    let m : base + length (import_written q.modifies targets) ≤ w = omega arith in
    let n : w ≤ w = omega arith in
    let o : base ≤ w = omega arith in
    let r : AreBelow w (import_results base q targets ++ more) =
    both_below w (import_results base q targets) more
    (results_below w base (import_written q.modifies targets) targets (take q.results (drop q.params q.locals)) m (λ t k. target_written q.modifies targets t k)) (higher base w o more b) in
    all_read_hold u (standing_environment (frame_environment frame) (imported (left_at globals base q.modifies targets) args (import_results base q targets ++ more)))
    (import_stands frame base globals q args targets more)
    (ensures_stands w u (numbered_is w) frame l (left_at globals base q.modifies targets)
    (λ k x e. left_inside w globals base q.modifies targets k x n e) args (import_results base q targets ++ more) r)
    es
