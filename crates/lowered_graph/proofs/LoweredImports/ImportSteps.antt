-- A whole call without body is one step of the stacks that show it, and each step from a configuration at such a call is a whole call.
use Rattle.std.proofs.Common.{◌≡◌, ◌⊎◌, inl, inr, ℕ, zero, suc, ◌+◌, ◌<◌, ◌≤◌, true, false, ℤ, pos, List, [], ◌∷◌, ◌++◌, map, length, take, drop, Option, None, Some, slice_get, refl, sym, ap, subst, ◌∙◌, arith, append_assoc, append-nil}
use Rattle.std.specs.List.{AllByRecursion}
use Rattle.std.proofs.lemmas.List.{length-append, length-map, length-drop, take-append-drop}
use Rattle.std.proofs.lemmas.Bool.{true≢false}
use Rattle.std.proofs.lemmas.Option.{slice_get_within}
use Rattle.boogie_tree.specs.declared.tree.VarInfo.{VarInfo}
use Rattle.typed_tree.specs.TypedTree.{TypedExpression, TypedInvariant, TypedProcedure, TypedProgram}
use Rattle.typed_tree.specs.Values.{State, member, value}
use Rattle.typed_tree.specs.Laws.{IsTruth}
use Rattle.nwa_base.specs.Members.{Member}
use Rattle.lin_rows.specs.Points.{point_of}
use Rattle.letter_acts.specs.Frames.{Columns, IsValue, IsState}
use Rattle.letter_acts.specs.Values.{picked, put_all}
use Rattle.letter_acts.specs.Invariant.{AreDistinct}
use Rattle.letter_acts.specs.Meaning.{InsideLeads}
use Rattle.letter_acts.proofs.PointLemmas.{point_of-left, point_of-right, picked_put}
use Rattle.cond_jumps.specs.Conjunctions.{Conjunction, listed_plan}
use Rattle.cond_jumps.specs.Lists.{Decide, IsMet}
use Rattle.cond_jumps.specs.Meaning.{Agrees, AllHold, Extends, Meets}
use Rattle.cond_jumps.specs.Environments.{Environment}
use Rattle.cond_jumps.specs.Worth.{Shows}
use Rattle.cond_jumps.proofs.PathLemmas.{paths_mean}
use Rattle.cond_jumps.proofs.MeaningLemmas.{agrees_refl}
use Rattle.cond_jumps.proofs.ListLemmas.{decided_at}
use Rattle.cond_jumps.specs.FreeProducts.Letters.{MarkedConjunction, marked_letter}
use Rattle.cond_jumps.specs.FreeProducts.FrameLaws.{Marks}
use Rattle.cond_jumps.proofs.FreeProducts.LetterLemmas.{exact_letters_lead}
use Rattle.cond_jumps.proofs.FreeProducts.MeanLemmas.{marks_of}
use Rattle.boogie_run.specs.BoogiePoints.Points.{Point, settled, past_first}
use Rattle.boogie_run.specs.BoogiePoints.Actions.{ensured_conditions, action_at}
use Rattle.boogie_run.specs.BoogiePoints.Starts.{targets_at}
use Rattle.boogie_run.specs.Configurations.{Config, state_of}
use Rattle.boogie_run.specs.Steps.{is_true, all_put, granted_state, moved_to, finished}
use Rattle.lowered_graph.specs.LoweredSteps.ProgramFrames.{frame_at, shown}
use Rattle.lowered_graph.specs.LoweredSteps.Edges.{At, Edge, leads, all_hold, those_in, found_from, import_written, import_edges, import_plan, import_letters, behind_helpers, inside_edges, numbers_in, local_count}
use Rattle.lowered_graph.specs.LoweredSteps.Stacks.{Stack, IsAmong, IsStep, inside}
use Rattle.lowered_graph.specs.LoweredSteps.Moves.{HasTypes, FrameKeeps, IsGood, KnowsPoints, shown_stack, shown_below}
use Rattle.typed_tree.specs.TypingRules.Rules.{results_of}
use Rattle.lowered_graph.proofs.LoweredSteps.FrameColumns.{shown_state}
use Rattle.lowered_graph.proofs.LoweredSteps.ListSteps.{MetLetter, letter_met, edge_of, letter_of_edge, edge_among, among_led, IsLed}
use Rattle.lowered_graph.specs.LoweredImports.Imports.{IsModified, IsKnownImport, IsGlobalValue, AreGlobalValues, keeping, as_value, value_of_variable, told_global}
use Rattle.lowered_graph.specs.LoweredImports.Laws.{IsToldBy}
use Rattle.lowered_graph.proofs.LoweredImports.Followed.{IsTypedIn, AreTrue, all_hold_path, all_followed}
use Rattle.lowered_graph.proofs.LoweredImports.ToldEnsures.{true_as}
use Rattle.lowered_graph.proofs.LoweredImports.ImportLists.{no_member, both_members, value_of_map, put_map, written_distinct, one_writing, two_writings, targets_there, numbers_distinct, written_either}
use Rattle.lowered_graph.proofs.LoweredImports.ImportShown.{FoundIs, found_is, IsNear, near_as, value_as}
use Rattle.lowered_graph.proofs.LoweredImports.ImportStates.{import_action, behind, behind_good, behind_shown, finished_is, global_values_length}
use Rattle.lowered_graph.proofs.LoweredImports.CallPoints as points

-- ---- letters of a call

-- behind helpers in no row
behind_among : (k : ℕ) (f : Conjunction → MarkedConjunction) (cs : List Conjunction) (l : MarkedConjunction) → IsAmong (map f cs) l → IsAmong (map (λ c. behind_helpers k (f c)) cs) (behind_helpers k l)
behind_among k f [] l i = absurd i
behind_among k f (c ∷ cs) l (inl e) = inl (ap (behind_helpers k) e)
behind_among k f (c ∷ cs) l (inr i) = inr (behind_among k f cs l i)

-- the conjunction of a letter
record IsMade (f : Conjunction → MarkedConjunction) (cs : List Conjunction) (l : MarkedConjunction) : Type 0 where
  member : Conjunction
  among : IsAmong cs member
  is : f member ≡ l

made_of : (f : Conjunction → MarkedConjunction) (cs : List Conjunction) (l : MarkedConjunction) → IsAmong (map f cs) l → IsMade f cs l
made_of f [] l i = absurd i
made_of f (c ∷ cs) l (inl e) = record { member = c; among = inl refl; is = e }
made_of f (c ∷ cs) l (inr i) = let r = made_of f cs l i in record { member = r.member; among = inr r.among; is = r.is }

meets_of : (n : ℕ) (p : ℕ → ℤ) (ds : List Conjunction) (d : Conjunction) → IsAmong ds d → Extends n p d.rows → Meets n p ds
meets_of n p [] d i e = absurd i
meets_of n p (c ∷ ds) d (inl same) e = inl (subst (λ (x : Conjunction). Extends n p x.rows) (sym same) e)
meets_of n p (c ∷ ds) d (inr i) e = inr (meets_of n p ds d i e)

-- ---- points of lists in a row

first_part : (x ps a b r : List ℤ) (c : ℕ) → c < length x + length ps → point_of (((x ++ ps) ++ (a ++ b)) ++ r) c ≡ point_of (x ++ ps) c
first_part x ps a b r c l =
    let e : length (x ++ ps) ≡ length x + length ps = length-append x ps in
    let f : length ((x ++ ps) ++ (a ++ b)) ≡ length (x ++ ps) + length (a ++ b) = length-append (x ++ ps) (a ++ b) in
    point_of-left ((x ++ ps) ++ (a ++ b)) r c (omega arith) ∙ point_of-left (x ++ ps) (a ++ b) c (omega arith)

second_part : (x ps a b r : List ℤ) (m j : ℕ) → length x + length ps ≡ m → j < length a → point_of (((x ++ ps) ++ (a ++ b)) ++ r) (m + j) ≡ point_of a j
second_part x ps a b r m j e l =
    let f : length (x ++ ps) ≡ length x + length ps = length-append x ps in
    let g : length ((x ++ ps) ++ (a ++ b)) ≡ length (x ++ ps) + length (a ++ b) = length-append (x ++ ps) (a ++ b) in
    let h : length (a ++ b) ≡ length a + length b = length-append a b in
    point_of-left ((x ++ ps) ++ (a ++ b)) r (m + j) (omega arith) ∙ point_of-right (x ++ ps) (a ++ b) (m + j) j (omega arith) ∙ point_of-left a b j l

third_part : (x ps a b r : List ℤ) (m i : ℕ) → length x + length ps + length a ≡ m → i < length b → point_of (((x ++ ps) ++ (a ++ b)) ++ r) (m + i) ≡ point_of b i
third_part x ps a b r m i e l =
    let f : length (x ++ ps) ≡ length x + length ps = length-append x ps in
    let g : length ((x ++ ps) ++ (a ++ b)) ≡ length (x ++ ps) + length (a ++ b) = length-append (x ++ ps) (a ++ b) in
    let h : length (a ++ b) ≡ length a + length b = length-append a b in
    point_of-left ((x ++ ps) ++ (a ++ b)) r (m + i) (omega arith) ∙ point_of-right (x ++ ps) (a ++ b) (m + i) (length a + i) (omega arith) ∙ point_of-right a b (length a + i) i refl

taken_point : (k i : ℕ) (zs : List ℤ) → i < k → point_of (take k zs) i ≡ point_of zs i
taken_point zero i zs l = absurd (omega arith)
taken_point (suc k) i [] l = refl
taken_point (suc k) zero (z ∷ zs) l = refl
taken_point (suc k) (suc i) (z ∷ zs) l = taken_point k i zs (omega arith)

-- true conditions
true_of_one : (z : ℤ) → z ≡ pos 1 → is_true z ≡ true
true_of_one z e = ap is_true e

one_of_true : (z : ℤ) → (z ≡ pos 0) ⊎ (z ≡ pos 1) → is_true z ≡ true → z ≡ pos 1
one_of_true z (inl e) h = absurd (true≢false (sym h ∙ ap is_true e))
one_of_true z (inr e) h = e

-- ---- lists

all_among : (P : ℕ → Type 0) (xs : List ℕ) → ((x : ℕ) → Member xs x → P x) → AllByRecursion P xs
all_among P [] h = tt
all_among P (x ∷ xs) h = (h x (inl refl), all_among P xs (λ y m. h y (inr m)))

of_all : (P : ℕ → Type 0) (xs : List ℕ) (x : ℕ) → AllByRecursion P xs → Member xs x → P x
of_all P [] x h m = absurd m
of_all P (y ∷ ys) x h (inl e) = subst P e h.0
of_all P (y ∷ ys) x h (inr m) = of_all P ys x h.1 m

-- the truth of conditions by their values
truths_as : (s u : State) (es fs : List TypedExpression) → map (value s) es ≡ map (value u) fs → AllByRecursion (λ e. IsTruth (value s e)) es → AllByRecursion (λ e. IsTruth (value u e)) fs
truths_as s u [] [] e h = tt
truths_as s u [] (f ∷ fs) e h = absurd (cc)
truths_as s u (e ∷ es) [] d h = absurd (cc)
truths_as s u (e ∷ es) (f ∷ fs) d h =
    let a : value s e ≡ value u f = cc in
    let b : map (value s) es ≡ map (value u) fs = cc in
    (subst IsTruth a h.0, truths_as s u es fs b h.1)

-- conditions where what stands for the columns has their values
all_truths : (w : ℕ) (p : ℕ → ℤ) (v : Environment) (s : State) → Shows w p v s → (es : List TypedExpression) → AllByRecursion (IsTypedIn v) es → AllByRecursion (λ e. IsTruth (value s e)) es
all_truths w p v s h [] a = tt
all_truths w p v s h (e ∷ es) a = ((paths_mean w p v s h false e a.0.typed a.0.linear).truth_value, all_truths w p v s h es a.1)

taken_length : (k : ℕ) (zs : List ℤ) → k ≤ length zs → length (take k zs) ≡ k
taken_length zero zs l = refl
taken_length (suc k) [] l = absurd (omega arith)
taken_length (suc k) (z ∷ zs) l = ap suc (taken_length k zs (omega arith))

module _ (t : TypedProgram) (Known : ℕ → Point → Type 0) (know : KnowsPoints t Known) (c : Config) (f : ℕ) (args : List TypedExpression) (g : IsGood t Known c) (k : IsKnownImport t c.top.proc c.top.point f args) where
  abbrev n : ℕ
  n = c.top.proc

  abbrev next : Point
  next = settled (past_first t.procs c.top.point.todo)

  abbrev keeps : FrameKeeps t c.top.proc (state_of c)
  keeps = g.top.keeps

  abbrev frame : Columns
  frame = frame_at t c.top.proc

  abbrev modified : List ℕ
  modified = k.procedure.modifies

  abbrev targets : List ℕ
  targets = numbers_in (frame_at t c.top.proc) (targets_at c.top.point.todo)

  abbrev written : List ℕ
  written = import_written modified targets

  abbrev both : List ℕ
  both = those_in targets modified

  abbrev before : List ℤ
  before = shown t (state_of c)

  abbrev ensured : List TypedInvariant
  ensured = ensured_conditions k.procedure.specs

  abbrev free : ℕ
  free = points.free t c f args k keeps

  -- the number of the first helper of the ensures, over the frame, the products, the written columns and the helpers of globals
  abbrev whole : ℕ
  whole = length frame + free + length written + length both

  abbrev conditions : List Conjunction
  conditions = listed_plan (import_plan frame (local_count t c.top.proc) t.globals k.procedure args targets) whole

  abbrev letter : Conjunction → MarkedConjunction
  letter = marked_letter (length frame) free (length written + length both)

  abbrev list : List MarkedConjunction
  list = import_letters frame (local_count t c.top.proc) t.globals k.procedure args targets

  before_counted : length before ≡ length frame
  before_counted = points.before_length t c f args k keeps

  edges_are : inside_edges t c.top.proc c.top.point (action_at t c.top.proc c.top.point) ≡ leads written list (At next)
  edges_are =
      (import_action t c.top.proc c.top.point f args k).edges
      ∙ ap (λ (o : Option TypedProcedure). import_edges frame (local_count t c.top.proc) t.globals o args targets next) k.is

  -- ---- from the call to the step

  module _ (held results : List ℤ) (held_typed : AreGlobalValues t.globals k.procedure.modifies held) (results_typed : HasTypes (results_of k.procedure) results) where
    abbrev middle : List ℤ
    middle = put_all before modified held

    abbrev after : List ℤ
    after = put_all middle targets results

    abbrev news : List ℤ
    news = picked after written

    abbrev helped : List ℤ
    helped = picked middle both

    abbrev further : List ℤ
    further = news ++ helped

    abbrev products : List ℤ
    products = points.products t c f args k keeps held results held_typed results_typed

    abbrev values : List ℤ
    values = (before ++ products) ++ further

    abbrev read_state : State
    read_state = points.read_state t c f args k keeps held results held_typed results_typed

    abbrev d : Config
    d = behind t c modified held results

    shown_is : (let x : Stack = record { proc = c.top.proc; spot = At next; values = after; below = shown_below t c.top.entry c.below } in x) ≡ shown_stack t d
    shown_is = behind_shown t Known know c f args g k held results held_typed results_typed

    pub good_behind : IsGood t Known d
    good_behind = behind_good t Known know c f args g k held results held_typed results_typed

    after_state : IsState frame after
    after_state =
        let s : IsState (frame_at t d.top.proc) (shown t (state_of d)) = shown_state t d.top.proc (state_of d) good_behind.top.keeps in
        let same : n ≡ d.top.proc = ap (λ (x : Stack). x.proc) shown_is in
        let shown_after : after ≡ shown t (state_of d) = ap (λ (x : Stack). x.values) shown_is in
        subst (λ (m : ℕ). IsState (frame_at t m) after) (sym same) (subst (IsState (frame_at t d.top.proc)) (sym shown_after) s)

    news_counted : length news ≡ length written
    news_counted = length-map written (point_of after)

    helped_counted : length helped ≡ length both
    helped_counted = length-map both (point_of middle)

    products_counted : length products ≡ free
    products_counted = points.products_length t c f args k keeps held results held_typed results_typed

    further_counted : length further ≡ length written + length both
    further_counted = length-append news helped ∙ (λ i. news_counted i + helped_counted i)

    values_counted : length values ≡ whole
    values_counted =
        let a : length values ≡ length (before ++ products) + length further = length-append (before ++ products) further in
        let b : length (before ++ products) ≡ length before + length products = length-append before products in
        let e = before_counted in
        let h = products_counted in
        let i = further_counted in
        omega arith

    same_values : values ++ [] ≡ values
    same_values = append-nil values

    values_show : Shows whole (point_of values) (points.environment t c f args k keeps) read_state
    values_show =
        let e : length before ≡ length frame = before_counted in
        let h : length products ≡ free = products_counted in
        let l : length news ≡ length written = news_counted in
        let m : length helped ≡ length both = helped_counted in
        let p : ℕ → ℤ = point_of (values ++ []) in
        let agrees : Agrees (length frame + free) (point_of (before ++ products)) p = record { same = λ x i. first_part before products news helped [] x (omega arith) } in
        subst (λ (zs : List ℤ). Shows whole (point_of zs) (points.environment t c f args k keeps) read_state) same_values
        (points.call_shows t c f args k keeps held results held_typed results_typed p agrees
        (λ j x s. let inside : j < length written = slice_get_within written j x s in
        second_part before products news helped [] (length frame + free) j (omega arith) (omega arith) ∙ value_of_map (point_of after) written j x s)
        (λ i x s. let inside : i < length both = slice_get_within both i x s in
        third_part before products news helped [] (length frame + free + length written) i (omega arith) (omega arith) ∙ value_of_map (point_of middle) both i x s))

    -- the values meet a letter of the call, where each ensures is true
    pub letter_is_met : AreTrue (points.ensured_state t c f args k keeps held results held_typed results_typed) (points.ensured t c f args k keeps) → MetLetter (before ++ further) (map letter conditions)
    letter_is_met h =
        let freed : List TypedExpression = points.freed_ensures t c f args k keeps in
        let reads : AreTrue read_state freed =
        true_as (points.ensured_state t c f args k keeps held results held_typed results_typed) read_state (points.ensured t c f args k keeps) freed
        (sym (points.read_values t c f args k keeps held results held_typed results_typed)) h in
        let decided : Decide values conditions (AreTrue read_state freed) =
        decided_at whole (point_of values) (listed_plan (all_hold (points.environment t c f args k keeps) freed)) (AreTrue read_state freed) values whole values_counted
        (all_hold_path whole (point_of values) (points.environment t c f args k keeps) read_state values_show freed (points.ensured_typed t c f args k keeps))
        (omega arith) (agrees_refl whole (point_of values)) in
        let marks : Marks (before ++ further) (map letter conditions) (AreTrue read_state freed) =
        marks_of before products further conditions (AreTrue read_state freed) (length frame) free (length written + length both) before_counted products_counted further_counted decided in
        letter_met (before ++ further) (map letter conditions) (marks.follow reads)

    -- an ensures is 0 or 1 there
    pub ensured_truths : AllByRecursion (λ e. IsTruth (value (points.ensured_state t c f args k keeps held results held_typed results_typed) e)) (points.ensured t c f args k keeps)
    ensured_truths =
        let freed : List TypedExpression = points.freed_ensures t c f args k keeps in
        truths_as read_state (points.ensured_state t c f args k keeps held results held_typed results_typed) freed (points.ensured t c f args k keeps)
        (points.read_values t c f args k keeps held results held_typed results_typed)
        (all_truths whole (point_of values) (points.environment t c f args k keeps) read_state values_show freed (points.ensured_typed t c f args k keeps))

    pub step_behind : AreTrue (points.ensured_state t c f args k keeps held results held_typed results_typed) (points.ensured t c f args k keeps) → IsStep t (shown_stack t c) (shown_stack t d)
    step_behind h =
        let m : MetLetter (before ++ further) (map letter conditions) = letter_is_met h in
        let l : MarkedConjunction = behind_helpers (length both) m.letter in
        let among : IsAmong list l = behind_among (length both) letter conditions m.letter m.among in
        let e : Edge = edge_of written (At next) l in
        let edge : IsAmong (inside_edges t c.top.proc c.top.point (action_at t c.top.proc c.top.point)) e =
        subst (λ (es : List Edge). IsAmong es e) (sym edges_are) (edge_among written list (At next) l among) in
        let counted : length (helped ++ m.met.helpers) ≡ length both + m.letter.plain.helpers =
        length-append helped m.met.helpers ∙ (λ i. helped_counted i + m.met.as_many i) in
        let joined_values : (before ++ news) ++ (helped ++ m.met.helpers) ≡ (before ++ further) ++ m.met.helpers =
        sym (append_assoc (before ++ news) helped m.met.helpers) ∙ ap (λ (zs : List ℤ). zs ++ m.met.helpers) (append_assoc before news helped) in
        let led : InsideLeads frame written l.plain.helpers l.plain.rows before after = record {
          before = shown_state t c.top.proc (state_of c) keeps;
          after = after_state;
          news = news;
          as_many = news_counted;
          put = two_writings before held results modified targets;
          rows_hold = record {
            helpers = helped ++ m.met.helpers;
            as_many = counted;
            hold = subst (λ (zs : List ℤ). AllHold (point_of zs) m.letter.plain.rows) (sym joined_values) m.met.hold;
          };
        } in
        subst (IsStep t (shown_stack t c)) shown_is (inside c.top.point e refl edge led refl refl refl)

  -- ---- from the step to the call

  -- what an inside step with these written columns tells
  module _ (news helpers after : List ℤ) (state : IsState frame after) (counted : length news ≡ length written) (put : after ≡ put_all before written news) where
    abbrev told : ℕ → ℤ
    told x = told_global t.globals helpers after (found_from 0 both x) x

    abbrev told_held : List ℤ
    told_held = map told modified

    abbrev told_results : List ℤ
    told_results = picked after targets

    not_found : (x : ℕ) → (Member both x → ⊥) → found_from 0 both x ≡ None
    not_found x apart = by_place (found_from 0 both x) (found_is 0 both x)
      where
        by_place : (o : Option ℕ) → FoundIs 0 (those_in (numbers_in (frame_at t c.top.proc) (targets_at c.top.point.todo)) k.procedure.modifies) x o → o ≡ None
        by_place None h = refl
        by_place (Some j) (i, e, s) = absurd (apart (points.member_of_slice (those_in (numbers_in (frame_at t c.top.proc) (targets_at c.top.point.todo)) k.procedure.modifies) i x s))

    told_other : (x : ℕ) → (Member targets x → ⊥) → told x ≡ point_of after x
    told_other x apart = ap (λ (o : Option ℕ). told_global t.globals helpers after o x) (not_found x (λ m. apart (both_members targets modified x m).0))

    told_typed : (x : ℕ) → IsModified t x → IsGlobalValue t.globals x (told x)
    told_typed x m = (m.info, m.is, by_place (found_from 0 both x))
      where
        by_place : (o : Option ℕ) → IsValue m.info.ty (told_global t.globals helpers after o x)
        by_place None = points.global_typed t c.top.proc x m.info after state m.is
        by_place (Some i) = subst (λ (o : Option VarInfo). IsValue m.info.ty (value_of_variable o (point_of helpers i))) (sym m.is) (value_as m.info.ty (point_of helpers i))

    told_held_typed : AreGlobalValues t.globals k.procedure.modifies told_held
    told_held_typed = all_told k.procedure.modifies k.modified
      where
        all_told : (ns : List ℕ) → AllByRecursion (IsModified t) ns →
            AreGlobalValues t.globals ns (map (λ x. told_global t.globals helpers after (found_from 0 (those_in (numbers_in (frame_at t c.top.proc) (targets_at c.top.point.todo)) k.procedure.modifies) x) x) ns)
        all_told [] h = tt
        all_told (x ∷ xs) h = (told_typed x h.0, all_told xs h.1)

    told_results_typed : HasTypes (results_of k.procedure) told_results
    told_results_typed = points.targets_typed t c.top.proc (results_of k.procedure) (targets_at c.top.point.todo) after state k.targets

    -- the state behind is that of the call
    told_after : after ≡ put_all (put_all before modified told_held) targets told_results
    told_after =
        let w : put_all before written news ≡ put_all (put_all before modified told_held) targets (picked (put_all before written news) targets) =
        one_writing before news modified targets told (points.inside_modified t c f args k keeps)
        (λ x apart. told_other x (no_member targets x apart) ∙ ap (λ (zs : List ℤ). point_of zs x) put) in
        put ∙ w ∙ ap (λ (zs : List ℤ). put_all (put_all before modified told_held) targets (picked zs targets)) (sym put)

    written_inside : AllByRecursion (λ x. x < length before) written
    written_inside = all_among (λ x. x < length before) written (λ x m. elim (written_either modified targets x m) [
      | inl h ↦ of_all (λ x. x < length before) modified x (points.inside_modified t c f args k keeps) h
      | inr h ↦ of_all (λ x. x < length before) targets x (points.inside_targets t c f args k keeps) h
    ])

    written_differ : AreDistinct written
    written_differ = written_distinct modified targets k.modified_differ
        (numbers_distinct t c.top.proc (targets_at c.top.point.todo) (targets_there t c.top.proc (results_of k.procedure) (targets_at c.top.point.todo) k.targets) k.targets_differ)

    news_are : news ≡ picked after written
    news_are = sym (picked_put before written news written_differ written_inside counted) ∙ ap (λ (zs : List ℤ). picked zs written) (sym put)

    -- the helpers that stand for globals, and those of the letter
    abbrev helped_by : List ℤ
    helped_by = take (length both) helpers

    abbrev told_products : List ℤ
    told_products = points.products t c f args k keeps told_held told_results told_held_typed told_results_typed

    abbrev told_state : State
    told_state = points.read_state t c f args k keeps told_held told_results told_held_typed told_results_typed

    -- where a letter that is not coarse is met, each ensures is true
    told_true : (m : Conjunction) → IsAmong conditions m → (letter m).coarse ≡ false → length both ≤ length helpers →
        IsMet (before ++ (news ++ helped_by)) (letter m).plain → AreTrue (points.ensured_state t c f args k keeps told_held told_results told_held_typed told_results_typed) (points.ensured t c f args k keeps)
    told_true m among exact enough met =
        let freed : List TypedExpression = points.freed_ensures t c f args k keeps in
        let e : length before ≡ length frame = before_counted in
        let h : length told_products ≡ free = points.products_length t c f args k keeps told_held told_results told_held_typed told_results_typed in
        let l : length helped_by ≡ length both = taken_length (length both) helpers enough in
        let further : length (news ++ helped_by) ≡ length written + length both = length-append news helped_by ∙ (λ i. counted i + l i) in
        let exact_letter : (marked_letter (length before) (length told_products) (length (news ++ helped_by)) m).coarse ≡ false = (λ i. (marked_letter (e i) (h i) (further i) m).coarse) ∙ exact in
        let met_letter : IsMet (before ++ (news ++ helped_by)) (marked_letter (length before) (length told_products) (length (news ++ helped_by)) m).plain =
        subst (λ (x : Conjunction). IsMet (before ++ (news ++ helped_by)) x) (sym (λ i. (marked_letter (e i) (h i) (further i) m).plain)) met in
        let whole_met : IsMet ((before ++ told_products) ++ (news ++ helped_by)) m = exact_letters_lead before told_products (news ++ helped_by) m exact_letter met_letter in
        let p : ℕ → ℤ = point_of (((before ++ told_products) ++ (news ++ helped_by)) ++ whole_met.helpers) in
        let agrees : Agrees (length frame + free) (point_of (before ++ told_products)) p =
        record { same = λ x i. first_part before told_products news helped_by whole_met.helpers x (omega arith) } in
        let after_is : after ≡ put_all (put_all before modified told_held) targets told_results = told_after in
        let follows = points.call_follows t c f args k keeps told_held told_results told_held_typed told_results_typed p agrees
        (λ j x s. let inside : j < length written = slice_get_within written j x s in
        second_part before told_products news helped_by whole_met.helpers (length frame + free) j (omega arith) (omega arith) ∙ ap (λ (zs : List ℤ). point_of zs j) news_are ∙ value_of_map (point_of after) written j x s
        ∙ ap (λ (zs : List ℤ). point_of zs x) after_is)
        (λ i x v first s is. let inside : i < length both = slice_get_within both i x s in
        near i x v (p (length frame + free + length written + i)) first s is
        (third_part before told_products news helped_by whole_met.helpers (length frame + free + length written) i (omega arith) (omega arith) ∙ taken_point (length both) i helpers inside)) in
        true_as told_state (points.ensured_state t c f args k keeps told_held told_results told_held_typed told_results_typed) freed (points.ensured t c f args k keeps)
        (points.read_values t c f args k keeps told_held told_results told_held_typed told_results_typed)
        (all_followed whole p (points.environment t c f args k keeps) told_state follows freed
        (points.ensured_typed t c f args k keeps) whole p (omega arith) (agrees_refl whole p)
        (meets_of whole p conditions m among (p, agrees_refl whole p, whole_met.hold)))
      where
        near : (i x : ℕ) (v : VarInfo) (z : ℤ) → found_from 0 both x ≡ Some i → slice_get both i ≡ Some x → slice_get t.globals x ≡ Some v → z ≡ point_of helpers i →
            IsNear v.ty z (member (all_put c.globals modified told_held) x)
        near i x v z first s is at =
            let own : Member modified x = (both_members targets modified x (points.member_of_slice both i x s)).1 in
            let inside : x < length c.globals = points.global_inside t c f args k keeps x v is in
            let value_is : member (all_put c.globals modified told_held) x ≡ as_value v.ty (point_of helpers i) =
            points.member_point (all_put c.globals modified told_held) x ∙ ap (λ (zs : List ℤ). point_of zs x) (points.all_put_is c.globals modified told_held)
            ∙ put_map told modified c.globals x own inside
            ∙ ap (λ (o : Option ℕ). told_global t.globals helpers after o x) first
            ∙ ap (λ (o : Option VarInfo). value_of_variable o (point_of helpers i)) is in
            subst (λ (y : ℤ). IsNear v.ty z y) (sym value_is) (subst (λ (y : ℤ). IsNear v.ty y (as_value v.ty (point_of helpers i))) (sym at) (near_as v.ty (point_of helpers i)))

  granted_of : (held results : List ℤ) (held_typed : AreGlobalValues t.globals k.procedure.modifies held) (results_typed : HasTypes (results_of k.procedure) results) → (is : List TypedInvariant) →
      AreTrue (points.ensured_state t c f args k keeps held results held_typed results_typed) (map (λ i. i.cond) is) →
      AllByRecursion (λ i. is_true (value (granted_state t (keeping c (held ++ results)) f args) i.cond) ≡ true) is
  granted_of held results h r [] a = tt
  granted_of held results h r (i ∷ is) a = (
    ap (λ (s : State). is_true (value s i.cond)) (points.granted_is t c f args k keeps held results h r) ∙ true_of_one _ a.0,
    granted_of held results h r is a.1,
  )

  -- a run reads each ensures in that state
  true_of_granted : (held results : List ℤ) (held_typed : AreGlobalValues t.globals k.procedure.modifies held) (results_typed : HasTypes (results_of k.procedure) results) → (is : List TypedInvariant) →
      AllByRecursion (λ e. IsTruth (value (points.ensured_state t c f args k keeps held results held_typed results_typed) e)) (map (λ i. i.cond) is) →
      AllByRecursion (λ i. is_true (value (granted_state t (keeping c (held ++ results)) f args) i.cond) ≡ true) is →
      AreTrue (points.ensured_state t c f args k keeps held results held_typed results_typed) (map (λ i. i.cond) is)
  true_of_granted held results h r [] w a = tt
  true_of_granted held results h r (i ∷ is) w a = (
    one_of_true _ w.0 (ap (λ (s : State). is_true (value s i.cond)) (sym (points.granted_is t c f args k keeps held results h r)) ∙ a.0),
    true_of_granted held results h r is w.1 a.1,
  )

  pub goes : (d : Config) (held results : List ℤ) → AreGlobalValues t.globals k.procedure.modifies held → HasTypes (results_of k.procedure) results →
      AllByRecursion (λ i. is_true (value (granted_state t (keeping c (held ++ results)) f args) i.cond) ≡ true) ensured →
      d ≡ moved_to (finished t (keeping c (held ++ results)) f (targets_at c.top.point.todo)) next → IsStep t (shown_stack t c) (shown_stack t d) × IsGood t Known d
  goes d held results h r a e =
      let is : d ≡ behind t c modified held results = e ∙ finished_is t c f k.procedure held results k.is (global_values_length t.globals modified held h) in
      let truths : AllByRecursion (λ e. IsTruth (value (points.ensured_state t c f args k keeps held results h r) e)) (points.ensured t c f args k keeps) = ensured_truths held results h r in
      let true_ones : AreTrue (points.ensured_state t c f args k keeps held results h r) (points.ensured t c f args k keeps) = true_of_granted held results h r ensured truths a in
      (subst (λ (x : Config). IsStep t (shown_stack t c) (shown_stack t x)) (sym is) (step_behind held results h r true_ones), subst (IsGood t Known) (sym is) (good_behind held results h r))

  -- a step by an edge of the point that is not coarse
  pub inside_back : (e : Edge) → IsAmong (inside_edges t c.top.proc c.top.point (action_at t c.top.proc c.top.point)) e → e.coarse ≡ false → (y : Stack) →
      (led : InsideLeads frame e.written e.rows.helpers e.rows.rows before y.values) → y.proc ≡ c.top.proc → y.spot ≡ e.to → y.below ≡ shown_below t c.top.entry c.below → IsToldBy t c y led.rows_hold.helpers
  inside_back e among exact y led proc spot below =
      let l : IsLed written list (At next) e = among_led written list (At next) e (subst (λ (es : List Edge). IsAmong es e) edges_are among) in
      let b : IsMade (λ x. behind_helpers (length both) (letter x)) conditions (letter_of_edge e) = made_of (λ x. behind_helpers (length both) (letter x)) conditions (letter_of_edge e) l.member in
      let helpers : List ℤ = led.rows_hold.helpers in
      let put : y.values ≡ put_all before written led.news = led.put ∙ ap (λ (ws : List ℕ). put_all before ws led.news) l.written_is in
      let counted : length led.news ≡ length written = led.as_many ∙ ap length l.written_is in
      let own : (letter b.member).coarse ≡ false = ap (λ (x : MarkedConjunction). x.coarse) b.is ∙ exact in
      let many : length helpers ≡ length both + (letter b.member).plain.helpers = led.rows_hold.as_many ∙ ap (λ (x : MarkedConjunction). x.plain.helpers) (sym b.is) in
      let enough : length both ≤ length helpers = omega arith in
      let firsts : List ℤ = take (length both) helpers in
      let rest : List ℤ = drop (length both) helpers in
      let joined_values : (before ++ led.news) ++ helpers ≡ (before ++ (led.news ++ firsts)) ++ rest =
      ap (λ (zs : List ℤ). (before ++ led.news) ++ zs) (sym (take-append-drop (length both) helpers)) ∙ sym (append_assoc (before ++ led.news) firsts rest)
      ∙ ap (λ (zs : List ℤ). zs ++ rest) (append_assoc before led.news firsts) in
      let hold : AllHold (point_of ((before ++ led.news) ++ helpers)) (letter b.member).plain.rows =
      subst (λ (x : MarkedConjunction). AllHold (point_of ((before ++ led.news) ++ helpers)) x.plain.rows) (sym b.is) led.rows_hold.hold in
      let rest_length : length rest ≡ (letter b.member).plain.helpers = length-drop (length both) helpers ∙ omega arith in
      let met : IsMet (before ++ (led.news ++ firsts)) (letter b.member).plain = record {
        helpers = rest;
        as_many = rest_length;
        hold = subst (λ (zs : List ℤ). AllHold (point_of zs) (letter b.member).plain.rows) joined_values hold;
      } in
      let held : List ℤ = told_held led.news helpers y.values led.after counted put in
      let results : List ℤ = told_results led.news helpers y.values led.after counted put in
      let h : AreGlobalValues t.globals k.procedure.modifies held = told_held_typed led.news helpers y.values led.after counted put in
      let r : HasTypes (results_of k.procedure) results = told_results_typed led.news helpers y.values led.after counted put in
      let a : AreTrue (points.ensured_state t c f args k keeps held results h r) (points.ensured t c f args k keeps) = told_true led.news helpers y.values led.after counted put b.member b.among own enough met in
      let d : Config = moved_to (finished t (keeping c (held ++ results)) f (targets_at c.top.point.todo)) next in
      let is : d ≡ behind t c modified held results = finished_is t c f k.procedure held results k.is (global_values_length t.globals modified held h) in
      let values : y.values ≡ put_all (put_all before modified held) targets results = told_after led.news helpers y.values led.after counted put in
      let to : y.spot ≡ At next = spot ∙ l.to_is in
      let stack : y ≡ (let x : Stack = record { proc = c.top.proc; spot = At next; values = put_all (put_all before modified held) targets results; below = shown_below t c.top.entry c.below } in x) =
      (λ i. record { proc = proc i; spot = to i; values = values i; below = below i }) in
      record {
        behind = d;
        whole = record {
          callee = f;
          args = args;
          known = k;
          held = held;
          held_typed = h;
          results = results;
          results_typed = r;
          granted = granted_of held results h r ensured a;
          done = refl;
        };
        shown = stack ∙ shown_is held results h r ∙ ap (shown_stack t) (sym is);
        held = refl;
        results = refl;
      }
