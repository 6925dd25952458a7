-- Where no point reads a free product, no letter of the graph is coarse.
use Rattle.std.proofs.Common.{◌≡◌, ◌∙◌, ℕ, zero, suc, ◌+◌, Bool, true, false, not, ◌&&◌, List, [], ◌∷◌, ◌++◌, map, length, Option, None, Some, inl, inr, refl, sym, ap, subst, arith, IsTrue, if◌then◌else◌}
use Rattle.std.specs.Prelude.{slice_get, unwrap_or}
use Rattle.std.specs.List.{AllByRecursion}
use Rattle.typed_tree.specs.AffineForm.{is_empty, forms_fit}
use Rattle.typed_tree.specs.TypedTree.{TypedExpression, TypedInvariant, TypedProcedure, TypedProgram}
use Rattle.typed_tree.specs.TypingRules.ValidProgram.{is_valid}
use Rattle.nwa_base.specs.declared.letters.Letter.{Letter}
use Rattle.letter_acts.specs.Frames.{Columns}
use Rattle.letter_acts.specs.Invariant.{mark_at}
use Rattle.letter_acts.proofs.ListLemmas.{all_from_members}
use Rattle.cond_jumps.specs.Conjunctions.{Conjunction, listed_plan}
use Rattle.cond_jumps.specs.Frames.{fixed_in}
use Rattle.cond_jumps.specs.FreeProducts.FreeProducts.{free_products, all_free_products, freed, all_freed}
use Rattle.cond_jumps.specs.FreeProducts.Letters.{MarkedConjunction, marked_letter}
use Rattle.cond_jumps.specs.FreeProducts.FrameLetters.{widened, product_count, all_product_count, passed_count, put_in, told_condition, freed_passed_plan, path_letters, assign_letters, told_letters, passed_letters}
use Rattle.cond_jumps.proofs.FreeProducts.NarrowLemmas.{plain_letters}
use Rattle.cond_jumps.specs.Lists.{path_list, assign_list}
use Rattle.boogie_run.specs.BoogiePoints.Points.{Point, settled, past_first}
use Rattle.boogie_run.specs.BoogiePoints.Actions as actions
use Rattle.boogie_run.specs.BoogiePoints.Actions.{Action, action_at, ensured_conditions}
use Rattle.boogie_run.specs.BoogiePoints.Starts.{point_of_call, start_point_of, targets_at}
use Rattle.lowered_graph.specs.LoweredSteps.ProgramFrames.{frame_at, width_at, column_number}
use Rattle.lowered_graph.specs.LoweredSteps.Edges.{Spot, At, Wrong, Edge, leads, no_rows, import_written, those_in, told_ensures, import_products, import_plan, behind_helpers, import_letters, import_edges, skips, numbers_in, local_count, inside_edges, call_plan, call_letters}
use Rattle.lowered_graph.specs.LoweredSteps.Stacks.{IsAmong}
use Rattle.lowered_graph.proofs.LoweredSteps.ListSteps.{IsLed, among_led, among_either, letter_of_edge}
use Rattle.letter_acts.specs.LetterTable.Letters.{MarkedAct, exact_act, inside_arc, no_letters, lettered}
use Rattle.lowered_graph.specs.Arcs.{place_number, spot_number, return_place, entering, program_arcs}
use Rattle.lowered_graph.specs.Lowered.{lowered}
use Rattle.lowered_graph.specs.PlainPoints.{HasNone, EnsuresHaveNone, IsPlainAction, PointsArePlain}
use Rattle.lowered_graph.specs.Laws.{IsExactWord}
use Rattle.lowered_graph.proofs.EdgeArcs.{edge_act, called_act}
use Rattle.lowered_graph.proofs.Joined.{from_start_or_place}
use Rattle.lowered_graph.proofs.JoinedBack.{inside_parts, no_inside, CallFrom, call_from}
use Rattle.lowered_graph.proofs.GraphActs.{ActOf, of_inside, of_call, of_back, acts_from}
use Rattle.lowered_graph.proofs.WholeGraph.{known_point}

-- ---- letters without products

abbrev AreExact : List MarkedConjunction → Type 0
AreExact ls = AllByRecursion (λ l. l.coarse ≡ false) ls

plain_marks : (low count more : ℕ) (cs : List Conjunction) → count ≡ 0 → AreExact (map (marked_letter low count more) cs)
plain_marks low count more [] e = tt
plain_marks low count more (c ∷ cs) e = (ap (λ (k : ℕ). (marked_letter low k more c).coarse) e ∙ ap (λ (l : MarkedConjunction). l.coarse) (plain_letters low more c), plain_marks low count more cs e)

behind_marks : (low count more own : ℕ) (cs : List Conjunction) → count ≡ 0 → AreExact (map (λ c. behind_helpers own (marked_letter low count more c)) cs)
behind_marks low count more own [] e = tt
behind_marks low count more own (c ∷ cs) e =
    (ap (λ (k : ℕ). (marked_letter low k more c).coarse) e ∙ ap (λ (l : MarkedConjunction). l.coarse) (plain_letters low more c), behind_marks low count more own cs e)

all_none : (frame : Columns) (es : List TypedExpression) → AllByRecursion (HasNone frame) es → all_free_products (fixed_in frame) es ≡ []
all_none frame [] h = refl
all_none frame (e ∷ es) h = let x : free_products (fixed_in frame) false e ≡ [] = h.0 in let y : all_free_products (fixed_in frame) es ≡ [] = all_none frame es h.1 in λ i. x i ++ y i

-- a condition without products is told as it is
told_as_it_is : (frame : Columns) (args : List TypedExpression) (e : TypedExpression) → HasNone frame e → told_condition (fixed_in frame) args e ≡ e
told_as_it_is frame args e h = ap (λ (ps : List TypedExpression). if not (is_empty ps) && forms_fit (fixed_in frame) false (put_in args e) then put_in args e else e) h

path_exact : (frame : Columns) (m : ℕ) (e : TypedExpression) (want : Bool) → HasNone frame e → AreExact (path_letters frame m e want)
path_exact frame m e want h =
    plain_marks (length frame) (product_count frame e) 0 (path_list (widened frame m (product_count frame e)) (freed (fixed_in frame) m false e) want) (ap length h)

assign_exact : (frame : Columns) (m : ℕ) (es : List TypedExpression) → AllByRecursion (HasNone frame) es → AreExact (assign_letters frame m (length es) es)
assign_exact frame m es h =
    plain_marks (length frame) (all_product_count frame es) (length es) (assign_list (widened frame m (all_product_count frame es)) (length es) (all_freed (fixed_in frame) m es)) (ap length (all_none frame es h))

told_exact : (frame : Columns) (m : ℕ) (args : List TypedExpression) (e : TypedExpression) (want : Bool) → HasNone frame e → AllByRecursion (HasNone frame) args → AreExact (told_letters frame m args e want)
told_exact frame m args e want h k =
    let x : length (free_products (fixed_in frame) false e) ≡ 0 = ap length h in
    let y : length (all_free_products (fixed_in frame) args) ≡ 0 = ap length (all_none frame args k) in
    plain_marks (length frame) (passed_count frame args e) 0 (listed_plan (freed_passed_plan frame m args e want) (length (widened frame m (passed_count frame args e)))) (omega (arith, x, y))

passed_exact : (frame : Columns) (m : ℕ) (args : List TypedExpression) (e : TypedExpression) (want : Bool) → HasNone frame e → AllByRecursion (HasNone frame) args → AreExact (passed_letters frame m args e want)
passed_exact frame m args e want h k = subst (λ (c : TypedExpression). AreExact (told_letters frame m args c want)) (sym (told_as_it_is frame args e h)) (told_exact frame m args e want h k)

told_none : (frame : Columns) (args : List TypedExpression) (is : List TypedInvariant) → AllByRecursion (λ i. HasNone frame i.cond) is → AllByRecursion (HasNone frame) (map (λ i. told_condition (fixed_in frame) args i.cond) is)
told_none frame args [] h = tt
told_none frame args (i ∷ is) h = (subst (HasNone frame) (sym (told_as_it_is frame args i.cond h.0)) h.0, told_none frame args is h.1)

import_exact : (frame : Columns) (t : TypedProgram) (m : ℕ) (q : TypedProcedure) (args : List TypedExpression) (targets : List ℕ) → AllByRecursion (HasNone frame) args → EnsuresHaveNone frame (Some q) →
    AreExact (import_letters frame m t.globals q args targets)
import_exact frame t m q args targets h k =
    let x : length (all_free_products (fixed_in frame) args) ≡ 0 = ap length (all_none frame args h) in
    let y : length (all_free_products (fixed_in frame) (told_ensures frame q args)) ≡ 0 = ap length (all_none frame (told_ensures frame q args) (told_none frame args (ensured_conditions q.specs) k)) in
    let written : ℕ = length (import_written q.modifies targets) in
    let own : ℕ = length (those_in targets q.modifies) in
    let free : ℕ = import_products frame q args in
    behind_marks (length frame) free (written + own) own (listed_plan (import_plan frame m t.globals q args targets) (length frame + free + written + own)) (omega (arith, x, y))

-- ---- edges

exact_among : (ls : List MarkedConjunction) (l : MarkedConjunction) → AreExact ls → IsAmong ls l → l.coarse ≡ false
exact_among [] l h i = absurd i
exact_among (k ∷ ks) l h (inl e) = ap (λ (x : MarkedConjunction). x.coarse) (sym e) ∙ h.0
exact_among (k ∷ ks) l h (inr i) = exact_among ks l h.1 i

leads_exact : (w : List ℕ) (ls : List MarkedConjunction) (to : Spot) (e : Edge) → AreExact ls → IsAmong (leads w ls to) e → e.coarse ≡ false
leads_exact w ls to e h i = let l : IsLed w ls to e = among_led w ls to e i in exact_among ls (letter_of_edge e) h l.member

both_exact : (xs ys : List MarkedConjunction) (to other : Spot) (e : Edge) → AreExact xs → AreExact ys → IsAmong (leads [] xs to ++ leads [] ys other) e → e.coarse ≡ false
both_exact xs ys to other e h k i = elim (among_either (leads [] xs to) (leads [] ys other) e i) [ inl j ↦ leads_exact [] xs to e h j | inr j ↦ leads_exact [] ys other e k j ]

skips_exact : (ways : List Point) (e : Edge) → IsAmong (skips ways) e → e.coarse ≡ false
skips_exact [] e i = absurd i
skips_exact (p ∷ ps) e i = elim (among_either (leads [] no_rows (At p)) (skips ps) e i) [ inl j ↦ leads_exact [] no_rows (At p) e (refl, tt) j | inr j ↦ skips_exact ps e j ]

imports_exact : (t : TypedProgram) (n : ℕ) (o : Option TypedProcedure) (args : List TypedExpression) (targets : List ℕ) (next : Point) (e : Edge) → AllByRecursion (HasNone (frame_at t n)) args → EnsuresHaveNone (frame_at t n) o →
    IsAmong (import_edges (frame_at t n) (local_count t n) t.globals o args targets next) e → e.coarse ≡ false
imports_exact t n None args targets next e h k i = absurd i
imports_exact t n (Some q) args targets next e h k i =
    leads_exact (import_written q.modifies targets) (import_letters (frame_at t n) (local_count t n) t.globals q args targets) (At next) e (import_exact (frame_at t n) t (local_count t n) q args targets h k) i

edge_exact : (t : TypedProgram) (n : ℕ) (p : Point) (a : Action) (e : Edge) → IsPlainAction t n a → IsAmong (inside_edges t n p a) e → e.coarse ≡ false
edge_exact t n p (actions.Check id at c next) e h i =
    both_exact (path_letters (frame_at t n) (local_count t n) c true) (path_letters (frame_at t n) (local_count t n) c false) (At next) (Wrong id) e
    (path_exact (frame_at t n) (local_count t n) c true h) (path_exact (frame_at t n) (local_count t n) c false h) i
edge_exact t n p (actions.Suppose c next) e h i = leads_exact [] (path_letters (frame_at t n) (local_count t n) c true) (At next) e (path_exact (frame_at t n) (local_count t n) c true h) i
edge_exact t n p (actions.Demand id at c args next) e h i =
    both_exact (passed_letters (frame_at t n) (local_count t n) args c true) (passed_letters (frame_at t n) (local_count t n) args c false) (At next) (Wrong id) e
    (passed_exact (frame_at t n) (local_count t n) args c true h.0 h.1) (passed_exact (frame_at t n) (local_count t n) args c false h.0 h.1) i
edge_exact t n p (actions.Write cs es next) e h i =
    leads_exact (numbers_in (frame_at t n) cs) (assign_letters (frame_at t n) (local_count t n) (length es) es) (At next) e (assign_exact (frame_at t n) (local_count t n) es h) i
edge_exact t n p (actions.Guess c next) e h i = leads_exact (column_number (frame_at t n) c ∷ []) no_rows (At next) e (refl, tt) i
edge_exact t n p (actions.Test c hit miss) e h i =
    both_exact (path_letters (frame_at t n) (local_count t n) c true) (path_letters (frame_at t n) (local_count t n) c false) (At hit) (At miss) e
    (path_exact (frame_at t n) (local_count t n) c true h) (path_exact (frame_at t n) (local_count t n) c false h) i
edge_exact t n p (actions.Pick ways) e h i = skips_exact ways e i
edge_exact t n p (actions.Jump next) e h i = skips_exact (next ∷ []) e i
edge_exact t n p (actions.Enter f args) e h i = absurd i
edge_exact t n p (actions.Keep f args c next) e h i =
    imports_exact t n (slice_get t.procs f) args (numbers_in (frame_at t n) (targets_at p.todo)) (settled (past_first t.procs p.todo)) e h.0 h.1 i
edge_exact t n p (actions.Grant f args c next) e h i =
    imports_exact t n (slice_get t.procs f) args (numbers_in (frame_at t n) (targets_at p.todo)) (settled (past_first t.procs p.todo)) e h.0 h.1 i
edge_exact t n p (actions.Finish f args targets next) e h i =
    imports_exact t n (slice_get t.procs f) args (numbers_in (frame_at t n) (targets_at p.todo)) (settled (past_first t.procs p.todo)) e h.0 h.1 i
edge_exact t n p actions.Leave e h i = absurd i

call_exact : (t : TypedProgram) (n f : ℕ) (args : List TypedExpression) → AllByRecursion (HasNone (frame_at t n)) args → AreExact (call_letters t n f args)
call_exact t n f args h =
    let free : ℕ = all_product_count (frame_at t n) args in
    plain_marks (width_at t n) free (width_at t f) (listed_plan (call_plan t n args) (width_at t n + free + width_at t f)) (ap length (all_none (frame_at t n) args h))

-- ---- acts

called_exact : (t : TypedProgram) → PointsArePlain t → (a : MarkedAct) (q to from : ℕ) (targets : List ℕ) (behind : ℕ) → CallFrom t a q to from targets behind → a.coarse ≡ false
called_exact t plain a q to from targets behind w =
    let h : IsPlainAction t w.proc (actions.Enter w.callee w.args) = subst (IsPlainAction t w.proc) w.action (plain w.proc w.point (known_point t w.proc w.point w.known)) in
    ap (λ (m : MarkedAct). m.coarse) (sym w.parts.act) ∙ exact_among (call_letters t w.proc w.callee w.args) w.letter (call_exact t w.proc w.callee w.args h) w.among

act_exact : (t : TypedProgram) → IsTrue (is_valid t) → PointsArePlain t → (a : MarkedAct) → ActOf (program_arcs t) (lettered (program_arcs t)).acts a → a.coarse ≡ false
act_exact t v plain a (of_inside q e m) = elim (from_start_or_place t v (inside_arc q a e) m) [
  | inl start ↦ (let parts = inside_parts 0 q (exact_act (entering t.entry (frame_at t t.entry))) a (place_number t t.entry (start_point_of t (slice_get t.procs t.entry))) e start in
      ap (λ (m : MarkedAct). m.coarse) (sym parts.1))
  | inr k ↦ elim k.3 [
    | inl w ↦ (let parts = inside_parts (place_number t k.0 k.1) q (edge_act k.0 w.edge) a (spot_number t k.0 w.edge.to) e w.is in
        ap (λ (m : MarkedAct). m.coarse) (sym parts.1) ∙ edge_exact t k.0 k.1 (action_at t k.0 k.1) w.edge (plain k.0 k.1 (known_point t k.0 k.1 k.2)) w.among)
    | inr c ↦ absurd (no_inside q (place_number t k.0 k.1) a (called_act k.0 c.callee c.letter) e (place_number t c.callee (point_of_call t c.callee (slice_get t.procs c.callee)))
        (return_place t c.callee) (numbers_in (frame_at t k.0) (targets_at k.1.todo)) (place_number t k.0 (settled (past_first t.procs k.1.todo))) (sym c.is))
  ]
]
act_exact t v plain a (of_call q e x targets k m) = called_exact t plain a q e x targets k (call_from t v a q e x targets k m)
act_exact t v plain a (of_back q e x b targets k call m is same) = ap (λ (m : MarkedAct). m.coarse) (sym same)

marks_false : (acts : List MarkedAct) (n : ℕ) → AllByRecursion (λ a. a.coarse ≡ false) acts → unwrap_or (slice_get (map (λ a. a.coarse) acts) n) false ≡ false
marks_false [] n h = refl
marks_false (a ∷ acts) zero h = h.0
marks_false (a ∷ acts) (suc n) h = marks_false acts n h.1

-- no letter is coarse
pub letters_exact : (t : TypedProgram) → IsTrue (is_valid t) → PointsArePlain t → (n : ℕ) → mark_at (lowered t) n ≡ false
letters_exact t v plain n =
    marks_false (lettered (program_arcs t)).acts n
    (all_from_members (λ a. a.coarse ≡ false) (lettered (program_arcs t)).acts
    (λ a m. act_exact t v plain a (elim (acts_from no_letters (program_arcs t) a m) [ inl none ↦ absurd none | inr h ↦ h ])))

pub word_exact : (t : TypedProgram) → ((n : ℕ) → mark_at (lowered t) n ≡ false) → (w : List Letter) → IsExactWord (lowered t) w
word_exact t h [] = tt
word_exact t h (a ∷ w) = (h a.id, word_exact t h w)
