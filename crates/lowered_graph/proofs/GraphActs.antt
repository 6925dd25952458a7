-- All acts of a program's graph are as the graph keeps them, where what its actions write is typed and the numbers of columns fit.
use Rattle.std.proofs.Common.{◌≡◌, ◌∙◌, ◌⊎◌, ℕ, suc, ◌+◌, ◌<◌, ◌≤◌, ◌^◌, pos, negsuc, false, List, [], ◌∷◌, ◌++◌, map, length, Option, None, Some, inl, inr, refl, sym, ap, subst, arith, IsTrue}
use Rattle.std.specs.Prelude.{slice_get, IsSomeAnd}
use Rattle.std.specs.List.{AllByRecursion}
use Rattle.std.proofs.lemmas.List.{length-append, length-map}
use Rattle.std.proofs.lemmas.Option.{slice_get_within}
use Rattle.boogie_tree.specs.declared.tree.Column.{Column}
use Rattle.boogie_tree.specs.declared.tree.Column.TheVariants as columns
use Rattle.boogie_tree.specs.declared.tree.VarInfo.{VarInfo}
use Rattle.typed_tree.specs.TypedTree.{TypedExpression, TypedProcedure, TypedProgram}
use Rattle.typed_tree.specs.TypingRules.ValidProgram.{is_valid}
use Rattle.typed_tree.proofs.TypingRules.ValidLaws as valid
use Rattle.math_facts.specs.Terms.{IsBelow}
use Rattle.nwa_base.specs.Members.{Member}
use Rattle.letter_acts.specs.Frames.{Columns, ConstantsFirst, globals_from, old_columns, locals_from, olds_from, olds_of}
use Rattle.letter_acts.specs.Acts.{PlainAct, inside_act, call_act, back_act, frame_of}
use Rattle.letter_acts.specs.Invariant.{AreDistinct, MayWrite, inside_width, InsideIsActed, MayName, CallIsActed, written_by, BackIsActed, BackIsActedFrom, IsActed}
use Rattle.cond_jumps.proofs.FormLemmas.{below-summed}
use Rattle.boogie_run.specs.BoogiePoints.Points.{Point, settled, past_first}
use Rattle.boogie_run.specs.BoogiePoints.Actions as actions
use Rattle.boogie_run.specs.BoogiePoints.Actions.{action_at}
use Rattle.boogie_run.specs.BoogiePoints.Starts.{point_of_call, start_point_of, targets_at}
use Rattle.boogie_run.specs.Needs.{locals_at}
use Rattle.lowered_graph.specs.LoweredSteps.ProgramFrames.{frame_at}
use Rattle.lowered_graph.specs.LoweredSteps.Edges.{Edge, numbers_in}
use Rattle.lowered_graph.specs.Arcs.{place_number, spot_number, return_place, entering_rows, entering, program_arcs}
use Rattle.letter_acts.specs.LetterTable.Letters.{MarkedAct, exact_act, Arc, inside_arc, call_arc, act_place_from, act_number, unless_there, with_act, Lettered, with_arc, with_arcs, no_letters, lettered}
use Rattle.lowered_graph.specs.Lowered.{lowered}
use Rattle.letter_acts.specs.Widths.{back_width, act_width, ActsFit}
use Rattle.lowered_graph.proofs.ActNumbers.{act_numbered, act_got, longer_get, longer_than, with_longer}
use Rattle.lowered_graph.proofs.LetterEdges.{arcs_longer}
use Rattle.lowered_graph.proofs.KnownPlaces.{IsKnown}
use Rattle.lowered_graph.proofs.EdgeArcs.{edge_act, called_act, EdgeOfArc}
use Rattle.lowered_graph.proofs.Alphabet.{letters_of, frame_is, proc_exists}
use Rattle.lowered_graph.proofs.Joined.{from_start_or_place}
use Rattle.lowered_graph.proofs.JoinedBack.{inside_parts, no_inside, CallFrom, call_from}
use Rattle.lowered_graph.proofs.FrameTargets.{StandsFor, frame_stands}
use Rattle.lowered_graph.proofs.EdgeActs.{ActionWrites, EdgeIsActed, edge_acted}
use Rattle.lowered_graph.proofs.CallActs.{CallIsKnown, call_may_name, back_acted}
use Rattle.lowered_graph.proofs.Lists.{before_or_last}
use Rattle.letter_acts.proofs.ListLemmas.{all_weaker}
use Rattle.lowered_graph.proofs.StartLetter.{globals_count}

-- what typing says of the actions of a program
pub record ActionsAreTyped (t : TypedProgram) : Type 0 where
  pub writes : (n : ℕ) (p : Point) → IsKnown t n p → ActionWrites t n p (action_at t n p)
  pub calls : (n : ℕ) (p : Point) (f : ℕ) (args : List TypedExpression) → IsKnown t n p → action_at t n p ≡ actions.Enter f args → CallIsKnown t n f args (targets_at p.todo)
  pub first : (n : ℕ) → ConstantsFirst (locals_at t n)

-- ---- each act is that of an arc

pub data ActOf (arcs : List Arc) (acts : List MarkedAct) (a : MarkedAct) : Type 0 where
  of_inside : (q e : ℕ) → Member arcs (inside_arc q a e) → ActOf arcs acts a
  of_call : (q e x : ℕ) (targets : List ℕ) (k : ℕ) → Member arcs (call_arc q a e x targets k) → ActOf arcs acts a
  of_back : (q e x : ℕ) (b : MarkedAct) (targets : List ℕ) (k call : ℕ) → Member arcs (call_arc q b e x targets k) → slice_get acts call ≡ Some b → exact_act (back_act call targets) ≡ a → ActOf arcs acts a

later_act : (b : Arc) (arcs : List Arc) (acts : List MarkedAct) (a : MarkedAct) → ActOf arcs acts a → ActOf (b ∷ arcs) acts a
later_act b arcs acts a (of_inside q e m) = of_inside q e (inr m)
later_act b arcs acts a (of_call q e x targets k m) = of_call q e x targets k (inr m)
later_act b arcs acts a (of_back q e x c targets k call m i j) = of_back q e x c targets k call (inr m) i j

unless_member : (acts : List MarkedAct) (b a : MarkedAct) (o : Option ℕ) → Member (unless_there acts b o) a → Member acts a ⊎ (b ≡ a)
unless_member acts b a None m = before_or_last acts b a m
unless_member acts b a (Some n) m = inl m

with_member : (acts : List MarkedAct) (b a : MarkedAct) → Member (with_act acts b) a → Member acts a ⊎ (b ≡ a)
with_member acts b a m = unless_member acts b a (act_place_from 0 acts b) m

called_number : (d : Lettered) (q : ℕ) (b : MarkedAct) (e x : ℕ) (targets : List ℕ) (k : ℕ) (arcs : List Arc) →
    slice_get (with_arcs (with_arc d (call_arc q b e x targets k)) arcs).acts (act_number d.acts b) ≡ Some b
called_number d q b e x targets k arcs =
    let called : List MarkedAct = with_act d.acts b in
    let back : MarkedAct = exact_act (back_act (act_number d.acts b) targets) in
    longer_get called (with_arcs (with_arc d (call_arc q b e x targets k)) arcs).acts (act_number d.acts b) b
    (longer_than called (with_act called back) (with_arcs (with_arc d (call_arc q b e x targets k)) arcs).acts (with_longer called back) (arcs_longer (with_arc d (call_arc q b e x targets k)) arcs))
    (act_numbered d.acts b)

pub acts_from : (d : Lettered) (arcs : List Arc) (a : MarkedAct) → Member (with_arcs d arcs).acts a → Member d.acts a ⊎ ActOf arcs (with_arcs d arcs).acts a
acts_from d [] a m = inl m
acts_from d (inside_arc q b e ∷ arcs) a m = elim (acts_from (with_arc d (inside_arc q b e)) arcs a m) [
  | inl k ↦ elim (with_member d.acts b a k) [
    | inl old ↦ inl old
    | inr is ↦ inr (of_inside q e (inl (ap (λ (c : MarkedAct). inside_arc q c e) is)))
  ]
  | inr h ↦ inr (later_act (inside_arc q b e) arcs (with_arcs (with_arc d (inside_arc q b e)) arcs).acts a h)
]
acts_from d (call_arc q b e x targets k ∷ arcs) a m = elim (acts_from (with_arc d (call_arc q b e x targets k)) arcs a m) [
  | inl i ↦ elim (with_member (with_act d.acts b) (exact_act (back_act (act_number d.acts b) targets)) a i) [
    | inl j ↦ elim (with_member d.acts b a j) [
      | inl old ↦ inl old
      | inr is ↦ inr (of_call q e x targets k (inl (ap (λ (c : MarkedAct). call_arc q c e x targets k) is)))
    ]
    | inr is ↦ inr (of_back q e x b targets k (act_number d.acts b) (inl refl) (called_number d q b e x targets k arcs) is)
  ]
  | inr h ↦ inr (later_act (call_arc q b e x targets k) arcs (with_arcs (with_arc d (call_arc q b e x targets k)) arcs).acts a h)
]

-- ---- the letter of the start

-- an old column stands at its number
olds_standing : (t : TypedProgram) (n k : ℕ) (cs : Columns) → AllByRecursion (StandsFor t n) cs → ((i : ℕ) (d : Column × VarInfo) → slice_get cs i ≡ Some d → slice_get (frame_at t n) (k + i) ≡ Some d) →
    AllByRecursion (λ o. MayWrite (frame_at t n) o.0 × (o.1 < length t.globals)) (olds_from k cs)
olds_standing t n k [] s h = tt
olds_standing t n k ((columns.Global g, v) ∷ cs) s h =
    olds_standing t n (suc k) cs s.1 (λ i d e. subst (λ (m : ℕ). slice_get (frame_at t n) m ≡ Some d) (let z : k + suc i ≡ suc k + i = omega arith in z) (h (suc i) d e))
olds_standing t n k ((columns.Old g, v) ∷ cs) s h =
    let here : k + 0 ≡ k = omega arith in
    let stands : slice_get (frame_at t n) k ≡ Some (columns.Old g, v) = subst (λ (m : ℕ). slice_get (frame_at t n) m ≡ Some (columns.Old g, v)) here (h 0 (columns.Old g, v) refl) in (
      (
        subst (λ (o : Option (Column × VarInfo)). IsSomeAnd o (λ v. v.1.constant ≡ false)) (sym stands) s.0.1,
        slice_get_within t.globals g v s.0.0,
      ),
      olds_standing t n (suc k) cs s.1 (λ i d e. subst (λ (m : ℕ). slice_get (frame_at t n) m ≡ Some d) (let z : k + suc i ≡ suc k + i = omega arith in z) (h (suc i) d e)),
    )
olds_standing t n k ((columns.Local l, v) ∷ cs) s h =
    olds_standing t n (suc k) cs s.1 (λ i d e. subst (λ (m : ℕ). slice_get (frame_at t n) m ≡ Some d) (let z : k + suc i ≡ suc k + i = omega arith in z) (h (suc i) d e))

firsts_of : (P : ℕ → Type 0) (Q : ℕ × ℕ → Type 0) (os : List (ℕ × ℕ)) → ((o : ℕ × ℕ) → Q o → P o.0) → AllByRecursion Q os → AllByRecursion P (map (λ o. o.0) os)
firsts_of P Q [] f h = tt
firsts_of P Q (o ∷ os) f h = (f o h.0, firsts_of P Q os f h.1)

olds_later : (k : ℕ) (cs : Columns) (x : ℕ) → Member (map (λ o. o.0) (olds_from k cs)) x → k ≤ x
olds_later k [] x m = absurd m
olds_later k ((columns.Global g, v) ∷ cs) x m = let l : suc k ≤ x = olds_later (suc k) cs x m in omega arith
olds_later k ((columns.Old g, v) ∷ cs) x (inl e) = omega arith
olds_later k ((columns.Old g, v) ∷ cs) x (inr m) = let l : suc k ≤ x = olds_later (suc k) cs x m in omega arith
olds_later k ((columns.Local g, v) ∷ cs) x m = let l : suc k ≤ x = olds_later (suc k) cs x m in omega arith

olds_differ : (k : ℕ) (cs : Columns) → AreDistinct (map (λ o. o.0) (olds_from k cs))
olds_differ k [] = tt
olds_differ k ((columns.Global g, v) ∷ cs) = olds_differ (suc k) cs
olds_differ k ((columns.Old g, v) ∷ cs) = (λ m. (let l : suc k ≤ k = olds_later (suc k) cs k m in omega arith), olds_differ (suc k) cs)
olds_differ k ((columns.Local g, v) ∷ cs) = olds_differ (suc k) cs

entering_below : (m k : ℕ) (os : List (ℕ × ℕ)) → AllByRecursion (λ o. o.1 < m) os → k + length os ≤ m → AllByRecursion (λ r. IsBelow m r.terms) (entering_rows k os)
entering_below m k [] h l = tt
entering_below m k (o ∷ os) h l =
    (below-summed m ((o.1, negsuc 0) ∷ (k, pos 1) ∷ []) (h.0, ((let b : k < m = omega arith in b), tt)), entering_below m (suc k) os h.1 (omega arith))

entering_acted : (t : TypedProgram) (n : ℕ) (q : TypedProcedure) → slice_get t.procs n ≡ Some q → act_width (letters_of t) (entering n (frame_at t n)) ≤ 2 ^ 32 → IsActed (letters_of t) (entering n (frame_at t n))
entering_acted t n q e fit =
    let frame : Columns = frame_at t n in
    let os : List (ℕ × ℕ) = olds_of frame in
    let written : List ℕ = map (λ o. o.0) os in
    let same : frame_of (letters_of t) n ≡ frame = frame_is t n q e in
    let standing : AllByRecursion (λ o. MayWrite frame o.0 × (o.1 < length t.globals)) os =
    olds_standing t n 0 frame (frame_stands t n) (λ i d k. subst (λ (m : ℕ). slice_get frame m ≡ Some d) (let z : i ≡ 0 + i = omega arith in z) k) in
    let count : length written ≡ length os = length-map os (λ o. o.0) in
    let globals : length frame ≡ length (globals_from 0 t.globals) + length (old_columns 0 t.globals ++ locals_from 0 (locals_at t n)) = length-append (globals_from 0 t.globals) (old_columns 0 t.globals ++ locals_from 0 (locals_at t n)) in
    let first : length (globals_from 0 t.globals) ≡ length t.globals = globals_count 0 t.globals in
    let may : AllByRecursion (MayWrite frame) written = firsts_of (MayWrite frame) (λ o. MayWrite frame o.0 × (o.1 < length t.globals)) os (λ o h. h.0) standing in
    let small : AllByRecursion (λ o. o.1 < inside_width frame written 0) os =
    all_weaker (λ o. MayWrite frame o.0 × (o.1 < length t.globals)) (λ o. o.1 < inside_width frame written 0) (λ o h. (let l : o.1 < length t.globals = h.1 in omega arith)) os standing in
    let within : AllByRecursion (λ r. IsBelow (inside_width frame written 0) r.terms) (entering_rows (length frame) os) = entering_below (inside_width frame written 0) (length frame) os small (omega arith) in
    record {
      proc_exists = proc_exists t n q e;
      may_write = subst (λ (f : Columns). AllByRecursion (MayWrite f) written) (sym same) may;
      distinct = olds_differ 0 frame;
      numbers_fit = fit;
      within = subst (λ (f : Columns). AllByRecursion (λ r. IsBelow (inside_width f written 0) r.terms) (entering_rows (length frame) os)) (sym same) within;
    }

-- ---- the acts of edges and calls

inside_acted : (t : TypedProgram) → ActionsAreTyped t → (a : MarkedAct) (q e n : ℕ) (p : Point) → IsKnown t n p → EdgeOfArc t n p (action_at t n p) (inside_arc q a e) → act_width (letters_of t) a.act ≤ 2 ^ 32 → IsActed (letters_of t) a.act
inside_acted t w a q e n p known h fit =
    let edge : Edge = h.edge in
    let own : PlainAct = inside_act n edge.written edge.rows.helpers edge.rows.rows in
    let parts = inside_parts (place_number t n p) q (edge_act n edge) a (spot_number t n edge.to) e h.is in
    let acted : EdgeIsActed t n edge = edge_acted t n p (action_at t n p) edge (w.writes n p known) h.among in
    let same : frame_of (letters_of t) n ≡ frame_at t n = frame_is t n known.procedure known.is in
    let fit_so : act_width (letters_of t) own ≤ 2 ^ 32 = subst (λ (b : MarkedAct). act_width (letters_of t) b.act ≤ 2 ^ 32) (sym parts.1) fit in
    let one : InsideIsActed (letters_of t) n edge.written edge.rows.helpers edge.rows.rows = record {
      proc_exists = proc_exists t n known.procedure known.is;
      may_write = subst (λ (f : Columns). AllByRecursion (MayWrite f) edge.written) (sym same) acted.may_write;
      distinct = acted.distinct;
      numbers_fit = fit_so;
      within = subst (λ (f : Columns). AllByRecursion (λ r. IsBelow (inside_width f edge.written edge.rows.helpers) r.terms) edge.rows.rows) (sym same) acted.within;
    } in
    subst (λ (b : MarkedAct). IsActed (letters_of t) b.act) parts.1 one

call_acted : (t : TypedProgram) → ActionsAreTyped t → (a : MarkedAct) (q to from : ℕ) (targets : List ℕ) (behind : ℕ) → CallFrom t a q to from targets behind → act_width (letters_of t) a.act ≤ 2 ^ 32 → IsActed (letters_of t) a.act
call_acted t w a q to from targets behind c fit =
    let n : ℕ = c.proc in
    let f : ℕ = c.callee in
    let own : PlainAct = call_act n f c.letter.plain.helpers c.letter.plain.rows in
    let known : CallIsKnown t n f c.args (targets_at c.point.todo) = w.calls n c.point f c.args c.known c.action in
    let caller : frame_of (letters_of t) n ≡ frame_at t n = frame_is t n c.known.procedure c.known.is in
    let callee : frame_of (letters_of t) f ≡ frame_at t f = frame_is t f known.procedure known.is in
    let may : AllByRecursion (λ r. AllByRecursion (λ x. MayName (frame_at t n) (frame_at t f) c.letter.plain.helpers x.0) r.terms) c.letter.plain.rows =
    call_may_name t n f c.args (targets_at c.point.todo) known c.letter c.among in
    let one : CallIsActed (letters_of t) n f c.letter.plain.helpers c.letter.plain.rows = record {
      caller_exists = proc_exists t n c.known.procedure c.known.is;
      callee_exists = proc_exists t f known.procedure known.is;
      numbers_fit = subst (λ (b : MarkedAct). act_width (letters_of t) b.act ≤ 2 ^ 32) (sym c.parts.act) fit;
      may_name = subst (λ (g : Columns). AllByRecursion (λ r. AllByRecursion (λ x. MayName g (frame_of (letters_of t) f) c.letter.plain.helpers x.0) r.terms) c.letter.plain.rows) (sym caller)
          (subst (λ (g : Columns). AllByRecursion (λ r. AllByRecursion (λ x. MayName (frame_at t n) g c.letter.plain.helpers x.0) r.terms) c.letter.plain.rows) (sym callee) may);
    } in
    subst (λ (b : MarkedAct). IsActed (letters_of t) b.act) c.parts.act one

return_acted : (t : TypedProgram) → ActionsAreTyped t → (b : MarkedAct) (q to from : ℕ) (targets : List ℕ) (behind call : ℕ) → CallFrom t b q to from targets behind → slice_get (letters_of t).acts call ≡ Some b.act →
    act_width (letters_of t) (back_act call targets) ≤ 2 ^ 32 → IsActed (letters_of t) (back_act call targets)
return_acted t w b q to from targets behind call c is fit =
    let n : ℕ = c.proc in
    let f : ℕ = c.callee in
    let cs : List Column = targets_at c.point.todo in
    let own : PlainAct = call_act n f c.letter.plain.helpers c.letter.plain.rows in
    let numbers : List ℕ = numbers_in (frame_at t n) cs in
    let known : CallIsKnown t n f c.args cs = w.calls n c.point f c.args c.known c.action in
    let caller : frame_of (letters_of t) n ≡ frame_at t n = frame_is t n c.known.procedure c.known.is in
    let callee : frame_of (letters_of t) f ≡ frame_at t f = frame_is t f known.procedure known.is in
    let found : slice_get (letters_of t).acts call ≡ Some own = is ∙ ap (λ (m : MarkedAct). Some m.act) (sym c.parts.act) in
    let fit_call : back_width (letters_of t) targets (Some own) ≤ 2 ^ 32 = subst (λ (o : Option PlainAct). back_width (letters_of t) targets o ≤ 2 ^ 32) found fit in
    let fit_caller : length (frame_of (letters_of t) f) + length (frame_at t n) + length (written_by (frame_at t n) targets) + c.letter.plain.helpers ≤ 2 ^ 32 =
    subst (λ (g : Columns). length (frame_of (letters_of t) f) + length g + length (written_by g targets) + c.letter.plain.helpers ≤ 2 ^ 32) caller fit_call in
    let fit_callee : length (frame_at t f) + length (frame_at t n) + length (written_by (frame_at t n) targets) + c.letter.plain.helpers ≤ 2 ^ 32 =
    subst (λ (g : Columns). length g + length (frame_at t n) + length (written_by (frame_at t n) targets) + c.letter.plain.helpers ≤ 2 ^ 32) callee fit_caller in
    let fit_so : length (frame_at t f) + length (frame_at t n) + length (written_by (frame_at t n) numbers) + c.letter.plain.helpers ≤ 2 ^ 32 =
    subst (λ (ts : List ℕ). length (frame_at t f) + length (frame_at t n) + length (written_by (frame_at t n) ts) + c.letter.plain.helpers ≤ 2 ^ 32) (sym c.parts.targets) fit_callee in
    let one : BackIsActed (frame_at t n) (frame_at t f) c.letter.plain.helpers targets = subst (BackIsActed (frame_at t n) (frame_at t f) c.letter.plain.helpers) c.parts.targets (back_acted t n f c.args cs c.letter.plain.helpers known fit_so) in
    let both : BackIsActed (frame_of (letters_of t) n) (frame_of (letters_of t) f) c.letter.plain.helpers targets =
    subst (λ (g : Columns). BackIsActed g (frame_of (letters_of t) f) c.letter.plain.helpers targets) (sym caller) (subst (λ (g : Columns). BackIsActed (frame_at t n) g c.letter.plain.helpers targets) (sym callee) one) in
    subst (BackIsActedFrom (letters_of t) targets) (sym found) both

act_acted : (t : TypedProgram) → IsTrue (is_valid t) → ActionsAreTyped t → (a : MarkedAct) → ActOf (program_arcs t) (lettered (program_arcs t)).acts a → act_width (letters_of t) a.act ≤ 2 ^ 32 → IsActed (letters_of t) a.act
act_acted t v w a (of_inside q e m) fit = elim (from_start_or_place t v (inside_arc q a e) m) [
  | inl start ↦ (let entry = valid.entry t v in
      let first : Point = start_point_of t (slice_get t.procs t.entry) in
      let parts = inside_parts 0 q (exact_act (entering t.entry (frame_at t t.entry))) a (place_number t t.entry first) e start in
      subst (λ (b : MarkedAct). IsActed (letters_of t) b.act) parts.1 (entering_acted t t.entry entry.0 entry.2 (subst (λ (b : MarkedAct). act_width (letters_of t) b.act ≤ 2 ^ 32) (sym parts.1) fit)))
  | inr k ↦ elim k.3 [
    | inl edge ↦ inside_acted t w a q e k.0 k.1 k.2 edge fit
    | inr c ↦ absurd (no_inside q (place_number t k.0 k.1) a (called_act k.0 c.callee c.letter) e (place_number t c.callee (point_of_call t c.callee (slice_get t.procs c.callee)))
        (return_place t c.callee) (numbers_in (frame_at t k.0) (targets_at k.1.todo)) (place_number t k.0 (settled (past_first t.procs k.1.todo))) (sym c.is))
  ]
]
act_acted t v w a (of_call q e x targets k m) fit = call_acted t w a q e x targets k (call_from t v a q e x targets k m) fit
act_acted t v w a (of_back q e x b targets k call m is same) fit =
    subst (λ (c : MarkedAct). IsActed (letters_of t) c.act) same
    (return_acted t w b q e x targets k call (call_from t v b q e x targets k m) (act_got (lettered (program_arcs t)).acts call b is) (subst (λ (c : MarkedAct). act_width (letters_of t) c.act ≤ 2 ^ 32) (sym same) fit))

each_acted : (t : TypedProgram) → IsTrue (is_valid t) → ActionsAreTyped t → (xs : List MarkedAct) → ((a : MarkedAct) → Member xs a → ActOf (program_arcs t) (lettered (program_arcs t)).acts a) →
    AllByRecursion (λ a. act_width (letters_of t) a ≤ 2 ^ 32) (map (λ m. m.act) xs) → AllByRecursion (IsActed (letters_of t)) (map (λ m. m.act) xs)
each_acted t v w [] h fit = tt
each_acted t v w (a ∷ xs) h fit = (act_acted t v w a (h a (inl refl)) fit.0, each_acted t v w xs (λ b m. h b (inr m)) fit.1)

pub acts_acted : (t : TypedProgram) → IsTrue (is_valid t) → ActionsAreTyped t → ActsFit (letters_of t) → AllByRecursion (IsActed (letters_of t)) (lowered t).acts
acts_acted t v w fit =
    each_acted t v w (lettered (program_arcs t)).acts (λ a m. elim (acts_from no_letters (program_arcs t) a m) [ inl none ↦ absurd none | inr h ↦ h ]) fit
