-- Where the conditions of the start are true, the nodes lead from the start to where the body of the entry procedure begins.
use Rattle.std.proofs.Common.{◌≡◌, ◌∙◌, ℕ, suc, ◌+◌, true, ℤ, List, [], ◌∷◌, map, Option, None, Some, inl, refl, sym, ap, subst, arith, IsTrue}
use Rattle.std.specs.Prelude.{slice_get}
use Rattle.std.specs.List.{AllByRecursion}
use Rattle.typed_tree.specs.TypedTree.{TypedExpression, TypedBlock, TypedProcedure, TypedProgram}
use Rattle.typed_tree.specs.Values.{State, value}
use Rattle.typed_tree.specs.TypingRules.ValidProgram.{is_valid}
use Rattle.typed_tree.proofs.TypingRules.ValidLaws as valid_laws
use Rattle.lin_rows.specs.Rows.{LinearRow}
use Rattle.letter_acts.specs.Acts.{PlainAct, letter_of}
use Rattle.letter_acts.specs.Frames.{Columns, olds_of}
use Rattle.letter_acts.specs.Meaning.{Situation, InsideLeads}
use Rattle.letter_acts.specs.LetterTable.Letters.{exact_act, no_letters, lettered}
use Rattle.boogie_run.specs.BoogiePoints.Points.{Start, Point}
use Rattle.boogie_run.specs.BoogiePoints.Actions as actions
use Rattle.boogie_run.specs.BoogiePoints.Actions.{Action, action_at, start_conditions, start_action}
use Rattle.boogie_run.specs.BoogiePoints.Starts.{point_of_procedure, point_of_call, unless_none, start_point_of}
use Rattle.boogie_run.specs.BoogiePlaces.Places.{onward}
use Rattle.boogie_run.specs.Configurations.{Config, state_of}
use Rattle.boogie_run.specs.Needs.{locals_at}
use Rattle.boogie_run.specs.Steps.{is_true, moved_to}
use Rattle.triple_rows.specs.declared.triples.Scoped.{Scoped}
use Rattle.proof_names.specs.Outlines.{Sketch}
use Rattle.proof_check.proofs.Soundness.{Facts}
use Rattle.lowered_graph.specs.LoweredSteps.ProgramFrames.{frame_at, width_at, shown}
use Rattle.lowered_graph.specs.LoweredSteps.Moves.{HasTypes, FrameKeeps, IsTypedAction, IsGood}
use Rattle.lowered_graph.proofs.LoweredSteps.FrameColumns.{types_length, shown_state}
use Rattle.lowered_graph.proofs.LoweredSteps.Goodness.{stays_good}
use Rattle.lowered_graph.proofs.LoweredSteps.InsideSteps.{suppose_goes}
use Rattle.lowered_graph.specs.LoweredImports.KnownPoints.{IsPointOf}
use Rattle.lowered_graph.proofs.LoweredImports.PointLaws.{knows_points}
use Rattle.lowered_graph.specs.Arcs.{place_number, entering_rows, entering, program_arcs}
use Rattle.lowered_graph.specs.Lowered.{lowered}
use Rattle.lowered_graph.proofs.ActNumbers.{act_got}
use Rattle.lowered_graph.proofs.LetterEdges.{HasInside, inside_lettered}
use Rattle.lowered_graph.proofs.StartLetter.{IsEntered, start_leads}
use Rattle.lowered_graph.proofs.Alphabet.{inside_means}
use Rattle.explained_proof.specs.KnownRuns.Reached.{situation}
use Rattle.explained_proof.proofs.KnownRuns.NodeSteps.{Leads, stays, inside_leads}
use Rattle.explained_proof.proofs.KnownRuns.SeenSteps.{IsInside, top_seen, inside_of}
use Rattle.explained_proof.proofs.KnownRuns.Frames.{start_acts, entry_place}
use Rattle.explained_proof.proofs.KnownRuns.Ways.{first_good}
use Rattle.explained_proof.proofs.KnownRuns.Assumed.{AreTrue}

-- the letter of the start leads to its first point, and changes nothing of such a state
pub start_inside : (t : TypedProgram) → IsTrue (is_valid t) → (gs ls : List ℤ) → HasTypes t.globals gs → HasTypes (locals_at t t.entry) ls →
    IsInside t (0, situation t t.entry (record { globals = gs; old = gs; locals = ls })) (place_number t t.entry (start_point_of t (slice_get t.procs t.entry)), situation t t.entry (record { globals = gs; old = gs; locals = ls }))
start_inside t valid gs ls g l =
    let entry = valid_laws.entry t valid in
    let state : State = record { globals = gs; old = gs; locals = ls } in
    let values : List ℤ = shown t state in
    let frame : Columns = frame_at t t.entry in
    let written : List ℕ = map (λ o. o.0) (olds_of frame) in
    let rows : List LinearRow = entering_rows (width_at t t.entry) (olds_of frame) in
    let act : PlainAct = entering t.entry frame in
    let to : ℕ = place_number t t.entry (start_point_of t (slice_get t.procs t.entry)) in
    let h : HasInside (lettered (program_arcs t)) 0 (exact_act act) to = inside_lettered no_letters (program_arcs t) 0 (exact_act act) to (inl refl) in
    let keeps : FrameKeeps t t.entry state = record { globals = g; old = g; locals = l; constants = λ n v at c. refl } in
    let entered : IsEntered t values = record { globals = gs; as_many = types_length t.globals gs g; locals = ls; is = refl } in
    let led : InsideLeads frame written 0 rows values values = start_leads t t.entry values (shown_state t t.entry state keeps) entered in
    record {
      letter = letter_of h.id act;
      edge = h.edge;
      act = inside_means t t.entry h.id entry.0 written 0 rows values values entry.2 (act_got (lettered (program_arcs t)).acts h.id (exact_act act) h.act) led;
    }

module _ (t : TypedProgram) (valid : IsTrue (is_valid t)) (preds : ℕ → Option Scoped) (s : Sketch) (f : Facts (lowered t) preds s) where
  -- a condition that is assumed, and true
  record IsPast (c : Config) (next : Point) : Type 0 where
    good : IsGood t (IsPointOf t) (moved_to c next)
    inside : IsInside t (top_seen t c) (top_seen t (moved_to c next))

  past : (c : Config) (e : TypedExpression) (next : Point) → IsGood t (IsPointOf t) c → action_at t c.top.proc c.top.point ≡ actions.Suppose e next → is_true (value (state_of c) e) ≡ true → IsPast c next
  past c e next g is true_is =
      let n : ℕ = c.top.proc in
      let p : Point = c.top.point in
      let typed : IsTypedAction t n (actions.Suppose e next) = subst (IsTypedAction t n) is ((knows_points t valid).typed n p g.top.known) in
      let leads : AllByRecursion (IsPointOf t n) (onward t.procs p (actions.Suppose e next)) =
      subst (λ (a : Action). AllByRecursion (IsPointOf t n) (onward t.procs p a)) is ((knows_points t valid).onward n p g.top.known) in
      record {
        good = stays_good t (IsPointOf t) c next g leads.0;
        inside = inside_of t c (moved_to c next) g (suppose_goes t c e next is g.top.keeps typed true_is) refl;
      }

  module _ (gs ls : List ℤ) (g : HasTypes t.globals gs) (l : HasTypes (locals_at t t.entry) ls) (q : TypedProcedure) (b : TypedBlock) (is : slice_get t.procs t.entry ≡ Some q) (has : q.body ≡ Some b)
      (trues : AreTrue (record { globals = gs; old = gs; locals = ls }) (start_conditions t q)) where
    abbrev state : Situation
    state = situation t t.entry (record { globals = gs; old = gs; locals = ls })

    abbrev begin : ℕ × Situation
    begin = (0, state)

    abbrev entered : ℕ × Situation
    entered = (entry_place t t.entry, state)

    abbrev at_point : Point → Config
    at_point p = record { globals = gs; top = record { proc = t.entry; locals = ls; entry = gs; point = p; kept = [] }; below = [] }

    abbrev part : ℕ → Point
    part k = record { stage = Start; todo = []; part = k }

    abbrev first : Point
    first = point_of_call t t.entry (slice_get t.procs t.entry)

    abbrev conditions : List TypedExpression
    conditions = start_conditions t q

    -- on from the k-th condition
    walk : (es : List TypedExpression) (e : TypedExpression) (k : ℕ) → ((j : ℕ) → slice_get (e ∷ es) j ≡ slice_get conditions (k + j)) → IsGood t (IsPointOf t) (at_point (part k)) →
        Leads preds s begin (top_seen t (at_point (part k))) → Leads preds s begin entered
    walk [] e k stands good led =
        let here : slice_get conditions k ≡ Some e = (let z : k + 0 ≡ k = omega arith in sym (ap (slice_get conditions) z) ∙ sym (stands 0)) in
        let none : slice_get conditions (k + 1) ≡ None = sym (stands 1) in
        let acts : action_at t t.entry (part k) ≡ actions.Suppose e first = start_acts t t.entry (part k) q b is has refl ∙ (λ i. start_action (here i) (none i) (part k) first) in
        let m : IsPast (at_point (part k)) first = past (at_point (part k)) e first good acts (trues k e here) in
        inside_leads (lowered t) preds s f begin (top_seen t (at_point (part k))) entered m.inside.letter m.inside.edge m.inside.act led
    walk (d ∷ es) e k stands good led =
        let here : slice_get conditions k ≡ Some e = (let z : k + 0 ≡ k = omega arith in sym (ap (slice_get conditions) z) ∙ sym (stands 0)) in
        let more : slice_get conditions (k + 1) ≡ Some d = sym (stands 1) in
        let next : Point = part (k + 1) in
        let acts : action_at t t.entry (part k) ≡ actions.Suppose e next = start_acts t t.entry (part k) q b is has refl ∙ (λ i. start_action (here i) (more i) (part k) first) in
        let m : IsPast (at_point (part k)) next = past (at_point (part k)) e next good acts (trues k e here) in
        walk es d (k + 1) (λ j. let z : k + suc j ≡ k + 1 + j = omega arith in stands (suc j) ∙ ap (slice_get conditions) z) m.good
        (inside_leads (lowered t) preds s f begin (top_seen t (at_point (part k))) (top_seen t (at_point next)) m.inside.letter m.inside.edge m.inside.act led)

    by_list : (es : List TypedExpression) → ((j : ℕ) → slice_get es j ≡ slice_get conditions j) → IsGood t (IsPointOf t) (at_point (unless_none es first)) →
        Leads preds s begin (top_seen t (at_point (unless_none es first))) → Leads preds s begin entered
    by_list [] stands good led = led
    by_list (e ∷ es) stands good led = walk es e 0 (λ j. let z : j ≡ 0 + j = omega arith in stands j ∙ ap (slice_get conditions) z) good led

    pub begins : Leads preds s begin entered
    begins =
        let i = start_inside t valid gs ls g l in
        let start : Point = start_point_of t (slice_get t.procs t.entry) in
        let to_body : first ≡ point_of_procedure t t.entry q q.body = ap (point_of_call t t.entry) is in
        let start_is : start ≡ unless_none conditions first = ap (start_point_of t) is ∙ ap (unless_none conditions) (sym to_body) in
        let led : Leads preds s begin (top_seen t (at_point start)) = inside_leads (lowered t) preds s f begin begin (top_seen t (at_point start)) i.letter i.edge i.act (stays preds s begin) in
        by_list conditions (λ j. refl) (subst (λ (p : Point). IsGood t (IsPointOf t) (at_point p)) start_is (first_good t valid gs ls g l))
        (subst (λ (p : Point). Leads preds s begin (top_seen t (at_point p))) start_is led)
