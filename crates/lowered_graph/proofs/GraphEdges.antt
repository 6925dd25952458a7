-- The edges of a program's graph lead where their acts say, and each place has one call letter.
use Rattle.std.proofs.Common.{◌≡◌, ◌≢◌, ◌∙◌, ℕ, zero, suc, ◌+◌, ◌≤◌, List, [], ◌∷◌, ◌++◌, map, length, Option, Some, inl, inr, refl, sym, ap, subst, arith, IsTrue}
use Rattle.std.specs.Prelude.{slice_get, IsSome}
use Rattle.std.specs.List.{AllByRecursion}
use Rattle.std.specs.Option.{option_map}
use Rattle.std.proofs.lemmas.List.{length-map}
use Rattle.boogie_tree.specs.declared.span.Span.{Span}
use Rattle.typed_tree.specs.TypedTree.{TypedExpression, TypedBlock, TypedProcedure, TypedProgram}
use Rattle.typed_tree.specs.TypingRules.ValidProgram.{is_valid}
use Rattle.nwa_base.specs.Members.{Member}
use Rattle.nwa_base.specs.declared.letters.Letter.{Letter}
use Rattle.letter_acts.specs.declared.sites.Site.{Site}
use Rattle.letter_acts.specs.Frames.{Columns}
use Rattle.letter_acts.specs.Acts.{PlainAct, inside_act, call_act, back_act, act_of, frame_of}
use Rattle.letter_acts.specs.Invariant.{IsPlaceOf, InsideStays, IsOld, WritesNoOld, InsideFollows, CallEnters, CallFollows, BackLeaves, BackFollows, HasOneCall, HasEdges}
use Rattle.cond_jumps.specs.Conjunctions.{Conjunction, listed_plan, joined}
use Rattle.cond_jumps.specs.Forms.{Linear, column, after}
use Rattle.cond_jumps.specs.Comparisons.{equal}
use Rattle.cond_jumps.specs.Environments.{Environment}
use Rattle.cond_jumps.specs.Frames.{frame_environment, fixed_in}
use Rattle.cond_jumps.specs.FreeProducts.FreeProducts.{all_freed}
use Rattle.cond_jumps.specs.FreeProducts.Letters.{MarkedConjunction, marked_letter}
use Rattle.cond_jumps.specs.FreeProducts.FrameLetters.{widened, all_product_count}
use Rattle.boogie_run.specs.BoogiePoints.Points.{Point, settled, past_first}
use Rattle.boogie_run.specs.BoogiePoints.Actions as actions
use Rattle.boogie_run.specs.BoogiePoints.Actions.{Action, action_at}
use Rattle.boogie_run.specs.BoogiePoints.Starts.{point_of_call, start_point_of, targets_at}
use Rattle.boogie_run.specs.BoogiePlaces.Places.{count_from, program_places}
use Rattle.lowered_graph.specs.LoweredSteps.ProgramFrames.{frame_at, width_at}
use Rattle.lowered_graph.specs.LoweredSteps.Edges.{Spot, At, Wrong, Edge, inside_edges, argument_sum, columns_before_locals, parameters_get, call_letters, numbers_in, local_count}
use Rattle.lowered_graph.specs.LoweredSteps.Stacks.{IsAmong}
use Rattle.lowered_graph.specs.Arcs.{place_number, error_place, spot_number, return_place, entering, start_arc, program_arcs}
use Rattle.letter_acts.specs.LetterTable.Letters.{MarkedAct, exact_act, inside_arc, lettered}
use Rattle.lowered_graph.specs.LetterLaws.{InsideOf, CallOf, BackOf}
use Rattle.lowered_graph.specs.Lowered.{site, program_sites, entry_of, exit_of, place_owners, lowered}
use Rattle.lowered_graph.proofs.ActNumbers.{one_index, act_got}
use Rattle.lowered_graph.proofs.LetterSets.{acts_differ, insides_are, calls_are, backs_are}
use Rattle.lowered_graph.proofs.KnownPlaces.{PlaceLaws, IsKnown, known_start, known_entry, known_number, known_once}
use Rattle.lowered_graph.proofs.CallPlaces.{entered_has_body}
use Rattle.lowered_graph.proofs.EdgeArcs.{edge_act, called_act, EdgeOfArc, edge_lands}
use Rattle.lowered_graph.proofs.Alphabet.{letters_of, counted_get, frame_is}
use Rattle.lowered_graph.proofs.Joined.{IsKnownSpot, from_start_or_place, spot_known, behind_known}
use Rattle.lowered_graph.proofs.JoinedBack.{inside_parts, no_inside, letter_act, CallFrom, call_from}
use Rattle.lowered_graph.proofs.SiteNumbers.{number_of_site, sites_numbered}
use Rattle.lowered_graph.proofs.GraphParts.{owner_is}
use Rattle.lowered_graph.proofs.Lists.{get_behind}
use Rattle.letter_acts.proofs.ListLemmas.{all_from_members}

-- ---- owners of places

by_number : (ss : List (ℕ × Site)) (n k : ℕ) (s : ℕ × Site) → map number_of_site ss ≡ count_from n k → Member ss s → (i : ℕ) × (number_of_site s ≡ n + i) × (slice_get (map (λ s. s.0) ss) i ≡ Some s.0)
by_number [] n k s e m = absurd m
by_number (x ∷ ss) n zero s e m = cc
by_number (x ∷ ss) n (suc k) s e (inl is) =
    let first : number_of_site x ≡ n = cc in
    let same : number_of_site x ≡ number_of_site s = ap number_of_site is in
    (0, (let g : number_of_site s ≡ n + 0 = omega arith in g), ap (λ (y : ℕ × Site). Some y.0) is)
by_number (x ∷ ss) n (suc k) s e (inr m) =
    let rest : map number_of_site ss ≡ count_from (n + 1) k = cc in
    let h = by_number ss (n + 1) k s rest m in
    let at : number_of_site s ≡ n + 1 + h.0 = h.1 in
    (suc h.0, (let g : number_of_site s ≡ n + suc h.0 = omega arith in g), h.2)

-- the place where an assertion fails belongs to its procedure
wrong_owner : (t : TypedProgram) → IsTrue (is_valid t) → (n i : ℕ) (line : Span) → Member (program_sites t) (site t n i line) → IsPlaceOf (place_owners t) n (error_place t i)
wrong_owner t v n i line m =
    let h = by_number (program_sites t) 1 (length (program_sites t)) (site t n i line) (sites_numbered t v) m in
    let procs : List ℕ = map (λ p. p.proc) (program_places t) in
    let count : length procs ≡ length (program_places t) = length-map (program_places t) (λ p. p.proc) in
    let number : i ≡ 1 + h.0 = h.1 in
    let at : error_place t i ≡ suc (length procs + h.0) = omega arith in
    ap (slice_get (place_owners t)) at ∙ get_behind procs (map (λ s. s.0) (program_sites t)) h.0 n h.2

spot_owner : (l : PlaceLaws) (t : TypedProgram) → IsTrue (is_valid t) → (n : ℕ) (spot : Spot) → IsKnownSpot t n spot → IsPlaceOf (place_owners t) n (spot_number t n spot)
spot_owner l t v n (At p) k = owner_is l t v n p k
spot_owner l t v n (Wrong i) k = wrong_owner t v n i k.0 k.1

not_the_start : (l : PlaceLaws) (t : TypedProgram) → IsTrue (is_valid t) → (n : ℕ) (spot : Spot) → IsKnownSpot t n spot → spot_number t n spot ≢ 0
not_the_start l t v n (At p) k = λ e. (let b = known_number l t v n p k in let lower : 1 ≤ place_number t n p = b.0 in omega arith)
not_the_start l t v n (Wrong i) k = λ e. omega arith

-- ---- inside edges

-- no inside edge of a known place writes an old column
abbrev pub WriteNoOlds : TypedProgram → Type 0
WriteNoOlds t = (n : ℕ) (p : Point) → IsKnown t n p → (e : Edge) → IsAmong (inside_edges t n p (action_at t n p)) e → AllByRecursion (λ c. IsOld (frame_at t n) c → ⊥) e.written

has_act : (t : TypedProgram) (a : Letter) (act : PlainAct) → act_of (letters_of t) a ≡ Some act → IsSome (act_of (letters_of t) a)
has_act t a act e = subst (λ (o : Option PlainAct). IsSome o) (sym e) refl

-- by the letter of the start
start_follows : (l : PlaceLaws) (t : TypedProgram) → IsTrue (is_valid t) → (a : Letter) (act : MarkedAct) (q e : ℕ) → act_of (letters_of t) a ≡ Some act.act → start_arc t ≡ inside_arc q act e → InsideFollows (lowered t) (q, a, e)
start_follows l t v a act q e found is =
    let first : Point = start_point_of t (slice_get t.procs t.entry) in
    let parts = inside_parts 0 q (exact_act (entering t.entry (frame_at t t.entry))) act (place_number t t.entry first) e is in
    let found_so : act_of (letters_of t) a ≡ Some (entering t.entry (frame_at t t.entry)) = found ∙ ap (λ (m : MarkedAct). Some m.act) (sym parts.1) in
    let known : IsKnown t t.entry first = known_start l t v in
    let stays : IsPlaceOf (place_owners t) t.entry q × IsPlaceOf (place_owners t) t.entry e =
    (subst (IsPlaceOf (place_owners t) t.entry) parts.0 refl, subst (IsPlaceOf (place_owners t) t.entry) parts.2 (owner_is l t v t.entry first known)) in
    record {
      letter = has_act t a act.act found;
      stays = subst (λ (o : Option PlainAct). InsideStays (lowered t) o q e) (sym found_so) stays;
      to = subst (λ (m : ℕ). m ≢ 0) parts.2 (not_the_start l t v t.entry (At first) known);
      olds = λ n. absurd (n (sym parts.0));
    }

edge_follows : (l : PlaceLaws) (t : TypedProgram) → IsTrue (is_valid t) → WriteNoOlds t → (a : Letter) (act : MarkedAct) (q e n : ℕ) (p : Point) → IsKnown t n p → act_of (letters_of t) a ≡ Some act.act →
    EdgeOfArc t n p (action_at t n p) (inside_arc q act e) → InsideFollows (lowered t) (q, a, e)
edge_follows l t v w a act q e n p known found h =
    let edge : Edge = h.edge in
    let own : PlainAct = inside_act n edge.written edge.rows.helpers edge.rows.rows in
    let parts = inside_parts (place_number t n p) q (edge_act n edge) act (spot_number t n edge.to) e h.is in
    let found_so : act_of (letters_of t) a ≡ Some own = found ∙ ap (λ (m : MarkedAct). Some m.act) (sym parts.1) in
    let to : IsKnownSpot t n edge.to = spot_known l t v n p edge.to known (edge_lands t n p (action_at t n p) edge h.among) in
    let stays : IsPlaceOf (place_owners t) n q × IsPlaceOf (place_owners t) n e =
    (subst (IsPlaceOf (place_owners t) n) parts.0 (owner_is l t v n p known), subst (IsPlaceOf (place_owners t) n) parts.2 (spot_owner l t v n edge.to to)) in
    let olds : AllByRecursion (λ c. IsOld (frame_of (letters_of t) n) c → ⊥) edge.written =
    subst (λ (f : Columns). AllByRecursion (λ c. IsOld f c → ⊥) edge.written) (sym (frame_is t n known.procedure known.is)) (w n p known edge h.among) in
    record {
      letter = has_act t a act.act found;
      stays = subst (λ (o : Option PlainAct). InsideStays (lowered t) o q e) (sym found_so) stays;
      to = subst (λ (m : ℕ). m ≢ 0) parts.2 (not_the_start l t v n edge.to to);
      olds = λ m. subst (λ (o : Option PlainAct). WritesNoOld (letters_of t) o) (sym found_so) olds;
    }

inside_follows : (l : PlaceLaws) (t : TypedProgram) → IsTrue (is_valid t) → WriteNoOlds t → (edge : ℕ × Letter × ℕ) → Member (lowered t).automaton.insides edge → InsideFollows (lowered t) edge
inside_follows l t v w edge m =
    let h : InsideOf (program_arcs t) (lettered (program_arcs t)).acts edge.0 edge.1 edge.2 = (insides_are (program_arcs t) edge.0 edge.2 edge.1).0 m in
    let found : act_of (letters_of t) edge.1 ≡ Some h.act.act = letter_act t edge.1 h.act h.letter in
    elim (from_start_or_place t v (inside_arc edge.0 h.act edge.2) h.arc) [
      | inl start ↦ start_follows l t v edge.1 h.act edge.0 edge.2 found start
      | inr k ↦ elim k.3 [
        | inl e ↦ edge_follows l t v w edge.1 h.act edge.0 edge.2 k.0 k.1 k.2 found e
        | inr c ↦ absurd (no_inside edge.0 (place_number t k.0 k.1) h.act (called_act k.0 c.callee c.letter) edge.2 (place_number t c.callee (point_of_call t c.callee (slice_get t.procs c.callee)))
            (return_place t c.callee) (numbers_in (frame_at t k.0) (targets_at k.1.todo)) (place_number t k.0 (settled (past_first t.procs k.1.todo))) (sym c.is))
      ]
    ]

-- ---- calls

entry_got : (t : TypedProgram) (f : ℕ) (q : TypedProcedure) (b : TypedBlock) → slice_get t.procs f ≡ Some q → q.body ≡ Some b →
    slice_get (lowered t).entries f ≡ Some (Some (place_number t f (point_of_call t f (slice_get t.procs f))))
entry_got t f q b e k =
    let here : 0 + f ≡ f = omega arith in
    counted_get (entry_of t) 0 t.procs f q e ∙ ap (λ (m : ℕ). Some (entry_of t (m, q))) here
    ∙ ap (λ (o : Option TypedBlock). Some (option_map (λ b. place_number t f (point_of_call t f (Some q))) o)) k
    ∙ ap (λ (o : Option TypedProcedure). Some (Some (place_number t f (point_of_call t f o)))) (sym e)

exit_got : (t : TypedProgram) (f : ℕ) (q : TypedProcedure) (b : TypedBlock) → slice_get t.procs f ≡ Some q → q.body ≡ Some b → slice_get (lowered t).exits f ≡ Some (Some (return_place t f))
exit_got t f q b e k =
    let here : 0 + f ≡ f = omega arith in
    counted_get (exit_of t) 0 t.procs f q e ∙ ap (λ (m : ℕ). Some (exit_of t (m, q))) here ∙ ap (λ (o : Option TypedBlock). Some (option_map (λ b. return_place t f) o)) k

call_follows : (l : PlaceLaws) (t : TypedProgram) → IsTrue (is_valid t) → (edge : ℕ × Letter × ℕ) → Member (lowered t).automaton.calls edge → CallFollows (lowered t) edge
call_follows l t v edge m =
    let h : CallOf (program_arcs t) (lettered (program_arcs t)).acts edge.0 edge.1 edge.2 = (calls_are (program_arcs t) edge.0 edge.2 edge.1).0 m in
    let found : act_of (letters_of t) edge.1 ≡ Some h.act.act = letter_act t edge.1 h.act h.letter in
    let w : CallFrom t h.act edge.0 edge.2 h.from h.targets h.behind = call_from t v h.act edge.0 edge.2 h.from h.targets h.behind h.arc in
    let n : ℕ = w.proc in
    let f : ℕ = w.callee in
    let b = entered_has_body t n w.point f w.args w.known w.action in
    let entry : Point = point_of_call t f (slice_get t.procs f) in
    let to : place_number t f entry ≡ edge.2 = w.parts.to in
    let found_so : act_of (letters_of t) edge.1 ≡ Some (call_act n f w.letter.plain.helpers w.letter.plain.rows) = found ∙ ap (λ (m : MarkedAct). Some m.act) (sym w.parts.act) in
    let enters : IsPlaceOf (place_owners t) n edge.0 × (slice_get (lowered t).entries f ≡ Some (Some edge.2)) =
    (subst (IsPlaceOf (place_owners t) n) w.parts.place (owner_is l t v n w.point w.known), entry_got t f b.0 b.1 b.2 b.3 ∙ ap (λ (m : ℕ). Some (Some m)) to) in
    record {
      letter = has_act t edge.1 h.act.act found;
      enters = subst (λ (o : Option PlainAct). CallEnters (lowered t) o edge.0 edge.2) (sym found_so) enters;
      to = subst (λ (m : ℕ). m ≢ 0) to (not_the_start l t v f (At entry) (known_entry l t v f b.0 b.1 b.2 b.3));
    }

back_follows : (l : PlaceLaws) (t : TypedProgram) → IsTrue (is_valid t) → (edge : ℕ × ℕ × Letter × ℕ) → Member (lowered t).automaton.backs edge → BackFollows (lowered t) edge
back_follows l t v edge m =
    let h : BackOf (program_arcs t) (lettered (program_arcs t)).acts edge.0 edge.1 edge.2 edge.3 = (backs_are (program_arcs t) edge.0 edge.1 edge.3 edge.2).0 m in
    let found : act_of (letters_of t) edge.2 ≡ Some (back_act h.call h.targets) = letter_act t edge.2 (exact_act (back_act h.call h.targets)) h.letter in
    let w : CallFrom t h.act edge.1 h.to edge.0 h.targets edge.3 = call_from t v h.act edge.1 h.to edge.0 h.targets edge.3 h.arc in
    let n : ℕ = w.proc in
    let f : ℕ = w.callee in
    let b = entered_has_body t n w.point f w.args w.known w.action in
    let next : Point = settled (past_first t.procs w.point.todo) in
    let known : IsKnown t n next = behind_known l t v n w.point f w.args w.known w.action in
    let to : place_number t n next ≡ edge.3 = w.parts.behind in
    let call : edge.2.call ≡ h.call = ap (λ (a : Letter). a.call) h.letter.1 in
    let act_is : slice_get (letters_of t).acts edge.2.call ≡ Some (call_act n f w.letter.plain.helpers w.letter.plain.rows) =
    ap (slice_get (letters_of t).acts) call ∙ act_got (lettered (program_arcs t)).acts h.call h.act h.called ∙ ap (λ (m : MarkedAct). Some m.act) (sym w.parts.act) in
    let leaves : (slice_get (lowered t).exits f ≡ Some (Some edge.0)) × IsPlaceOf (place_owners t) n edge.1 × IsPlaceOf (place_owners t) n edge.3 = (
      exit_got t f b.0 b.1 b.2 b.3 ∙ ap (λ (m : ℕ). Some (Some m)) w.parts.from,
      subst (IsPlaceOf (place_owners t) n) w.parts.place (owner_is l t v n w.point w.known),
      subst (IsPlaceOf (place_owners t) n) to (owner_is l t v n next known),
    ) in
    record {
      letter = has_act t edge.2 (back_act h.call h.targets) found;
      leaves = subst (λ (o : Option PlainAct). BackLeaves (lowered t) o edge.0 edge.1 edge.3) (sym act_is) leaves;
      to = subst (λ (m : ℕ). m ≢ 0) to (not_the_start l t v n (At next) known);
    }

-- ---- one call letter

-- the list of a call has one member
pub one_member : (v : Environment) (j : ℕ) (es : List TypedExpression) (n : ℕ) → (c : Conjunction) × (listed_plan (parameters_get v j es) n ≡ c ∷ [])
one_member v j [] n = (record { rows = []; helpers = 0 }, refl)
one_member v j (e ∷ es) n =
    let x : Linear = column j n in
    let y : Linear = after (column j) (argument_sum v e) n in
    let first : Conjunction = record { rows = (x.rows ++ y.rows) ++ equal x y ∷ []; helpers = x.helpers + y.helpers } in
    let rest = one_member v (suc j) es (n + first.helpers) in
    (joined first rest.0, ap (λ (cs : List Conjunction). map (joined first) cs ++ []) rest.1)

among_one : (c : MarkedConjunction) (cs : List MarkedConjunction) (a b : MarkedConjunction) → cs ≡ c ∷ [] → IsAmong cs a → IsAmong cs b → a ≡ b
among_one c cs a b e i j = both (subst (λ (xs : List MarkedConjunction). IsAmong xs a) e i) (subst (λ (xs : List MarkedConjunction). IsAmong xs b) e j)
  where
    both : IsAmong (c ∷ []) a → IsAmong (c ∷ []) b → a ≡ b
    both (inl x) (inl y) = sym x ∙ y
    both (inl x) (inr m) = absurd m
    both (inr m) y = absurd m

one_letter : (t : TypedProgram) (n f : ℕ) (args : List TypedExpression) (c d : MarkedConjunction) → IsAmong (call_letters t n f args) c → IsAmong (call_letters t n f args) d → c ≡ d
one_letter t n f args c d i j =
    let free : ℕ = all_product_count (frame_at t n) args in
    let one = one_member (frame_environment (widened (frame_at t n) (local_count t n) free)) (width_at t n + free + columns_before_locals t) (all_freed (fixed_in (frame_at t n)) (local_count t n) args)
    (width_at t n + free + width_at t f) in
    among_one (marked_letter (width_at t n) free (width_at t f) one.0) (call_letters t n f args) c d (ap (map (marked_letter (width_at t n) free (width_at t f))) one.1) i j

entered_same : (a : Action) (f g : ℕ) (es ds : List TypedExpression) → a ≡ actions.Enter f es → a ≡ actions.Enter g ds → (f ≡ g) × (es ≡ ds)
entered_same a f g es ds i j = let e : actions.Enter f es ≡ actions.Enter g ds = sym i ∙ j in (cc, cc)

-- two calls from one place have one act
one_act : (l : PlaceLaws) (t : TypedProgram) → IsTrue (is_valid t) → (act bct : MarkedAct) (q to from : ℕ) (targets : List ℕ) (behind : ℕ) (to' from' : ℕ) (targets' : List ℕ) (behind' : ℕ) →
    CallFrom t act q to from targets behind → CallFrom t bct q to' from' targets' behind' → act ≡ bct
one_act l t v act bct q to from targets behind to' from' targets' behind' w u =
    let same = known_once l t v w.proc u.proc w.point u.point w.known u.known (w.parts.place ∙ sym u.parts.place) in
    let there : action_at t w.proc w.point ≡ actions.Enter u.callee u.args =
    ap (λ (n : ℕ). action_at t n w.point) same.0 ∙ ap (action_at t u.proc) same.1 ∙ u.action in
    let call = entered_same (action_at t w.proc w.point) w.callee u.callee w.args u.args w.action there in
    let in_w : IsAmong (call_letters t w.proc w.callee w.args) u.letter =
    subst (λ (n : ℕ). IsAmong (call_letters t n w.callee w.args) u.letter) (sym same.0)
    (subst (λ (f : ℕ). IsAmong (call_letters t u.proc f w.args) u.letter) (sym call.0) (subst (λ (es : List TypedExpression). IsAmong (call_letters t u.proc u.callee es) u.letter) (sym call.1) u.among)) in
    let letters : w.letter ≡ u.letter = one_letter t w.proc w.callee w.args w.letter u.letter w.among in_w in
    sym w.parts.act ∙ (λ i. called_act (same.0 i) (call.0 i) (letters i)) ∙ u.parts.act

one_id : (t : TypedProgram) (act bct : MarkedAct) (m n : ℕ) → slice_get (lettered (program_arcs t)).acts m ≡ Some act → slice_get (lettered (program_arcs t)).acts n ≡ Some bct → act ≡ bct → m ≡ n
one_id t act bct m n i j e = one_index (lettered (program_arcs t)).acts m n act (acts_differ (program_arcs t)) i (j ∙ ap Some (sym e))

has_one_call : (l : PlaceLaws) (t : TypedProgram) → IsTrue (is_valid t) → HasOneCall (lowered t).automaton
has_one_call l t v = record {
  calls = λ q e f a b m k.
      let h : CallOf (program_arcs t) (lettered (program_arcs t)).acts q a e = (calls_are (program_arcs t) q e a).0 m in
      let g : CallOf (program_arcs t) (lettered (program_arcs t)).acts q b f = (calls_are (program_arcs t) q f b).0 k in
      one_id t h.act g.act a.id b.id h.letter.0 g.letter.0 (one_act l t v h.act g.act q e h.from h.targets h.behind f g.from g.targets g.behind (call_from t v h.act q e h.from h.targets h.behind h.arc) (call_from t v g.act q f g.from g.targets g.behind g.arc));
  both = λ q x e f a r m k.
      let h : CallOf (program_arcs t) (lettered (program_arcs t)).acts q a e = (calls_are (program_arcs t) q e a).0 m in
      let g : BackOf (program_arcs t) (lettered (program_arcs t)).acts x q r f = (backs_are (program_arcs t) x q f r).0 k in
      one_id t h.act g.act a.id g.call h.letter.0 g.called (one_act l t v h.act g.act q e h.from h.targets h.behind g.to x g.targets f (call_from t v h.act q e h.from h.targets h.behind h.arc) (call_from t v g.act q g.to x g.targets f g.arc))
      ∙ sym (ap (λ (y : Letter). y.call) g.letter.1);
  backs = λ q x y e f r s m k.
      let h : BackOf (program_arcs t) (lettered (program_arcs t)).acts x q r e = (backs_are (program_arcs t) x q e r).0 m in
      let g : BackOf (program_arcs t) (lettered (program_arcs t)).acts y q s f = (backs_are (program_arcs t) y q f s).0 k in
      ap (λ (z : Letter). z.call) h.letter.1
      ∙ one_id t h.act g.act h.call g.call h.called g.called (one_act l t v h.act g.act q h.to x h.targets e g.to y g.targets f (call_from t v h.act q h.to x h.targets e h.arc) (call_from t v g.act q g.to y g.targets f g.arc))
      ∙ sym (ap (λ (z : Letter). z.call) g.letter.1);
}

pub has_edges : (l : PlaceLaws) (t : TypedProgram) → IsTrue (is_valid t) → WriteNoOlds t → HasEdges (lowered t)
has_edges l t v w = record {
  insides = all_from_members (InsideFollows (lowered t)) (lowered t).automaton.insides (λ e m. inside_follows l t v w e m);
  calls = all_from_members (CallFollows (lowered t)) (lowered t).automaton.calls (λ e m. call_follows l t v e m);
  backs = all_from_members (BackFollows (lowered t)) (lowered t).automaton.backs (λ e m. back_follows l t v e m);
  one_call = has_one_call l t v;
}
