-- A run of the stack machine over points is one of the automaton and its letters over places, and back.
use Rattle.std.proofs.Common.{◌≡◌, ◌⊎◌, ℕ, List, ◌∷◌, map, inl, inr, refl, sym, ap, subst, IsTrue}
use Rattle.std.specs.Prelude.{slice_get}
use Rattle.std.specs.List.{AllByRecursion}
use Rattle.boogie_tree.specs.declared.span.Span.{Span}
use Rattle.typed_tree.specs.TypedTree.{TypedExpression, TypedProgram}
use Rattle.typed_tree.specs.TypingRules.ValidProgram.{is_valid}
use Rattle.nwa_base.specs.Members.{Member}
use Rattle.nwa_base.specs.declared.letters.Letter.{Letter}
use Rattle.letter_acts.specs.Acts.{PlainAct, inside_act, call_act, back_act, letter_of, act_of}
use Rattle.letter_acts.specs.Meaning.{Situation, ActInside, ActCalls, ActReturns}
use Rattle.letter_acts.specs.Ways.{Leads}
use Rattle.letter_acts.specs.Feasible.{machine}
use Rattle.boogie_run.specs.BoogiePoints.Points.{Point, settled, past_first}
use Rattle.boogie_run.specs.BoogiePoints.Actions as actions
use Rattle.boogie_run.specs.BoogiePoints.Actions.{Action, action_at}
use Rattle.boogie_run.specs.BoogiePoints.Starts.{point_of_call, targets_at}
use Rattle.boogie_run.specs.BoogiePlaces.Places.{program_places, IsOneOf, onward}
use Rattle.lowered_graph.specs.LoweredSteps.ProgramFrames.{frame_at}
use Rattle.lowered_graph.specs.LoweredSteps.Edges.{Spot, At, Wrong, numbers_in}
use Rattle.lowered_graph.specs.LoweredSteps.Stacks.{Pending, Stack, IsStep, inside, call, back}
use Rattle.lowered_graph.specs.Arcs.{place_number, spot_number, return_place, start_arc, arcs_at, program_arcs}
use Rattle.letter_acts.specs.LetterTable.Letters.{MarkedAct, Arc, exact_act, no_letters, lettered}
use Rattle.lowered_graph.specs.Lowered.{site, program_sites, lowered}
use Rattle.lowered_graph.proofs.ActNumbers.{act_got}
use Rattle.lowered_graph.proofs.LetterEdges.{HasInside, HasCall, inside_lettered, call_lettered}
use Rattle.lowered_graph.proofs.KnownPlaces.{PlaceLaws, IsKnown, place_known, known_place, known_onward, known_entry}
use Rattle.lowered_graph.proofs.CallPlaces.{entered_has_body, leaves_at}
use Rattle.lowered_graph.proofs.EdgeArcs.{arcs_so, arcs_back, sites_so, edge_act, called_act, arc_of_edge, edge_arc, EdgeOfArc, arc_of_call, CallOfArc, arc_back, call_arc_so, Lands, edge_lands}
use Rattle.lowered_graph.proofs.Alphabet.{letters_of, situation, inside_means, call_means, back_means}

-- ---- stacks as the automaton sees them

abbrev pub seen : TypedProgram → Stack → ℕ × Situation
seen t x = (spot_number t x.proc x.spot, situation x.proc x.values)

abbrev pub pended : TypedProgram → Pending → ℕ × Situation
pended t b = (place_number t b.proc b.point, situation b.proc b.values)

abbrev pub stacked : TypedProgram → List Pending → List (ℕ × Situation)
stacked t below = map (pended t) below

-- a step of the automaton with its letters
abbrev pub StepsTo : TypedProgram → Letter → List (ℕ × Situation) → ℕ × Situation → ℕ × Situation → List (ℕ × Situation) → Type 0
StepsTo t a before x y after = Leads (machine (lowered t).automaton (letters_of t)) a.kind a before x y (λ s. s ≡ after)

-- ---- what is known of a stack

-- a point of the program, or the failing of an assertion of it
abbrev pub IsKnownSpot : TypedProgram → ℕ → Spot → Type 0
IsKnownSpot t n (At p) = IsKnown t n p
IsKnownSpot t n (Wrong i) = (line : Span) × Member (program_sites t) (site t n i line)

pub record IsKnownStack (t : TypedProgram) (x : Stack) : Type 0 where
  pub spot : IsKnownSpot t x.proc x.spot
  pub below : AllByRecursion (λ b. IsKnown t b.proc b.point) x.below

-- ---- arcs of known places

arc_there : (t : TypedProgram) (n : ℕ) (p : Point) (a : Arc) → IsKnown t n p → Member (arcs_at t (record { proc = n; point = p })) a → Member (program_arcs t) a
arc_there t n p a k m = inr (arcs_so t (program_places t) (record { proc = n; point = p }) a (known_place t n p k) m)

-- an arc leads from the start, or from a known place
pub from_start_or_place : (t : TypedProgram) → IsTrue (is_valid t) → (a : Arc) → Member (program_arcs t) a →
    (start_arc t ≡ a) ⊎ ((n : ℕ) × (p : Point) × IsKnown t n p × (EdgeOfArc t n p (action_at t n p) a ⊎ CallOfArc t n p (action_at t n p) a))
from_start_or_place t v a (inl e) = inl e
from_start_or_place t v a (inr m) =
    let h = arcs_back t (program_places t) a m in
    inr (h.0.proc, h.0.point, place_known t v h.0.proc h.0.point h.1, arc_back t h.0.proc h.0.point (action_at t h.0.proc h.0.point) a h.2)

-- ---- forward

-- what is led to is known
pub spot_known : (l : PlaceLaws) (t : TypedProgram) → IsTrue (is_valid t) → (n : ℕ) (p : Point) (to : Spot) → IsKnown t n p → Lands t n p (action_at t n p) to → IsKnownSpot t n to
spot_known l t v n p (At r) k h = known_onward l t v n p r k h
spot_known l t v n p (Wrong i) k h = (h.0, sites_so t (program_places t) (record { proc = n; point = p }) (site t n i h.0) (known_place t n p k) h.1)

-- a call leads on behind itself
pub behind_known : (l : PlaceLaws) (t : TypedProgram) → IsTrue (is_valid t) → (n : ℕ) (p : Point) (f : ℕ) (args : List TypedExpression) → IsKnown t n p → action_at t n p ≡ actions.Enter f args →
    IsKnown t n (settled (past_first t.procs p.todo))
behind_known l t v n p f args k e =
    known_onward l t v n p (settled (past_first t.procs p.todo)) k (subst (λ (a : Action). IsOneOf (onward t.procs p a) (settled (past_first t.procs p.todo))) (sym e) (inl refl))

known_at : (t : TypedProgram) (n : ℕ) (spot : Spot) (p : Point) → spot ≡ At p → IsKnownSpot t n spot → IsKnown t n p
known_at t n spot p e k = subst (IsKnownSpot t n) e k

pub step_known : (l : PlaceLaws) (t : TypedProgram) → IsTrue (is_valid t) → (x y : Stack) → IsKnownStack t x → IsStep t x y → IsKnownStack t y
step_known l t v x y k (inside p e at among led proc spot below) =
    let here : IsKnown t x.proc p = known_at t x.proc x.spot p at k.spot in
    let to : IsKnownSpot t x.proc e.to = spot_known l t v x.proc p e.to here (edge_lands t x.proc p (action_at t x.proc p) e among) in
    let moved : IsKnownSpot t x.proc y.spot = subst (IsKnownSpot t x.proc) (sym spot) to in
    record {
      spot = subst (λ (n : ℕ). IsKnownSpot t n y.spot) (sym proc) moved;
      below = subst (AllByRecursion (λ b. IsKnown t b.proc b.point)) (sym below) k.below;
    }
step_known l t v x y k (call p f args c at is among led proc spot below) =
    let here : IsKnown t x.proc p = known_at t x.proc x.spot p at k.spot in
    let b = entered_has_body t x.proc p f args here is in
    let to : IsKnownSpot t f y.spot = subst (IsKnownSpot t f) (sym spot) (known_entry l t v f b.0 b.1 b.2 b.3) in
    record {
      spot = subst (λ (n : ℕ). IsKnownSpot t n y.spot) (sym proc) to;
      below = subst (AllByRecursion (λ b. IsKnown t b.proc b.point)) (sym below) (here, k.below);
    }
step_known l t v x y k (back p b args c at is below calls among led proc spot) =
    let all : AllByRecursion (λ b. IsKnown t b.proc b.point) (b ∷ y.below) = subst (AllByRecursion (λ b. IsKnown t b.proc b.point)) below k.below in
    let to : IsKnownSpot t b.proc y.spot = subst (IsKnownSpot t b.proc) (sym spot) (behind_known l t v b.proc b.point x.proc args all.0 calls) in
    record { spot = subst (λ (n : ℕ). IsKnownSpot t n y.spot) (sym proc) to; below = all.1 }

pub same_stack : (x y : Stack) → x.proc ≡ y.proc → x.spot ≡ y.spot → x.values ≡ y.values → x.below ≡ y.below → x ≡ y
same_stack x y proc spot values below = λ i. record { proc = proc i; spot = spot i; values = values i; below = below i }

-- a step over points is one over places
pub step_seen : (t : TypedProgram) (x y : Stack) → IsKnownStack t x → IsStep t x y → (a : Letter) × StepsTo t a (stacked t x.below) (seen t x) (seen t y) (stacked t y.below)
step_seen t x y k (inside p e at among led proc spot below) =
    let n : ℕ = x.proc in
    let here : IsKnown t n p = known_at t n x.spot p at k.spot in
    let act : PlainAct = inside_act n e.written e.rows.helpers e.rows.rows in
    let marked : MarkedAct = edge_act n e in
    let arc : Member (program_arcs t) (arc_of_edge t n p e) = arc_there t n p (arc_of_edge t n p e) here (edge_arc t n p (action_at t n p) e among) in
    let h : HasInside (lettered (program_arcs t)) (place_number t n p) marked (spot_number t n e.to) = inside_lettered no_letters (program_arcs t) (place_number t n p) marked (spot_number t n e.to) arc in
    let a : Letter = letter_of h.id act in
    let means : ActInside (letters_of t) (act_of (letters_of t) a) (situation n x.values) (situation n y.values) =
    inside_means t n h.id here.procedure e.written e.rows.helpers e.rows.rows x.values y.values here.is (act_got (lettered (program_arcs t)).acts h.id marked h.act) led in
    let one : StepsTo t a (stacked t x.below) (place_number t n p, situation n x.values) (spot_number t n e.to, situation n y.values) (stacked t x.below) = ((h.edge, means), refl) in (
      a,
      subst (λ (z : Stack). StepsTo t a (stacked t x.below) (spot_number t n x.spot, situation n x.values) (seen t z) (stacked t z.below)) (same_stack (record { proc = n; spot = e.to; values = y.values; below = x.below }) y (sym proc) (sym spot) refl (sym below))
          (subst (λ (o : Spot). StepsTo t a (stacked t x.below) (spot_number t n o, situation n x.values) (spot_number t n e.to, situation n y.values) (stacked t x.below)) (sym at) one),
    )
step_seen t x y k (call p f args c at is among led proc spot below) =
    let n : ℕ = x.proc in
    let here : IsKnown t n p = known_at t n x.spot p at k.spot in
    let b = entered_has_body t n p f args here is in
    let act : PlainAct = call_act n f c.plain.helpers c.plain.rows in
    let marked : MarkedAct = called_act n f c in
    let entry : ℕ = place_number t f (point_of_call t f (slice_get t.procs f)) in
    let targets : List ℕ = numbers_in (frame_at t n) (targets_at p.todo) in
    let behind : ℕ = place_number t n (settled (past_first t.procs p.todo)) in
    let arc : Member (program_arcs t) (arc_of_call t n p f c) = arc_there t n p (arc_of_call t n p f c) here (call_arc_so t n p (action_at t n p) f args c is among) in
    let h : HasCall (lettered (program_arcs t)) (place_number t n p) marked entry (return_place t f) targets behind = call_lettered no_letters (program_arcs t) (place_number t n p) marked entry (return_place t f) targets behind arc in
    let a : Letter = letter_of h.id act in
    let means : ActCalls (letters_of t) (act_of (letters_of t) a) (situation n x.values) (situation f y.values) =
    call_means t n f h.id here.procedure b.0 c.plain.helpers c.plain.rows x.values y.values here.is b.2 (act_got (lettered (program_arcs t)).acts h.id marked h.act) led in
    let pending : Pending = record { proc = n; point = p; values = x.values } in
    let one : StepsTo t a (stacked t x.below) (place_number t n p, situation n x.values) (entry, situation f y.values) (stacked t (pending ∷ x.below)) = ((h.edge, means), refl) in (
      a,
      subst (λ (z : Stack). StepsTo t a (stacked t x.below) (spot_number t n x.spot, situation n x.values) (seen t z) (stacked t z.below))
          (same_stack (record { proc = f; spot = At (point_of_call t f (slice_get t.procs f)); values = y.values; below = pending ∷ x.below }) y (sym proc) (sym spot) refl (sym below))
          (subst (λ (o : Spot). StepsTo t a (stacked t x.below) (spot_number t n o, situation n x.values) (entry, situation f y.values) (stacked t (pending ∷ x.below))) (sym at) one),
    )
step_seen t x y k (back p b args c at is below calls among led proc spot) =
    let f : ℕ = x.proc in
    let n : ℕ = b.proc in
    let here : IsKnown t f p = known_at t f x.spot p at k.spot in
    let all : AllByRecursion (λ b. IsKnown t b.proc b.point) (b ∷ y.below) = subst (AllByRecursion (λ b. IsKnown t b.proc b.point)) below k.below in
    let act : PlainAct = call_act n f c.plain.helpers c.plain.rows in
    let marked : MarkedAct = called_act n f c in
    let entry : ℕ = place_number t f (point_of_call t f (slice_get t.procs f)) in
    let targets : List ℕ = numbers_in (frame_at t n) (targets_at b.point.todo) in
    let next : Point = settled (past_first t.procs b.point.todo) in
    let arc : Member (program_arcs t) (arc_of_call t n b.point f c) = arc_there t n b.point (arc_of_call t n b.point f c) all.0 (call_arc_so t n b.point (action_at t n b.point) f args c calls among) in
    let h : HasCall (lettered (program_arcs t)) (place_number t n b.point) marked entry (return_place t f) targets (place_number t n next) =
    call_lettered no_letters (program_arcs t) (place_number t n b.point) marked entry (return_place t f) targets (place_number t n next) arc in
    let a : Letter = letter_of h.back (back_act h.id targets) in
    let means : ActReturns (letters_of t) (act_of (letters_of t) a) (situation f x.values) (situation n b.values) (situation n y.values) =
    back_means t n f h.id h.back all.0.procedure here.procedure c.plain.helpers c.plain.rows targets x.values b.values y.values all.0.is here.is
    (act_got (lettered (program_arcs t)).acts h.id marked h.act) (act_got (lettered (program_arcs t)).acts h.back (exact_act (back_act h.id targets)) h.back_is) led in
    let one : StepsTo t a (stacked t (b ∷ y.below)) (return_place t f, situation f x.values) (place_number t n next, situation n y.values) (stacked t y.below) = ((h.back_edge, means), refl) in
    let left : return_place t f ≡ place_number t f p = ap (place_number t f) (sym (leaves_at t f p here is)) in
    let from_point : StepsTo t a (stacked t (b ∷ y.below)) (place_number t f p, situation f x.values) (place_number t n next, situation n y.values) (stacked t y.below) =
    subst (λ (q : ℕ). StepsTo t a (stacked t (b ∷ y.below)) (q, situation f x.values) (place_number t n next, situation n y.values) (stacked t y.below)) left one in
    let from_spot : StepsTo t a (stacked t (b ∷ y.below)) (seen t x) (place_number t n next, situation n y.values) (stacked t y.below) =
    subst (λ (o : Spot). StepsTo t a (stacked t (b ∷ y.below)) (spot_number t f o, situation f x.values) (place_number t n next, situation n y.values) (stacked t y.below)) (sym at) from_point in
    let from_stack : StepsTo t a (stacked t x.below) (seen t x) (place_number t n next, situation n y.values) (stacked t y.below) =
    subst (λ (bs : List Pending). StepsTo t a (stacked t bs) (seen t x) (place_number t n next, situation n y.values) (stacked t y.below)) (sym below) from_spot in (
      a,
      subst (λ (z : Stack). StepsTo t a (stacked t x.below) (seen t x) (seen t z) (stacked t z.below))
          (same_stack (record { proc = n; spot = At next; values = y.values; below = y.below }) y (sym proc) (sym spot) refl refl) from_stack,
    )
