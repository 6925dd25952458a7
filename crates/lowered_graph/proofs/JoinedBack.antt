-- A step of the automaton and its letters from a known stack is one of the stack machine over points, and exact where the letter is not coarse.
use Rattle.std.proofs.Common.{◌≡◌, ◌∙◌, false, ℕ, ◌+◌, ◌<◌, ◌≤◌, List, [], ◌∷◌, length, Option, Some, inl, inr, refl, sym, ap, subst, arith, IsTrue}
use Rattle.std.specs.Prelude.{slice_get}
use Rattle.std.specs.List.{AllByRecursion}
use Rattle.typed_tree.specs.TypedTree.{TypedExpression, TypedProgram}
use Rattle.typed_tree.specs.TypingRules.ValidProgram.{is_valid}
use Rattle.nwa_base.specs.Members.{Member}
use Rattle.nwa_base.specs.declared.letters.Kind.{Kind}
use Rattle.nwa_base.specs.declared.letters.Kind.TheVariants as kinds
use Rattle.nwa_base.specs.declared.letters.Letter.{Letter}
use Rattle.letter_acts.specs.Acts.{PlainAct, inside_act, call_act, back_act, act_of}
use Rattle.letter_acts.specs.Meaning.{Situation, ActInside, ActCalls, ActReturns, ReturnsFrom}
use Rattle.letter_acts.specs.Ways.{Leads}
use Rattle.letter_acts.specs.Feasible.{machine}
use Rattle.letter_acts.specs.Invariant.{mark_at}
use Rattle.cond_jumps.specs.FreeProducts.Letters.{MarkedConjunction}
use Rattle.boogie_run.specs.BoogiePoints.Points.{Point, settled, past_first}
use Rattle.boogie_run.specs.BoogiePoints.Actions as actions
use Rattle.boogie_run.specs.BoogiePoints.Actions.{Action, action_at}
use Rattle.boogie_run.specs.BoogiePoints.Starts.{point_of_call, targets_at}
use Rattle.boogie_run.specs.BoogiePlaces.Places.{program_places}
use Rattle.lowered_graph.specs.LoweredSteps.ProgramFrames.{frame_at}
use Rattle.lowered_graph.specs.LoweredSteps.Edges.{Spot, At, Wrong, Edge, call_letters, numbers_in}
use Rattle.lowered_graph.specs.LoweredSteps.Stacks.{Pending, Stack, IsAmong, IsStep, inside, call, back, IsExact}
use Rattle.lowered_graph.specs.Arcs.{place_number, spot_number, return_point, return_place, program_arcs}
use Rattle.letter_acts.specs.LetterTable.Letters.{MarkedAct, exact_act, inside_arc, call_arc, lettered}
use Rattle.lowered_graph.specs.LetterLaws.{IsLetterOf, InsideOf, CallOf, BackOf}
use Rattle.lowered_graph.specs.Lowered.{lowered}
use Rattle.lowered_graph.proofs.ActNumbers.{act_got, mark_got, act_of_letter}
use Rattle.lowered_graph.proofs.LetterSets.{insides_are, calls_are, backs_are}
use Rattle.lowered_graph.proofs.KnownPlaces.{PlaceLaws, IsKnown, known_number, known_once}
use Rattle.lowered_graph.proofs.CallPlaces.{entered_has_body, leaves_there, return_known}
use Rattle.lowered_graph.proofs.EdgeArcs.{edge_act, called_act, EdgeOfArc}
use Rattle.lowered_graph.proofs.Alphabet.{letters_of, situation, inside_meant, call_meant, back_meant}
use Rattle.lowered_graph.proofs.Joined.{seen, stacked, StepsTo, IsKnownSpot, IsKnownStack, from_start_or_place, same_stack}

-- ---- parts of arcs and acts

pub inside_parts : (q p : ℕ) (a b : MarkedAct) (e f : ℕ) → inside_arc q a e ≡ inside_arc p b f → (q ≡ p) × (a ≡ b) × (e ≡ f)
inside_parts q p a b e f is = (cc, cc, cc)

pub record CallParts (q p : ℕ) (a b : MarkedAct) (e f x y : ℕ) (ts us : List ℕ) (k j : ℕ) : Type 0 where
  pub place : q ≡ p
  pub act : a ≡ b
  pub to : e ≡ f
  pub from : x ≡ y
  pub targets : ts ≡ us
  pub behind : k ≡ j

pub call_parts : (q p : ℕ) (a b : MarkedAct) (e f x y : ℕ) (ts us : List ℕ) (k j : ℕ) → call_arc q a e x ts k ≡ call_arc p b f y us j → CallParts q p a b e f x y ts us k j
call_parts q p a b e f x y ts us k j is = record { place = cc; act = cc; to = cc; from = cc; targets = cc; behind = cc }

pub no_inside : (q p : ℕ) (a b : MarkedAct) (e f x : ℕ) (ts : List ℕ) (k : ℕ) → inside_arc q a e ≡ call_arc p b f x ts k → ⊥
no_inside q p a b e f x ts k is = cc

-- the act of a letter
pub letter_act : (t : TypedProgram) (a : Letter) (act : MarkedAct) → IsLetterOf (lettered (program_arcs t)).acts act a → act_of (letters_of t) a ≡ Some act.act
letter_act t a act l = ap (act_of (letters_of t)) l.1 ∙ act_of_letter (letters_of t) a.id act.act (act_got (lettered (program_arcs t)).acts a.id act l.0)

-- its mark is that of the act
pub letter_mark : (t : TypedProgram) (a : Letter) (act : MarkedAct) → IsLetterOf (lettered (program_arcs t)).acts act a → mark_at (lowered t) a.id ≡ act.coarse
letter_mark t a act l = mark_got (lettered (program_arcs t)).acts a.id act l.0

-- ---- which place a stack stands at

number_of_spot : (l : PlaceLaws) (t : TypedProgram) → IsTrue (is_valid t) → (m : ℕ) (spot : Spot) → IsKnownSpot t m spot → (n : ℕ) (p : Point) → IsKnown t n p → place_number t n p ≡ spot_number t m spot →
    (n ≡ m) × (At p ≡ spot)
number_of_spot l t v m (At r) k n p h e =
    let same = known_once l t v n m p r h k e in
    (same.0, ap At same.1)
number_of_spot l t v m (Wrong i) k n p h e =
    let bounds = known_number l t v n p h in
    let upper : place_number t n p < 1 + length (program_places t) = bounds.1 in
    absurd (omega arith)

-- the stack stands at the place of that number
pub stands_at : (l : PlaceLaws) (t : TypedProgram) → IsTrue (is_valid t) → (x : Stack) → IsKnownStack t x → (n : ℕ) (p : Point) → IsKnown t n p → place_number t n p ≡ spot_number t x.proc x.spot →
    (n ≡ x.proc) × (At p ≡ x.spot)
stands_at l t v x k n p h e = number_of_spot l t v x.proc x.spot k.spot n p h e

not_zero : (l : PlaceLaws) (t : TypedProgram) → IsTrue (is_valid t) → (m : ℕ) (spot : Spot) → IsKnownSpot t m spot → 0 ≡ spot_number t m spot → ⊥
not_zero l t v m (At r) k e =
    let bounds = known_number l t v m r k in
    let lower : 1 ≤ place_number t m r = bounds.0 in
    omega arith
not_zero l t v m (Wrong i) k e = omega arith

-- ---- back

-- a step of the stack machine over points, which is exact where the letter is not coarse
pub record StepBack (t : TypedProgram) (x : Stack) (a : Letter) (y : ℕ × Situation) (after : List (ℕ × Situation)) : Type 0 where
  pub next : Stack
  pub step : IsStep t x next
  pub exact : mark_at (lowered t) a.id ≡ false → IsExact t x next step
  pub seen_so : seen t next ≡ y
  pub stacked_so : stacked t next.below ≡ after

inside_found : (t : TypedProgram) (x : Stack) (a : Letter) (y : ℕ × Situation) (after : List (ℕ × Situation)) (act : MarkedAct) → mark_at (lowered t) a.id ≡ act.coarse → (n : ℕ) (p : Point) (known : IsKnown t n p) (w : EdgeOfArc t n p (action_at t n p) (inside_arc (spot_number t x.proc x.spot) act y.0)) →
    (n ≡ x.proc) × (At p ≡ x.spot) → ActInside (letters_of t) (Some act.act) (situation x.proc x.values) y.1 → stacked t x.below ≡ after → StepBack t x a y after
inside_found t x a y after act mark n p known w at means e =
    let edge : Edge = w.edge in
    let parts = inside_parts (place_number t n p) (spot_number t x.proc x.spot) (edge_act n edge) act (spot_number t n edge.to) y.0 w.is in
    let means_so : ActInside (letters_of t) (Some (inside_act n edge.written edge.rows.helpers edge.rows.rows)) (situation x.proc x.values) y.1 =
    subst (λ (m : MarkedAct). ActInside (letters_of t) (Some m.act) (situation x.proc x.values) y.1) (sym parts.1) means in
    let meant = inside_meant t n known.procedure edge.written edge.rows.helpers edge.rows.rows (situation x.proc x.values) y.1 known.is means_so in
    let here : Stack = record { proc = n; spot = At p; values = x.values; below = x.below } in
    let next : Stack = record { proc = n; spot = edge.to; values = y.1.values; below = x.below } in
    let one : StepBack t here a y after = record {
      next = next;
      step = inside p edge refl w.among meant.2 refl refl refl;
      exact = λ k. ap (λ (m : MarkedAct). m.coarse) parts.1 ∙ sym mark ∙ k;
      seen_so = λ i. (parts.2 i, record { proc = sym meant.1 i; values = y.1.values });
      stacked_so = e;
    } in
    subst (λ (s : Stack). StepBack t s a y after) (same_stack here x at.0 at.1 refl refl) one

inside_back : (l : PlaceLaws) (t : TypedProgram) → IsTrue (is_valid t) → (x : Stack) → IsKnownStack t x → (a : Letter) (y : ℕ × Situation) (after : List (ℕ × Situation)) →
    Member (lowered t).automaton.insides (spot_number t x.proc x.spot, a, y.0) → ActInside (letters_of t) (act_of (letters_of t) a) (situation x.proc x.values) y.1 → stacked t x.below ≡ after → StepBack t x a y after
inside_back l t v x k a y after m means e =
    let q : ℕ = spot_number t x.proc x.spot in
    let h : InsideOf (program_arcs t) (lettered (program_arcs t)).acts q a y.0 = (insides_are (program_arcs t) q y.0 a).0 m in
    let means_so : ActInside (letters_of t) (Some h.act.act) (situation x.proc x.values) y.1 =
    subst (λ (o : Option PlainAct). ActInside (letters_of t) o (situation x.proc x.values) y.1) (letter_act t a h.act h.letter) means in
    elim (from_start_or_place t v (inside_arc q h.act y.0) h.arc) [
      | inl start ↦ absurd (not_zero l t v x.proc x.spot k.spot (cc))
      | inr w ↦ elim w.3 [
        | inl edge ↦ (let parts = inside_parts (place_number t w.0 w.1) q (edge_act w.0 edge.edge) h.act (spot_number t w.0 edge.edge.to) y.0 edge.is in
            inside_found t x a y after h.act (letter_mark t a h.act h.letter) w.0 w.1 w.2 edge (stands_at l t v x k w.0 w.1 w.2 parts.0) means_so e)
        | inr c ↦ absurd (no_inside q (place_number t w.0 w.1) h.act (called_act w.0 c.callee c.letter) y.0 (place_number t c.callee (point_of_call t c.callee (slice_get t.procs c.callee)))
            (return_place t c.callee) (numbers_in (frame_at t w.0) (targets_at w.1.todo)) (place_number t w.0 (settled (past_first t.procs w.1.todo))) (sym c.is))
      ]
    ]

-- an arc of a call
abbrev pub call_arc_of : TypedProgram → ℕ → Point → ℕ → MarkedConjunction → MarkedAct → ℕ → ℕ → ℕ → List ℕ → ℕ → Type 0
call_arc_of t n p f l act q to from targets behind =
    CallParts (place_number t n p) q (called_act n f l) act (place_number t f (point_of_call t f (slice_get t.procs f))) to (return_place t f) from
    (numbers_in (frame_at t n) (targets_at p.todo)) targets (place_number t n (settled (past_first t.procs p.todo))) behind

-- where an arc of a call comes from
pub record CallFrom (t : TypedProgram) (act : MarkedAct) (q to from : ℕ) (targets : List ℕ) (behind : ℕ) : Type 0 where
  pub proc : ℕ
  pub point : Point
  pub known : IsKnown t proc point
  pub callee : ℕ
  pub args : List TypedExpression
  pub action : action_at t proc point ≡ actions.Enter callee args
  pub letter : MarkedConjunction
  pub among : IsAmong (call_letters t proc callee args) letter
  pub parts : call_arc_of t proc point callee letter act q to from targets behind

pub call_from : (t : TypedProgram) → IsTrue (is_valid t) → (act : MarkedAct) (q to from : ℕ) (targets : List ℕ) (behind : ℕ) → Member (program_arcs t) (call_arc q act to from targets behind) → CallFrom t act q to from targets behind
call_from t v act q to from targets behind m = elim (from_start_or_place t v (call_arc q act to from targets behind) m) [
  | inl start ↦ absurd (cc)
  | inr w ↦ elim w.3 [
    | inl edge ↦ absurd (no_inside (place_number t w.0 w.1) q (edge_act w.0 edge.edge) act (spot_number t w.0 edge.edge.to) to from targets behind edge.is)
    | inr c ↦ record {
      proc = w.0;
      point = w.1;
      known = w.2;
      callee = c.callee;
      args = c.args;
      action = c.action;
      letter = c.letter;
      among = c.among;
      parts = call_parts (place_number t w.0 w.1) q (called_act w.0 c.callee c.letter) act (place_number t c.callee (point_of_call t c.callee (slice_get t.procs c.callee))) to
          (return_place t c.callee) from (numbers_in (frame_at t w.0) (targets_at w.1.todo)) targets (place_number t w.0 (settled (past_first t.procs w.1.todo))) behind c.is;
    }
  ]
]

call_back : (l : PlaceLaws) (t : TypedProgram) → IsTrue (is_valid t) → (x : Stack) → IsKnownStack t x → (a : Letter) (y : ℕ × Situation) (after : List (ℕ × Situation)) →
    Member (lowered t).automaton.calls (spot_number t x.proc x.spot, a, y.0) → ActCalls (letters_of t) (act_of (letters_of t) a) (situation x.proc x.values) y.1 → seen t x ∷ stacked t x.below ≡ after → StepBack t x a y after
call_back l t v x k a y after m means e =
    let q : ℕ = spot_number t x.proc x.spot in
    let h : CallOf (program_arcs t) (lettered (program_arcs t)).acts q a y.0 = (calls_are (program_arcs t) q y.0 a).0 m in
    let w : CallFrom t h.act q y.0 h.from h.targets h.behind = call_from t v h.act q y.0 h.from h.targets h.behind h.arc in
    let n : ℕ = w.proc in
    let p : Point = w.point in
    let f : ℕ = w.callee in
    let at = stands_at l t v x k n p w.known w.parts.place in
    let b = entered_has_body t n p f w.args w.known w.action in
    let act_is : act_of (letters_of t) a ≡ Some (call_act n f w.letter.plain.helpers w.letter.plain.rows) = letter_act t a h.act h.letter ∙ ap (λ (m : MarkedAct). Some m.act) (sym w.parts.act) in
    let means_so : ActCalls (letters_of t) (Some (call_act n f w.letter.plain.helpers w.letter.plain.rows)) (situation x.proc x.values) y.1 =
    subst (λ (o : Option PlainAct). ActCalls (letters_of t) o (situation x.proc x.values) y.1) act_is means in
    let meant = call_meant t n f w.known.procedure b.0 w.letter.plain.helpers w.letter.plain.rows (situation x.proc x.values) y.1 w.known.is b.2 means_so in
    let here : Stack = record { proc = n; spot = At p; values = x.values; below = x.below } in
    let same : here ≡ x = same_stack here x at.0 at.1 refl refl in
    let pending : Pending = record { proc = n; point = p; values = x.values } in
    let next : Stack = record { proc = f; spot = At (point_of_call t f (slice_get t.procs f)); values = y.1.values; below = pending ∷ x.below } in
    let to : place_number t f (point_of_call t f (slice_get t.procs f)) ≡ y.0 = w.parts.to in
    let one : StepBack t here a y after = record {
      next = next;
      step = call p f w.args w.letter refl w.action w.among meant.2 refl refl refl;
      exact = λ k. ap (λ (m : MarkedAct). m.coarse) w.parts.act ∙ sym (letter_mark t a h.act h.letter) ∙ k;
      seen_so = λ i. (to i, record { proc = sym meant.1 i; values = y.1.values });
      stacked_so = ap (λ (s : Stack). seen t s ∷ stacked t x.below) same ∙ e;
    } in
    subst (λ (s : Stack). StepBack t s a y after) same one

back_back : (l : PlaceLaws) (t : TypedProgram) → IsTrue (is_valid t) → (x : Stack) → IsKnownStack t x → (a : Letter) (y : ℕ × Situation) (after : List (ℕ × Situation)) (below : Pending) (rest : List Pending) →
    x.below ≡ below ∷ rest → Member (lowered t).automaton.backs (spot_number t x.proc x.spot, place_number t below.proc below.point, a, y.0) →
    ActReturns (letters_of t) (act_of (letters_of t) a) (situation x.proc x.values) (situation below.proc below.values) y.1 → stacked t rest ≡ after → StepBack t x a y after
back_back l t v x k a y after below rest stack m means e =
    let g : ℕ = spot_number t x.proc x.spot in
    let q : ℕ = place_number t below.proc below.point in
    let h : BackOf (program_arcs t) (lettered (program_arcs t)).acts g q a y.0 = (backs_are (program_arcs t) g q y.0 a).0 m in
    let w : CallFrom t h.act q h.to g h.targets y.0 = call_from t v h.act q h.to g h.targets y.0 h.arc in
    let n : ℕ = w.proc in
    let p : Point = w.point in
    let f : ℕ = w.callee in
    let all : AllByRecursion (λ b. IsKnown t b.proc b.point) (below ∷ rest) = subst (AllByRecursion (λ b. IsKnown t b.proc b.point)) stack k.below in
    let called = known_once l t v n below.proc p below.point w.known all.0 w.parts.place in
    let b = entered_has_body t n p f w.args w.known w.action in
    let exit : Point = return_point (slice_get t.procs f) in
    let at = stands_at l t v x k f exit (return_known t f b.0 b.1 b.2 b.3) w.parts.from in
    let targets : List ℕ = numbers_in (frame_at t n) (targets_at p.todo) in
    let rows : MarkedConjunction = w.letter in
    let act_is : act_of (letters_of t) a ≡ Some (back_act h.call targets) = letter_act t a (exact_act (back_act h.call h.targets)) h.letter ∙ ap (λ (ts : List ℕ). Some (back_act h.call ts)) (sym w.parts.targets) in
    let call_is : slice_get (letters_of t).acts h.call ≡ Some (call_act n f rows.plain.helpers rows.plain.rows) = act_got (lettered (program_arcs t)).acts h.call h.act h.called ∙ ap (λ (m : MarkedAct). Some m.act) (sym w.parts.act) in
    let returns : ActReturns (letters_of t) (Some (back_act h.call targets)) (situation x.proc x.values) (situation below.proc below.values) y.1 =
    subst (λ (o : Option PlainAct). ActReturns (letters_of t) o (situation x.proc x.values) (situation below.proc below.values) y.1) act_is means in
    let from_call : ReturnsFrom (letters_of t) targets (Some (call_act n f rows.plain.helpers rows.plain.rows)) (situation x.proc x.values) (situation below.proc below.values) y.1 =
    subst (λ (o : Option PlainAct). ReturnsFrom (letters_of t) targets o (situation x.proc x.values) (situation below.proc below.values) y.1) call_is returns in
    let meant = back_meant t n f w.known.procedure b.0 rows.plain.helpers rows.plain.rows targets (situation x.proc x.values) (situation below.proc below.values) y.1 w.known.is b.2 from_call in
    let pending : Pending = record { proc = n; point = p; values = below.values } in
    let pending_is : pending ≡ below = λ i. record { proc = called.0 i; point = called.1 i; values = below.values } in
    let here : Stack = record { proc = f; spot = At exit; values = x.values; below = pending ∷ rest } in
    let same : here ≡ x = same_stack here x at.0 at.1 refl (ap (λ (c : Pending). c ∷ rest) pending_is ∙ sym stack) in
    let next : Stack = record { proc = n; spot = At (settled (past_first t.procs p.todo)); values = y.1.values; below = rest } in
    let to : place_number t n (settled (past_first t.procs p.todo)) ≡ y.0 = w.parts.behind in
    let one : StepBack t here a y after = record {
      next = next;
      step = back exit pending w.args rows refl (leaves_there t f b.0 b.1 b.2 b.3) refl w.action w.among meant.3 refl refl;
      exact = λ k. tt;
      seen_so = λ i. (to i, record { proc = sym meant.2 i; values = y.1.values });
      stacked_so = e;
    } in
    subst (λ (s : Stack). StepBack t s a y after) same one

by_stack : (l : PlaceLaws) (t : TypedProgram) → IsTrue (is_valid t) → (x : Stack) → IsKnownStack t x → (a : Letter) (y : ℕ × Situation) (after : List (ℕ × Situation)) (below : List Pending) → x.below ≡ below →
    Leads (machine (lowered t).automaton (letters_of t)) kinds.Back a (stacked t below) (seen t x) y (λ s. s ≡ after) → StepBack t x a y after
by_stack l t v x k a y after [] e h = absurd h
by_stack l t v x k a y after (b ∷ rest) e h = back_back l t v x k a y after b rest e h.0.0 h.0.1 h.1

by_kind : (l : PlaceLaws) (t : TypedProgram) → IsTrue (is_valid t) → (x : Stack) → IsKnownStack t x → (a : Letter) (y : ℕ × Situation) (after : List (ℕ × Situation)) (kind : Kind) →
    Leads (machine (lowered t).automaton (letters_of t)) kind a (stacked t x.below) (seen t x) y (λ s. s ≡ after) → StepBack t x a y after
by_kind l t v x k a y after kinds.Inside h = inside_back l t v x k a y after h.0.0 h.0.1 h.1
by_kind l t v x k a y after kinds.Call h = call_back l t v x k a y after h.0.0 h.0.1 h.1
by_kind l t v x k a y after kinds.Back h = by_stack l t v x k a y after x.below refl h

-- a step over places is one over points
pub step_back : (l : PlaceLaws) (t : TypedProgram) → IsTrue (is_valid t) → (x : Stack) → IsKnownStack t x → (a : Letter) (y : ℕ × Situation) (after : List (ℕ × Situation)) →
    StepsTo t a (stacked t x.below) (seen t x) y after → StepBack t x a y after
step_back l t v x k a y after h = by_kind l t v x k a y after a.kind h
