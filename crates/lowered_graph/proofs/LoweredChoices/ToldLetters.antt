-- A letter that leads from one position to the next is a step of the stack machine over points, by whose helpers the same is chosen.
use Rattle.std.proofs.Common.{◌≡◌, ◌∙◌, ℕ, ◌≤◌, false, ℤ, List, [], ◌∷◌, map, Option, Some, inl, inr, refl, sym, ap, subst, arith, IsTrue}
use Rattle.std.specs.Prelude.{slice_get}
use Rattle.std.specs.List.{AllByRecursion}
use Rattle.typed_tree.specs.TypedTree.{TypedProgram}
use Rattle.typed_tree.specs.TypingRules.ValidProgram.{is_valid}
use Rattle.typed_tree.proofs.TypingRules.ValidLaws as valid
use Rattle.lin_rows.specs.Rows.{LinearRow}
use Rattle.nwa_base.specs.Members.{Member}
use Rattle.nwa_base.specs.declared.letters.Letter.{Letter}
use Rattle.letter_acts.specs.Frames.{Columns, olds_of}
use Rattle.letter_acts.specs.Acts.{PlainAct, inside_act, call_act, back_act, Alphabet, frame_of, act_of}
use Rattle.letter_acts.specs.Meaning.{InsideLeads, CallLeads, BackLeads}
use Rattle.letter_acts.specs.Invariant.{mark_at}
use Rattle.cond_jumps.specs.FreeProducts.Letters.{MarkedConjunction}
use Rattle.boogie_run.specs.BoogiePoints.Points.{Point, settled, past_first}
use Rattle.boogie_run.specs.BoogiePoints.Actions.{action_at}
use Rattle.boogie_run.specs.BoogiePoints.Starts.{point_of_call, start_point_of, targets_at}
use Rattle.lowered_graph.specs.LoweredSteps.ProgramFrames.{frame_at, width_at}
use Rattle.lowered_graph.specs.LoweredSteps.Edges.{Spot, At, Wrong, Edge, numbers_in}
use Rattle.lowered_graph.specs.LoweredSteps.Stacks.{Pending, Stack, IsStep, inside, call, back, IsStart, IsExact}
use Rattle.lowered_graph.specs.LoweredImports.Laws.{helpers_of}
use Rattle.lowered_graph.specs.LoweredRuns.Choices.{spot_choices}
use Rattle.lowered_graph.specs.Arcs.{place_number, spot_number, return_point, return_place, entering_rows, entering, program_arcs}
use Rattle.letter_acts.specs.LetterTable.Letters.{MarkedAct, exact_act, inside_arc, lettered}
use Rattle.lowered_graph.specs.LetterLaws.{InsideOf, CallOf, BackOf}
use Rattle.lowered_graph.specs.Lowered.{lowered}
use Rattle.lowered_graph.proofs.ActNumbers.{act_got}
use Rattle.lowered_graph.proofs.LetterSets.{insides_are, calls_are, backs_are}
use Rattle.lowered_graph.proofs.KnownPlaces.{PlaceLaws, IsKnown, known_number, known_once}
use Rattle.lowered_graph.proofs.CallPlaces.{entered_has_body, leaves_there, return_known}
use Rattle.lowered_graph.proofs.EdgeArcs.{edge_act, called_act, EdgeOfArc}
use Rattle.lowered_graph.proofs.StartLetter.{IsEntered, start_led}
use Rattle.lowered_graph.proofs.Alphabet.{letters_of, frame_is}
use Rattle.lowered_graph.proofs.Joined.{IsKnownSpot, IsKnownStack, from_start_or_place, same_stack}
use Rattle.lowered_graph.proofs.JoinedBack.{inside_parts, no_inside, letter_act, letter_mark, stands_at, CallFrom, call_from}
use Rattle.lowered_graph.specs.LoweredChoices.Traces.{TracePosition, LeadsInside, LeadsIn, LeadsBack}
use Rattle.lowered_graph.proofs.LoweredChoices.ReadOff.{enter_reads_none, leave_reads_none}

-- ---- stacks as positions

-- where a stack stands, with these helpers
abbrev pub standing_at : TypedProgram → Stack → List ℤ → TracePosition
standing_at t x helpers = record { place = spot_number t x.proc x.spot; values = x.values; helpers = helpers }

abbrev pub pending_at : TypedProgram → Pending → List ℤ → TracePosition
pending_at t b helpers = record { place = place_number t b.proc b.point; values = b.values; helpers = helpers }

-- the open calls are at these positions
abbrev pub PendAt : TypedProgram → List Pending → List TracePosition → Type 0
PendAt t [] [] = Unit {0}
PendAt t [] (x ∷ xs) = ⊥
PendAt t (b ∷ bs) [] = ⊥
PendAt t (b ∷ bs) (x ∷ xs) = (pending_at t b x.helpers ≡ x) × PendAt t bs xs

-- A step to a position, with these positions before the calls that are then open, exact where the letter is not coarse; what is chosen by its helpers
-- is chosen by those of the position.
pub record ToldBack (t : TypedProgram) (x : Stack) (a : Letter) (y : TracePosition) (after : List TracePosition) : Type 0 where
  pub next : Stack
  pub step : IsStep t x next
  pub exact : mark_at (lowered t) a.id ≡ false → IsExact t x next step
  pub told : (z : Stack) → spot_choices t x.proc x.spot (helpers_of t x next step) z ≡ spot_choices t x.proc x.spot y.helpers z
  pub stands : standing_at t next y.helpers ≡ y
  pub pend : PendAt t next.below after

-- ---- acts that lead

-- rows that hold with these helpers
record HoldsInside (frame : Columns) (written : List ℕ) (count : ℕ) (rows : List LinearRow) (s u helpers : List ℤ) : Type 0 where
  leads : InsideLeads frame written count rows s u
  helped : leads.rows_hold.helpers ≡ helpers

abbrev InsideHolds : Alphabet → List ℤ → List ℤ → List ℤ → PlainAct → Type 0
InsideHolds al s u helpers (inside_act p written count rows) = HoldsInside (frame_of al p) written count rows s u helpers
InsideHolds al s u helpers (call_act caller callee count rows) = ⊥
InsideHolds al s u helpers (back_act c targets) = ⊥

abbrev CallHolds : Alphabet → List ℤ → List ℤ → PlainAct → Type 0
CallHolds al s u (inside_act p written count rows) = ⊥
CallHolds al s u (call_act caller callee count rows) = CallLeads (frame_of al caller) (frame_of al callee) count rows s u
CallHolds al s u (back_act c targets) = ⊥

abbrev BackHolds : Alphabet → List ℕ → List ℤ → List ℤ → List ℤ → PlainAct → Type 0
BackHolds al targets x s u (inside_act p written count rows) = ⊥
BackHolds al targets x s u (call_act caller callee count rows) = BackLeads (frame_of al caller) (frame_of al callee) count rows targets x s u
BackHolds al targets x s u (back_act c more) = ⊥

same_act : (a b : PlainAct) (o : Option PlainAct) → o ≡ Some a → o ≡ Some b → a ≡ b
same_act a b o e f = let both : Some a ≡ Some b = sym e ∙ f in cc

-- the parts of a return's act
same_back : (c d : ℕ) (targets others : List ℕ) → back_act c targets ≡ back_act d others → (c ≡ d) × (targets ≡ others)
same_back c d targets others e = (cc, cc)

-- ---- no place of the program is the start

place_not_zero : (l : PlaceLaws) (t : TypedProgram) → IsTrue (is_valid t) → (n : ℕ) (p : Point) → IsKnown t n p → place_number t n p ≡ 0 → ⊥
place_not_zero l t v n p k e =
    let bounds = known_number l t v n p k in
    let lower : 1 ≤ place_number t n p = bounds.0 in
    omega arith

spot_not_zero : (l : PlaceLaws) (t : TypedProgram) → IsTrue (is_valid t) → (m : ℕ) (spot : Spot) → IsKnownSpot t m spot → 0 ≡ spot_number t m spot → ⊥
spot_not_zero l t v m (At r) k e = place_not_zero l t v m r k (sym e)
spot_not_zero l t v m (Wrong i) k e = omega arith

-- ---- inside letters

inside_found : (t : TypedProgram) (x : Stack) (a : Letter) (y : TracePosition) (after : List TracePosition) (act : MarkedAct) → mark_at (lowered t) a.id ≡ act.coarse → (n : ℕ) (p : Point) (known : IsKnown t n p) (w : EdgeOfArc t n p (action_at t n p) (inside_arc (spot_number t x.proc x.spot) act y.place)) →
    (n ≡ x.proc) × (At p ≡ x.spot) → InsideHolds (letters_of t) x.values y.values y.helpers act.act → PendAt t x.below after → ToldBack t x a y after
inside_found t x a y after act mark n p known w at holds pend =
    let edge : Edge = w.edge in
    let parts = inside_parts (place_number t n p) (spot_number t x.proc x.spot) (edge_act n edge) act (spot_number t n edge.to) y.place w.is in
    let holds_so : HoldsInside (frame_of (letters_of t) n) edge.written edge.rows.helpers edge.rows.rows x.values y.values y.helpers = subst (λ (m : MarkedAct). InsideHolds (letters_of t) x.values y.values y.helpers m.act) (sym parts.1) holds in
    let h : HoldsInside (frame_at t n) edge.written edge.rows.helpers edge.rows.rows x.values y.values y.helpers =
    subst (λ (f : Columns). HoldsInside f edge.written edge.rows.helpers edge.rows.rows x.values y.values y.helpers) (frame_is t n known.procedure known.is) holds_so in
    let here : Stack = record { proc = n; spot = At p; values = x.values; below = x.below } in
    let next : Stack = record { proc = n; spot = edge.to; values = y.values; below = x.below } in
    let one : ToldBack t here a y after = record {
      next = next;
      step = inside p edge refl w.among h.leads refl refl refl;
      exact = λ e. ap (λ (m : MarkedAct). m.coarse) parts.1 ∙ sym mark ∙ e;
      told = λ z. ap (λ (hs : List ℤ). spot_choices t n (At p) hs z) h.helped;
      stands = (λ i. record { place = parts.2 i; values = y.values; helpers = y.helpers });
      pend = pend;
    } in
    subst (λ (s : Stack). ToldBack t s a y after) (same_stack here x at.0 at.1 refl refl) one

pub inside_told : (l : PlaceLaws) (t : TypedProgram) → IsTrue (is_valid t) → (x : Stack) → IsKnownStack t x → (a : Letter) (hs : List ℤ) (y : TracePosition) (after : List TracePosition) →
    Member (lowered t).automaton.insides (spot_number t x.proc x.spot, a, y.place) → LeadsInside (letters_of t) a (standing_at t x hs) y → PendAt t x.below after → ToldBack t x a y after
inside_told l t v x k a hs y after m led pend =
    let q : ℕ = spot_number t x.proc x.spot in
    let h : InsideOf (program_arcs t) (lettered (program_arcs t)).acts q a y.place = (insides_are (program_arcs t) q y.place a).0 m in
    let is : inside_act led.proc led.written led.helpers led.rows ≡ h.act.act = same_act (inside_act led.proc led.written led.helpers led.rows) h.act.act (act_of (letters_of t) a) led.act (letter_act t a h.act h.letter) in
    let holds : InsideHolds (letters_of t) x.values y.values y.helpers h.act.act = subst (InsideHolds (letters_of t) x.values y.values y.helpers) is (record { leads = led.leads; helped = led.helped }) in
    elim (from_start_or_place t v (inside_arc q h.act y.place) h.arc) [
      | inl start ↦ absurd (spot_not_zero l t v x.proc x.spot k.spot (cc))
      | inr w ↦ elim w.3 [
        | inl edge ↦ (let parts = inside_parts (place_number t w.0 w.1) q (edge_act w.0 edge.edge) h.act (spot_number t w.0 edge.edge.to) y.place edge.is in
            inside_found t x a y after h.act (letter_mark t a h.act h.letter) w.0 w.1 w.2 edge (stands_at l t v x k w.0 w.1 w.2 parts.0) holds pend)
        | inr c ↦ absurd (no_inside q (place_number t w.0 w.1) h.act (called_act w.0 c.callee c.letter) y.place (place_number t c.callee (point_of_call t c.callee (slice_get t.procs c.callee)))
            (return_place t c.callee) (numbers_in (frame_at t w.0) (targets_at w.1.todo)) (place_number t w.0 (settled (past_first t.procs w.1.todo))) (sym c.is))
      ]
    ]

-- ---- calls

pub call_told : (l : PlaceLaws) (t : TypedProgram) → IsTrue (is_valid t) → (x : Stack) → IsKnownStack t x → (a : Letter) (hs : List ℤ) (y : TracePosition) (after : List TracePosition) →
    Member (lowered t).automaton.calls (spot_number t x.proc x.spot, a, y.place) → LeadsIn (letters_of t) a (standing_at t x hs) y → PendAt t x.below after → ToldBack t x a y (standing_at t x hs ∷ after)
call_told l t v x k a hs y after m led pend =
    let q : ℕ = spot_number t x.proc x.spot in
    let h : CallOf (program_arcs t) (lettered (program_arcs t)).acts q a y.place = (calls_are (program_arcs t) q y.place a).0 m in
    let w : CallFrom t h.act q y.place h.from h.targets h.behind = call_from t v h.act q y.place h.from h.targets h.behind h.arc in
    let n : ℕ = w.proc in
    let p : Point = w.point in
    let f : ℕ = w.callee in
    let at = stands_at l t v x k n p w.known w.parts.place in
    let b = entered_has_body t n p f w.args w.known w.action in
    let is : call_act led.caller led.callee led.helpers led.rows ≡ call_act n f w.letter.plain.helpers w.letter.plain.rows =
    same_act (call_act led.caller led.callee led.helpers led.rows) h.act.act (act_of (letters_of t) a) led.act (letter_act t a h.act h.letter) ∙ ap (λ (m : MarkedAct). m.act) (sym w.parts.act) in
    let holds : CallLeads (frame_of (letters_of t) n) (frame_of (letters_of t) f) w.letter.plain.helpers w.letter.plain.rows x.values y.values = subst (CallHolds (letters_of t) x.values y.values) is led.leads in
    let from : CallLeads (frame_at t n) (frame_of (letters_of t) f) w.letter.plain.helpers w.letter.plain.rows x.values y.values =
    subst (λ (c : Columns). CallLeads c (frame_of (letters_of t) f) w.letter.plain.helpers w.letter.plain.rows x.values y.values) (frame_is t n w.known.procedure w.known.is) holds in
    let leads : CallLeads (frame_at t n) (frame_at t f) w.letter.plain.helpers w.letter.plain.rows x.values y.values = subst (λ (c : Columns). CallLeads (frame_at t n) c w.letter.plain.helpers w.letter.plain.rows x.values y.values) (frame_is t f b.0 b.2) from in
    let here : Stack = record { proc = n; spot = At p; values = x.values; below = x.below } in
    let same : here ≡ x = same_stack here x at.0 at.1 refl refl in
    let pending : Pending = record { proc = n; point = p; values = x.values } in
    let next : Stack = record { proc = f; spot = At (point_of_call t f (slice_get t.procs f)); values = y.values; below = pending ∷ x.below } in
    let to : place_number t f (point_of_call t f (slice_get t.procs f)) ≡ y.place = w.parts.to in
    let one : ToldBack t here a y (standing_at t here hs ∷ after) = record {
      next = next;
      step = call p f w.args w.letter refl w.action w.among leads refl refl refl;
      exact = λ e. ap (λ (m : MarkedAct). m.coarse) w.parts.act ∙ sym (letter_mark t a h.act h.letter) ∙ e;
      told = λ z. enter_reads_none t n p f w.args leads.rows_hold.helpers y.helpers z w.action;
      stands = (λ i. record { place = to i; values = y.values; helpers = y.helpers });
      pend = (refl, pend);
    } in
    subst (λ (s : Stack). ToldBack t s a y (standing_at t s hs ∷ after)) same one

-- ---- returns

pub back_told : (l : PlaceLaws) (t : TypedProgram) → IsTrue (is_valid t) → (x : Stack) → IsKnownStack t x → (a : Letter) (hs gs : List ℤ) (y : TracePosition) (after : List TracePosition) (below : Pending) (rest : List Pending) →
    x.below ≡ below ∷ rest → Member (lowered t).automaton.backs (spot_number t x.proc x.spot, place_number t below.proc below.point, a, y.place) →
    LeadsBack (letters_of t) a (standing_at t x hs) (pending_at t below gs) y → PendAt t rest after → ToldBack t x a y after
back_told l t v x k a hs gs y after below rest stack m led pend =
    let g : ℕ = spot_number t x.proc x.spot in
    let q : ℕ = place_number t below.proc below.point in
    let h : BackOf (program_arcs t) (lettered (program_arcs t)).acts g q a y.place = (backs_are (program_arcs t) g q y.place a).0 m in
    let w : CallFrom t h.act q h.to g h.targets y.place = call_from t v h.act q h.to g h.targets y.place h.arc in
    let n : ℕ = w.proc in
    let p : Point = w.point in
    let f : ℕ = w.callee in
    let all : AllByRecursion (λ b. IsKnown t b.proc b.point) (below ∷ rest) = subst (AllByRecursion (λ b. IsKnown t b.proc b.point)) stack k.below in
    let called = known_once l t v n below.proc p below.point w.known all.0 w.parts.place in
    let b = entered_has_body t n p f w.args w.known w.action in
    let exit : Point = return_point (slice_get t.procs f) in
    let at = stands_at l t v x k f exit (return_known t f b.0 b.1 b.2 b.3) w.parts.from in
    let targets : List ℕ = numbers_in (frame_at t n) (targets_at p.todo) in
    let rows : MarkedConjunction = w.letter in
    let backs = same_back led.call h.call led.targets h.targets (same_act (back_act led.call led.targets) (back_act h.call h.targets) (act_of (letters_of t) a) led.act (letter_act t a (exact_act (back_act h.call h.targets)) h.letter)) in
    let led_to : led.targets ≡ targets = backs.1 ∙ sym w.parts.targets in
    let called_so : slice_get (letters_of t).acts h.call ≡ Some (call_act led.caller led.callee led.helpers led.rows) = ap (slice_get (letters_of t).acts) (sym backs.0) ∙ led.called in
    let is : call_act led.caller led.callee led.helpers led.rows ≡ call_act n f rows.plain.helpers rows.plain.rows =
    same_act (call_act led.caller led.callee led.helpers led.rows) h.act.act (slice_get (letters_of t).acts h.call) called_so
    (act_got (lettered (program_arcs t)).acts h.call h.act h.called) ∙ ap (λ (m : MarkedAct). m.act) (sym w.parts.act) in
    let holds : BackLeads (frame_of (letters_of t) n) (frame_of (letters_of t) f) rows.plain.helpers rows.plain.rows led.targets x.values below.values y.values =
    subst (BackHolds (letters_of t) led.targets x.values below.values y.values) is led.leads in
    let to_targets : BackLeads (frame_of (letters_of t) n) (frame_of (letters_of t) f) rows.plain.helpers rows.plain.rows targets x.values below.values y.values =
    subst (λ (ts : List ℕ). BackLeads (frame_of (letters_of t) n) (frame_of (letters_of t) f) rows.plain.helpers rows.plain.rows ts x.values below.values y.values) led_to holds in
    let from : BackLeads (frame_at t n) (frame_of (letters_of t) f) rows.plain.helpers rows.plain.rows targets x.values below.values y.values =
    subst (λ (c : Columns). BackLeads c (frame_of (letters_of t) f) rows.plain.helpers rows.plain.rows targets x.values below.values y.values) (frame_is t n w.known.procedure w.known.is) to_targets in
    let leads : BackLeads (frame_at t n) (frame_at t f) rows.plain.helpers rows.plain.rows targets x.values below.values y.values =
    subst (λ (c : Columns). BackLeads (frame_at t n) c rows.plain.helpers rows.plain.rows targets x.values below.values y.values) (frame_is t f b.0 b.2) from in
    let pending : Pending = record { proc = n; point = p; values = below.values } in
    let pending_is : pending ≡ below = λ i. record { proc = called.0 i; point = called.1 i; values = below.values } in
    let here : Stack = record { proc = f; spot = At exit; values = x.values; below = pending ∷ rest } in
    let same : here ≡ x = same_stack here x at.0 at.1 refl (ap (λ (c : Pending). c ∷ rest) pending_is ∙ sym stack) in
    let next : Stack = record { proc = n; spot = At (settled (past_first t.procs p.todo)); values = y.values; below = rest } in
    let to : place_number t n (settled (past_first t.procs p.todo)) ≡ y.place = w.parts.behind in
    let left = leaves_there t f b.0 b.1 b.2 b.3 in
    let one : ToldBack t here a y after = record {
      next = next;
      step = back exit pending w.args rows refl left refl w.action w.among leads refl refl;
      exact = λ e. tt;
      told = λ z. leave_reads_none t f exit leads.rows_hold.helpers y.helpers z left;
      stands = (λ i. record { place = to i; values = y.values; helpers = y.helpers });
      pend = pend;
    } in
    subst (λ (s : Stack). ToldBack t s a y after) same one

-- ---- the letter of the start

-- the first step from place 0
pub record FirstTold (t : TypedProgram) (y : TracePosition) : Type 0 where
  pub stack : Stack
  pub start : IsStart t stack
  pub stands : standing_at t stack y.helpers ≡ y
  pub none_open : stack.below ≡ []

pub first_told : (l : PlaceLaws) (t : TypedProgram) → IsTrue (is_valid t) → (a : Letter) (x y : TracePosition) → Member (lowered t).automaton.insides (0, a, y.place) → LeadsInside (letters_of t) a x y → FirstTold t y
first_told l t v a x y m led =
    let h : InsideOf (program_arcs t) (lettered (program_arcs t)).acts 0 a y.place = (insides_are (program_arcs t) 0 y.place a).0 m in
    let frame : Columns = frame_at t t.entry in
    let written : List ℕ = map (λ o. o.0) (olds_of frame) in
    let rows : List LinearRow = entering_rows (width_at t t.entry) (olds_of frame) in
    let first : Point = start_point_of t (slice_get t.procs t.entry) in
    let entry = valid.entry t v in
    let is : inside_act led.proc led.written led.helpers led.rows ≡ h.act.act = same_act (inside_act led.proc led.written led.helpers led.rows) h.act.act (act_of (letters_of t) a) led.act (letter_act t a h.act h.letter) in
    elim (from_start_or_place t v (inside_arc 0 h.act y.place) h.arc) [
      | inl start ↦ (let parts = inside_parts 0 0 (exact_act (entering t.entry frame)) h.act (place_number t t.entry first) y.place start in
          let holds : HoldsInside (frame_of (letters_of t) t.entry) written 0 rows x.values y.values y.helpers =
          subst (InsideHolds (letters_of t) x.values y.values y.helpers) (is ∙ ap (λ (m : MarkedAct). m.act) (sym parts.1)) (record { leads = led.leads; helped = led.helped }) in
          let leads : InsideLeads frame written 0 rows x.values y.values = subst (λ (f : Columns). InsideLeads f written 0 rows x.values y.values) (frame_is t t.entry entry.0 entry.2) holds.leads in
          let entered : IsEntered t y.values = start_led t t.entry x.values y.values leads in
          record {
            stack = record { proc = t.entry; spot = At first; values = y.values; below = [] };
            start = record {
              globals = entered.globals;
              as_many = entered.as_many;
              locals = entered.locals;
              proc = refl;
              spot = refl;
              values = entered.is;
              state = leads.after;
              below = refl;
            };
            stands = (λ i. record { place = parts.2 i; values = y.values; helpers = y.helpers });
            none_open = refl;
          })
      | inr w ↦ elim w.3 [
        | inl edge ↦ (let parts = inside_parts (place_number t w.0 w.1) 0 (edge_act w.0 edge.edge) h.act (spot_number t w.0 edge.edge.to) y.place edge.is in
            absurd (place_not_zero l t v w.0 w.1 w.2 parts.0))
        | inr c ↦ absurd (cc)
      ]
    ]

-- no call leads from place 0
pub no_first_call : (l : PlaceLaws) (t : TypedProgram) → IsTrue (is_valid t) → (a : Letter) (q : ℕ) → Member (lowered t).automaton.calls (0, a, q) → ⊥
no_first_call l t v a q m =
    let h : CallOf (program_arcs t) (lettered (program_arcs t)).acts 0 a q = (calls_are (program_arcs t) 0 q a).0 m in
    let w : CallFrom t h.act 0 q h.from h.targets h.behind = call_from t v h.act 0 q h.from h.targets h.behind h.arc in
    place_not_zero l t v w.proc w.point w.known w.parts.place
