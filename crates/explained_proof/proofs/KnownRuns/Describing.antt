-- Where an annotation proves the graph of a program, nodes describe the configurations of its runs.
use Rattle.std.proofs.Common.{◌≡◌, ◌∙◌, ◌⊎◌, ℕ, zero, suc, ◌+◌, ℤ, List, [], ◌∷◌, ◌++◌, Option, Some, inl, inr, refl, sym, ap, subst, arith, IsTrue}
use Rattle.std.specs.Prelude.{slice_get}
use Rattle.std.specs.Option.{option_map}
use Rattle.nwa_base.specs.Members.{Member}
use Rattle.typed_tree.specs.TypedTree.{TypedExpression, TypedBlock, TypedProcedure, TypedProgram}
use Rattle.typed_tree.specs.Values.{State}
use Rattle.typed_tree.specs.TypingRules.ValidProgram.{is_valid}
use Rattle.typed_tree.proofs.TypingRules.ValidLaws as valid_laws
use Rattle.letter_acts.specs.Meaning.{Situation}
use Rattle.boogie_run.specs.BoogiePoints.Points.{Start, Point}
use Rattle.boogie_run.specs.BoogiePoints.Actions as actions
use Rattle.boogie_run.specs.BoogiePoints.Actions.{Action, action_at, start_conditions}
use Rattle.boogie_run.specs.BoogiePoints.Starts.{point_of_procedure, point_of_call, unless_none, start_point_of}
use Rattle.boogie_run.specs.BoogiePlaces.Places.{number_of}
use Rattle.boogie_run.specs.Configurations.{Frame, Config, state_of}
use Rattle.boogie_run.specs.Needs.{locals_at}
use Rattle.boogie_run.specs.Steps.{values}
use Rattle.triple_rows.specs.declared.triples.Scoped.{Scoped}
use Rattle.proof_form.specs.Annotations.{Content}
use Rattle.proof_names.specs.Items.{pred_at}
use Rattle.proof_names.specs.Outlines.{OutlineNode, Sketch}
use Rattle.proof_names.proofs.OnceLaws.{names_one}
use Rattle.proof_check.specs.Steps.{IsNode}
use Rattle.proof_check.specs.Described.{HoldsAt, Describes}
use Rattle.proof_check.specs.Proves.{IsStart, HasStart}
use Rattle.proof_check.proofs.Soundness.{Facts}
use Rattle.proof_check.proofs.ProvedLaws.{facts_of}
use Rattle.lowered_graph.specs.LoweredSteps.Stacks.{IsStep}
use Rattle.lowered_graph.specs.LoweredSteps.Moves.{HasTypes, Awaits, BelowIsGood, IsGood, IsMove, IsNoImport, filled, shown_stack}
use Rattle.lowered_graph.specs.LoweredImports.Imports.{later, IsImport}
use Rattle.lowered_graph.specs.LoweredImports.KnownPoints.{IsPointOf}
use Rattle.lowered_graph.proofs.LoweredImports.PointLaws.{knows_points}
use Rattle.lowered_graph.proofs.LoweredImports.ImportLaws.{imports_go}
use Rattle.lowered_graph.proofs.LoweredRuns.Forward.{Follows, forward}
use Rattle.lowered_graph.proofs.LoweredRuns.Filling.{begun}
use Rattle.lowered_graph.specs.Arcs.{place_number}
use Rattle.lowered_graph.specs.Lowered.{entry_of, lowered}
use Rattle.lowered_graph.proofs.Alphabet.{counted_get}
use Rattle.explained_proof.specs.KnownRuns.Reached.{IsWhole, IsReached, MayEnter, situation, at_entry, seen}
use Rattle.explained_proof.specs.KnownRuns.Followed.{IsProofOf, IsEntryOf, Begins, IsDescribed}
use Rattle.explained_proof.specs.KnownRuns.Laws.{RunsAreDescribed, FramesAreDescribed, StartsAreDescribed, FramesAreEntered}
use Rattle.explained_proof.proofs.KnownRuns.NodeSteps.{Leads, IsCalled, stays, call_on, inside_leads}
use Rattle.explained_proof.proofs.KnownRuns.SeenSteps.{frame_seen, top_seen, inside_of, call_of, return_of}
use Rattle.explained_proof.proofs.KnownRuns.Staying.{Stays, Acts, Enters, Leaves, import_stays, kinds_of_moves}
use Rattle.explained_proof.proofs.KnownRuns.Frames.{IsOfStart, at_start, starts_on, called, entry_place, entry_state, AreLed, IsLed, stays_led, enters_led, returns_led}
use Rattle.explained_proof.proofs.KnownRuns.Assumed.{AreTrue, IsAssumed, acts_assumed, import_assumed, leaves_assumed, enters_assumed, conditions_true, first_assumed}
use Rattle.explained_proof.proofs.KnownRuns.Begun.{start_inside, begins}
use Rattle.explained_proof.proofs.KnownRuns.Ways.{part_import, first_good, Way, Comes, comes}

-- no import stands at the start
no_import : (a : Action) → IsOfStart a → IsNoImport a
no_import (actions.Check id at e next) h = tt
no_import (actions.Suppose e next) h = tt
no_import (actions.Demand id at e args next) h = tt
no_import (actions.Write cs es next) h = tt
no_import (actions.Guess x next) h = tt
no_import (actions.Test e hit miss) h = tt
no_import (actions.Pick ways) h = tt
no_import (actions.Jump next) h = tt
no_import (actions.Enter f args) h = tt
no_import (actions.Keep f args x next) h = h
no_import (actions.Grant f args e next) h = h
no_import (actions.Finish f args targets next) h = h
no_import actions.Leave h = tt

no_import_part : (t : TypedProgram) (n : ℕ) (p : Point) → IsNoImport (action_at t n p) → IsNoImport (action_at t n (later p 0))
no_import_part t n p h =
    let e : p.part ≡ p.part + 0 = omega arith in
    let same : p ≡ later p 0 = (λ i. record p { part = e i }) in
    subst (λ (r : Point). IsNoImport (action_at t n r)) same h

-- the place where the body of a procedure begins
entry_got : (t : TypedProgram) (n : ℕ) (q : TypedProcedure) (b : TypedBlock) → slice_get t.procs n ≡ Some q → q.body ≡ Some b → slice_get (lowered t).entries n ≡ Some (Some (entry_place t n))
entry_got t n q b e k =
    let here : 0 + n ≡ n = omega arith in
    counted_get (entry_of t) 0 t.procs n q e ∙ ap (λ (m : ℕ). Some (entry_of t (m, q))) here
    ∙ ap (λ (o : Option TypedBlock). Some (option_map (λ b. place_number t n (point_of_call t n (Some q))) o)) k
    ∙ ap (λ (o : Option TypedProcedure). Some (Some (place_number t n (point_of_call t n o)))) (sym e)

module _ (t : TypedProgram) (valid : IsTrue (is_valid t)) (preds : ℕ → Option Scoped) (s : Sketch) (f : Facts (lowered t) preds s) where
  -- ---- along a run

  -- no call without body stands at the start
  not_at_start : (c d : Config) → IsImport t c d → IsOfStart (action_at t c.top.proc c.top.point) → ⊥
  not_at_start c d m e =
      part_import t c.top.proc 0 c.top.point m.callee m.args m.known (no_import_part t c.top.proc c.top.point (no_import (action_at t c.top.proc c.top.point) e))

  import_led : (c d : Config) → IsGood t (IsPointOf t) c → IsImport t c d → IsLed t preds s c → IsLed t preds s d
  import_led c d g m k =
      let step : IsStep t (shown_stack t c) (shown_stack t d) = (imports_go t c d valid g m).0 in
      let h : Stays t c d = import_stays t valid c d m in
      stays_led t preds s f c d h (inside_of t c d g step h.below) (λ e. absurd (not_at_start c d m (at_start t c.top.proc c.top.point g.top.known e))) k

  acts_led : (c d : Config) → IsGood t (IsPointOf t) c → IsStep t (shown_stack t c) (shown_stack t d) → Acts t valid c d → IsLed t preds s c → IsLed t preds s d
  acts_led c d g step a k = stays_led t preds s f c d a.stays (inside_of t c d g step a.stays.below) (λ e. starts_on t c d a.choice g e a.went) k

  -- where the entry procedure is called the nodes lead from the start to where its body begins
  called_begins : (c : Config) (g : ℕ) (args : List TypedExpression) (more : List ℤ) → IsGood t (IsPointOf t) c → action_at t c.top.proc c.top.point ≡ actions.Enter g args → IsAssumed t c →
      HasTypes (locals_at t g) (values (state_of c) args ++ more) → g ≡ t.entry →
      (let state : State = record { globals = c.globals; old = c.globals; locals = values (state_of c) args ++ more } in Leads preds s (0, situation t g state) (entry_place t g, situation t g state))
  called_begins c g args more good is k typed e =
      let state : State = record { globals = c.globals; old = c.globals; locals = values (state_of c) args ++ more } in
      let entry = valid_laws.entry t valid in
      let trues : AreTrue state (start_conditions t entry.0) = conditions_true t valid c g args more entry.0 good is (ap (slice_get t.procs) e ∙ entry.2) k in
      let own : HasTypes (locals_at t t.entry) state.locals = subst (λ (n : ℕ). HasTypes (locals_at t n) state.locals) e typed in
      subst (λ (n : ℕ). Leads preds s (0, situation t n state) (entry_place t n, situation t n state)) (sym e)
      (begins t valid preds s f c.globals state.locals good.top.keeps.globals own entry.0 entry.1 entry.2 entry.3 trues)

  call_led : (c d : Config) → IsGood t (IsPointOf t) c → IsGood t (IsPointOf t) d → IsStep t (shown_stack t c) (shown_stack t d) → Enters t valid c d → IsAssumed t c → IsLed t preds s c → IsLed t preds s d
  call_led c d g after step a assumed k =
      let zs : List ℤ = values (state_of c) a.args ++ a.more in
      let y : Config = called t c a.callee zs in
      let same : d ≡ y = a.done in
      let good : IsGood t (IsPointOf t) y = subst (IsGood t (IsPointOf t)) same after in
      let stepped : IsStep t (shown_stack t c) (shown_stack t y) = subst (λ (x : Config). IsStep t (shown_stack t c) (shown_stack t x)) same step in
      enters_led t preds s f c d a.callee zs good.top.keeps.locals (called_begins c a.callee a.args a.more g a.action assumed good.top.keeps.locals) same (call_of t c y g stepped refl) k

  waiting_good : (c d : Config) → IsGood t (IsPointOf t) c → (a : Leaves t valid c d) → BelowIsGood t (IsPointOf t) c.top (a.waits ∷ a.rest)
  waiting_good c d g a = subst (BelowIsGood t (IsPointOf t) c.top) a.opened g.below

  return_led : (c d : Config) → IsGood t (IsPointOf t) c → IsStep t (shown_stack t c) (shown_stack t d) → Leaves t valid c d → IsLed t preds s c → IsLed t preds s d
  return_led c d g step a k =
      let b : Frame = a.waits in
      let below : BelowIsGood t (IsPointOf t) c.top (b ∷ a.rest) = waiting_good c d g a in
      let waits : Awaits t c.top b = below.1 in
      returns_led t preds s f c d b a.rest a.opened a.back (return_of t c d b a.rest g step a.opened a.back.below)
      (λ e. subst IsOfStart waits.calls (at_start t b.proc b.point below.0.known e)) k

  -- a configuration is good, what the start assumed is true, and the nodes lead to its frames
  record IsComeTo (c : Config) : Type 0 where
    good : IsGood t (IsPointOf t) c
    assumed : IsAssumed t c
    led : IsLed t preds s c

  move_on : (c d : Config) → IsMove t c d → IsComeTo c → IsComeTo d
  move_on c d m k =
      let o : Follows t (IsPointOf t) (knows_points t valid) c d = forward t (IsPointOf t) (knows_points t valid) c d k.good m in
      elim (kinds_of_moves t valid c d k.good m) [
        | inl a ↦ record { good = o.good; assumed = acts_assumed t valid c d k.good o.good a k.assumed; led = acts_led c d k.good o.step a k.led }
        | inr (inl a) ↦ (let at : d.top.point ≡ point_of_call t a.callee (slice_get t.procs a.callee) = ap (λ (x : Config). x.top.point) a.done in
            record {
              good = o.good;
              assumed = enters_assumed t valid c d a.callee a.args k.good a.action (ap (λ (x : Config). x.globals) a.done) at k.assumed;
              led = call_led c d k.good o.good o.step a k.assumed k.led;
            })
        | inr (inr a) ↦ (let below : BelowIsGood t (IsPointOf t) c.top (a.waits ∷ a.rest) = waiting_good c d k.good a in
            record {
              good = o.good;
              assumed = leaves_assumed t valid c d k.good o.good a.action a (λ n v at e. sym (below.0.keeps.constants n v at e)) k.assumed;
              led = return_led c d k.good o.step a k.led;
            })
      ]

  import_on : (c d : Config) → IsImport t c d → IsComeTo c → IsComeTo d
  import_on c d m k =
      let good : IsGood t (IsPointOf t) d = (imports_go t c d valid k.good m).1 in
      record {
        good = good;
        assumed = import_assumed t valid c d k.good good (not_at_start c d m) (import_stays t valid c d m) m k.assumed;
        led = import_led c d k.good m k.led;
      }

  way_on : (e : Config) (whole : IsWhole t e) (n : ℕ) (c : Config) → IsComeTo c → Way t valid e whole n c → IsComeTo e
  way_on e whole zero c k w = subst IsComeTo w k
  way_on e whole (suc n) c k (d, inl m, w) = way_on e whole n d (move_on c d m k) w
  way_on e whole (suc n) c k (d, inr m, w) = way_on e whole n d (import_on c d m k) w

-- ---- the start

start_or_first : (es : List TypedExpression) (first : Point) → ((unless_none es first).stage ≡ Start) ⊎ (unless_none es first ≡ first)
start_or_first [] first = inr refl
start_or_first (e ∷ es) first = inl refl

module _ (t : TypedProgram) (valid : IsTrue (is_valid t)) (preds : ℕ → Option Scoped) (s : Sketch) (f : Facts (lowered t) preds s) where
  first_led : (gs ls : List ℤ) → HasTypes t.globals gs → HasTypes (locals_at t t.entry) ls → IsLed t preds s (filled (begun t gs) ls)
  first_led gs ls g l =
      let entry = valid_laws.entry t valid in
      let q : TypedProcedure = entry.0 in
      let state : Situation = situation t t.entry (record { globals = gs; old = gs; locals = ls }) in
      let c : Config = filled (begun t gs) ls in
      let i = start_inside t valid gs ls g l in
      let to_start : start_point_of t (slice_get t.procs t.entry) ≡ unless_none (start_conditions t q) (point_of_procedure t t.entry q q.body) = ap (start_point_of t) entry.2 in
      let to_body : point_of_call t t.entry (slice_get t.procs t.entry) ≡ point_of_procedure t t.entry q q.body = ap (point_of_call t t.entry) entry.2 in
      record {
        locals = ls;
        typed = l;
        same = refl;
        proc = refl;
        begun = inside_leads (lowered t) preds s f (0, state) (0, state) (top_seen t c) i.letter i.edge i.act (stays preds s (0, state));
        stands = elim (start_or_first (start_conditions t q) (point_of_procedure t t.entry q q.body)) [
          | inl e ↦ inr (ap (λ (p : Point). p.stage) to_start ∙ e, refl, refl)
          | inr e ↦ (let at : point_of_call t t.entry (slice_get t.procs t.entry) ≡ start_point_of t (slice_get t.procs t.entry) = to_body ∙ sym (to_start ∙ e) in
              let here : ℕ × Situation = (entry_place t t.entry, state) in
              inl (subst (Leads preds s here) (λ j. (number_of t (record { proc = t.entry; point = at j }), state)) (stays preds s here)))
        ];
      }

  -- what a run comes to
  reached : (c : Config) → IsReached t c → IsComeTo t valid preds s f c
  reached c r =
      let b : Comes t valid c r.whole = comes t valid c r.whole r.choices r.goes in
      let first : IsComeTo t valid preds s f (filled (begun t b.globals) b.locals) = record {
        good = first_good t valid b.globals b.locals b.typed b.locals_typed;
        assumed = first_assumed t valid b.globals b.locals;
        led = first_led b.globals b.locals b.typed b.locals_typed;
      } in
      way_on t valid preds s f c r.whole b.steps (filled (begun t b.globals) b.locals) first b.way

  -- ---- law A

  record IsDescribedBy (gs : List ℤ) (a : Frame) : Type 0 where
    number : ℕ
    node : OutlineNode
    stands : IsNode s number node
    begins : Begins t a.proc number node
    described : IsDescribed preds s number (frame_seen t gs a)

  start_describes : (n : ℕ) (x : OutlineNode) (state : Situation) → IsStart n x → Describes preds x (0, state)
  start_describes n x state h = record { at = sym h.at; holds = λ k m. absurd (subst (λ (ks : List ℕ). Member ks k) h.bare m) }

  frame_described : (gs : List ℤ) (a : Frame) (fs : List Frame) → HasStart s → IsPointOf t a.proc a.point → BelowIsGood t (IsPointOf t) a fs → AreLed t preds s gs a fs → IsDescribedBy gs a
  frame_described gs a [] start known below k =
      let first : ℕ × Situation = (0, entry_state t a k.locals) in
      let d : IsDescribed preds s start.1.entry (frame_seen t gs a) = k.begun start.0 start.1 start.2 (start_describes start.0 start.1 first.1 start.3) in
      record {
        number = start.0;
        node = start.1;
        stands = start.2;
        begins = inl (k.proc, start.3);
        described = subst (λ (m : ℕ). IsDescribed preds s m (frame_seen t gs a)) start.3.itself d;
      }
  frame_described gs a (b ∷ rest) start known below k =
      let d : IsDescribedBy a.entry b = frame_described a.entry b rest start below.0.known below.2 k.1 in
      let y = d.described in
      let entry : ℕ × Situation = (entry_place t a.proc, entry_state t a k.0.locals) in
      let w : IsCalled preds s y.number k.0.call.letter.id entry =
      call_on (lowered t) preds s f y.number y.node (frame_seen t a.entry b) entry k.0.call.letter y.stands y.describes k.0.call.edge k.0.call.act in
      let u : IsDescribed preds s w.node.entry (frame_seen t gs a) = k.0.stands w.number w.node w.stands w.describes in
      record {
        number = w.number;
        node = w.node;
        stands = w.stands;
        begins = inr (record { itself = w.itself; at = entry_got t a.proc known.procedure known.body known.is known.has ∙ ap (λ (m : ℕ). Some (Some m)) w.describes.at });
        described = subst (λ (m : ℕ). IsDescribed preds s m (frame_seen t gs a)) w.itself u;
      }

  described_by_one : (c : Config) → HasStart s → IsReached t c → IsDescribedBy c.globals c.top
  described_by_one c start r =
      let h : IsComeTo t valid preds s f c = reached c r in
      frame_described c.globals c.top c.below start h.good.top.known h.good.below h.led

  -- ---- the state in which a frame was entered

  -- the state in which the frame that runs was entered, from which the nodes lead, and a node that knows it
  record IsEnteredBy (c : Config) : Type 0 where
    locals : List ℤ
    may : MayEnter t c locals
    led : Leads preds s (entry_place t c.top.proc, entry_state t c.top locals) (top_seen t c)
    number : ℕ
    node : OutlineNode
    stands : IsNode s number node
    begins : Begins t c.top.proc number node
    held : (k : ℕ) → Member node.preds k → HoldsAt preds k (entry_state t c.top locals)

  entered_by : (c : Config) (fs : List Frame) → HasStart s → IsPointOf t c.top.proc c.top.point → BelowIsGood t (IsPointOf t) c.top fs → (c.top.point.stage ≡ Start → ⊥) →
      AreLed t preds s c.globals c.top fs → IsEnteredBy c
  entered_by c [] start known below behind k = record {
    locals = k.locals;
    may = record { typed = k.typed; same = k.same };
    led = elim k.stands [ inl h ↦ h | inr w ↦ absurd (behind w.0) ];
    number = start.0;
    node = start.1;
    stands = start.2;
    begins = inl (k.proc, start.3);
    held = λ m h. absurd (subst (λ (ks : List ℕ). Member ks m) start.3.bare h);
  }
  entered_by c (b ∷ rest) start known below behind k =
      let d : IsDescribedBy c.top.entry b = frame_described c.top.entry b rest start below.0.known below.2 k.1 in
      let y = d.described in
      let entry : ℕ × Situation = (entry_place t c.top.proc, entry_state t c.top k.0.locals) in
      let w : IsCalled preds s y.number k.0.call.letter.id entry =
      call_on (lowered t) preds s f y.number y.node (frame_seen t c.top.entry b) entry k.0.call.letter y.stands y.describes k.0.call.edge k.0.call.act in
      record {
        locals = k.0.locals;
        may = record { typed = k.0.typed; same = k.0.same };
        led = k.0.stands;
        number = w.number;
        node = w.node;
        stands = w.stands;
        begins = inr (record { itself = w.itself; at = entry_got t c.top.proc known.procedure known.body known.is known.has ∙ ap (λ (m : ℕ). Some (Some m)) w.describes.at });
        held = w.describes.holds;
      }

  -- an entry node that knows that state describes where its procedure begins
  describes_entry : (c : Config) (n : ℕ) (x : OutlineNode) (v : Situation) → IsPointOf t c.top.proc c.top.point → IsEntryOf (lowered t) c.top.proc n x →
      ((k : ℕ) → Member x.preds k → HoldsAt preds k v) → Describes preds x (entry_place t c.top.proc, v)
  describes_entry c n x v known entry holds =
      let got : Some (Some (entry_place t c.top.proc)) ≡ Some (Some x.place) = sym (entry_got t c.top.proc known.procedure known.body known.is known.has) ∙ entry.at in
      record { at = cc; holds = holds }

  -- ---- law B

  -- where the frame that runs was entered, and that the nodes lead from there
  record IsLedFrom (c : Config) : Type 0 where
    locals : List ℤ
    may : MayEnter t c locals
    led : Leads preds s (entry_place t c.top.proc, entry_state t c.top locals) (top_seen t c)

  led_from : (c : Config) (fs : List Frame) → (c.top.point.stage ≡ Start → ⊥) → AreLed t preds s c.globals c.top fs → IsLedFrom c
  led_from c [] behind k = record {
    locals = k.locals;
    may = record { typed = k.typed; same = k.same };
    led = elim k.stands [ inl h ↦ h | inr w ↦ absurd (behind w.0) ];
  }
  led_from c (b ∷ rest) behind k = record { locals = k.0.locals; may = record { typed = k.0.typed; same = k.0.same }; led = k.0.stands }

  described_from : (c : Config) (n : ℕ) (x : OutlineNode) → IsReached t c → (c.top.point.stage ≡ Start → ⊥) → IsNode s n x → IsEntryOf (lowered t) c.top.proc n x →
      ((locals : List ℤ) → MayEnter t c locals → (k : ℕ) → Member x.preds k → HoldsAt preds k (at_entry t c locals)) → IsDescribed preds s n (seen t c)
  described_from c n x r behind stands entry holds =
      let h : IsComeTo t valid preds s f c = reached c r in
      let w : IsLedFrom c = led_from c c.below behind h.led in
      let known : IsPointOf t c.top.proc c.top.point = h.good.top.known in
      let got : Some (Some (entry_place t c.top.proc)) ≡ Some (Some x.place) = sym (entry_got t c.top.proc known.procedure known.body known.is known.has) ∙ entry.at in
      let at : entry_place t c.top.proc ≡ x.place = cc in
      let d : IsDescribed preds s x.entry (seen t c) = w.led n x stands (record { at = at; holds = holds w.locals w.may }) in
      subst (λ (m : ℕ). IsDescribed preds s m (seen t c)) entry.itself d

  -- ---- law C

  -- where the frame that runs was entered, and that the nodes lead from the start in that state
  record IsBegunFrom (c : Config) : Type 0 where
    locals : List ℤ
    led : Leads preds s (0, entry_state t c.top locals) (top_seen t c)

  begun_from : (c : Config) (fs : List Frame) → c.top.proc ≡ t.entry → AreLed t preds s c.globals c.top fs → IsBegunFrom c
  begun_from c [] e k = record { locals = k.locals; led = k.begun }
  begun_from c (b ∷ rest) e k = record { locals = k.0.locals; led = k.0.begun e }

  described_from_start : (c : Config) (n : ℕ) (x : OutlineNode) → IsReached t c → c.top.proc ≡ t.entry → IsNode s n x → IsStart n x → IsDescribed preds s n (seen t c)
  described_from_start c n x r e stands start =
      let w : IsBegunFrom c = begun_from c c.below e (reached c r).led in
      let d : IsDescribed preds s x.entry (seen t c) = w.led n x stands (start_describes n x (entry_state t c.top w.locals) start) in
      subst (λ (m : ℕ). IsDescribed preds s m (seen t c)) start.itself d

-- ---- the laws

facts : (t : TypedProgram) (a : Content) (s : Sketch) → IsProofOf t a s → Facts (lowered t) (pred_at (lowered t) a) s × HasStart s
facts t a s p =
    let one : p.proves.sketch ≡ s = names_one (lowered t) a p.proves.sketch s p.proves.named p.names in
    subst (λ (x : Sketch). Facts (lowered t) (pred_at (lowered t) a) x × HasStart x) one (facts_of (lowered t) a p.graph p.form p.proves, p.proves.start)

pub runs_are_described : RunsAreDescribed
runs_are_described t a s c valid p r =
    let f = facts t a s p in
    let d = described_by_one t valid (pred_at (lowered t) a) s f.0 c f.1 r in
    record { number = d.number; node = d.node; stands = d.stands; begins = d.begins; described = d.described }

pub frames_are_described : FramesAreDescribed
frames_are_described t a s c n x valid p r behind stands entry holds = described_from t valid (pred_at (lowered t) a) s (facts t a s p).0 c n x r behind stands entry holds

pub starts_are_described : StartsAreDescribed
starts_are_described t a s c n x valid p r e stands start = described_from_start t valid (pred_at (lowered t) a) s (facts t a s p).0 c n x r e stands start

pub frames_are_entered : FramesAreEntered
frames_are_entered t a s c valid p r behind =
    let f = facts t a s p in
    let preds : ℕ → Option Scoped = pred_at (lowered t) a in
    let h = reached t valid preds s f.0 c r in
    let w = entered_by t valid preds s f.0 c c.below f.1 h.good.top.known h.good.below behind h.led in
    record {
      keeps = h.good.top.keeps;
      locals = w.locals;
      may = w.may;
      number = w.number;
      node = w.node;
      stands = w.stands;
      begins = w.begins;
      held = w.held;
      described = λ n x stands entry holds.
          let u = describes_entry t valid preds s f.0 c n x (at_entry t c w.locals) h.good.top.known entry holds in
          subst (λ (m : ℕ). IsDescribed preds s m (seen t c)) entry.itself (w.led n x stands u);
    }
