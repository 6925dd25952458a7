-- What is kept along a run: the nodes lead from where a frame was entered to where it stands.
use Rattle.std.proofs.Common.{◌≡◌, ◌∙◌, ◌⊎◌, ℕ, ◌+◌, ℤ, List, [], ◌∷◌, take, Option, None, Some, inl, inr, refl, sym, ap, subst}
use Rattle.std.specs.Prelude.{slice_get}
use Rattle.typed_tree.specs.TypedTree.{TypedExpression, TypedBlock, TypedProcedure, TypedProgram}
use Rattle.typed_tree.specs.Values.{value}
use Rattle.letter_acts.specs.Meaning.{Situation}
use Rattle.boogie_run.specs.BoogiePoints.Points.{Start, Stage, Point}
use Rattle.boogie_run.specs.BoogiePoints.Actions as actions
use Rattle.boogie_run.specs.BoogiePoints.Actions.{Action, action_at, procedure_action, body_or_leave, stage_action, start_action, start_conditions, first_point, first_assertion, first_place, next_part}
use Rattle.boogie_run.specs.BoogiePoints.Starts.{point_of_procedure, point_of_call}
use Rattle.boogie_run.specs.BoogiePlaces.Places.{number_of}
use Rattle.boogie_run.specs.Configurations.{Frame, Config, state_of}
use Rattle.boogie_run.specs.Needs.{locals_at}
use Rattle.boogie_run.specs.Steps.{Went, Blocked, act, moved_to, is_true}
use Rattle.triple_rows.specs.declared.triples.Scoped.{Scoped}
use Rattle.proof_names.specs.Outlines.{Sketch}
use Rattle.proof_check.proofs.Soundness.{Facts}
use Rattle.lowered_graph.specs.LoweredSteps.Moves.{HasTypes, IsGood}
use Rattle.lowered_graph.proofs.LoweredSteps.Returns.{resumed}
use Rattle.lowered_graph.specs.LoweredImports.KnownPoints.{IsPointOf}
use Rattle.lowered_graph.proofs.LoweredRuns.Taken.{went_if_true}
use Rattle.lowered_graph.specs.Lowered.{lowered}
use Rattle.explained_proof.specs.KnownRuns.Reached.{situation}
use Rattle.explained_proof.proofs.KnownRuns.NodeSteps.{Leads, stays, inside_leads, back_leads}
use Rattle.explained_proof.proofs.KnownRuns.SeenSteps.{IsInside, IsCall, IsReturn, frame_seen, top_seen}
use Rattle.explained_proof.proofs.KnownRuns.Staying.{params, Stays}

-- ---- the start of the entry procedure

-- an action at the start: on to a point, or a condition that is assumed
abbrev pub IsOfStart : Action → Type 0
IsOfStart (actions.Suppose e next) = Unit {0}
IsOfStart (actions.Jump next) = Unit {0}
IsOfStart a = ⊥

start_of : (o m : Option TypedExpression) (here first : Point) → IsOfStart (start_action o m here first)
start_of None m here first = tt
start_of (Some e) None here first = tt
start_of (Some e) (Some d) here first = tt

-- the action at a point of the start
pub start_acts : (t : TypedProgram) (n : ℕ) (p : Point) (q : TypedProcedure) (b : TypedBlock) → slice_get t.procs n ≡ Some q → q.body ≡ Some b → p.stage ≡ Start →
    action_at t n p ≡ start_action (slice_get (start_conditions t q) p.part) (slice_get (start_conditions t q) (p.part + 1)) p (point_of_call t n (slice_get t.procs n))
start_acts t n p q b is has e =
    let conditions : List TypedExpression = start_conditions t q in
    let first : first_point q b (first_assertion t.procs n) (first_place t n) ≡ point_of_call t n (slice_get t.procs n) = sym (ap (point_of_call t n) is ∙ ap (point_of_procedure t n q) has) in
    ap (λ (o : Option TypedProcedure). procedure_action t n o p) is
    ∙ ap (λ (o : Option TypedBlock). body_or_leave t n q o p) has
    ∙ ap (λ (x : Stage). stage_action t n q b x p) e
    ∙ ap (start_action (slice_get conditions p.part) (slice_get conditions (p.part + 1)) p) first

pub at_start : (t : TypedProgram) (n : ℕ) (p : Point) → (k : IsPointOf t n p) → p.stage ≡ Start → IsOfStart (action_at t n p)
at_start t n p k e =
    let conditions : List TypedExpression = start_conditions t k.procedure in
    subst IsOfStart (sym (start_acts t n p k.procedure k.body k.is k.has e)) (start_of (slice_get conditions p.part) (slice_get conditions (p.part + 1)) p (point_of_call t n (slice_get t.procs n)))

-- an action at the start changes no value, and leads on at the start or to where the body begins
pub record StartsOn (t : TypedProgram) (c d : Config) : Type 0 where
  pub globals : d.globals ≡ c.globals
  pub locals : d.top.locals ≡ c.top.locals
  pub point : (d.top.point.stage ≡ Start) ⊎ (d.top.point ≡ point_of_call t c.top.proc (slice_get t.procs c.top.proc))

starts_by : (t : TypedProgram) (c d : Config) (v : ℤ) (o m : Option TypedExpression) → c.top.point.stage ≡ Start →
    act t c v (start_action o m c.top.point (point_of_call t c.top.proc (slice_get t.procs c.top.proc))) ≡ Went d → StartsOn t c d
starts_by t c d v None m e went =
    let first : Point = point_of_call t c.top.proc (slice_get t.procs c.top.proc) in
    let same : moved_to c first ≡ d = cc in
    subst (StartsOn t c) same (record { globals = refl; locals = refl; point = inr refl })
starts_by t c d v (Some x) None e went =
    let first : Point = point_of_call t c.top.proc (slice_get t.procs c.top.proc) in
    let h = went_if_true (is_true (value (state_of c) x)) (moved_to c first) d Blocked (λ y. cc) went in
    subst (StartsOn t c) h.same (record { globals = refl; locals = refl; point = inr refl })
starts_by t c d v (Some x) (Some y) e went =
    let h = went_if_true (is_true (value (state_of c) x)) (moved_to c (next_part c.top.point)) d Blocked (λ z. cc) went in
    subst (StartsOn t c) h.same (record { globals = refl; locals = refl; point = inl e })

pub starts_on : (t : TypedProgram) (c d : Config) (v : ℤ) → IsGood t (IsPointOf t) c → c.top.point.stage ≡ Start → act t c v (action_at t c.top.proc c.top.point) ≡ Went d → StartsOn t c d
starts_on t c d v g e went =
    let known : IsPointOf t c.top.proc c.top.point = g.top.known in
    let conditions : List TypedExpression = start_conditions t known.procedure in
    starts_by t c d v (slice_get conditions c.top.point.part) (slice_get conditions (c.top.point.part + 1)) e
    (subst (λ (a : Action). act t c v a ≡ Went d) (start_acts t c.top.proc c.top.point known.procedure known.body known.is known.has e) went)

-- ---- frames

-- a call of procedure g with these locals
abbrev pub called : TypedProgram → Config → ℕ → List ℤ → Config
called t c g zs = record {
  globals = c.globals;
  top = record { proc = g; locals = zs; entry = c.globals; point = point_of_call t g (slice_get t.procs g); kept = [] };
  below = c.top ∷ c.below;
}

-- where the body of procedure n begins
abbrev pub entry_place : TypedProgram → ℕ → ℕ
entry_place t n = number_of t (record { proc = n; point = point_of_call t n (slice_get t.procs n) })

-- the state of a frame at its entry, with these locals
abbrev pub entry_state : TypedProgram → Frame → List ℤ → Situation
entry_state t f locals = situation t f.proc (record { globals = f.entry; old = f.entry; locals = locals })

module _ (t : TypedProgram) (preds : ℕ → Option Scoped) (s : Sketch) where
  -- the frame of the entry procedure with which the run began: the nodes lead from the start, and behind the start from the entry
  pub record FirstIsLed (gs : List ℤ) (f : Frame) : Type 0 where
    pub locals : List ℤ
    pub typed : HasTypes (locals_at t f.proc) locals
    pub same : take (params t f.proc) locals ≡ take (params t f.proc) f.locals
    pub proc : f.proc ≡ t.entry
    pub begun : Leads preds s (0, entry_state t f locals) (frame_seen t gs f)
    pub stands : Leads preds s (entry_place t f.proc, entry_state t f locals) (frame_seen t gs f) ⊎ ((f.point.stage ≡ Start) × (gs ≡ f.entry) × (f.locals ≡ locals))

  -- a frame that was called: the nodes lead from its entry, to which a letter leads from the frame below, and one of the entry procedure from the start, too
  pub record CalledIsLed (gs : List ℤ) (f b : Frame) : Type 0 where
    pub locals : List ℤ
    pub typed : HasTypes (locals_at t f.proc) locals
    pub same : take (params t f.proc) locals ≡ take (params t f.proc) f.locals
    pub stands : Leads preds s (entry_place t f.proc, entry_state t f locals) (frame_seen t gs f)
    pub begun : f.proc ≡ t.entry → Leads preds s (0, entry_state t f locals) (frame_seen t gs f)
    pub call : IsCall t (frame_seen t f.entry b) (entry_place t f.proc, entry_state t f locals)

  -- of all frames, the innermost first
  abbrev pub AreLed : List ℤ → Frame → List Frame → Type 0
  AreLed gs f [] = FirstIsLed gs f
  AreLed gs f (b ∷ rest) = CalledIsLed gs f b × AreLed f.entry b rest

  abbrev pub IsLed : Config → Type 0
  IsLed c = AreLed c.globals c.top c.below

  -- a configuration that stays in the frame of another
  abbrev settled_in : Frame → List Frame → Config → Config
  settled_in f fs d = record { globals = d.globals; top = record d.top { proc = f.proc; entry = f.entry }; below = fs }

  settles : (c d : Config) → Stays t c d → settled_in c.top c.below d ≡ d
  settles c d h = λ i. record { globals = d.globals; top = record d.top { proc = sym h.proc i; entry = sym h.entry i }; below = sym h.below i }

  module _ (f : Facts (lowered t) preds s) where
    -- the first frame at the start
    first_starts : (gs hs : List ℤ) (a h : Frame) → (k : FirstIsLed gs a) → gs ≡ a.entry → a.locals ≡ k.locals → hs ≡ gs → h.locals ≡ a.locals →
        (h.point.stage ≡ Start) ⊎ (h.point ≡ point_of_call t a.proc (slice_get t.procs a.proc)) →
        Leads preds s (entry_place t a.proc, entry_state t a k.locals) (frame_seen t hs (record h { proc = a.proc; entry = a.entry })) ⊎ ((h.point.stage ≡ Start) × (hs ≡ a.entry) × (h.locals ≡ k.locals))
    first_starts gs hs a h k own locals same values (inl e) = inr (e, same ∙ own, values ∙ locals)
    first_starts gs hs a h k own locals same values (inr e) =
        let here : ℕ × Situation = (entry_place t a.proc, entry_state t a k.locals) in
        let now : hs ≡ a.entry = same ∙ own in
        let held : h.locals ≡ k.locals = values ∙ locals in
        let seen_so : here ≡ frame_seen t hs (record h { proc = a.proc; entry = a.entry }) =
        (λ i. (number_of t (record { proc = a.proc; point = sym e i }), situation t a.proc (record { globals = sym now i; old = a.entry; locals = sym held i }))) in
        inl (subst (Leads preds s here) seen_so (stays preds s here))

    -- an inside letter in the first frame, and in a frame that was called
    first_on : (gs hs : List ℤ) (a h : Frame) → IsInside t (frame_seen t gs a) (frame_seen t hs (record h { proc = a.proc; entry = a.entry })) → take (params t a.proc) h.locals ≡ take (params t a.proc) a.locals →
        (a.point.stage ≡ Start → (hs ≡ gs) × (h.locals ≡ a.locals) × ((h.point.stage ≡ Start) ⊎ (h.point ≡ point_of_call t a.proc (slice_get t.procs a.proc)))) →
        FirstIsLed gs a → FirstIsLed hs (record h { proc = a.proc; entry = a.entry })
    first_on gs hs a h i p at_begin k = record {
      locals = k.locals;
      typed = k.typed;
      same = k.same ∙ sym p;
      proc = k.proc;
      begun = inside_leads (lowered t) preds s f (0, entry_state t a k.locals) (frame_seen t gs a) (frame_seen t hs (record h { proc = a.proc; entry = a.entry })) i.letter i.edge i.act k.begun;
      stands = elim k.stands [
        | inl led ↦ inl (inside_leads (lowered t) preds s f (entry_place t a.proc, entry_state t a k.locals) (frame_seen t gs a) (frame_seen t hs (record h { proc = a.proc; entry = a.entry })) i.letter i.edge i.act led)
        | inr w ↦ (let on = at_begin w.0 in first_starts gs hs a h k w.1 w.2 on.0 on.1 on.2)
      ];
    }

    called_on : (gs hs : List ℤ) (a h b : Frame) → IsInside t (frame_seen t gs a) (frame_seen t hs (record h { proc = a.proc; entry = a.entry })) → take (params t a.proc) h.locals ≡ take (params t a.proc) a.locals →
        CalledIsLed gs a b → CalledIsLed hs (record h { proc = a.proc; entry = a.entry }) b
    called_on gs hs a h b i p k = record {
      locals = k.locals;
      typed = k.typed;
      same = k.same ∙ sym p;
      stands = inside_leads (lowered t) preds s f (entry_place t a.proc, entry_state t a k.locals) (frame_seen t gs a) (frame_seen t hs (record h { proc = a.proc; entry = a.entry })) i.letter i.edge i.act k.stands;
      begun = λ e. inside_leads (lowered t) preds s f (0, entry_state t a k.locals) (frame_seen t gs a) (frame_seen t hs (record h { proc = a.proc; entry = a.entry })) i.letter i.edge i.act (k.begun e);
      call = k.call;
    }

    inside_on : (gs hs : List ℤ) (a h : Frame) (fs : List Frame) → IsInside t (frame_seen t gs a) (frame_seen t hs (record h { proc = a.proc; entry = a.entry })) → take (params t a.proc) h.locals ≡ take (params t a.proc) a.locals →
        (a.point.stage ≡ Start → (hs ≡ gs) × (h.locals ≡ a.locals) × ((h.point.stage ≡ Start) ⊎ (h.point ≡ point_of_call t a.proc (slice_get t.procs a.proc)))) →
        AreLed gs a fs → AreLed hs (record h { proc = a.proc; entry = a.entry }) fs
    inside_on gs hs a h [] i p at_begin k = first_on gs hs a h i p at_begin k
    inside_on gs hs a h (b ∷ rest) i p at_begin k = (called_on gs hs a h b i p k.0, k.1)

    -- where the frame that runs moves on
    pub stays_led : (c d : Config) → (h : Stays t c d) → IsInside t (top_seen t c) (top_seen t d) → (c.top.point.stage ≡ Start → StartsOn t c d) → IsLed c → IsLed d
    stays_led c d h i at_begin k =
        let x : Config = settled_in c.top c.below d in
        let same : x ≡ d = settles c d h in
        let moves : IsInside t (top_seen t c) (top_seen t x) = subst (λ (y : Config). IsInside t (top_seen t c) (top_seen t y)) (sym same) i in
        subst IsLed same (inside_on c.globals d.globals c.top d.top c.below moves h.params (λ e. let o = at_begin e in (o.globals, o.locals, o.point)) k)

    -- a call
    pub enters_led : (c d : Config) (g : ℕ) (zs : List ℤ) → HasTypes (locals_at t g) zs →
        (g ≡ t.entry → Leads preds s (0, entry_state t (called t c g zs).top zs) (entry_place t g, entry_state t (called t c g zs).top zs)) →
        (let y : Config = called t c g zs in d ≡ y) → IsCall t (top_seen t c) (top_seen t (called t c g zs)) → IsLed c → IsLed d
    enters_led c d g zs typed begins same i k =
        let y : Config = called t c g zs in
        subst IsLed (sym same) (
          record {
            locals = zs;
            typed = typed;
            same = refl;
            stands = stays preds s (entry_place t g, entry_state t y.top zs);
            begun = begins;
            call = i;
          },
          k,
        )

    -- a return
    back_on : (gs hs : List ℤ) (a h b : Frame) (rest : List Frame) → IsReturn t (frame_seen t gs a) (frame_seen t a.entry b) (frame_seen t hs (record h { proc = b.proc; entry = b.entry })) →
        take (params t b.proc) h.locals ≡ take (params t b.proc) b.locals → (b.point.stage ≡ Start → ⊥) → CalledIsLed gs a b → AreLed a.entry b rest → AreLed hs (record h { proc = b.proc; entry = b.entry }) rest
    back_on gs hs a h b [] i p behind w k =
        let to : ℕ × Situation = frame_seen t hs (record h { proc = b.proc; entry = b.entry }) in
        let lead : (start : ℕ × Situation) → Leads preds s start (frame_seen t a.entry b) → Leads preds s start to =
        (λ start l. back_leads (lowered t) preds s f start (frame_seen t a.entry b) (entry_place t a.proc, entry_state t a w.locals) (frame_seen t gs a) to w.call.letter i.letter i.kind w.call.edge w.call.act i.edge i.act l w.stands) in
        record {
          locals = k.locals;
          typed = k.typed;
          same = k.same ∙ sym p;
          proc = k.proc;
          begun = lead (0, entry_state t b k.locals) k.begun;
          stands = elim k.stands [ inl l ↦ inl (lead (entry_place t b.proc, entry_state t b k.locals) l) | inr x ↦ absurd (behind x.0) ];
        }
    back_on gs hs a h b (b2 ∷ rest) i p behind w k =
        let to : ℕ × Situation = frame_seen t hs (record h { proc = b.proc; entry = b.entry }) in (
          record {
            locals = k.0.locals;
            typed = k.0.typed;
            same = k.0.same ∙ sym p;
            stands = back_leads (lowered t) preds s f (entry_place t b.proc, entry_state t b k.0.locals) (frame_seen t a.entry b) (entry_place t a.proc, entry_state t a w.locals) (frame_seen t gs a) to
                w.call.letter i.letter i.kind w.call.edge w.call.act i.edge i.act k.0.stands w.stands;
            begun = λ e. back_leads (lowered t) preds s f (0, entry_state t b k.0.locals) (frame_seen t a.entry b) (entry_place t a.proc, entry_state t a w.locals) (frame_seen t gs a) to
                w.call.letter i.letter i.kind w.call.edge w.call.act i.edge i.act (k.0.begun e) w.stands;
            call = k.0.call;
          },
          k.1,
        )

    pub returns_led : (c d : Config) (b : Frame) (rest : List Frame) → c.below ≡ b ∷ rest → (h : Stays t (resumed c b rest) d) → IsReturn t (top_seen t c) (frame_seen t c.top.entry b) (top_seen t d) →
        (b.point.stage ≡ Start → ⊥) → IsLed c → IsLed d
    returns_led c d b rest opened h i behind k =
        let all : CalledIsLed c.globals c.top b × AreLed c.top.entry b rest = subst (AreLed c.globals c.top) opened k in
        let x : Config = settled_in b rest d in
        let same : x ≡ d = settles (resumed c b rest) d h in
        let moves : IsReturn t (top_seen t c) (frame_seen t c.top.entry b) (top_seen t x) = subst (λ (y : Config). IsReturn t (top_seen t c) (frame_seen t c.top.entry b) (top_seen t y)) (sym same) i in
        subst IsLed same (back_on c.globals d.globals c.top d.top b rest moves h.params behind all.0 all.1)
