-- What the start of a run assumes is true where the entry procedure is called, too: axioms speak of constants, and the requires were shown at the call.
use Rattle.std.proofs.Common.{◌≡◌, ◌∙◌, ◌⊎◌, ℕ, zero, suc, ◌+◌, ◌<◌, true, false, ℤ, List, [], ◌∷◌, ◌++◌, map, length, Option, None, Some, inl, inr, refl, sym, ap, subst, arith, IsTrue}
use Rattle.std.specs.Prelude.{slice_get}
use Rattle.std.proofs.lemmas.Bool.{cases_lt}
use Rattle.std.proofs.lemmas.List.{length-map}
use Rattle.typed_tree.specs.TypedTree.{TypedExpression, TypedInvariant, TypedBlock, TypedProcedure, TypedProgram}
use Rattle.typed_tree.specs.Values.{State, member, value}
use Rattle.typed_tree.specs.TypingRules.ValidProgram.{is_valid}
use Rattle.typed_tree.specs.TypingRules.Rules.{params_of}
use Rattle.typed_tree.proofs.TypingRules.ValidLaws as valid_laws
use Rattle.boogie_run.specs.BoogiePoints.Points.{Start, Point, settled, past_first}
use Rattle.boogie_run.specs.BoogiePoints.Actions as actions
use Rattle.boogie_run.specs.BoogiePoints.Actions.{Action, action_at, plain_conditions, free_conditions, start_conditions, start_action, next_part, first_assertion, first_place}
use Rattle.boogie_run.specs.BoogiePoints.Starts.{point_of_procedure, point_of_call, unless_none, start_point_of}
use Rattle.boogie_run.specs.Configurations.{Config, state_of}
use Rattle.boogie_run.specs.Steps.{Went, Blocked, act, moved_to, is_true, values, passed_state}
use Rattle.lowered_graph.specs.LoweredSteps.Moves.{IsGood, IsKnownCall, filled}
use Rattle.lowered_graph.proofs.LoweredSteps.Goodness.{arguments_length}
use Rattle.lowered_graph.specs.LoweredSteps.ProgramFrames.{frame_at}
use Rattle.lowered_graph.specs.LoweredImports.Imports.{IsImport}
use Rattle.lowered_graph.specs.LoweredImports.KnownPoints.{IsPointOf}
use Rattle.lowered_graph.proofs.LoweredImports.PointLaws.{knows_points}
use Rattle.lowered_graph.proofs.LoweredRuns.Filling.{begun}
use Rattle.lowered_graph.proofs.LoweredRuns.Taken.{went_if_true}
use Rattle.explained_proof.proofs.KnownRuns.Staying.{Stays, Acts, Leaves}
use Rattle.explained_proof.proofs.KnownRuns.Frames.{IsOfStart, start_acts, at_start}
use Rattle.explained_proof.proofs.KnownRuns.SeenValues.{SameConstants, axiom_value, requires_value}
use Rattle.explained_proof.proofs.KnownRuns.Shown.{claims, claim_state, HeldAt, none_held, settled_part, entry_part, IsAtCall, at_call, acts_held}

-- ---- lists

-- a member stands before the end
before_none : {X : Type 0} (xs : List X) (j k : ℕ) (x : X) → slice_get xs k ≡ None → slice_get xs j ≡ Some x → j < k
before_none [] j k x n e = absurd (cc)
before_none (y ∷ ys) j zero x n e = absurd (cc)
before_none (y ∷ ys) zero (suc k) x n e = omega arith
before_none (y ∷ ys) (suc j) (suc k) x n e = let h = before_none ys j k x n e in omega arith

in_front : {X : Type 0} (xs ys : List X) (j : ℕ) (x : X) → slice_get xs j ≡ Some x → slice_get (xs ++ ys) j ≡ Some x
in_front [] ys j x e = absurd (cc)
in_front (z ∷ zs) ys zero x e = e
in_front (z ∷ zs) ys (suc j) x e = in_front zs ys j x e

in_either : {X : Type 0} (xs ys : List X) (j : ℕ) (x : X) → slice_get (xs ++ ys) j ≡ Some x → (slice_get xs j ≡ Some x) ⊎ ((k : ℕ) × (slice_get ys k ≡ Some x))
in_either [] ys j x e = inr (j, e)
in_either (z ∷ zs) ys zero x e = inl e
in_either (z ∷ zs) ys (suc j) x e = in_either zs ys j x e

of_map : {X Y : Type 0} (f : X → Y) (xs : List X) (j : ℕ) (y : Y) → slice_get (map f xs) j ≡ Some y → (x : X) × (slice_get xs j ≡ Some x) × (f x ≡ y)
of_map f [] j y e = absurd (cc)
of_map f (x ∷ xs) zero y e = (x, refl, cc)
of_map f (x ∷ xs) (suc j) y e = of_map f xs j y e

-- ---- conditions

-- those before the k-th are true
abbrev Below : State → List TypedExpression → ℕ → Type 0
Below s es k = (j : ℕ) (e : TypedExpression) → slice_get es j ≡ Some e → j < k → is_true (value s e) ≡ true

abbrev pub AreTrue : State → List TypedExpression → Type 0
AreTrue s es = (j : ℕ) (e : TypedExpression) → slice_get es j ≡ Some e → is_true (value s e) ≡ true

below_next : (s : State) (es : List TypedExpression) (k : ℕ) (x : TypedExpression) → slice_get es k ≡ Some x → is_true (value s x) ≡ true → Below s es k → Below s es (k + 1)
below_next s es k x at true_is h j e found l = elim (cases_lt j k) [
  | inl less ↦ h j e found less
  | inr most ↦ (let last : j ≡ k = omega arith in
      let same : Some x ≡ Some e = sym at ∙ ap (slice_get es) (sym last) ∙ found in
      let one : x ≡ e = cc in
      subst (λ (y : TypedExpression). is_true (value s y) ≡ true) one true_is)
]

below_all : (s : State) (es : List TypedExpression) (k : ℕ) → slice_get es k ≡ None → Below s es k → AreTrue s es
below_all s es k none h j e found = h j e found (before_none es j k e none found)

-- the axioms are true
abbrev pub AxiomsHold : TypedProgram → List ℤ → Type 0
AxiomsHold t gs = AreTrue (record { globals = gs; old = gs; locals = [] }) t.axioms

-- the conditions of the start that were assumed so far
abbrev Passed : TypedProgram → Config → Type 0
Passed t c = (q : TypedProcedure) → slice_get t.procs c.top.proc ≡ Some q → Below (state_of c) (start_conditions t q) c.top.point.part

-- What was shown at the point, and what was assumed at the start.
pub record IsAssumed (t : TypedProgram) (c : Config) : Type 0 where
  pub held : HeldAt t.procs c.top.point (state_of c)
  pub begun : AxiomsHold t c.globals ⊎ ((c.top.point.stage ≡ Start) × Passed t c)

call_part : (t : TypedProgram) (f : ℕ) (o : Option TypedProcedure) → (point_of_call t f o).part ≡ 0
call_part t f None = refl
call_part t f (Some q) = by_body q.body
  where
    by_body : (o : Option TypedBlock) → (point_of_procedure t f q o).part ≡ 0
    by_body None = refl
    by_body (Some b) = entry_part (free_conditions q.specs) (record { rest = b; of_loop = false; id = first_assertion t.procs f; at = first_place t f + length (free_conditions q.specs) })

module _ (t : TypedProgram) (valid : IsTrue (is_valid t)) where
  axioms_on : (gs hs : List ℤ) → SameConstants t gs hs → AxiomsHold t gs → AxiomsHold t hs
  axioms_on gs hs same h j e found =
      ap is_true (sym (axiom_value t valid j e (record { globals = gs; old = gs; locals = [] }) (record { globals = hs; old = hs; locals = [] }) found same)) ∙ h j e found

  axioms_front : (q : TypedProcedure) (s : State) → AreTrue s (start_conditions t q) → AxiomsHold t s.globals
  axioms_front q s h j e found =
      ap is_true (axiom_value t valid j e (record { globals = s.globals; old = s.globals; locals = [] }) s found (λ n v at k. refl))
      ∙ h j e (in_front t.axioms (map (λ i. i.cond) (plain_conditions q.specs)) j e found)

  -- where the frame stays, the constants stay
  constants_on : (c d : Config) → IsGood t (IsPointOf t) c → IsGood t (IsPointOf t) d → Stays t c d → SameConstants t c.globals d.globals
  constants_on c d g h stays n v at k =
      sym (g.top.keeps.constants n v at k) ∙ ap (λ (zs : List ℤ). member zs n) (sym stays.entry) ∙ h.top.keeps.constants n v at k

  -- an action at the start
  start_on : (c d : Config) (v : ℤ) (q : TypedProcedure) (o m : Option TypedExpression) → slice_get t.procs c.top.proc ≡ Some q → c.top.point.stage ≡ Start →
      slice_get (start_conditions t q) c.top.point.part ≡ o → slice_get (start_conditions t q) (c.top.point.part + 1) ≡ m → Passed t c →
      act t c v (start_action o m c.top.point (point_of_call t c.top.proc (slice_get t.procs c.top.proc))) ≡ Went d → AxiomsHold t d.globals ⊎ ((d.top.point.stage ≡ Start) × Passed t d)
  start_on c d v q None m is stage here next passed went =
      let first : Point = point_of_call t c.top.proc (slice_get t.procs c.top.proc) in
      let same : moved_to c first ≡ d = cc in
      inl (subst (λ (x : Config). AxiomsHold t x.globals) same (axioms_front q (state_of c) (below_all (state_of c) (start_conditions t q) c.top.point.part here (passed q is))))
  start_on c d v q (Some x) None is stage here next passed went =
      let first : Point = point_of_call t c.top.proc (slice_get t.procs c.top.proc) in
      let h = went_if_true (is_true (value (state_of c) x)) (moved_to c first) d Blocked (λ y. cc) went in
      let conditions : List TypedExpression = start_conditions t q in
      let all : AreTrue (state_of c) conditions =
      below_all (state_of c) conditions (c.top.point.part + 1) next (below_next (state_of c) conditions c.top.point.part x here h.true_is (passed q is)) in
      inl (subst (λ (y : Config). AxiomsHold t y.globals) h.same (axioms_front q (state_of c) all))
  start_on c d v q (Some x) (Some y) is stage here next passed went =
      let h = went_if_true (is_true (value (state_of c) x)) (moved_to c (next_part c.top.point)) d Blocked (λ z. cc) went in
      let on : Passed t (moved_to c (next_part c.top.point)) =
      (λ r found.
      let one : Some q ≡ Some r = sym is ∙ found in
      let same : q ≡ r = cc in
      subst (λ (z : TypedProcedure). Below (state_of c) (start_conditions t z) (c.top.point.part + 1)) same
      (below_next (state_of c) (start_conditions t q) c.top.point.part x here h.true_is (passed q is))) in
      inr (subst (λ (z : Config). (z.top.point.stage ≡ Start) × Passed t z) h.same (stage, on))

  -- ---- along a run

  pub acts_assumed : (c d : Config) → IsGood t (IsPointOf t) c → IsGood t (IsPointOf t) d → Acts t valid c d → IsAssumed t c → IsAssumed t d
  acts_assumed c d g h a k =
      let known : IsPointOf t c.top.proc c.top.point = g.top.known in
      let q : TypedProcedure = known.procedure in
      let conditions : List TypedExpression = start_conditions t q in
      record {
        held = acts_held t c d a.choice known a.went a.steady k.held;
        begun = elim k.begun [
          | inl axioms ↦ inl (axioms_on c.globals d.globals (constants_on c d g h a.stays) axioms)
          | inr start ↦ (let went = subst (λ (x : Action). act t c a.choice x ≡ Went d) (start_acts t c.top.proc c.top.point q known.body known.is known.has start.0) a.went in
              start_on c d a.choice q (slice_get conditions c.top.point.part) (slice_get conditions (c.top.point.part + 1)) known.is start.0 refl refl start.1 went)
        ];
      }

  -- behind the start the axioms are true
  axioms_now : (c : Config) → IsGood t (IsPointOf t) c → (IsOfStart (action_at t c.top.proc c.top.point) → ⊥) → IsAssumed t c → AxiomsHold t c.globals
  axioms_now c g behind k = elim k.begun [
    | inl axioms ↦ axioms
    | inr start ↦ absurd (behind (at_start t c.top.proc c.top.point g.top.known start.0))
  ]

  pub import_assumed : (c d : Config) → IsGood t (IsPointOf t) c → IsGood t (IsPointOf t) d → (IsOfStart (action_at t c.top.proc c.top.point) → ⊥) → Stays t c d → IsImport t c d → IsAssumed t c → IsAssumed t d
  import_assumed c d g h behind stays i k =
      let at : d.top.point ≡ settled (past_first t.procs c.top.point.todo) = ap (λ (x : Config). x.top.point) i.done in
      record {
        held = none_held t.procs d.top.point (state_of d) (ap (λ (p : Point). p.part) at ∙ settled_part (past_first t.procs c.top.point.todo));
        begun = inl (axioms_on c.globals d.globals (constants_on c d g h stays) (axioms_now c g behind k));
      }

  pub leaves_assumed : (c d : Config) → IsGood t (IsPointOf t) c → IsGood t (IsPointOf t) d → action_at t c.top.proc c.top.point ≡ actions.Leave → (a : Leaves t valid c d) → SameConstants t c.top.entry a.waits.entry →
      IsAssumed t c → IsAssumed t d
  leaves_assumed c d g h is a below k =
      let same : SameConstants t c.globals d.globals =
      (λ n v at e. sym (g.top.keeps.constants n v at e) ∙ below n v at e ∙ ap (λ (zs : List ℤ). member zs n) (sym a.back.entry) ∙ h.top.keeps.constants n v at e) in
      record {
        held = none_held t.procs d.top.point (state_of d) (ap (λ (p : Point). p.part) a.point ∙ settled_part (past_first t.procs a.waits.point.todo));
        begun = inl (axioms_on c.globals d.globals same (axioms_now c g (λ s. subst IsOfStart is s) k));
      }

  -- a call: nothing is shown yet
  pub enters_assumed : (c d : Config) (f : ℕ) (args : List TypedExpression) → IsGood t (IsPointOf t) c → action_at t c.top.proc c.top.point ≡ actions.Enter f args → d.globals ≡ c.globals →
      d.top.point ≡ point_of_call t f (slice_get t.procs f) → IsAssumed t c → IsAssumed t d
  enters_assumed c d f args g is globals at k = record {
    held = none_held t.procs d.top.point (state_of d) (ap (λ (p : Point). p.part) at ∙ call_part t f (slice_get t.procs f));
    begun = inl (subst (AxiomsHold t) (sym globals) (axioms_now c g (λ s. subst IsOfStart is s) k));
  }

  -- the conditions of the start are true where the procedure is entered
  pub conditions_true : (c : Config) (f : ℕ) (args : List TypedExpression) (more : List ℤ) (q : TypedProcedure) → IsGood t (IsPointOf t) c → action_at t c.top.proc c.top.point ≡ actions.Enter f args →
      slice_get t.procs f ≡ Some q → IsAssumed t c → AreTrue (record { globals = c.globals; old = c.globals; locals = values (state_of c) args ++ more }) (start_conditions t q)
  conditions_true c f args more q g is found k j e at = elim (in_either t.axioms (map (λ i. i.cond) (plain_conditions q.specs)) j e at) [
    | inl found_axiom ↦ (let now : State = record { globals = c.globals; old = c.globals; locals = [] } in
        ap is_true (sym (axiom_value t valid j e now after found_axiom (λ n v a b. refl))) ∙ axioms_now c g (λ s. subst IsOfStart is s) k j e found_axiom)
    | inr m ↦ (let i = of_map (λ (x : TypedInvariant). x.cond) (plain_conditions q.specs) m.0 e m.1 in
        ap (λ (x : TypedExpression). is_true (value after x)) (sym i.2) ∙ shown m.0 i.0 i.1)
  ]
    where
      zs : List ℤ
      zs = values (state_of c) args

      after : State
      after = record { globals = c.globals; old = c.globals; locals = zs ++ more }

      shown : (m : ℕ) (i : TypedInvariant) → slice_get (plain_conditions q.specs) m ≡ Some i → is_true (value after i.cond) ≡ true
      shown m i stands =
          let call : IsAtCall t.procs c.top.point f args = at_call t c.top.proc c.top.point f args g.top.known is in
          let both : Some call.callee ≡ Some q = sym call.is ∙ found in
          let one : call.callee ≡ q = cc in
          let in_callee : slice_get (plain_conditions call.callee.specs) m ≡ Some i = ap (λ (x : TypedProcedure). slice_get (plain_conditions x.specs) m) one ∙ stands in
          let in_claims : slice_get (claims t.procs c.top.point) m ≡ Some i = ap (λ (xs : List TypedInvariant). slice_get xs m) call.claims_are ∙ in_callee in
          let l : m < c.top.point.part = before_none (plain_conditions call.callee.specs) m c.top.point.part i call.done in_callee in
          let held : is_true (value (claim_state c.top.point (state_of c)) i.cond) ≡ true = k.held m i l in_claims in
          let passed : is_true (value (passed_state (state_of c) args) i.cond) ≡ true = ap (λ (s : State). is_true (value s i.cond)) (sym (call.state_is (state_of c))) ∙ held in
          let known : IsKnownCall t c.top.proc c.top.point f args = (knows_points t valid).calls c.top.proc c.top.point f args g.top.known is in
          let again : Some known.procedure ≡ Some q = sym known.is ∙ found in
          let two : known.procedure ≡ q = cc in
          let many : length zs ≡ length (params_of q) =
          length-map args (value (state_of c)) ∙ arguments_length (frame_at t c.top.proc) (params_of known.procedure) args known.arguments ∙ ap (λ (x : TypedProcedure). length (params_of x)) two in
          ap is_true (sym (requires_value t valid f m q i c.globals c.top.entry c.globals zs more found stands many)) ∙ passed

  -- ---- the start

  none_assumed : (q : TypedProcedure) (gs : List ℤ) → start_conditions t q ≡ [] → AxiomsHold t gs
  none_assumed q gs none j e found =
      let at : slice_get (start_conditions t q) j ≡ Some e = in_front t.axioms (map (λ i. i.cond) (plain_conditions q.specs)) j e found in
      let no : slice_get [] j ≡ Some e = ap (λ (es : List TypedExpression). slice_get es j) (sym none) ∙ at in
      absurd (cc)

  first_part : (es : List TypedExpression) (p : Point) → p.part ≡ 0 → (unless_none es p).part ≡ 0
  first_part [] p z = z
  first_part (e ∷ es) p z = refl

  first_stage : (es : List TypedExpression) (p : Point) → (es ≡ []) ⊎ ((unless_none es p).stage ≡ Start)
  first_stage [] p = inl refl
  first_stage (e ∷ es) p = inr refl

  pub first_assumed : (gs ls : List ℤ) → IsAssumed t (filled (begun t gs) ls)
  first_assumed gs ls =
      let entry = valid_laws.entry t valid in
      let q : TypedProcedure = entry.0 in
      let c : Config = filled (begun t gs) ls in
      let body_first : Point = point_of_procedure t t.entry q q.body in
      let to_start : c.top.point ≡ unless_none (start_conditions t q) body_first = ap (start_point_of t) entry.2 in
      let body_part : body_first.part ≡ 0 = ap (λ (p : Point). p.part) (sym (ap (point_of_call t t.entry) entry.2)) ∙ call_part t t.entry (slice_get t.procs t.entry) in
      let zero_part : c.top.point.part ≡ 0 = ap (λ (p : Point). p.part) to_start ∙ first_part (start_conditions t q) body_first body_part in
      record {
        held = none_held t.procs c.top.point (state_of c) zero_part;
        begun = elim (first_stage (start_conditions t q) body_first) [
          | inl none ↦ inl (none_assumed q gs none)
          | inr e ↦ inr (ap (λ (p : Point). p.stage) to_start ∙ e, λ r is j x found l. absurd (omega arith))
        ];
      }
