-- A call of a procedure without body is the same whole call in the part.
use Rattle.std.proofs.Common.{◌≡◌, ◌-◌, ℕ, true, List, [], ◌++◌, drop, length, Option, Some, slice_get, IsTrue, refl, sym, ap, subst, ◌∙◌}
use Rattle.std.specs.List.{AllByRecursion}
use Rattle.boogie_tree.specs.declared.tree.Column.{Column}
use Rattle.typed_tree.specs.TypedTree.{TypedExpression, TypedInvariant, TypedProcedure, TypedProgram}
use Rattle.typed_tree.specs.Values.{State, value}
use Rattle.typed_tree.specs.TypingRules.Rules.{results_of}
use Rattle.typed_tree.specs.TypingRules.ValidProgram.{is_valid}
use Rattle.boogie_run.specs.BoogiePoints.Points.{Point, settled, past_first}
use Rattle.boogie_run.specs.BoogiePoints.Actions.{Action, action_at, chosen_columns, ensured_conditions, unseen_action}
use Rattle.boogie_run.specs.BoogiePoints.Starts.{targets_at}
use Rattle.boogie_run.specs.Configurations.{Config, state_of}
use Rattle.boogie_run.specs.Steps.{all_put, granted_state, is_true}
use Rattle.lowered_graph.specs.LoweredSteps.Moves.{HasTypes, IsGood, IsNoImport}
use Rattle.lowered_graph.specs.LoweredImports.Imports.{later, AreGlobalValues, keeping, IsImport}
use Rattle.lowered_graph.specs.LoweredImports.KnownPoints.{IsPointOf}
use Rattle.lowered_graph.proofs.LoweredRuns.MachineLaws.{imports_are_steps}
use Rattle.modular_cut.proofs.Called.{named_like, IsCallee, part_program}
use Rattle.modular_cut.proofs.SamePoints.{settled_part}
use Rattle.modular_cut.proofs.SameActions.{IsAtCall, SameStep, check, suppose, demand, write, guess, test, pick, jump, enter, import, leave}
use Rattle.modular_cut.proofs.Fine.{alone, written_within, none_held, fine_import}
use Rattle.modular_cut.proofs.Frames.{PartFor, Covered, axioms_at, axioms_typed, step_of}
use Rattle.modular_cut.proofs.PartCalls.{same_procedure, same_arguments, not_plain, first_of_call, import_acts, IsKnownAs, known_as, whole, granted, granted_is, finished_is, call_whole, targets_same, behind_same, put_within}

-- what the part does at a call without body
record IsCalled (procs : List TypedProcedure) (q : TypedProcedure) (r : ℕ → ℕ) (here : Point) (a a2 : Action) : Type 0 where
  f : ℕ
  args : List TypedExpression
  call : IsAtCall procs q here f args
  column : Option Column
  ensured : Option TypedInvariant
  targets : List Column
  at : Point
  next : Point
  at2 : Point
  next2 : Point
  is : a ≡ unseen_action column ensured f targets args at next
  part_is : a2 ≡ unseen_action column ensured (r f) targets args at2 next2

called : (procs : List TypedProcedure) (q : TypedProcedure) (r : ℕ → ℕ) (here : Point) (a a2 : Action) → SameStep procs q r here a a2 → (IsNoImport a → ⊥) → IsCalled procs q r here a a2
called procs q r here a a2 (check i j at e p o same goes) never = absurd (never tt)
called procs q r here a a2 (suppose e p o same goes) never = absurd (never tt)
called procs q r here a a2 (demand i j at e xs p o same goes) never = absurd (never tt)
called procs q r here a a2 (write cs es p o same goes within) never = absurd (never tt)
called procs q r here a a2 (guess x p o same goes within) never = absurd (never tt)
called procs q r here a a2 (test e hit miss hit2 miss2 same same2 start start2) never = absurd (never tt)
called procs q r here a a2 (pick ps qs same start) never = absurd (never tt)
called procs q r here a a2 (jump p o same start) never = absurd (never tt)
called procs q r here a a2 (enter g xs k body has o e targets h nx) never = absurd (never tt)
called procs q r here a a2 (import g xs k o e targets h nx h2 nx2) never =
    record { f = g; args = xs; call = k; column = o; ensured = e; targets = targets; at = h; next = nx; at2 = h2; next2 = nx2; is = refl; part_is = refl }
called procs q r here a a2 (leave claims_are state_is done) never = absurd (never tt)

module _ (t : TypedProgram) (valid : IsTrue (is_valid t)) where
  pub import_covered : (c d : Config) → Covered t c → IsImport t c d → Covered t d
  import_covered c d v m =
      let n : ℕ = c.top.proc in
      let p : PartFor t n = v.top.part in
      let u : TypedProgram = part_program t n p.parts in
      let c2 : Config = alone c.globals c.top v.top.point in
      let b : TypedProcedure = m.known.procedure in
      let o1 : Option Column = slice_get (chosen_columns b) 0 in
      let e1 : Option TypedInvariant = slice_get (ensured_conditions b.specs) (0 - length (chosen_columns b)) in
      let next : Point = settled (past_first t.procs c.top.point.todo) in
      let next2 : Point = settled (past_first p.parts v.top.point.todo) in
      let acts : action_at t n c.top.point ≡ first_of_call t c.top.point m.callee m.args b = import_acts t n c.top.point m.callee m.args m.known in
      let i : IsCalled t.procs p.procedure p.r c.top.point (action_at t n c.top.point) (action_at u n v.top.point) =
      called t.procs p.procedure p.r c.top.point (action_at t n c.top.point) (action_at u n v.top.point) (step_of t valid c.globals c.top v.top v.good.top.known)
      (λ plain. not_plain o1 e1 m.callee (targets_at c.top.point.todo) m.args (later c.top.point 0) next (subst IsNoImport acts plain)) in
      let same : first_of_call t c.top.point m.callee m.args b ≡ unseen_action i.column i.ensured i.f i.targets i.args i.at i.next = sym acts ∙ i.is in
      let f_is : m.callee ≡ i.f = same_procedure o1 i.column e1 i.ensured m.callee i.f (targets_at c.top.point.todo) i.targets m.args i.args (later c.top.point 0) next i.at i.next same in
      let args_are : m.args ≡ i.args = same_arguments o1 i.column e1 i.ensured m.callee i.f (targets_at c.top.point.todo) i.targets m.args i.args (later c.top.point 0) next i.at i.next same in
      let q : TypedProcedure = i.call.callee in
      let one : Some b ≡ Some q = sym m.known.is ∙ ap (slice_get t.procs) f_is ∙ i.call.is in
      let b_is : b ≡ q = cc in
      let found : IsCallee p.parts (p.r i.f) q = p.calls i.f q i.call.is in
      let q2 : TypedProcedure = named_like q found.name in
      let k : IsKnownAs u n v.top.point (p.r i.f) i.args q2 =
      known_as u p.valid n v.top.point (p.r i.f) i.args q2 i.column i.ensured i.targets i.at2 i.next2 v.top.fine.good.top.known i.part_is found.is in
      let own : IsKnownAs t n c.top.point m.callee m.args b = record { known = m.known; same = refl } in
      let state_is : granted_state t (keeping c (m.held ++ m.results)) m.callee m.args ≡ granted c q i.args m.held m.results =
      granted_is t c m.callee m.args b own m.held m.results ∙ (λ j. granted c (b_is j) (args_are j) m.held m.results) in
      let trues : AllByRecursion (λ y. is_true (value (granted c q i.args m.held m.results) y.cond) ≡ true) (ensured_conditions q.specs) =
      subst (λ (s : State). AllByRecursion (λ y. is_true (value s y.cond) ≡ true) (ensured_conditions q.specs)) state_is
      (subst (λ (y : TypedProcedure). AllByRecursion (λ z. is_true (value (granted_state t (keeping c (m.held ++ m.results)) m.callee m.args) z.cond) ≡ true) (ensured_conditions y.specs)) b_is m.granted) in
      let held_typed : AreGlobalValues t.globals q.modifies m.held = subst (λ (y : TypedProcedure). AreGlobalValues t.globals y.modifies m.held) b_is m.held_typed in
      let results_typed : HasTypes (results_of q) m.results = subst (λ (y : TypedProcedure). HasTypes (results_of y) m.results) b_is m.results_typed in
      let part_import : IsImport u c2 (whole c2 q.modifies m.held m.results (targets_at v.top.point.todo) next2) = call_whole u c2 (p.r i.f) i.args q2 k m.held m.results held_typed results_typed trues in
      let targets : List Column = targets_at c.top.point.todo in
      let x : Config = whole c q.modifies m.held m.results targets next in
      let x2 : Config = alone x.globals x.top next2 in
      let alone_import : IsImport u c2 x2 = subst (λ (cs : List Column). IsImport u c2 (whole c2 q.modifies m.held m.results cs next2)) (targets_same p.r c.top.point v.top.point v.top.same) part_import in
      let d_is : d ≡ x = m.done ∙ finished_is t c m.callee m.args b own m.held m.results targets next ∙ ap (λ (y : TypedProcedure). whole c y.modifies m.held m.results targets next) b_is in
      let good : IsGood t (IsPointOf t) x = subst (IsGood t (IsPointOf t)) d_is ((imports_are_steps t valid).good c d v.good m) in
      let put : State = record { globals = all_put c.globals q.modifies (m.held ++ m.results); old = c.top.entry; locals = c.top.locals } in
      subst (Covered t) (sym d_is) (record {
        good = good;
        top = record {
          part = p;
          point = next2;
          same = behind_same p.r t.procs p.parts c.top.point v.top.point v.top.same;
          fine = fine_import u c2 x2 p.valid v.top.fine alone_import;
          modified = λ j none. written_within p.procedure put targets (drop (length q.modifies) (m.held ++ m.results)) i.call.within j none
              ∙ put_within p.procedure.modifies q.modifies c.globals (m.held ++ m.results) j i.call.modified none ∙ v.top.modified j none;
        };
        held = none_held t.procs p.procedure next (state_of x) (settled_part (past_first t.procs c.top.point.todo));
        below = v.below;
        axioms = axioms_at t valid (record { globals = c.globals; old = c.globals; locals = [] }) (record { globals = x.globals; old = x.globals; locals = [] })
            (λ j w e const. sym (v.good.top.keeps.constants j w e const) ∙ good.top.keeps.constants j w e const) t.axioms (axioms_typed t valid) v.axioms;
      })
