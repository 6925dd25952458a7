-- A program is safe where its parts are.
use Rattle.std.proofs.Common.{◌≡◌, ◌⊎◌, inl, inr, ℕ, zero, suc, ◌+◌, ℤ, pos, Bool, true, false, List, [], ◌∷◌, ◌++◌, map, length, Option, None, Some, slice_get, IsTrue, if◌then◌else◌, refl, sym, ap, subst, ◌∙◌, arith}
use Rattle.std.specs.List.{AllByRecursion}
use Rattle.math_facts.specs.Optional.{or_zero}
use Rattle.typed_tree.specs.TypedTree.{TypedExpression, TypedBlock, TypedProcedure, TypedProgram}
use Rattle.typed_tree.specs.Values.{State, value}
use Rattle.typed_tree.specs.TypingRules.ValidProgram.{is_valid}
use Rattle.typed_tree.proofs.TypingRules.ValidLaws as valid_laws
use Rattle.boogie_run.specs.BoogiePoints.Points.{Start, Point}
use Rattle.boogie_run.specs.BoogiePoints.Actions as actions
use Rattle.boogie_run.specs.BoogiePoints.Actions.{Action, next_part, unseen_action, plain_conditions, start_conditions, start_action, first_point, first_assertion, first_place, stage_action, body_or_leave, procedure_action, action_at}
use Rattle.boogie_run.specs.BoogiePoints.Starts.{point_of_procedure, unless_none, start_point_of}
use Rattle.boogie_run.specs.Configurations.{Config, state_of}
use Rattle.boogie_run.specs.Needs.{locals_at}
use Rattle.boogie_run.specs.Runs.{NoChoicesFail}
use Rattle.boogie_run.proofs.RunRules.Safety.{safe_by_rules, safe_by_choices}
use Rattle.modular_cut.specs.Parts.{procedure_part}
use Rattle.boogie_run.specs.Steps.{Went, Blocked, Failed, is_true, moved_to, act}
use Rattle.lowered_graph.specs.LoweredSteps.Moves.{HasTypes, IsGood, IsMove, IsNoImport, KnowsPoints}
use Rattle.lowered_graph.proofs.LoweredSteps.Goodness.{done_is}
use Rattle.lowered_graph.specs.LoweredImports.Imports.{IsImport}
use Rattle.lowered_graph.specs.LoweredImports.KnownPoints.{IsPointOf}
use Rattle.lowered_graph.proofs.LoweredImports.PointLaws.{knows_points}
use Rattle.lowered_graph.proofs.LoweredRuns.Breaks.{Breaks}
use Rattle.lowered_graph.proofs.LoweredRuns.Filling.{none_so_far, begun, Begun, begun_by, Filled, filled_by}
use Rattle.lowered_graph.proofs.LoweredRuns.Forward.{IsOwn, Follows, own_or_call, forward}
use Rattle.lowered_graph.proofs.LoweredRuns.Machine.{first}
use Rattle.lowered_graph.proofs.LoweredRuns.MachineLaws.{imports_are_steps}
use Rattle.lowered_graph.proofs.LoweredRuns.MovesOfRuns.{run_breaks}
use Rattle.lowered_graph.proofs.LoweredRuns.Taken.{went_if_true}
use Rattle.modular_cut.specs.Laws.{PartsSuffice}
use Rattle.modular_cut.proofs.Called.{part_program}
use Rattle.modular_cut.proofs.Fine.{none_held}
use Rattle.modular_cut.proofs.Frames.{PartFor, part_for, Covered, axioms_at, axioms_typed, step_of, own_covered}
use Rattle.modular_cut.proofs.PartMoves.{StaysInside, failed}
use Rattle.modular_cut.proofs.Enters.{AreSafe, assumed, own_first, part_first, firsts_same, own_first_part, part_begins, enter_covered}
use Rattle.modular_cut.proofs.Imported.{import_covered}
use Rattle.modular_cut.proofs.PartCalls.{not_plain, first_of_call, import_acts}
use Rattle.modular_cut.proofs.Returns.{leave_covered}

-- an action of a frame itself stays inside, or is the return
stays_or_leaves : (a : Action) → IsOwn a → StaysInside a ⊎ (a ≡ actions.Leave)
stays_or_leaves (actions.Check id at e next) h = inl h
stays_or_leaves (actions.Suppose e next) h = inl h
stays_or_leaves (actions.Demand id at e args next) h = inl h
stays_or_leaves (actions.Write cs es next) h = inl h
stays_or_leaves (actions.Guess c next) h = inl h
stays_or_leaves (actions.Test e hit miss) h = inl h
stays_or_leaves (actions.Pick ways) h = inl h
stays_or_leaves (actions.Jump next) h = inl h
stays_or_leaves (actions.Enter f args) h = absurd h
stays_or_leaves (actions.Keep f args c next) h = absurd h
stays_or_leaves (actions.Grant f args e next) h = absurd h
stays_or_leaves (actions.Finish f args targets next) h = absurd h
stays_or_leaves actions.Leave h = inr refl

module _ (t : TypedProgram) (valid : IsTrue (is_valid t)) (every : AreSafe t) where
  -- ---- the moves

  move_covered : (c d : Config) → Covered t c → IsMove t c d → Covered t d
  move_covered c d v m = elim (own_or_call t (IsPointOf t) (knows_points t valid) (action_at t c.top.proc c.top.point) m.plain) [
    | inl own ↦ by_own (stays_or_leaves (action_at t c.top.proc c.top.point) own)
    | inr call ↦ enter_covered t valid every c d call.0 call.1 v m call.2
  ]
    where
      by_own : StaysInside (action_at t c.top.proc c.top.point) ⊎ (action_at t c.top.proc c.top.point ≡ actions.Leave) → Covered t d
      by_own (inl inside) = own_covered t valid c d v m inside
      by_own (inr is) = leave_covered t valid c d v m is

  unbroken : (i k : ℕ) (c : Config) → Covered t c → Breaks t (IsImport t) i k c → ⊥
  unbroken i zero c v b =
      let p : PartFor t c.top.proc = v.top.part in
      let u : TypedProgram = part_program t c.top.proc p.parts in
      let f = failed t u p.procedure p.r refl c v.top.point (action_at t c.top.proc c.top.point) (action_at u c.top.proc v.top.point) i (step_of t valid c.globals c.top v.top v.good.top.known) b in
      v.top.fine.unbroken f.0 0 f.1
  unbroken i (suc k) c v (d, inl m, b) = unbroken i k d (move_covered c d v m) b
  unbroken i (suc k) c v (d, inr m, b) = unbroken i k d (import_covered t valid c d v m) b

  -- ---- the start

  -- moves from where a condition is assumed: it is true, and they go on behind it
  record IsAssumed (i : ℕ) (c : Config) (e : TypedExpression) (next : Point) : Type 0 where
    holds : is_true (value (state_of c) e) ≡ true
    moves : ℕ
    good : IsGood t (IsPointOf t) (moved_to c next)
    breaks : Breaks t (IsImport t) i moves (moved_to c next)

  blocks_if : (b : Bool) (x : Config) (k : ℕ) → (if b then Went x else Blocked) ≡ Failed k → ⊥
  blocks_if true x k f = cc
  blocks_if false x k f = cc

  behind_condition : (i k : ℕ) (c : Config) (e : TypedExpression) (next : Point) → IsGood t (IsPointOf t) c → action_at t c.top.proc c.top.point ≡ actions.Suppose e next → Breaks t (IsImport t) i k c → IsAssumed i c e next
  behind_condition i zero c e next g is b = absurd (blocks_if (is_true (value (state_of c) e)) (moved_to c next) i (sym (ap (act t c (pos 0)) is) ∙ b))
  behind_condition i (suc k) c e next g is (d, inl m, b) =
      let went : act t c (or_zero m.choice) (actions.Suppose e next) ≡ Went m.mid = sym (ap (act t c (or_zero m.choice)) is) ∙ m.went in
      let h = went_if_true (is_true (value (state_of c) e)) (moved_to c next) m.mid Blocked (λ x. cc) went in
      let mid_typed : HasTypes (locals_at t m.mid.top.proc) m.mid.top.locals = subst (λ (x : Config). HasTypes (locals_at t x.top.proc) x.top.locals) h.same g.top.keeps.locals in
      let d_is : d ≡ moved_to c next = done_is t m.mid d m.more mid_typed m.typed m.done ∙ sym h.same in
      let f : Follows t (IsPointOf t) (knows_points t valid) c d = forward t (IsPointOf t) (knows_points t valid) c d g m in
      record { holds = h.true_is; moves = k; good = subst (IsGood t (IsPointOf t)) d_is f.good; breaks = subst (Breaks t (IsImport t) i k) d_is b }
  behind_condition i (suc k) c e next g is (d, inr m, b) =
      absurd (no_call m)
    where
      no_call : IsImport t c d → ⊥
      no_call m =
          let acts : action_at t c.top.proc c.top.point ≡ first_of_call t c.top.point m.callee m.args m.known.procedure = import_acts t c.top.proc c.top.point m.callee m.args m.known in
          let plain : IsNoImport (first_of_call t c.top.point m.callee m.args m.known.procedure) = subst IsNoImport (sym is ∙ acts) tt in
          not_plain _ _ m.callee _ m.args _ _ plain

  module _ (p : PartFor t t.entry) (gs ls : List ℤ) where
    abbrev at_start : ℕ → Point
    at_start k = record { stage = Start; todo = []; part = k }

    abbrev entry_at : Point → Config
    entry_at x = record { globals = gs; top = record { proc = t.entry; locals = ls; entry = gs; point = x; kept = [] }; below = [] }

    abbrev conditions : List TypedExpression
    conditions = assumed t t.entry p

    abbrev body_first : Point
    body_first = own_first t t.entry p

    start_acts : (k : ℕ) → action_at t t.entry (at_start k) ≡ start_action (slice_get conditions k) (slice_get conditions (k + 1)) (at_start k) body_first
    start_acts k = ap (λ (o : Option TypedProcedure). procedure_action t t.entry o (at_start k)) p.is ∙ ap (λ (o : Option TypedBlock). body_or_leave t t.entry p.procedure o (at_start k)) p.has

    -- the conditions are true, and moves go on from the first point of the body
    record IsBegun (i : ℕ) (es : List TypedExpression) : Type 0 where
      hold : AllByRecursion (λ e. is_true (value (record { globals = gs; old = gs; locals = ls }) e) ≡ true) es
      moves : ℕ
      good : IsGood t (IsPointOf t) (entry_at body_first)
      breaks : Breaks t (IsImport t) i moves (entry_at body_first)

    walk : (i : ℕ) (es : List TypedExpression) (e : TypedExpression) (k m : ℕ) → ((j : ℕ) → slice_get (e ∷ es) j ≡ slice_get conditions (k + j)) → IsGood t (IsPointOf t) (entry_at (at_start k)) →
        Breaks t (IsImport t) i m (entry_at (at_start k)) → IsBegun i (e ∷ es)
    walk i [] e k m at g b =
        let here : slice_get conditions k ≡ Some e = (let z : k + 0 ≡ k = omega arith in sym (ap (slice_get conditions) z) ∙ sym (at 0)) in
        let none : slice_get conditions (k + 1) ≡ None = sym (at 1) in
        let is : action_at t t.entry (at_start k) ≡ actions.Suppose e body_first = start_acts k ∙ (λ j. start_action (here j) (none j) (at_start k) body_first) in
        let a : IsAssumed i (entry_at (at_start k)) e body_first = behind_condition i m (entry_at (at_start k)) e body_first g is b in
        record { hold = (a.holds, tt); moves = a.moves; good = a.good; breaks = a.breaks }
    walk i (d ∷ es) e k m at g b =
        let here : slice_get conditions k ≡ Some e = (let z : k + 0 ≡ k = omega arith in sym (ap (slice_get conditions) z) ∙ sym (at 0)) in
        let more : slice_get conditions (k + 1) ≡ Some d = sym (at 1) in
        let is : action_at t t.entry (at_start k) ≡ actions.Suppose e (next_part (at_start k)) = start_acts k ∙ (λ j. start_action (here j) (more j) (at_start k) body_first) in
        let a : IsAssumed i (entry_at (at_start k)) e (next_part (at_start k)) = behind_condition i m (entry_at (at_start k)) e (next_part (at_start k)) g is b in
        let rest : IsBegun i (d ∷ es) = walk i es d (k + 1) a.moves (λ j. let z : k + suc j ≡ k + 1 + j = omega arith in at (suc j) ∙ ap (slice_get conditions) z) a.good a.breaks in
        record { hold = (a.holds, rest.hold); moves = rest.moves; good = rest.good; breaks = rest.breaks }

    begins : (i m : ℕ) (es : List TypedExpression) → ((j : ℕ) → slice_get es j ≡ slice_get conditions j) → IsGood t (IsPointOf t) (entry_at (unless_none es body_first)) →
        Breaks t (IsImport t) i m (entry_at (unless_none es body_first)) → IsBegun i es
    begins i m [] at g b = record { hold = tt; moves = m; good = g; breaks = b }
    begins i m (e ∷ es) at g b = walk i es e 0 m (λ j. let z : j ≡ 0 + j = omega arith in at j ∙ ap (slice_get conditions) z) g b

    start_point_is : start_point_of t (slice_get t.procs t.entry) ≡ unless_none conditions body_first
    start_point_is = ap (start_point_of t) p.is ∙ ap (λ (o : Option TypedBlock). unless_none conditions (point_of_procedure t t.entry p.procedure o)) p.has

    -- those of the axioms alone
    front : (P : TypedExpression → Type 0) (xs ys : List TypedExpression) → AllByRecursion P (xs ++ ys) → AllByRecursion P xs
    front P [] ys h = tt
    front P (x ∷ xs) ys h = (h.0, front P xs ys h.1)

    starts_unbroken : (i m : ℕ) → HasTypes t.globals gs → HasTypes (locals_at t t.entry) ls → IsGood t (IsPointOf t) (entry_at (start_point_of t (slice_get t.procs t.entry))) →
        Breaks t (IsImport t) i m (entry_at (start_point_of t (slice_get t.procs t.entry))) → ⊥
    starts_unbroken i m g l good b =
        let s : IsBegun i conditions =
        begins i m conditions (λ j. refl) (subst (λ (x : Point). IsGood t (IsPointOf t) (entry_at x)) start_point_is good) (subst (λ (x : Point). Breaks t (IsImport t) i m (entry_at x)) start_point_is b) in
        let state : State = record { globals = gs; old = gs; locals = ls } in
        let axioms : AllByRecursion (λ e. is_true (value state e) ≡ true) t.axioms = front (λ e. is_true (value state e) ≡ true) t.axioms (map (λ i. i.cond) (plain_conditions p.procedure.specs)) s.hold in
        unbroken i s.moves (entry_at body_first) (record {
          good = s.good;
          top = record {
            part = p;
            point = part_first t t.entry p;
            same = firsts_same t t.entry p;
            fine = part_begins t t.entry p gs ls g l s.hold;
            modified = λ k none. refl;
          };
          held = none_held t.procs p.procedure body_first state (own_first_part t t.entry p);
          below = tt;
          axioms = axioms_at t valid state (record { globals = gs; old = gs; locals = [] }) (λ k w o const. refl) t.axioms (axioms_typed t valid) axioms;
        }) s.breaks

  no_failure : NoChoicesFail t
  no_failure i (choices, f) =
      let know : KnowsPoints t (IsPointOf t) = knows_points t valid in
      let b : Begun t i = begun_by t i choices [] (none_so_far t.globals) f in
      let r : Filled t i (begun t b.globals) b.rest = filled_by t i b.rest (begun t b.globals) b.typed (none_so_far (locals_at t t.entry)) b.fails in
      let c : Config = first t b.globals r.more in
      let g : IsGood t (IsPointOf t) c = record {
        top = record { keeps = record { globals = b.typed; old = b.typed; locals = r.typed; constants = λ n v e k. refl }; known = know.starts; nothing_kept = refl };
        below = tt;
      } in
      let m = run_breaks t (IsPointOf t) know (IsImport t) (imports_are_steps t valid) i (length r.rest) c r.rest (omega arith) g r.fails in
      let entry = valid_laws.entry t valid in
      let p : PartFor t t.entry = part_for t t.entry entry.0 entry.1 entry.2 entry.3 (every t.entry entry.0 entry.1 entry.2 entry.3) in
      starts_unbroken p b.globals r.more i m.0 b.typed r.typed g m.1

pub parts_suffice : PartsSuffice
parts_suffice t valid every = safe_by_rules t (no_failure t valid (λ n q b is has. ((every n q b is has).0, safe_by_choices (procedure_part t n) (every n q b is has).1)))
