-- A run from a configuration fails an assertion exactly where some moves lead to its failing.
use Rattle.std.proofs.Common.{◌≡◌, ℕ, zero, suc, ◌<◌, ◌≤◌, Bool, true, false, ℤ, pos, List, [], ◌∷◌, ◌++◌, map, length, take, Option, None, Some, inl, inr, refl, sym, ap, subst, ◌∙◌, arith, if◌then◌else◌}
use Rattle.std.specs.Prelude.{slice_get, unsigned_abs}
use Rattle.math_facts.specs.Optional.{or_zero}
use Rattle.boogie_tree.specs.declared.tree.VarInfo.{VarInfo}
use Rattle.typed_tree.specs.TypedTree.{TypedExpression, TypedProgram}
use Rattle.typed_tree.specs.Values.{State}
use Rattle.boogie_run.specs.BoogiePoints.Points.{Point}
use Rattle.boogie_run.specs.BoogiePoints.Actions as actions
use Rattle.boogie_run.specs.BoogiePoints.Actions.{Action, action_at}
use Rattle.boogie_run.specs.Configurations.{Config, state_of}
use Rattle.boogie_run.specs.Needs.{Need, Nothing, need_of_action, is_taken, locals_at, locals_if_any}
use Rattle.boogie_run.specs.Steps.{Outcome, Went, Blocked, Failed, Ended, Refused, act, values, entered, went_if, step}
use Rattle.boogie_run.specs.Runs.{then_goes_on, run}
use Rattle.lowered_graph.specs.LoweredSteps.ProgramFrames.{frame_at}
use Rattle.lowered_graph.specs.LoweredSteps.Moves.{HasTypes, FrameKeeps, AreArguments, IsGood, IsMove, IsNoImport, IsKnownCall, KnowsPoints, filled}
use Rattle.lowered_graph.proofs.LoweredSteps.FrameColumns.{types_length}
use Rattle.lowered_graph.proofs.LoweredSteps.Writes.{value_of_type}
use Rattle.lowered_graph.proofs.LoweredRuns.Breaks.{Breaks}
use Rattle.lowered_graph.proofs.LoweredRuns.Imports.{IsChosenImport, IsRunImport, ImportsAreSteps}
use Rattle.lowered_graph.proofs.LoweredRuns.Forward.{Follows, own_or_call, move_own, forward}
use Rattle.lowered_graph.proofs.LoweredRuns.Backward.{import_or_not}
use Rattle.lowered_graph.proofs.LoweredRuns.Filling.{TypesSoFar, all_so_far, first_so_far, action_step, if_true, run_filled, Filled, filled_by}

-- a failing action reads no choice
pub failing_reads_none : (t : TypedProgram) (c : Config) (v : ℤ) (a : Action) (i : ℕ) → act t c v a ≡ Failed i → (act t c (pos 0) a ≡ Failed i) × (need_of_action t c.top.proc a ≡ Nothing)
failing_reads_none t c v (actions.Check id at e next) i f = (f, refl)
failing_reads_none t c v (actions.Suppose e next) i f = (f, refl)
failing_reads_none t c v (actions.Demand id at e args next) i f = (f, refl)
failing_reads_none t c v (actions.Write cs es next) i f = (f, refl)
failing_reads_none t c v (actions.Guess x next) i f = absurd (cc)
failing_reads_none t c v (actions.Test e hit miss) i f = (f, refl)
failing_reads_none t c v (actions.Pick ways) i f = absurd (by_way (slice_get ways (unsigned_abs v)) f)
  where
    by_way : (o : Option Point) → went_if o c ≡ Failed i → ⊥
    by_way None f = cc
    by_way (Some p) f = cc
failing_reads_none t c v (actions.Jump next) i f = (f, refl)
failing_reads_none t c v (actions.Enter g args) i f = (f, refl)
failing_reads_none t c v (actions.Keep g args x next) i f = absurd (cc)
failing_reads_none t c v (actions.Grant g args e next) i f = (f, refl)
failing_reads_none t c v (actions.Finish g args targets next) i f = (f, refl)
failing_reads_none t c v actions.Leave i f = (f, refl)

arguments_typed : (t : TypedProgram) (n : ℕ) (s : State) (vs : List VarInfo) (es : List TypedExpression) → FrameKeeps t n s → AreArguments (frame_at t n) vs es → HasTypes vs (values s es)
arguments_typed t n s [] [] k a = tt
arguments_typed t n s [] (e ∷ es) k a = absurd a
arguments_typed t n s (v ∷ vs) [] k a = absurd a
arguments_typed t n s (v ∷ vs) (e ∷ es) k a = (value_of_type t n s e v.ty k a.0.typed a.0.divided, arguments_typed t n s vs es k a.1)

-- the globals are complete, and the locals begun
record HasPart (t : TypedProgram) (c : Config) : Type 0 where
  globals : HasTypes t.globals c.globals
  locals : TypesSoFar (locals_at t c.top.proc) c.top.locals

module _ (t : TypedProgram) (Known : ℕ → Point → Type 0) (know : KnowsPoints t Known) (Import : Config → Config → Type 0) (imports : ImportsAreSteps t Known Import) (i : ℕ) where
  pub ready : (c : Config) (choice : Option ℤ) → IsGood t Known c →
      step t c choice ≡
      (if is_taken (need_of_action t c.top.proc (action_at t c.top.proc c.top.point)) choice then act t c (or_zero choice) (action_at t c.top.proc c.top.point) else Refused)
  ready c choice g =
      let a : length c.globals ≡ length t.globals = types_length t.globals c.globals g.top.keeps.globals in
      let b : length c.top.locals ≡ length (locals_at t c.top.proc) = types_length (locals_at t c.top.proc) c.top.locals g.top.keeps.locals in
      action_step t c choice (omega arith) (omega arith)

  -- ---- from moves to runs

  pub move_runs : (c d : Config) (rest : List (Option ℤ)) → IsGood t Known c → HasTypes t.globals d.globals → (m : IsMove t c d) → run t c (m.choice ∷ (map Some m.more ++ rest)) ≡ run t d rest
  move_runs c d rest g h m =
      let a : Action = action_at t c.top.proc c.top.point in
      let stepped : step t c m.choice ≡ Went m.mid =
      ready c m.choice g ∙ if_true (is_taken (need_of_action t c.top.proc a) m.choice) (act t c (or_zero m.choice) a) Refused m.taken ∙ m.went in
      let same : d.globals ≡ m.mid.globals = ap (λ (x : Config). x.globals) m.done in
      ap (λ (o : Outcome). then_goes_on o (λ e. run t e (map Some m.more ++ rest))) stepped
      ∙ run_filled t m.mid m.more rest (subst (HasTypes t.globals) same h) m.typed
      ∙ ap (λ (x : Config). run t x rest) (sym m.done)

  pub breaks_run : (k : ℕ) (c : Config) → IsGood t Known c → Breaks t Import i k c → (choices : List (Option ℤ)) × (run t c choices ≡ Failed i)
  breaks_run zero c g b =
      let a : Action = action_at t c.top.proc c.top.point in
      let none : need_of_action t c.top.proc a ≡ Nothing = (failing_reads_none t c (pos 0) a i b).1 in
      let taken : is_taken (need_of_action t c.top.proc a) None ≡ true = ap (λ (n : Need). is_taken n None) none in
      let stepped : step t c None ≡ Failed i = ready c None g ∙ if_true (is_taken (need_of_action t c.top.proc a) None) (act t c (pos 0) a) Refused taken ∙ b in
      (None ∷ [], ap (λ (o : Outcome). then_goes_on o (λ d. run t d [])) stepped)
  breaks_run (suc k) c g (d, inl m, b) =
      let f : Follows t Known know c d = forward t Known know c d g m in
      let r = breaks_run k d f.good b in
      (m.choice ∷ (map Some m.more ++ r.0), move_runs c d r.0 g f.good.top.keeps.globals m ∙ r.1)
  breaks_run (suc k) c g (d, inr m, b) =
      let r = breaks_run k d (imports.good c d g m) b in
      let q : IsChosenImport t c d = imports.runs c d g m in
      (q.choices ++ r.0, q.goes r.0 ∙ r.1)

  -- ---- from runs to moves

  action_part : (c : Config) (choice : Option ℤ) (mid : Config) → IsGood t Known c → IsNoImport (action_at t c.top.proc c.top.point) →
      is_taken (need_of_action t c.top.proc (action_at t c.top.proc c.top.point)) choice ≡ true → act t c (or_zero choice) (action_at t c.top.proc c.top.point) ≡ Went mid → HasPart t mid
  action_part c choice mid g plain taken went = elim (own_or_call t Known know (action_at t c.top.proc c.top.point) plain) [
    | inl own ↦ (let f : Follows t Known know c mid = move_own t Known know c choice mid g own taken went in
        record { globals = f.good.top.keeps.globals; locals = all_so_far (locals_at t mid.top.proc) mid.top.locals f.good.top.keeps.locals })
    | inr x ↦ entered_part c choice mid x.0 x.1 g x.2 went
  ]
    where
      entered_part : (c : Config) (choice : Option ℤ) (mid : Config) (f : ℕ) (args : List TypedExpression) → IsGood t Known c → action_at t c.top.proc c.top.point ≡ actions.Enter f args →
          act t c (or_zero choice) (action_at t c.top.proc c.top.point) ≡ Went mid → HasPart t mid
      entered_part c choice mid f args g is went =
          let n : ℕ = c.top.proc in
          let enters : Went (entered t c f (values (state_of c) args)) ≡ Went mid = sym (ap (act t c (or_zero choice)) is) ∙ went in
          let same : entered t c f (values (state_of c) args) ≡ mid = cc in
          let q : IsKnownCall t n c.top.point f args = know.calls n c.top.point f args g.top.known is in
          let params : List VarInfo = take q.procedure.params q.procedure.locals in
          let typed : HasTypes params (values (state_of c) args) = arguments_typed t n (state_of c) params args g.top.keeps q.arguments in
          let so_far : TypesSoFar q.procedure.locals (values (state_of c) args) = first_so_far q.procedure.params q.procedure.locals (values (state_of c) args) typed in
          let own : locals_at t f ≡ q.procedure.locals = ap locals_if_any q.is in
          subst (HasPart t) same (record { globals = g.top.keeps.globals; locals = subst (λ (vs : List VarInfo). TypesSoFar vs (values (state_of c) args)) (sym own) so_far })

  -- what is left of the run fails the assertion
  abbrev Later : ℕ → Type 0
  Later n = (d : Config) (choices : List (Option ℤ)) → length choices ≤ n → IsGood t Known d → run t d choices ≡ Failed i → (k : ℕ) × Breaks t Import i k d

  went_breaks : (n : ℕ) (c : Config) (ch : Option ℤ) (chs : List (Option ℤ)) (mid : Config) → length chs ≤ n → IsGood t Known c → IsNoImport (action_at t c.top.proc c.top.point) →
      is_taken (need_of_action t c.top.proc (action_at t c.top.proc c.top.point)) ch ≡ true → act t c (or_zero ch) (action_at t c.top.proc c.top.point) ≡ Went mid → Later n →
      run t mid chs ≡ Failed i → (k : ℕ) × Breaks t Import i k c
  went_breaks n c ch chs mid l g plain taken went later fails =
      let p : HasPart t mid = action_part c ch mid g plain taken went in
      let r : Filled t i mid chs = filled_by t i chs mid p.globals p.locals fails in
      let s : length r.rest ≤ length chs = r.shorter in
      let m : IsMove t c (filled mid r.more) = record { plain = plain; choice = ch; taken = taken; mid = mid; went = went; more = r.more; typed = r.typed; done = refl } in
      let f : Follows t Known know c (filled mid r.more) = forward t Known know c (filled mid r.more) g m in
      let b = later (filled mid r.more) r.rest (omega arith) f.good r.fails in
      (suc b.0, (filled mid r.more, inl m, b.1))

  act_breaks : (n : ℕ) (c : Config) (ch : Option ℤ) (chs : List (Option ℤ)) (o : Outcome) → length chs ≤ n → IsGood t Known c → IsNoImport (action_at t c.top.proc c.top.point) →
      is_taken (need_of_action t c.top.proc (action_at t c.top.proc c.top.point)) ch ≡ true → act t c (or_zero ch) (action_at t c.top.proc c.top.point) ≡ o → Later n →
      then_goes_on o (λ d. run t d chs) ≡ Failed i → (k : ℕ) × Breaks t Import i k c
  act_breaks n c ch chs (Went mid) l g plain taken went later fails = went_breaks n c ch chs mid l g plain taken went later fails
  act_breaks n c ch chs Blocked l g plain taken went later fails = absurd (cc)
  act_breaks n c ch chs (Failed j) l g plain taken went later fails =
      (0, (failing_reads_none t c (or_zero ch) (action_at t c.top.proc c.top.point) i (went ∙ fails)).0)
  act_breaks n c ch chs Ended l g plain taken went later fails = absurd (cc)
  act_breaks n c ch chs Refused l g plain taken went later fails = absurd (cc)

  step_breaks : (n : ℕ) (c : Config) (ch : Option ℤ) (chs : List (Option ℤ)) (b : Bool) → length chs ≤ n → IsGood t Known c → IsNoImport (action_at t c.top.proc c.top.point) →
      is_taken (need_of_action t c.top.proc (action_at t c.top.proc c.top.point)) ch ≡ b → Later n →
      then_goes_on (if b then act t c (or_zero ch) (action_at t c.top.proc c.top.point) else Refused) (λ d. run t d chs) ≡ Failed i → (k : ℕ) × Breaks t Import i k c
  step_breaks n c ch chs true l g plain taken later fails = act_breaks n c ch chs (act t c (or_zero ch) (action_at t c.top.proc c.top.point)) l g plain taken refl later fails
  step_breaks n c ch chs false l g plain taken later fails = absurd (cc)

  pub run_breaks : (n : ℕ) → Later n
  run_breaks n c [] l g f = absurd (cc)
  run_breaks zero c (ch ∷ chs) l g f = absurd (omega arith)
  run_breaks (suc n) c (ch ∷ chs) l g f = elim (import_or_not (action_at t c.top.proc c.top.point)) [
    | inl plain ↦ step_breaks n c ch chs (is_taken (need_of_action t c.top.proc (action_at t c.top.proc c.top.point)) ch) (omega arith) g plain refl (λ d cs m h r. run_breaks n d cs m h r)
        (ap (λ (o : Outcome). then_goes_on o (λ d. run t d chs)) (sym (ready c ch g)) ∙ f)
    | inr at_call ↦ (let r : IsRunImport t Import c (ch ∷ chs) i = imports.run c (ch ∷ chs) i g at_call f in
        let s : length r.rest < length (ch ∷ chs) = r.shorter in
        let b = run_breaks n r.after r.rest (omega arith) (imports.good c r.after g r.import) r.fails in
        (suc b.0, (r.after, inr r.import, b.1)))
  ]
