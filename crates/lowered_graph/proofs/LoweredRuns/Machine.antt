-- Where a program fails an assertion its stack machine does, and where the machine does by exact steps the program does, given what is asked of its points and of whole calls without body.
use Rattle.std.proofs.Common.{◌≡◌, ℕ, zero, suc, ℤ, List, [], ◌++◌, map, length, Option, Some, inl, inr, ◌⊎◌, refl, sym, ap, subst, ◌∙◌, arith}
use Rattle.typed_tree.specs.TypedTree.{TypedProgram}
use Rattle.letter_acts.specs.Frames.{Columns, IsState, globals_from, old_columns, locals_from}
use Rattle.boogie_run.specs.BoogiePoints.Points.{Point}
use Rattle.boogie_run.specs.BoogiePoints.Actions.{action_at}
use Rattle.boogie_run.specs.Configurations.{Config, state_of}
use Rattle.boogie_run.specs.Needs.{locals_at}
use Rattle.boogie_run.specs.Steps.{Failed, start}
use Rattle.boogie_run.specs.Runs.{run, ChoicesFail}
use Rattle.lowered_graph.specs.LoweredSteps.ProgramFrames.{frame_at, variable_values}
use Rattle.lowered_graph.specs.LoweredSteps.Edges.{At, Wrong}
use Rattle.lowered_graph.specs.LoweredSteps.Stacks.{Stack, IsStep, inside, call, back, IsStart, Reaches, MachineFails, ExactlyReaches, MachineFailsExactly}
use Rattle.lowered_graph.specs.LoweredSteps.Moves.{HasTypes, IsGood, IsNoImport, KnowsPoints, shown_stack, filled}
use Rattle.lowered_graph.proofs.LoweredSteps.FrameColumns.{types_length, shown_state}
use Rattle.lowered_graph.proofs.LoweredSteps.Places.{olds_length}
use Rattle.lowered_graph.proofs.LoweredSteps.WritesBack.{state_parts, globals_typed, locals_typed, globals_length}
use Rattle.lowered_graph.proofs.LoweredRuns.Breaks as breaks
use Rattle.lowered_graph.proofs.LoweredRuns.Imports.{IsShownImport, ImportsAreSteps}
use Rattle.lowered_graph.proofs.LoweredRuns.Forward.{Follows, wrong_stack, fails_goes, forward}
use Rattle.lowered_graph.proofs.LoweredRuns.Backward.{import_or_not, IsShownMove, Breaks, backward}
use Rattle.lowered_graph.proofs.LoweredRuns.Filling.{none_so_far, begun, Begun, begun_by, run_begun, Filled, filled_by, run_filled}
use Rattle.lowered_graph.proofs.LoweredRuns.MovesOfRuns.{breaks_run, run_breaks}

-- no step leads on from the failing of an assertion
pub stuck : (t : TypedProgram) (x y : Stack) (i : ℕ) → x.spot ≡ Wrong i → IsStep t x y → ⊥
stuck t x y i e (inside p a at among leads proc spot below) = let h : At p ≡ Wrong i = sym at ∙ e in cc
stuck t x y i e (call p f args k at calls among leads proc spot below) = let h : At p ≡ Wrong i = sym at ∙ e in cc
stuck t x y i e (back p b args k at is below calls among leads proc spot) = let h : At p ≡ Wrong i = sym at ∙ e in cc

-- so the assertion is the one that is reached
pub reached : (t : TypedProgram) (k : ℕ) (y : Stack) (i j : ℕ) → y.spot ≡ Wrong j → ExactlyReaches t i k y → j ≡ i
reached t zero y i j e r = let h : Wrong j ≡ Wrong i = sym e ∙ r in cc
reached t (suc k) y i j e (z, s, x, r) = absurd (stuck t y z j e s)

-- the first configuration, with these constants, globals and locals
abbrev pub first : TypedProgram → List ℤ → List ℤ → Config
first t gs ls = filled (begun t gs) ls

module _ (t : TypedProgram) (Known : ℕ → Point → Type 0) (know : KnowsPoints t Known) (Import : Config → Config → Type 0) (imports : ImportsAreSteps t Known Import) (i : ℕ) where
  -- ---- moves and steps

  breaks_reaches : (k : ℕ) (c : Config) → IsGood t Known c → breaks.Breaks t Import i k c → Reaches t i (suc k) (shown_stack t c)
  breaks_reaches zero c g b = (wrong_stack t c i, fails_goes t Known know c (action_at t c.top.proc c.top.point) i g refl (know.typed c.top.proc c.top.point g.top.known) b, refl)
  breaks_reaches (suc k) c g (d, inl m, b) = let f : Follows t Known know c d = forward t Known know c d g m in (shown_stack t d, f.step, breaks_reaches k d f.good b)
  breaks_reaches (suc k) c g (d, inr m, b) = (shown_stack t d, imports.goes c d g m, breaks_reaches k d (imports.good c d g m) b)

  reaches_breaks : (k : ℕ) (c : Config) → IsGood t Known c → ExactlyReaches t i k (shown_stack t c) → (j : ℕ) × breaks.Breaks t Import i j c
  reaches_breaks zero c g r = absurd (cc)
  reaches_breaks (suc k) c g (y, s, exact, r) = elim (import_or_not (action_at t c.top.proc c.top.point)) [
    | inl plain ↦ by_move c y plain g (backward t Known know c y g plain s exact) r (λ d h q. reaches_breaks k d h q)
    | inr at_call ↦ (let m : IsShownImport t Import c y = imports.back c y g at_call s exact in
        let b = reaches_breaks k m.after (imports.good c m.after g m.import) (subst (ExactlyReaches t i k) m.shown r) in
        (suc b.0, (m.after, inr m.import, b.1)))
  ]
    where
      by_move : (c : Config) (y : Stack) → IsNoImport (action_at t c.top.proc c.top.point) → IsGood t Known c → IsShownMove t Known know c y ⊎ Breaks t Known know c y → ExactlyReaches t i k y →
          ((d : Config) → IsGood t Known d → ExactlyReaches t i k (shown_stack t d) → (j : ℕ) × breaks.Breaks t Import i j d) → (j : ℕ) × breaks.Breaks t Import i j c
      by_move c y plain g (inl m) r later =
          let f : Follows t Known know c m.after = forward t Known know c m.after g m.move in
          let b = later m.after f.good (subst (ExactlyReaches t i k) m.shown r) in
          (suc b.0, (m.after, inl m.move, b.1))
      by_move c y plain g (inr b) r later = (0, b.fails ∙ ap Failed (reached t k y i b.assertion b.wrong r))

  -- ---- the start

  first_good : (gs ls : List ℤ) → HasTypes t.globals gs → HasTypes (locals_at t t.entry) ls → IsGood t Known (first t gs ls)
  first_good gs ls g l = record {
    top = record {
      keeps = record { globals = g; old = g; locals = l; constants = λ n v e c. refl };
      known = know.starts;
      nothing_kept = refl;
    };
    below = tt;
  }

  pub fails_machine : ChoicesFail t i → MachineFails t i
  fails_machine (choices, f) =
      let b : Begun t i = begun_by t i choices [] (none_so_far t.globals) f in
      let r : Filled t i (begun t b.globals) b.rest = filled_by t i b.rest (begun t b.globals) b.typed (none_so_far (locals_at t t.entry)) b.fails in
      let c : Config = first t b.globals r.more in
      let g : IsGood t Known c = first_good b.globals r.more b.typed r.typed in
      let m = run_breaks t Known know Import imports i (length r.rest) c r.rest (omega arith) g r.fails in (
        suc m.0,
        shown_stack t c,
        record {
          globals = b.globals;
          as_many = types_length t.globals b.globals b.typed;
          locals = r.more;
          proc = refl;
          spot = refl;
          values = refl;
          state = shown_state t t.entry (state_of c) g.top.keeps;
          below = refl;
        },
        breaks_reaches m.0 c g m.1,
      )

  -- the first configuration that a start shows
  pub record IsStarted (x : Stack) : Type 0 where
    pub globals : List ℤ
    pub typed : HasTypes t.globals globals
    pub locals : List ℤ
    pub locals_typed : HasTypes (locals_at t t.entry) locals
    pub shown_is : x ≡ shown_stack t (first t globals locals)
    pub good : IsGood t Known (first t globals locals)

  pub started : (x : Stack) → IsStart t x → IsStarted x
  started x s =
      let gs : List ℤ = s.globals in
      let ls : List ℤ = s.locals in
      let olds : Columns = old_columns 0 t.globals in
      let locals : Columns = locals_from 0 (locals_at t t.entry) in
      let values : List ℤ = variable_values t.globals gs in
      let many : length gs ≡ length t.globals = s.as_many in
      let state : IsState (frame_at t t.entry) (gs ++ (values ++ ls)) = subst (IsState (frame_at t t.entry)) s.values s.state in
      let parts = state_parts (globals_from 0 t.globals) (olds ++ locals) gs (values ++ ls) (many ∙ sym (globals_length 0 t.globals)) state in
      let typed : HasTypes t.globals gs = globals_typed 0 t.globals gs parts.0 in
      let behind = state_parts olds locals values ls (olds_length 0 t.globals gs many) parts.1 in
      let locals_are : HasTypes (locals_at t t.entry) ls = locals_typed 0 (locals_at t t.entry) ls behind.1 in
      record {
        globals = gs;
        typed = typed;
        locals = ls;
        locals_typed = locals_are;
        shown_is = (λ j. record { proc = s.proc j; spot = s.spot j; values = s.values j; below = s.below j });
        good = first_good gs ls typed locals_are;
      }

  -- the choices of the start, and then others
  pub start_runs : (gs ls : List ℤ) (rest : List (Option ℤ)) → HasTypes t.globals gs → HasTypes (locals_at t t.entry) ls → run t (start t) (map Some gs ++ (map Some ls ++ rest)) ≡ run t (first t gs ls) rest
  start_runs gs ls rest g l = run_begun t [] gs (map Some ls ++ rest) g ∙ run_filled t (begun t gs) ls rest g l

  pub machine_fails : MachineFailsExactly t i → ChoicesFail t i
  machine_fails (k, x, s, r) =
      let st : IsStarted x = started x s in
      let c : Config = first t st.globals st.locals in
      let b = reaches_breaks k c st.good (subst (ExactlyReaches t i k) st.shown_is r) in
      let q = breaks_run t Known know Import imports i b.0 c st.good b.1 in
      (map Some st.globals ++ (map Some st.locals ++ q.0), start_runs st.globals st.locals q.0 st.typed st.locals_typed ∙ q.1)
