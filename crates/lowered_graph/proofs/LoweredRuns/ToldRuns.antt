-- The choices that are told of a run of the stack machine by exact steps fail the assertion that the machine fails.
use Rattle.std.proofs.Common.{◌≡◌, ℕ, zero, suc, ◌+◌, Bool, true, false, ℤ, pos, List, [], ◌∷◌, ◌++◌, map, length, take, drop, Option, None, Some, inl, inr, ◌⊎◌, refl, sym, ap, subst, ◌∙◌, arith, append_assoc, if◌then◌else◌}
use Rattle.std.specs.Prelude.{slice_get, unsigned_abs}
use Rattle.std.proofs.lemmas.List.{length-append}
use Rattle.typed_tree.specs.TypedTree.{TypedProgram}
use Rattle.letter_acts.specs.Frames.{old_columns}
use Rattle.boogie_run.specs.BoogiePoints.Points.{Point}
use Rattle.boogie_run.specs.BoogiePoints.Actions as actions
use Rattle.boogie_run.specs.BoogiePoints.Actions.{Action, action_at}
use Rattle.boogie_run.specs.BoogiePlaces.Places.{number_of}
use Rattle.boogie_run.specs.Configurations.{Config}
use Rattle.boogie_run.specs.Needs.{Need, Nothing, need_of_action, is_taken}
use Rattle.boogie_run.specs.Steps.{Outcome, Went, Blocked, Failed, Refused, act, is_true, granted_state, kept_on, went_if, start, step}
use Rattle.boogie_run.specs.Runs.{then_goes_on, run}
use Rattle.typed_tree.specs.Values.{value}
use Rattle.lowered_graph.specs.LoweredSteps.ProgramFrames.{variable_values}
use Rattle.lowered_graph.specs.LoweredSteps.Edges.{columns_before_locals}
use Rattle.lowered_graph.specs.LoweredSteps.Stacks.{Stack, IsStart}
use Rattle.lowered_graph.specs.LoweredSteps.Moves.{IsGood, KnowsPoints, shown_stack}
use Rattle.lowered_graph.proofs.LoweredSteps.FrameColumns.{types_length}
use Rattle.lowered_graph.proofs.LoweredSteps.Places.{olds_length}
use Rattle.lowered_graph.proofs.LoweredRuns.Imports.{IsToldImport, ImportsAreSteps, ImportsAreTold}
use Rattle.lowered_graph.specs.LoweredImports.Laws.{helpers_of}
use Rattle.lowered_graph.specs.LoweredRuns.Choices.{choices_of, ToldStep, AreToldSteps, told_choices, machine_choices}
use Rattle.lowered_graph.proofs.LoweredRuns.Forward.{Follows, forward}
use Rattle.lowered_graph.proofs.LoweredRuns.Backward.{import_or_not, IsShownMove, Breaks, backward}
use Rattle.lowered_graph.proofs.LoweredRuns.Filling.{if_true}
use Rattle.lowered_graph.proofs.LoweredRuns.MovesOfRuns.{failing_reads_none, ready, move_runs}
use Rattle.lowered_graph.proofs.LoweredRuns.Machine.{stuck, reached, first, IsStarted, started, start_runs}
use Rattle.lowered_graph.proofs.LoweredRuns.ToldMoves.{IsToldMove, told_move, drop_behind}

-- a failing action is told as nothing chosen
failing_told : (t : TypedProgram) (c : Config) (a : Action) (i : ℕ) (helpers : List ℤ) (y : Stack) → act t c (pos 0) a ≡ Failed i → choices_of t c.top.proc c.top.point a helpers y ≡ None ∷ []
failing_told t c (actions.Check id at e next) i helpers y f = refl
failing_told t c (actions.Suppose e next) i helpers y f = refl
failing_told t c (actions.Demand id at e args next) i helpers y f = refl
failing_told t c (actions.Write cs es next) i helpers y f = refl
failing_told t c (actions.Guess x next) i helpers y f = absurd (cc)
failing_told t c (actions.Test e hit miss) i helpers y f = refl
failing_told t c (actions.Pick ways) i helpers y f = absurd (by_way (slice_get ways (unsigned_abs (pos 0))) f)
  where
    by_way : (o : Option Point) → went_if o c ≡ Failed i → ⊥
    by_way None f = cc
    by_way (Some p) f = cc
failing_told t c (actions.Jump next) i helpers y f = refl
failing_told t c (actions.Enter g args) i helpers y f = absurd (cc)
failing_told t c (actions.Keep g args x next) i helpers y f = absurd (cc)
failing_told t c (actions.Grant g args e next) i helpers y f = absurd (by_test (is_true (value (granted_state t c g args) e)) f)
  where
    by_test : (b : Bool) → (if b then Went (kept_on c next) else Blocked) ≡ Failed i → ⊥
    by_test true f = cc
    by_test false f = cc
failing_told t c (actions.Finish g args targets next) i helpers y f = absurd (cc)
failing_told t c actions.Leave i helpers y f = refl

take_front : (xs ys : List ℤ) (n : ℕ) → length xs ≡ n → take n (xs ++ ys) ≡ xs
take_front [] ys zero e = refl
take_front [] ys (suc n) e = absurd (omega arith)
take_front (x ∷ xs) ys zero e = absurd (omega arith)
take_front (x ∷ xs) ys (suc n) e = ap (λ (zs : List ℤ). x ∷ zs) (take_front xs ys n (omega arith))

append_none : (xs : List (Option ℤ)) → xs ++ [] ≡ xs
append_none [] = refl
append_none (x ∷ xs) = ap (λ (ys : List (Option ℤ)). x ∷ ys) (append_none xs)

module _ (t : TypedProgram) (Known : ℕ → Point → Type 0) (know : KnowsPoints t Known)
    (differ : (n : ℕ) (p q : Point) → Known n p → Known n q → number_of t (record { proc = n; point = p }) ≡ number_of t (record { proc = n; point = q }) → p ≡ q)
    (Import : Config → Config → Type 0) (imports : ImportsAreSteps t Known Import) (tells : ImportsAreTold t Known Import) (i : ℕ) where
  -- what is told of a step: the choices at its action, and the rest
  abbrev Told : Config → Stack → List ℤ → List ToldStep → List (Option ℤ)
  Told c y helpers ss = choices_of t c.top.proc c.top.point (action_at t c.top.proc c.top.point) helpers y ++ told_choices t y ss

  move_told : (c : Config) (y : Stack) (helpers : List ℤ) (ss : List ToldStep) (m : IsShownMove t Known know c y) → IsGood t Known c → run t m.after (told_choices t (shown_stack t m.after) ss) ≡ Failed i →
      run t c (Told c y helpers ss) ≡ Failed i
  move_told c y helpers ss m g fails =
      let d : Config = m.after in
      let f : Follows t Known know c d = forward t Known know c d g m.move in
      let tm : IsToldMove t Known know differ c d = told_move t Known know differ c d g m.move in
      let rest : List (Option ℤ) = told_choices t (shown_stack t d) ss in
      let list : List (Option ℤ) = tm.move.choice ∷ map Some tm.move.more in
      let told : Told c y helpers ss ≡ list ++ rest = ap (λ (x : Stack). Told c x helpers ss) m.shown ∙ ap (λ (xs : List (Option ℤ)). xs ++ rest) (tm.told helpers) in
      ap (run t c) told ∙ move_runs t Known know Import imports i c d rest g f.good.top.keeps.globals tm.move ∙ fails

  breaks_told : (c : Config) (y : Stack) (helpers : List ℤ) (ss : List ToldStep) (b : Breaks t Known know c y) → IsGood t Known c → AreToldSteps t i y ss → run t c (Told c y helpers ss) ≡ Failed i
  breaks_told c y helpers [] b g r =
      let a : Action = action_at t c.top.proc c.top.point in
      let same : b.assertion ≡ i = reached t 0 y i b.assertion b.wrong r in
      let fails : act t c (pos 0) a ≡ Failed i = b.fails ∙ ap Failed same in
      let none : need_of_action t c.top.proc a ≡ Nothing = (failing_reads_none t c (pos 0) a i fails).1 in
      let taken : is_taken (need_of_action t c.top.proc a) None ≡ true = ap (λ (n : Need). is_taken n None) none in
      let stepped : step t c None ≡ Failed i = ready t Known know Import imports i c None g ∙ if_true (is_taken (need_of_action t c.top.proc a) None) (act t c (pos 0) a) Refused taken ∙ fails in
      let told : Told c y helpers [] ≡ None ∷ [] = append_none (choices_of t c.top.proc c.top.point a helpers y) ∙ failing_told t c a i helpers y fails in
      ap (run t c) told ∙ ap (λ (o : Outcome). then_goes_on o (λ d. run t d [])) stepped
  breaks_told c y helpers (s ∷ ss) b g (st, r) = absurd (stuck t y s.after b.assertion b.wrong st.step)

  pub told_runs : (ss : List ToldStep) (c : Config) → IsGood t Known c → AreToldSteps t i (shown_stack t c) ss → run t c (told_choices t (shown_stack t c) ss) ≡ Failed i
  told_runs [] c g r = absurd (cc)
  told_runs (s ∷ ss) c g (st, r) = elim (import_or_not (action_at t c.top.proc c.top.point)) [
    | inl plain ↦ by_move c s.after s.helpers g (backward t Known know c s.after g plain st.step st.exact) r (λ d h q. told_runs ss d h q)
    | inr at_call ↦ (let m : IsToldImport t Import c s.after (helpers_of t (shown_stack t c) s.after st.step) = tells.told c s.after g at_call st.step st.exact in
        let later : run t m.after (told_choices t (shown_stack t m.after) ss) ≡ Failed i =
        told_runs ss m.after (imports.good c m.after g m.import) (subst (λ (x : Stack). AreToldSteps t i x ss) m.shown r) in
        ap (λ (x : Stack). run t c (choices_of t c.top.proc c.top.point (action_at t c.top.proc c.top.point) s.helpers s.after ++ told_choices t x ss)) m.shown
        ∙ ap (λ (hs : List ℤ). run t c (choices_of t c.top.proc c.top.point (action_at t c.top.proc c.top.point) hs s.after ++ told_choices t (shown_stack t m.after) ss)) (sym st.helpers)
        ∙ m.goes (told_choices t (shown_stack t m.after) ss) ∙ later)
  ]
    where
      by_move : (c : Config) (y : Stack) (helpers : List ℤ) → IsGood t Known c → IsShownMove t Known know c y ⊎ Breaks t Known know c y → AreToldSteps t i y ss →
          ((d : Config) → IsGood t Known d → AreToldSteps t i (shown_stack t d) ss → run t d (told_choices t (shown_stack t d) ss) ≡ Failed i) → run t c (Told c y helpers ss) ≡ Failed i
      by_move c y helpers g (inl m) r later =
          let f : Follows t Known know c m.after = forward t Known know c m.after g m.move in
          move_told c y helpers ss m g (later m.after f.good (subst (λ (x : Stack). AreToldSteps t i x ss) m.shown r))
      by_move c y helpers g (inr b) r later = breaks_told c y helpers ss b g r

  pub machine_run : (x : Stack) (ss : List ToldStep) → IsStart t x → AreToldSteps t i x ss → run t (start t) (machine_choices t x ss) ≡ Failed i
  machine_run x ss s r =
      let st : IsStarted t Known know Import imports i x = started t Known know Import imports i x s in
      let gs : List ℤ = st.globals in
      let ls : List ℤ = st.locals in
      let c : Config = first t gs ls in
      let olds : List ℤ = variable_values t.globals gs in
      let many : length gs ≡ length t.globals = types_length t.globals gs st.typed in
      let old : length olds ≡ length (old_columns 0 t.globals) = olds_length 0 t.globals gs many in
      let both : length (gs ++ olds) ≡ length gs + length olds = length-append gs olds in
      let front : take (length t.globals) (gs ++ (olds ++ ls)) ≡ gs = take_front gs (olds ++ ls) (length t.globals) many in
      let behind : drop (columns_before_locals t) (gs ++ (olds ++ ls)) ≡ ls =
      ap (drop (columns_before_locals t)) (sym (append_assoc gs olds ls)) ∙ drop_behind (gs ++ olds) ls (columns_before_locals t) (omega arith) in
      let rest : List (Option ℤ) = told_choices t (shown_stack t c) ss in
      let later : run t c rest ≡ Failed i = told_runs ss c st.good (subst (λ (y : Stack). AreToldSteps t i y ss) st.shown_is r) in
      ap (λ (y : Stack). run t (start t) (machine_choices t y ss)) st.shown_is
      ∙ (λ j. run t (start t) (map Some (front j) ++ (map Some (behind j) ++ rest)))
      ∙ start_runs t Known know Import imports i gs ls rest st.typed st.locals_typed ∙ later
