-- A run that takes the choices told of a run of the stack machine fails with the last of them.
use Rattle.std.proofs.Common.{◌≡◌, ℕ, zero, suc, ◌+◌, Bool, true, false, ℤ, pos, List, [], ◌∷◌, ◌++◌, map, length, take, drop, Option, None, Some, inl, inr, ◌⊎◌, refl, sym, ap, subst, ◌∙◌, arith, append_assoc, if◌then◌else◌, IsTrue}
use Rattle.std.specs.Prelude.{slice_get, unsigned_abs}
use Rattle.std.proofs.lemmas.List.{length-append}
use Rattle.typed_tree.specs.TypedTree.{TypedProgram}
use Rattle.typed_tree.specs.Values.{value}
use Rattle.typed_tree.specs.TypingRules.ValidProgram.{is_valid}
use Rattle.letter_acts.specs.Frames.{old_columns}
use Rattle.boogie_run.specs.BoogiePoints.Points.{Point}
use Rattle.boogie_run.specs.BoogiePoints.Actions as actions
use Rattle.boogie_run.specs.BoogiePoints.Actions.{Action, action_at}
use Rattle.boogie_run.specs.BoogiePlaces.Places.{number_of}
use Rattle.boogie_run.specs.Configurations.{Config}
use Rattle.boogie_run.specs.Needs.{Need, Nothing, need_of_action, is_taken}
use Rattle.boogie_run.specs.Steps.{Went, Blocked, Failed, Refused, act, is_true, granted_state, kept_on, went_if, start, step}
use Rattle.boogie_run.specs.Runs.{run}
use Rattle.lowered_graph.specs.LoweredSteps.ProgramFrames.{variable_values}
use Rattle.lowered_graph.specs.LoweredSteps.Edges.{Wrong, columns_before_locals}
use Rattle.lowered_graph.specs.LoweredSteps.Stacks.{Stack, IsStart}
use Rattle.lowered_graph.specs.LoweredSteps.Moves.{IsGood, KnowsPoints, shown_stack}
use Rattle.lowered_graph.proofs.LoweredSteps.FrameColumns.{types_length}
use Rattle.lowered_graph.proofs.LoweredSteps.Places.{olds_length}
use Rattle.lowered_graph.specs.LoweredImports.Laws.{helpers_of}
use Rattle.lowered_graph.specs.LoweredImports.Imports.{IsImport}
use Rattle.lowered_graph.specs.LoweredImports.KnownPoints.{IsPointOf}
use Rattle.lowered_graph.proofs.LoweredImports.PointLaws.{knows_points}
use Rattle.lowered_graph.specs.LoweredRuns.Choices.{choices_of, ToldStep, IsToldStep, AreToldSteps, told_choices, machine_choices}
use Rattle.lowered_graph.proofs.LoweredRuns.Imports.{IsToldImport, ImportsAreSteps, ImportsAreTold}
use Rattle.lowered_graph.proofs.LoweredRuns.Forward.{Follows, forward}
use Rattle.lowered_graph.proofs.LoweredRuns.Backward.{import_or_not, IsShownMove, Breaks, backward}
use Rattle.lowered_graph.proofs.LoweredRuns.Filling.{if_true}
use Rattle.lowered_graph.proofs.LoweredRuns.MovesOfRuns.{failing_reads_none, ready, move_runs}
use Rattle.lowered_graph.proofs.LoweredRuns.Machine.{stuck, first, IsStarted, started, start_runs}
use Rattle.lowered_graph.proofs.LoweredRuns.ToldMoves.{IsToldMove, told_move, drop_behind}
use Rattle.lowered_graph.proofs.LoweredRuns.PointNumbers.{points_differ}
use Rattle.lowered_graph.specs.LoweredChoices.Choices.{FailsAtLast}
use Rattle.lowered_graph.proofs.LoweredChoices.WholeCalls.{imports_are_steps, imports_are_told}

-- a failing action is told as nothing chosen
failing_told : (t : TypedProgram) (c : Config) (a : Action) (i : ℕ) (helpers : List ℤ) (y : Stack) → act t c (pos 0) a ≡ Failed i → choices_of t c.top.proc c.top.point a helpers y ≡ None ∷ []
failing_told t c (actions.Check id at e next) i helpers y f = refl
failing_told t c (actions.Suppose e next) i helpers y f = refl
failing_told t c (actions.Demand id at e args next) i helpers y f = refl
failing_told t c (actions.Write cs es next) i helpers y f = refl
failing_told t c (actions.Guess x next) i helpers y f = absurd (cc)
failing_told t c (actions.Test e hit miss) i helpers y f = refl
failing_told t c (actions.Pick ways) i helpers y f = absurd (by_way (slice_get ways (unsigned_abs (pos 0))) f)
  where
    by_way : (o : Option Point) → went_if o c ≡ Failed i → ⊥
    by_way None f = cc
    by_way (Some p) f = cc
failing_told t c (actions.Jump next) i helpers y f = refl
failing_told t c (actions.Enter g args) i helpers y f = absurd (cc)
failing_told t c (actions.Keep g args x next) i helpers y f = absurd (cc)
failing_told t c (actions.Grant g args e next) i helpers y f = absurd (by_test (is_true (value (granted_state t c g args) e)) f)
  where
    by_test : (b : Bool) → (if b then Went (kept_on c next) else Blocked) ≡ Failed i → ⊥
    by_test true f = cc
    by_test false f = cc
failing_told t c (actions.Finish g args targets next) i helpers y f = absurd (cc)
failing_told t c actions.Leave i helpers y f = refl

take_front : (xs ys : List ℤ) (n : ℕ) → length xs ≡ n → take n (xs ++ ys) ≡ xs
take_front [] ys zero e = refl
take_front [] ys (suc n) e = absurd (omega arith)
take_front (x ∷ xs) ys zero e = absurd (omega arith)
take_front (x ∷ xs) ys (suc n) e = ap (λ (zs : List ℤ). x ∷ zs) (take_front xs ys n (omega arith))

-- the same of a configuration: the run from it fails with the last of these choices
record FailsFrom (t : TypedProgram) (c : Config) (choices : List (Option ℤ)) (i : ℕ) : Type 0 where
  before : List (Option ℤ)
  last : Option ℤ
  are : choices ≡ before ++ last ∷ []
  here : Config
  leads : run t c before ≡ Went here
  fails : step t here last ≡ Failed i

-- the stack behind these steps
abbrev pub behind : Stack → List ToldStep → Stack
behind x [] = x
behind x (s ∷ ss) = behind s.after ss

not_empty : (front : List ToldStep) (s : ToldStep) (rest : List ToldStep) → front ++ s ∷ rest ≡ [] → ⊥
not_empty [] s rest e = cc
not_empty (n ∷ front) s rest e = cc

-- what is told of a step from a configuration
abbrev step_choices : TypedProgram → Config → ToldStep → List (Option ℤ)
step_choices t c s = choices_of t c.top.proc c.top.point (action_at t c.top.proc c.top.point) s.helpers s.after

module _ (t : TypedProgram) (Known : ℕ → Point → Type 0) (know : KnowsPoints t Known)
    (differ : (n : ℕ) (p q : Point) → Known n p → Known n q → number_of t (record { proc = n; point = p }) ≡ number_of t (record { proc = n; point = q }) → p ≡ q)
    (Import : Config → Config → Type 0) (imports : ImportsAreSteps t Known Import) (tells : ImportsAreTold t Known Import) (i : ℕ) where
  -- a step whose choices lead on, to what it shows
  record LeadsOn (c : Config) (s : ToldStep) : Type 0 where
    after : Config
    good : IsGood t Known after
    shown : s.after ≡ shown_stack t after
    goes : (rest : List (Option ℤ)) → run t c (step_choices t c s ++ rest) ≡ run t after rest

  -- a step that fails an assertion by one step of the run
  record Stops (c : Config) (s : ToldStep) : Type 0 where
    assertion : ℕ
    wrong : s.after.spot ≡ Wrong assertion
    only : step_choices t c s ≡ None ∷ []
    fails : step t c None ≡ Failed assertion

  by_move : (c : Config) (s : ToldStep) → IsGood t Known c → IsShownMove t Known know c s.after → LeadsOn c s
  by_move c s g m =
      let d : Config = m.after in
      let f : Follows t Known know c d = forward t Known know c d g m.move in
      let tm : IsToldMove t Known know differ c d = told_move t Known know differ c d g m.move in
      let list : List (Option ℤ) = tm.move.choice ∷ map Some tm.move.more in
      let told : step_choices t c s ≡ list =
      ap (λ (x : Stack). choices_of t c.top.proc c.top.point (action_at t c.top.proc c.top.point) s.helpers x) m.shown ∙ tm.told s.helpers in
      record {
        after = d;
        good = f.good;
        shown = m.shown;
        goes = λ rest. ap (λ (xs : List (Option ℤ)). run t c (xs ++ rest)) told ∙ move_runs t Known know Import imports i c d rest g f.good.top.keeps.globals tm.move;
      }

  by_failing : (c : Config) (s : ToldStep) → IsGood t Known c → Breaks t Known know c s.after → Stops c s
  by_failing c s g b =
      let a : Action = action_at t c.top.proc c.top.point in
      let none : need_of_action t c.top.proc a ≡ Nothing = (failing_reads_none t c (pos 0) a b.assertion b.fails).1 in
      let taken : is_taken (need_of_action t c.top.proc a) None ≡ true = ap (λ (n : Need). is_taken n None) none in
      record {
        assertion = b.assertion;
        wrong = b.wrong;
        only = failing_told t c a b.assertion s.helpers s.after b.fails;
        fails = ready t Known know Import imports i c None g ∙ if_true (is_taken (need_of_action t c.top.proc a) None) (act t c (pos 0) a) Refused taken ∙ b.fails;
      }

  told_step : (c : Config) (s : ToldStep) → IsGood t Known c → IsToldStep t (shown_stack t c) s → LeadsOn c s ⊎ Stops c s
  told_step c s g st = elim (import_or_not (action_at t c.top.proc c.top.point)) [
    | inl plain ↦ by_kind c s g (backward t Known know c s.after g plain st.step st.exact)
    | inr at_call ↦ (let m : IsToldImport t Import c s.after (helpers_of t (shown_stack t c) s.after st.step) = tells.told c s.after g at_call st.step st.exact in
        inl (record {
          after = m.after;
          good = imports.good c m.after g m.import;
          shown = m.shown;
          goes = λ rest. ap (λ (hs : List ℤ). run t c (choices_of t c.top.proc c.top.point (action_at t c.top.proc c.top.point) hs s.after ++ rest)) (sym st.helpers) ∙ m.goes rest;
        }))
  ]
    where
      by_kind : (c : Config) (s : ToldStep) → IsGood t Known c → IsShownMove t Known know c s.after ⊎ Breaks t Known know c s.after → LeadsOn c s ⊎ Stops c s
      by_kind c s g (inl m) = inl (by_move c s g m)
      by_kind c s g (inr b) = inr (by_failing c s g b)

  -- the assertion is the one that is reached, and no step follows
  last_one : (y : Stack) (j : ℕ) (ss : List ToldStep) → y.spot ≡ Wrong j → AreToldSteps t i y ss → (ss ≡ []) × (j ≡ i)
  last_one y j [] e r = (refl, (let h : Wrong j ≡ Wrong i = sym e ∙ r in cc))
  last_one y j (s ∷ ss) e r = absurd (stuck t y s.after j e r.0.step)

  fails_told : (ss : List ToldStep) (c : Config) → IsGood t Known c → AreToldSteps t i (shown_stack t c) ss → FailsFrom t c (told_choices t (shown_stack t c) ss) i
  fails_told [] c g r = absurd (cc)
  fails_told (s ∷ ss) c g (st, r) = by_step c s g (told_step c s g st) r (λ d h q. fails_told ss d h q)
    where
      by_step : (c : Config) (s : ToldStep) → IsGood t Known c → LeadsOn c s ⊎ Stops c s → AreToldSteps t i s.after ss →
          ((d : Config) → IsGood t Known d → AreToldSteps t i (shown_stack t d) ss → FailsFrom t d (told_choices t (shown_stack t d) ss) i) →
          FailsFrom t c (step_choices t c s ++ told_choices t s.after ss) i
      by_step c s g (inl m) r later =
          let f : FailsFrom t m.after (told_choices t (shown_stack t m.after) ss) i = later m.after m.good (subst (λ (x : Stack). AreToldSteps t i x ss) m.shown r) in
          let rest : told_choices t s.after ss ≡ f.before ++ f.last ∷ [] = ap (λ (x : Stack). told_choices t x ss) m.shown ∙ f.are in
          record {
            before = step_choices t c s ++ f.before;
            last = f.last;
            are = ap (λ (xs : List (Option ℤ)). step_choices t c s ++ xs) rest ∙ sym (append_assoc (step_choices t c s) f.before (f.last ∷ []));
            here = f.here;
            leads = m.goes f.before ∙ f.leads;
            fails = f.fails;
          }
      by_step c s g (inr b) r later =
          let only = last_one s.after b.assertion ss b.wrong r in
          let none : told_choices t s.after ss ≡ [] = ap (told_choices t s.after) only.0 in
          record {
            before = [];
            last = None;
            are = (λ j. b.only j ++ none j);
            here = c;
            leads = refl;
            fails = b.fails ∙ ap Failed only.1;
          }

  -- the choices of a run of the machine: those of the start, and those of its steps
  start_told : (x : Stack) (ss : List ToldStep) (st : IsStarted t Known know Import imports i x) →
      machine_choices t x ss ≡ map Some st.globals ++ (map Some st.locals ++ told_choices t (shown_stack t (first t st.globals st.locals)) ss)
  start_told x ss st =
      let gs : List ℤ = st.globals in
      let ls : List ℤ = st.locals in
      let olds : List ℤ = variable_values t.globals gs in
      let many : length gs ≡ length t.globals = types_length t.globals gs st.typed in
      let old : length olds ≡ length (old_columns 0 t.globals) = olds_length 0 t.globals gs many in
      let both : length (gs ++ olds) ≡ length gs + length olds = length-append gs olds in
      let front : take (length t.globals) (gs ++ (olds ++ ls)) ≡ gs = take_front gs (olds ++ ls) (length t.globals) many in
      let behind_olds : drop (columns_before_locals t) (gs ++ (olds ++ ls)) ≡ ls =
      ap (drop (columns_before_locals t)) (sym (append_assoc gs olds ls)) ∙ drop_behind (gs ++ olds) ls (columns_before_locals t) (omega arith) in
      ap (λ (y : Stack). machine_choices t y ss) st.shown_is ∙ (λ j. map Some (front j) ++ (map Some (behind_olds j) ++ told_choices t (shown_stack t (first t gs ls)) ss))

  machine_fails_last : (x : Stack) (ss : List ToldStep) → IsStart t x → AreToldSteps t i x ss → FailsAtLast t (machine_choices t x ss) i
  machine_fails_last x ss s r =
      let st : IsStarted t Known know Import imports i x = started t Known know Import imports i x s in
      let gs : List ℤ = st.globals in
      let ls : List ℤ = st.locals in
      let c : Config = first t gs ls in
      let f : FailsFrom t c (told_choices t (shown_stack t c) ss) i = fails_told ss c st.good (subst (λ (y : Stack). AreToldSteps t i y ss) st.shown_is r) in
      let moved : map Some gs ++ (map Some ls ++ (f.before ++ f.last ∷ [])) ≡ (map Some gs ++ (map Some ls ++ f.before)) ++ f.last ∷ [] =
      ap (λ (xs : List (Option ℤ)). map Some gs ++ xs) (sym (append_assoc (map Some ls) f.before (f.last ∷ []))) ∙ sym (append_assoc (map Some gs) (map Some ls ++ f.before) (f.last ∷ [])) in
      record {
        before = map Some gs ++ (map Some ls ++ f.before);
        last = f.last;
        are = start_told x ss st ∙ ap (λ (xs : List (Option ℤ)). map Some gs ++ (map Some ls ++ xs)) f.are ∙ moved;
        here = f.here;
        leads = start_runs t Known know Import imports i gs ls f.before st.typed st.locals_typed ∙ f.leads;
        fails = f.fails;
      }

  -- where the run has come to behind steps that another follows
  record Behind (c : Config) (front : List ToldStep) : Type 0 where
    here : Config
    leads : run t c (told_choices t (shown_stack t c) front) ≡ Went here
    shown : behind (shown_stack t c) front ≡ shown_stack t here

  comes_told : (front : List ToldStep) (s : ToldStep) (rest : List ToldStep) (c : Config) → IsGood t Known c → AreToldSteps t i (shown_stack t c) (front ++ s ∷ rest) → Behind c front
  comes_told [] s rest c g r = record { here = c; leads = refl; shown = refl }
  comes_told (n ∷ front) s rest c g (st, r) = by_step c n g (told_step c n g st) r (λ d h q. comes_told front s rest d h q)
    where
      by_step : (c : Config) (n : ToldStep) → IsGood t Known c → LeadsOn c n ⊎ Stops c n → AreToldSteps t i n.after (front ++ s ∷ rest) →
          ((d : Config) → IsGood t Known d → AreToldSteps t i (shown_stack t d) (front ++ s ∷ rest) → Behind d front) → Behind c (n ∷ front)
      by_step c n g (inl m) r later =
          let b : Behind m.after front = later m.after m.good (subst (λ (x : Stack). AreToldSteps t i x (front ++ s ∷ rest)) m.shown r) in
          record {
            here = b.here;
            leads = ap (λ (x : Stack). run t c (step_choices t c n ++ told_choices t x front)) m.shown ∙ m.goes (told_choices t (shown_stack t m.after) front) ∙ b.leads;
            shown = ap (λ (x : Stack). behind x front) m.shown ∙ b.shown;
          }
      by_step c n g (inr b) r later = absurd (not_empty front s rest (last_one n.after b.assertion (front ++ s ∷ rest) b.wrong r).0)

  machine_comes : (x : Stack) (front : List ToldStep) (s : ToldStep) (rest : List ToldStep) → IsStart t x → AreToldSteps t i x (front ++ s ∷ rest) →
      (here : Config) × (run t (start t) (machine_choices t x front) ≡ Went here) × (behind x front ≡ shown_stack t here)
  machine_comes x front n rest s r =
      let st : IsStarted t Known know Import imports i x = started t Known know Import imports i x s in
      let c : Config = first t st.globals st.locals in
      let b : Behind c front = comes_told front n rest c st.good (subst (λ (y : Stack). AreToldSteps t i y (front ++ n ∷ rest)) st.shown_is r) in (
        b.here,
        ap (run t (start t)) (start_told x front st) ∙ start_runs t Known know Import imports i st.globals st.locals (told_choices t (shown_stack t c) front) st.typed st.locals_typed ∙ b.leads,
        ap (λ (y : Stack). behind y front) st.shown_is ∙ b.shown,
      )

-- of every typed program
pub fails_last : (t : TypedProgram) → IsTrue (is_valid t) → (i : ℕ) (x : Stack) (ss : List ToldStep) → IsStart t x → AreToldSteps t i x ss → FailsAtLast t (machine_choices t x ss) i
fails_last t valid i x ss s r =
    machine_fails_last t (IsPointOf t) (knows_points t valid) (λ n p q h k e. points_differ t valid n p q h k e) (IsImport t) (imports_are_steps t valid) (imports_are_told t valid) i x ss s r

pub comes_behind : (t : TypedProgram) → IsTrue (is_valid t) → (i : ℕ) (x : Stack) (front : List ToldStep) (s : ToldStep) (rest : List ToldStep) → IsStart t x → AreToldSteps t i x (front ++ s ∷ rest) →
    (here : Config) × (run t (start t) (machine_choices t x front) ≡ Went here) × (behind x front ≡ shown_stack t here)
comes_behind t valid i x front n rest s r =
    machine_comes t (IsPointOf t) (knows_points t valid) (λ n p q h k e. points_differ t valid n p q h k e) (IsImport t) (imports_are_steps t valid) (imports_are_told t valid) i x front n rest s r
