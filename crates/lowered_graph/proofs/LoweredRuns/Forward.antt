-- Each move of a configuration in a run of a typed program is a step of the stack that shows it, and leads to such a configuration.
use Rattle.std.proofs.Common.{◌≡◌, ℕ, Bool, true, false, ℤ, pos, List, [], ◌∷◌, ◌++◌, take, Option, None, Some, inl, inr, ◌⊎◌, refl, sym, ap, subst, ◌∙◌, if◌then◌else◌}
use Rattle.std.specs.Prelude.{slice_get, unsigned_abs}
use Rattle.std.specs.List.{AllByRecursion}
use Rattle.math_facts.specs.Optional.{or_zero}
use Rattle.boogie_tree.specs.declared.tree.Column.{Column}
use Rattle.typed_tree.specs.TypedTree.{TypedExpression, TypedProgram}
use Rattle.typed_tree.specs.Values.{value}
use Rattle.boogie_run.specs.BoogiePoints.Points.{Point, settled, past_first}
use Rattle.boogie_run.specs.BoogiePoints.Actions as actions
use Rattle.boogie_run.specs.BoogiePoints.Actions.{Action, action_at}
use Rattle.boogie_run.specs.BoogiePoints.Starts.{targets_at}
use Rattle.boogie_run.specs.BoogiePlaces.Places.{onward}
use Rattle.boogie_run.specs.Configurations.{Frame, Config, state_of}
use Rattle.boogie_run.specs.Needs.{need_of_action, is_taken, locals_at}
use Rattle.boogie_run.specs.Steps.{Outcome, Went, Blocked, Failed, Ended, Refused, act, is_true, moved_to, written, all_written, values, passed_state, entered, left}
use Rattle.boogie_run.specs.Steps as steps
use Rattle.lowered_graph.specs.LoweredSteps.ProgramFrames.{shown}
use Rattle.lowered_graph.specs.LoweredSteps.Edges.{Wrong}
use Rattle.lowered_graph.specs.LoweredSteps.Stacks.{Stack, IsStep}
use Rattle.lowered_graph.specs.LoweredSteps.Moves.{HasTypes, FrameKeeps, IsTypedAction, Awaits, BelowIsGood, IsGood, IsMove, IsNoImport, IsKnownCall, KnowsPoints, shown_stack, shown_below, filled}
use Rattle.lowered_graph.proofs.LoweredSteps.InsideSteps.{check_goes, check_fails, suppose_goes, demand_goes, demand_fails, test_goes, pick_goes, jump_goes}
use Rattle.lowered_graph.proofs.LoweredSteps.Writes.{assigned_taken, write_goes, guess_goes}
use Rattle.lowered_graph.proofs.LoweredSteps.Enters.{called_keeps, enter_goes}
use Rattle.lowered_graph.proofs.LoweredSteps.Returns.{waiting, resumed, resumed_keeps, results_taken, leave_goes}
use Rattle.lowered_graph.proofs.LoweredSteps.Goodness.{done_is, stays_good, written_good}
use Rattle.lowered_graph.proofs.LoweredRuns.Taken.{went_if_true, went_way, all_at, either_known, target_value}

-- the action neither enters a procedure nor is one of a call without body
abbrev pub IsOwn : Action → Type 0
IsOwn (actions.Enter f args) = ⊥
IsOwn (actions.Keep f args c next) = ⊥
IsOwn (actions.Grant f args e next) = ⊥
IsOwn (actions.Finish f args targets next) = ⊥
IsOwn a = Unit {0}

-- a failing of an assertion, as a stack
abbrev pub wrong_stack : TypedProgram → Config → ℕ → Stack
wrong_stack t c i = record { proc = c.top.proc; spot = Wrong i; values = shown t (state_of c); below = shown_below t c.top.entry c.below }

module _ (t : TypedProgram) (Known : ℕ → Point → Type 0) (know : KnowsPoints t Known) where
  -- the step, and what the configuration then keeps
  pub record Follows (c d : Config) : Type 0 where
    pub step : IsStep t (shown_stack t c) (shown_stack t d)
    pub good : IsGood t Known d

  -- ---- one action

  write_follows : (c : Config) (cs : List Column) (es : List TypedExpression) (next : Point) → IsGood t Known c → action_at t c.top.proc c.top.point ≡ actions.Write cs es next →
      IsTypedAction t c.top.proc (actions.Write cs es next) → Known c.top.proc next → Follows c (moved_to (all_written c cs (values (state_of c) es)) next)
  write_follows c cs es next g is typed k = record {
    step = write_goes t c cs es next is g.top.keeps typed;
    good = written_good t Known c cs (values (state_of c) es) next g.top.keeps g.below (assigned_taken t c.top.proc (state_of c) cs es g.top.keeps typed) k;
  }

  guess_follows : (c : Config) (x : Column) (choice : Option ℤ) (next : Point) → IsGood t Known c → action_at t c.top.proc c.top.point ≡ actions.Guess x next →
      IsTypedAction t c.top.proc (actions.Guess x next) → is_taken (need_of_action t c.top.proc (actions.Guess x next)) choice ≡ true → Known c.top.proc next →
      Follows c (moved_to (written c x (or_zero choice)) next)
  guess_follows c x choice next g is typed taken k =
      let val = target_value t c.top.proc typed.0 x choice typed.1 taken in
      record {
        step = guess_goes t c x typed.0 (or_zero choice) next is g.top.keeps typed.1 val;
        good = written_good t Known c (x ∷ []) (or_zero choice ∷ []) next g.top.keeps g.below ((typed.0, typed.1, val), tt) k;
      }

  leave_follows : (c mid : Config) (fs : List Frame) → c.below ≡ fs → IsGood t Known c → action_at t c.top.proc c.top.point ≡ actions.Leave → left t c fs ≡ Went mid → Follows c mid
  leave_follows c mid [] opened g is went = absurd (cc)
  leave_follows c mid (b ∷ rest) opened g is went =
      let below : BelowIsGood t Known c.top (b ∷ rest) = subst (BelowIsGood t Known c.top) opened g.below in
      let waits : Awaits t c.top b = below.1 in
      let keeps : FrameKeeps t b.proc (waiting c b) = below.0.keeps in
      let next : Point = settled (past_first t.procs b.point.todo) in
      let leads : AllByRecursion (Known b.proc) (onward t.procs b.point (actions.Enter c.top.proc waits.args)) =
      subst (λ (a : Action). AllByRecursion (Known b.proc) (onward t.procs b.point a)) waits.calls (know.onward b.proc b.point below.0.known) in
      let x : Config = moved_to (all_written (resumed c b rest) (targets_at b.point.todo) (steps.results_left t c.top)) next in
      let same : x ≡ mid = cc in
      subst (Follows c) same (record {
        step = leave_goes t c b rest opened is g.top.keeps keeps waits (know.constants_first c.top.proc) (know.constants_first b.proc);
        good = written_good t Known (resumed c b rest) (targets_at b.point.todo) (steps.results_left t c.top) next (resumed_keeps t c b rest g.top.keeps keeps) below.2
            (results_taken t c b g.top.keeps waits) leads.0;
      })

  -- an action of the frame itself
  pub own_follows : (c mid : Config) (choice : Option ℤ) (a : Action) → IsGood t Known c → action_at t c.top.proc c.top.point ≡ a → IsOwn a → IsTypedAction t c.top.proc a →
      AllByRecursion (Known c.top.proc) (onward t.procs c.top.point a) → is_taken (need_of_action t c.top.proc a) choice ≡ true → act t c (or_zero choice) a ≡ Went mid → Follows c mid
  own_follows c mid choice (actions.Check id at e next) g is own typed leads taken went =
      let h = went_if_true (is_true (value (state_of c) e)) (moved_to c next) mid (Failed id) (λ x. cc) went in
      subst (Follows c) h.same (record { step = check_goes t c id at e next is g.top.keeps typed h.true_is; good = stays_good t Known c next g leads.0 })
  own_follows c mid choice (actions.Suppose e next) g is own typed leads taken went =
      let h = went_if_true (is_true (value (state_of c) e)) (moved_to c next) mid Blocked (λ x. cc) went in
      subst (Follows c) h.same (record { step = suppose_goes t c e next is g.top.keeps typed h.true_is; good = stays_good t Known c next g leads.0 })
  own_follows c mid choice (actions.Demand id at e args next) g is own typed leads taken went =
      let h = went_if_true (is_true (value (passed_state (state_of c) args) e)) (moved_to c next) mid (Failed id) (λ x. cc) went in
      subst (Follows c) h.same (record { step = demand_goes t c id at e args next is g.top.keeps typed h.true_is; good = stays_good t Known c next g leads.0 })
  own_follows c mid choice (actions.Write cs es next) g is own typed leads taken went =
      let same : moved_to (all_written c cs (values (state_of c) es)) next ≡ mid = cc in
      subst (Follows c) same (write_follows c cs es next g is typed leads.0)
  own_follows c mid choice (actions.Guess x next) g is own typed leads taken went =
      let same : moved_to (written c x (or_zero choice)) next ≡ mid = cc in
      subst (Follows c) same (guess_follows c x choice next g is typed taken leads.0)
  own_follows c mid choice (actions.Test e hit miss) g is own typed leads taken went =
      let same : moved_to c (if is_true (value (state_of c) e) then hit else miss) ≡ mid = cc in
      subst (Follows c) same (record {
        step = test_goes t c e hit miss is g.top.keeps typed;
        good = stays_good t Known c (if is_true (value (state_of c) e) then hit else miss) g (either_known (Known c.top.proc) (is_true (value (state_of c) e)) hit miss leads.0 leads.1.0);
      })
  own_follows c mid choice (actions.Pick ways) g is own typed leads taken went =
      let h = went_way (slice_get ways (unsigned_abs (or_zero choice))) c mid went in
      subst (Follows c) h.same (record {
        step = pick_goes t c ways (unsigned_abs (or_zero choice)) h.way is g.top.keeps h.is;
        good = stays_good t Known c h.way g (all_at (Known c.top.proc) ways (unsigned_abs (or_zero choice)) h.way leads h.is);
      })
  own_follows c mid choice (actions.Jump next) g is own typed leads taken went =
      let same : moved_to c next ≡ mid = cc in
      subst (Follows c) same (record { step = jump_goes t c next is g.top.keeps; good = stays_good t Known c next g leads.0 })
  own_follows c mid choice (actions.Enter f args) g is own typed leads taken went = absurd own
  own_follows c mid choice (actions.Keep f args x next) g is own typed leads taken went = absurd own
  own_follows c mid choice (actions.Grant f args e next) g is own typed leads taken went = absurd own
  own_follows c mid choice (actions.Finish f args targets next) g is own typed leads taken went = absurd own
  own_follows c mid choice actions.Leave g is own typed leads taken went = leave_follows c mid c.below refl g is went

  -- ---- a call, with its locals

  pub enter_follows : (c : Config) (f : ℕ) (args : List TypedExpression) (more : List ℤ) → IsGood t Known c → action_at t c.top.proc c.top.point ≡ actions.Enter f args →
      HasTypes (locals_at t f) (values (state_of c) args ++ more) → Follows c (filled (entered t c f (values (state_of c) args)) more)
  enter_follows c f args more g is typed =
      let n : ℕ = c.top.proc in
      let q : IsKnownCall t n c.top.point f args = know.calls n c.top.point f args g.top.known is in
      let zs : List ℤ = values (state_of c) args in
      let keeps : FrameKeeps t c.top.proc (state_of c) = g.top.keeps in
      record {
        step = enter_goes t c f args (take q.procedure.params q.procedure.locals) more is keeps (know.constants_first f) q.arguments typed;
        good = record {
          top = record {
            keeps = called_keeps t n f (state_of c) zs more keeps typed;
            known = know.entries n c.top.point f args g.top.known is;
            nothing_kept = refl;
          };
          below = (
            g.top,
            record {
              args = args;
              calls = is;
              procedure = q.procedure;
              is = q.is;
              enough = q.enough;
              shape = q.shape;
              arguments = q.arguments;
              later = more;
              passed = refl;
              targets = q.targets;
            },
            g.below,
          );
        };
      }

  -- ---- moves

  abbrev pub own_or_call : (a : Action) → IsNoImport a → IsOwn a ⊎ ((f : ℕ) × (args : List TypedExpression) × (a ≡ actions.Enter f args))
  own_or_call (actions.Check id at e next) p = inl tt
  own_or_call (actions.Suppose e next) p = inl tt
  own_or_call (actions.Demand id at e args next) p = inl tt
  own_or_call (actions.Write cs es next) p = inl tt
  own_or_call (actions.Guess x next) p = inl tt
  own_or_call (actions.Test e hit miss) p = inl tt
  own_or_call (actions.Pick ways) p = inl tt
  own_or_call (actions.Jump next) p = inl tt
  own_or_call (actions.Enter f args) p = inr (f, args, refl)
  own_or_call (actions.Keep f args x next) p = absurd p
  own_or_call (actions.Grant f args e next) p = absurd p
  own_or_call (actions.Finish f args targets next) p = absurd p
  own_or_call actions.Leave p = inl tt

  move_enters : (c d : Config) (f : ℕ) (args : List TypedExpression) → IsGood t Known c → action_at t c.top.proc c.top.point ≡ actions.Enter f args → IsMove t c d → Follows c d
  move_enters c d f args g is m =
      let went : act t c (or_zero m.choice) (actions.Enter f args) ≡ Went m.mid = subst (λ (a : Action). act t c (or_zero m.choice) a ≡ Went m.mid) is m.went in
      let mid_is : m.mid ≡ entered t c f (values (state_of c) args) = cc in
      let typed : HasTypes (locals_at t f) (values (state_of c) args ++ m.more) = subst (λ (x : Config). HasTypes (locals_at t x.top.proc) (x.top.locals ++ m.more)) mid_is m.typed in
      let done : d ≡ filled (entered t c f (values (state_of c) args)) m.more = m.done ∙ ap (λ (x : Config). filled x m.more) mid_is in
      subst (Follows c) (sym done) (enter_follows c f args m.more g is typed)

  pub move_own : (c : Config) (choice : Option ℤ) (mid : Config) → IsGood t Known c → IsOwn (action_at t c.top.proc c.top.point) →
      is_taken (need_of_action t c.top.proc (action_at t c.top.proc c.top.point)) choice ≡ true → act t c (or_zero choice) (action_at t c.top.proc c.top.point) ≡ Went mid → Follows c mid
  move_own c choice mid g own taken went =
      own_follows c mid choice (action_at t c.top.proc c.top.point) g refl own (know.typed c.top.proc c.top.point g.top.known) (know.onward c.top.proc c.top.point g.top.known) taken went

  pub forward : (c d : Config) → IsGood t Known c → IsMove t c d → Follows c d
  forward c d g m = elim (own_or_call (action_at t c.top.proc c.top.point) m.plain) [
    | inl own ↦ (let f : Follows c m.mid = move_own c m.choice m.mid g own m.taken m.went in
        let same : d ≡ m.mid = done_is t m.mid d m.more f.good.top.keeps.locals m.typed m.done in
        subst (Follows c) (sym same) f)
    | inr call ↦ move_enters c d call.0 call.1 g call.2 m
  ]

  -- ---- failing actions

  pub fails_goes : (c : Config) (a : Action) (i : ℕ) → IsGood t Known c → action_at t c.top.proc c.top.point ≡ a → IsTypedAction t c.top.proc a → act t c (pos 0) a ≡ Failed i →
      IsStep t (shown_stack t c) (wrong_stack t c i)
  fails_goes c (actions.Check id at e next) i g is typed fails = by_test (is_true (value (state_of c) e)) refl fails
    where
      by_test : (b : Bool) → is_true (value (state_of c) e) ≡ b → (if b then Went (moved_to c next) else Failed id) ≡ Failed i → IsStep t (shown_stack t c) (wrong_stack t c i)
      by_test true h f = absurd (cc)
      by_test false h f = let same : id ≡ i = cc in subst (λ (j : ℕ). IsStep t (shown_stack t c) (wrong_stack t c j)) same (check_fails t c id at e next is g.top.keeps typed h)
  fails_goes c (actions.Suppose e next) i g is typed fails = by_test (is_true (value (state_of c) e)) fails
    where
      by_test : (b : Bool) → (if b then Went (moved_to c next) else Blocked) ≡ Failed i → IsStep t (shown_stack t c) (wrong_stack t c i)
      by_test true f = absurd (cc)
      by_test false f = absurd (cc)
  fails_goes c (actions.Demand id at e args next) i g is typed fails = by_test (is_true (value (passed_state (state_of c) args) e)) refl fails
    where
      by_test : (b : Bool) → is_true (value (passed_state (state_of c) args) e) ≡ b → (if b then Went (moved_to c next) else Failed id) ≡ Failed i → IsStep t (shown_stack t c) (wrong_stack t c i)
      by_test true h f = absurd (cc)
      by_test false h f = let same : id ≡ i = cc in subst (λ (j : ℕ). IsStep t (shown_stack t c) (wrong_stack t c j)) same (demand_fails t c id at e args next is g.top.keeps typed h)
  fails_goes c (actions.Write cs es next) i g is typed fails = absurd (cc)
  fails_goes c (actions.Guess x next) i g is typed fails = absurd (cc)
  fails_goes c (actions.Test e hit miss) i g is typed fails = absurd (cc)
  fails_goes c (actions.Pick ways) i g is typed fails = absurd (by_way (slice_get ways (unsigned_abs (pos 0))) fails)
    where
      by_way : (o : Option Point) → steps.went_if o c ≡ Failed i → ⊥
      by_way None f = cc
      by_way (Some p) f = cc
  fails_goes c (actions.Jump next) i g is typed fails = absurd (cc)
  fails_goes c (actions.Enter f args) i g is typed fails = absurd (cc)
  fails_goes c (actions.Keep f args x next) i g is typed fails = absurd (cc)
  fails_goes c (actions.Grant f args e next) i g is typed fails = absurd (by_test (is_true (value (steps.granted_state t c f args) e)) fails)
    where
      by_test : (b : Bool) → (if b then Went (steps.kept_on c next) else Blocked) ≡ Failed i → ⊥
      by_test true f = cc
      by_test false f = cc
  fails_goes c (actions.Finish f args targets next) i g is typed fails = absurd (cc)
  fails_goes c actions.Leave i g is typed fails = absurd (by_frames c.below fails)
    where
      by_frames : (fs : List Frame) → left t c fs ≡ Failed i → ⊥
      by_frames [] f = cc
      by_frames (b ∷ rest) f = cc
