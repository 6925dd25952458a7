-- The other way round: each exact step of the stack that shows a configuration is that of a move, or the configuration fails there.
use Rattle.std.proofs.Common.{◌≡◌, ℕ, zero, suc, ◌≤◌, true, false, ℤ, pos, List, [], ◌∷◌, ◌++◌, length, take, None, inl, inr, ◌⊎◌, refl, sym, ap, subst, ◌∙◌, arith}
use Rattle.std.specs.Prelude.{slice_get}
use Rattle.boogie_tree.specs.declared.tree.Column.{Column}
use Rattle.boogie_tree.specs.declared.tree.VarInfo.{VarInfo}
use Rattle.typed_tree.specs.TypedTree.{TypedExpression, TypedProgram}
use Rattle.letter_acts.specs.Meaning.{InsideLeads, CallLeads, BackLeads}
use Rattle.cond_jumps.specs.FreeProducts.Letters.{MarkedConjunction}
use Rattle.boogie_run.specs.BoogiePoints.Points.{Point, settled, past_first}
use Rattle.boogie_run.specs.BoogiePoints.Actions as actions
use Rattle.boogie_run.specs.BoogiePoints.Actions.{Action, action_at}
use Rattle.boogie_run.specs.BoogiePoints.Starts.{targets_at, point_of_call}
use Rattle.boogie_run.specs.Configurations.{Frame, Config, state_of}
use Rattle.boogie_run.specs.Needs.{need_of_action, is_taken, locals_at, locals_if_any}
use Rattle.boogie_run.specs.Steps.{Outcome, Went, Failed, act, moved_to, all_written, values, entered, left}
use Rattle.boogie_run.specs.Steps as steps
use Rattle.lowered_graph.specs.LoweredSteps.ProgramFrames.{frame_at, shown}
use Rattle.lowered_graph.specs.LoweredSteps.Edges.{Spot, At, Wrong, Edge, inside_edges, call_letters, numbers_in}
use Rattle.lowered_graph.specs.LoweredSteps.Stacks.{Pending, Stack, IsAmong, IsStep, inside, call, back, IsExact}
use Rattle.lowered_graph.specs.LoweredSteps.Moves.{HasTypes, FrameKeeps, IsTypedAction, Awaits, BelowIsGood, IsGood, IsMove, IsNoImport, IsKnownCall, KnowsPoints, shown_stack, shown_below, filled}
use Rattle.lowered_graph.proofs.LoweredSteps.Places.{all_state_written}
use Rattle.lowered_graph.proofs.LoweredSteps.Writes.{all_written_is, IsWritten}
use Rattle.lowered_graph.proofs.LoweredSteps.InsideBack.{GoesTo, FailsAt, check_back, suppose_back, demand_back, test_back}
use Rattle.lowered_graph.proofs.LoweredSteps.WritesBack.{write_back, guess_back, pick_back, jump_back}
use Rattle.lowered_graph.proofs.LoweredSteps.CallsBack.{IsCalled, called_back}
use Rattle.lowered_graph.proofs.LoweredSteps.Returns.{waiting, resumed, returned_is}
use Rattle.lowered_graph.proofs.LoweredSteps.Goodness.{append_none, arguments_length}
use Rattle.lowered_graph.proofs.LoweredRuns.Forward.{IsOwn, Follows, move_own}

-- an action that is none of a call without body, or one of them
pub import_or_not : (a : Action) → IsNoImport a ⊎ (IsNoImport a → ⊥)
import_or_not (actions.Check id at e next) = inl tt
import_or_not (actions.Suppose e next) = inl tt
import_or_not (actions.Demand id at e args next) = inl tt
import_or_not (actions.Write cs es next) = inl tt
import_or_not (actions.Guess x next) = inl tt
import_or_not (actions.Test e hit miss) = inl tt
import_or_not (actions.Pick ways) = inl tt
import_or_not (actions.Jump next) = inl tt
import_or_not (actions.Enter f args) = inl tt
import_or_not (actions.Keep f args x next) = inr (λ h. h)
import_or_not (actions.Grant f args e next) = inr (λ h. h)
import_or_not (actions.Finish f args targets next) = inr (λ h. h)
import_or_not actions.Leave = inl tt

-- a stack that an edge leads to, in the same procedure
same_stack : (y : Stack) (n : ℕ) (to : Spot) (below : List Pending) → y.proc ≡ n → y.spot ≡ to → y.below ≡ below →
    y ≡ (let x : Stack = record { proc = n; spot = to; values = y.values; below = below } in x)
same_stack y n to below p s b = λ i. record { proc = p i; spot = s i; values = y.values; below = b i }

-- what an inside step makes of an action: it goes on, or fails
inside_back : (t : TypedProgram) (c : Config) (a : Action) (x : Edge) (after : List ℤ) → FrameKeeps t c.top.proc (state_of c) → IsTypedAction t c.top.proc a → IsNoImport a →
    IsAmong (inside_edges t c.top.proc c.top.point a) x → x.coarse ≡ false → InsideLeads (frame_at t c.top.proc) x.written x.rows.helpers x.rows.rows (shown t (state_of c)) after →
    (IsOwn a × GoesTo t c a x.to after) ⊎ FailsAt t c a x.to
inside_back t c (actions.Check id at e next) x after k typed plain i exact h = elim (check_back t c id at e next x after k typed i exact h) [ inl g ↦ inl (tt, g) | inr f ↦ inr f ]
inside_back t c (actions.Suppose e next) x after k typed plain i exact h = inl (tt, suppose_back t c e next x after k typed i exact h)
inside_back t c (actions.Demand id at e args next) x after k typed plain i exact h = elim (demand_back t c id at e args next x after k typed i exact h) [ inl g ↦ inl (tt, g) | inr f ↦ inr f ]
inside_back t c (actions.Write cs es next) x after k typed plain i exact h = inl (tt, write_back t c cs es next x after k typed i exact h)
inside_back t c (actions.Guess y next) x after k typed plain i exact h = inl (tt, guess_back t c y typed.0 next x after k typed.1 i h)
inside_back t c (actions.Test e hit miss) x after k typed plain i exact h = inl (tt, test_back t c e hit miss x after k typed i exact h)
inside_back t c (actions.Pick ways) x after k typed plain i exact h = inl (tt, pick_back t c ways x after k i h)
inside_back t c (actions.Jump next) x after k typed plain i exact h = inl (tt, jump_back t c next x after k i h)
inside_back t c (actions.Enter f args) x after k typed plain i exact h = absurd i
inside_back t c (actions.Keep f args y next) x after k typed plain i exact h = absurd plain
inside_back t c (actions.Grant f args e next) x after k typed plain i exact h = absurd plain
inside_back t c (actions.Finish f args targets next) x after k typed plain i exact h = absurd plain
inside_back t c actions.Leave x after k typed plain i exact h = absurd i

take_no_more : {X : Type 0} (n : ℕ) (xs : List X) → length (take n xs) ≤ length xs
take_no_more zero xs = omega arith
take_no_more (suc n) [] = omega arith
take_no_more {X} (suc n) (x ∷ xs) = let h = take_no_more {X = X} n xs in omega arith

module _ (t : TypedProgram) (Known : ℕ → Point → Type 0) (know : KnowsPoints t Known) where
  -- a move that the step shows
  pub record IsShownMove (c : Config) (y : Stack) : Type 0 where
    pub after : Config
    pub move : IsMove t c after
    pub shown : y ≡ shown_stack t after

  -- the configuration fails where the step leads
  pub record Breaks (c : Config) (y : Stack) : Type 0 where
    pub assertion : ℕ
    pub wrong : y.spot ≡ Wrong assertion
    pub fails : act t c (pos 0) (action_at t c.top.proc c.top.point) ≡ Failed assertion

  own_move : (c : Config) (y : Stack) (to : Spot) → IsGood t Known c → IsNoImport (action_at t c.top.proc c.top.point) → IsOwn (action_at t c.top.proc c.top.point) →
      GoesTo t c (action_at t c.top.proc c.top.point) to y.values → y.proc ≡ c.top.proc → y.spot ≡ to → y.below ≡ shown_below t c.top.entry c.below → IsShownMove c y
  own_move c y to g plain own goes proc spot below =
      let f : Follows t Known know c goes.next = move_own t Known know c goes.choice goes.next g own goes.taken goes.went in
      let none : goes.next.top.locals ++ [] ≡ goes.next.top.locals = append_none goes.next.top.locals in
      record {
        after = goes.next;
        move = record {
          plain = plain;
          choice = goes.choice;
          taken = goes.taken;
          mid = goes.next;
          went = goes.went;
          more = [];
          typed = subst (HasTypes (locals_at t goes.next.top.proc)) (sym none) f.good.top.keeps.locals;
          done = (λ i. record goes.next { top = record goes.next.top { locals = sym none i } });
        };
        shown = same_stack y c.top.proc to (shown_below t c.top.entry c.below) proc spot below ∙ goes.shown;
      }

  inside_move : (c : Config) (y : Stack) (p : Point) (e : Edge) → IsGood t Known c → IsNoImport (action_at t c.top.proc c.top.point) → c.top.point ≡ p →
      IsAmong (inside_edges t c.top.proc p (action_at t c.top.proc p)) e → e.coarse ≡ false → InsideLeads (frame_at t c.top.proc) e.written e.rows.helpers e.rows.rows (shown t (state_of c)) y.values →
      y.proc ≡ c.top.proc → y.spot ≡ e.to → y.below ≡ shown_below t c.top.entry c.below → IsShownMove c y ⊎ Breaks c y
  inside_move c y p e g plain at among exact leads proc spot below =
      let here : IsAmong (inside_edges t c.top.proc c.top.point (action_at t c.top.proc c.top.point)) e =
      subst (λ (r : Point). IsAmong (inside_edges t c.top.proc r (action_at t c.top.proc r)) e) (sym at) among in
      elim (inside_back t c (action_at t c.top.proc c.top.point) e y.values g.top.keeps (know.typed c.top.proc c.top.point g.top.known) plain here exact leads) [
        | inl goes ↦ inl (own_move c y e.to g plain goes.0 goes.1 proc spot below)
        | inr fails ↦ inr (record { assertion = fails.assertion; wrong = spot ∙ fails.wrong; fails = fails.fails })
      ]

  call_move : (c : Config) (y : Stack) (p : Point) (f : ℕ) (args : List TypedExpression) (k : MarkedConjunction) → IsGood t Known c → IsNoImport (action_at t c.top.proc c.top.point) →
      c.top.point ≡ p → action_at t c.top.proc p ≡ actions.Enter f args → IsAmong (call_letters t c.top.proc f args) k → k.coarse ≡ false →
      CallLeads (frame_at t c.top.proc) (frame_at t f) k.plain.helpers k.plain.rows (shown t (state_of c)) y.values → y.proc ≡ f → y.spot ≡ At (point_of_call t f (slice_get t.procs f)) →
      y.below ≡ record { proc = c.top.proc; point = p; values = shown t (state_of c) } ∷ shown_below t c.top.entry c.below → IsShownMove c y
  call_move c y p f args k g plain at calls among exact leads proc spot below =
      let n : ℕ = c.top.proc in
      let is : action_at t n c.top.point ≡ actions.Enter f args = ap (action_at t n) at ∙ calls in
      let q : IsKnownCall t n c.top.point f args = know.calls n c.top.point f args g.top.known is in
      let params : List VarInfo = take q.procedure.params q.procedure.locals in
      let own : locals_at t f ≡ q.procedure.locals = ap locals_if_any q.is in
      let a : length args ≡ length params = arguments_length (frame_at t n) params args q.arguments in
      let b : length params ≤ length q.procedure.locals = take_no_more q.procedure.params q.procedure.locals in
      let d : length (locals_at t f) ≡ length q.procedure.locals = ap length own in
      let r : IsCalled t f (state_of c) args y.values = called_back t n f (state_of c) args params k y.values g.top.keeps (know.constants_first f) q.arguments (omega arith) among exact leads in
      let mid : Config = entered t c f (values (state_of c) args) in
      let went : act t c (pos 0) (action_at t n c.top.point) ≡ Went mid = ap (act t c (pos 0)) is in
      let here : y.below ≡ record { proc = n; point = c.top.point; values = shown t (state_of c) } ∷ shown_below t c.top.entry c.below =
      below ∙ (λ i. record { proc = n; point = sym at i; values = shown t (state_of c) } ∷ shown_below t c.top.entry c.below) in
      record {
        after = filled mid r.more;
        move = record {
          plain = plain;
          choice = None;
          taken = ap (λ (x : Action). is_taken (need_of_action t n x) None) is;
          mid = mid;
          went = went;
          more = r.more;
          typed = r.typed;
          done = refl;
        };
        shown = (λ i. record { proc = proc i; spot = spot i; values = r.shown_is i; below = here i });
      }

  return_move : (c : Config) (y : Stack) (fs : List Frame) (p : Point) (b : Pending) (args : List TypedExpression) (k : MarkedConjunction) → c.below ≡ fs → IsGood t Known c →
      IsNoImport (action_at t c.top.proc c.top.point) → c.top.point ≡ p → action_at t c.top.proc p ≡ actions.Leave → shown_below t c.top.entry fs ≡ b ∷ y.below →
      BackLeads (frame_at t b.proc) (frame_at t c.top.proc) k.plain.helpers k.plain.rows (numbers_in (frame_at t b.proc) (targets_at b.point.todo)) (shown t (state_of c)) b.values y.values →
      y.proc ≡ b.proc → y.spot ≡ At (settled (past_first t.procs b.point.todo)) → IsShownMove c y
  return_move c y [] p b args k opened g plain at is below leads proc spot = absurd (cc)
  return_move c y (f ∷ fs) p b args k opened g plain at is below leads proc spot =
      let held : BelowIsGood t Known c.top (f ∷ fs) = subst (BelowIsGood t Known c.top) opened g.below in
      let waits : Awaits t c.top f = held.1 in
      let keeps : FrameKeeps t f.proc (waiting c f) = held.0.keeps in
      let first : Pending = record { proc = f.proc; point = f.point; values = shown t (waiting c f) } in
      let pending : first ≡ b = cc in
      let rest : shown_below t f.entry fs ≡ y.below = cc in
      let r : Config = resumed c f fs in
      let cs : List Column = targets_at f.point.todo in
      let zs : List ℤ = steps.results_left t c.top in
      let wr : IsWritten r (all_written r cs zs) (all_state_written (state_of r) cs zs) = all_written_is r cs zs in
      let led : BackLeads (frame_at t f.proc) (frame_at t c.top.proc) k.plain.helpers k.plain.rows (numbers_in (frame_at t f.proc) cs) (shown t (state_of c)) (shown t (waiting c f)) y.values =
      subst (λ (x : Pending). BackLeads (frame_at t x.proc) (frame_at t c.top.proc) k.plain.helpers k.plain.rows (numbers_in (frame_at t x.proc) (targets_at x.point.todo)) (shown t (state_of c)) x.values y.values) (sym pending) leads in
      let next : Point = settled (past_first t.procs f.point.todo) in
      let mid : Config = moved_to (all_written r cs zs) next in
      let proc_is : y.proc ≡ mid.top.proc = proc ∙ ap (λ (x : Pending). x.proc) (sym pending) ∙ wr.proc in
      let spot_is : y.spot ≡ At next = spot ∙ ap (λ (x : Pending). At (settled (past_first t.procs x.point.todo))) (sym pending) in
      let values_are : y.values ≡ shown t (state_of (all_written r cs zs)) =
      led.returned ∙ returned_is t c f fs g.top.keeps keeps waits (know.constants_first c.top.proc) (know.constants_first f.proc) ∙ ap (shown t) wr.state in
      let below_is : y.below ≡ shown_below t mid.top.entry mid.below = sym rest ∙ (λ i. shown_below t (wr.entry i) (wr.below i)) in
      let leaves : action_at t c.top.proc c.top.point ≡ actions.Leave = ap (action_at t c.top.proc) at ∙ is in
      let went : act t c (pos 0) (action_at t c.top.proc c.top.point) ≡ Went mid = ap (act t c (pos 0)) leaves ∙ ap (left t c) opened in
      own_move_back c y mid g plain leaves went (λ i. record { proc = proc_is i; spot = spot_is i; values = values_are i; below = below_is i })
    where
      own_move_back : (c : Config) (y : Stack) (mid : Config) → IsGood t Known c → IsNoImport (action_at t c.top.proc c.top.point) → action_at t c.top.proc c.top.point ≡ actions.Leave →
          act t c (pos 0) (action_at t c.top.proc c.top.point) ≡ Went mid → y ≡ shown_stack t mid → IsShownMove c y
      own_move_back c y mid g plain leaves went shows =
          let own : IsOwn (action_at t c.top.proc c.top.point) = subst IsOwn (sym leaves) tt in
          let taken : is_taken (need_of_action t c.top.proc (action_at t c.top.proc c.top.point)) None ≡ true = ap (λ (x : Action). is_taken (need_of_action t c.top.proc x) None) leaves in
          let f : Follows t Known know c mid = move_own t Known know c None mid g own taken went in
          let none : mid.top.locals ++ [] ≡ mid.top.locals = append_none mid.top.locals in
          record {
            after = mid;
            move = record {
              plain = plain;
              choice = None;
              taken = taken;
              mid = mid;
              went = went;
              more = [];
              typed = subst (HasTypes (locals_at t mid.top.proc)) (sym none) f.good.top.keeps.locals;
              done = (λ i. record mid { top = record mid.top { locals = sym none i } });
            };
            shown = shows;
          }

  -- each exact step of the stack of a configuration that stands at no call without body
  pub backward : (c : Config) (y : Stack) → IsGood t Known c → IsNoImport (action_at t c.top.proc c.top.point) → (s : IsStep t (shown_stack t c) y) → IsExact t (shown_stack t c) y s →
      IsShownMove c y ⊎ Breaks c y
  backward c y g plain (inside p e at among leads proc spot below) exact = let here : c.top.point ≡ p = cc in inside_move c y p e g plain here among exact leads proc spot below
  backward c y g plain (call p f args k at calls among leads proc spot below) exact = let here : c.top.point ≡ p = cc in inl (call_move c y p f args k g plain here calls among exact leads proc spot below)
  backward c y g plain (back p b args k at is below calls among leads proc spot) exact =
      let here : c.top.point ≡ p = cc in
      inl (return_move c y c.below p b args k refl g plain here is below leads proc spot)
