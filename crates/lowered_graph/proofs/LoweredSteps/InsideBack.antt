-- The other way round: a step by an inside edge of an action that is not coarse is what the action does, with a choice that it takes.
use Rattle.std.proofs.Common.{◌≡◌, ℕ, Bool, true, false, ℤ, pos, List, [], Option, None, inl, inr, ◌⊎◌, refl, ap, subst, if◌then◌else◌}
use Rattle.math_facts.specs.Optional.{or_zero}
use Rattle.boogie_tree.specs.declared.span.Span.{Span}
use Rattle.typed_tree.specs.TypedTree.{TypedExpression, TypedProgram}
use Rattle.typed_tree.specs.Values.{State, value, truth}
use Rattle.letter_acts.specs.Meaning.{InsideLeads}
use Rattle.cond_jumps.specs.Frames.{frame_environment}
use Rattle.cond_jumps.specs.FreeProducts.Letters.{MarkedConjunction}
use Rattle.cond_jumps.specs.FreeProducts.FrameLetters.{path_letters, passed_letters}
use Rattle.cond_jumps.specs.FreeProducts.LetterLaws.{SomeExactLetterIsMet}
use Rattle.cond_jumps.specs.FreeProducts.FrameLaws.{IsDividedCondition}
use Rattle.boogie_run.specs.BoogiePoints.Points.{Point}
use Rattle.boogie_run.specs.BoogiePoints.Actions as actions
use Rattle.boogie_run.specs.BoogiePoints.Actions.{Action}
use Rattle.boogie_run.specs.Configurations.{Config, state_of}
use Rattle.boogie_run.specs.Needs.{need_of_action, is_taken}
use Rattle.boogie_run.specs.Steps.{Outcome, Went, Blocked, Failed, act, is_true, moved_to, passed_state}
use Rattle.lowered_graph.specs.LoweredSteps.ProgramFrames.{frame_at, shown}
use Rattle.lowered_graph.specs.LoweredSteps.Edges.{Spot, At, Wrong, Edge, leads, inside_edges, local_count}
use Rattle.lowered_graph.specs.LoweredSteps.Stacks.{Stack, IsAmong}
use Rattle.lowered_graph.specs.LoweredSteps.Moves.{FrameKeeps, IsPassed, shown_stack, shown_below}
use Rattle.lowered_graph.proofs.LoweredSteps.FrameMarks.{condition_marks, passed_marks}
use Rattle.lowered_graph.proofs.LoweredSteps.ListSteps.{exactly_met, letter_of_edge, among_led, among_either, condition_led, IsLed}
use Rattle.lowered_graph.proofs.LoweredSteps.InsideSteps.{is_true_of}

-- What the action makes of the configuration, with a choice that it takes: it goes on to one that is shown by this stack, or it fails there.
pub record GoesTo (t : TypedProgram) (c : Config) (a : Action) (to : Spot) (after : List ℤ) : Type 0 where
  pub choice : Option ℤ
  pub taken : is_taken (need_of_action t c.top.proc a) choice ≡ true
  pub next : Config
  pub went : act t c (or_zero choice) a ≡ Went next
  pub shown : (let x : Stack = record { proc = c.top.proc; spot = to; values = after; below = shown_below t c.top.entry c.below } in x) ≡ shown_stack t next

pub record FailsAt (t : TypedProgram) (c : Config) (a : Action) (to : Spot) : Type 0 where
  pub assertion : ℕ
  pub wrong : to ≡ Wrong assertion
  pub fails : act t c (pos 0) a ≡ Failed assertion

-- an exact edge of a list without written columns: the values stay, and meet a letter that is not coarse
pub record IsRead (t : TypedProgram) (n : ℕ) (s : State) (ls : List MarkedConjunction) (to : Spot) (e : Edge) (after : List ℤ) : Type 0 where
  pub to_is : e.to ≡ to
  pub same : after ≡ shown t s
  pub met : SomeExactLetterIsMet (shown t s) ls

pub read_edge : (t : TypedProgram) (n : ℕ) (s : State) (ls : List MarkedConjunction) (to : Spot) (e : Edge) (after : List ℤ) → IsAmong (leads [] ls to) e → e.coarse ≡ false →
    InsideLeads (frame_at t n) e.written e.rows.helpers e.rows.rows (shown t s) after → IsRead t n s ls to e after
read_edge t n s ls to e after i exact h =
    let l : IsLed [] ls to e = among_led [] ls to e i in
    let led : InsideLeads (frame_at t n) [] e.rows.helpers e.rows.rows (shown t s) after = subst (λ (w : List ℕ). InsideLeads (frame_at t n) w e.rows.helpers e.rows.rows (shown t s) after) l.written_is h in
    let r = condition_led (frame_at t n) (shown t s) after e.rows led in
    record { to_is = l.to_is; same = r.0; met = exactly_met (shown t s) ls (letter_of_edge e) l.member exact r.1 }

-- on to a point with the values as they are
pub stays : (t : TypedProgram) (c : Config) (to : Spot) (after : List ℤ) (next : Point) → to ≡ At next → after ≡ shown t (state_of c) →
    (let x : Stack = record { proc = c.top.proc; spot = to; values = after; below = shown_below t c.top.entry c.below } in x) ≡ shown_stack t (moved_to c next)
stays t c to after next e f = λ i. record { proc = c.top.proc; spot = e i; values = f i; below = shown_below t c.top.entry c.below }

if_true : (b : Bool) (c : Config) (x y : Outcome) → b ≡ true → (if b then x else y) ≡ x
if_true true c x y e = refl
if_true false c x y e = cc

if_false : (b : Bool) (c : Config) (x y : Outcome) → b ≡ false → (if b then x else y) ≡ y
if_false true c x y e = cc
if_false false c x y e = refl

-- ---- conditions

pub check_back : (t : TypedProgram) (c : Config) (id : ℕ) (at : Span) (e : TypedExpression) (next : Point) (x : Edge) (after : List ℤ) → FrameKeeps t c.top.proc (state_of c) → IsDividedCondition (frame_environment (frame_at t c.top.proc)) e →
    IsAmong (inside_edges t c.top.proc c.top.point (actions.Check id at e next)) x → x.coarse ≡ false → InsideLeads (frame_at t c.top.proc) x.written x.rows.helpers x.rows.rows (shown t (state_of c)) after →
    GoesTo t c (actions.Check id at e next) x.to after ⊎ FailsAt t c (actions.Check id at e next) x.to
check_back t c id at e next x after k typed i exact h =
    let n : ℕ = c.top.proc in
    let s : State = state_of c in
    elim (among_either (leads [] (path_letters (frame_at t n) (local_count t n) e true) (At next)) (leads [] (path_letters (frame_at t n) (local_count t n) e false) (Wrong id)) x i) [
      | inl j ↦ (let r = read_edge t n s (path_letters (frame_at t n) (local_count t n) e true) (At next) x after j exact h in
          let val : value s e ≡ truth true = (condition_marks t n s e true k typed).lead r.met in
          inl (record { choice = None; taken = refl; next = moved_to c next; went = if_true (is_true (value s e)) c (Went (moved_to c next)) (Failed id) (is_true_of (value s e) true val); shown = stays t c x.to after next r.to_is r.same }))
      | inr j ↦ (let r = read_edge t n s (path_letters (frame_at t n) (local_count t n) e false) (Wrong id) x after j exact h in
          let val : value s e ≡ truth false = (condition_marks t n s e false k typed).lead r.met in
          inr (record { assertion = id; wrong = r.to_is; fails = if_false (is_true (value s e)) c (Went (moved_to c next)) (Failed id) (is_true_of (value s e) false val) }))
    ]

pub suppose_back : (t : TypedProgram) (c : Config) (e : TypedExpression) (next : Point) (x : Edge) (after : List ℤ) → FrameKeeps t c.top.proc (state_of c) → IsDividedCondition (frame_environment (frame_at t c.top.proc)) e →
    IsAmong (inside_edges t c.top.proc c.top.point (actions.Suppose e next)) x → x.coarse ≡ false → InsideLeads (frame_at t c.top.proc) x.written x.rows.helpers x.rows.rows (shown t (state_of c)) after →
    GoesTo t c (actions.Suppose e next) x.to after
suppose_back t c e next x after k typed i exact h =
    let n : ℕ = c.top.proc in
    let s : State = state_of c in
    let r = read_edge t n s (path_letters (frame_at t n) (local_count t n) e true) (At next) x after i exact h in
    let val : value s e ≡ truth true = (condition_marks t n s e true k typed).lead r.met in
    record { choice = None; taken = refl; next = moved_to c next; went = if_true (is_true (value s e)) c (Went (moved_to c next)) Blocked (is_true_of (value s e) true val); shown = stays t c x.to after next r.to_is r.same }

pub demand_back : (t : TypedProgram) (c : Config) (id : ℕ) (at : Span) (e : TypedExpression) (args : List TypedExpression) (next : Point) (x : Edge) (after : List ℤ) → FrameKeeps t c.top.proc (state_of c) →
    IsPassed (frame_at t c.top.proc) args e → IsAmong (inside_edges t c.top.proc c.top.point (actions.Demand id at e args next)) x → x.coarse ≡ false →
    InsideLeads (frame_at t c.top.proc) x.written x.rows.helpers x.rows.rows (shown t (state_of c)) after →
    GoesTo t c (actions.Demand id at e args next) x.to after ⊎ FailsAt t c (actions.Demand id at e args next) x.to
demand_back t c id at e args next x after k typed i exact h =
    let n : ℕ = c.top.proc in
    let s : State = state_of c in
    let v : ℤ = value (passed_state s args) e in
    elim (among_either (leads [] (passed_letters (frame_at t n) (local_count t n) args e true) (At next)) (leads [] (passed_letters (frame_at t n) (local_count t n) args e false) (Wrong id)) x i) [
      | inl j ↦ (let r = read_edge t n s (passed_letters (frame_at t n) (local_count t n) args e true) (At next) x after j exact h in
          let val : v ≡ truth true = (passed_marks t n s args e true k typed).lead r.met in
          inl (record { choice = None; taken = refl; next = moved_to c next; went = if_true (is_true v) c (Went (moved_to c next)) (Failed id) (is_true_of v true val); shown = stays t c x.to after next r.to_is r.same }))
      | inr j ↦ (let r = read_edge t n s (passed_letters (frame_at t n) (local_count t n) args e false) (Wrong id) x after j exact h in
          let val : v ≡ truth false = (passed_marks t n s args e false k typed).lead r.met in
          inr (record { assertion = id; wrong = r.to_is; fails = if_false (is_true v) c (Went (moved_to c next)) (Failed id) (is_true_of v false val) }))
    ]

test_way : (c : Config) (hit miss : Point) (z : ℤ) (b : Bool) → is_true z ≡ b → Went (moved_to c (if is_true z then hit else miss)) ≡ Went (moved_to c (if b then hit else miss))
test_way c hit miss z b e = ap (λ (x : Bool). Went (moved_to c (if x then hit else miss))) e

pub test_back : (t : TypedProgram) (c : Config) (e : TypedExpression) (hit miss : Point) (x : Edge) (after : List ℤ) → FrameKeeps t c.top.proc (state_of c) → IsDividedCondition (frame_environment (frame_at t c.top.proc)) e →
    IsAmong (inside_edges t c.top.proc c.top.point (actions.Test e hit miss)) x → x.coarse ≡ false → InsideLeads (frame_at t c.top.proc) x.written x.rows.helpers x.rows.rows (shown t (state_of c)) after →
    GoesTo t c (actions.Test e hit miss) x.to after
test_back t c e hit miss x after k typed i exact h =
    let n : ℕ = c.top.proc in
    let s : State = state_of c in
    elim (among_either (leads [] (path_letters (frame_at t n) (local_count t n) e true) (At hit)) (leads [] (path_letters (frame_at t n) (local_count t n) e false) (At miss)) x i) [
      | inl j ↦ (let r = read_edge t n s (path_letters (frame_at t n) (local_count t n) e true) (At hit) x after j exact h in
          let val : value s e ≡ truth true = (condition_marks t n s e true k typed).lead r.met in
          record { choice = None; taken = refl; next = moved_to c hit; went = test_way c hit miss (value s e) true (is_true_of (value s e) true val); shown = stays t c x.to after hit r.to_is r.same })
      | inr j ↦ (let r = read_edge t n s (path_letters (frame_at t n) (local_count t n) e false) (At miss) x after j exact h in
          let val : value s e ≡ truth false = (condition_marks t n s e false k typed).lead r.met in
          record { choice = None; taken = refl; next = moved_to c miss; went = test_way c hit miss (value s e) false (is_true_of (value s e) false val); shown = stays t c x.to after miss r.to_is r.same })
    ]
