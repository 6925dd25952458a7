-- Inside actions and their edges: what an action does in a configuration is a step of the stack that shows it, and each step by one of its edges is
-- what the action does.
use Rattle.std.proofs.Common.{◌≡◌, ℕ, zero, suc, Bool, true, false, ℤ, List, [], ◌∷◌, Some, inl, inr, refl, sym, ap, subst, ◌∙◌, if◌then◌else◌}
use Rattle.std.specs.Prelude.{slice_get}
use Rattle.boogie_tree.specs.declared.span.Span.{Span}
use Rattle.typed_tree.specs.TypedTree.{TypedExpression, TypedProgram}
use Rattle.typed_tree.specs.Values.{State, value, truth}
use Rattle.typed_tree.specs.Laws.{IsTruth}
use Rattle.letter_acts.specs.Meaning.{InsideLeads}
use Rattle.cond_jumps.specs.Frames.{frame_environment}
use Rattle.cond_jumps.specs.FreeProducts.Letters.{MarkedConjunction}
use Rattle.cond_jumps.specs.FreeProducts.FrameLetters.{path_letters, passed_letters}
use Rattle.cond_jumps.specs.FreeProducts.FrameLaws.{IsDividedCondition}
use Rattle.boogie_run.specs.BoogiePoints.Points.{Point}
use Rattle.boogie_run.specs.BoogiePoints.Actions as actions
use Rattle.boogie_run.specs.BoogiePoints.Actions.{Action, action_at}
use Rattle.boogie_run.specs.Configurations.{Config, state_of}
use Rattle.boogie_run.specs.Steps.{is_true, moved_to, passed_state}
use Rattle.lowered_graph.specs.LoweredSteps.ProgramFrames.{frame_at, shown}
use Rattle.lowered_graph.specs.LoweredSteps.Edges.{Spot, At, Wrong, Edge, leads, inside_edges, skips, local_count}
use Rattle.lowered_graph.specs.LoweredSteps.Stacks.{IsAmong, IsStep, inside}
use Rattle.lowered_graph.specs.LoweredSteps.Moves.{FrameKeeps, IsPassed, shown_stack, shown_below}
use Rattle.lowered_graph.proofs.LoweredSteps.FrameColumns.{shown_state}
use Rattle.lowered_graph.proofs.LoweredSteps.FrameMarks.{condition_marks, condition_truth, passed_marks, passed_truth}
use Rattle.lowered_graph.proofs.LoweredSteps.ListSteps.{MetLetter, letter_met, edge_of, edge_among, among_front, among_rest, condition_leads, no_rows_met}

-- the values of a configuration's frame
abbrev values_of : TypedProgram → Config → List ℤ
values_of t c = shown t (state_of c)

-- a condition with the wanted value leads by a letter of its list
pub condition_letter : (t : TypedProgram) (n : ℕ) (s : State) (e : TypedExpression) (want : Bool) → FrameKeeps t n s → IsDividedCondition (frame_environment (frame_at t n)) e → value s e ≡ truth want →
    MetLetter (shown t s) (path_letters (frame_at t n) (local_count t n) e want)
condition_letter t n s e want k typed is = letter_met (shown t s) (path_letters (frame_at t n) (local_count t n) e want) ((condition_marks t n s e want k typed).follow is)

-- a truth value is true where it is 1, and else 0
pub true_is : (z : ℤ) → IsTruth z → (b : Bool) → is_true z ≡ b → z ≡ truth b
true_is z (inl f) b e =
    let g : is_true z ≡ false = ap is_true f in
    let i : false ≡ b = cc in
    f ∙ ap truth i
true_is z (inr f) b e =
    let g : is_true z ≡ true = ap is_true f in
    let i : true ≡ b = cc in
    f ∙ ap truth i

pub is_true_of : (z : ℤ) (b : Bool) → z ≡ truth b → is_true z ≡ b
is_true_of z true e = ap is_true e
is_true_of z false e = ap is_true e

-- a step by an inside edge of the action at the point
pub by_edge : (t : TypedProgram) (c : Config) (a : Action) (e : Edge) (values : List ℤ) → action_at t c.top.proc c.top.point ≡ a → IsAmong (inside_edges t c.top.proc c.top.point a) e →
    InsideLeads (frame_at t c.top.proc) e.written e.rows.helpers e.rows.rows (shown t (state_of c)) values →
    IsStep t (shown_stack t c) (record { proc = c.top.proc; spot = e.to; values = values; below = shown_below t c.top.entry c.below })
by_edge t c a e values is i leads =
    inside c.top.point e refl (subst (λ (x : Action). IsAmong (inside_edges t c.top.proc c.top.point x) e) (sym is) i) leads refl refl refl

-- a letter that is met and writes nothing leads on
by_letter : (t : TypedProgram) (c : Config) (a : Action) (ls : List MarkedConjunction) (to : Spot) → action_at t c.top.proc c.top.point ≡ a → FrameKeeps t c.top.proc (state_of c) →
    MetLetter (shown t (state_of c)) ls → ((x : Edge) → IsAmong (leads [] ls to) x → IsAmong (inside_edges t c.top.proc c.top.point a) x) →
    IsStep t (shown_stack t c) (record { proc = c.top.proc; spot = to; values = shown t (state_of c); below = shown_below t c.top.entry c.below })
by_letter t c a ls to is k m among =
    by_edge t c a (edge_of [] to m.letter) (shown t (state_of c)) is (among (edge_of [] to m.letter) (edge_among [] ls to m.letter m.among))
    (condition_leads (frame_at t c.top.proc) (shown t (state_of c)) m.letter.plain (shown_state t c.top.proc (state_of c) k) m.met)

-- a condition that has the wanted value leads on by the edges of its list
pub by_condition : (t : TypedProgram) (c : Config) (a : Action) (e : TypedExpression) (want : Bool) (to : Spot) → action_at t c.top.proc c.top.point ≡ a →
    FrameKeeps t c.top.proc (state_of c) → IsDividedCondition (frame_environment (frame_at t c.top.proc)) e → value (state_of c) e ≡ truth want →
    ((x : Edge) → IsAmong (leads [] (path_letters (frame_at t c.top.proc) (local_count t c.top.proc) e want) to) x → IsAmong (inside_edges t c.top.proc c.top.point a) x) →
    IsStep t (shown_stack t c) (record { proc = c.top.proc; spot = to; values = shown t (state_of c); below = shown_below t c.top.entry c.below })
by_condition t c a e want to is k typed val among =
    let m : MetLetter (shown t (state_of c)) (path_letters (frame_at t c.top.proc) (local_count t c.top.proc) e want) = condition_letter t c.top.proc (state_of c) e want k typed val in
    by_letter t c a (path_letters (frame_at t c.top.proc) (local_count t c.top.proc) e want) to is k m among

-- ---- from actions to steps

-- a condition is asserted, and true
pub check_goes : (t : TypedProgram) (c : Config) (id : ℕ) (at : Span) (e : TypedExpression) (next : Point) → action_at t c.top.proc c.top.point ≡ actions.Check id at e next →
    FrameKeeps t c.top.proc (state_of c) → IsDividedCondition (frame_environment (frame_at t c.top.proc)) e → is_true (value (state_of c) e) ≡ true → IsStep t (shown_stack t c) (shown_stack t (moved_to c next))
check_goes t c id at e next is k typed holds =
    let truth_is : IsTruth (value (state_of c) e) = condition_truth t c.top.proc (state_of c) e k typed in
    by_condition t c (actions.Check id at e next) e true (At next) is k typed (true_is (value (state_of c) e) truth_is true holds)
    (λ x i. among_front (leads [] (path_letters (frame_at t c.top.proc) (local_count t c.top.proc) e true) (At next)) (leads [] (path_letters (frame_at t c.top.proc) (local_count t c.top.proc) e false) (Wrong id)) x i)

-- and false
pub check_fails : (t : TypedProgram) (c : Config) (id : ℕ) (at : Span) (e : TypedExpression) (next : Point) → action_at t c.top.proc c.top.point ≡ actions.Check id at e next →
    FrameKeeps t c.top.proc (state_of c) → IsDividedCondition (frame_environment (frame_at t c.top.proc)) e → is_true (value (state_of c) e) ≡ false →
    IsStep t (shown_stack t c) (record { proc = c.top.proc; spot = Wrong id; values = shown t (state_of c); below = shown_below t c.top.entry c.below })
check_fails t c id at e next is k typed fails =
    let truth_is : IsTruth (value (state_of c) e) = condition_truth t c.top.proc (state_of c) e k typed in
    by_condition t c (actions.Check id at e next) e false (Wrong id) is k typed (true_is (value (state_of c) e) truth_is false fails)
    (λ x i. among_rest (leads [] (path_letters (frame_at t c.top.proc) (local_count t c.top.proc) e true) (At next)) (leads [] (path_letters (frame_at t c.top.proc) (local_count t c.top.proc) e false) (Wrong id)) x i)

pub suppose_goes : (t : TypedProgram) (c : Config) (e : TypedExpression) (next : Point) → action_at t c.top.proc c.top.point ≡ actions.Suppose e next →
    FrameKeeps t c.top.proc (state_of c) → IsDividedCondition (frame_environment (frame_at t c.top.proc)) e → is_true (value (state_of c) e) ≡ true → IsStep t (shown_stack t c) (shown_stack t (moved_to c next))
suppose_goes t c e next is k typed holds =
    let truth_is : IsTruth (value (state_of c) e) = condition_truth t c.top.proc (state_of c) e k typed in
    by_condition t c (actions.Suppose e next) e true (At next) is k typed (true_is (value (state_of c) e) truth_is true holds) (λ x i. i)

test_by : (t : TypedProgram) (c : Config) (e : TypedExpression) (hit miss : Point) (b : Bool) → action_at t c.top.proc c.top.point ≡ actions.Test e hit miss →
    FrameKeeps t c.top.proc (state_of c) → IsDividedCondition (frame_environment (frame_at t c.top.proc)) e → value (state_of c) e ≡ truth b → IsStep t (shown_stack t c) (shown_stack t (moved_to c (if b then hit else miss)))
test_by t c e hit miss true is k typed val =
    by_condition t c (actions.Test e hit miss) e true (At hit) is k typed val
    (λ x i. among_front (leads [] (path_letters (frame_at t c.top.proc) (local_count t c.top.proc) e true) (At hit)) (leads [] (path_letters (frame_at t c.top.proc) (local_count t c.top.proc) e false) (At miss)) x i)
test_by t c e hit miss false is k typed val =
    by_condition t c (actions.Test e hit miss) e false (At miss) is k typed val
    (λ x i. among_rest (leads [] (path_letters (frame_at t c.top.proc) (local_count t c.top.proc) e true) (At hit)) (leads [] (path_letters (frame_at t c.top.proc) (local_count t c.top.proc) e false) (At miss)) x i)

pub test_goes : (t : TypedProgram) (c : Config) (e : TypedExpression) (hit miss : Point) → action_at t c.top.proc c.top.point ≡ actions.Test e hit miss →
    FrameKeeps t c.top.proc (state_of c) → IsDividedCondition (frame_environment (frame_at t c.top.proc)) e →
    IsStep t (shown_stack t c) (shown_stack t (moved_to c (if is_true (value (state_of c) e) then hit else miss)))
test_goes t c e hit miss is k typed =
    let truth_is : IsTruth (value (state_of c) e) = condition_truth t c.top.proc (state_of c) e k typed in
    test_by t c e hit miss (is_true (value (state_of c) e)) is k typed (true_is (value (state_of c) e) truth_is (is_true (value (state_of c) e)) refl)

-- an edge without rows
abbrev skip_to : Point → Edge
skip_to p = record { to = At p; written = []; rows = record { rows = []; helpers = 0 }; coarse = false }

-- a way of several
way_among : (ways : List Point) (n : ℕ) (p : Point) → slice_get ways n ≡ Some p → IsAmong (skips ways) (skip_to p)
way_among [] n p e = absurd (cc)
way_among (w ∷ ws) zero p e =
    let i : w ≡ p = cc in
    inl (ap skip_to i)
way_among (w ∷ ws) (suc n) p e = inr (way_among ws n p e)

pub pick_goes : (t : TypedProgram) (c : Config) (ways : List Point) (n : ℕ) (next : Point) → action_at t c.top.proc c.top.point ≡ actions.Pick ways → FrameKeeps t c.top.proc (state_of c) →
    slice_get ways n ≡ Some next → IsStep t (shown_stack t c) (shown_stack t (moved_to c next))
pick_goes t c ways n next is k e =
    by_edge t c (actions.Pick ways) (skip_to next) (shown t (state_of c)) is (way_among ways n next e)
    (condition_leads (frame_at t c.top.proc) (shown t (state_of c)) (record { rows = []; helpers = 0 }) (shown_state t c.top.proc (state_of c) k) (no_rows_met (shown t (state_of c))))

pub jump_goes : (t : TypedProgram) (c : Config) (next : Point) → action_at t c.top.proc c.top.point ≡ actions.Jump next → FrameKeeps t c.top.proc (state_of c) →
    IsStep t (shown_stack t c) (shown_stack t (moved_to c next))
jump_goes t c next is k =
    by_edge t c (actions.Jump next) (skip_to next) (shown t (state_of c)) is (way_among (next ∷ []) 0 next refl)
    (condition_leads (frame_at t c.top.proc) (shown t (state_of c)) (record { rows = []; helpers = 0 }) (shown_state t c.top.proc (state_of c) k) (no_rows_met (shown t (state_of c))))

-- ---- a requires of a called procedure, with the arguments for its parameters

by_passed : (t : TypedProgram) (c : Config) (a : Action) (args : List TypedExpression) (e : TypedExpression) (want : Bool) (to : Spot) → action_at t c.top.proc c.top.point ≡ a →
    FrameKeeps t c.top.proc (state_of c) → IsPassed (frame_at t c.top.proc) args e → value (passed_state (state_of c) args) e ≡ truth want →
    ((x : Edge) → IsAmong (leads [] (passed_letters (frame_at t c.top.proc) (local_count t c.top.proc) args e want) to) x → IsAmong (inside_edges t c.top.proc c.top.point a) x) →
    IsStep t (shown_stack t c) (record { proc = c.top.proc; spot = to; values = shown t (state_of c); below = shown_below t c.top.entry c.below })
by_passed t c a args e want to is k typed val among =
    let list : List MarkedConjunction = passed_letters (frame_at t c.top.proc) (local_count t c.top.proc) args e want in
    by_letter t c a list to is k (letter_met (shown t (state_of c)) list ((passed_marks t c.top.proc (state_of c) args e want k typed).follow val)) among

pub demand_goes : (t : TypedProgram) (c : Config) (id : ℕ) (at : Span) (e : TypedExpression) (args : List TypedExpression) (next : Point) →
    action_at t c.top.proc c.top.point ≡ actions.Demand id at e args next → FrameKeeps t c.top.proc (state_of c) → IsPassed (frame_at t c.top.proc) args e →
    is_true (value (passed_state (state_of c) args) e) ≡ true → IsStep t (shown_stack t c) (shown_stack t (moved_to c next))
demand_goes t c id at e args next is k typed holds =
    let truth_is : IsTruth (value (passed_state (state_of c) args) e) = passed_truth t c.top.proc (state_of c) args e k typed in
    by_passed t c (actions.Demand id at e args next) args e true (At next) is k typed (true_is (value (passed_state (state_of c) args) e) truth_is true holds)
    (λ x i. among_front (leads [] (passed_letters (frame_at t c.top.proc) (local_count t c.top.proc) args e true) (At next)) (leads [] (passed_letters (frame_at t c.top.proc) (local_count t c.top.proc) args e false) (Wrong id)) x i)

pub demand_fails : (t : TypedProgram) (c : Config) (id : ℕ) (at : Span) (e : TypedExpression) (args : List TypedExpression) (next : Point) →
    action_at t c.top.proc c.top.point ≡ actions.Demand id at e args next → FrameKeeps t c.top.proc (state_of c) → IsPassed (frame_at t c.top.proc) args e →
    is_true (value (passed_state (state_of c) args) e) ≡ false →
    IsStep t (shown_stack t c) (record { proc = c.top.proc; spot = Wrong id; values = shown t (state_of c); below = shown_below t c.top.entry c.below })
demand_fails t c id at e args next is k typed fails =
    let truth_is : IsTruth (value (passed_state (state_of c) args) e) = passed_truth t c.top.proc (state_of c) args e k typed in
    by_passed t c (actions.Demand id at e args next) args e false (Wrong id) is k typed (true_is (value (passed_state (state_of c) args) e) truth_is false fails)
    (λ x i. among_rest (leads [] (passed_letters (frame_at t c.top.proc) (local_count t c.top.proc) args e true) (At next)) (leads [] (passed_letters (frame_at t c.top.proc) (local_count t c.top.proc) args e false) (Wrong id)) x i)
