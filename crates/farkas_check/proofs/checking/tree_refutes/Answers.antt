use Rattle.std.proofs.lemmas.Bool.{false≢true}
use Rattle.farkas_check.specs.Nodes.{plain_nodes}
use Rattle.farkas_check.specs.Refutes.{Refutes, Goal, Refute}
use Rattle.farkas_check.specs.Walks.{goals_left, goal_at_hand}
use Rattle.farkas_check.proofs.WalkLaws.{walk_goes, walk_stops, walk_ends}
use Rattle.std.proofs.Common.{◌≡◌, Bool, true, false, not, List, [], ◌∷◌, sym, subst, refl, ◌∙◌}
use Rattle.std.specs.Prelude.{◌↔◌, IsTrue, MatchBool}
use Rattle.farkas_check.proofs.checking.tree_refutes.Goals as goal

pub returns-then-not-branch : goal.returns-then-not-branch
returns-then-not-branch c =
    let none = rw c.node-item.is at (rw c.if-not-branch.true at c.in_ok-step.ensures) in (
      λ e. absurd (false≢true e),
      λ w.
          absurd (walk_stops (Refutes (plain_nodes c.args.nodes.now) c.args.system.now) c.args.nodes.now c.loop-node.node-index c.node-item.result (goals_left c.loop-node.walk)
          c.loop-node-test.true c.loop-node.invariant none w),
    )

pub loop-node-preserved : goal.loop-node-preserved
loop-node-preserved c =
    let some = rw c.node-item.is at (rw c.if-not-branch.false at c.in_ok-step.ensures) in
    walk_goes (Refutes (plain_nodes c.args.nodes.now) c.args.system.now) c.args.nodes.now c.loop-node.node-index c.node-item.result (goals_left c.loop-node.walk)
    (goals_left c.step.new.self) c.loop-node-test.true c.loop-node.invariant some

pub loop-node-init : goal.loop-node-init
loop-node-init c =
    let nodes = plain_nodes c.args.nodes.now in
    subst (λ (gs : List Goal). Refute nodes gs ↔ Refutes nodes c.args.system.now) (sym c.in_ok-walk.ensures) (λ h. h, λ h. h)

-- whether a goal is left at the end
ended : (whole : Type 0) (gs : List Goal) (g : Goal) (rest : List Goal) (more : Bool) → whole ↔ (gs ≡ []) → MatchBool more (gs ≡ g ∷ rest) (gs ≡ []) → IsTrue (not more) ↔ whole
ended whole gs g rest true h m = (λ t. absurd (false≢true t), λ w. let e : [] ≡ g ∷ rest = sym (h.0 w) ∙ m in absurd (cc))
ended whole gs g rest false h m = (λ t. h.1 m, λ w. refl)

pub returns : goal.returns
returns c =
    let whole = Refutes (plain_nodes c.args.nodes.now) c.args.system.now in
    ended whole (goals_left c.loop-node.walk) (goal_at_hand c.take_goal.new.self) (goals_left c.take_goal.new.self) c.in_ok-take_goal.field-0
    (walk_ends whole c.args.nodes.now c.loop-node.node-index (goals_left c.loop-node.walk) c.loop-node-test.false c.loop-node.invariant) c.in_ok-take_goal.ensures.takes
