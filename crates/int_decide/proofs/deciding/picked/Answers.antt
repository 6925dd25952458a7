use Rattle.std.proofs.Common.{sym, subst, ◌<◌, ◌+◌, ◌^◌, arith}
use Rattle.farkas_check.specs.Walks.{goal_at_hand}
use Rattle.int_decide.specs.Ties.Searching.{Standing, Takes, goal_extent}
use Rattle.int_decide.specs.Ties.Alike.{ComesTo}
use Rattle.int_decide.proofs.Alikes.{comes_start, taken_is_tight, comes_further, comes_met, taken_is_ready}
use Rattle.int_decide.proofs.deciding.picked.Goals as goal

pub loop-goal-init : goal.loop-goal-init
loop-goal-init c = record {
  comes = subst (λ (st : Standing). ComesTo c.args.columns c.args.depth c.args.system.now st) (sym c.in_ok-search.ensures.stands)
      (comes_start c.args.columns c.args.depth c.args.system.now c.requires.below c.requires.numbered);
  paired = c.in_ok-search.ensures.paired;
}

pub meet_picked-requires-clause-tight : goal.meet_picked-requires-clause-tight
meet_picked-requires-clause-tight c =
    taken_is_tight c.args.columns c.args.depth c.args.system.now c.loop-goal.search c.next.new.self (record { left = c.in-Some.left; goal = goal_at_hand c.next.new.self.walk })
    c.loop-goal.invariant.comes (rw c.in-Some.is at c.in_ok-left.ensures)

pub returns-in-Met : goal.returns-in-Met
returns-in-Met c =
    comes_met c.args.columns c.args.depth c.args.system.now c.loop-goal.search c.next.new.self (record { left = c.in-Some.left; goal = goal_at_hand c.next.new.self.walk })
    c.in-Met.values.items c.loop-goal.invariant.comes (rw c.in-Some.is at c.in_ok-left.ensures) (rw c.in-Met.is at c.in_ok-meet_picked.ensures)

pub loop-goal-preserved : goal.loop-goal-preserved
loop-goal-preserved c =
    let g = rw c.in-Gone.is at c.in_ok-meet_picked.ensures in
    record {
      comes = comes_further c.args.columns c.args.depth c.args.system.now c.loop-goal.search c.next.new.self c.meet_picked.new.self
          (record { left = c.in-Some.left; goal = goal_at_hand c.next.new.self.walk }) c.loop-goal.invariant.comes (rw c.in-Some.is at c.in_ok-left.ensures) g;
      paired = g.paired;
    }

pub meet_picked-requires-clause-paired : goal.meet_picked-requires-clause-paired
meet_picked-requires-clause-paired c =
    let t : Takes c.loop-goal.search (record { left = c.in-Some.left; goal = goal_at_hand c.next.new.self.walk }) c.next.new.self = rw c.in-Some.is at c.in_ok-left.ensures in
    t.paired

pub meet_picked-requires-clause-below : goal.meet_picked-requires-clause-below
meet_picked-requires-clause-below c =
    (taken_is_ready c.args.columns c.args.depth c.args.system.now c.loop-goal.search c.next.new.self (record { left = c.in-Some.left; goal = goal_at_hand c.next.new.self.walk })
    c.loop-goal.invariant.comes (rw c.in-Some.is at c.in_ok-left.ensures)).below

pub meet_picked-requires-clause-numbered : goal.meet_picked-requires-clause-numbered
meet_picked-requires-clause-numbered c =
    let l : goal_extent (goal_at_hand c.next.new.self.walk) + c.in-Some.left < 2 ^ 32 =
    (taken_is_ready c.args.columns c.args.depth c.args.system.now c.loop-goal.search c.next.new.self (record { left = c.in-Some.left; goal = goal_at_hand c.next.new.self.walk })
    c.loop-goal.invariant.comes (rw c.in-Some.is at c.in_ok-left.ensures)).numbered in
    omega (arith, l)
