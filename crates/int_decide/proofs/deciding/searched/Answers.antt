use Rattle.std.proofs.Common.{sym, subst}
use Rattle.fm_elim.proofs.Exits.{exit_part}
use Rattle.int_decide.specs.Ties.Searching.{Task, Standing, HasCome, StepFits, EliminationsFit, Ends}
use Rattle.farkas_check.specs.Walks.{goal_at_hand}
use Rattle.int_decide.proofs.Coming.{come_start, taken_fits, come_further, steps_fewer, come_met, ends_closed}
use Rattle.int_decide.proofs.deciding.searched.Goals as goal

pub loop-search-init : goal.loop-search-init
loop-search-init c = record {
  come = subst (λ (st : Standing). HasCome c.args.columns c.args.depth c.args.system.now st) (sym c.in_ok-search.ensures.stands) (come_start c.args.columns c.args.depth c.args.system.now c.requires.below c.requires.numbered);
  paired = c.in_ok-search.ensures.paired;
}

pub returns-in_err-values : goal.returns-in_err-values
returns-in_err-values c =
    let t : Task = record { left = c.in-Some.left; goal = goal_at_hand c.next.new.self.walk } in
    exit_part c.from_residual-in_err-values.result (Ends c.args.columns c.args.depth c.args.system.now) (EliminationsFit c.args.columns c.args.depth c.args.system.now)
    (StepFits c.args.columns t.goal) c.in_err-values.field-0.0
    (taken_fits c.args.columns c.args.depth c.args.system.now c.loop-search.search c.next.new.self t c.loop-search.invariant.come (rw c.in-Some.is at c.in_ok-left.ensures))
    c.in_err-values.ensures c.from_residual-in_err-values.ensures.1

pub returns-in-Some-2 : goal.returns-in-Some-2
returns-in-Some-2 c =
    come_met c.args.columns c.args.depth c.args.system.now c.loop-search.search c.next.new.self (record { left = c.in-Some.left; goal = goal_at_hand c.next.new.self.walk })
    c.in-Some-2.values.items c.loop-search.invariant.come (rw c.in-Some.is at c.in_ok-left.ensures) c.in_ok-values.ensures.0 (rw c.in-Some-2.is at c.in_ok-values.ensures.1)

pub loop-search-smaller : goal.loop-search-smaller
loop-search-smaller c =
    steps_fewer c.args.columns c.args.depth c.args.system.now c.loop-search.search c.next.new.self c.meet.new.self (record { left = c.in-Some.left; goal = goal_at_hand c.next.new.self.walk })
    c.loop-search.invariant.come (rw c.in-Some.is at c.in_ok-left.ensures) c.in_ok-values.ensures.0 (rw c.in_default-2.is at c.in_ok-values.ensures.1)

pub loop-search-preserved : goal.loop-search-preserved
loop-search-preserved c =
    let g = rw c.in_default-2.is at c.in_ok-values.ensures.1 in
    record {
      come = come_further c.args.columns c.args.depth c.args.system.now c.loop-search.search c.next.new.self c.meet.new.self (record { left = c.in-Some.left; goal = goal_at_hand c.next.new.self.walk })
          c.loop-search.invariant.come (rw c.in-Some.is at c.in_ok-left.ensures) c.in_ok-values.ensures.0 g;
      paired = g.paired;
    }

pub returns-else-search : goal.returns-else-search
returns-else-search c =
    ends_closed c.args.columns c.args.depth c.args.system.now c.loop-search.search c.next.new.self c.loop-search.invariant.come (rw c.in_default.is at c.in_ok-left.ensures) c.if-search.false
