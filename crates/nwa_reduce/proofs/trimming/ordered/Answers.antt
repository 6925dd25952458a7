use Rattle.std.proofs.Common.{ℕ, sym, subst, arith, ◌∙◌}
use Rattle.nwa_reduce.specs.Ties.Naming.{IsOrder}
use Rattle.nwa_reduce.proofs.ListLemmas.{number_there, number_absent}
use Rattle.nwa_reduce.proofs.NameLemmas.{order_none, order_skips, order_puts, order_whole}
use Rattle.nwa_reduce.proofs.trimming.ordered.Goals as goal
use Rattle.nwa_reduce.proofs.trimming.ordered.Goals.{then-contains+in_ok-insert, else-contains}

pub loop-state-init : goal.loop-state-init
loop-state-init c = order_none _ _ c.new-kept.ensures

pub loop-state-preserved : goal.loop-state-preserved
loop-state-preserved c =
    elim c.if-contains.branch [
      | then-contains+in_ok-insert w ↦
          rw w.kept-is
          (order_puts _ _ _ c.loop-state.kept _ _ _ c.loop-state-test.true (number_there _ _ (sym c.contains.ensures ∙ w.if-contains.true))
          (number_there c.loop-state.kept _) (number_absent c.loop-state.kept _) w.in_ok-insert.ensures c.loop-state.invariant)
      | else-contains w ↦
          rw w.kept-is
          (order_skips _ _ _ _ _ c.loop-state-test.true (number_absent _ _ (sym c.contains.ensures ∙ w.if-contains.false)) c.loop-state.invariant)
    ]

pub returns : goal.returns
returns c =
    let start = c.start.ensures in
    subst (λ (n : ℕ). IsOrder n c.args.reached.now c.args.ending.now c.insert-2.new.self) start
    (order_whole _ _ _ _ c.loop-state.kept _ c.loop-state.state-index (omega arith) (number_there c.loop-state.kept _)
    (number_absent c.loop-state.kept _) c.in_ok-insert-2.ensures c.loop-state.invariant)
