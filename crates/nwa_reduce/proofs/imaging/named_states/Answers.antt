use Rattle.std.proofs.Common.{◌≡◌, ℕ, Some, sym, arith}
use Rattle.nwa_reduce.specs.Ties.Naming.{named}
use Rattle.nwa_reduce.proofs.ListLemmas.{number_there}
use Rattle.nwa_reduce.proofs.CollectLemmas.{collected_none, collected_skips, collected_puts, collected_all, one_name, not_named}
use Rattle.nwa_reduce.proofs.imaging.named_states.Goals as goal
use Rattle.nwa_reduce.proofs.imaging.named_states.Goals.{in-Some+in_ok-insert_full, in_default}

pub loop-state-init : goal.loop-state-init
loop-state-init c = collected_none (λ (q y : ℕ). named c.args.names.now.of.items q ≡ Some y) _ c.new-set.ensures.empty

pub loop-state-preserved : goal.loop-state-preserved
loop-state-preserved c =
    elim c.match-name.branch [
      | in-Some+in_ok-insert_full w ↦
          rw w.set-is
          (collected_puts (λ (q y : ℕ). named c.args.names.now.of.items q ≡ Some y) _ c.args.states.now c.loop-state.state-index _ c.loop-state.set.keys _
          w.in-Some.name c.loop-state-test.true (sym w.in-Some.ensures) (one_name (named c.args.names.now.of.items))
          (number_there c.loop-state.set.keys w.in-Some.name) w.in_ok-insert_full.ensures.keys c.loop-state.invariant)
      | in_default w ↦
          rw w.set-is
          (collected_skips (λ (q y : ℕ). named c.args.names.now.of.items q ≡ Some y) c.args.states.now c.loop-state.state-index _ c.loop-state.set.keys
          c.loop-state-test.true (not_named (named c.args.names.now.of.items) _ (sym w.in_default.ensures)) c.loop-state.invariant)
    ]

pub returns : goal.returns
returns c =
    collected_all (λ (q y : ℕ). named c.args.names.now.of.items q ≡ Some y) c.args.states.now c.loop-state.state-index c.loop-state.set.keys (omega arith)
    c.loop-state.invariant
