use Rattle.std.proofs.Common.{ℕ, ◌+◌, ap, sym, ◌∙◌}
use Rattle.boogie_types.specs.Sorted.{hidden_locals}
use Rattle.boogie_types.proofs.HiddenLaws.{hidden_turn}
use Rattle.boogie_types.proofs.hidden.add_hidden.Goals as goal

pub loop-before-preserved : goal.loop-before-preserved
loop-before-preserved c =
    hidden_turn c.loop-before.before c.args.count _ _ _ c.in_ok-local.local c.loop-before-test.true
    (ap (λ (k : ℕ). hidden_locals (k + 1) 1) (sym c.from.ensures) ∙ c.in_ok-local.ensures) c.in_ok-push.ensures.items c.loop-before.invariant
