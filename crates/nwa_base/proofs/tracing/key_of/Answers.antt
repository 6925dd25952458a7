use Rattle.std.proofs.Common.{◌≡◌, ℕ, refl, arith}
use Rattle.nwa_base.proofs.MemberLemmas.{found_later, found_nowhere, pair_at}
use Rattle.nwa_base.proofs.tracing.key_of.Goals as goal

pub loop-key-init : goal.loop-key-init
loop-key-init c = ((c.requires.0, c.args.p), c.requires.1, refl)

pub returns-then-state-p : goal.returns-then-state-p
returns-then-state-p c = pair_at _ c.loop-key.key-index (0, 0) _ _ c.loop-key-test.true refl c.if-state-p.true

pub loop-key-preserved : goal.loop-key-preserved
loop-key-preserved c =
    found_later (λ (x : ℕ × ℕ). x.1 ≡ c.args.p) _ c.loop-key.key-index (0, 0) c.loop-key-test.true c.loop-key.invariant c.if-state-p.false

pub unreachable-requires : goal.unreachable-requires
unreachable-requires c = found_nowhere (λ (x : ℕ × ℕ). x.1 ≡ c.args.p) _ c.loop-key.key-index (omega arith) c.loop-key.invariant
