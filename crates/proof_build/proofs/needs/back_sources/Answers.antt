use Rattle.std.proofs.Common.{ℕ}
use Rattle.nwa_base.specs.Members.{Member}
use Rattle.proof_build.specs.Ties.Needs.{IsAmong}
use Rattle.proof_build.proofs.NeedLaws.{none_more, item_among}
use Rattle.proof_build.proofs.needs.back_sources.Goals as goal

pub returns-in-Some-before_call : goal.returns-in-Some-before_call
returns-in-Some-before_call c = (c.in-Some-before_call.ensures.0, item_among c.args.exits.now c.loop-exit.exit-index c.loop-exit-test.true, c.in-Some-before_call.ensures.1)

pub loop-exit-preserved : goal.loop-exit-preserved
loop-exit-preserved c = λ q m p e f.
    none_more (λ (x : ℕ). (y : ℕ) × Member c.args.union.now.backs (x, y, c.args.letter, c.args.target) × IsAmong c.args.before.now y) c.args.exits.now c.loop-exit.exit-index c.loop-exit-test.true
    (λ x k h. c.loop-exit.invariant x k h.0 h.1 h.2) (λ h. c.in_default-before_call.ensures h.0 h.1 h.2) q m (p, e, f)
