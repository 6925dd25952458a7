use Rattle.std.proofs.Common.{ℕ, map}
use Rattle.proof_reuse.proofs.SetLaws.{flat_grows}
use Rattle.proof_reuse.proofs.choosing.with_exits.Goals as goal

pub loop-exit-preserved : goal.loop-exit-preserved
loop-exit-preserved c =
    flat_grows (λ (x : ℕ). map (λ (b : ℕ). (x, b, c.args.to)) c.args.befores.now) c.loop-exit.yielded c.in-Some.exit c.loop-exit.found.items c.in_ok-more.more.items
    c.append.new.self.items c.loop-exit.invariant c.in_ok-more.ensures c.in_ok-append.ensures.items
