use Rattle.std.proofs.Common.{ℤ, ◌*ℤ◌, refl}
use Rattle.math_facts.specs.Terms.{scaled}
use Rattle.cond_jumps.specs.LongView.{long}
use Rattle.cond_jumps.specs.Ties.Totals.{terms_of}
use Rattle.cond_jumps.proofs.TermTurns.{term_turn}
use Rattle.cond_jumps.proofs.sums.scaled_terms.Goals as goal

pub loop-term-preserved : goal.loop-term-preserved
loop-term-preserved c =
    term_turn (λ (z : ℤ). long c.args.m.now *ℤ z) c.args.terms.now c.loop-term.term-index c.term-item.result
    (record { column = c.term-item.result.column; coefficient = c.in_ok-coefficient.coefficient })
    c.loop-term.products.items c.push.new.self.items (scaled (long c.args.m.now) (terms_of c.args.terms.now)) c.loop-term-test.true c.term-item.is refl c.in_ok-coefficient.ensures
    c.in_ok-push.ensures.items c.loop-term.invariant
