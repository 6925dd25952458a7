use Rattle.std.proofs.Common.{neg_ℤ, refl}
use Rattle.math_facts.specs.Terms.{opposite}
use Rattle.cond_jumps.specs.Ties.Totals.{terms_of}
use Rattle.cond_jumps.proofs.TermTurns.{term_turn}
use Rattle.cond_jumps.proofs.sums.opposite_terms.Goals as goal

pub loop-term-preserved : goal.loop-term-preserved
loop-term-preserved c =
    term_turn neg_ℤ c.args.terms.now c.loop-term.term-index c.term-item.result (record { column = c.term-item.result.column; coefficient = c.in_ok-coefficient.coefficient })
    c.loop-term.opposites.items c.push.new.self.items (opposite (terms_of c.args.terms.now)) c.loop-term-test.true c.term-item.is refl c.in_ok-coefficient.ensures
    c.in_ok-push.ensures.items c.loop-term.invariant
