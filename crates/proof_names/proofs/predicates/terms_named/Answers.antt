use Rattle.std.proofs.Common.{sym}
use Rattle.proof_names.specs.Predicates.{term_named}
use Rattle.proof_names.proofs.AllLaws.{found_on}
use Rattle.proof_names.proofs.FoundLaws.{found_start, found_none, found_end}
use Rattle.proof_names.proofs.predicates.terms_named.Goals as goal

pub loop-term-init : goal.loop-term-init
loop-term-init c = found_start (term_named c.args.frame.now) c.args.terms.now c.in_ok-named.named.items c.in_ok-named.ensures.items

pub loop-term-preserved : goal.loop-term-preserved
loop-term-preserved c =
    found_on (term_named c.args.frame.now) c.args.terms.now c.loop-term.term-index c.loop-term.named.items _ c.term-item.result c.in-Some.term c.loop-term.invariant c.loop-term-test.true c.term-item.is
    (sym c.in-Some.ensures) c.in_ok-push-in-Some.ensures.items

pub returns-in-None : goal.returns-in-None
returns-in-None c =
    found_none (term_named c.args.frame.now) c.args.terms.now c.loop-term.term-index c.loop-term.named.items c.term-item.result c.loop-term.invariant c.loop-term-test.true c.term-item.is c.in-None.ensures

pub returns : goal.returns
returns c = found_end (term_named c.args.frame.now) c.args.terms.now c.loop-term.term-index c.loop-term.named.items c.loop-term.invariant c.loop-term-test.false
