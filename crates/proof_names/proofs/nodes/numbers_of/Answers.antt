use Rattle.std.proofs.Common.{sym}
use Rattle.proof_names.specs.Numbers.{index_in}
use Rattle.proof_names.proofs.AllLaws.{found_on}
use Rattle.proof_names.proofs.FoundLaws.{found_start, found_none, found_end}
use Rattle.proof_names.proofs.nodes.numbers_of.Goals as goal

pub loop-numeral-init : goal.loop-numeral-init
loop-numeral-init c = found_start index_in c.args.numerals.now c.in_ok-numbers.numbers.items c.in_ok-numbers.ensures.items

pub loop-numeral-preserved : goal.loop-numeral-preserved
loop-numeral-preserved c =
    found_on index_in c.args.numerals.now c.loop-numeral.numeral-index c.loop-numeral.numbers.items _ c.numeral-item.result c.in-Some.number c.loop-numeral.invariant c.loop-numeral-test.true c.numeral-item.is
    (sym c.in-Some.ensures) c.in_ok-push-in-Some.ensures.items

pub returns-in-None : goal.returns-in-None
returns-in-None c =
    found_none index_in c.args.numerals.now c.loop-numeral.numeral-index c.loop-numeral.numbers.items c.numeral-item.result c.loop-numeral.invariant c.loop-numeral-test.true c.numeral-item.is c.in-None.ensures

pub returns : goal.returns
returns c = found_end index_in c.args.numerals.now c.loop-numeral.numeral-index c.loop-numeral.numbers.items c.loop-numeral.invariant c.loop-numeral-test.false
