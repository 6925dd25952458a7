use Rattle.std.proofs.Common.{◌+◌}
use Rattle.letter_acts.specs.Invariant.{AreNumbered}
use Rattle.letter_acts.proofs.LoopLemmas.{ended}
use Rattle.letter_acts.proofs.SiteLemmas.{numbered_step}
use Rattle.letter_acts.proofs.checks.sites.are_numbered.Goals as goal

pub loop-i-preserved : goal.loop-i-preserved
loop-i-preserved c =
    numbered_step _ c.args.sites.now c.loop-i.i (record { id = record { number = 0; line = 0 }; place = 0 }) c.loop-i-test.true c.if-sites-i.false c.loop-i.invariant

pub returns : goal.returns
returns c = ended (AreNumbered (c.loop-i.i + 1)) _ c.args.sites.now c.loop-i.i c.loop-i-test.false tt c.loop-i.invariant
