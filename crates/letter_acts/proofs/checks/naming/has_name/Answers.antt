use Rattle.nwa_base.specs.Members.{Member}
use Rattle.letter_acts.specs.Invariant.{names_where}
use Rattle.letter_acts.specs.Checks.{is_named_by}
use Rattle.letter_acts.proofs.LoopLemmas.{refuted, ended_not}
use Rattle.letter_acts.proofs.NamingLemmas.{name_step, name_found}
use Rattle.letter_acts.proofs.checks.naming.has_name.Goals as goal

pub returns-then-is_named : goal.returns-then-is_named
returns-then-is_named c =
    name_found (is_named_by c.args.global) _ c.args.frame.now c.loop-i.i _ _ c.args.name.now c.index-frame-i.is c.loop-i-test.true (c.is_named.ensures.0 c.if-is_named.true) c.loop-i.invariant

pub loop-i-preserved : goal.loop-i-preserved
loop-i-preserved c =
    name_step (is_named_by c.args.global) _ c.args.frame.now c.loop-i.i _ _ c.args.name.now c.index-frame-i.is c.loop-i-test.true (refuted _ _ c.is_named.ensures c.if-is_named.false) c.loop-i.invariant

pub returns : goal.returns
returns c =
    ended_not (λ xs. Member (names_where (is_named_by c.args.global) xs) c.args.name.now) _ c.args.frame.now c.loop-i.i c.loop-i-test.false (λ m. m) c.loop-i.invariant
