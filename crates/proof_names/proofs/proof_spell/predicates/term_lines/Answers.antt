use Rattle.std.proofs.Common.{length, get_or, pos, refl}
use Rattle.proof_names.specs.ProofSpell.Nodes.{SpellsTerm, IsTermWithin}
use Rattle.proof_names.proofs.ProofSpell.CorrespondLaws.{correspond_more, all_got}
use Rattle.proof_names.proofs.proof_spell.predicates.term_lines.Goals as goal

pub term_line-requires-clause-within : goal.term_line-requires-clause-within
term_line-requires-clause-within c =
    all_got (IsTermWithin (length c.args.frame.now)) c.args.terms.now c.loop-term.term-index (get_or c.args.terms.now c.loop-term.term-index (0, pos 0)) (0, pos 0)
    c.requires.within c.loop-term-test.true refl

pub loop-term-preserved : goal.loop-term-preserved
loop-term-preserved c =
    correspond_more (SpellsTerm c.args.frame.now) c.loop-term.lines.items c.push.new.self.items c.args.terms.now c.loop-term.term-index c.in_ok-term_line.field-0
    (get_or c.args.terms.now c.loop-term.term-index (0, pos 0)) (0, pos 0) c.loop-term.invariant c.loop-term-test.true refl c.in_ok-term_line.ensures c.in_ok-push.ensures.items
