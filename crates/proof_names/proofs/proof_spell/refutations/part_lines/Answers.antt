use Rattle.std.proofs.Common.{get_or, pos, refl, ℕ}
use Rattle.std.specs.Prelude.{ℤ}
use Rattle.math_facts.specs.Fits.{Fits}
use Rattle.proof_names.specs.ProofSpell.Nodes.{SpellsPart}
use Rattle.proof_names.proofs.ProofSpell.CorrespondLaws.{correspond_more, all_got}
use Rattle.proof_names.proofs.proof_spell.refutations.part_lines.Goals as goal

pub part_line-requires : goal.part_line-requires
part_line-requires c =
    all_got (λ (p : ℕ × ℤ). Fits p.1) c.args.parts.now c.loop-part.part-index (get_or c.args.parts.now c.loop-part.part-index (0, pos 0)) (0, pos 0)
    c.requires c.loop-part-test.true refl

pub loop-part-preserved : goal.loop-part-preserved
loop-part-preserved c =
    correspond_more SpellsPart c.loop-part.lines.items c.push.new.self.items c.args.parts.now c.loop-part.part-index c.in_ok-part_line.field-0
    (get_or c.args.parts.now c.loop-part.part-index (0, pos 0)) (0, pos 0) c.loop-part.invariant c.loop-part-test.true refl c.in_ok-part_line.ensures c.in_ok-push.ensures.items
