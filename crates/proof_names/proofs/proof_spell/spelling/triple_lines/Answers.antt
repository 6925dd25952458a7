use Rattle.std.specs.List.{AllByRecursion}
use Rattle.proof_form.specs.Lines as lines
use Rattle.proof_names.specs.ProofSpell.Drafts.{plain}
use Rattle.proof_names.specs.ProofSpell.Nodes.{HasNumbers}
use Rattle.proof_names.specs.ProofSpell.Spelled.{SpellsTriple}
use Rattle.proof_names.proofs.ProofSpell.CorrespondLaws.{correspond_more, all_got}
use Rattle.proof_names.proofs.proof_spell.spelling.triple_lines.Goals as goal

pub triple_line-requires : goal.triple_line-requires
triple_line-requires c =
    all_got (λ t. AllByRecursion HasNumbers t.proof.now) c.args.triples.now c.loop-shown.shown-index c.shown-item.result c.shown-item.result c.requires c.loop-shown-test.true c.shown-item.is

pub loop-shown-preserved : goal.loop-shown-preserved
loop-shown-preserved c =
    correspond_more (λ line t. SpellsTriple (lines.triple line) (plain t)) c.loop-shown.lines.items c.push.new.self.items c.args.triples.now c.loop-shown.shown-index
    c.in_ok-triple_line.field-0 c.shown-item.result c.shown-item.result c.loop-shown.invariant c.loop-shown-test.true c.shown-item.is c.in_ok-triple_line.ensures c.in_ok-push.ensures.items
