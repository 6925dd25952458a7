use Rattle.std.proofs.Common.{◌≡◌, sym, subst}
use Rattle.std.proofs.lemmas.Bool.{false≢true}
use Rattle.proof_form.specs.Annotations.{Content, content}
use Rattle.proof_names.specs.ProofSpell.Drafts.{draft}
use Rattle.proof_names.specs.ProofSpell.Spelled.{Spells}
use Rattle.proof_names.proofs.ProofSpell.DraftLaws.{all_numbered, all_ascend, lists_spell, spelled_names, spelled_valid}
use Rattle.proof_names.proofs.proof_spell.spelling.spell.Goals as goal

pub triple_lines-requires : goal.triple_lines-requires
triple_lines-requires c = all_numbered c.args.icfg.now c.args.preds.now c.args.triples.now c.requires.triples

pub node_lines-requires : goal.node_lines-requires
node_lines-requires c = all_ascend c.args.icfg.now c.args.preds.now c.args.nodes.now c.requires.nodes

pub unreachable-requires : goal.unreachable-requires
unreachable-requires c =
    let s = lists_spell c.args.icfg.now c.in_ok-preds.preds.items c.in_ok-triples.triples.items c.in_ok-nodes.nodes.items c.in_ok-steps.steps.items c.args.preds.now c.args.triples.now
    c.args.nodes.now c.args.steps.now c.in_ok-preds.ensures c.in_ok-triples.ensures c.in_ok-nodes.ensures c.in_ok-steps.ensures in
    let v = spelled_valid c.args.icfg.now (content c.in_ok-preds.preds.items c.in_ok-triples.triples.items c.in_ok-nodes.nodes.items c.in_ok-steps.steps.items)
    (draft c.args.preds.now c.args.triples.now c.args.nodes.now c.args.steps.now) s in
    let h = rw c.in-None.is at (c.in_ok-proof.ensures.when.1 v) in
    false≢true h

pub returns-clause-spells : goal.returns-clause-spells
returns-clause-spells c =
    let s = lists_spell c.args.icfg.now c.in_ok-preds.preds.items c.in_ok-triples.triples.items c.in_ok-nodes.nodes.items c.in_ok-steps.steps.items c.args.preds.now c.args.triples.now
    c.args.nodes.now c.args.steps.now c.in_ok-preds.ensures c.in_ok-triples.ensures c.in_ok-nodes.ensures c.in_ok-steps.ensures in
    let e : c.in-Some.proof ≡ content c.in_ok-preds.preds.items c.in_ok-triples.triples.items c.in_ok-nodes.nodes.items c.in_ok-steps.steps.items =
    rw c.in-Some.is at c.in_ok-proof.ensures.value in
    subst (λ (a : Content). Spells c.args.icfg.now a (draft c.args.preds.now c.args.triples.now c.args.nodes.now c.args.steps.now)) (sym e) s

pub returns-clause-names : goal.returns-clause-names
returns-clause-names c =
    spelled_names c.args.icfg.now c.in-Some.proof (draft c.args.preds.now c.args.triples.now c.args.nodes.now c.args.steps.now) c.requires (returns-clause-spells c)
