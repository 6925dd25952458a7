use Rattle.std.proofs.Common.{◌<◌, ◌^◌, List, sym, subst, length, rules}
use Rattle.letter_acts.specs.Frames.{Columns}
use Rattle.letter_acts.specs.Acts.{frame_of}
use Rattle.letter_acts.specs.Invariant.{alphabet_of}
use Rattle.triple_rows.specs.declared.predicates.PredNode.{PredNode}
use Rattle.proof_form.specs.Predicates as form
use Rattle.std.specs.List.{AllByRecursion}
use Rattle.proof_names.specs.ProofSpell.Correspond.{Correspond}
use Rattle.proof_names.specs.ProofSpell.Nodes.{IsReadable, IsNodeWithin, SpellsNode}
use Rattle.proof_names.proofs.ProofSpell.NameLaws.{readable}
use Rattle.proof_names.proofs.ProofSpell.AtomLaws.{pred_spelled, nodes_within}
use Rattle.proof_names.proofs.proof_spell.predicates.pred_line.Goals as goal

pub node_lines-requires-clause-readable : goal.node_lines-requires-clause-readable
node_lines-requires-clause-readable c =
    subst (λ (f : Columns). IsReadable f) (sym c.columns.ensures.value) (readable c.args.icfg.now c.args.scoped.now.proc c.columns.ensures.valid)

pub node_lines-requires-clause-within : goal.node_lines-requires-clause-within
node_lines-requires-clause-within c =
    subst (λ (f : Columns). AllByRecursion (IsNodeWithin (length f)) c.nodes.result.now) (sym c.columns.ensures.value)
    (subst (λ (l : List PredNode). AllByRecursion (IsNodeWithin (length (frame_of (alphabet_of c.args.icfg.now) c.args.scoped.now.proc))) l) (sym c.nodes.ensures.value)
    (nodes_within (length (frame_of (alphabet_of c.args.icfg.now) c.args.scoped.now.proc)) c.args.scoped.now.pred c.nodes.ensures.valid c.requires.over c.requires.no_truth))

pub returns : goal.returns
returns c =
    let l : c.args.scoped.now.proc < 2 ^ 32 = search rules in
    let n : Correspond (λ n. SpellsNode (frame_of (alphabet_of c.args.icfg.now) c.args.scoped.now.proc) (form.plain_predicate_node n)) c.in_ok-nodes.nodes.items c.args.scoped.now.pred =
    subst (λ (f : Columns). Correspond (λ n. SpellsNode f (form.plain_predicate_node n)) c.in_ok-nodes.nodes.items c.args.scoped.now.pred) c.columns.ensures.value
    (subst (λ (k : List PredNode). Correspond (λ n. SpellsNode c.columns.result.now (form.plain_predicate_node n)) c.in_ok-nodes.nodes.items k) c.nodes.ensures.value c.in_ok-nodes.ensures) in
    pred_spelled c.args.icfg.now c.in_ok-proc.proc c.in_ok-nodes.nodes.items c.args.scoped.now c.columns.ensures.valid c.requires c.nodes.ensures.valid l c.in_ok-proc.ensures n
