use Rattle.std.proofs.Common.{sym, subst}
use Rattle.std.specs.Prelude.{IfOk}
use Rattle.proof_form.specs.Lines as lines
use Rattle.proof_names.specs.declared.outlines.Listed.{Listed}
use Rattle.proof_names.specs.ProofSpell.Spelled.{SpellsTriple}
use Rattle.proof_names.proofs.proof_spell.triples.triple_line.Goals as goal

pub returns-in-Inside : goal.returns-in-Inside
returns-in-Inside c =
    let ns = c.args.shown.now.proof.now in
    subst (λ (n : Listed). IfOk c.inside_line.result (λ line. SpellsTriple (lines.triple line) (record { listed = n; proof = ns }))) (sym c.in-Inside.is)
    (c.inside_line.ensures ns c.in_ok-proof.ensures.spells c.node_lines.ensures.whole)

pub returns-in-Call : goal.returns-in-Call
returns-in-Call c =
    let ns = c.args.shown.now.proof.now in
    subst (λ (n : Listed). IfOk c.call_line.result (λ line. SpellsTriple (lines.triple line) (record { listed = n; proof = ns }))) (sym c.in-Call.is)
    (c.call_line.ensures ns c.in_ok-proof.ensures.spells c.node_lines.ensures.whole)

pub returns-in-Back : goal.returns-in-Back
returns-in-Back c =
    let ns = c.args.shown.now.proof.now in
    subst (λ (n : Listed). IfOk c.back_line.result (λ line. SpellsTriple (lines.triple line) (record { listed = n; proof = ns }))) (sym c.in-Back.is)
    (c.back_line.ensures ns c.in_ok-proof.ensures.spells c.node_lines.ensures.whole)
