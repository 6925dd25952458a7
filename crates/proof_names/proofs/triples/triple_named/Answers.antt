use Rattle.std.proofs.Common.{◌∙◌, map, refl, sym, subst}
use Rattle.std.specs.Prelude.{slice_get}
use Rattle.proof_form.specs.Lines as lines
use Rattle.proof_form.specs.Refutations as form
use Rattle.proof_names.specs.declared.outlines.NamedTriple.{NamedTriple}
use Rattle.proof_names.specs.Refutations.{refutation_of}
use Rattle.proof_names.specs.Naming.{NamesTriple}
use Rattle.proof_names.proofs.TripleLaws.{not_agreed, not_named, names_triple, proof_is_one}
use Rattle.proof_names.proofs.triples.triple_named.Goals as goal

pub returns-then-not-agrees : goal.returns-then-not-agrees
returns-then-not-agrees c =
    not_agreed c.args.icfg.now (slice_get c.args.preds.now) (lines.triple c.args.line.now) c.in-Some.listed c.in-Some-2.triple c.agrees.result c.in-Some.ensures
    (sym c.in-Some-2.is ∙ c.in_ok-triple.ensures) c.agrees.ensures c.if-not-agrees.true

pub returns-then-not-is_named : goal.returns-then-not-is_named
returns-then-not-is_named c =
    not_named c.args.icfg.now (slice_get c.args.preds.now) (lines.triple c.args.line.now) c.in-Some.listed c.letter_in.result c.width.result c.proof_in-nodes.result.now c.is_named.result
    c.in-Some.ensures c.letter_in.ensures c.width.ensures c.is_named.ensures c.proof_in-nodes.ensures c.if-not-is_named.true

pub with_proof-requires : goal.with_proof-requires
with_proof-requires c = proof_is_one (lines.triple c.args.line.now) c.proof_in-nodes.result.now c.requires c.proof_in-nodes.ensures

pub returns : goal.returns
returns c =
    let g = c.args.icfg.now in
    let line = lines.triple c.args.line.now in
    let nodes = c.proof_in-nodes.result.now in
    subst (λ (t : NamedTriple). NamesTriple g (slice_get c.args.preds.now) line t) (sym c.in_ok-with_proof.ensures)
    (names_triple g (slice_get c.args.preds.now) line (record { listed = c.in-Some.listed; triple = c.in-Some-2.triple; proof = refutation_of (map form.plain_refutation_node nodes) })
    c.letter_in.result c.width.result nodes c.agrees.result c.is_named.result
    c.in-Some.ensures (sym c.in-Some-2.is ∙ c.in_ok-triple.ensures) c.agrees.ensures c.if-not-agrees.false c.letter_in.ensures c.width.ensures c.is_named.ensures c.proof_in-nodes.ensures
    c.if-not-is_named.false refl)
