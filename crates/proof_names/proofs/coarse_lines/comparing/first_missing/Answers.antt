use Rattle.std.proofs.Common.{false, length, refl, sym, ◌∙◌}
use Rattle.proof_form.specs.Lines.{triple}
use Rattle.proof_names.specs.CoarseLines.CoarseLetters.{letter_named, lacks_line}
use Rattle.proof_names.proofs.CoarseLines.MarkLaws.{lined_by, triple_lacks, triple_has, triples_end}
use Rattle.proof_names.proofs.coarse_lines.comparing.first_missing.Goals as goal

pub loop-place-init : goal.loop-place-init
loop-place-init c = refl

pub loop-place-preserved : goal.loop-place-preserved
loop-place-preserved c =
    let marks = lined_by c.deref.result.now c.in_ok-lined.lined.items (length c.acts.result.now) c.args.coarse.now c.deref.ensures.value c.in_ok-lined.ensures.size c.in_ok-lined.ensures.marks in
    triple_has triple (λ t. lacks_line c.args.icfg.now c.args.coarse.now (letter_named t)) c.args.triples.now c.loop-place.place c.index-triples-place.result _ c.loop-place-test.true c.index-triples-place.is
    (sym c.if-lacks_line.false ∙ c.lacks_line.ensures c.args.coarse.now marks) c.loop-place.invariant

pub returns-then-lacks_line : goal.returns-then-lacks_line
returns-then-lacks_line c =
    let marks = lined_by c.deref.result.now c.in_ok-lined.lined.items (length c.acts.result.now) c.args.coarse.now c.deref.ensures.value c.in_ok-lined.ensures.size c.in_ok-lined.ensures.marks in
    triple_lacks triple (λ t. lacks_line c.args.icfg.now c.args.coarse.now (letter_named t)) c.args.triples.now c.loop-place.place c.index-triples-place.result _ c.loop-place-test.true c.index-triples-place.is
    (sym c.if-lacks_line.true ∙ c.lacks_line.ensures c.args.coarse.now marks) c.loop-place.invariant

pub returns : goal.returns
returns c = triples_end triple (λ t. lacks_line c.args.icfg.now c.args.coarse.now (letter_named t)) c.args.triples.now c.loop-place.place _ c.loop-place-test.false c.loop-place.invariant
