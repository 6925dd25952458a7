use Rattle.std.proofs.Common.{◌≡◌, ◌+◌, ◌++◌, ◌∷◌, [], length, map, take, get_or, sym, ap, ◌∙◌}
use Rattle.std.proofs.lemmas.List.{map-append, take_more, take_all}
use Rattle.proof_form.specs.Lines.{triple}
use Rattle.proof_names.specs.CoarseLines.CoarseLetters.{is_told}
use Rattle.proof_names.proofs.CoarseLines.MarkLaws.{as_many_acts, told_begins, told_goes_on}
use Rattle.proof_names.proofs.coarse_lines.letters.told_letters.Goals as goal

pub loop-triple-init : goal.loop-triple-init
loop-triple-init c = told_begins c.args.icfg.now c.in_ok-told.told.items (length c.acts.result.now) c.in_ok-told.ensures (as_many_acts c.acts.result.now c.args.icfg.now.acts c.acts.ensures.value)

pub loop-triple-preserved : goal.loop-triple-preserved
loop-triple-preserved c =
    let i = c.loop-triple.triple-index in
    let t = c.triple-item.result in
    let more : map triple (take (i + 1) c.args.triples.now) ≡ map triple (take i c.args.triples.now) ++ triple t ∷ [] =
    ap (map triple) (take_more c.args.triples.now i t c.loop-triple-test.true) ∙ map-append triple (take i c.args.triples.now) (get_or c.args.triples.now i t ∷ []) ∙ ap (λ u. map triple (take i c.args.triples.now) ++ triple u ∷ []) (sym c.triple-item.is) in
    told_goes_on c.args.icfg.now c.loop-triple.told.items c.mark.new.told.items (map triple (take i c.args.triples.now)) _ (triple t) more c.mark.ensures.size c.mark.ensures.marked c.loop-triple.invariant

pub returns : goal.returns
returns c = record {
  size = c.loop-triple.invariant.size;
  told = λ n. c.loop-triple.invariant.marks n ∙ ap (λ ts. is_told c.args.icfg.now (map triple ts) n) (take_all c.loop-triple.triple-index c.args.triples.now c.loop-triple-test.false);
}
