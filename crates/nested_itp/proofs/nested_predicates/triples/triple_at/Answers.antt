use Rattle.std.proofs.Common.{◌≡◌, ◌∙◌, ◌+◌, ◌<◌, suc, length, get_or, reverse, ap, arith}
use Rattle.std.proofs.lemmas.Grind.{common_steps}
use Rattle.nested_itp.specs.NestedPredicates.Ties.Saved.{scoped_in, saved_at}
use Rattle.nested_itp.proofs.NestedPredicates.TripleLaws.{scoped_found, below_first, inside_made, call_made, back_made}
use Rattle.nested_itp.proofs.nested_predicates.triples.triple_at.Goals as goal

pub returns-in-Inside : goal.returns-in-Inside
returns-in-Inside c =
    let l = c.requires.next in
    inside_made c.args.letter.kind c.args.letter.id c.in_ok-from.from c.in_ok-to.to _ _ (saved_at c.args.preds.now (reverse c.args.calls.now)) c.in-Inside.is
    (c.in_ok-from.ensures ∙ c.index-preds-at.is ∙ scoped_found c.args.preds.now c.args.at _ (omega (arith, l)))
    (c.in_ok-to.ensures ∙ c.index-preds-at-2.is ∙ scoped_found c.args.preds.now (c.args.at + 1) _ (omega (arith, l)) ∙
    ap (scoped_in c.args.preds.now) (let n : c.args.at + 1 ≡ suc c.args.at = omega arith in n))

pub returns-in-Call : goal.returns-in-Call
returns-in-Call c =
    let l = c.requires.next in
    call_made c.args.letter.kind c.args.letter.id c.in_ok-from.from c.in_ok-to.to _ _ (saved_at c.args.preds.now (reverse c.args.calls.now)) c.in-Call.is
    (c.in_ok-from.ensures ∙ c.index-preds-at.is ∙ scoped_found c.args.preds.now c.args.at _ (omega (arith, l)))
    (c.in_ok-to.ensures ∙ c.index-preds-at-2.is ∙ scoped_found c.args.preds.now (c.args.at + 1) _ (omega (arith, l)) ∙
    ap (scoped_in c.args.preds.now) (let n : c.args.at + 1 ≡ suc c.args.at = omega arith in n))

pub returns-in_ok-copy-in-Back : goal.returns-in_ok-copy-in-Back
returns-in_ok-copy-in-Back c =
    let l = c.requires.next in
    let v = c.in-Some.ensures.value in
    let i = c.in-Some.ensures.item in
    let b = c.in-Some.call-is in
    let e : get_or (reverse c.args.calls.now) 0 0 ≡ c.in-Some.call.now = grind (arith, common_steps) in
    let w : c.in-Some.call.now < length c.args.preds.now = below_first (length c.args.preds.now) c.args.calls.now c.in-Some.call.now c.requires.calls e c.args.letter.kind c.requires.finds c.in-Back.is in
    back_made c.args.preds.now c.args.letter.kind c.args.letter.id c.in-Some.call.now c.in_ok-from.from c.in_ok-copy-in-Back.field-0 c.in_ok-to.to _ _ (reverse c.args.calls.now) c.in-Back.is
    c.requires.finds e
    (c.in_ok-from.ensures ∙ c.index-preds-at.is ∙ scoped_found c.args.preds.now c.args.at _ (omega (arith, l)))
    (c.in_ok-copy-in-Back.ensures ∙ c.index-preds-call.is ∙ scoped_found c.args.preds.now c.in-Some.call.now _ w)
    (c.in_ok-to.ensures ∙ c.index-preds-at-2.is ∙ scoped_found c.args.preds.now (c.args.at + 1) _ (omega (arith, l)) ∙
    ap (scoped_in c.args.preds.now) (let n : c.args.at + 1 ≡ suc c.args.at = omega arith in n))
