use Rattle.std.proofs.Common.{◌≡◌, ◌∙◌, ◌++◌, ℕ, ◌+◌, ◌<◌, List, length, get_or, map, ap, arith, rules}
use Rattle.std.proofs.lemmas.List.{get_or_read}
use Rattle.nested_itp.proofs.TripleSteps.ColumnLaws.{mapped_next, mapped_done}
use Rattle.nested_itp.proofs.triple_steps.columns.add_places.Goals as goal

pub loop-i-preserved : goal.loop-i-preserved
loop-i-preserved c =
    let n : c.len-i-end.result ≡ length c.in_ok-places.places.items = search rules in
    let l : c.loop-i.i < length c.in_ok-places.places.items = omega (arith, n, c.loop-i-test.true) in
    let e : c.index.result.now ≡ get_or c.in_ok-places.places.items c.loop-i.i 0 = get_or_read c.in_ok-places.places.items _ _ l c.index.ensures 0 in
    mapped_next (λ (x : ℕ). c.args.at + x) c.in_ok-places.places.items c.loop-i.i 0 c.args.made.now.items c.loop-i.made.items c.push.new.self.items c.in_ok-column_at.field-0 l c.loop-i.invariant
    c.in_ok-push.ensures.items (c.in_ok-column_at.ensures.value ∙ ap (λ (x : ℕ). c.args.at + x) e)

pub returns : goal.returns
returns c =
    let n : c.len-i-end.result ≡ length c.in_ok-places.places.items = search rules in
    mapped_done (λ (x : ℕ). c.args.at + x) c.in_ok-places.places.items c.loop-i.i c.args.made.now.items c.loop-i.made.items (omega (arith, n, c.loop-i-test.false)) c.loop-i.invariant ∙
    ap (λ (l : List ℕ). c.args.made.now.items ++ map (λ (x : ℕ). c.args.at + x) l) c.in_ok-places.ensures
