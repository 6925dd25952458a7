use Rattle.std.proofs.Common.{◌≡◌, ℕ, ◌<◌, List, length, ap, subst, arith}
use Rattle.std.specs.Prelude.{Some, slice_get}
use Rattle.triple_rows.specs.declared.triples.Scoped.{Scoped}
use Rattle.itp_automaton.specs.Ties.Edges.{IsMarkedBelow}
use Rattle.itp_automaton.proofs.StateLaws.{got_at}
use Rattle.itp_automaton.proofs.BuiltLaws.{marked_none, marked_more, marked_built}
use Rattle.itp_automaton.proofs.assembling.begun.Goals as goal

pub loop-q-init : goal.loop-q-init
loop-q-init c =
    let long : length c.as_slice-list.result.now ≡ length c.args.states.now = ap length c.as_slice-list.ensures in
    let many : c.in-Ok.count ≡ length c.args.states.now = omega (arith, long) in
    marked_none c.in-Ok.count c.in_ok-start.start c.args.states.now c.empty.result c.in_ok-nwa.nwa many c.in_ok-nwa.ensures c.empty.ensures.value

pub loop-q-preserved : goal.loop-q-preserved
loop-q-preserved c =
    let lt : c.loop-q.q < length c.as_slice-list.result.now = omega arith in
    let stands = subst (λ (l : List Scoped). slice_get l c.loop-q.q ≡ Some c.index-list-q.result) c.as_slice-list.ensures
    (got_at c.as_slice-list.result.now c.loop-q.q c.index-list-q.result lt c.index-list-q.is) in
    marked_more c.loop-q.q c.in_ok-start.start c.args.states.now c.index-list-q.result c.loop-q.nwa c.mark.new.nwa c.loop-q.invariant stands c.in_ok-mark.ensures

pub returns-clause-built : goal.returns-clause-built
returns-clause-built c =
    let long : length c.as_slice-list.result.now ≡ length c.args.states.now = ap length c.as_slice-list.ensures in
    let e : c.loop-q.q ≡ length c.args.states.now = omega (arith, long) in
    marked_built c.args.icfg.now c.in_ok-start.start c.args.states.now c.loop-q.nwa (subst (λ (n : ℕ). IsMarkedBelow n c.in_ok-start.start c.args.states.now c.loop-q.nwa) e c.loop-q.invariant)
    c.in_ok-start.ensures.start
