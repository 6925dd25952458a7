use Rattle.std.proofs.Common.{◌≡◌, ℕ, ◌<◌, ◌≤◌, min, ◌++◌, map, length, get_or, ◌∙◌, arith}
use Rattle.boogie_tree.specs.declared.tree.VarInfo.{VarInfo}
use Rattle.icfg_lower.specs.CallJumps.Ties.Stands.{stand_of, result_stand}
use Rattle.icfg_lower.proofs.CallJumps.PlaceLemmas.{results_taken, get_or-inside, one_ends}
use Rattle.icfg_lower.proofs.CallJumps.ResultLemmas.{results_step}
use Rattle.icfg_lower.proofs.call_jumps.ensured.with_results.Goals as goal

pub loop-place-preserved : goal.loop-place-preserved
loop-place-preserved c =
    let n : ℕ = c.loop-place.place in
    let t : ℕ = get_or c.args.targets.now n 0 in
    let v : VarInfo = c.index-results-place.result in
    let m : c.min-place-end.result ≡ min (length c.args.targets.now) (length c.args.results.now) = c.min-place-end.ensures in
    let k : n < c.min-place-end.result = c.loop-place-test.true in
    let e : t ≡ get_or c.args.targets.now n t = get_or-inside c.args.targets.now n 0 t (omega arith) in
    results_step c.args.base c.args.written.now c.args.targets.now c.args.results.now n t v c.loop-place.locals.items c.push.new.self.items c.args.args.items c.in_ok-result_standing.field-0
    (omega arith) (omega arith) e c.index-results-place.is c.in_ok-push.ensures.items c.in_ok-result_standing.ensures c.loop-place.invariant

pub returns : goal.returns
returns c =
    let m : c.min-place-end.result ≡ min (length c.args.targets.now) (length c.args.results.now) = c.min-place-end.ensures in
    let k : c.min-place-end.result ≤ c.loop-place.place = c.loop-place-test.false in
    c.loop-place.invariant
    ∙ (λ j. map stand_of c.args.args.items ++ map result_stand (results_taken c.args.base c.args.written.now c.args.targets.now c.args.results.now c.loop-place.place
    (one_ends (length c.args.targets.now) (length c.args.results.now) c.loop-place.place (omega arith)) j))
