use Rattle.std.proofs.Common.{◌≡◌, List, ◌++◌, map, ◌∙◌, subst}
use Rattle.std.specs.Prelude.{IfOk}
use Rattle.lowered_graph.specs.LoweredSteps.Edges.{results_at}
use Rattle.icfg_lower.specs.CallJumps.Ties.Reading.{Stand}
use Rattle.icfg_lower.specs.CallJumps.Ties.Stands.{stand_of, result_stand}
use Rattle.icfg_lower.proofs.call_jumps.ensured.locals_at.Goals as goal

pub returns : goal.returns
returns c =
    let Q : List Stand → Type 0 = λ ss. IfOk c.with_results.result (λ made. map stand_of made.items ≡ ss) in
    subst Q
    (λ j. c.in_ok-args.ensures j ++ map result_stand (results_at c.args.layout.now.base ((c.as_slice-written.ensures.value ∙ c.requires) j) c.args.targets.now (c.results.ensures j)))
    c.with_results.ensures
