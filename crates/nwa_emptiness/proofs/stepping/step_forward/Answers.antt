use Rattle.std.proofs.lemmas.Result.{on_ok_weaker}
use Rattle.nwa_emptiness.specs.Ties.Seen.{seen}
use Rattle.nwa_emptiness.specs.Ties.Search.{Keeps}
use Rattle.nwa_emptiness.specs.Ties.Steps.{InsideDone, CallsDone}
use Rattle.nwa_emptiness.proofs.SearchLemmas.{keeps_on}
use Rattle.nwa_emptiness.proofs.WalkLemmas.{inside_later, inside_earlier, calls_later, calls_earlier}
use Rattle.nwa_emptiness.proofs.StepLemmas.{point_stays}
use Rattle.nwa_emptiness.proofs.stepping.step_forward.Goals as goal

pub step_inside-requires-clause-search : goal.step_inside-requires-clause-search
step_inside-requires-clause-search c = c.in_ok-step_calls.ensures.0.search

pub step_inside-requires-clause-point : goal.step_inside-requires-clause-point
step_inside-requires-clause-point c =
    point_stays (seen c.args.search.now) (seen c.step_calls.new.search) c.args.point c.in_ok-step_calls.ensures.0 c.requires.point

pub step_calls-requires-else-calls_first-clause-search : goal.step_calls-requires-else-calls_first-clause-search
step_calls-requires-else-calls_first-clause-search c = c.in_ok-step_inside.ensures.0.search

pub step_calls-requires-else-calls_first-clause-point : goal.step_calls-requires-else-calls_first-clause-point
step_calls-requires-else-calls_first-clause-point c =
    point_stays (seen c.args.search.now) (seen c.step_inside-else-calls_first.new.search) c.args.point c.in_ok-step_inside.ensures.0 c.requires.point

pub returns-in_ok-step_calls : goal.returns-in_ok-step_calls
returns-in_ok-step_calls c =
    let g = c.in_ok-step_calls.ensures in
    let a = seen c.args.search.now in
    let b = seen c.step_calls.new.search in
    let d = seen c.step_inside.new.search in
    on_ok_weaker c.step_inside.result
    (λ (h : Keeps b d × InsideDone b d c.args.point).
    (keeps_on a b d g.0 h.0, inside_earlier a b d c.args.point g.0 h.1, calls_later a b d c.args.point h.0 g.1))
    c.step_inside.ensures

pub returns-in_ok-step_inside : goal.returns-in_ok-step_inside
returns-in_ok-step_inside c =
    let g = c.in_ok-step_inside.ensures in
    let a = seen c.args.search.now in
    let b = seen c.step_inside-else-calls_first.new.search in
    let d = seen c.step_calls-else-calls_first.new.search in
    on_ok_weaker c.step_calls-else-calls_first.result
    (λ (h : Keeps b d × CallsDone b d c.args.point).
    (keeps_on a b d g.0 h.0, inside_later a b d c.args.point h.0 g.1, calls_earlier a b d c.args.point g.0 h.1))
    c.step_calls-else-calls_first.ensures
