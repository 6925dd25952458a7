use Rattle.std.proofs.Common.{◌≡◌, ℕ, Option, Some, slice_get, subst}
use Rattle.std.proofs.lemmas.Result.{on_ok_weaker}
use Rattle.nwa_emptiness.specs.Ties.Seen.{seen}
use Rattle.nwa_emptiness.specs.Ties.Search.{Keeps}
use Rattle.nwa_emptiness.specs.Ties.Steps.{ReturnsDone}
use Rattle.nwa_emptiness.proofs.WalkLemmas.{expanded_none, expanded_some}
use Rattle.nwa_emptiness.proofs.StepLemmas.{inside_stays}
use Rattle.nwa_emptiness.proofs.stepping.expand.Goals as goal

pub step_returns-requires-clause-exit : goal.step_returns-requires-clause-exit
step_returns-requires-clause-exit c =
    let a = seen c.args.search.now in
    let x = c.args.point in
    inside_stays a (seen c.step_forward.new.search) x.place c.in-Some.entry c.in_ok-step_forward.ensures.0
    (record {
      state = x.state;
      pair = subst (λ (k : Option ℕ). slice_get a.pairs x.place ≡ Some (k, x.state)) c.in-Some.is c.requires.point.pair;
    })

pub returns-in-Some : goal.returns-in-Some
returns-in-Some c =
    let g = c.in_ok-step_forward.ensures in
    let b = seen c.step_forward.new.search in
    let d = seen c.step_returns.new.search in
    on_ok_weaker c.step_returns.result
    (λ (h : Keeps b d × ReturnsDone b d c.args.point.place c.in-Some.entry).
    expanded_some (seen c.args.search.now) b d c.args.point c.in-Some.entry c.in-Some.is g.0 g.1 g.2 h.0 h.1)
    c.step_returns.ensures

pub returns-in-None : goal.returns-in-None
returns-in-None c =
    let g = c.in_ok-step_forward.ensures in
    expanded_none (seen c.args.search.now) (seen c.step_forward.new.search) c.args.point c.in-None.is g.0 g.1 g.2
