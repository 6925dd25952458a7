use Rattle.std.proofs.lemmas.Result.{on_ok_weaker}
use Rattle.nwa_emptiness.specs.Ties.Seen.{seen}
use Rattle.nwa_emptiness.specs.Ties.Search.{Keeps}
use Rattle.nwa_emptiness.specs.Ties.Steps.{ExitsJoined}
use Rattle.nwa_emptiness.proofs.SearchLemmas.{keeps_on, member_kept}
use Rattle.nwa_emptiness.proofs.WalkLemmas.{exits_earlier}
use Rattle.nwa_emptiness.proofs.StepLemmas.{call_way, called_stays}
use Rattle.nwa_emptiness.proofs.stepping.step_call.Goals as goal

pub add-requires-clause-way : goal.add-requires-clause-way
add-requires-clause-way c = call_way (seen c.args.search.now) c.args.outer c.args.call c.args.entry c.requires.caller

pub join_exits-requires-clause-search : goal.join_exits-requires-clause-search
join_exits-requires-clause-search c = c.in_ok-add.ensures.0.search

pub join_exits-requires-clause-caller : goal.join_exits-requires-clause-caller
join_exits-requires-clause-caller c =
    called_stays (seen c.args.search.now) (seen c.add.new.self) c.args.outer c.args.call c.args.entry c.in_ok-add.ensures.0 c.requires.caller

pub returns : goal.returns
returns c =
    let g = c.in_ok-add.ensures in
    let a = seen c.args.search.now in
    let b = seen c.add.new.self in
    let d = seen c.join_exits.new.search in
    on_ok_weaker c.join_exits.result
    (λ (h : Keeps b d × ExitsJoined b d c.args.outer c.args.entry).
    (keeps_on a b d g.0 h.0, member_kept b d _ h.0 g.1, exits_earlier a b d _ _ g.0 h.1))
    c.join_exits.ensures
