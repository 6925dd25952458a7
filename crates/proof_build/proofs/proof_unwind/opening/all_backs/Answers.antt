use Rattle.nwa_base.specs.Edges.{backs_leaving}
use Rattle.proof_build.specs.ProofUnwind.Exploring.{Stage, GoesOn, IsReturned, AreReturned}
use Rattle.proof_build.specs.ProofUnwind.Ties.Searches.{stage_of, exits_of}
use Rattle.proof_build.proofs.ProofUnwind.StageLaws.{exit_stays}
use Rattle.proof_build.proofs.ProofUnwind.OpenedLaws.{on_ok, none_found, none_returned, returned_on}
use Rattle.proof_build.proofs.proof_unwind.opening.all_backs.Goals as goal

pub returns-then-is_empty : goal.returns-then-is_empty
returns-then-is_empty c =
    let m = c.args.graph.now in
    let b = c.args.union.now in
    let s : Stage = stage_of c.args.search.now in
    let t : Stage = stage_of c.join_before.new.search in
    on_ok c.join_before.result (GoesOn m b s t × AreReturned m (exits_of c.args.exits.now) s t c.args.number)
    (GoesOn m b s t × IsReturned m s t c.args.number × AreReturned m (exits_of c.args.exits.now) s t c.args.number)
    (λ g. (
      g.0,
      none_returned m b s t c.args.number c.place.result g.0 c.requires.there c.place.ensures
          (none_found c.backs_leaving.result.now (backs_leaving c.place.result m.backs) c.is_empty.result c.backs_leaving.ensures c.is_empty.ensures c.if-is_empty.true),
      g.1,
    )) c.join_before.ensures

pub join_before-requires-2-clause-exits : goal.join_before-requires-2-clause-exits
join_before-requires-2-clause-exits c =
    λ k x i. exit_stays (stage_of c.args.search.now) (stage_of c.join_exit.new.search) k x c.in_ok-join_exit.ensures.0.grows (c.requires.exits k x i)

pub returns : goal.returns
returns c =
    let m = c.args.graph.now in
    let b = c.args.union.now in
    let s : Stage = stage_of c.args.search.now in
    let t : Stage = stage_of c.join_exit.new.search in
    let u : Stage = stage_of c.join_before-2.new.search in
    on_ok c.join_before-2.result (GoesOn m b t u × AreReturned m (exits_of c.args.exits.now) t u c.args.number)
    (GoesOn m b s u × IsReturned m s u c.args.number × AreReturned m (exits_of c.args.exits.now) s u c.args.number)
    (λ g. returned_on m b (exits_of c.args.exits.now) c.args.number s t u c.requires.graph c.requires.exploring c.requires.there c.in_ok-join_exit.ensures g) c.join_before-2.ensures

pub join_before-requires-clause-graph : goal.join_before-requires-clause-graph
join_before-requires-clause-graph c = c.requires.graph

pub join_before-requires-clause-exploring : goal.join_before-requires-clause-exploring
join_before-requires-clause-exploring c = c.requires.exploring

pub join_before-requires-clause-exits : goal.join_before-requires-clause-exits
join_before-requires-clause-exits c = c.requires.exits

pub join_exit-requires-clause-graph : goal.join_exit-requires-clause-graph
join_exit-requires-clause-graph c = c.requires.graph

pub join_exit-requires-clause-exploring : goal.join_exit-requires-clause-exploring
join_exit-requires-clause-exploring c = c.requires.exploring

pub join_exit-requires-clause-there : goal.join_exit-requires-clause-there
join_exit-requires-clause-there c = c.requires.there

pub join_exit-requires-clause-opens : goal.join_exit-requires-clause-opens
join_exit-requires-clause-opens c = c.requires.opens

pub join_before-requires-2-clause-graph : goal.join_before-requires-2-clause-graph
join_before-requires-2-clause-graph c = c.requires.graph

pub join_before-requires-2-clause-exploring : goal.join_before-requires-2-clause-exploring
join_before-requires-2-clause-exploring c = c.in_ok-join_exit.ensures.0.exploring
