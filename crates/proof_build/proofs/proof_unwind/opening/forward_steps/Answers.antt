use Rattle.proof_build.specs.ProofUnwind.Exploring.{Stage, GoesOnFrom, HasInsides, HasCalls}
use Rattle.proof_build.specs.ProofUnwind.Ties.Searches.{stage_of}
use Rattle.proof_build.proofs.ProofUnwind.StageLaws.{there_stays, open_stays}
use Rattle.proof_build.proofs.ProofUnwind.OpenedLaws.{on_ok, forward}
use Rattle.proof_build.proofs.proof_unwind.opening.forward_steps.Goals as goal

pub call_steps-requires-clause-opens : goal.call_steps-requires-clause-opens
call_steps-requires-clause-opens c =
    open_stays (stage_of c.args.search.now) (stage_of c.inside_steps.new.search) c.args.from c.in_ok-inside_steps.ensures.0.grows c.requires.there c.requires.opens

pub returns : goal.returns
returns c =
    let m = c.args.graph.now in
    let b = c.args.union.now in
    let s : Stage = stage_of c.args.search.now in
    let t : Stage = stage_of c.inside_steps.new.search in
    let u : Stage = stage_of c.call_steps.new.search in
    on_ok c.call_steps.result (GoesOnFrom m b c.args.from t u × HasCalls m u c.args.from)
    (GoesOnFrom m b c.args.from s u × HasInsides m u c.args.from × HasCalls m u c.args.from) (λ g. forward m b c.args.from s t u c.requires.there c.in_ok-inside_steps.ensures g)
    c.call_steps.ensures

pub inside_steps-requires-clause-graph : goal.inside_steps-requires-clause-graph
inside_steps-requires-clause-graph c = c.requires.graph

pub inside_steps-requires-clause-exploring : goal.inside_steps-requires-clause-exploring
inside_steps-requires-clause-exploring c = c.requires.exploring

pub inside_steps-requires-clause-there : goal.inside_steps-requires-clause-there
inside_steps-requires-clause-there c = c.requires.there

pub inside_steps-requires-clause-opens : goal.inside_steps-requires-clause-opens
inside_steps-requires-clause-opens c = c.requires.opens

pub call_steps-requires-clause-graph : goal.call_steps-requires-clause-graph
call_steps-requires-clause-graph c = c.requires.graph

pub call_steps-requires-clause-exploring : goal.call_steps-requires-clause-exploring
call_steps-requires-clause-exploring c = c.in_ok-inside_steps.ensures.0.exploring

pub call_steps-requires-clause-there : goal.call_steps-requires-clause-there
call_steps-requires-clause-there c = there_stays (stage_of c.args.search.now) (stage_of c.inside_steps.new.search) c.args.from c.in_ok-inside_steps.ensures.0.grows c.requires.there
