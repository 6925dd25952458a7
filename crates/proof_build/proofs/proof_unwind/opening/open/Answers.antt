use Rattle.std.proofs.Common.{◌+◌, ◌∙◌, sym, arith}
use Rattle.std.proofs.lemmas.Bool.{false≢true}
use Rattle.proof_build.specs.ProofUnwind.Exploring.{Stage, Explores, AreExits, AreOpened}
use Rattle.proof_build.specs.ProofUnwind.Ties.Searches.{stage_of, exits_of}
use Rattle.proof_build.proofs.ProofUnwind.StageLaws.{there_stays, open_stays, exit_stays, Grown}
use Rattle.proof_build.proofs.ProofUnwind.OpeningLaws.{grows_on}
use Rattle.proof_build.proofs.ProofUnwind.OpenedLaws.{on_ok, closed_opened, opened_on, exits_stay, exits_same}
use Rattle.proof_build.proofs.proof_unwind.opening.open.Goals as goal

pub returns-then-not-is_open-clause-opened : goal.returns-then-not-is_open-clause-opened
returns-then-not-is_open-clause-opened c =
    closed_opened c.args.graph.now c.args.union.now (stage_of c.args.search.now) c.args.number c.requires.exploring c.requires.there
    (λ o. false≢true (sym c.if-not-is_open.true ∙ c.is_open.ensures.1 o)) c.requires.opened

pub all_backs-requires-clause-opens : goal.all_backs-requires-clause-opens
all_backs-requires-clause-opens c =
    open_stays (stage_of c.args.search.now) (stage_of c.forward_steps.new.search) c.args.number c.in_ok-forward_steps.ensures.0.grows c.requires.there (c.is_open.ensures.0 c.if-not-is_open.false)

pub all_backs-requires-clause-exits : goal.all_backs-requires-clause-exits
all_backs-requires-clause-exits c =
    λ k x i. exit_stays (stage_of c.args.search.now) (stage_of c.forward_steps.new.search) k x c.in_ok-forward_steps.ensures.0.grows (c.requires.exits.sound k x i)

pub note_exit-requires-clause-opens : goal.note_exit-requires-clause-opens
note_exit-requires-clause-opens c =
    let s : Stage = stage_of c.args.search.now in
    let t : Stage = stage_of c.forward_steps.new.search in
    let u : Stage = stage_of c.all_backs.new.search in
    let g : Grown s u = grows_on s.nodes s.steps t.nodes t.steps u.nodes u.steps c.in_ok-forward_steps.ensures.0.grows c.in_ok-all_backs.ensures.0.grows in
    open_stays s u c.args.number g c.requires.there (c.is_open.ensures.0 c.if-not-is_open.false)

pub note_exit-requires-clause-exits : goal.note_exit-requires-clause-exits
note_exit-requires-clause-exits c =
    let s : Stage = stage_of c.args.search.now in
    let t : Stage = stage_of c.forward_steps.new.search in
    let u : Stage = stage_of c.all_backs.new.search in
    let g : Grown s u = grows_on s.nodes s.steps t.nodes t.steps u.nodes u.steps c.in_ok-forward_steps.ensures.0.grows c.in_ok-all_backs.ensures.0.grows in
    exits_stay c.args.graph.now s u c.args.number (exits_of c.args.exits.now) g (omega (arith, c.requires.there)) c.requires.exits

pub returns-clause-opened : goal.returns-clause-opened
returns-clause-opened c =
    let s : Stage = stage_of c.args.search.now in
    let t : Stage = stage_of c.forward_steps.new.search in
    let u : Stage = stage_of c.all_backs.new.search in
    on_ok c.note_exit.result (AreExits c.args.graph.now u.nodes (c.args.number + 1) (exits_of c.note_exit.new.exits)) (AreOpened c.args.graph.now u.nodes u.steps (c.args.number + 1))
    (λ x. opened_on c.args.graph.now c.args.union.now (exits_of c.args.exits.now) c.args.number s t u c.requires.exploring c.requires.there c.requires.exits c.requires.opened
    c.in_ok-forward_steps.ensures c.in_ok-all_backs.ensures) c.note_exit.ensures

pub returns-then-not-is_open-clause-exploring : goal.returns-then-not-is_open-clause-exploring
returns-then-not-is_open-clause-exploring c = c.requires.exploring

pub returns-then-not-is_open-clause-exits : goal.returns-then-not-is_open-clause-exits
returns-then-not-is_open-clause-exits c =
    exits_same c.args.graph.now (stage_of c.args.search.now).nodes c.args.number (exits_of c.args.exits.now)
    (λ o k a e i. false≢true (sym c.if-not-is_open.true ∙ c.is_open.ensures.1 o)) c.requires.exits

pub forward_steps-requires-clause-graph : goal.forward_steps-requires-clause-graph
forward_steps-requires-clause-graph c = c.requires.graph

pub forward_steps-requires-clause-exploring : goal.forward_steps-requires-clause-exploring
forward_steps-requires-clause-exploring c = c.requires.exploring

pub forward_steps-requires-clause-there : goal.forward_steps-requires-clause-there
forward_steps-requires-clause-there c = c.requires.there

pub forward_steps-requires-clause-opens : goal.forward_steps-requires-clause-opens
forward_steps-requires-clause-opens c = c.is_open.ensures.0 c.if-not-is_open.false

pub all_backs-requires-clause-graph : goal.all_backs-requires-clause-graph
all_backs-requires-clause-graph c = c.requires.graph

pub all_backs-requires-clause-exploring : goal.all_backs-requires-clause-exploring
all_backs-requires-clause-exploring c = c.in_ok-forward_steps.ensures.0.exploring

pub all_backs-requires-clause-there : goal.all_backs-requires-clause-there
all_backs-requires-clause-there c =
    there_stays (stage_of c.args.search.now) (stage_of c.forward_steps.new.search) c.args.number c.in_ok-forward_steps.ensures.0.grows c.requires.there

pub note_exit-requires-clause-there : goal.note_exit-requires-clause-there
note_exit-requires-clause-there c =
    let s : Stage = stage_of c.args.search.now in
    let t : Stage = stage_of c.forward_steps.new.search in
    let u : Stage = stage_of c.all_backs.new.search in
    there_stays s u c.args.number (grows_on s.nodes s.steps t.nodes t.steps u.nodes u.steps c.in_ok-forward_steps.ensures.0.grows c.in_ok-all_backs.ensures.0.grows) c.requires.there

pub returns-clause-exploring : goal.returns-clause-exploring
returns-clause-exploring c =
    let u : Stage = stage_of c.all_backs.new.search in
    on_ok c.note_exit.result (AreExits c.args.graph.now u.nodes (c.args.number + 1) (exits_of c.note_exit.new.exits)) (Explores c.args.graph.now c.args.union.now u)
    (λ x. c.in_ok-all_backs.ensures.0.exploring) c.note_exit.ensures

pub returns-clause-exits : goal.returns-clause-exits
returns-clause-exits c = c.note_exit.ensures
