use Rattle.std.proofs.Common.{true, false, refl}
use Rattle.itp_automaton.proofs.BuiltLaws.{built_named, edges_of}
use Rattle.itp_automaton.proofs.assembling.nwa_of.Goals as goal

pub returns-then-branch-clause-found : goal.returns-then-branch-clause-found
returns-then-branch-clause-found c =
    let built = edges_of c.args.icfg.now c.args.states.now c.args.states.now c.args.proofs.now c.args.proofs.now c.add_edges.new.nwa c.in_ok-add_edges.field-0 true c.if-branch.true refl refl
    c.in_ok-add_edges.ensures in
    (λ e. built_named c.args.icfg.now c.args.states.now c.args.proofs.now c.add_edges.new.nwa built, λ e. refl)

pub returns-then-branch-clause-built : goal.returns-then-branch-clause-built
returns-then-branch-clause-built c =
    edges_of c.args.icfg.now c.args.states.now c.args.states.now c.args.proofs.now c.args.proofs.now c.add_edges.new.nwa c.in_ok-add_edges.field-0 true c.if-branch.true refl refl
    c.in_ok-add_edges.ensures

pub returns-else-branch-clause-found : goal.returns-else-branch-clause-found
returns-else-branch-clause-found c =
    let none = edges_of c.args.icfg.now c.args.states.now c.args.states.now c.args.proofs.now c.args.proofs.now c.add_edges.new.nwa c.in_ok-add_edges.field-0 false c.if-branch.false refl refl
    c.in_ok-add_edges.ensures in
    (λ e. cc, λ all. absurd (none all))
