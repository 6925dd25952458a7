use Rattle.std.proofs.Common.{◌≡◌, ◌∙◌, ◌∷◌, map, rules, arith}
use Rattle.typed_tree.specs.TypedView as typed
use Rattle.explained_proof.specs.Ties.Fitting.{StatementFits}
use Rattle.explained_proof.proofs.StatementLaws.{there_fits, first_fits, behind_fits, past_there}
use Rattle.explained_proof.proofs.statements.past.Goals as goal
use Rattle.explained_proof.proofs.statements.past.Goals.{In-Some}

-- the places of the first statement
first_here : (c : In-Some) → StatementFits (map typed.procedure c.args.procs.now) (typed.statement c.in-Some.first.now) c.args.left.at
first_here c =
    let e : c.args.left.rest.now ≡ c.in-Some.first.now ∷ c.in-Some.rest.now = search rules in
    first_fits (map typed.procedure c.args.procs.now) (typed.statement c.in-Some.first.now) (typed.statements c.in-Some.rest.now) c.args.left.at
    (there_fits (map typed.procedure c.args.procs.now) c.args.left.rest.now c.in-Some.first.now c.in-Some.rest.now c.args.left.at e c.requires)

pub points-requires : goal.points-requires
points-requires c = (first_here (goal.at.points-requires c).In-Some).count

pub overflow_add-result : goal.overflow_add-result
overflow_add-result c =
    let h = (first_here (goal.at.overflow_add-result c).In-Some).numbers in
    omega (arith, h, c.points.ensures, c.from.ensures)

pub returns-in-Some-clause-value : goal.returns-in-Some-clause-value
returns-in-Some-clause-value c =
    let e : c.args.left.rest.now ≡ c.in-Some.first.now ∷ c.in-Some.rest.now = search rules in
    past_there (map typed.procedure c.args.procs.now) c.args.left.rest.now c.in-Some.first.now c.in-Some.rest.now c.args.left.at c.from.result e (c.from.ensures ∙ c.points.ensures)

pub returns-in-Some-clause-fits : goal.returns-in-Some-clause-fits
returns-in-Some-clause-fits c =
    let e : c.args.left.rest.now ≡ c.in-Some.first.now ∷ c.in-Some.rest.now = search rules in
    let P = map typed.procedure c.args.procs.now in
    behind_fits P (typed.statement c.in-Some.first.now) (typed.statements c.in-Some.rest.now) c.args.left.at c.from.result (c.from.ensures ∙ c.points.ensures)
    (there_fits P c.args.left.rest.now c.in-Some.first.now c.in-Some.rest.now c.args.left.at e c.requires)
