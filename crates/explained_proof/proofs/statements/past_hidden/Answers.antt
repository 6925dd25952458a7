use Rattle.std.proofs.Common.{◌≡◌, ◌∙◌, ◌∷◌, [], map, rules, sym, arith}
use Rattle.std.proofs.lemmas.List.{nil_from_length}
use Rattle.typed_tree.specs.TypedView as typed
use Rattle.explained_proof.proofs.StatementLaws.{there_fits, assignment_fits, assignment_room, hidden_next, hidden_ends, hidden_past}
use Rattle.explained_proof.proofs.statements.past_hidden.Goals as goal

pub overflow_add-left : goal.overflow_add-left
overflow_add-left c =
    let P = map typed.procedure c.args.procs.now in
    let e : c.loop-first.left.rest.now ≡ c.in-Some.first.now ∷ c.in-Some.rest.now = search rules in
    let room = assignment_room P (typed.statement c.in-Some.first.now) (typed.statements c.in-Some.rest.now) c.loop-first.left.at (sym c.if-not-is_assignment.ensures)
    (there_fits P c.loop-first.left.rest.now c.in-Some.first.now c.in-Some.rest.now c.loop-first.left.at e c.loop-first.invariant.fits) in
    omega (arith, room)

pub loop-first-preserved : goal.loop-first-preserved
loop-first-preserved c =
    let P = map typed.procedure c.args.procs.now in
    let e : c.loop-first.left.rest.now ≡ c.in-Some.first.now ∷ c.in-Some.rest.now = search rules in
    let h = sym c.if-not-is_assignment.ensures in
    record {
      value = hidden_next c.loop-first.left.rest.now c.in-Some.first.now c.in-Some.rest.now c.loop-first.left.at e h ∙ c.loop-first.invariant.value;
      fits = assignment_fits P (typed.statement c.in-Some.first.now) (typed.statements c.in-Some.rest.now) c.loop-first.left.at h
          (there_fits P c.loop-first.left.rest.now c.in-Some.first.now c.in-Some.rest.now c.loop-first.left.at e c.loop-first.invariant.fits);
    }

pub returns-then-not-is_assignment-clause-value : goal.returns-then-not-is_assignment-clause-value
returns-then-not-is_assignment-clause-value c =
    let e : c.loop-first.left.rest.now ≡ c.in-Some.first.now ∷ c.in-Some.rest.now = search rules in
    hidden_ends c.loop-first.left.rest.now c.in-Some.first.now c.in-Some.rest.now c.loop-first.left.at e (sym c.if-not-is_assignment.ensures) ∙ c.loop-first.invariant.value

pub returns-clause-value : goal.returns-clause-value
returns-clause-value c =
    let e : c.loop-first.left.rest.now ≡ [] = nil_from_length _ (search rules) in
    hidden_past c.loop-first.left.rest.now c.loop-first.left.at e ∙ c.loop-first.invariant.value
