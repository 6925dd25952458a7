use Rattle.std.proofs.Common.{◌∙◌, ◌<◌, pos, FitsSigned, length, get_or, inl, inr, rules, sym, arith}
use Rattle.std.specs.Int.{w128}
use Rattle.std.proofs.lemmas.Int.{to_z-of_z}
use Rattle.explained_proof.proofs.RowExpressions.CaseLaws.{rest_ends, rest_passes, rest_takes}
use Rattle.explained_proof.proofs.row_expressions.cases.+rest.Goals as goal
use Rattle.explained_proof.proofs.row_expressions.cases.+rest.Goals.{then-place-truths-via-then-place-truths, then-place-truths-via-else-place-truths+then-place-case}

pub returns-then-place-truths : goal.returns-then-place-truths
returns-then-place-truths t c =
    let f : FitsSigned w128 c.args.bound = search rules in
    simp to_z-of_z
    (elim c.then-place-truths.branch [
      | then-place-truths-via-then-place-truths w ↦ rest_ends c.args.bound c.args.truths.now c.args.case.now c.args.place (inl (omega arith))
      | then-place-truths-via-else-place-truths+then-place-case w ↦ rest_ends c.args.bound c.args.truths.now c.args.case.now c.args.place (inr (omega arith))
    ])

pub returns-then-not-case-place : goal.returns-then-not-case-place
returns-then-not-case-place t c =
    let f : FitsSigned w128 c.args.bound = search rules in
    let l : c.args.place < length c.args.truths.now = omega arith in
    let k : c.args.place < length c.args.case.now = omega arith in
    (simp to_z-of_z at c.rest.ensures) ∙ rest_passes c.args.bound c.args.truths.now c.args.case.now c.args.place l k c.if-not-case-place.true

pub returns : goal.returns
returns t c =
    let f : FitsSigned w128 c.args.bound = search rules in
    let g : FitsSigned w128 c.in_ok-left.left = search rules in
    let h : FitsSigned w128 (get_or c.args.truths.now c.args.place (0, pos 0)).1 = search rules in
    let l : c.args.place < length c.args.truths.now = omega arith in
    let k : c.args.place < length c.args.case.now = omega arith in
    (simp to_z-of_z at c.rest-2.ensures) ∙ rest_takes c.args.bound c.args.truths.now c.args.case.now c.args.place l k c.in_ok-left.left c.if-not-case-place.false (sym (simp to_z-of_z at c.in_ok-left.ensures))
