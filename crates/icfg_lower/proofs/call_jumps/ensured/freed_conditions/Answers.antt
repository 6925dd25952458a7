use Rattle.std.proofs.Common.{◌≡◌, ◌+◌, ℕ, Bool, List, map, length, take, drop, ◌∙◌, ap, subst, arith}
use Rattle.std.specs.Prelude.{IfOk}
use Rattle.boogie_tree.specs.declared.tree.VarInfo.{VarInfo}
use Rattle.boogie_tree.specs.declared.tree.Column.{Column}
use Rattle.typed_tree.specs.TypedTree.{TypedExpression, TypedProcedure}
use Rattle.typed_tree.specs.TypedView.{expression, procedure}
use Rattle.typed_tree.specs.Scope.{is_constant_column}
use Rattle.letter_acts.specs.Frames.{Columns}
use Rattle.cond_jumps.specs.FreeProducts.FreeProducts.{all_freed}
use Rattle.lowered_graph.specs.LoweredSteps.Edges.{whole_columns}
use Rattle.icfg_lower.specs.CallJumps.Ties.ImportView.{import_conditions}
use Rattle.icfg_lower.proofs.call_jumps.ensured.freed_conditions.Goals as goal

pub returns : goal.returns
returns c =
    let F : Columns = c.args.frame.now.columns.items in
    let G : List VarInfo = c.args.globals.now in
    let g : Column → Bool = is_constant_column G in
    let q : TypedProcedure = procedure c.args.callee.now in
    let E : List TypedExpression = map expression c.args.told.now in
    let n : ℕ = length (take q.results (drop q.params q.locals)) in
    let p : map expression c.as_slice-passed.result.now ≡ all_freed g c.args.locals (map expression c.args.args.now) = ap (map expression) c.as_slice-passed.ensures.value ∙ c.in_ok-passed.ensures.exprs in
    let a : c.in_ok-column_behind.field-0 ≡ length c.args.args.now = (let e = c.in_ok-column_behind.ensures in omega (arith, e)) in
    let b : c.in_ok-behind.behind ≡ length c.args.args.now + n = c.in_ok-behind.ensures ∙ (λ j. a j + length (c.results-results.ensures j)) in
    let d : map expression c.as_slice-made.result.now ≡ all_freed g (length c.args.args.now + n) E =
    ap (map expression) c.as_slice-made.ensures.value ∙ c.in_ok-made.ensures.exprs ∙ (λ j. all_freed g (b j) E) in
    let Q : List TypedExpression → Type 0 = λ es. IfOk c.told_conditions.result (λ made. map expression made.items ≡ es) in
    subst Q (λ j. import_conditions F (length F) G q (p j) c.args.targets.now (whole_columns c.args.first c.args.count) (d j)) c.told_conditions.ensures
