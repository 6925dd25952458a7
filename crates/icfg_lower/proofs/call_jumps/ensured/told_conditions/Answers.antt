use Rattle.std.proofs.Common.{◌≡◌, ℕ, false, List, ◌++◌, map, length, ◌∙◌, ap, subst}
use Rattle.std.specs.Prelude.{IfOk}
use Rattle.boogie_tree.specs.declared.tree.Ty.{Ty}
use Rattle.typed_tree.specs.TypedTree.{TypedExpression, TypedProcedure}
use Rattle.typed_tree.specs.TypedView.{expression, procedure}
use Rattle.letter_acts.specs.Frames.{Columns}
use Rattle.lowered_graph.specs.LoweredSteps.Edges.{whole_columns}
use Rattle.icfg_lower.specs.CallJumps.Ties.ImportView.{import_results}
use Rattle.icfg_lower.specs.CallJumps.Ties.Reading.{read_by}
use Rattle.icfg_lower.specs.CallJumps.Ties.Stands.{stand_of, argument_stand, ensures_stand, result_stand}
use Rattle.icfg_lower.proofs.CallJumps.ResultLemmas.{with_more}
use Rattle.icfg_lower.proofs.call_jumps.ensured.told_conditions.Goals as goal

pub returns : goal.returns
returns c =
    let F : Columns = c.args.frame.now.columns.items in
    let q : TypedProcedure = procedure c.args.callee.now in
    let args : List TypedExpression = map expression c.args.args.now in
    let targets : List ℕ = c.args.targets.now in
    let more : List (ℕ × Ty) = whole_columns c.args.first c.args.count in
    let l : map stand_of c.as_slice.result.now ≡ map (argument_stand F) args ++ map result_stand (import_results (length F) q targets ++ more) =
    ap (map stand_of) c.as_slice.ensures.value ∙ c.in_ok-locals-2.ensures
    ∙ (λ j. (c.in_ok-locals.ensures ∙ (λ i. map (argument_stand F) args ++ map result_stand (import_results (c.requires.base_is i) q targets))) j ++ map result_stand more)
    ∙ with_more (map (argument_stand F) args) (import_results (length F) q targets) more in
    let Q : List TypedExpression → Type 0 = λ es. IfOk c.all_read.result (λ made. map expression made.items ≡ es) in
    subst Q
    (λ j. map (read_by (λ col. ensures_stand F (λ n. c.left-left.ensures (length F) targets c.requires n j) (l j) col) false) (map expression c.args.conds.now))
    c.all_read.ensures
