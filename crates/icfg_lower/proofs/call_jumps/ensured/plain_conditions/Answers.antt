use Rattle.std.proofs.Common.{◌≡◌, ℕ, false, List, [], ◌++◌, map, length, sym, ◌∙◌, ap, append-nil, subst}
use Rattle.std.specs.Prelude.{IfOk}
use Rattle.typed_tree.specs.TypedTree.{TypedExpression, TypedProcedure}
use Rattle.typed_tree.specs.TypedView.{expression, procedure, specification}
use Rattle.letter_acts.specs.Frames.{Columns}
use Rattle.icfg_lower.specs.CallJumps.CallLists.{ensured}
use Rattle.icfg_lower.specs.CallJumps.Ties.ImportView.{import_results}
use Rattle.icfg_lower.specs.CallJumps.Ties.Reading.{read_by}
use Rattle.icfg_lower.specs.CallJumps.Ties.Stands.{stand_of, argument_stand, ensures_stand, result_stand}
use Rattle.icfg_lower.proofs.call_jumps.ensured.plain_conditions.Goals as goal

pub returns : goal.returns
returns c =
    let F : Columns = c.args.frame.now.columns.items in
    let q : TypedProcedure = procedure c.args.callee.now in
    let args : List TypedExpression = map expression c.args.args.now in
    let targets : List ℕ = c.args.targets.now in
    let l : map stand_of c.as_slice.result.now ≡ map (argument_stand F) args ++ map result_stand (import_results (length F) q targets ++ []) =
    ap (map stand_of) c.as_slice.ensures.value ∙ c.in_ok-locals.ensures ∙ (λ j. map (argument_stand F) args ++ map result_stand (import_results (c.requires.base_is j) q targets))
    ∙ (λ j. map (argument_stand F) args ++ map result_stand (sym (append-nil (import_results (length F) q targets)) j)) in
    let s : c.as_slice-2.result.now ≡ c.args.callee.now.specs.items = c.as_slice-2.ensures.value in
    let Q : List TypedExpression → Type 0 = λ es. IfOk c.ensures_read.result (λ made. map expression made.items ≡ es) in
    subst Q
    (λ j. map (read_by (λ col. ensures_stand F (λ n. c.left-left.ensures (length F) targets c.requires n j) (l j) col) false) (ensured (map specification (s j))))
    c.ensures_read.ensures
