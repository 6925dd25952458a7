use Rattle.std.proofs.Common.{◌≡◌, ◌+◌, ℕ, List, map, length, ◌∙◌, ap, subst}
use Rattle.typed_tree.specs.TypedTree.{TypedExpression, TypedProcedure}
use Rattle.typed_tree.specs.TypedView.{expression, procedure}
use Rattle.typed_tree.specs.Scope.{is_constant_column}
use Rattle.letter_acts.specs.Frames.{Columns}
use Rattle.cond_jumps.specs.Conjs.{conjunctions}
use Rattle.cond_jumps.specs.FreeProducts.LetterView.{all_marked}
use Rattle.lowered_graph.specs.LoweredSteps.Edges.{those_in, import_written}
use Rattle.icfg_lower.specs.CallJumps.Ties.ImportView.{IsLayout}
use Rattle.icfg_lower.proofs.CallJumps.LetterLemmas.{letters_counted}
use Rattle.icfg_lower.proofs.call_jumps.imports.told_imported.Goals as goal

pub told_paths-requires-clause-layout : goal.told_paths-requires-clause-layout
told_paths-requires-clause-layout c =
    let low : c.in-Ok.low ≡ length c.args.frame.now.columns.items = c.in-Ok.ensures.1 ∙ c.len.ensures ∙ c.args.frame.now.columns.ok.0 in
    let b : c.in_ok-base.base ≡ length c.args.frame.now.columns.items + c.in_ok-count.count = c.in_ok-base.ensures ∙ (λ j. low j + c.in_ok-count.count) in
    subst (λ (n : ℕ). IsLayout n (procedure c.args.callee.now) c.args.targets.now c.in_ok-layout.layout) b c.in_ok-layout.ensures

pub told_paths-requires-clause-products : goal.told_paths-requires-clause-products
told_paths-requires-clause-products c =
    let low : c.in-Ok.low ≡ length c.args.frame.now.columns.items = c.in-Ok.ensures.1 ∙ c.len.ensures ∙ c.args.frame.now.columns.ok.0 in
    c.in_ok-products.ensures ∙ (λ j. low j + c.in_ok-first.ensures j)

pub told_paths-requires-clause-count : goal.told_paths-requires-clause-count
told_paths-requires-clause-count c = c.in_ok-count.ensures ∙ (λ j. c.in_ok-first.ensures j + c.in_ok-second.second)

pub returns-clause-list : goal.returns-clause-list
returns-clause-list c =
    let F : Columns = c.args.frame.now.columns.items in
    let q : TypedProcedure = procedure c.args.callee.now in
    let A : List TypedExpression = map expression c.args.args.now in
    let E : List TypedExpression = map expression c.args.told.now in
    let ts : List ℕ = c.args.targets.now in
    let own : c.len-own.result ≡ length (those_in ts q.modifies) = c.len-own.ensures ∙ c.in_ok-layout.layout.targeted.ok.0 ∙ ap length c.in_ok-layout.ensures.targeted in
    let written : c.len-2.result ≡ length (import_written q.modifies ts) = c.len-2.ensures ∙ c.in_ok-layout.layout.written.ok.0 ∙ ap length c.in_ok-layout.ensures.written in
    letters_counted F (is_constant_column c.args.globals.now) c.args.locals q A E c.in_ok-first.first c.in_ok-second.second c.in_ok-count.count (c.len-2.result + c.len-own.result) c.len-own.result c.args.globals.now ts
    (conjunctions c.as_slice.result.now) (all_marked c.in-Ok-letters.conjs.items) c.requires.constants c.in_ok-first.ensures c.in_ok-second.ensures c.in_ok-count.ensures own (λ j. written j + c.len-own.result)
    (ap conjunctions c.as_slice.ensures.value ∙ c.in-Ok-told_paths.ensures.list) c.in-Ok-letters.ensures
