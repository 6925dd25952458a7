use Rattle.std.proofs.Common.{◌≡◌, true, false, ℕ, Bool, List, map, length, refl, ◌∙◌, ap, subst, arith}
use Rattle.std.specs.Prelude.{IfOk}
use Rattle.boogie_tree.specs.declared.tree.Column.{Column}
use Rattle.boogie_tree.specs.declared.span.Span.{Span}
use Rattle.typed_tree.specs.TypedTree.{TypedExpression}
use Rattle.typed_tree.specs.TypedView.{expression}
use Rattle.typed_tree.specs.Scope.{is_constant_column}
use Rattle.letter_acts.specs.Frames.{Columns}
use Rattle.cond_jumps.specs.FreeProducts.FreeProducts.{all_free_products}
use Rattle.cond_jumps.specs.Conjs.{conjunctions}
use Rattle.cond_jumps.specs.Conjunctions.{Conjunction, is_wide, all_fit}
use Rattle.icfg_lower.proofs.CallJumps.ParameterLemmas.{length-mapped}
use Rattle.icfg_lower.proofs.CallJumps.DemandLemmas.{ArePassed, are_passed, test_passed, lists_passed}
use Rattle.icfg_lower.proofs.call_jumps.demands.freed_passed.Goals as goal

pub returns : goal.returns
returns c =
    let F : Columns = c.args.frame.now.columns.items in
    let g : Column → Bool = is_constant_column c.args.globals.now in
    let m : ℕ = c.args.locals in
    let A : List TypedExpression = map expression c.args.args.now in
    let e : TypedExpression = expression c.args.cond.now in
    let at : Span = c.args.cond.now.span in
    let n : ℕ = c.args.count in
    let w : Bool = c.args.want in
    let W : Columns = c.in_ok-wide.wide.columns.items in
    let B : List TypedExpression = map expression c.as_slice.result.now in
    let d : TypedExpression = expression c.in-Ok-freed.made.expr in
    let l = length-mapped c.args.args.now in
    let k = c.in_ok-behind.ensures in
    let b : c.in_ok-behind.behind ≡ length A = omega (arith, l, k) in
    let h : ArePassed F g m A e at W B d n =
    are_passed F g m A e at W B d (length (all_free_products g A)) c.args.products n c.in_ok-behind.behind c.requires.constants refl c.requires.products
    c.requires.count c.in_ok-wide.ensures (ap (map expression) c.as_slice.ensures.value ∙ c.in-Ok.ensures) b c.in-Ok-freed.ensures.expr in
    let Q : List Conjunction → Type 0 = λ cs. IfOk c.passed.result (λ made. conjunctions made.items ≡ cs) in
    record {
      list = subst Q (lists_passed F g m A e at W B d n w h) c.passed.ensures.list;
      narrow = λ t. test_passed is_wide F g m A e at W B d n w false h (c.passed.ensures.narrow t);
      fits = λ t. test_passed all_fit F g m A e at W B d n w true h (c.passed.ensures.fits t);
      too_wide = λ t. test_passed is_wide F g m A e at W B d n w true h (c.passed.ensures.too_wide t);
      too_big = λ t. let r = c.passed.ensures.too_big t in (test_passed is_wide F g m A e at W B d n w false h r.0, test_passed all_fit F g m A e at W B d n w false h r.1);
    }
