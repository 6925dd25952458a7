use Rattle.std.proofs.Common.{◌≡◌, true, false, List, [], ◌∷◌, map, length, refl, sym, ◌∙◌, ap, subst}
use Rattle.std.specs.Prelude.{IfOk}
use Rattle.typed_tree.specs.TypedTree.{TypedExpression}
use Rattle.typed_tree.specs.TypedView.{expression}
use Rattle.typed_tree.specs.Scope.{is_constant_column}
use Rattle.letter_acts.specs.Frames.{Columns}
use Rattle.cond_jumps.specs.Conjs.{conjunction}
use Rattle.cond_jumps.specs.Conjunctions.{Conjunction, is_wide, all_fit}
use Rattle.cond_jumps.specs.FreeProducts.FrameLetters.{all_product_count}
use Rattle.cond_jumps.proofs.FreeProducts.FrameAnswers.{AreAllFor, all_own_for, are_all_for}
use Rattle.icfg_lower.proofs.CallJumps.GivenLemmas.{AreColumns, are_columns, test_given, list_given, frame_before, parameters_before}
use Rattle.icfg_lower.proofs.call_jumps.parameter_rows.freed_arguments.Goals as goal

pub arguments-requires-clause-frame : goal.arguments-requires-clause-frame
arguments-requires-clause-frame c =
    let F : Columns = c.args.frame.now.columns.items in
    let A : List TypedExpression = map expression c.args.args.now in
    let k : AreColumns F A c.args.before c.args.callee c.in_ok-first.first c.in_ok-base.base =
    are_columns F A c.args.before c.args.callee (length F) (all_product_count F A) c.args.high c.in_ok-first.first c.in_ok-base.base refl refl c.requires.high c.in_ok-first.ensures c.in_ok-base.ensures in
    frame_before F c.args.locals c.args.before c.args.callee c.in_ok-first.first c.in_ok-base.base A F A (all_own_for F c.args.locals A (sym c.requires.count ∙ c.if-count-eq0.true)) k

pub arguments-requires-clause-parameters : goal.arguments-requires-clause-parameters
arguments-requires-clause-parameters c =
    let F : Columns = c.args.frame.now.columns.items in
    let A : List TypedExpression = map expression c.args.args.now in
    let k : AreColumns F A c.args.before c.args.callee c.in_ok-first.first c.in_ok-base.base =
    are_columns F A c.args.before c.args.callee (length F) (all_product_count F A) c.args.high c.in_ok-first.first c.in_ok-base.base refl refl c.requires.high c.in_ok-first.ensures c.in_ok-base.ensures in
    parameters_before expression F c.args.locals c.args.before c.args.callee c.in_ok-first.first c.in_ok-base.base c.args.args.now F c.args.args.now (all_own_for F c.args.locals A (sym c.requires.count ∙ c.if-count-eq0.true)) k c.requires.parameters

pub returns-then-count-eq0 : goal.returns-then-count-eq0
returns-then-count-eq0 c =
    let F : Columns = c.args.frame.now.columns.items in
    let A : List TypedExpression = map expression c.args.args.now in
    let k : AreColumns F A c.args.before c.args.callee c.in_ok-first.first c.in_ok-base.base =
    are_columns F A c.args.before c.args.callee (length F) (all_product_count F A) c.args.high c.in_ok-first.first c.in_ok-base.base refl refl c.requires.high c.in_ok-first.ensures c.in_ok-base.ensures in
    let h : AreAllFor F c.args.locals A F A = all_own_for F c.args.locals A (sym c.requires.count ∙ c.if-count-eq0.true) in
    let Q : List Conjunction → Type 0 = λ cs. IfOk c.arguments.result (λ one. conjunction one ∷ [] ≡ cs) in
    record {
      list = subst Q (list_given F c.args.locals c.args.before c.args.callee c.in_ok-first.first c.in_ok-base.base A F A h k) c.arguments.ensures.list;
      narrow = λ t. test_given is_wide F c.args.locals c.args.before c.args.callee c.in_ok-first.first c.in_ok-base.base A F A false h k (c.arguments.ensures.narrow t);
      fits = λ t. test_given all_fit F c.args.locals c.args.before c.args.callee c.in_ok-first.first c.in_ok-base.base A F A true h k (c.arguments.ensures.fits t);
      too_wide = c.arguments.ensures.too_wide;
      too_big = λ t. let r = c.arguments.ensures.too_big t in (test_given is_wide F c.args.locals c.args.before c.args.callee c.in_ok-first.first c.in_ok-base.base A F A false h k r.0, test_given all_fit F c.args.locals c.args.before c.args.callee c.in_ok-first.first c.in_ok-base.base A F A false h k r.1);
    }

pub arguments-requires-2-clause-frame : goal.arguments-requires-2-clause-frame
arguments-requires-2-clause-frame c =
    let F : Columns = c.args.frame.now.columns.items in
    let A : List TypedExpression = map expression c.args.args.now in
    let k : AreColumns F A c.args.before c.args.callee c.in_ok-first.first c.in_ok-base.base =
    are_columns F A c.args.before c.args.callee (length F) (all_product_count F A) c.args.high c.in_ok-first.first c.in_ok-base.base refl refl c.requires.high c.in_ok-first.ensures c.in_ok-base.ensures in
    let W : Columns = c.in_ok-wide.wide.columns.items in
    let B : List TypedExpression = map expression c.as_slice.result.now in
    let h : AreAllFor F c.args.locals A W B =
    are_all_for F (is_constant_column c.args.globals.now) c.args.locals A W B c.args.count c.requires.constants c.requires.count c.in_ok-wide.ensures (ap (map expression) c.as_slice.ensures.value ∙ c.in-Ok.ensures.exprs) in
    frame_before F c.args.locals c.args.before c.args.callee c.in_ok-first.first c.in_ok-base.base A W B h k

pub arguments-requires-2-clause-parameters : goal.arguments-requires-2-clause-parameters
arguments-requires-2-clause-parameters c =
    let F : Columns = c.args.frame.now.columns.items in
    let A : List TypedExpression = map expression c.args.args.now in
    let k : AreColumns F A c.args.before c.args.callee c.in_ok-first.first c.in_ok-base.base =
    are_columns F A c.args.before c.args.callee (length F) (all_product_count F A) c.args.high c.in_ok-first.first c.in_ok-base.base refl refl c.requires.high c.in_ok-first.ensures c.in_ok-base.ensures in
    let W : Columns = c.in_ok-wide.wide.columns.items in
    let B : List TypedExpression = map expression c.as_slice.result.now in
    let h : AreAllFor F c.args.locals A W B =
    are_all_for F (is_constant_column c.args.globals.now) c.args.locals A W B c.args.count c.requires.constants c.requires.count c.in_ok-wide.ensures (ap (map expression) c.as_slice.ensures.value ∙ c.in-Ok.ensures.exprs) in
    parameters_before expression F c.args.locals c.args.before c.args.callee c.in_ok-first.first c.in_ok-base.base c.args.args.now W c.as_slice.result.now h k c.requires.parameters

pub returns : goal.returns
returns c =
    let F : Columns = c.args.frame.now.columns.items in
    let A : List TypedExpression = map expression c.args.args.now in
    let k : AreColumns F A c.args.before c.args.callee c.in_ok-first.first c.in_ok-base.base =
    are_columns F A c.args.before c.args.callee (length F) (all_product_count F A) c.args.high c.in_ok-first.first c.in_ok-base.base refl refl c.requires.high c.in_ok-first.ensures c.in_ok-base.ensures in
    let W : Columns = c.in_ok-wide.wide.columns.items in
    let B : List TypedExpression = map expression c.as_slice.result.now in
    let h : AreAllFor F c.args.locals A W B =
    are_all_for F (is_constant_column c.args.globals.now) c.args.locals A W B c.args.count c.requires.constants c.requires.count c.in_ok-wide.ensures (ap (map expression) c.as_slice.ensures.value ∙ c.in-Ok.ensures.exprs) in
    let Q : List Conjunction → Type 0 = λ cs. IfOk c.arguments-2.result (λ one. conjunction one ∷ [] ≡ cs) in
    record {
      list = subst Q (list_given F c.args.locals c.args.before c.args.callee c.in_ok-first.first c.in_ok-base.base A W B h k) c.arguments-2.ensures.list;
      narrow = λ t. test_given is_wide F c.args.locals c.args.before c.args.callee c.in_ok-first.first c.in_ok-base.base A W B false h k (c.arguments-2.ensures.narrow t);
      fits = λ t. test_given all_fit F c.args.locals c.args.before c.args.callee c.in_ok-first.first c.in_ok-base.base A W B true h k (c.arguments-2.ensures.fits t);
      too_wide = c.arguments-2.ensures.too_wide;
      too_big = λ t. let r = c.arguments-2.ensures.too_big t in (test_given is_wide F c.args.locals c.args.before c.args.callee c.in_ok-first.first c.in_ok-base.base A W B false h k r.0, test_given all_fit F c.args.locals c.args.before c.args.callee c.in_ok-first.first c.in_ok-base.base A W B false h k r.1);
    }
