use Rattle.std.proofs.Common.{◌≡◌, ◌∙◌, true, false, ap, sym, refl}
use Rattle.typed_tree.specs.TypedTree.{TypedExpression}
use Rattle.typed_tree.specs.TypedView.{expression}
use Rattle.typed_tree.specs.Scope.{is_constant_column}
use Rattle.letter_acts.specs.Frames.{Columns}
use Rattle.cond_jumps.specs.declared.fault.JumpFault.TheVariants.{TooWide, TooBig}
use Rattle.cond_jumps.specs.Conjs.{conjunctions}
use Rattle.cond_jumps.specs.Conjunctions.{is_wide, all_fit}
use Rattle.cond_jumps.specs.FreeProducts.FrameLetters.{product_count}
use Rattle.cond_jumps.specs.FreeProducts.LetterView.{all_marked}
use Rattle.cond_jumps.proofs.FreeProducts.FrameAnswers.{AreFor, own_for, are_for, counted, test_for, letters_for, exact_for, handed}
use Rattle.cond_jumps.proofs.free_products.conditions.free_paths.Goals as goal

pub returns-in_err-conjs-clause-too_wide : goal.returns-in_err-conjs-clause-too_wide
returns-in_err-conjs-clause-too_wide c =
    let f : Columns = c.args.frame.now.columns.items in
    let e : TypedExpression = expression c.args.cond.now in
    let none : product_count f e ≡ 0 = sym (counted f (is_constant_column c.args.globals.now) e c.in_ok-count.count c.requires.constants c.in_ok-count.ensures) ∙ c.if-count-eq0.true in
    λ t. test_for is_wide f c.args.locals e f e c.args.want true (own_for f c.args.locals e none)
    (c.paths.ensures.too_wide (handed c.paths.result c.from_residual-in_err-conjs.result c.in_err-conjs.field-0.0 TooWide c.in_err-conjs.was c.from_residual-in_err-conjs.ensures.1 t))

pub returns-in_err-conjs-clause-too_big : goal.returns-in_err-conjs-clause-too_big
returns-in_err-conjs-clause-too_big c =
    let f : Columns = c.args.frame.now.columns.items in
    let e : TypedExpression = expression c.args.cond.now in
    let none : product_count f e ≡ 0 = sym (counted f (is_constant_column c.args.globals.now) e c.in_ok-count.count c.requires.constants c.in_ok-count.ensures) ∙ c.if-count-eq0.true in
    λ t.
    let b = c.paths.ensures.too_big (handed c.paths.result c.from_residual-in_err-conjs.result c.in_err-conjs.field-0.0 TooBig c.in_err-conjs.was c.from_residual-in_err-conjs.ensures.1 t) in
    let own : AreFor f c.args.locals e f e = own_for f c.args.locals e none in
    (test_for is_wide f c.args.locals e f e c.args.want false own b.0, test_for all_fit f c.args.locals e f e c.args.want false own b.1)

pub returns-then-count-eq0-clause-list : goal.returns-then-count-eq0-clause-list
returns-then-count-eq0-clause-list c =
    let f : Columns = c.args.frame.now.columns.items in
    let e : TypedExpression = expression c.args.cond.now in
    let none : product_count f e ≡ 0 = sym (counted f (is_constant_column c.args.globals.now) e c.in_ok-count.count c.requires.constants c.in_ok-count.ensures) ∙ c.if-count-eq0.true in
    exact_for f c.args.locals e c.args.want (conjunctions c.in_ok-conjs.conjs.items) (all_marked c.in_ok-all_exact.field-0.items) none c.in_ok-conjs.ensures.list c.in_ok-all_exact.ensures

pub returns-then-count-eq0-clause-narrow : goal.returns-then-count-eq0-clause-narrow
returns-then-count-eq0-clause-narrow c =
    let f : Columns = c.args.frame.now.columns.items in
    let e : TypedExpression = expression c.args.cond.now in
    let none : product_count f e ≡ 0 = sym (counted f (is_constant_column c.args.globals.now) e c.in_ok-count.count c.requires.constants c.in_ok-count.ensures) ∙ c.if-count-eq0.true in
    λ t. test_for is_wide f c.args.locals e f e c.args.want false (own_for f c.args.locals e none) (c.in_ok-conjs.ensures.narrow refl)

pub returns-then-count-eq0-clause-fits : goal.returns-then-count-eq0-clause-fits
returns-then-count-eq0-clause-fits c =
    let f : Columns = c.args.frame.now.columns.items in
    let e : TypedExpression = expression c.args.cond.now in
    let none : product_count f e ≡ 0 = sym (counted f (is_constant_column c.args.globals.now) e c.in_ok-count.count c.requires.constants c.in_ok-count.ensures) ∙ c.if-count-eq0.true in
    λ t. test_for all_fit f c.args.locals e f e c.args.want true (own_for f c.args.locals e none) (c.in_ok-conjs.ensures.fits refl)

pub returns-in_err-conjs-2-clause-too_wide : goal.returns-in_err-conjs-2-clause-too_wide
returns-in_err-conjs-2-clause-too_wide c =
    let f : Columns = c.args.frame.now.columns.items in
    let e : TypedExpression = expression c.args.cond.now in
    let w : Columns = c.in_ok-wide.wide.columns.items in
    let g : TypedExpression = expression c.in_ok-made.made.expr in
    let count_is : c.in_ok-count.count ≡ product_count f e = counted f (is_constant_column c.args.globals.now) e c.in_ok-count.count c.requires.constants c.in_ok-count.ensures in
    let for : AreFor f c.args.locals e w g =
    are_for f (is_constant_column c.args.globals.now) c.args.locals e w g c.in_ok-count.count c.requires.constants count_is c.in_ok-wide.ensures c.in_ok-made.ensures.expr in
    λ t. test_for is_wide f c.args.locals e w g c.args.want true for
    (c.paths-2.ensures.too_wide (handed c.paths-2.result c.from_residual-in_err-conjs-2.result c.in_err-conjs-2.field-0.0 TooWide c.in_err-conjs-2.was c.from_residual-in_err-conjs-2.ensures.1 t))

pub returns-in_err-conjs-2-clause-too_big : goal.returns-in_err-conjs-2-clause-too_big
returns-in_err-conjs-2-clause-too_big c =
    let f : Columns = c.args.frame.now.columns.items in
    let e : TypedExpression = expression c.args.cond.now in
    let w : Columns = c.in_ok-wide.wide.columns.items in
    let g : TypedExpression = expression c.in_ok-made.made.expr in
    let count_is : c.in_ok-count.count ≡ product_count f e = counted f (is_constant_column c.args.globals.now) e c.in_ok-count.count c.requires.constants c.in_ok-count.ensures in
    let for : AreFor f c.args.locals e w g =
    are_for f (is_constant_column c.args.globals.now) c.args.locals e w g c.in_ok-count.count c.requires.constants count_is c.in_ok-wide.ensures c.in_ok-made.ensures.expr in
    λ t.
    let b = c.paths-2.ensures.too_big (handed c.paths-2.result c.from_residual-in_err-conjs-2.result c.in_err-conjs-2.field-0.0 TooBig c.in_err-conjs-2.was c.from_residual-in_err-conjs-2.ensures.1 t) in
    (test_for is_wide f c.args.locals e w g c.args.want false for b.0, test_for all_fit f c.args.locals e w g c.args.want false for b.1)

pub returns-clause-list : goal.returns-clause-list
returns-clause-list c =
    let f : Columns = c.args.frame.now.columns.items in
    let e : TypedExpression = expression c.args.cond.now in
    let w : Columns = c.in_ok-wide.wide.columns.items in
    let g : TypedExpression = expression c.in_ok-made.made.expr in
    let count_is : c.in_ok-count.count ≡ product_count f e = counted f (is_constant_column c.args.globals.now) e c.in_ok-count.count c.requires.constants c.in_ok-count.ensures in
    let for : AreFor f c.args.locals e w g =
    are_for f (is_constant_column c.args.globals.now) c.args.locals e w g c.in_ok-count.count c.requires.constants count_is c.in_ok-wide.ensures c.in_ok-made.ensures.expr in
    letters_for f c.args.locals e w g c.args.want c.in_ok-count.count 0 (conjunctions c.as_slice.result.now) (all_marked c.in_ok-letters_over.field-0.items) for count_is refl
    (ap conjunctions c.as_slice.ensures.value ∙ c.in_ok-conjs-2.ensures.list) c.in_ok-letters_over.ensures

pub returns-clause-narrow : goal.returns-clause-narrow
returns-clause-narrow c =
    let f : Columns = c.args.frame.now.columns.items in
    let e : TypedExpression = expression c.args.cond.now in
    let w : Columns = c.in_ok-wide.wide.columns.items in
    let g : TypedExpression = expression c.in_ok-made.made.expr in
    let count_is : c.in_ok-count.count ≡ product_count f e = counted f (is_constant_column c.args.globals.now) e c.in_ok-count.count c.requires.constants c.in_ok-count.ensures in
    let for : AreFor f c.args.locals e w g =
    are_for f (is_constant_column c.args.globals.now) c.args.locals e w g c.in_ok-count.count c.requires.constants count_is c.in_ok-wide.ensures c.in_ok-made.ensures.expr in
    λ t. test_for is_wide f c.args.locals e w g c.args.want false for (c.in_ok-conjs-2.ensures.narrow refl)

pub returns-clause-fits : goal.returns-clause-fits
returns-clause-fits c =
    let f : Columns = c.args.frame.now.columns.items in
    let e : TypedExpression = expression c.args.cond.now in
    let w : Columns = c.in_ok-wide.wide.columns.items in
    let g : TypedExpression = expression c.in_ok-made.made.expr in
    let count_is : c.in_ok-count.count ≡ product_count f e = counted f (is_constant_column c.args.globals.now) e c.in_ok-count.count c.requires.constants c.in_ok-count.ensures in
    let for : AreFor f c.args.locals e w g =
    are_for f (is_constant_column c.args.globals.now) c.args.locals e w g c.in_ok-count.count c.requires.constants count_is c.in_ok-wide.ensures c.in_ok-made.ensures.expr in
    λ t. test_for all_fit f c.args.locals e w g c.args.want true for (c.in_ok-conjs-2.ensures.fits refl)
