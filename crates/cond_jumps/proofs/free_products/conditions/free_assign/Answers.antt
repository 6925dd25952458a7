use Rattle.std.proofs.Common.{◌≡◌, ◌∙◌, true, false, ℕ, List, length, map, ap, sym, refl}
use Rattle.typed_tree.specs.TypedTree.{TypedExpression}
use Rattle.typed_tree.specs.TypedView.{expression}
use Rattle.typed_tree.specs.Scope.{is_constant_column}
use Rattle.letter_acts.specs.Frames.{Columns}
use Rattle.cond_jumps.specs.declared.fault.JumpFault.TheVariants.{TooWide, TooBig}
use Rattle.cond_jumps.specs.Conjs.{conjunctions}
use Rattle.cond_jumps.specs.Conjunctions.{is_wide, all_fit}
use Rattle.cond_jumps.specs.FreeProducts.FrameLetters.{all_product_count}
use Rattle.cond_jumps.specs.FreeProducts.LetterView.{all_marked}
use Rattle.cond_jumps.proofs.FreeProducts.FrameAnswers.{AreAllFor, all_own_for, are_all_for, all_counted, all_test_for, all_letters_for, all_exact_for, handed, same_number}
use Rattle.cond_jumps.proofs.free_products.conditions.free_assign.Goals as goal

pub returns-in_err-conjs-clause-too_wide : goal.returns-in_err-conjs-clause-too_wide
returns-in_err-conjs-clause-too_wide c =
    let f : Columns = c.args.frame.now.columns.items in
    let es : List TypedExpression = map expression c.args.values.now in
    let n : ℕ = length c.args.targets.now in
    let none : all_product_count f es ≡ 0 = sym (all_counted f (is_constant_column c.args.globals.now) es c.in_ok-count.count c.requires.constants c.in_ok-count.ensures) ∙ c.if-count-eq0.true in
    λ t. all_test_for is_wide f c.args.locals es f es n true (all_own_for f c.args.locals es none)
    (c.assign.ensures.too_wide (handed c.assign.result c.from_residual-in_err-conjs.result c.in_err-conjs.field-0.0 TooWide c.in_err-conjs.was c.from_residual-in_err-conjs.ensures.1 t))

pub returns-in_err-conjs-clause-too_big : goal.returns-in_err-conjs-clause-too_big
returns-in_err-conjs-clause-too_big c =
    let f : Columns = c.args.frame.now.columns.items in
    let es : List TypedExpression = map expression c.args.values.now in
    let n : ℕ = length c.args.targets.now in
    let none : all_product_count f es ≡ 0 = sym (all_counted f (is_constant_column c.args.globals.now) es c.in_ok-count.count c.requires.constants c.in_ok-count.ensures) ∙ c.if-count-eq0.true in
    λ t.
    let b = c.assign.ensures.too_big (handed c.assign.result c.from_residual-in_err-conjs.result c.in_err-conjs.field-0.0 TooBig c.in_err-conjs.was c.from_residual-in_err-conjs.ensures.1 t) in
    let own : AreAllFor f c.args.locals es f es = all_own_for f c.args.locals es none in
    (all_test_for is_wide f c.args.locals es f es n false own b.0, all_test_for all_fit f c.args.locals es f es n false own b.1)

pub returns-then-count-eq0-clause-list : goal.returns-then-count-eq0-clause-list
returns-then-count-eq0-clause-list c =
    let f : Columns = c.args.frame.now.columns.items in
    let es : List TypedExpression = map expression c.args.values.now in
    let n : ℕ = length c.args.targets.now in
    let none : all_product_count f es ≡ 0 = sym (all_counted f (is_constant_column c.args.globals.now) es c.in_ok-count.count c.requires.constants c.in_ok-count.ensures) ∙ c.if-count-eq0.true in
    all_exact_for f c.args.locals es n (conjunctions c.in_ok-conjs.conjs.items) (all_marked c.in_ok-all_exact.field-0.items) none c.in_ok-conjs.ensures.list c.in_ok-all_exact.ensures

pub returns-then-count-eq0-clause-narrow : goal.returns-then-count-eq0-clause-narrow
returns-then-count-eq0-clause-narrow c =
    let f : Columns = c.args.frame.now.columns.items in
    let es : List TypedExpression = map expression c.args.values.now in
    let n : ℕ = length c.args.targets.now in
    let none : all_product_count f es ≡ 0 = sym (all_counted f (is_constant_column c.args.globals.now) es c.in_ok-count.count c.requires.constants c.in_ok-count.ensures) ∙ c.if-count-eq0.true in
    λ t. all_test_for is_wide f c.args.locals es f es n false (all_own_for f c.args.locals es none) (c.in_ok-conjs.ensures.narrow refl)

pub returns-then-count-eq0-clause-fits : goal.returns-then-count-eq0-clause-fits
returns-then-count-eq0-clause-fits c =
    let f : Columns = c.args.frame.now.columns.items in
    let es : List TypedExpression = map expression c.args.values.now in
    let n : ℕ = length c.args.targets.now in
    let none : all_product_count f es ≡ 0 = sym (all_counted f (is_constant_column c.args.globals.now) es c.in_ok-count.count c.requires.constants c.in_ok-count.ensures) ∙ c.if-count-eq0.true in
    λ t. all_test_for all_fit f c.args.locals es f es n true (all_own_for f c.args.locals es none) (c.in_ok-conjs.ensures.fits refl)

pub assign-requires-2 : goal.assign-requires-2
assign-requires-2 c =
    same_number expression c.args.targets.now c.args.values.now c.as_slice.result.now (is_constant_column c.args.globals.now) c.args.locals c.requires.count
    (ap (map expression) c.as_slice.ensures.value ∙ c.in_ok-made.ensures.exprs)

pub returns-in_err-conjs-2-clause-too_wide : goal.returns-in_err-conjs-2-clause-too_wide
returns-in_err-conjs-2-clause-too_wide c =
    let f : Columns = c.args.frame.now.columns.items in
    let es : List TypedExpression = map expression c.args.values.now in
    let n : ℕ = length c.args.targets.now in
    let w : Columns = c.in_ok-wide.wide.columns.items in
    let gs : List TypedExpression = map expression c.as_slice.result.now in
    let count_is : c.in_ok-count.count ≡ all_product_count f es = all_counted f (is_constant_column c.args.globals.now) es c.in_ok-count.count c.requires.constants c.in_ok-count.ensures in
    let for : AreAllFor f c.args.locals es w gs =
    are_all_for f (is_constant_column c.args.globals.now) c.args.locals es w gs c.in_ok-count.count c.requires.constants count_is c.in_ok-wide.ensures
    (ap (map expression) c.as_slice.ensures.value ∙ c.in_ok-made.ensures.exprs) in
    λ t. all_test_for is_wide f c.args.locals es w gs n true for
    (c.assign-2.ensures.too_wide (handed c.assign-2.result c.from_residual-in_err-conjs-2.result c.in_err-conjs-2.field-0.0 TooWide c.in_err-conjs-2.was c.from_residual-in_err-conjs-2.ensures.1 t))

pub returns-in_err-conjs-2-clause-too_big : goal.returns-in_err-conjs-2-clause-too_big
returns-in_err-conjs-2-clause-too_big c =
    let f : Columns = c.args.frame.now.columns.items in
    let es : List TypedExpression = map expression c.args.values.now in
    let n : ℕ = length c.args.targets.now in
    let w : Columns = c.in_ok-wide.wide.columns.items in
    let gs : List TypedExpression = map expression c.as_slice.result.now in
    let count_is : c.in_ok-count.count ≡ all_product_count f es = all_counted f (is_constant_column c.args.globals.now) es c.in_ok-count.count c.requires.constants c.in_ok-count.ensures in
    let for : AreAllFor f c.args.locals es w gs =
    are_all_for f (is_constant_column c.args.globals.now) c.args.locals es w gs c.in_ok-count.count c.requires.constants count_is c.in_ok-wide.ensures
    (ap (map expression) c.as_slice.ensures.value ∙ c.in_ok-made.ensures.exprs) in
    λ t.
    let b = c.assign-2.ensures.too_big (handed c.assign-2.result c.from_residual-in_err-conjs-2.result c.in_err-conjs-2.field-0.0 TooBig c.in_err-conjs-2.was c.from_residual-in_err-conjs-2.ensures.1 t) in
    (all_test_for is_wide f c.args.locals es w gs n false for b.0, all_test_for all_fit f c.args.locals es w gs n false for b.1)

pub returns-clause-list : goal.returns-clause-list
returns-clause-list c =
    let f : Columns = c.args.frame.now.columns.items in
    let es : List TypedExpression = map expression c.args.values.now in
    let n : ℕ = length c.args.targets.now in
    let w : Columns = c.in_ok-wide.wide.columns.items in
    let gs : List TypedExpression = map expression c.as_slice.result.now in
    let count_is : c.in_ok-count.count ≡ all_product_count f es = all_counted f (is_constant_column c.args.globals.now) es c.in_ok-count.count c.requires.constants c.in_ok-count.ensures in
    let for : AreAllFor f c.args.locals es w gs =
    are_all_for f (is_constant_column c.args.globals.now) c.args.locals es w gs c.in_ok-count.count c.requires.constants count_is c.in_ok-wide.ensures
    (ap (map expression) c.as_slice.ensures.value ∙ c.in_ok-made.ensures.exprs) in
    all_letters_for f c.args.locals es w gs n c.in_ok-count.count n (conjunctions c.as_slice-2.result.now) (all_marked c.in_ok-letters_over.field-0.items) for count_is refl
    (ap conjunctions c.as_slice-2.ensures.value ∙ c.in_ok-conjs-2.ensures.list) c.in_ok-letters_over.ensures

pub returns-clause-narrow : goal.returns-clause-narrow
returns-clause-narrow c =
    let f : Columns = c.args.frame.now.columns.items in
    let es : List TypedExpression = map expression c.args.values.now in
    let n : ℕ = length c.args.targets.now in
    let w : Columns = c.in_ok-wide.wide.columns.items in
    let gs : List TypedExpression = map expression c.as_slice.result.now in
    let count_is : c.in_ok-count.count ≡ all_product_count f es = all_counted f (is_constant_column c.args.globals.now) es c.in_ok-count.count c.requires.constants c.in_ok-count.ensures in
    let for : AreAllFor f c.args.locals es w gs =
    are_all_for f (is_constant_column c.args.globals.now) c.args.locals es w gs c.in_ok-count.count c.requires.constants count_is c.in_ok-wide.ensures
    (ap (map expression) c.as_slice.ensures.value ∙ c.in_ok-made.ensures.exprs) in
    λ t. all_test_for is_wide f c.args.locals es w gs n false for (c.in_ok-conjs-2.ensures.narrow refl)

pub returns-clause-fits : goal.returns-clause-fits
returns-clause-fits c =
    let f : Columns = c.args.frame.now.columns.items in
    let es : List TypedExpression = map expression c.args.values.now in
    let n : ℕ = length c.args.targets.now in
    let w : Columns = c.in_ok-wide.wide.columns.items in
    let gs : List TypedExpression = map expression c.as_slice.result.now in
    let count_is : c.in_ok-count.count ≡ all_product_count f es = all_counted f (is_constant_column c.args.globals.now) es c.in_ok-count.count c.requires.constants c.in_ok-count.ensures in
    let for : AreAllFor f c.args.locals es w gs =
    are_all_for f (is_constant_column c.args.globals.now) c.args.locals es w gs c.in_ok-count.count c.requires.constants count_is c.in_ok-wide.ensures
    (ap (map expression) c.as_slice.ensures.value ∙ c.in_ok-made.ensures.exprs) in
    λ t. all_test_for all_fit f c.args.locals es w gs n true for (c.in_ok-conjs-2.ensures.fits refl)
