use Rattle.std.proofs.Common.{◌≡◌, ℕ, true, false, Bool, List, map, refl, sym, ◌∙◌, subst}
use Rattle.std.specs.Prelude.{IfOk}
use Rattle.boogie_tree.specs.declared.tree.Column.{Column}
use Rattle.boogie_tree.specs.declared.span.Span.{Span}
use Rattle.typed_tree.specs.TypedTree.{TypedExpression}
use Rattle.typed_tree.specs.TypedView.{expression}
use Rattle.typed_tree.specs.Scope.{is_constant_column}
use Rattle.letter_acts.specs.Frames.{Columns}
use Rattle.cond_jumps.specs.declared.fault.JumpFault.TheVariants.{TooWide, TooBig}
use Rattle.cond_jumps.specs.Conjs.{conjunctions}
use Rattle.cond_jumps.specs.Conjunctions.{is_wide, all_fit}
use Rattle.cond_jumps.specs.Frames.{fixed_in}
use Rattle.cond_jumps.specs.FreeProducts.FrameLetters.{told_condition, told_letters}
use Rattle.cond_jumps.specs.FreeProducts.Letters.{MarkedConjunction}
use Rattle.cond_jumps.specs.FreeProducts.LetterView.{all_marked}
use Rattle.icfg_lower.proofs.CallJumps.ConjoinedLemmas.{handed}
use Rattle.icfg_lower.proofs.CallJumps.DemandLemmas.{AreOwn, test_own, letters_own, test_told}
use Rattle.icfg_lower.proofs.call_jumps.demands.demanded.Goals as goal

pub returns-in_err-conjs-clause-too_wide : goal.returns-in_err-conjs-clause-too_wide
returns-in_err-conjs-clause-too_wide c t =
    let F : Columns = c.args.frame.now.columns.items in
    let g : Column → Bool = is_constant_column c.args.globals.now in
    let A : List TypedExpression = map expression c.args.args.now in
    let e : TypedExpression = expression c.args.cond.now in
    let at : Span = c.args.cond.now.span in
    let h : AreOwn F g A e = record { constants = c.requires.constants; none = sym c.in_ok-count.ensures ∙ c.if-count-eq0.true } in
    test_own is_wide F g c.args.locals A e at c.args.want true h (c.passed.ensures.too_wide (handed c.passed.result c.from_residual-in_err-conjs.result c.in_err-conjs.field-0.0 TooWide c.in_err-conjs.was c.from_residual-in_err-conjs.ensures.1 t))

pub returns-in_err-conjs-clause-too_big : goal.returns-in_err-conjs-clause-too_big
returns-in_err-conjs-clause-too_big c t =
    let F : Columns = c.args.frame.now.columns.items in
    let g : Column → Bool = is_constant_column c.args.globals.now in
    let A : List TypedExpression = map expression c.args.args.now in
    let e : TypedExpression = expression c.args.cond.now in
    let at : Span = c.args.cond.now.span in
    let h : AreOwn F g A e = record { constants = c.requires.constants; none = sym c.in_ok-count.ensures ∙ c.if-count-eq0.true } in
    let r = c.passed.ensures.too_big (handed c.passed.result c.from_residual-in_err-conjs.result c.in_err-conjs.field-0.0 TooBig c.in_err-conjs.was c.from_residual-in_err-conjs.ensures.1 t) in
    (test_own is_wide F g c.args.locals A e at c.args.want false h r.0, test_own all_fit F g c.args.locals A e at c.args.want false h r.1)

pub returns-then-count-eq0-clause-list : goal.returns-then-count-eq0-clause-list
returns-then-count-eq0-clause-list c =
    let F : Columns = c.args.frame.now.columns.items in
    let g : Column → Bool = is_constant_column c.args.globals.now in
    let A : List TypedExpression = map expression c.args.args.now in
    let e : TypedExpression = expression c.args.cond.now in
    let at : Span = c.args.cond.now.span in
    let h : AreOwn F g A e = record { constants = c.requires.constants; none = sym c.in_ok-count.ensures ∙ c.if-count-eq0.true } in
    letters_own F g c.args.locals A e at c.args.want (conjunctions c.in_ok-conjs.conjs.items) (all_marked c.in_ok-all_exact.field-0.items) h c.in_ok-conjs.ensures.list c.in_ok-all_exact.ensures

pub returns-then-count-eq0-clause-narrow : goal.returns-then-count-eq0-clause-narrow
returns-then-count-eq0-clause-narrow c t =
    let F : Columns = c.args.frame.now.columns.items in
    let g : Column → Bool = is_constant_column c.args.globals.now in
    let A : List TypedExpression = map expression c.args.args.now in
    let e : TypedExpression = expression c.args.cond.now in
    let at : Span = c.args.cond.now.span in
    let h : AreOwn F g A e = record { constants = c.requires.constants; none = sym c.in_ok-count.ensures ∙ c.if-count-eq0.true } in
    test_own is_wide F g c.args.locals A e at c.args.want false h (c.in_ok-conjs.ensures.narrow refl)

pub returns-then-count-eq0-clause-fits : goal.returns-then-count-eq0-clause-fits
returns-then-count-eq0-clause-fits c t =
    let F : Columns = c.args.frame.now.columns.items in
    let g : Column → Bool = is_constant_column c.args.globals.now in
    let A : List TypedExpression = map expression c.args.args.now in
    let e : TypedExpression = expression c.args.cond.now in
    let at : Span = c.args.cond.now.span in
    let h : AreOwn F g A e = record { constants = c.requires.constants; none = sym c.in_ok-count.ensures ∙ c.if-count-eq0.true } in
    test_own all_fit F g c.args.locals A e at c.args.want true h (c.in_ok-conjs.ensures.fits refl)

pub returns : goal.returns
returns c =
    let F : Columns = c.args.frame.now.columns.items in
    let A : List TypedExpression = map expression c.args.args.now in
    let e : TypedExpression = expression c.args.cond.now in
    let m : ℕ = c.args.locals in
    let w : Bool = c.args.want in
    let d : TypedExpression = expression c.in_ok-told.told in
    let p : d ≡ told_condition (fixed_in F) A e = c.in_ok-told.ensures.told ∙ (λ j. told_condition (sym c.requires.constants j) A e) in
    let Q : List MarkedConjunction → Type 0 = λ ls. IfOk c.told_demanded.result (λ cs. all_marked cs.items ≡ ls) in
    record {
      list = subst Q (λ j. told_letters F m A (p j) w) c.told_demanded.ensures.list;
      narrow = λ k. test_told is_wide F m A e d w false p (c.told_demanded.ensures.narrow k);
      fits = λ k. test_told all_fit F m A e d w true p (c.told_demanded.ensures.fits k);
      too_wide = λ k. test_told is_wide F m A e d w true p (c.told_demanded.ensures.too_wide k);
      too_big = λ k. let r = c.told_demanded.ensures.too_big k in (test_told is_wide F m A e d w false p r.0, test_told all_fit F m A e d w false p r.1);
    }
