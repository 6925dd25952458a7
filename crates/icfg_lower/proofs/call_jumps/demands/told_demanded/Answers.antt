use Rattle.std.proofs.Common.{◌≡◌, ◌+◌, false, List, map, length, sym, ◌∙◌, ap}
use Rattle.typed_tree.specs.TypedTree.{TypedExpression}
use Rattle.typed_tree.specs.TypedView.{expression}
use Rattle.letter_acts.specs.Frames.{Columns}
use Rattle.cond_jumps.specs.declared.fault.JumpFault.TheVariants.{TooWide, TooBig}
use Rattle.cond_jumps.specs.Conjs.{conjunctions}
use Rattle.cond_jumps.specs.FreeProducts.FreeProducts.{free_products, all_free_products}
use Rattle.cond_jumps.specs.FreeProducts.FrameLetters.{passed_count}
use Rattle.cond_jumps.specs.FreeProducts.Letters.{marked_letter}
use Rattle.icfg_lower.proofs.CallJumps.ConjoinedLemmas.{handed}
use Rattle.icfg_lower.proofs.call_jumps.demands.told_demanded.Goals as goal

pub freed_passed-requires-clause-count : goal.freed_passed-requires-clause-count
freed_passed-requires-clause-count c = c.in_ok-count.ensures ∙ (λ j. c.in_ok-first.ensures j + c.in_ok-second.second)

pub returns-in_err-conjs-clause-too_wide : goal.returns-in_err-conjs-clause-too_wide
returns-in_err-conjs-clause-too_wide c t = c.freed_passed.ensures.too_wide (handed c.freed_passed.result c.from_residual-in_err-conjs.result c.in_err-conjs.field-0.0 TooWide c.in_err-conjs.was c.from_residual-in_err-conjs.ensures.1 t)

pub returns-in_err-conjs-clause-too_big : goal.returns-in_err-conjs-clause-too_big
returns-in_err-conjs-clause-too_big c t = c.freed_passed.ensures.too_big (handed c.freed_passed.result c.from_residual-in_err-conjs.result c.in_err-conjs.field-0.0 TooBig c.in_err-conjs.was c.from_residual-in_err-conjs.ensures.1 t)

pub returns-clause-list : goal.returns-clause-list
returns-clause-list c =
    let F : Columns = c.args.frame.now.columns.items in
    let A : List TypedExpression = map expression c.args.args.now in
    let e : TypedExpression = expression c.args.cond.now in
    let n : c.in_ok-count.count ≡ passed_count F A e =
    c.in_ok-count.ensures ∙ (λ j. c.in_ok-first.ensures j + c.in_ok-second.ensures j)
    ∙ (λ j. length (all_free_products (sym c.requires.constants j) A) + length (free_products (sym c.requires.constants j) false e)) in
    c.in_ok-letters_over.ensures ∙ (λ j. map (marked_letter (length F) (n j) 0) ((ap conjunctions c.as_slice.ensures.value ∙ c.in_ok-conjs.ensures.list) j))
