use Rattle.std.proofs.Common.{◌≡◌, ◌+◌, false, List, map, length, ◌∙◌}
use Rattle.typed_tree.specs.TypedTree.{TypedExpression}
use Rattle.typed_tree.specs.TypedView.{expression}
use Rattle.typed_tree.specs.Scope.{is_constant_column}
use Rattle.letter_acts.specs.Frames.{Columns}
use Rattle.cond_jumps.specs.declared.fault.JumpFault.TheVariants.{TooWide, TooBig}
use Rattle.cond_jumps.specs.Conjs.{conjunction}
use Rattle.cond_jumps.specs.FreeProducts.FrameLetters.{all_product_count}
use Rattle.cond_jumps.specs.FreeProducts.LetterView.{marked}
use Rattle.cond_jumps.proofs.FreeProducts.FrameAnswers.{all_counted}
use Rattle.icfg_lower.proofs.CallJumps.ConjoinedLemmas.{handed}
use Rattle.icfg_lower.proofs.CallJumps.GivenLemmas.{letter_at, letter_own}
use Rattle.icfg_lower.proofs.call_jumps.parameter_rows.parameters.Goals as goal

pub freed_arguments-requires-clause-count : goal.freed_arguments-requires-clause-count
freed_arguments-requires-clause-count c = all_counted c.args.frame.now.columns.items (is_constant_column c.args.globals.now) (map expression c.args.args.now) c.in_ok-count.count c.requires.constants c.in_ok-count.ensures

pub freed_arguments-requires-clause-high : goal.freed_arguments-requires-clause-high
freed_arguments-requires-clause-high c =
    let F : Columns = c.args.frame.now.columns.items in
    let A : List TypedExpression = map expression c.args.args.now in
    let n : c.in_ok-count.count ≡ all_product_count F A = all_counted F (is_constant_column c.args.globals.now) A c.in_ok-count.count c.requires.constants c.in_ok-count.ensures in
    let w : c.in-Ok.low ≡ length F = c.in-Ok.ensures.1 ∙ c.len.ensures ∙ c.args.frame.now.columns.ok.0 in
    c.in_ok-high.ensures ∙ (λ j. w j + n j)

pub returns-in_err-conj-clause-too_wide : goal.returns-in_err-conj-clause-too_wide
returns-in_err-conj-clause-too_wide c t = c.freed_arguments.ensures.too_wide (handed c.freed_arguments.result c.from_residual-in_err-conj.result c.in_err-conj.field-0.0 TooWide c.in_err-conj.was c.from_residual-in_err-conj.ensures.1 t)

pub returns-in_err-conj-clause-too_big : goal.returns-in_err-conj-clause-too_big
returns-in_err-conj-clause-too_big c t = c.freed_arguments.ensures.too_big (handed c.freed_arguments.result c.from_residual-in_err-conj.result c.in_err-conj.field-0.0 TooBig c.in_err-conj.was c.from_residual-in_err-conj.ensures.1 t)

pub returns-then-count-eq0-clause-list : goal.returns-then-count-eq0-clause-list
returns-then-count-eq0-clause-list c =
    let F : Columns = c.args.frame.now.columns.items in
    let A : List TypedExpression = map expression c.args.args.now in
    let n : c.in_ok-count.count ≡ all_product_count F A = all_counted F (is_constant_column c.args.globals.now) A c.in_ok-count.count c.requires.constants c.in_ok-count.ensures in
    let w : c.in-Ok.low ≡ length F = c.in-Ok.ensures.1 ∙ c.len.ensures ∙ c.args.frame.now.columns.ok.0 in
    letter_at F c.args.locals c.args.before c.args.callee c.in-Ok.low c.in_ok-count.count A (conjunction c.in_ok-conj.conj) (record { plain = conjunction c.in_ok-conj.conj; coarse = false }) w n
    c.in_ok-conj.ensures.list (letter_own c.in-Ok.low c.in_ok-count.count c.args.callee (conjunction c.in_ok-conj.conj) c.if-count-eq0.true)

pub returns-clause-list : goal.returns-clause-list
returns-clause-list c =
    let F : Columns = c.args.frame.now.columns.items in
    let A : List TypedExpression = map expression c.args.args.now in
    let n : c.in_ok-count.count ≡ all_product_count F A = all_counted F (is_constant_column c.args.globals.now) A c.in_ok-count.count c.requires.constants c.in_ok-count.ensures in
    let w : c.in-Ok.low ≡ length F = c.in-Ok.ensures.1 ∙ c.len.ensures ∙ c.args.frame.now.columns.ok.0 in
    letter_at F c.args.locals c.args.before c.args.callee c.in-Ok.low c.in_ok-count.count A (conjunction c.in_ok-conj.conj) (marked c.in_ok-letter.field-0) w n c.in_ok-conj.ensures.list c.in_ok-letter.ensures
