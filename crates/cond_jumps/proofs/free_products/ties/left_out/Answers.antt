use Rattle.std.proofs.Common.{◌≡◌, ◌||◌, ℕ, Bool, length, rules, arith}
use Rattle.std.specs.Option.{is_some}
use Rattle.cond_jumps.specs.FreeProducts.Letters.{ProductSpan, is_product_column}
use Rattle.cond_jumps.specs.FreeProducts.LetterView.{seen, tied_by}
use Rattle.cond_jumps.proofs.FreeProducts.LetterAnswers.{table_turn, left_out_end}
use Rattle.cond_jumps.proofs.free_products.ties.left_out.Goals as goal

pub loop-column-preserved : goal.loop-column-preserved
loop-column-preserved c =
    let s : ProductSpan = seen c.args.span.now in
    let f : ℕ → Bool = λ d. is_product_column s d || is_some (tied_by s c.args.products.now d) in (
      omega arith,
      table_turn f c.loop-column.column c.may_go.result c.loop-column.out.items c.push.new.self.items c.loop-column.invariant.1 c.in_ok-push.ensures.items c.may_go.ensures,
    )

pub returns : goal.returns
returns c =
    let s : ProductSpan = seen c.args.span.now in
    let l : c.loop-column.out.len ≡ length c.loop-column.out.items = search rules in
    left_out_end s c.args.rows.now c.args.products.now c.requires.products c.loop-column.out.len c.loop-column.column c.as_mut_slice.result.now c.loop-column.out.items c.clear_plain.new.out l
    c.loop-column.invariant.1 c.as_mut_slice.ensures.value c.clear_plain.ensures (let a = c.loop-column-test.false in let b = c.loop-column.invariant.0 in omega (arith, a, b))
