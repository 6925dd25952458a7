use Rattle.std.proofs.Common.{◌≡◌, ◌+◌, ◌∷◌, ◌++◌, [], false, ◌∙◌, arith}
use Rattle.boogie_tree.specs.declared.tree.Column.TheVariants as columns
use Rattle.boogie_tree.specs.declared.tree.Ty.TheVariants as types
use Rattle.cond_jumps.specs.FreeProducts.FrameLetters.{product_variable, widened}
use Rattle.cond_jumps.proofs.FreeProducts.FrameAnswers.{widened_turn}
use Rattle.cond_jumps.proofs.free_products.conditions.widened.Goals as goal

pub loop-made-preserved : goal.loop-made-preserved
loop-made-preserved c =
    let new : c.push.new.self.items ≡ c.loop-made.wide.columns.items ++ (columns.Local (c.args.locals + c.loop-made.made), product_variable) ∷ [] =
    c.in_ok-push.ensures.items ∙
    (λ i. c.loop-made.wide.columns.items ++
    (columns.Local (c.in_ok-later.ensures i), record { name = (c.new-in-loop-made.ensures ∙ c.new.ensures.items) i; ty = types.Int; constant = false }) ∷ []) in (
      omega arith,
      widened_turn c.loop-made.wide.columns.items c.push.new.self.items c.args.frame.now.columns.items c.args.locals c.args.count c.loop-made.made
          (widened c.args.frame.now.columns.items c.args.locals c.args.count) c.loop-made-test.true c.loop-made.invariant.1 new,
    )
