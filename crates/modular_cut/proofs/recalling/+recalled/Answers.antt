use Rattle.std.proofs.Common.{ap, ◌∙◌}
use Rattle.typed_tree.specs.TypedView as view
use Rattle.modular_cut.specs.Parts.{called_in, recalled, recalled_block}
use Rattle.modular_cut.proofs.Copied.{made_step, made_end}
use Rattle.modular_cut.proofs.Recalled.{block_recalled}
use Rattle.modular_cut.proofs.recalling.+recalled.Goals as goal

pub statements-loop-part-preserved : goal.statements-loop-part-preserved
statements-loop-part-preserved t c =
    made_step (λ s. recalled (called_in c.args.calls.now.copy c.args.calls.now.own) (view.statement s)) view.statement c.deref-part-items.result.now c.loop-part.part-index c.part-item.result c.in_ok-statement.field-0
    c.loop-part.copied.items c.push.new.self.items _
    c.loop-part-test.true c.part-item.is c.in_ok-statement.ensures c.in_ok-push.ensures.items c.loop-part.invariant

pub statements-returns : goal.statements-returns
statements-returns t c =
    ap view.block
    (made_end (λ s. recalled (called_in c.args.calls.now.copy c.args.calls.now.own) (view.statement s)) view.statement c.deref-part-items.result.now c.loop-part.part-index c.loop-part.copied.items _ c.loop-part-test.false c.loop-part.invariant)
    ∙ block_recalled (called_in c.args.calls.now.copy c.args.calls.now.own) c.deref-part-items.result.now
    ∙ ap (λ (ss : _). recalled_block (called_in c.args.calls.now.copy c.args.calls.now.own) (view.statements ss)) c.deref-part-items.ensures.value
