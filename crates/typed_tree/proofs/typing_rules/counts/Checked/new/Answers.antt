use Rattle.std.proofs.Common.{List, map, refl, ap, ◌∙◌}
use Rattle.typed_tree.specs.declared.types.TProc.{TProc}
use Rattle.typed_tree.specs.declared.types.TSpec.{TSpec}
use Rattle.typed_tree.specs.TypedView as view
use Rattle.typed_tree.specs.TypingRules.Counts.{plain_requires}
use Rattle.typed_tree.specs.TypingRules.Ties.CappedCounts.{capped, checked_count}
use Rattle.typed_tree.proofs.TypingRules.LoopLaws.{grown_step, grown_end}
use Rattle.typed_tree.proofs.typing_rules.counts.Checked.new.Goals as goal

pub loop-counted-preserved : goal.loop-counted-preserved
loop-counted-preserved c =
    grown_step (λ (ps : List TProc). map checked_count (map view.procedure ps)) (checked_count (view.procedure c.counted-item.result)) c.args.procs.now c.loop-counted.counted-index
    c.counted-item.result c.plain_requires.result c.loop-counted.counts.items c.push.new.self.items _ c.loop-counted-test.true c.counted-item.is (λ rest. refl)
    (c.plain_requires.ensures ∙ ap (λ (ss : List TSpec). capped (plain_requires (map view.specification ss))) c.deref.ensures.value) c.in_ok-push.ensures.items c.loop-counted.invariant

pub invariant_of-result : goal.invariant_of-result
invariant_of-result c =
    grown_end (λ (ps : List TProc). map checked_count (map view.procedure ps)) c.args.procs.now c.loop-counted.counted-index c.loop-counted.counts.items _
    c.loop-counted-test.false refl c.loop-counted.invariant
