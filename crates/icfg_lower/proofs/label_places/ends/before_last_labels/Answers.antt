use Rattle.std.proofs.Common.{sym, ◌∙◌}
use Rattle.icfg_lower.proofs.LabelPlaces.LastLabels.{last_found, all_found}
use Rattle.icfg_lower.proofs.label_places.ends.before_last_labels.Goals as goal

pub returns-then-not-is_label : goal.returns-then-not-is_label
returns-then-not-is_label c =
    last_found c.args.block.now c.loop-count.count c.index-block-count.result c.loop-count-test.true c.loop-count.invariant.within c.index-block-count.is
    (sym c.is_label.ensures ∙ c.if-not-is_label.true) c.loop-count.invariant.labels

pub returns : goal.returns
returns c = all_found c.args.block.now c.loop-count.count c.loop-count-test.false c.loop-count.invariant.labels
