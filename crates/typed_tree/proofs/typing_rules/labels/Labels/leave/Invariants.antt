use Rattle.std.proofs.Common.{◌≡◌, ◌-◌, ◌≤◌, drop}
use Rattle.typed_tree.proofs.typing_rules.labels.Labels.leave.Given as goal

abbrev pub invariant-loop-more : goal.invariant-loop-more
invariant-loop-more l = record {
  within : l._more - l.count ≤ l._more-end - l.count;
  rest : l.self ≡ drop (l._more - l.count) l.fn.self;
}
