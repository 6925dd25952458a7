use Rattle.std.proofs.Common.{◌∙◌, sym}
use Rattle.nested_itp.proofs.NestedPredicates.SumLaws.{value_found, value_past, room_found}
use Rattle.nested_itp.proofs.nested_predicates.sums.wide_at.Goals as goal

pub returns-then-place-known-clause-value : goal.returns-then-place-known-clause-value
returns-then-place-known-clause-value c = value_found c.args.known.now c.args.place _ c.if-place-known.true

pub returns-then-place-known-clause-room : goal.returns-then-place-known-clause-room
returns-then-place-known-clause-room c = room_found c.args.known.now c.args.place _ c.if-place-known.true c.requires

pub returns-else-place-known-clause-value : goal.returns-else-place-known-clause-value
returns-else-place-known-clause-value c = c.zero.ensures.value ∙ sym (value_past c.args.known.now c.args.place c.if-place-known.false)
