use Rattle.std.proofs.Common.{inl}
use Rattle.triple_rows.proofs.ReadingLaws.{predicate_is}
use Rattle.triple_rows.proofs.making.spells_predicate.Goals as goal

pub returns-then-is_truth : goal.returns-then-is_truth
returns-then-is_truth c = (λ t. (predicate_is c.args.nodes.now).1 (inl (c.is_truth.ensures.0 t)), λ h. c.if-is_truth.true)
