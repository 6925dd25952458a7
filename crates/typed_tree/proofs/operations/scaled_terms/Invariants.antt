use Rattle.std.proofs.Common.{◌*ℤ◌}
use Rattle.typed_tree.specs.AffineForm.{fits}
use Rattle.typed_tree.proofs.Scaled.{IsChanged}
use Rattle.typed_tree.proofs.operations.scaled_terms.Given as goal

abbrev pub invariant-loop-column : goal.invariant-loop-column
invariant-loop-column l = IsChanged (λ t. (t.0, l.m *ℤ t.1)) (λ t. fits t.1) l.terms l.column-index l.scaled.items
