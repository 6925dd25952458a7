use Rattle.std.proofs.Common.{◌*ℤ◌}
use Rattle.typed_tree.specs.AffineForm.{fits}
use Rattle.typed_tree.proofs.Scaled.{IsChanged}
use Rattle.typed_tree.proofs.operations.scaled_numbers.Given as goal

abbrev pub invariant-loop-part : goal.invariant-loop-part
invariant-loop-part l = IsChanged (λ n. l.m *ℤ n) fits l.parts l.part-index l.scaled.items
