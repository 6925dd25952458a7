use Rattle.std.proofs.Common.{◌≡◌, ◌≤◌, IfSome, vec_len, ◌-◌}
use Rattle.outer_io.proofs.Fronts.{IsFront}
use Rattle.outer_io.proofs.reading.read_rest.Given as goal

-- the text has all that was taken from the shelf, and no call failed yet
abbrev pub invariant-loop-text : goal.invariant-loop-text
invariant-loop-text g l = record {
  piece : vec_len l.buffer ≡ 4096;
  texts : g.H.Shelf.texts l.shelf ≡ g.H.Shelf.texts l.initial.shelf;
  within : vec_len l.text ≤ l.limit;
  front : IfSome (g.H.Shelf.left l.initial.shelf) (IsFront l.text.items (g.H.Shelf.left l.shelf));
  no_fault : g.H.Shelf.faults l.shelf ≡ g.H.Shelf.faults l.initial.shelf;
}

abbrev pub decreases-loop-text : goal.decreases-loop-text
decreases-loop-text g l = l.limit - vec_len l.text
