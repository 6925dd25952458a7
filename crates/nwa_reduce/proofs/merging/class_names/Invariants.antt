use Rattle.std.proofs.Common.{◌≡◌, length}
use Rattle.nwa_reduce.specs.Ties.Seen.{seen}
use Rattle.nwa_reduce.specs.Ties.Classes.{IsClassed}
use Rattle.nwa_reduce.proofs.merging.class_names.Given as goal

abbrev pub invariant-loop-state : goal.invariant-loop-state
invariant-loop-state l =
    record { classed : IsClassed (seen l.classes); nwa : (seen l.classes).nwa ≡ l.nwa; next : length (seen l.classes).leaders ≡ l.state }
