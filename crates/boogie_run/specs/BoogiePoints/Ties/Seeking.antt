-- What a search for a label answers.
use Rattle.std.specs.Prelude.{◌≡◌, Bool, true, false, List, Option, None, Some}
use Rattle.boogie_run.specs.BoogiePoints.Points.{Todo}

-- whether it was found, and then what is still to do after it; else the blocks are as before
abbrev pub IsFound : Bool → Option (List Todo) → List Todo → List Todo → Type 0
IsFound true (Some found) old new = new ≡ found
IsFound true None old new = ⊥
IsFound false (Some found) old new = ⊥
IsFound false None old new = new ≡ old
