use Rattle.std.proofs.Common.{map}
use Rattle.fm_elim.specs.Answers.{aside_of}
use Rattle.fm_elim.specs.Ties.Climb.{IsDown}
use Rattle.fm_elim.proofs.descent.go_down.Given as goal

abbrev pub invariant-columns : goal.invariant-columns
invariant-columns l = IsDown l.columns l.fn.rows.items l.left l.rows.items (map aside_of l.asides.items)

abbrev pub decreases-columns : goal.decreases-columns
decreases-columns l = l.left
