use Rattle.std.proofs.Common.{◌≡◌}
use Rattle.version_cell.specs.Passes.{IsPassOf}
use Rattle.word_tests.proofs.cells.first_wrong_turn.Given as goal

abbrev pub invariant-loop-is_first : goal.invariant-loop-is_first
invariant-loop-is_first g l =
    IsPassOf l.cell l.first × (l.first.shares ≡ l.initial.first.shares) ×
    IsPassOf l.cell l.second × (l.second.shares ≡ l.initial.second.shares)
