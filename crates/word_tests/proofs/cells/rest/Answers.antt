use Rattle.std.proofs.Common.{inl}
use Rattle.word_tests.proofs.cells.rest.Goals as goal

pub returns-in_ok-only : goal.returns-in_ok-only
returns-in_ok-only c = inl (c.in_ok-is_left.ensures.0 c.if-branch.true, c.in_ok-only.ensures)
