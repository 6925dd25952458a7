use Rattle.std.proofs.Common.{◌≡◌, drop, map}
use Rattle.boogie_parse.specs.Ties.PieceViews.{piece}
use Rattle.boogie_parse.specs.Ties.Turns.{first_stray}
use Rattle.boogie_parse.proofs.lexer.attributes.first_stray.Given as goal

abbrev pub invariant-loop-next : goal.invariant-loop-next
invariant-loop-next l = first_stray (drop l.next-index (map piece l.pieces)) ≡ first_stray (map piece l.pieces)
