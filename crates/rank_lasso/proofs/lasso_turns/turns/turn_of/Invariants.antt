use Rattle.std.proofs.Common.{drop}
use Rattle.rank_lasso.proofs.LassoTurns.MadeLaws.{TurnOn}
use Rattle.rank_lasso.proofs.lasso_turns.turns.turn_of.Given as goal

abbrev pub invariant-loop-letter : goal.invariant-loop-letter
invariant-loop-letter l = TurnOn l.icfg l.proc l.letters l.turn (drop l.letter-index l.letters)
