use Rattle.rank_lasso.proofs.LassoTurns.TurnLaws.{turns_are_exact}
use Rattle.rank_lasso.proofs.lasso_turns.laws.turns_say_states.Goals as goal

pub returns : goal.returns
returns c = λ g p ns s u ok l i. turns_are_exact g ok p l ns i s u
