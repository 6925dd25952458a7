use Rattle.race_rounds.proofs.ExactWords.{search_answers}
use Rattle.race_rounds.proofs.exact.exact_word.Goals as goal

pub returns-in-Ok : goal.returns-in-Ok
returns-in-Ok c = search_answers c.args.icfg.now c.args.nwa.now c.in-Ok.exact c.find.result c.in-Ok.ensures c.find.ensures
