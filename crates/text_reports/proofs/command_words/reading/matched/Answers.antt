use Rattle.clap.specs.Simple.{app_of}
use Rattle.text_reports.proofs.CommandWords.MatchLaws.{simple}
use Rattle.text_reports.proofs.command_words.reading.matched.Goals as goal

pub returns-in-Ok : goal.returns-in-Ok
returns-in-Ok c = (c.in-Ok.ensures.kinds c.requires, (c.in-Ok.ensures.matches (simple (app_of c.args.command) c.requires)).0)
