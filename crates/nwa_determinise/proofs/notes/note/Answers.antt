use Rattle.nwa_determinise.proofs.NotedLemmas.{noted_or_old}
use Rattle.nwa_determinise.proofs.notes.note.Goals as goal

pub returns : goal.returns
returns g c = noted_or_old _ c.insert-noted.result c.args.notes.now c.insert-noted.new.self c.args.key c.args.value c.insert-noted.ensures.updates c.insert-noted.ensures.err
