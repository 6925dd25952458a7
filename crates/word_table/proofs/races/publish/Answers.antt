use Rattle.std.specs.Arc.{arc_value}
use Rattle.race_core.proofs.Sampled.{fair_sample}
use Rattle.word_table.specs.contracts.races.SampleEvidence.TheImpl.{automaton-value}
use Rattle.word_table.proofs.races.publish.Goals as goal

pub told-requires : goal.told-requires
told-requires c le =
    fair_sample automaton-value.it c.args.state.now.program c.args.state.now.history c.args.offer.entry (arc_value c.args.offer.kept)
    c.requires.program c.requires.offer.0 c.requires.offer.1 c.requires.offer.2
