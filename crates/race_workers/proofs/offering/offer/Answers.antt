use Rattle.std.proofs.Common.{refl}
use Rattle.std.specs.Arc.{arc_value}
use Rattle.race_rounds.specs.Rounds.{automaton_in}
use Rattle.race_workers.proofs.Published.{fair_by}
use Rattle.race_workers.proofs.offering.offer.Goals as goal

pub returns-in_default-clause-pass : goal.returns-in_default-clause-pass
returns-in_default-clause-pass g c = c.requires.pass

pub publish-requires-clause-job : goal.publish-requires-clause-job
publish-requires-clause-job g c κs within = c.requires.job

pub publish-requires-clause-pass : goal.publish-requires-clause-pass
publish-requires-clause-pass g c κs within = c.requires.pass

pub publish-requires-clause-base : goal.publish-requires-clause-base
publish-requires-clause-base g c κs within = c.requires.seen.0

pub publish-requires-clause-fair : goal.publish-requires-clause-fair
publish-requires-clause-fair g c κs within =
    fair_by automaton_in c.args.pass.now.program (arc_value c.args.snapshot.now.kept) c.deref.result.now (automaton_in c.args.entry.evidence)
    (arc_value c.in-Ok.kept) (arc_value c.in-Ok.kept) c.args.pass.now.seen c.args.entry c.args.snapshot.now.version c.deref.ensures refl refl
    c.requires.seen.0 c.requires.seen.1 c.requires.kept c.requires.own.own c.in-Ok.ensures.words

pub publish-requires-clause-lean : goal.publish-requires-clause-lean
publish-requires-clause-lean g c κs within = c.in-Ok.ensures.lean

pub publish-requires-clause-own : goal.publish-requires-clause-own
publish-requires-clause-own g c κs within = c.requires.own

pub returns-clause-pass : goal.returns-clause-pass
returns-clause-pass g c = c.publish.ensures.pass

pub returns-clause-turn : goal.returns-clause-turn
returns-clause-turn g c = c.publish.ensures.turn
