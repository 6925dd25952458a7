use Rattle.std.proofs.Common.{subst, Option}
use Rattle.std.specs.Prelude.{IfSome}
use Rattle.std.specs.Arc.{arc_value}
use Rattle.nwa_base.specs.Automata.{Automaton}
use Rattle.nwa_base.specs.Acceptance.{Accepts}
use Rattle.race_core.specs.declared.events.Entry.{Entry}
use Rattle.itp_automaton.specs.Certified.{Certificate}
use Rattle.typed_tree.specs.TypingRules.TypedParts.{typed_program}
use Rattle.race_rounds.specs.Rounds.{IsOwn}
use Rattle.race_workers.specs.Ties.Parts.{IsStillKept}
use Rattle.race_workers.proofs.Turns.{offered, sought}
use Rattle.race_workers.proofs.rounds.pursue.Goals as goal

pub returns-in_err-entry-clause-pass : goal.returns-in_err-entry-clause-pass
returns-in_err-entry-clause-pass g c = c.requires.pass

pub offer-requires-clause-job : goal.offer-requires-clause-job
offer-requires-clause-job g c κs within = c.requires.job

pub offer-requires-clause-pass : goal.offer-requires-clause-pass
offer-requires-clause-pass g c κs within = c.requires.pass

pub offer-requires-clause-seen : goal.offer-requires-clause-seen
offer-requires-clause-seen g c κs within = c.requires.seen

pub offer-requires-clause-kept : goal.offer-requires-clause-kept
offer-requires-clause-kept g c κs within =
    subst (λ (m : Automaton). Accepts m c.in-Some.entry.word) c.deref.ensures
    (subst (λ (x : Option (Entry Certificate)). IsStillKept c.deref.result.now c.args.carried x) c.in-Some.is c.in_ok-entry.ensures).1

pub offer-requires-clause-own : goal.offer-requires-clause-own
offer-requires-clause-own g c κs within =
    let t = typed_program c.args.job.now.program.now in
    let k = subst (λ (x : Option (Entry Certificate)). IsStillKept c.deref.result.now c.args.carried x) c.in-Some.is c.in_ok-entry.ensures in
    subst (λ (x : Option (Entry Certificate)). IfSome x (IsOwn t)) k.0 c.requires.carried

pub seek-requires-clause-job : goal.seek-requires-clause-job
seek-requires-clause-job g c κs within = c.requires.job

pub seek-requires-clause-pass : goal.seek-requires-clause-pass
seek-requires-clause-pass g c κs within = c.requires.pass

pub seek-requires-clause-seen : goal.seek-requires-clause-seen
seek-requires-clause-seen g c κs within = c.requires.seen

pub returns-in-Some-clause-pass : goal.returns-in-Some-clause-pass
returns-in-Some-clause-pass g c = c.offer.ensures.pass

pub returns-in-Some-clause-turn : goal.returns-in-Some-clause-turn
returns-in-Some-clause-turn g c =
    let k = subst (λ (x : Option (Entry Certificate)). IsStillKept c.deref.result.now c.args.carried x) c.in-Some.is c.in_ok-entry.ensures in
    offered (typed_program c.args.job.now.program.now) c.args.pass.now c.offer.new.pass c.deref.result.now c.args.carried c.in-Some.entry c.offer.result k
    c.offer.ensures.turn

pub returns-in-None-clause-pass : goal.returns-in-None-clause-pass
returns-in-None-clause-pass g c = c.seek.ensures.pass

pub returns-in-None-clause-turn : goal.returns-in-None-clause-turn
returns-in-None-clause-turn g c =
    let t = typed_program c.args.job.now.program.now in
    let k = subst (λ (x : Option (Entry Certificate)). IsStillKept c.deref.result.now c.args.carried x) c.in-None.is c.in_ok-entry.ensures in
    sought t c.args.job.now.icfg.now c.args.job.now.limits c.args.job.now.cell.now c.args.pass.now c.seek.new.pass c.args.snapshot.now.version c.deref.result.now
    (arc_value c.args.snapshot.now.kept) c.args.carried c.seek.result c.requires.job c.requires.pass.of_cell c.requires.seen c.deref.ensures k c.seek.ensures.grows c.seek.ensures.turn
