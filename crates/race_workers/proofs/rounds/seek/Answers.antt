use Rattle.std.proofs.Common.{sym, subst, refl}
use Rattle.std.specs.Arc.{arc_value}
use Rattle.nwa_base.specs.Automata.{Automaton}
use Rattle.nwa_base.specs.Acceptance.{Accepts}
use Rattle.nwa_emptiness.specs.declared.finding.Found.{Found}
use Rattle.nwa_emptiness.specs.Found.{IsFound}
use Rattle.typed_tree.specs.TypingRules.TypedParts.{typed_program}
use Rattle.race_rounds.specs.declared.settling.Settled.{Settled}
use Rattle.race_rounds.specs.Rounds.{SettlesKept}
use Rattle.version_cell.proofs.Beginnings.{begins_same}
use Rattle.race_workers.proofs.Parts.{safe, says, error_word, kept, settled_own}
use Rattle.race_workers.proofs.Turns.{made}
use Rattle.race_workers.proofs.rounds.seek.Goals as goal

pub returns-in_err-word-clause-pass : goal.returns-in_err-word-clause-pass
returns-in_err-word-clause-pass g c = c.requires.pass

pub finish-requires-clause-job : goal.finish-requires-clause-job
finish-requires-clause-job g c κs within = c.requires.job

pub finish-requires-clause-pass : goal.finish-requires-clause-pass
finish-requires-clause-pass g c κs within = c.requires.pass

pub finish-requires-clause-version : goal.finish-requires-clause-version
finish-requires-clause-version g c κs within = c.requires.seen.0

pub finish-requires-clause-end : goal.finish-requires-clause-end
finish-requires-clause-end g c κs within =
    let f = subst (λ (x : Found). IsFound c.deref-kept.result.now x) c.in-Empty.is c.in_ok-word.ensures in
    safe (typed_program c.args.job.now.program.now) c.args.job.now.icfg.now c.args.job.now.limits c.args.job.now.cell.now c.args.pass.now c.args.snapshot.now.version (arc_value c.args.snapshot.now.kept)
    c.requires.job c.requires.pass.of_cell c.requires.seen (λ w a. f w (subst (λ (m : Automaton). Accepts m w) (sym c.deref-kept.ensures) a))

pub returns-in-Empty-clause-pass : goal.returns-in-Empty-clause-pass
returns-in-Empty-clause-pass g c = c.finish.ensures.pass

pub returns-in-Empty-clause-turn : goal.returns-in-Empty-clause-turn
returns-in-Empty-clause-turn g c = c.finish.ensures.turn

pub settle_kept-requires-clause-lowered : goal.settle_kept-requires-clause-lowered
settle_kept-requires-clause-lowered g c κs within = c.requires.job.lowered

pub settle_kept-requires-clause-words : goal.settle_kept-requires-clause-words
settle_kept-requires-clause-words g c κs within = λ w a.
    error_word (typed_program c.args.job.now.program.now) c.args.job.now.icfg.now c.args.job.now.limits c.args.job.now.cell.now c.args.pass.now c.args.snapshot.now.version (arc_value c.args.snapshot.now.kept) w
    c.requires.job c.requires.pass.of_cell c.requires.seen (subst (λ (m : Automaton). Accepts m w) c.deref-kept.ensures a)

pub settle_kept-requires-clause-kept : goal.settle_kept-requires-clause-kept
settle_kept-requires-clause-kept g c κs within = subst (λ (x : Found). IsFound c.deref-kept.result.now x) c.in-Word.is c.in_ok-word.ensures

pub settle_kept-requires-clause-depth : goal.settle_kept-requires-clause-depth
settle_kept-requires-clause-depth g c κs within = c.requires.job.depth

pub returns-in_err-end-clause-pass : goal.returns-in_err-end-clause-pass
returns-in_err-end-clause-pass g c = c.requires.pass

pub finish-requires-in-Ended-clause-job : goal.finish-requires-in-Ended-clause-job
finish-requires-in-Ended-clause-job g c κs within = c.requires.job

pub finish-requires-in-Ended-clause-pass : goal.finish-requires-in-Ended-clause-pass
finish-requires-in-Ended-clause-pass g c κs within = c.requires.pass

pub finish-requires-in-Ended-clause-version : goal.finish-requires-in-Ended-clause-version
finish-requires-in-Ended-clause-version g c κs within = c.requires.seen.0

pub finish-requires-in-Ended-clause-end : goal.finish-requires-in-Ended-clause-end
finish-requires-in-Ended-clause-end g c κs within =
    let t = typed_program c.args.job.now.program.now in
    let s = subst (λ (s : Settled). SettlesKept t c.args.job.now.limits c.args.snapshot.now.version c.deref-kept.result.now s) c.in-Ended.is c.in_ok-end.ensures.settles in
    says t c.args.job.now.icfg.now c.args.job.now.limits c.args.job.now.cell.now c.args.pass.now c.args.snapshot.now.version (arc_value c.args.snapshot.now.kept) s.0 c.in-Ended.end
    c.requires.job c.requires.pass.of_cell c.requires.seen (subst (λ (m : Automaton). Accepts m s.0) c.deref-kept.ensures s.1) s.2

pub returns-in-Ended-clause-pass : goal.returns-in-Ended-clause-pass
returns-in-Ended-clause-pass g c = c.finish-in-Ended.ensures.pass

pub returns-in-Ended-clause-turn : goal.returns-in-Ended-clause-turn
returns-in-Ended-clause-turn g c = c.finish-in-Ended.ensures.turn

pub returns-in-Removed-clause-pass : goal.returns-in-Removed-clause-pass
returns-in-Removed-clause-pass g c = c.requires.pass

pub returns-in-Empty-clause-grows : goal.returns-in-Empty-clause-grows
returns-in-Empty-clause-grows g c = c.finish.ensures.grows

pub returns-in-Ended-clause-grows : goal.returns-in-Ended-clause-grows
returns-in-Ended-clause-grows g c = c.finish-in-Ended.ensures.grows

pub returns-in-Removed-clause-grows : goal.returns-in-Removed-clause-grows
returns-in-Removed-clause-grows g c = begins_same c.args.pass.now.seen c.args.pass.now.seen refl

pub returns-in-Removed-clause-turn : goal.returns-in-Removed-clause-turn
returns-in-Removed-clause-turn g c =
    let t = typed_program c.args.job.now.program.now in
    let s = subst (λ (s : Settled). SettlesKept t c.args.job.now.limits c.args.snapshot.now.version c.deref-kept.result.now s) c.in-Removed.is c.in_ok-end.ensures.settles in
    let k = kept t c.args.job.now.icfg.now c.args.job.now.limits c.args.job.now.cell.now c.args.pass.now c.args.snapshot.now.version (arc_value c.args.snapshot.now.kept) s.0
    c.requires.job c.requires.pass.of_cell c.requires.seen (subst (λ (m : Automaton). Accepts m s.0) c.deref-kept.ensures s.1) in
    made t c.args.pass.now s.0 c.in-Removed.entry k (settled_own t c.args.job.now.limits c.args.snapshot.now.version s.0 c.in-Removed.entry s.2) s.2.1
