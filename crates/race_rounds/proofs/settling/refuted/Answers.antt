use Rattle.std.proofs.Common.{List, refl, sym, subst}
use Rattle.nwa_base.specs.declared.letters.Letter.{Letter}
use Rattle.lowered_graph.specs.Lowered.{lowered}
use Rattle.race_rounds.specs.declared.refining.Refined.{Refined}
use Rattle.race_rounds.specs.declared.settling.Settled.{Settled}
use Rattle.race_rounds.specs.Ends.{CauseMeets}
use Rattle.race_rounds.specs.Rounds.{IsEvidence, IsRefined, SettlesWord}
use Rattle.race_rounds.proofs.Says.{rounds_say}
use Rattle.race_rounds.proofs.settling.refuted.Goals as goal

pub returns-then-round-limits : goal.returns-then-round-limits
returns-then-round-limits g c = λ t e.
    subst (λ (s : Settled). SettlesWord t c.args.limits c.args.round.version c.args.word s) (sym c.unknown.ensures)
    (rounds_say t c.args.icfg.now c.args.limits c.args.round.version c.args.path.now.word c.args.word c.args.refutation.now e c.requires.word
    c.if-round-limits.true c.requires.refutation.refutes)

pub returns-in-Evidence : goal.returns-in-Evidence
returns-in-Evidence g c = λ t e.
    let x = subst (λ (f : Refined). IsRefined t c.args.limits c.args.round.version c.args.path.now.word f) c.in-Evidence.is (c.in_ok-evidence.ensures t e c.args.round.version) in
    (c.if-round-limits.false, refl, subst (λ (w : List Letter). IsEvidence (lowered t) w c.in-Evidence.evidence) c.requires.word x)

pub returns-in-Unknown : goal.returns-in-Unknown
returns-in-Unknown g c = λ t e.
    let x = subst (λ (f : Refined). IsRefined t c.args.limits c.args.round.version c.args.path.now.word f) c.in-Unknown.is (c.in_ok-evidence.ensures t e c.args.round.version) in
    subst (λ (s : Settled). SettlesWord t c.args.limits c.args.round.version c.args.word s) (sym c.unknown-in-Unknown.ensures)
    (refl, subst (λ (w : List Letter). CauseMeets t c.args.limits c.args.round.version c.in-Unknown.cause w) c.requires.word x)
