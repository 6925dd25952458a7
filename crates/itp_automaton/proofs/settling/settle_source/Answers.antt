use Rattle.std.proofs.Common.{◌++◌, List, take, sym, subst}
use Rattle.std.proofs.lemmas.List.{take_all}
use Rattle.letter_acts.specs.Invariant.{alphabet_of}
use Rattle.itp_automaton.specs.declared.settling.Target.{Target}
use Rattle.itp_automaton.specs.Settling.{IsTarget, SettlesTargets, SettlesTriple, state_at, triple_from}
use Rattle.itp_automaton.proofs.StateLaws.{take_next}
use Rattle.itp_automaton.proofs.BuiltLaws.{all_push}
use Rattle.itp_automaton.proofs.SettlingLaws.{adds_none, adds_more, targets_later, all_at}
use Rattle.itp_automaton.proofs.settling.settle_source.Goals as goal

pub loop-target-init : goal.loop-target-init
loop-target-init c = record { adds = adds_none (alphabet_of c.args.icfg.now) c.args.states.now c.args.found.now.items; settled = tt }

pub settle_pair-requires-clause-target : goal.settle_pair-requires-clause-target
settle_pair-requires-clause-target c =
    all_at (IsTarget (alphabet_of c.args.icfg.now) c.args.states.now c.args.letter c.args.proc c.args.source) c.args.targets.now c.loop-target.target-index c.target-item.result
    c.loop-target-test.true c.target-item.is c.requires.targets

pub loop-target-preserved : goal.loop-target-preserved
loop-target-preserved c =
    let al = alphabet_of c.args.icfg.now in
    let states = c.args.states.now in
    let targets = c.args.targets.now in
    let i = c.loop-target.target-index in
    let t = c.target-item.result in
    let known = c.args.known.now in
    let old = c.loop-target.found.items in
    let new = c.settle_pair.new.found.items in
    let adds = c.in_ok-settle_pair.ensures.adds in
    let done : SettlesTargets al states c.args.letter (known ++ new) (take i targets) c.args.source =
    targets_later al states c.args.letter known old new (take i targets) c.args.source adds.kept c.loop-target.invariant.settled in
    record {
      adds = adds_more al states c.args.found.now.items old new c.loop-target.invariant.adds adds;
      settled =
          subst (λ (l : List Target). SettlesTargets al states c.args.letter (known ++ new) l c.args.source) (sym (take_next targets i t c.loop-target-test.true c.target-item.is))
          (all_push (λ x. SettlesTriple al (known ++ new) (triple_from states c.args.source c.args.letter (state_at states x.state))) (take i targets) t done c.in_ok-settle_pair.ensures.settled);
    }

pub returns-clause-settled : goal.returns-clause-settled
returns-clause-settled c =
    subst (λ (l : List Target). SettlesTargets (alphabet_of c.args.icfg.now) c.args.states.now c.args.letter (c.args.known.now ++ c.loop-target.found.items) l c.args.source)
    (take_all c.loop-target.target-index c.args.targets.now c.loop-target-test.false) c.loop-target.invariant.settled
