use Rattle.std.proofs.Common.{◌∙◌, ◌++◌, length, take, get_or, sym, subst}
use Rattle.std.proofs.lemmas.List.{take_more, take_all}
use Rattle.std.specs.List.{AllByRecursion}
use Rattle.letter_acts.specs.Invariant.{alphabet_of}
use Rattle.itp_automaton.specs.declared.settling.Target.{Target}
use Rattle.itp_automaton.specs.declared.sources.Source.{Source}
use Rattle.itp_automaton.specs.declared.sources.Source.TheVariants.{Inside}
use Rattle.itp_automaton.specs.Settling.{IsWithin, AgreesTo, IsTarget, IsGrounded, SettlesTargets}
use Rattle.itp_automaton.proofs.BuiltLaws.{all_push}
use Rattle.itp_automaton.proofs.PlaceSteps.{at_place}
use Rattle.itp_automaton.proofs.SettlingLaws.{none_left, some_left, none_to, sources_later}
use Rattle.itp_automaton.proofs.settling.settle_sources.Goals as goal

pub returns-then-is_empty : goal.returns-then-is_empty
returns-then-is_empty c =
    let al = alphabet_of c.args.icfg.now in
    record {
      grounded = subst (AllByRecursion (IsGrounded al c.args.states.now)) (sym c.new.ensures.items) tt;
      settled = none_to al c.args.states.now c.args.letter (c.args.known.now ++ c.new.result.items) c.args.targets.now c.args.sources.now
          (none_left c.args.targets.now (sym c.is_empty.ensures ∙ c.if-is_empty.true));
    }

pub loop-source-init : goal.loop-source-init
loop-source-init c = record { grounded = subst (AllByRecursion (IsGrounded (alphabet_of c.args.icfg.now) c.args.states.now)) (sym c.new-found.ensures.items) tt; settled = tt }

pub source_at-requires-clause-within : goal.source_at-requires-clause-within
source_at-requires-clause-within c = at_place (IsWithin (length c.args.states.now)) c.args.sources.now c.loop-source.source-index (Inside 0) c.loop-source-test.true c.requires.within

pub source_at-requires-clause-agrees : goal.source_at-requires-clause-agrees
source_at-requires-clause-agrees c =
    at_place (AgreesTo (alphabet_of c.args.icfg.now) c.args.states.now c.args.letter c.args.proc) c.args.sources.now c.loop-source.source-index (Inside 0) c.loop-source-test.true c.requires.agree

pub source_at-requires-clause-state : goal.source_at-requires-clause-state
source_at-requires-clause-state c =
    let P : Source → Target → Type 0 = IsTarget (alphabet_of c.args.icfg.now) c.args.states.now c.args.letter c.args.proc in
    let n = c.loop-source.source-index in
    (at_place (P (get_or c.args.sources.now n (Inside 0))) c.args.targets.now 0 c.index-targets-0.result (some_left c.args.targets.now (sym c.is_empty.ensures ∙ c.if-is_empty.false))
    (at_place (λ s. AllByRecursion (P s) c.args.targets.now) c.args.sources.now n (Inside 0) c.loop-source-test.true c.requires.targets)).state

pub settle_source-requires-clause-within : goal.settle_source-requires-clause-within
settle_source-requires-clause-within c = at_place (IsWithin (length c.args.states.now)) c.args.sources.now c.loop-source.source-index (Inside 0) c.loop-source-test.true c.requires.within

pub settle_source-requires-clause-agrees : goal.settle_source-requires-clause-agrees
settle_source-requires-clause-agrees c =
    at_place (AgreesTo (alphabet_of c.args.icfg.now) c.args.states.now c.args.letter c.args.proc) c.args.sources.now c.loop-source.source-index (Inside 0) c.loop-source-test.true c.requires.agree

pub settle_source-requires-clause-targets : goal.settle_source-requires-clause-targets
settle_source-requires-clause-targets c =
    at_place (λ s. AllByRecursion (IsTarget (alphabet_of c.args.icfg.now) c.args.states.now c.args.letter c.args.proc s) c.args.targets.now) c.args.sources.now c.loop-source.source-index (Inside 0)
    c.loop-source-test.true c.requires.targets

pub loop-source-preserved : goal.loop-source-preserved
loop-source-preserved c =
    let al = alphabet_of c.args.icfg.now in
    let states = c.args.states.now in
    let sources = c.args.sources.now in
    let n = c.loop-source.source-index in
    let known = c.args.known.now in
    let targets = c.args.targets.now in
    let old = c.loop-source.found.items in
    let new = c.settle_source.new.found.items in
    let adds = c.in_ok-settle_source.ensures.adds in
    record {
      grounded = adds.grounded c.loop-source.invariant.grounded;
      settled =
          subst (AllByRecursion (SettlesTargets al states c.args.letter (known ++ new) targets)) (sym (take_more sources n (Inside 0) c.loop-source-test.true))
          (all_push (SettlesTargets al states c.args.letter (known ++ new) targets) (take n sources) (get_or sources n (Inside 0))
          (sources_later al states c.args.letter known old new targets (take n sources) adds.kept c.loop-source.invariant.settled) c.in_ok-settle_source.ensures.settled);
    }

pub returns : goal.returns
returns c = record {
  grounded = c.loop-source.invariant.grounded;
  settled =
      subst (AllByRecursion (SettlesTargets (alphabet_of c.args.icfg.now) c.args.states.now c.args.letter (c.args.known.now ++ c.loop-source.found.items) c.args.targets.now))
      (take_all c.loop-source.source-index c.args.sources.now c.loop-source-test.false) c.loop-source.invariant.settled;
}
