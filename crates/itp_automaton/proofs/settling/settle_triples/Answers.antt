use Rattle.std.proofs.Common.{◌∙◌, ◌++◌, List, length, get_or, sym, subst}
use Rattle.std.specs.List.{AllByRecursion}
use Rattle.rayon.proofs.ListFacts.{IfOk-then}
use Rattle.letter_acts.specs.Invariant.{alphabet_of}
use Rattle.triple_rows.specs.Proofs.{PlainProof}
use Rattle.itp_automaton.specs.declared.settling.Target.{Target}
use Rattle.itp_automaton.specs.declared.sources.Source.{Source}
use Rattle.itp_automaton.specs.declared.sources.Source.TheVariants.{Inside}
use Rattle.itp_automaton.specs.Settling.{IsWithin, AgreesTo, IsTarget, IsGrounded, SettlesTargets}
use Rattle.itp_automaton.proofs.PlaceSteps.{at_place}
use Rattle.itp_automaton.proofs.SettlingLaws.{none_left, some_left, targets_from, none_from, pairs_settle}
use Rattle.itp_automaton.proofs.settling.settle_triples.Goals as goal

pub returns-then-is_empty : goal.returns-then-is_empty
returns-then-is_empty c =
    let al = alphabet_of c.args.icfg.now in
    record {
      grounded = subst (λ (ps : List PlainProof). AllByRecursion (IsGrounded al c.args.states.now) ps) (sym c.new.ensures.items) tt;
      settled = none_from al c.args.states.now c.args.letter c.args.proc c.args.sources.now c.args.known.now c.new.result.items c.requires
          (none_left c.args.sources.now (sym c.is_empty.ensures ∙ c.if-is_empty.true));
    }

pub targets_of-requires-clause-within : goal.targets_of-requires-clause-within
targets_of-requires-clause-within c =
    at_place (IsWithin (length c.args.states.now)) c.args.sources.now 0 (Inside 0) (some_left c.args.sources.now (sym c.is_empty.ensures ∙ c.if-is_empty.false)) c.requires.within

pub targets_of-requires-clause-agrees : goal.targets_of-requires-clause-agrees
targets_of-requires-clause-agrees c =
    at_place (AgreesTo (alphabet_of c.args.icfg.now) c.args.states.now c.args.letter c.args.proc) c.args.sources.now 0 (Inside 0)
    (some_left c.args.sources.now (sym c.is_empty.ensures ∙ c.if-is_empty.false)) c.requires.agree

pub settle_sources-requires-clause-targets : goal.settle_sources-requires-clause-targets
settle_sources-requires-clause-targets c =
    let al = alphabet_of c.args.icfg.now in
    let P : Source → Type 0 = AgreesTo al c.args.states.now c.args.letter c.args.proc in
    let first = get_or c.args.sources.now 0 (Inside 0) in
    let agrees : P first = at_place P c.args.sources.now 0 (Inside 0) (some_left c.args.sources.now (sym c.is_empty.ensures ∙ c.if-is_empty.false)) c.requires.agree in
    targets_from al c.args.states.now c.args.letter c.args.proc first c.args.sources.now c.deref.result.now agrees c.requires.agree
    (subst (AllByRecursion (IsTarget al c.args.states.now c.args.letter c.args.proc first)) (sym c.deref.ensures.value) c.in_ok-targets.ensures.each)

pub returns : goal.returns
returns c =
    let al = alphabet_of c.args.icfg.now in
    let states = c.args.states.now in
    let sources = c.args.sources.now in
    IfOk-then c.settle_sources.result _ _ c.settle_sources.ensures (λ found h. record {
      grounded = h.grounded;
      settled = pairs_settle al states c.args.letter c.args.proc sources (get_or sources 0 (Inside 0)) c.in_ok-targets.targets.items c.args.known.now found.items c.requires c.in_ok-targets.ensures
          (subst (λ (ts : List Target). AllByRecursion (SettlesTargets al states c.args.letter (c.args.known.now ++ found.items) ts) sources) c.deref.ensures.value h.settled);
    })
