use Rattle.std.proofs.Common.{Option, IsSome, sym, subst, refl}
use Rattle.nwa_base.specs.Automata.{Automaton}
use Rattle.letter_acts.specs.Kept.{Keeps}
use Rattle.letter_acts.specs.Invariant.{IsGraph, alphabet_of}
use Rattle.itp_automaton.specs.Certified.{Certificate, IsCertified}
use Rattle.itp_automaton.specs.Ties.Edges.{IsBuilt}
use Rattle.itp_automaton.proofs.BuiltLaws.{built_certified, built_named}
use Rattle.itp_automaton.proofs.AssembledSteps.{built_over, named_over, certified_over}
use Rattle.itp_automaton.proofs.assembling.assembled.Goals as goal

pub new-requires : goal.new-requires
unfolding Keeps
new-requires c =
    let k : IsGraph c.args.icfg.now = c.in_ok-nwa.ensures.valid in
    let built = built_over c.args.icfg.now c.args.states c.args.states c.deref.result.now c.args.proofs.items c.in_ok-nwa.field-0 c.in-Some.nwa refl c.deref.ensures.value c.in-Some.is c.in_ok-nwa.ensures.built in (
      alphabet_of c.args.icfg.now,
      certified_over (alphabet_of c.args.icfg.now) c.into_vec.result.items c.args.states c.args.proofs.items c.in-Some.nwa c.into_vec.ensures
          (built_certified c.args.icfg.now c.args.states c.args.proofs.items c.in-Some.nwa k c.requires.proofs built),
    )

pub returns-in-Some-clause-found : goal.returns-in-Some-clause-found
returns-in-Some-clause-found c =
    let built = built_over c.args.icfg.now c.args.states c.args.states c.deref.result.now c.args.proofs.items c.in_ok-nwa.field-0 c.in-Some.nwa refl c.deref.ensures.value c.in-Some.is c.in_ok-nwa.ensures.built in
    (λ e. built_named c.args.icfg.now c.args.states c.args.proofs.items c.in-Some.nwa built, λ e. refl)

pub returns-in-Some-clause-certified : goal.returns-in-Some-clause-certified
unfolding Keeps
returns-in-Some-clause-certified c =
    let k : IsGraph c.args.icfg.now = c.in_ok-nwa.ensures.valid in
    let built = built_over c.args.icfg.now c.args.states c.args.states c.deref.result.now c.args.proofs.items c.in_ok-nwa.field-0 c.in-Some.nwa refl c.deref.ensures.value c.in-Some.is c.in_ok-nwa.ensures.built in
    subst (IsCertified (alphabet_of c.args.icfg.now)) (sym c.new.ensures)
    (certified_over (alphabet_of c.args.icfg.now) c.into_vec.result.items c.args.states c.args.proofs.items c.in-Some.nwa c.into_vec.ensures
    (built_certified c.args.icfg.now c.args.states c.args.proofs.items c.in-Some.nwa k c.requires.proofs built))

pub returns-in-Some-clause-built : goal.returns-in-Some-clause-built
returns-in-Some-clause-built c =
    let built = built_over c.args.icfg.now c.args.states c.args.states c.deref.result.now c.args.proofs.items c.in_ok-nwa.field-0 c.in-Some.nwa refl c.deref.ensures.value c.in-Some.is c.in_ok-nwa.ensures.built in
    subst (λ (x : Certificate). IsBuilt c.args.icfg.now c.args.states c.args.proofs.items x.automaton) (sym c.new.ensures) built

pub returns-in-None-clause-found : goal.returns-in-None-clause-found
returns-in-None-clause-found c =
    let found = named_over c.args.states c.args.states c.deref.result.now c.args.proofs.items c.in_ok-nwa.field-0 refl c.deref.ensures.value c.in_ok-nwa.ensures.found in
    (λ e. cc, λ all. subst (λ (o : Option Automaton). IsSome o) c.in-None.is (found.1 all))
