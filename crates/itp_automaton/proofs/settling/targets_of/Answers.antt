use Rattle.std.proofs.Common.{◌∙◌, ℕ, List, map, sym, ap, subst}
use Rattle.std.proofs.lemmas.List.{take_all}
use Rattle.std.specs.List.{AllByRecursion}
use Rattle.letter_acts.specs.Invariant.{alphabet_of}
use Rattle.itp_automaton.specs.declared.settling.Target.{Target}
use Rattle.itp_automaton.specs.Settling.{IsStateIn, AreStatesIn, IsTarget}
use Rattle.itp_automaton.proofs.BuiltLaws.{all_push}
use Rattle.itp_automaton.proofs.PlaceSteps.{at_place}
use Rattle.itp_automaton.proofs.SettlingLaws.{states_more}
use Rattle.itp_automaton.proofs.settling.targets_of.Goals as goal

pub loop-q-init : goal.loop-q-init
loop-q-init c = record {
  each = subst (AllByRecursion (IsTarget (alphabet_of c.args.icfg.now) c.args.states.now c.args.letter c.args.proc c.args.source)) (sym c.in_ok-targets.ensures.items) tt;
  taken = ap (λ (ts : List Target). map (λ t. t.state) ts) c.in_ok-targets.ensures.items;
}

pub target_at-requires-clause-state : goal.target_at-requires-clause-state
target_at-requires-clause-state c =
    let P : ℕ → Type 0 = IsStateIn (alphabet_of c.args.icfg.now) c.args.states.now c.args.proc in
    at_place P c.deref-q-items.result.now c.loop-q.q-index 0 c.loop-q-test.true
    (subst (AllByRecursion P) (sym c.deref-q-items.ensures.value) c.in_ok-found.ensures.each)

pub loop-q-preserved : goal.loop-q-preserved
loop-q-preserved c =
    let P = IsTarget (alphabet_of c.args.icfg.now) c.args.states.now c.args.letter c.args.proc c.args.source in
    let old = c.loop-q.targets.items in
    let t = c.in_ok-target.target in
    record {
      each = subst (AllByRecursion P) (sym c.in_ok-push.ensures.items) (all_push P old t c.loop-q.invariant.each c.in_ok-target.ensures.target);
      taken = states_more old c.push.new.self.items t c.deref-q-items.result.now c.loop-q.q-index c.loop-q-test.true c.in_ok-target.ensures.state c.loop-q.invariant.taken c.in_ok-push.ensures.items;
    }

pub returns : goal.returns
returns c =
    let slice = c.deref-q-items.result.now in
    record {
      each = c.loop-q.invariant.each;
      found = subst (AreStatesIn (alphabet_of c.args.icfg.now) c.args.states.now c.args.proc)
          (sym (c.loop-q.invariant.taken ∙ take_all c.loop-q.q-index slice c.loop-q-test.false ∙ c.deref-q-items.ensures.value)) c.in_ok-found.ensures;
    }
