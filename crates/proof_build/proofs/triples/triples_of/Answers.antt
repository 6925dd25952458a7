use Rattle.std.proofs.Common.{List, [], Bor, map, take, sym, subst}
use Rattle.triple_rows.specs.Proofs.{PlainProof}
use Rattle.itp_automaton.specs.Certified.{Certificate}
use Rattle.proof_names.specs.declared.proof_spell.drafts.Shown.{Shown}
use Rattle.proof_names.specs.ProofSpell.Drafts.{plain}
use Rattle.proof_build.specs.Ties.Listing.{Shows, AreTriplesOf, AreNumbersOf}
use Rattle.proof_build.proofs.ListLaws.{images_next, images_end}
use Rattle.proof_build.proofs.TripleLaws.{certificate_shown, no_numbers, no_triples, needed_once}
use Rattle.proof_build.proofs.triples.triples_of.Goals as goal

pub loop-automaton-init : goal.loop-automaton-init
loop-automaton-init c = record {
  triples = subst (λ (l : List Shown). AreTriplesOf c.args.preds.now [] c.args.needed.now (map plain l)) (sym c.new-triples.ensures.items) (no_triples c.args.preds.now c.args.needed.now);
  numbers = subst (λ (l : List Shown). AreNumbersOf c.args.needed.now c.new-seen.result (map plain l)) (sym c.new-triples.ensures.items)
      (no_numbers c.args.needed.now c.new-seen.result c.new-seen.ensures);
}

pub with_proofs-requires : goal.with_proofs-requires
with_proofs-requires c = c.loop-automaton.invariant.numbers

pub loop-automaton-preserved : goal.loop-automaton-preserved
loop-automaton-preserved c = record {
  triples = subst (λ (cs : List Certificate). AreTriplesOf c.args.preds.now cs c.args.needed.now (map plain c.in_ok-triples.triples.items))
      (sym (images_next (λ (r : Bor Certificate). r.now) c.args.automata.now c.loop-automaton.automaton-index c.automaton-item.result c.automaton-item.result c.loop-automaton-test.true c.automaton-item.is))
      (certificate_shown c.args.preds.now c.args.needed.now (map (λ (r : Bor Certificate). r.now) (take c.loop-automaton.automaton-index c.args.automata.now)) c.automaton-item.result.now
      (map plain c.loop-automaton.triples.items) (map plain c.in_ok-triples.triples.items) c.loop-automaton.invariant.triples
      (subst (λ (ps : List PlainProof). Shows c.args.preds.now c.args.needed.now ps (map plain c.loop-automaton.triples.items) (map plain c.in_ok-triples.triples.items)) c.proofs.ensures.value
      c.in_ok-triples.ensures.shows));
  numbers = c.in_ok-triples.ensures.numbers;
}

pub returns-clause-triples : goal.returns-clause-triples
returns-clause-triples c =
    subst (λ (cs : List Certificate). AreTriplesOf c.args.preds.now cs c.args.needed.now (map plain c.loop-automaton.triples.items))
    (images_end (λ (r : Bor Certificate). r.now) c.args.automata.now c.loop-automaton.automaton-index c.loop-automaton-test.false) c.loop-automaton.invariant.triples

pub returns-clause-once : goal.returns-clause-once
returns-clause-once c = needed_once c.args.needed.now c.loop-automaton.seen (map plain c.loop-automaton.triples.items) c.loop-automaton.invariant.numbers
