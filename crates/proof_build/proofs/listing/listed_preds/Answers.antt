use Rattle.std.proofs.Common.{◌≡◌, List, Bor, length, map, take, sym, subst, ap, arith}
use Rattle.std.specs.List.{AllByRecursion}
use Rattle.letter_acts.specs.Invariant.{alphabet_of}
use Rattle.triple_rows.specs.Proofs.{PlainProof}
use Rattle.hoare_check.specs.Decided.{IsProofFor}
use Rattle.itp_automaton.specs.Certified.{Certificate, IsCertified}
use Rattle.proof_build.specs.Numbering.{AreNumbered, AreAllNumbered}
use Rattle.proof_build.proofs.ListLaws.{all_push, images_next, images_end, image_at}
use Rattle.proof_build.proofs.NumberLaws.{certificates_stay}
use Rattle.proof_build.proofs.listing.listed_preds.Goals as goal

pub list_proofs-requires-clause-proofs : goal.list_proofs-requires-clause-proofs
list_proofs-requires-clause-proofs c =
    subst (λ (ps : List PlainProof). AllByRecursion (IsProofFor (alphabet_of c.args.icfg.now)) ps) (sym c.proofs.ensures.value)
    (image_at (IsCertified (alphabet_of c.args.icfg.now)) (λ (r : Bor Certificate). r.now) c.args.automata.now c.loop-automaton.automaton-index c.automaton-item.result c.loop-automaton-test.true
    c.automaton-item.is c.requires).proofs

pub loop-automaton-preserved : goal.loop-automaton-preserved
loop-automaton-preserved c = record {
  listed = c.in_ok-list_proofs.ensures.more.listed;
  numbered = subst (λ (cs : List Certificate). AreAllNumbered c.args.icfg.now c.list_proofs.new.preds cs)
      (sym (images_next (λ (r : Bor Certificate). r.now) c.args.automata.now c.loop-automaton.automaton-index c.automaton-item.result c.automaton-item.result c.loop-automaton-test.true c.automaton-item.is))
      (all_push (λ (d : Certificate). AreNumbered c.args.icfg.now c.list_proofs.new.preds d.proofs)
      (map (λ (r : Bor Certificate). r.now) (take c.loop-automaton.automaton-index c.args.automata.now)) c.automaton-item.result.now
      (certificates_stay c.args.icfg.now c.loop-automaton.preds c.list_proofs.new.preds (map (λ (r : Bor Certificate). r.now) (take c.loop-automaton.automaton-index c.args.automata.now))
      c.in_ok-list_proofs.ensures.more c.loop-automaton.invariant.numbered)
      (subst (λ (ps : List PlainProof). AreNumbered c.args.icfg.now c.list_proofs.new.preds ps) c.proofs.ensures.value c.in_ok-list_proofs.ensures.numbered));
  none = λ e. let k : length c.args.automata.now ≡ 0 = ap length e in absurd (omega (arith, k, c.loop-automaton-test.true));
}

pub returns-clause-numbered : goal.returns-clause-numbered
returns-clause-numbered c =
    subst (λ (cs : List Certificate). AreAllNumbered c.args.icfg.now c.loop-automaton.preds cs)
    (images_end (λ (r : Bor Certificate). r.now) c.args.automata.now c.loop-automaton.automaton-index c.loop-automaton-test.false) c.loop-automaton.invariant.numbered
