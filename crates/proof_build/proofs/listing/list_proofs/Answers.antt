use Rattle.std.proofs.Common.{take, sym, subst}
use Rattle.std.specs.List.{AllByRecursion}
use Rattle.letter_acts.specs.Invariant.{alphabet_of}
use Rattle.triple_rows.specs.declared.triples.Triple.{Triple}
use Rattle.triple_rows.specs.Triples.{Agrees}
use Rattle.hoare_check.specs.Decided.{IsProofFor}
use Rattle.itp_automaton.specs.Making.{named_in}
use Rattle.proof_build.specs.Numbering.{IsNumbered}
use Rattle.proof_build.proofs.ListLaws.{all_at, all_next}
use Rattle.proof_build.proofs.NumberLaws.{no_more, more_on, proofs_stay}
use Rattle.proof_build.proofs.listing.list_proofs.Goals as goal

pub list_triple-requires-clause-agrees : goal.list_triple-requires-clause-agrees
list_triple-requires-clause-agrees c =
    subst (λ (t : Triple). Agrees (alphabet_of c.args.icfg.now) t) (sym c.triple.ensures.value)
    (all_at (IsProofFor (alphabet_of c.args.icfg.now)) c.args.proofs.now c.loop-proof.proof-index c.proof-item.result c.loop-proof-test.true c.proof-item.is c.requires.proofs).agrees

pub loop-proof-init : goal.loop-proof-init
loop-proof-init c = record { more = no_more c.args.icfg.now c.args.preds.now c.requires.listed; numbered = tt }

pub loop-proof-preserved : goal.loop-proof-preserved
loop-proof-preserved c = record {
  more = more_on c.args.icfg.now c.args.preds.now c.loop-proof.preds c.list_triple.new.preds c.loop-proof.invariant.more c.in_ok-list_triple.ensures.more;
  numbered = all_next (λ p. AllByRecursion (IsNumbered c.args.icfg.now c.list_triple.new.preds) (named_in p.triple)) c.args.proofs.now c.loop-proof.proof-index c.proof-item.result
      c.loop-proof-test.true c.proof-item.is
      (proofs_stay c.args.icfg.now c.loop-proof.preds c.list_triple.new.preds (take c.loop-proof.proof-index c.args.proofs.now) c.in_ok-list_triple.ensures.more c.loop-proof.invariant.numbered)
      (subst (λ (t : Triple). AllByRecursion (IsNumbered c.args.icfg.now c.list_triple.new.preds) (named_in t)) c.triple.ensures.value c.in_ok-list_triple.ensures.numbered);
}
