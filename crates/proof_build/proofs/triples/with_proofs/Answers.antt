use Rattle.std.proofs.Common.{List, [], ◌∷◌, take, sym, subst}
use Rattle.std.specs.Prelude.{map}
use Rattle.std.proofs.lemmas.List.{take_all}
use Rattle.triple_rows.specs.Proofs.{PlainProof}
use Rattle.itp_automaton.proofs.StateLaws.{take_next}
use Rattle.proof_names.specs.ProofSpell.Drafts.{plain}
use Rattle.proof_build.specs.Ties.Listing.{Shows}
use Rattle.proof_build.proofs.TripleLaws.{shows_none, shows_joined}
use Rattle.proof_build.proofs.triples.with_proofs.Goals as goal

pub loop-proof-init : goal.loop-proof-init
loop-proof-init c = record { shows = shows_none c.args.preds.now c.args.needed.now (map plain c.args.triples.items); numbers = c.requires }

pub loop-proof-preserved : goal.loop-proof-preserved
loop-proof-preserved c = record {
  shows = subst (λ (ps : List PlainProof). Shows c.args.preds.now c.args.needed.now ps (map plain c.args.triples.items) (map plain c.in_ok-triples.triples.items))
      (sym (take_next c.args.proofs.now c.loop-proof.proof-index c.proof-item.result c.loop-proof-test.true c.proof-item.is))
      (shows_joined c.args.preds.now c.args.needed.now (take c.loop-proof.proof-index c.args.proofs.now) (c.proof-item.result ∷ []) (map plain c.args.triples.items)
      (map plain c.loop-proof.triples.items) (map plain c.in_ok-triples.triples.items) c.loop-proof.invariant.shows c.in_ok-triples.ensures.shows);
  numbers = c.in_ok-triples.ensures.numbers;
}

pub returns-clause-shows : goal.returns-clause-shows
returns-clause-shows c =
    subst (λ (ps : List PlainProof). Shows c.args.preds.now c.args.needed.now ps (map plain c.args.triples.items) (map plain c.loop-proof.triples.items))
    (take_all c.loop-proof.proof-index c.args.proofs.now c.loop-proof-test.false) c.loop-proof.invariant.shows

pub returns-clause-numbers : goal.returns-clause-numbers
returns-clause-numbers c = c.loop-proof.invariant.numbers
