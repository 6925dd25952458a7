use Rattle.std.proofs.Common.{◌≡◌, List, Option, IfSome, sym, subst}
use Rattle.std.specs.List.{AllByRecursion}
use Rattle.letter_acts.specs.Invariant.{alphabet_of}
use Rattle.triple_rows.specs.Proofs.{PlainProof}
use Rattle.itp_automaton.specs.Certified.{Certificate}
use Rattle.itp_automaton.specs.Making.{HasStates, HasEdges}
use Rattle.proof_reuse.specs.Candidates.{IsCandidate}
use Rattle.proof_reuse.proofs.ReuseLaws.{states_found, candidates_named, settled_edges, not_missing}
use Rattle.proof_reuse.proofs.reusing.reuse.Goals as goal

pub certified-requires : goal.certified-requires
certified-requires g c = c.in_ok-preds.ensures.4.proved

pub unreachable-requires : goal.unreachable-requires
unreachable-requires g c =
    not_missing c.in_ok-certified.field-0
    (c.in_ok-certified.ensures.found.1
    (candidates_named c.args.icfg.now c.args.old.now _ c.in_ok-preds.ensures.3 c.in_ok-preds.proofs.items c.in_ok-preds.ensures.4.candidates)) c.in-None.is

pub returns-clause-states : goal.returns-clause-states
returns-clause-states g c =
    states_found c.args.icfg.now c.args.old.now _ c.in_ok-preds.ensures.3 c.in-Some.certified
    (subst (λ (o : Option Certificate). IfSome o (HasStates c.args.icfg.now c.in_ok-preds.preds.items)) c.in-Some.is c.in_ok-certified.ensures.states)

pub returns-clause-candidates : goal.returns-clause-candidates
returns-clause-candidates g c =
    subst (λ (ps : List PlainProof). AllByRecursion (λ p. IsCandidate c.args.icfg.now c.args.old.now p.triple) ps)
    (sym (subst (λ (o : Option Certificate). IfSome o (λ k. k.proofs ≡ c.in_ok-preds.proofs.items)) c.in-Some.is c.in_ok-certified.ensures.proofs))
    c.in_ok-preds.ensures.4.candidates

pub returns-clause-all : goal.returns-clause-all
returns-clause-all g c =
    settled_edges c.args.icfg.now c.args.old.now _ c.in_ok-preds.ensures.3 c.in_ok-preds.proofs.items c.in-Some.certified
    c.in_ok-preds.ensures.4
    (subst (λ (o : Option Certificate). IfSome o (HasEdges (alphabet_of c.args.icfg.now) c.in_ok-preds.proofs.items)) c.in-Some.is c.in_ok-certified.ensures.edges)
