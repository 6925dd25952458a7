-- Automata over lent states and proofs.
use Rattle.std.proofs.Common.{◌≡◌, ◌↔◌, List, Option, Some, IsSome, IfSome, sym, subst}
use Rattle.std.specs.List.{AllByRecursion}
use Rattle.nwa_base.specs.Automata.{Automaton}
use Rattle.letter_acts.specs.Acts.{Alphabet}
use Rattle.letter_acts.specs.Invariant.{Graph}
use Rattle.triple_rows.specs.declared.triples.Scoped.{Scoped}
use Rattle.triple_rows.specs.Proofs.{PlainProof}
use Rattle.itp_automaton.specs.Settling.{NamesStates}
use Rattle.itp_automaton.specs.Certified.{IsCertified}
use Rattle.itp_automaton.specs.Ties.Edges.{IsBuilt}

pub built_over : (g : Graph) (lent states : List Scoped) (lent_proofs proofs : List PlainProof) (o : Option Automaton) (m : Automaton) → lent ≡ states → lent_proofs ≡ proofs → o ≡ Some m →
    IfSome o (IsBuilt g lent lent_proofs) → IsBuilt g states proofs m
built_over g lent states lent_proofs proofs o m e f h b =
    subst (λ (ss : List Scoped). IsBuilt g ss proofs m) e
    (subst (λ (ps : List PlainProof). IsBuilt g lent ps m) f (subst (λ (x : Option Automaton). IfSome x (IsBuilt g lent lent_proofs)) h b))

pub named_over : (lent states : List Scoped) (lent_proofs proofs : List PlainProof) (o : Option Automaton) → lent ≡ states → lent_proofs ≡ proofs →
    IsSome o ↔ AllByRecursion (λ p. NamesStates lent p.triple) lent_proofs → IsSome o ↔ AllByRecursion (λ p. NamesStates states p.triple) proofs
named_over lent states lent_proofs proofs o e f h =
    subst (λ (ss : List Scoped). IsSome o ↔ AllByRecursion (λ p. NamesStates ss p.triple) proofs) e
    (subst (λ (ps : List PlainProof). IsSome o ↔ AllByRecursion (λ p. NamesStates lent p.triple) ps) f h)

pub certified_over : (al : Alphabet) (list states : List Scoped) (proofs : List PlainProof) (m : Automaton) → list ≡ states →
    IsCertified al (record { preds = states; proofs = proofs; automaton = m }) → IsCertified al (record { preds = list; proofs = proofs; automaton = m })
certified_over al list states proofs m e h = subst (λ (l : List Scoped). IsCertified al (record { preds = l; proofs = proofs; automaton = m })) (sym e) h
