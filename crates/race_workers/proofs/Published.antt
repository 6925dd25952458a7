-- A kept word with its automaton may be published, by what the calls on the way tell.
use Rattle.std.proofs.Common.{◌≡◌, ℕ, List, length, sym, subst}
use Rattle.nwa_base.specs.Automata.{Automaton}
use Rattle.nwa_base.specs.Acceptance.{Accepts}
use Rattle.race_core.specs.declared.events.Entry.{Entry}
use Rattle.race_core.specs.Histories.{Keeps, IsFair}
use Rattle.race_workers.specs.KeptWords.Without.{IsWithout}
use Rattle.race_workers.proofs.KeptWords.KeptLaws.{published}

pub fair_by : {E : Type 0} (automaton : E → Automaton) (program kept read removed left next : Automaton) (h : List (Entry E)) (e : Entry E) (n : ℕ) →
    read ≡ kept → removed ≡ automaton e.evidence → next ≡ left → n ≡ length h → Keeps automaton program h kept → Accepts kept e.word →
    Accepts (automaton e.evidence) e.word → IsWithout read removed left → IsFair automaton program h n e next
fair_by automaton program kept read removed left next h e n r m l s k a o w =
    subst (λ (x : ℕ). IsFair automaton program h x e next) (sym s)
    (subst (λ (x : Automaton). IsFair automaton program h (length h) e x) (sym l)
    (published automaton program kept left h e k a o
    (subst (λ (x : Automaton). IsWithout x (automaton e.evidence) left) r (subst (λ (x : Automaton). IsWithout read x left) m w))))
