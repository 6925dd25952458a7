-- What is added to a product fits it: the states are states of it, and the letter has its kind.
use Rattle.std.proofs.Common.{◌≡◌, ◌≢◌, ◌<◌, ◌↔◌, ℕ, length, Result, Err, inl, inr, arith}
use Rattle.nwa_base.specs.declared.letters.Kind.TheVariants as kinds
use Rattle.nwa_base.specs.declared.letters.Letter.{Letter}
use Rattle.nwa_base.specs.declared.faults.NwaFault.{NwaFault}
use Rattle.nwa_base.specs.declared.faults.NwaFault.TheVariants as faults
use Rattle.nwa_base.specs.Members.{Member}
use Rattle.nwa_base.specs.Automata.{Automaton, IsAutomaton, IsEdge, IsBackEdge, IsOutside, IsOutsideBack}
use Rattle.nwa_difference.specs.Ties.Making.{Made, Extends, Nowhere, NoReturn, IsInsideEnd, IsCallEnd, IsBackEnd}
use Rattle.nwa_difference.proofs.MakingLemmas.{all_member}
use Rattle.nwa_difference.proofs.GrowingLemmas.{within_stays}

no_state : {X : Type 0} (states q to : ℕ) (r : Result X NwaFault) → q < states → to < states → (r ≡ Err faults.BadState) ↔ IsOutside states q to →
    r ≢ Err faults.BadState
no_state states q to r i j o e = elim (o.0 e) [ inl h ↦ absurd (omega arith) | inr h ↦ absurd (omega arith) ]

pub inside_state : {X : Type 0} (a b : Made) (x : ℕ) (l : Letter) (e y : ℕ) (r : Result X NwaFault) → x < length a.states → Extends a b Nowhere NoReturn →
    IsInsideEnd b x l e y → (r ≡ Err faults.BadState) ↔ IsOutside b.product.states x y → r ≢ Err faults.BadState
inside_state a b x l e y r i g n o =
    let j = within_stays a b Nowhere NoReturn x g i in
    let w = n.within in
    let c = g.made.count in
    no_state b.product.states x y r (omega arith) (omega arith) o

pub call_state : {X : Type 0} (a b : Made) (x : ℕ) (l : Letter) (e y : ℕ) (r : Result X NwaFault) → x < length a.states → Extends a b Nowhere NoReturn →
    IsCallEnd b x l e y → (r ≡ Err faults.BadState) ↔ IsOutside b.product.states x y → r ≢ Err faults.BadState
call_state a b x l e y r i g n o =
    let j = within_stays a b Nowhere NoReturn x g i in
    let w = n.within in
    let c = g.made.count in
    no_state b.product.states x y r (omega arith) (omega arith) o

pub back_state : {X : Type 0} (a b : Made) (x p : ℕ) (l : Letter) (e y : ℕ) (r : Result X NwaFault) → x < length a.states → p < length a.states →
    Extends a b Nowhere NoReturn → IsBackEnd b x p l e y → (r ≡ Err faults.BadState) ↔ IsOutsideBack b.product.states x p y → r ≢ Err faults.BadState
back_state a b x p l e y r i k g n o f =
    let j = within_stays a b Nowhere NoReturn x g i in
    let h = within_stays a b Nowhere NoReturn p g k in
    let w = n.within in
    let c = g.made.count in
    elim (o.0 f) [ inl s ↦ absurd (omega arith) | inr s ↦ elim s [ inl t ↦ absurd (omega arith) | inr t ↦ absurd (omega arith) ] ]

pub inside_letter : {X : Type 0} (m : Automaton) (q e : ℕ) (l : Letter) (states x y : ℕ) (r : Result X NwaFault) → IsAutomaton m → Member m.insides (q, l, e) →
    (r ≡ Err faults.BadLetter) ↔ ((x < states) × (y < states) × (l.kind ≢ kinds.Inside)) → r ≢ Err faults.BadLetter
inside_letter m q e l states x y r v h o f = (o.0 f).2 (all_member (IsEdge m.states kinds.Inside) m.insides (q, l, e) v.insides h).letter

pub call_letter : {X : Type 0} (m : Automaton) (q e : ℕ) (l : Letter) (states x y : ℕ) (r : Result X NwaFault) → IsAutomaton m → Member m.calls (q, l, e) →
    (r ≡ Err faults.BadLetter) ↔ ((x < states) × (y < states) × (l.kind ≢ kinds.Call)) → r ≢ Err faults.BadLetter
call_letter m q e l states x y r v h o f = (o.0 f).2 (all_member (IsEdge m.states kinds.Call) m.calls (q, l, e) v.calls h).letter

pub back_letter : {X : Type 0} (m : Automaton) (q p e : ℕ) (l : Letter) (states x z y : ℕ) (r : Result X NwaFault) → IsAutomaton m →
    Member m.backs (q, p, l, e) → (r ≡ Err faults.BadLetter) ↔ ((x < states) × (z < states) × (y < states) × (l.kind ≢ kinds.Back)) →
    r ≢ Err faults.BadLetter
back_letter m q p e l states x z y r v h o f = (o.0 f).3 (all_member (IsBackEdge m.states) m.backs (q, p, l, e) v.backs h).letter
