-- An automaton accepts a word or not.
use Rattle.std.proofs.Common.{◌≡◌, ◌⊎◌, inl, inr, ℕ, List, [], ◌∷◌, Bool, true, false, eqb, refl, sym, subst}
use Rattle.std.specs.List.{list_any}
use Rattle.std.proofs.lemmas.Bool.{false≢true}
use Rattle.nwa_base.specs.declared.letters.Kind.{Kind}
use Rattle.nwa_base.specs.declared.letters.Kind.TheVariants.{Inside, Call, Back}
use Rattle.nwa_base.specs.declared.letters.Letter.{Letter}
use Rattle.nwa_base.specs.Members.{Member}
use Rattle.nwa_base.specs.Automata.{Automaton}
use Rattle.nwa_base.specs.Acceptance.{Follows, AcceptsFrom, Accepts}
use Rattle.nwa_base.specs.Edges.{ends, back_ends}
use Rattle.nwa_base.proofs.MemberLemmas.{any_number}
use Rattle.nwa_base.proofs.PairLemmas.{ends_member, member_ends, back_ends_member, member_back_ends}

-- it holds or not
abbrev pub IsDecided : Type 0 → Type 0
IsDecided P = P ⊎ (P → ⊥)

by_test : (P : Type 0) (b : Bool) → (b ≡ true → P) → (P → b ≡ true) → IsDecided P
by_test P true f g = inl (f refl)
by_test P false f g = inr (λ p. false≢true (g p))

-- a number stands in a list or not
listed : (xs : List ℕ) (q : ℕ) → IsDecided (Member xs q)
listed xs q =
    let same = any_number xs q (list_any (λ y. eqb y q) xs) refl in
    by_test (Member xs q) (list_any (λ y. eqb y q) xs) same.0 same.1

-- it holds of a number of the list
abbrev HoldsOf : List ℕ → (ℕ → Type 0) → Type 0
HoldsOf xs P = (e : ℕ) × Member xs e × P e

one_or_rest : (x : ℕ) (xs : List ℕ) (P : ℕ → Type 0) → IsDecided (P x) → IsDecided (HoldsOf xs P) → IsDecided (HoldsOf (x ∷ xs) P)
one_or_rest x xs P (inl p) rest = inl (x, inl refl, p)
one_or_rest x xs P (inr n) (inl h) = inl (h.0, inr h.1, h.2)
one_or_rest x xs P (inr n) (inr none) = inr (λ h. elim h.1 [ inl e ↦ n (subst P (sym e) h.2) | inr m ↦ none (h.0, m, h.2) ])

some_of : (xs : List ℕ) (P : ℕ → Type 0) → ((e : ℕ) → IsDecided (P e)) → IsDecided (HoldsOf xs P)
some_of [] P d = inr (λ h. h.1)
some_of (x ∷ xs) P d = one_or_rest x xs P (d x) (some_of xs P d)

moved : (P Q : Type 0) → (P → Q) → (Q → P) → IsDecided P → IsDecided Q
moved P Q f g (inl p) = inl (f p)
moved P Q f g (inr n) = inr (λ q. n (g q))

-- an edge leads on to where it holds, or none does
follows : (m : Automaton) (kind : Kind) (a : Letter) (before : List ℕ) (q : ℕ) (P : ℕ → List ℕ → Type 0) → ((e : ℕ) (stack : List ℕ) → IsDecided (P e stack)) →
    IsDecided ((e : ℕ) × Follows m kind a before q e (P e))
follows m Inside a before q P d =
    moved (HoldsOf (ends q a m.insides) (λ e. P e before)) ((e : ℕ) × Follows m Inside a before q e (P e))
    (λ h. (h.0, (ends_member q a m.insides h.0 h.1, h.2))) (λ h. (h.0, member_ends q a m.insides h.0 h.1.0, h.1.1))
    (some_of (ends q a m.insides) (λ e. P e before) (λ e. d e before))
follows m Call a before q P d =
    moved (HoldsOf (ends q a m.calls) (λ e. P e (q ∷ before))) ((e : ℕ) × Follows m Call a before q e (P e))
    (λ h. (h.0, (ends_member q a m.calls h.0 h.1, h.2))) (λ h. (h.0, member_ends q a m.calls h.0 h.1.0, h.1.1))
    (some_of (ends q a m.calls) (λ e. P e (q ∷ before)) (λ e. d e (q ∷ before)))
follows m Back a [] q P d = inr (λ h. h.1)
follows m Back a (p ∷ before) q P d =
    moved (HoldsOf (back_ends q p a m.backs) (λ e. P e before)) ((e : ℕ) × Follows m Back a (p ∷ before) q e (P e))
    (λ h. (h.0, (back_ends_member q p a m.backs h.0 h.1, h.2))) (λ h. (h.0, member_back_ends q p a m.backs h.0 h.1.0, h.1.1))
    (some_of (back_ends q p a m.backs) (λ e. P e before) (λ e. d e before))

from : (m : Automaton) (w : List Letter) (before : List ℕ) (q : ℕ) → IsDecided (AcceptsFrom m before q w)
from m [] before q = listed m.finals q
from m (a ∷ w) before q = follows m a.kind a before q (λ e stack. AcceptsFrom m stack e w) (λ e stack. from m w stack e)

pub accepted_or_not : (m : Automaton) (w : List Letter) → IsDecided (Accepts m w)
accepted_or_not m w = from m w [] m.start
