-- Steps that are grouped by their states.
use Rattle.std.proofs.Common.{◌≡◌, ◌∙◌, ◌⊎◌, ◌↔◌, ◌<◌, ◌≤◌, ◌+◌, ℕ, Bool, true, false, cond, List, [], ◌∷◌, ◌++◌, length, take, get_or, refl, sym, ap, subst, inl, inr, eqb, eq-eqb}
use Rattle.std.proofs.lemmas.Bool.{eqb-true}
use Rattle.std.proofs.lemmas.List.{take_more, take_all}
use Rattle.nwa_base.specs.declared.letters.Letter.{Letter}
use Rattle.nwa_base.specs.Members.{Member}
use Rattle.nwa_base.specs.Automata.{Automaton}
use Rattle.nwa_base.proofs.MemberLemmas.{member_front, member_rest, member_split}
use Rattle.nwa_base.proofs.EdgeLemmas.{GrowsAt}
use Rattle.nwa_reduce.specs.Ways.{Leads}
use Rattle.nwa_reduce.specs.Ties.Searching.{From, AddsSteps}
use Rattle.nwa_reduce.proofs.ListLemmas.{only_member}

pub steps_none : {X : Type 0} (key value : X → ℕ) (old : ℕ → List ℕ) → AddsSteps key value [] old old
steps_none key value old q e = (λ h. inl h, λ h. elim h [ inl m ↦ m | inr f ↦ absurd f.1 ])

grown_old : (b : Bool) (xs : List ℕ) (v e : ℕ) → Member xs e → Member (cond b (xs ++ v ∷ []) xs) e
grown_old true xs v e h = member_front xs (v ∷ []) e h
grown_old false xs v e h = h

grown_new : (b : Bool) (xs : List ℕ) (v e : ℕ) → b ≡ true → v ≡ e → Member (cond b (xs ++ v ∷ []) xs) e
grown_new true xs v e t f = member_rest xs (v ∷ []) e (inl f)
grown_new false xs v e t f = let g : false ≡ true = t in cc

grown_either : (b : Bool) (xs : List ℕ) (v e : ℕ) → Member (cond b (xs ++ v ∷ []) xs) e → Member xs e ⊎ ((b ≡ true) × (v ≡ e))
grown_either true xs v e h = elim (member_split xs (v ∷ []) e h) [ inl m ↦ inl m | inr m ↦ inr (refl, only_member v e m) ]
grown_either false xs v e h = inl h

from_front : {X : Type 0} (key value : X → ℕ) (xs : List X) (x : X) (q e : ℕ) → From key value xs q e → From key value (xs ++ x ∷ []) q e
from_front key value xs x q e f = (f.0, member_front xs (x ∷ []) f.0 f.1, f.2, f.3)

steps_on : {X : Type 0} (key value : X → ℕ) (xs : List X) (x : X) (old mid new : ℕ → List ℕ) → AddsSteps key value xs old mid →
    GrowsAt eqb (key x) (value x) mid new → AddsSteps key value (xs ++ x ∷ []) old new
steps_on key value xs x old mid new h g q e = (
  λ m.
      elim (grown_either (eqb (key x) q) (mid q) (value x) e (subst (λ (l : List ℕ). Member l e) (g q) m)) [
        | inl o ↦ elim ((h q e).0 o) [ inl a ↦ inl a | inr f ↦ inr (from_front key value xs x q e f) ]
        | inr n ↦ inr (x, member_rest xs (x ∷ []) x (inl refl), eqb-true (key x) q n.0, n.1)
      ],
  λ m.
      subst (λ (l : List ℕ). Member l e) (sym (g q))
      (elim m [
        | inl o ↦ grown_old (eqb (key x) q) (mid q) (value x) e ((h q e).1 (inl o))
        | inr f ↦
            elim (member_split xs (x ∷ []) f.0 f.1) [
              | inl a ↦ grown_old (eqb (key x) q) (mid q) (value x) e ((h q e).1 (inr (f.0, a, f.2, f.3)))
              | inr b ↦
                  let i = only_member x f.0 b in
                  grown_new (eqb (key x) q) (mid q) (value x) e (eq-eqb (key x) q (ap key i ∙ f.2)) (ap value i ∙ f.3)
            ]
      ]),
)

pub steps_more : {X : Type 0} (key value : X → ℕ) (xs : List X) (i : ℕ) (d : X) (old mid new : ℕ → List ℕ) → i < length xs →
    AddsSteps key value (take i xs) old mid → GrowsAt eqb (key (get_or xs i d)) (value (get_or xs i d)) mid new →
    AddsSteps key value (take (i + 1) xs) old new
steps_more {X} key value xs i d old mid new l h g =
    subst (λ (front : List X). AddsSteps key value front old new) (sym (take_more xs i d l)) (steps_on key value (take i xs) (get_or xs i d) old mid new h g)

pub steps_all : {X : Type 0} (key value : X → ℕ) (xs : List X) (i : ℕ) (old new : ℕ → List ℕ) → length xs ≤ i →
    AddsSteps key value (take i xs) old new → AddsSteps key value xs old new
steps_all {X} key value xs i old new l h = subst (λ (front : List X). AddsSteps key value front old new) (take_all i xs l) h

pub edge_from : (edges : List (ℕ × Letter × ℕ)) (q e : ℕ) → From (λ x. x.0) (λ x. x.2) edges q e ↔ ((a : Letter) × Member edges (q, a, e))
edge_from edges q e = (
  λ f. (f.0.1, subst (Member edges) (λ i. (f.2 i, f.0.1, f.3 i)) f.1),
  λ h. ((q, h.0, e), h.1, refl, refl),
)

pub back_from : (edges : List (ℕ × ℕ × Letter × ℕ)) (q e : ℕ) → From (λ x. x.0) (λ x. x.3) edges q e ↔ ((p : ℕ) × (a : Letter) × Member edges (q, p, a, e))
back_from edges q e = (
  λ f. (f.0.1, f.0.2, subst (Member edges) (λ i. (f.2 i, f.0.1, f.0.2, f.3 i)) f.1),
  λ h. ((q, h.0, h.1, e), h.2, refl, refl),
)

-- the steps of the three kinds of edges
pub steps_lead : (m : Automaton) (none insides calls backs : ℕ → List ℕ) → ((q : ℕ) → none q ≡ []) →
    AddsSteps (λ x. x.0) (λ x. x.2) m.insides none insides → AddsSteps (λ x. x.0) (λ x. x.2) m.calls insides calls →
    AddsSteps (λ x. x.0) (λ x. x.3) m.backs calls backs → (q e : ℕ) → Member (backs q) e ↔ Leads m q e
steps_lead m none insides calls backs n i j k q e = (
  λ h.
      elim ((k q e).0 h) [
        | inr b ↦ inr (inr ((back_from m.backs q e).0 b))
        | inl o ↦
            elim ((j q e).0 o) [
              | inr b ↦ inr (inl ((edge_from m.calls q e).0 b))
              | inl p ↦ elim ((i q e).0 p) [ inr b ↦ inl ((edge_from m.insides q e).0 b) | inl z ↦ absurd (subst (λ (l : List ℕ). Member l e) (n q) z) ]
            ]
      ],
  λ h.
      elim h [
        | inl a ↦ (k q e).1 (inl ((j q e).1 (inl ((i q e).1 (inr ((edge_from m.insides q e).1 a))))))
        | inr r ↦
            elim r [
              | inl a ↦ (k q e).1 (inl ((j q e).1 (inr ((edge_from m.calls q e).1 a))))
              | inr b ↦ (k q e).1 (inr ((back_from m.backs q e).1 b))
            ]
      ],
)

turned : {X : Type 0} (key value : X → ℕ) (xs : List X) (q e : ℕ) → From key value xs q e → From value key xs e q
turned key value xs q e f = (f.0, f.1, f.3, f.2)

-- the same, turned round
pub steps_led : (m : Automaton) (none insides calls backs : ℕ → List ℕ) → ((q : ℕ) → none q ≡ []) →
    AddsSteps (λ x. x.2) (λ x. x.0) m.insides none insides → AddsSteps (λ x. x.2) (λ x. x.0) m.calls insides calls →
    AddsSteps (λ x. x.3) (λ x. x.0) m.backs calls backs → (q e : ℕ) → Member (backs e) q ↔ Leads m q e
steps_led m none insides calls backs n i j k q e = (
  λ h.
      elim ((k e q).0 h) [
        | inr b ↦ inr (inr ((back_from m.backs q e).0 (turned (λ x. x.3) (λ x. x.0) m.backs e q b)))
        | inl o ↦
            elim ((j e q).0 o) [
              | inr b ↦ inr (inl ((edge_from m.calls q e).0 (turned (λ x. x.2) (λ x. x.0) m.calls e q b)))
              | inl p ↦
                  elim ((i e q).0 p) [
                    | inr b ↦ inl ((edge_from m.insides q e).0 (turned (λ x. x.2) (λ x. x.0) m.insides e q b))
                    | inl z ↦ absurd (subst (λ (l : List ℕ). Member l q) (n e) z)
                  ]
            ]
      ],
  λ h.
      elim h [
        | inl a ↦ (k e q).1 (inl ((j e q).1 (inl ((i e q).1 (inr (turned (λ x. x.0) (λ x. x.2) m.insides q e ((edge_from m.insides q e).1 a)))))))
        | inr r ↦
            elim r [
              | inl a ↦ (k e q).1 (inl ((j e q).1 (inr (turned (λ x. x.0) (λ x. x.2) m.calls q e ((edge_from m.calls q e).1 a)))))
              | inr b ↦ (k e q).1 (inr (turned (λ x. x.0) (λ x. x.3) m.backs q e ((back_from m.backs q e).1 b)))
            ]
      ],
)

pub steps_of : {X : Type 0} (key value : X → ℕ) (xs ys : List X) (old new : ℕ → List ℕ) → xs ≡ ys → AddsSteps key value xs old new → AddsSteps key value ys old new
steps_of {X} key value xs ys old new e h = subst (λ (l : List X). AddsSteps key value l old new) e h
