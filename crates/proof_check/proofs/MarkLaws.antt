-- Which nodes are marked with which predicates.
use Rattle.std.proofs.Common.{◌≡◌, ◌∙◌, ◌↔◌, ◌⊎◌, ℕ, ◌+◌, ◌<◌, ◌≤◌, Bool, true, List, [], ◌∷◌, ◌++◌, length, take, get_or, Some, sym, ap, subst, inl, inr, arith}
use Rattle.std.specs.Prelude.{slice_get}
use Rattle.std.proofs.lemmas.List.{take_all}
use Rattle.nwa_base.specs.Members.{Member}
use Rattle.nwa_base.proofs.MemberLemmas.{member_front, member_rest, member_split}
use Rattle.letter_acts.proofs.ListLemmas.{below_or_from}
use Rattle.triple_rows.proofs.ListLaws.{within}
use Rattle.proof_names.specs.Outlines.{OutlineNode}
use Rattle.proof_check.specs.Ties.Plans.{IsTest, Marked, MarksAll, HasPred}
use Rattle.proof_check.proofs.IndexLaws.{TellsKeys, GainsKey, either_key, key_here, key_there, next_taken}

pub marks_on : (test : ℕ × ℕ → ℕ × ℕ → Bool) (old mid new : ℕ × ℕ → Bool) (n i p : ℕ) (preds : List ℕ) → TellsKeys test → MarksAll old n (take i preds) mid →
    i < length preds → p ≡ get_or preds i p → GainsKey test (n, p) mid new → MarksAll old n (take (i + 1) preds) new
marks_on test old mid new n i p preds t h l e g = subst (λ ps. MarksAll old n ps new) (sym (next_taken preds i p l e)) (λ k. (there k, back k))
  where
    there : (k : ℕ × ℕ) → new k ≡ true → (old k ≡ true) ⊎ ((k.0 ≡ n) × Member (take i preds ++ p ∷ []) k.1)
    there k m = elim (either_key (test (n, p) k) (mid k) (sym (g k) ∙ m)) [
      | inl s ↦
          let q : (n, p) ≡ k = t.same (n, p) k s in
          inr (sym (ap (λ (x : ℕ × ℕ). x.0) q), member_rest (take i preds) (p ∷ []) k.1 (inl (ap (λ (x : ℕ × ℕ). x.1) q)))
      | inr s ↦ elim ((h k).0 s) [ inl o ↦ inl o | inr w ↦ inr (w.0, member_front (take i preds) (p ∷ []) k.1 w.1) ]
    ]

    last : (k : ℕ × ℕ) → k.0 ≡ n → Member (p ∷ []) k.1 → new k ≡ true
    last k s (inl c) =
        let q : (n, p) ≡ k = λ i. (sym s i, c i) in
        g k ∙ key_here (test (n, p) k) (mid k) (subst (λ (x : ℕ × ℕ). test (n, p) x ≡ true) q (t.itself (n, p)))
    last k s (inr none) = absurd none

    back : (k : ℕ × ℕ) → (old k ≡ true) ⊎ ((k.0 ≡ n) × Member (take i preds ++ p ∷ []) k.1) → new k ≡ true
    back k (inl o) = g k ∙ key_there (test (n, p) k) (mid k) ((h k).1 (inl o))
    back k (inr w) = elim (member_split (take i preds) (p ∷ []) k.1 w.1) [
      | inl m ↦ g k ∙ key_there (test (n, p) k) (mid k) ((h k).1 (inr (w.0, m)))
      | inr m ↦ last k w.0 m
    ]

pub marks_end : (old new : ℕ × ℕ → Bool) (n i : ℕ) (preds : List ℕ) → MarksAll old n (take i preds) new → length preds ≤ i → MarksAll old n preds new
marks_end old new n i preds h l = subst (λ ps. MarksAll old n ps new) (take_all i preds l) h

-- the first nodes are marked
abbrev pub MarkedBelow : List OutlineNode → ℕ → (ℕ × ℕ → Bool) → Type 0
MarkedBelow nodes i has = (k : ℕ × ℕ) → (has k ≡ true) ↔ ((k.0 < i) × HasPred nodes k.0 k.1)

pub marked_on : (nodes : List OutlineNode) (i : ℕ) (x : OutlineNode) (old new : ℕ × ℕ → Bool) → MarkedBelow nodes i old → slice_get nodes i ≡ Some x → MarksAll old i x.preds new →
    MarkedBelow nodes (i + 1) new
marked_on nodes i x old new h g m k = (there, back)
  where
    there : new k ≡ true → (k.0 < i + 1) × HasPred nodes k.0 k.1
    there t = elim ((m k).0 t) [
      | inl o ↦ let r = (h k).0 o in let l = r.0 in (omega (arith, l), r.1)
      | inr w ↦
          let e = w.0 in
          (omega (arith, e), (x, subst (λ (n : ℕ). slice_get nodes n ≡ Some x) (sym e) g, w.1))
    ]

    here : k.0 ≡ i → HasPred nodes k.0 k.1 → new k ≡ true
    here e p =
        let s : slice_get nodes i ≡ Some p.0 = subst (λ (n : ℕ). slice_get nodes n ≡ Some p.0) e p.1 in
        let c : p.0 ≡ x = cc in
        (m k).1 (inr (e, subst (λ (y : OutlineNode). Member y.preds k.1) c p.2))

    back : (k.0 < i + 1) × HasPred nodes k.0 k.1 → new k ≡ true
    back b = elim (below_or_from k.0 i) [
      | inl l ↦ (m k).1 (inl ((h k).1 (l, b.1)))
      | inr r ↦ here (let l = b.0 in let e = r.1 in omega (arith, l, e)) b.1
    ]

pub marked_all : (nodes : List OutlineNode) (i : ℕ) (has : ℕ × ℕ → Bool) → MarkedBelow nodes i has → i ≡ length nodes → IsTest (Marked nodes) has
marked_all nodes i has h e k = (λ t. ((h k).0 t).1, λ p. (h k).1 (let l = within nodes k.0 p.0 p.1 in omega (arith, l, e), p))
