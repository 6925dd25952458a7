-- Searches along steps.
use Rattle.std.proofs.Common.{◌≡◌, ◌∙◌, ◌⊎◌, ◌<◌, ◌≤◌, ◌+◌, ℕ, zero, suc, Bool, true, false, cond, List, [], ◌∷◌, ◌++◌, Some, length, take, get_or, slice_get, refl, sym, ap, subst, inl, inr, arith, append_assoc, append-nil}
use Rattle.std.proofs.lemmas.Bool.{cases_lt}
use Rattle.std.proofs.lemmas.List.{take_more, take_all}
use Rattle.nwa_base.specs.Members.{Member}
use Rattle.nwa_base.proofs.MemberLemmas.{member_front, member_rest, member_split}
use Rattle.nwa_reduce.specs.Ways.{IsWay}
use Rattle.nwa_reduce.specs.Ties.Searching.{IsSearched, Inserts}
use Rattle.nwa_reduce.proofs.ListLemmas.{get_member, get_within, member_get, same_some, only_member}
use Rattle.nwa_reduce.proofs.WayLemmas.{way_last}

pub inserts_none : (old : List ℕ) → Inserts old [] old
inserts_none old = record { more = []; keys = sym (append-nil old); only = λ x h. h; added = λ x h. absurd h }

inserts_on : (b : Bool) (old xs new new' : List ℕ) (x : ℕ) → (b ≡ true → Member new x) → Inserts old xs new → new' ≡ cond b new (new ++ x ∷ []) →
    Inserts old (xs ++ x ∷ []) new'
inserts_on true old xs new new' x t h e = record {
  more = h.more;
  keys = e ∙ h.keys;
  only = λ y m. member_front xs (x ∷ []) y (h.only y m);
  added = λ y m.
      subst (λ (l : List ℕ). Member l y) (sym e)
      (elim (member_split xs (x ∷ []) y m) [ inl o ↦ h.added y o | inr o ↦ subst (Member new) (only_member x y o) (t refl) ]);
}
inserts_on false old xs new new' x t h e = record {
  more = h.more ++ x ∷ [];
  keys = e ∙ ap (λ (l : List ℕ). l ++ x ∷ []) h.keys ∙ append_assoc old h.more (x ∷ []);
  only = λ y m. elim (member_split h.more (x ∷ []) y m) [ inl o ↦ member_front xs (x ∷ []) y (h.only y o) | inr o ↦ member_rest xs (x ∷ []) y o ];
  added = λ y m.
      subst (λ (l : List ℕ). Member l y) (sym e)
      (elim (member_split xs (x ∷ []) y m) [ inl o ↦ member_front new (x ∷ []) y (h.added y o) | inr o ↦ member_rest new (x ∷ []) y o ]);
}

-- one state more
pub inserts_more : (b : Bool) (old xs new new' : List ℕ) (i d : ℕ) → i < length xs → (b ≡ true → Member new (get_or xs i d)) →
    Inserts old (take i xs) new → new' ≡ cond b new (new ++ get_or xs i d ∷ []) → Inserts old (take (i + 1) xs) new'
inserts_more b old xs new new' i d l t h e =
    subst (λ (front : List ℕ). Inserts old front new') (sym (take_more xs i d l)) (inserts_on b old (take i xs) new new' (get_or xs i d) t h e)

pub inserts_all : (old xs new : List ℕ) (i : ℕ) → length xs ≤ i → Inserts old (take i xs) new → Inserts old xs new
inserts_all old xs new i l h = subst (λ (front : List ℕ). Inserts old front new) (take_all i xs l) h

pub kept : (old xs new : List ℕ) (x : ℕ) → Inserts old xs new → Member old x → Member new x
kept old xs new x h m = subst (λ (l : List ℕ). Member l x) (sym h.keys) (member_front old h.more x m)

-- the search went on from the states at the first places
pub record IsSearchedTo (count : ℕ) (next : ℕ → List ℕ) (from_states found : List ℕ) : Type 0 where
  pub roots : (r : ℕ) → Member from_states r → Member found r
  pub closed : (i q e : ℕ) → i < count → slice_get found i ≡ Some q → Member (next q) e → Member found e
  pub reached : (q : ℕ) → Member found q → (r : ℕ) × (way : List ℕ) × Member from_states r × IsWay (λ s e. Member (next s) e) r way q

pub begun : (next : ℕ → List ℕ) (roots old found : List ℕ) → old ≡ [] → Inserts old roots found → IsSearchedTo 0 next roots found
begun next roots old found n h = record {
  roots = h.added;
  closed = λ i q e l g m. absurd (omega arith);
  reached = λ q m.
      let k = subst (λ (l : List ℕ). Member l q) (h.keys ∙ ap (λ (l : List ℕ). l ++ h.more) n) m in
      (q, [], h.only q k, refl);
}

at_place : (old more : List ℕ) (i q : ℕ) → i < length old → slice_get (old ++ more) i ≡ Some q → slice_get old i ≡ Some q
at_place [] more i q l e = absurd (omega arith)
at_place (x ∷ old) more zero q l e = e
at_place (x ∷ old) more (suc i) q l e = at_place old more i q (omega arith) e

closed_at : (next : ℕ → List ℕ) (roots old found : List ℕ) (i q j p e : ℕ) → slice_get old i ≡ Some q → IsSearchedTo i next roots old →
    Inserts old (next q) found → slice_get old j ≡ Some p → Member (next p) e → (j < i) ⊎ (j ≡ i) → Member found e
closed_at next roots old found i q j p e at s h g m (inl l) = kept old (next q) found e h (s.closed j p e l g m)
closed_at next roots old found i q j p e at s h g m (inr k) =
    let f : slice_get old i ≡ Some p = subst (λ (n : ℕ). slice_get old n ≡ Some p) k g in
    h.added e (subst (λ (n : ℕ). Member (next n) e) (same_some p q (sym f ∙ at)) m)

at_most : (j i : ℕ) → j < i + 1 → (j < i) ⊎ (j ≡ i)
at_most j i l = elim (cases_lt j i) [ inl a ↦ inl a | inr b ↦ inr (omega arith) ]

-- one place more
pub searched_on : (next : ℕ → List ℕ) (roots old found : List ℕ) (i q : ℕ) → slice_get old i ≡ Some q → IsSearchedTo i next roots old →
    Inserts old (next q) found → IsSearchedTo (i + 1) next roots found
searched_on next roots old found i q at s h = record {
  roots = λ r m. kept old (next q) found r h (s.roots r m);
  closed = λ j p e l g m.
      let w = get_within old i q at in
      closed_at next roots old found i q j p e at s h
      (at_place old h.more j p (omega arith) (subst (λ (x : List ℕ). slice_get x j ≡ Some p) h.keys g)) m (at_most j i l);
  reached = λ p m.
      elim (member_split old h.more p (subst (λ (x : List ℕ). Member x p) h.keys m)) [
        | inl o ↦ s.reached p o
        | inr o ↦
            let r = s.reached q (member_get old i q at) in
            (r.0, r.1 ++ p ∷ [], r.2, way_last (λ (a b : ℕ). Member (next a) b) r.0 r.1 q p r.3 (h.only p o))
      ];
}

-- no state is left
pub searched_whole : (next : ℕ → List ℕ) (roots found : List ℕ) (i : ℕ) → length found ≤ i → IsSearchedTo i next roots found → IsSearched next roots found
searched_whole next roots found i l s = record {
  roots = s.roots;
  closed = λ q e m n.
      let g = get_member found q m in
      let w = get_within found g.0 q g.1 in
      s.closed g.0 q e (omega arith) g.1 n;
  reached = s.reached;
}
