-- States: predicates, each once.
use Rattle.std.proofs.Common.{◌≡◌, ◌∙◌, ◌⊎◌, ℕ, zero, suc, ◌+◌, ◌<◌, ◌≤◌, Bool, true, false, List, [], ◌∷◌, ◌++◌, length, take, get_or, Some, append_assoc, add-one, refl, sym, ap, subst, inl, inr, arith}
use Rattle.std.specs.Prelude.{slice_get}
use Rattle.std.proofs.lemmas.List.{take_more}
use Rattle.nwa_base.specs.Members.{Member}
use Rattle.nwa_base.proofs.MemberLemmas.{member_front, member_rest, member_split}
use Rattle.letter_acts.specs.Invariant.{AreDistinct}
use Rattle.triple_rows.specs.declared.predicates.PredNode.TheVariants.{Truth}
use Rattle.triple_rows.specs.declared.triples.Scoped.{Scoped}
use Rattle.itp_automaton.specs.Making.{AreStates}
use Rattle.triple_rows.specs.Triples.{truth_of}
use Rattle.itp_automaton.specs.Ties.States.{AddsState, truths_below}

-- ---- members by their places

pub member_at : {X : Type 0} (xs : List X) (n : ℕ) (x : X) → slice_get xs n ≡ Some x → Member xs x
member_at [] n x e = absurd cc
member_at (y ∷ xs) zero x e = inl (cc)
member_at (y ∷ xs) (suc n) x e = inr (member_at xs n x e)

-- what is read at a place stands there
pub got_at : {X : Type 0} (xs : List X) (n : ℕ) (x : X) → n < length xs → x ≡ get_or xs n x → slice_get xs n ≡ Some x
got_at [] n x lt e = absurd (omega arith)
got_at (y ∷ xs) zero x lt e = ap Some (sym e)
got_at (y ∷ xs) (suc n) x lt e = got_at xs n x (omega arith) e

pub take_next : {X : Type 0} (xs : List X) (n : ℕ) (x : X) → n < length xs → x ≡ get_or xs n x → take (n + 1) xs ≡ take n xs ++ x ∷ []
take_next xs n x lt e = take_more xs n x lt ∙ (λ i. take n xs ++ sym e i ∷ [])

pub place_of : {X : Type 0} (xs : List X) (x : X) → Member xs x → (n : ℕ) × (slice_get xs n ≡ Some x)
place_of [] x m = absurd m
place_of (y ∷ xs) x (inl e) = (0, ap Some e)
place_of (y ∷ xs) x (inr m) = let r = place_of xs x m in (suc r.0, r.1)

pub one_place : {X : Type 0} (xs : List X) (m n : ℕ) (x : X) → AreDistinct xs → slice_get xs m ≡ Some x → slice_get xs n ≡ Some x → m ≡ n
one_place [] m n x d e f = absurd cc
one_place (y ∷ xs) zero zero x d e f = refl
one_place (y ∷ xs) zero (suc n) x d e f =
    let is : y ≡ x = cc in
    absurd (d.0 (member_at xs n y (f ∙ ap Some (sym is))))
one_place (y ∷ xs) (suc m) zero x d e f =
    let is : y ≡ x = cc in
    absurd (d.0 (member_at xs m y (e ∙ ap Some (sym is))))
one_place (y ∷ xs) (suc m) (suc n) x d e f = ap suc (one_place xs m n x d.1 e f)

-- ---- one more state

pub distinct_more : {X : Type 0} (xs : List X) (x : X) → AreDistinct xs → (Member xs x → ⊥) → AreDistinct (xs ++ x ∷ [])
distinct_more [] x d n = (λ m. m, tt)
distinct_more (y ∷ xs) x d n = (
  λ m. elim (member_split xs (x ∷ []) y m) [
    | inl k ↦ d.0 k
    | inr k ↦ elim k [ inl e ↦ n (inl (sym e)) | inr none ↦ none ]
  ],
  distinct_more xs x d.1 (λ m. n (inr m)),
)

pub added : (old : List Scoped) (s : Scoped) → (Member old s → ⊥) → AddsState old s (old ++ s ∷ [])
added old s n = record {
  once = λ d. distinct_more old s d n;
  there = member_rest old (s ∷ []) s (inl refl);
  kept = λ t m. member_front old (s ∷ []) t m;
  only = λ t m. elim (member_split old (s ∷ []) t m) [
    | inl k ↦ inl k
    | inr k ↦ elim k [ inl e ↦ inr (sym e) | inr none ↦ absurd none ]
  ];
}

pub there_already : (old : List Scoped) (s : Scoped) (n : ℕ) → slice_get old n ≡ Some s → AddsState old s old
there_already old s n e = record {
  once = λ d. d;
  there = member_at old n s e;
  kept = λ t m. m;
  only = λ t m. inl m;
}

-- ---- true and false of each procedure

le_or_gt : (n p : ℕ) → (n ≤ p) ⊎ (p < n)
le_or_gt zero p = inl (omega arith)
le_or_gt (suc n) zero = inr (omega arith)
le_or_gt (suc n) (suc p) = elim (le_or_gt n p) [ inl h ↦ inl (omega arith) | inr h ↦ inr (omega arith) ]

pub below_or_last : (p n : ℕ) → p < n + 1 → (p < n) ⊎ (p ≡ n)
below_or_last p n h = elim (le_or_gt n p) [ inl k ↦ inr (let e : p ≡ n = omega arith in e) | inr k ↦ inl k ]

pub truths_more : (n : ℕ) (old mid new : List Scoped) → AreStates n [] old → AddsState old (truth_of n true) mid → AddsState mid (truth_of n false) new → AreStates (n + 1) [] new
truths_more n old mid new h a b = record {
  once = b.once (a.once h.once);
  truths = λ p v lt. elim (below_or_last p n lt) [
    | inl k ↦ b.kept (truth_of p v) (a.kept (truth_of p v) (h.truths p v k))
    | inr e ↦ subst (λ (q : ℕ). Member new (truth_of q v)) (sym e) (last_truth v)
  ];
  given = λ s m. absurd m;
  only = λ s m. elim (b.only s m) [
    | inl k ↦ elim (a.only s k) [
      | inl j ↦ h.only s j
      | inr e ↦ inl (true, e ∙ ap (λ (q : ℕ). truth_of q true) (sym (ap (λ (x : Scoped). x.proc) e)))
    ]
    | inr e ↦ inl (false, e ∙ ap (λ (q : ℕ). truth_of q false) (sym (ap (λ (x : Scoped). x.proc) e)))
  ];
}
  where
    last_truth : (v : Bool) → Member new (truth_of n v)
    last_truth true = b.kept (truth_of n true) a.there
    last_truth false = b.there

-- one more predicate of the list
pub states_more : (n : ℕ) (preds : List Scoped) (s : Scoped) (old new : List Scoped) → AreStates n preds old → AddsState old s new → AreStates n (preds ++ s ∷ []) new
states_more n preds s old new h a = record {
  once = a.once h.once;
  truths = λ p b lt. a.kept (truth_of p b) (h.truths p b lt);
  given = λ t m. elim (member_split preds (s ∷ []) t m) [
    | inl k ↦ a.kept t (h.given t k)
    | inr k ↦ elim k [ inl e ↦ subst (λ (x : Scoped). Member new x) e a.there | inr none ↦ absurd none ]
  ];
  only = λ t m. elim (a.only t m) [
    | inl k ↦ elim (h.only t k) [ inl b ↦ inl b | inr j ↦ inr (member_front preds (s ∷ []) t j) ]
    | inr e ↦ inr (member_rest preds (s ∷ []) t (inl (sym e)))
  ];
}

-- what is neither in the front nor the last is not in the list
pub last_or_front : {X : Type 0} (xs : List X) (y x : X) → (Member xs x → ⊥) → (y ≡ x → ⊥) → Member (xs ++ y ∷ []) x → ⊥
last_or_front xs y x h n m = elim (member_split xs (y ∷ []) x m) [
  | inl k ↦ h k
  | inr k ↦ elim k [ inl e ↦ n e | inr none ↦ none ]
]

-- ---- true and false of each procedure, in the order of their numbers

truth_is_below : (n : ℕ) (s : Scoped) → Member (truths_below n) s → s.proc < n
truth_is_below zero s m = absurd m
truth_is_below (suc n) s m = elim (member_split (truths_below n) (truth_of n true ∷ truth_of n false ∷ []) s m) [
  | inl k ↦ let h = truth_is_below n s k in omega arith
  | inr k ↦ elim k [
    | inl e ↦ let h : n ≡ s.proc = ap (λ (x : Scoped). x.proc) e in omega arith
    | inr j ↦ elim j [ inl e ↦ let h : n ≡ s.proc = ap (λ (x : Scoped). x.proc) e in omega arith | inr none ↦ absurd none ]
  ]
]

not_below : (n : ℕ) (b : Bool) → Member (truths_below n) (truth_of n b) → ⊥
not_below n b m = let h : n < n = truth_is_below n (truth_of n b) m in omega arith

true_is_not_false : (n : ℕ) → truth_of n true ≡ truth_of n false → ⊥
true_is_not_false n e = let h : Truth true ∷ [] ≡ Truth false ∷ [] = ap (λ (s : Scoped). s.pred) e in cc

-- no two of them are equal
pub truths_are_states : (n : ℕ) → AreStates n [] (truths_below n)
truths_are_states zero = record { once = tt; truths = λ p b lt. absurd (omega (arith, lt)); given = λ s m. absurd m; only = λ s m. absurd m }
truths_are_states (suc n) =
    let old = truths_below n in
    let mid = old ++ truth_of n true ∷ [] in
    let new = mid ++ truth_of n false ∷ [] in
    let differ : Member mid (truth_of n false) → ⊥ = last_or_front old (truth_of n true) (truth_of n false) (not_below n false) (true_is_not_false n) in
    let h : AreStates (n + 1) [] new = truths_more n old mid new (truths_are_states n) (added old (truth_of n true) (not_below n true)) (added mid (truth_of n false) differ) in
    subst (λ (k : ℕ). AreStates k [] (truths_below (suc n))) (add-one n)
    (subst (λ (l : List Scoped). AreStates (n + 1) [] l) (append_assoc old (truth_of n true ∷ []) (truth_of n false ∷ [])) h)

-- those of one more procedure
pub truths_next : (n : ℕ) (old mid new : List Scoped) (s t : Scoped) → old ≡ truths_below n → s ≡ truth_of n true → t ≡ truth_of n false → mid ≡ old ++ s ∷ [] → new ≡ mid ++ t ∷ [] →
    new ≡ truths_below (n + 1)
truths_next n old mid new s t e f g h k =
    k ∙ (λ i. h i ++ g i ∷ []) ∙ (λ i. (e i ++ f i ∷ []) ++ truth_of n false ∷ []) ∙ append_assoc (truths_below n) (truth_of n true ∷ []) (truth_of n false ∷ []) ∙
    ap truths_below (sym (add-one n))
