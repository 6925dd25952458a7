-- Slices that differ, found by a look-up of each among those before it.
use Rattle.std.proofs.Common.{◌≡◌, ◌↔◌, ◌∙◌, ◌⊎◌, ℕ, ◌+◌, ◌<◌, ◌≤◌, Bool, true, false, cond, List, [], ◌∷◌, ◌++◌, map, length, take, drop, get_or, Option, Some, is_some, refl, ap, sym, subst, inl, inr, append_assoc, append-nil, Decides}
use Rattle.std.specs.Map.{update}
use Rattle.std.specs.Str.{bytes_eq}
use Rattle.std.specs.Borrow.{Bor}
use Rattle.std.proofs.lemmas.Bool.{false≢true}
use Rattle.std.proofs.lemmas.Slice.Eq.{bytes_eq-Decides}
use Rattle.std.proofs.lemmas.List.{take_more, take_all, map-append, take-append-drop, drop_more}
use Rattle.nwa_base.specs.Members.{Member}
use Rattle.letter_acts.specs.Invariant.{AreDistinct}
use Rattle.letter_acts.proofs.LoopLemmas.{not_so, so}

-- ---- one member more behind a list

member_push : {X : Type 0} (xs : List X) (x y : X) → Member (xs ++ x ∷ []) y ↔ ((x ≡ y) ⊎ Member xs y)
member_push [] x y = (λ m. m, λ m. m)
member_push (z ∷ zs) x y =
    let h = member_push zs x y in (
      λ m. elim m [ inl e ↦ inr (inl e) | inr k ↦ elim (h.0 k) [ inl e ↦ inl e | inr i ↦ inr (inr i) ] ],
      λ m. elim m [ inl e ↦ inr (h.1 (inl e)) | inr k ↦ elim k [ inl e ↦ inl e | inr i ↦ inr (h.1 (inr i)) ] ],
    )

member_between : {X : Type 0} (xs : List X) (x : X) (ys : List X) → Member (xs ++ x ∷ ys) x
member_between [] x ys = inl refl
member_between (z ∷ zs) x ys = inr (member_between zs x ys)

distinct_push : {X : Type 0} (xs : List X) (x : X) → AreDistinct xs → (Member xs x → ⊥) → AreDistinct (xs ++ x ∷ [])
distinct_push [] x a n = (λ m. m, tt)
distinct_push (z ∷ zs) x a n =
    (λ m. elim ((member_push zs x z).0 m) [ inl e ↦ n (inl (sym e)) | inr k ↦ a.0 k ], distinct_push zs x a.1 (λ m. n (inr m)))

distinct_repeat : {X : Type 0} (xs : List X) (x : X) (ys : List X) → Member xs x → AreDistinct (xs ++ x ∷ ys) → ⊥
distinct_repeat [] x ys m a = m
distinct_repeat (z ∷ zs) x ys (inl e) a = a.0 (subst (Member (zs ++ x ∷ ys)) (sym e) (member_between zs x ys))
distinct_repeat (z ∷ zs) x ys (inr m) a = distinct_repeat zs x ys m a.1

-- ---- the bytes behind slices, as a loop reads them

abbrev pub bytes_of : List (Bor (List ℕ)) → List (List ℕ)
bytes_of slices = map (λ b. b.now) slices

module _ (slices : List (Bor (List ℕ))) (i : ℕ) (d : Bor (List ℕ)) (l : i < length slices) where
  bytes_taken : bytes_of (take (i + 1) slices) ≡ bytes_of (take i slices) ++ (get_or slices i d).now ∷ []
  bytes_taken = ap bytes_of (take_more slices i d l) ∙ map-append (λ (y : Bor (List ℕ)). y.now) (take i slices) (get_or slices i d ∷ [])

  bytes_split : bytes_of slices ≡ bytes_of (take i slices) ++ (get_or slices i d).now ∷ bytes_of (drop (i + 1) slices)
  bytes_split =
      ap bytes_of (sym (take-append-drop i slices)) ∙ ap (λ (rest : List (Bor (List ℕ))). bytes_of (take i slices ++ rest)) (drop_more slices i d l)
      ∙ map-append (λ (y : Bor (List ℕ)). y.now) (take i slices) (get_or slices i d ∷ drop (i + 1) slices)

  -- bytes that stand before stand twice
  pub slice_repeated : Member (bytes_of (take i slices)) (get_or slices i d).now → (false ≡ true) ↔ AreDistinct (bytes_of slices)
  slice_repeated m =
      not_so _ (λ a. distinct_repeat (bytes_of (take i slices)) (get_or slices i d).now (bytes_of (drop (i + 1) slices)) m (subst AreDistinct bytes_split a))

  -- one more slice, whose bytes do not stand before
  pub slices_differ_more : AreDistinct (bytes_of (take i slices)) → (Member (bytes_of (take i slices)) (get_or slices i d).now → ⊥) →
      AreDistinct (bytes_of (take (i + 1) slices))
  slices_differ_more a n = subst AreDistinct (sym bytes_taken) (distinct_push (bytes_of (take i slices)) (get_or slices i d).now a n)

  -- a look-up that finds the bytes before, with those of one more slice
  pub slice_found_more : (old new : List ℕ → Option Bool) (v : Bool) →
      ((q : List ℕ) → (is_some (old q) ≡ true) ↔ Member (bytes_of (take i slices)) q) →
      ((q : List ℕ) → new q ≡ update bytes_eq old (get_or slices i d).now (Some v) q) →
      (q : List ℕ) → (is_some (new q) ≡ true) ↔ Member (bytes_of (take (i + 1) slices)) q
  slice_found_more old new v h u q =
      let name = (get_or slices i d).now in
      let k = more (bytes_eq name q) (old q) (name ≡ q) (Member (bytes_of (take i slices)) q) (bytes_eq-Decides name q) (h q) in
      let p = member_push (bytes_of (take i slices)) name q in (
        λ e. subst (λ (ns : List (List ℕ)). Member ns q) (sym bytes_taken) (p.1 (k.0 (sym (ap is_some (u q)) ∙ e))),
        λ m. ap is_some (u q) ∙ k.1 (p.0 (subst (λ (ns : List (List ℕ)). Member ns q) bytes_taken m)),
      )
    where
      more : (b : Bool) (o : Option Bool) (E T : Type 0) → Decides b E → (is_some o ≡ true) ↔ T → (is_some (cond b (Some v) o) ≡ true) ↔ (E ⊎ T)
      more true o E T d g = (λ e. inl (d.0 refl), λ m. refl)
      more false o E T d g = (λ e. inr (g.0 e), λ m. elim m [ inl e ↦ absurd (false≢true (d.1 e)) | inr t ↦ g.1 t ])

-- no slice is left
pub slices_ended : (slices : List (Bor (List ℕ))) (i : ℕ) → length slices ≤ i → AreDistinct (bytes_of (take i slices)) → (true ≡ true) ↔ AreDistinct (bytes_of slices)
slices_ended slices i l a = so _ (subst (λ (xs : List (Bor (List ℕ))). AreDistinct (bytes_of xs)) (take_all i slices l) a)

-- ---- slices gathered from a list

-- one slice more is gathered
pub gathered_more : (got more : List (Bor (List ℕ))) (b : Bor (List ℕ)) (name : List ℕ) (rest all : List (List ℕ)) → more ≡ got ++ b ∷ [] → b.now ≡ name →
    bytes_of got ++ name ∷ rest ≡ all → bytes_of more ++ rest ≡ all
gathered_more got more b name rest all e same h =
    ap (λ (bs : List (Bor (List ℕ))). bytes_of bs ++ rest) e
    ∙ ap (λ (ns : List (List ℕ)). ns ++ rest) (map-append (λ (y : Bor (List ℕ)). y.now) got (b ∷ []))
    ∙ append_assoc (bytes_of got) (b.now ∷ []) rest
    ∙ ap (λ (n : List ℕ). bytes_of got ++ n ∷ rest) same
    ∙ h

-- no member is left
pub gathered_all : (got : List (Bor (List ℕ))) (rest all : List (List ℕ)) → rest ≡ [] → bytes_of got ++ rest ≡ all → bytes_of got ≡ all
gathered_all got rest all none h = sym (append-nil (bytes_of got)) ∙ ap (λ (ns : List (List ℕ)). bytes_of got ++ ns) (sym none) ∙ h
