-- Lists that begin others.
use Rattle.std.proofs.Common.{◌≡◌, ℕ, ◌≤◌, List, [], ◌∷◌, ◌++◌, length, take, sym, ap, ◌∙◌, refl, arith, append_assoc, append-nil, length-append}
use Rattle.std.proofs.lemmas.List.{take-append-le}
use Rattle.version_cell.specs.Counts.{Begins}

module _ {X : Type 0} where
  pub begins_none : (whole : List X) → Begins [] whole
  begins_none whole = (whole, refl)

  pub begins_same : (a b : List X) → a ≡ b → Begins a b
  begins_same a b e = ([], sym e ∙ sym (append-nil a))

  pub begins_along : (a b c : List X) → Begins a b → b ≡ c → Begins a c
  begins_along a b c s e = (s.0, sym e ∙ s.1)

  pub begins_more : (a b : List X) (x : X) → Begins a b → Begins a (b ++ x ∷ [])
  begins_more a b x s = (s.0 ++ x ∷ [], ap (λ (t : List X). t ++ x ∷ []) s.1 ∙ append_assoc a s.0 (x ∷ []))

  pub begins_length : (a b : List X) → Begins a b → length a ≤ length b
  begins_length a b s = let e = ap length s.1 in let l = length-append a s.0 in omega (arith, e, l)

  rest_of : List X → List X
  rest_of [] = []
  rest_of (x ∷ xs) = xs

  first_or : X → List X → X
  first_or d [] = d
  first_or d (x ∷ xs) = x

  -- of two beginnings of one list the shorter begins the longer
  pub one_begins : (a b whole : List X) → Begins a whole → Begins b whole → length a ≤ length b → Begins a b
  unfolding rest_of first_or
  one_begins [] b whole s t le = (b, refl)
  one_begins (x ∷ xs) [] whole s t le = absurd (omega arith)
  one_begins (x ∷ xs) (y ∷ ys) whole s t le =
      let e : x ∷ (xs ++ s.0) ≡ y ∷ (ys ++ t.0) = sym s.1 ∙ t.1 in
      let same : x ≡ y = ap (first_or x) e in
      let r = one_begins xs ys (xs ++ s.0) (s.0, refl) (t.0, ap rest_of e) (omega arith) in
      (r.0, (λ i. sym same i ∷ r.1 i))

  pub begins_take : (a b : List X) (n : ℕ) → Begins a b → n ≤ length a → take n b ≡ take n a
  begins_take a b n s le = ap (take n) s.1 ∙ take-append-le n a s.0 le
