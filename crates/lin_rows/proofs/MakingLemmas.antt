-- Terms added up stretch by stretch: each stretch ascends, so it is one merge.
use Rattle.std.proofs.Common.{◌≡◌, ◌↔◌, ℕ, zero, suc, ◌+◌, ◌-◌, ◌<◌, ◌≤◌, ℤ, pos, ◌+ℤ◌, ◌*ℤ◌, List, [], ◌∷◌, ◌++◌, length, get_or, take, drop, ap, refl, sym, ◌∙◌, subst, arith, inl, inr, ◌⊎◌, lit<}
use Rattle.std.specs.List.{AllByRecursion}
use Rattle.std.proofs.lemmas.Int.{ints}
use Rattle.std.proofs.lemmas.Bool.{cases_eq, cases_lt}
use Rattle.std.proofs.lemmas.List.{take-append-le, take-append-drop, take_at}
use Rattle.math_facts.specs.Fits.{Fits}
use Rattle.math_facts.specs.Terms.{coefficient}
use Rattle.math_facts.proofs.TermLaws.{coefficient-append}
use Rattle.lin_rows.specs.Rows.{AscendsFrom, IsCoefficient}
use Rattle.lin_rows.specs.Ties.Merging.{AreTerms, ColumnFits, AreMerged}
use Rattle.lin_rows.specs.Ties.Making.{TermsFit, AreSummed}
use Rattle.lin_rows.proofs.Ascending.{coefficient_first, coefficient_rest, Fits-from_columns}

-- ---- the stretch in front

-- one more term ascends, if its column is past the last
pub AscendsFrom_more : (low end : ℕ) (ts : List (ℕ × ℤ)) (d : ℕ × ℤ) → AscendsFrom low (take end ts) → 0 < end → end < length ts →
    (get_or ts (end - 1) d).0 < (get_or ts end d).0 → AscendsFrom low (take (end + 1) ts)
AscendsFrom_more low zero ts d up p l h = absurd (omega arith)
AscendsFrom_more low (suc n) ts d up p l h =
    let e : suc n - 1 ≡ n = omega arith in
    let k : suc n + 1 ≡ suc (suc n) = omega arith in
    rw k (go low n ts d up l (rw e at h))
  where
    go : (low n : ℕ) (ts : List (ℕ × ℤ)) (d : ℕ × ℤ) → AscendsFrom low (take (suc n) ts) → suc n < length ts →
        (get_or ts n d).0 < (get_or ts (suc n) d).0 → AscendsFrom low (take (suc (suc n)) ts)
    go low n [] d up l h = tt
    go low n (t ∷ []) d up l h = absurd (omega arith)
    go low zero (t ∷ u ∷ us) d up l h = (up.0, (omega arith, tt))
    go low (suc n) (t ∷ u ∷ us) d up l h = (up.0, go (t.0 + 1) n (u ∷ us) d up.1 (omega arith) h)

pub AscendsFrom-take : (low n : ℕ) (ts : List (ℕ × ℤ)) → AscendsFrom low ts → AscendsFrom low (take n ts)
AscendsFrom-take low zero ts up = tt
AscendsFrom-take low (suc n) [] up = tt
AscendsFrom-take low (suc n) (t ∷ ts) up = (up.0, AscendsFrom-take (t.0 + 1) n ts up.1)

-- ---- running sums of ascending terms

-- so far a column has its coefficient or none
pub coefficient-take : (low c n : ℕ) (ts : List (ℕ × ℤ)) → AscendsFrom low ts → (coefficient c (take n ts) ≡ pos 0) ⊎ (coefficient c (take n ts) ≡ coefficient c ts)
coefficient-take low c zero ts up = inl refl
coefficient-take low c (suc n) [] up = inl refl
coefficient-take low c (suc n) (t ∷ ts) up = cases c n t ts up.1 (coefficient-take (t.0 + 1) c n ts up.1) (cases_eq t.0 c)
  where
    later : (c n : ℕ) (t : ℕ × ℤ) (ts : List (ℕ × ℤ)) → (t.0 ≡ c → ⊥) → ((coefficient c (take n ts) ≡ pos 0) ⊎ (coefficient c (take n ts) ≡ coefficient c ts)) →
        (coefficient c (t ∷ take n ts) ≡ pos 0) ⊎ (coefficient c (t ∷ take n ts) ≡ coefficient c (t ∷ ts))
    later c n t ts e (inl h) = inl (coefficient_rest c t (take n ts) e ∙ h)
    later c n t ts e (inr h) = inr (coefficient_rest c t (take n ts) e ∙ h ∙ sym (coefficient_rest c t ts e))

    cases : (c n : ℕ) (t : ℕ × ℤ) (ts : List (ℕ × ℤ)) → AscendsFrom (t.0 + 1) ts → ((coefficient c (take n ts) ≡ pos 0) ⊎ (coefficient c (take n ts) ≡ coefficient c ts)) →
        ((t.0 ≡ c) ⊎ (t.0 ≡ c → ⊥)) → (coefficient c (t ∷ take n ts) ≡ pos 0) ⊎ (coefficient c (t ∷ take n ts) ≡ coefficient c (t ∷ ts))
    cases c n t ts up h (inl e) =
        inr (coefficient_first c t (take n ts) (AscendsFrom-take (t.0 + 1) n ts up) e ∙ sym (coefficient_first c t ts up e))
    cases c n t ts up h (inr e) = later c n t ts e h

-- the coefficients of ascending terms fit, where the terms do
pub Fits-columns : (low c : ℕ) (ts : List (ℕ × ℤ)) → AscendsFrom low ts → AllByRecursion (λ t. Fits t.1) ts → Fits (coefficient c ts)
Fits-columns low c [] up h = lit< tt
Fits-columns low c (t ∷ ts) up h = cases c t ts up.1 h.0 (Fits-columns (t.0 + 1) c ts up.1 h.1) (cases_eq t.0 c)
  where
    cases : (c : ℕ) (t : ℕ × ℤ) (ts : List (ℕ × ℤ)) → AscendsFrom (t.0 + 1) ts → Fits t.1 → Fits (coefficient c ts) → ((t.0 ≡ c) ⊎ (t.0 ≡ c → ⊥)) → Fits (coefficient c (t ∷ ts))
    cases c t ts up f g (inl e) = subst Fits (sym (coefficient_first c t ts up e)) f
    cases c t ts up f g (inr e) = subst Fits (sym (coefficient_rest c t ts e)) g

-- ---- a sum so far, and the terms that are left

-- each term that is left fits, and each running sum
pub record RestFits (sum left : List (ℕ × ℤ)) : Type 0 where
  pub each : AllByRecursion (λ t. Fits t.1) left
  pub sums : (c k : ℕ) → Fits (coefficient c sum +ℤ coefficient c (take k left))

pub rest_from_given : (given : List (ℕ × ℤ)) → TermsFit given → RestFits [] given
rest_from_given given h = record {
  each = h.each;
  sums = λ c k. let e : coefficient c (take k given) ≡ pos 0 +ℤ coefficient c (take k given) = omega (arith, ints) in subst Fits e (h.sums c k);
}

pub given_from_rest : (given : List (ℕ × ℤ)) → RestFits [] given → TermsFit given
given_from_rest given h = record {
  each = h.each;
  sums = λ c k. let e : pos 0 +ℤ coefficient c (take k given) ≡ coefficient c (take k given) = omega (arith, ints) in subst Fits e (h.sums c k);
}

Each-append : (a b : List (ℕ × ℤ)) → AllByRecursion (λ t. Fits t.1) a → AllByRecursion (λ t. Fits t.1) b → AllByRecursion (λ t. Fits t.1) (a ++ b)
Each-append [] b h k = k
Each-append (t ∷ a) b h k = (h.0, Each-append a b h.1 k)

Each-parts : (a b : List (ℕ × ℤ)) → AllByRecursion (λ t. Fits t.1) (a ++ b) → AllByRecursion (λ t. Fits t.1) a × AllByRecursion (λ t. Fits t.1) b
Each-parts [] b h = (tt, h)
Each-parts (t ∷ a) b h = let k : AllByRecursion (λ t. Fits t.1) a × AllByRecursion (λ t. Fits t.1) b = Each-parts a b h.1 in ((h.0, k.0), k.1)

take_past : (a b : List (ℕ × ℤ)) (k : ℕ) → take (length a + k) (a ++ b) ≡ a ++ take k b
take_past [] b k = let e : 0 + k ≡ k = omega arith in rw e
take_past (t ∷ a) b k = let e : suc (length a) + k ≡ suc (length a + k) = omega arith in rw (e, take_past a b k)

-- one merge takes a stretch away
pub rest_goes : (sum front rest next : List (ℕ × ℤ)) → AscendsFrom 0 front → AreMerged sum (pos 1) front next → RestFits sum (front ++ rest) → RestFits next rest
rest_goes sum front rest next up m h = record {
  each = (Each-parts front rest h.each).1;
  sums = λ c k.
      let f : Fits (coefficient c sum +ℤ coefficient c (take (length front + k) (front ++ rest))) = h.sums c (length front + k) in
      let p : coefficient c (front ++ take k rest) ≡ coefficient c front +ℤ coefficient c (take k rest) = coefficient-append c front (take k rest) in
      let q : coefficient c (take (length front + k) (front ++ rest)) ≡ coefficient c (front ++ take k rest) = ap (coefficient c) (take_past front rest k) in
      let s : coefficient c next ≡ coefficient c sum +ℤ (pos 1 *ℤ coefficient c front) = m.coefficients c in
      let e : coefficient c sum +ℤ coefficient c (take (length front + k) (front ++ rest)) ≡ coefficient c next +ℤ coefficient c (take k rest) = omega (arith, ints) in
      subst Fits e f;
}

Each-coefficients : (ts : List (ℕ × ℤ)) → AllByRecursion IsCoefficient ts → AllByRecursion (λ t. Fits t.1) ts
Each-coefficients [] h = tt
Each-coefficients (t ∷ ts) h = (h.0.fits, Each-coefficients ts h.1)

-- and back
pub rest_went : (sum front rest next : List (ℕ × ℤ)) → AscendsFrom 0 front → AreMerged sum (pos 1) front next → AreTerms sum → RestFits next rest → RestFits sum (front ++ rest)
rest_went sum front rest next up m t h = record {
  each = Each-append front rest (Fits-from_columns 0 front up (λ c. let e : pos 1 *ℤ coefficient c front ≡ coefficient c front = omega (arith, ints) in subst Fits e (m.fits c).0)) h.each;
  sums = λ c k. cases c k (cases_lt k (length front));
}
  where
    inside : (c k : ℕ) → ((coefficient c (take k front) ≡ pos 0) ⊎ (coefficient c (take k front) ≡ coefficient c front)) → Fits (coefficient c sum +ℤ coefficient c (take k front))
    inside c k (inl z) =
        let e : coefficient c sum ≡ coefficient c sum +ℤ coefficient c (take k front) = omega (arith, ints) in
        subst Fits e (Fits-columns 0 c sum t.ascends (Each-coefficients sum t.coefficients))
    inside c k (inr z) =
        let e : coefficient c sum +ℤ (pos 1 *ℤ coefficient c front) ≡ coefficient c sum +ℤ coefficient c (take k front) = omega (arith, ints) in
        subst Fits e (m.fits c).1

    past : (c j : ℕ) → Fits (coefficient c sum +ℤ coefficient c (take (length front + j) (front ++ rest)))
    past c j =
        let p : coefficient c (front ++ take j rest) ≡ coefficient c front +ℤ coefficient c (take j rest) = coefficient-append c front (take j rest) in
        let q : coefficient c (take (length front + j) (front ++ rest)) ≡ coefficient c (front ++ take j rest) = ap (coefficient c) (take_past front rest j) in
        let s : coefficient c next ≡ coefficient c sum +ℤ (pos 1 *ℤ coefficient c front) = m.coefficients c in
        let e : coefficient c next +ℤ coefficient c (take j rest) ≡ coefficient c sum +ℤ coefficient c (take (length front + j) (front ++ rest)) = omega (arith, ints) in
        subst Fits e (h.sums c j)

    cases : (c k : ℕ) → ((k < length front) ⊎ (length front ≤ k)) → Fits (coefficient c sum +ℤ coefficient c (take k (front ++ rest)))
    cases c k (inl l) =
        subst (λ (ts : List (ℕ × ℤ)). Fits (coefficient c sum +ℤ coefficient c ts)) (sym (take-append-le k front rest (omega arith)))
        (inside c k (coefficient-take 0 c k front up))
    cases c k (inr l) =
        let e : length front + (k - length front) ≡ k = omega arith in
        subst (λ (n : ℕ). Fits (coefficient c sum +ℤ coefficient c (take n (front ++ rest)))) e (past c (k - length front))

-- what the merge of a stretch asks
pub stretch_fits : (sum front rest : List (ℕ × ℤ)) → AscendsFrom 0 front → RestFits sum (front ++ rest) → (c : ℕ) → ColumnFits (pos 1) sum front c
stretch_fits sum front rest up h c =
    let e : coefficient c front ≡ pos 1 *ℤ coefficient c front = omega (arith, ints) in
    let f : Fits (coefficient c sum +ℤ coefficient c front) =
    subst (λ (ts : List (ℕ × ℤ)). Fits (coefficient c sum +ℤ coefficient c ts)) (take_at front rest (length front) refl) (h.sums c (length front)) in
    (subst Fits e (Fits-columns 0 c front up (Each-parts front rest h.each).0), subst (λ (z : ℤ). Fits (coefficient c sum +ℤ z)) e f)

-- ---- the state of the loop

-- the sum so far of the terms that are no longer left
pub record IsMaking (given sum left : List (ℕ × ℤ)) : Type 0 where
  pub terms : AreTerms sum
  pub sums : (c : ℕ) → coefficient c sum +ℤ coefficient c left ≡ coefficient c given
  pub fits : RestFits sum left ↔ TermsFit given

pub making_starts : (given : List (ℕ × ℤ)) → IsMaking given [] given
making_starts given = record {
  terms = record { ascends = tt; coefficients = tt };
  sums = λ c. omega (arith, ints);
  fits = (given_from_rest given, rest_from_given given);
}

-- one step: n terms in front are merged into the sum
pub making_goes : (given sum left next : List (ℕ × ℤ)) (n : ℕ) → IsMaking given sum left → AscendsFrom 0 (take n left) →
    AreMerged sum (pos 1) (take n left) next → IsMaking given next (drop n left)
making_goes given sum left next n s up m = record {
  terms = m.terms;
  sums = λ c.
      let p : coefficient c (take n left ++ drop n left) ≡ coefficient c (take n left) +ℤ coefficient c (drop n left) = coefficient-append c (take n left) (drop n left) in
      let q : coefficient c (take n left ++ drop n left) ≡ coefficient c left = ap (coefficient c) (take-append-drop n left) in
      let f : coefficient c next ≡ coefficient c sum +ℤ (pos 1 *ℤ coefficient c (take n left)) = m.coefficients c in
      let g : coefficient c sum +ℤ coefficient c left ≡ coefficient c given = s.sums c in
      omega (arith, ints);
  fits = (
    λ h. s.fits.0 (subst (RestFits sum) (take-append-drop n left) (rest_went sum (take n left) (drop n left) next up m s.terms h)),
    λ h. rest_goes sum (take n left) (drop n left) next up m (subst (RestFits sum) (sym (take-append-drop n left)) (s.fits.1 h)),
  );
}

-- where the merge finds a number that does not fit, the terms do not all fit
pub making_stops : (given sum left : List (ℕ × ℤ)) (n : ℕ) → IsMaking given sum left → AscendsFrom 0 (take n left) →
    (((c : ℕ) → ColumnFits (pos 1) sum (take n left) c) → ⊥) → TermsFit given → ⊥
making_stops given sum left n s up never h =
    never (stretch_fits sum (take n left) (drop n left) up (subst (RestFits sum) (sym (take-append-drop n left)) (s.fits.1 h)))

-- where nothing is left, the sum is whole
pub making_ends : (given sum left : List (ℕ × ℤ)) → IsMaking given sum left → left ≡ [] → AreSummed given sum
making_ends given sum left s e = record {
  fits = s.fits.0 (subst (RestFits sum) (sym e) (record { each = tt; sums = λ c k. nothing c k }));
  terms = s.terms;
  coefficients = λ c.
      let f : coefficient c sum +ℤ coefficient c left ≡ coefficient c given = s.sums c in
      let g : coefficient c left ≡ pos 0 = ap (coefficient c) e in
      omega (arith, ints);
}
  where
    whole : (c : ℕ) → Fits (coefficient c sum +ℤ pos 0)
    whole c =
        let f : coefficient c sum ≡ coefficient c sum +ℤ pos 0 = omega (arith, ints) in
        subst Fits f (Fits-columns 0 c sum s.terms.ascends (Each-coefficients sum s.terms.coefficients))

    nothing : (c k : ℕ) → Fits (coefficient c sum +ℤ coefficient c (take k []))
    nothing c zero = whole c
    nothing c (suc k) = whole c
