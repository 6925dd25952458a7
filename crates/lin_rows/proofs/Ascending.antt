-- Terms that ascend by column: their coefficients, and that the coefficients determine them.
use Rattle.std.proofs.Common.{◌≡◌, ◌≢◌, ℕ, ◌+◌, ◌<◌, ◌≤◌, ℤ, pos, List, [], ◌∷◌, ◌++◌, refl, sym, ◌∙◌, arith, inl, inr, ◌⊎◌}
use Rattle.std.specs.List.{AllByRecursion}
use Rattle.std.proofs.lemmas.Int.{ints}
use Rattle.std.proofs.lemmas.Bool.{eq-eqb, ne_eqb, cases_eq, cases_order}
use Rattle.math_facts.specs.Fits.{Fits}
use Rattle.math_facts.specs.Terms.{coefficient}
use Rattle.lin_rows.specs.Rows.{AscendsFrom}

-- ---- the coefficient of a first term

-- a column below all has no coefficient
pub coefficient_below : (low c : ℕ) (ts : List (ℕ × ℤ)) → AscendsFrom low ts → c < low → coefficient c ts ≡ pos 0
coefficient_below low c [] up l = refl
coefficient_below low c (t ∷ ts) up l =
    let h : low ≤ t.0 = up.0 in
    let e : coefficient c ts ≡ pos 0 = coefficient_below (t.0 + 1) c ts up.1 (omega arith) in
    rw (ne_eqb t.0 c (λ (u : t.0 ≡ c). omega arith)) (omega (arith, ints))

-- the first term has the coefficient of its column
pub coefficient_first : (c : ℕ) (t : ℕ × ℤ) (ts : List (ℕ × ℤ)) → AscendsFrom (t.0 + 1) ts → t.0 ≡ c → coefficient c (t ∷ ts) ≡ t.1
coefficient_first c t ts up e =
    let h : coefficient c ts ≡ pos 0 = coefficient_below (t.0 + 1) c ts up (omega arith) in
    rw (eq-eqb t.0 c e) (omega (arith, ints))

-- and no other
pub coefficient_rest : (c : ℕ) (t : ℕ × ℤ) (ts : List (ℕ × ℤ)) → (t.0 ≡ c → ⊥) → coefficient c (t ∷ ts) ≡ coefficient c ts
coefficient_rest c t ts e = rw (ne_eqb t.0 c e) (omega (arith, ints))

-- ---- the order

-- a lower start serves too
pub AscendsFrom_less : (low c : ℕ) (ts : List (ℕ × ℤ)) → low ≤ c → AscendsFrom c ts → AscendsFrom low ts
AscendsFrom_less low c [] l up = tt
AscendsFrom_less low c (t ∷ ts) l up = (let h : c ≤ t.0 = up.0 in omega arith, up.1)

-- what stands behind ascends too
pub AscendsFrom-suffix : (low : ℕ) (a b : List (ℕ × ℤ)) → AscendsFrom low (a ++ b) → AscendsFrom low b
AscendsFrom-suffix low [] b up = up
AscendsFrom-suffix low (t ∷ a) b up =
    let h : low ≤ t.0 = up.0 in
    AscendsFrom_less low (t.0 + 1) b (omega arith) (AscendsFrom-suffix (t.0 + 1) a b up.1)

-- other terms may stand behind, if they begin no earlier
pub AscendsFrom-join : (low : ℕ) (a : List (ℕ × ℤ)) (t : ℕ × ℤ) (b d : List (ℕ × ℤ)) → AscendsFrom low (a ++ t ∷ b) → AscendsFrom t.0 d → AscendsFrom low (a ++ d)
AscendsFrom-join low [] t b d up h = AscendsFrom_less low t.0 d up.0 h
AscendsFrom-join low (u ∷ a) t b d up h = (up.0, AscendsFrom-join (u.0 + 1) a t b d up.1 h)

-- ---- the coefficients determine the terms

-- no coefficient is 0
abbrev pub HasNoZero : List (ℕ × ℤ) → Type 0
HasNoZero ts = AllByRecursion (λ t. t.1 ≢ pos 0) ts

-- Ascending terms without zeros are determined by their coefficients.
pub same_from_coefficients : (low : ℕ) (a b : List (ℕ × ℤ)) → AscendsFrom low a → AscendsFrom low b → HasNoZero a → HasNoZero b →
    ((c : ℕ) → coefficient c a ≡ coefficient c b) → a ≡ b
same_from_coefficients low [] [] p q n m h = refl
same_from_coefficients low [] (u ∷ us) p q n m h = absurd (m.0 (sym (coefficient_first u.0 u us q.1 refl) ∙ sym (h u.0)))
same_from_coefficients low (t ∷ ts) [] p q n m h = absurd (n.0 (sym (coefficient_first t.0 t ts p.1 refl) ∙ h t.0))
same_from_coefficients low (t ∷ ts) (u ∷ us) p q n m h = by_order t u ts us p.1 q.1 n.0 m.0 h (cases_order t.0 u.0)
    (λ (e : t.0 ≡ u.0). same_from_coefficients (t.0 + 1) ts us p.1 (AscendsFrom_less (t.0 + 1) (u.0 + 1) us (omega arith) q.1) n.1 m.1 (rests t u ts us p.1 q.1 h e))
  where
    rests : (t u : ℕ × ℤ) (ts us : List (ℕ × ℤ)) → AscendsFrom (t.0 + 1) ts → AscendsFrom (u.0 + 1) us →
        ((c : ℕ) → coefficient c (t ∷ ts) ≡ coefficient c (u ∷ us)) → t.0 ≡ u.0 → (c : ℕ) → coefficient c ts ≡ coefficient c us
    rests t u ts us p q h e c = at_column t u ts us p q h e c (cases_eq t.0 c)
      where
        at_column : (t u : ℕ × ℤ) (ts us : List (ℕ × ℤ)) → AscendsFrom (t.0 + 1) ts → AscendsFrom (u.0 + 1) us →
            ((c : ℕ) → coefficient c (t ∷ ts) ≡ coefficient c (u ∷ us)) → t.0 ≡ u.0 → (c : ℕ) → ((t.0 ≡ c) ⊎ (t.0 ≡ c → ⊥)) → coefficient c ts ≡ coefficient c us
        at_column t u ts us p q h e c (inl k) =
            coefficient_below (t.0 + 1) c ts p (omega arith) ∙ sym (coefficient_below (u.0 + 1) c us q (omega arith))
        at_column t u ts us p q h e c (inr k) =
            sym (coefficient_rest c t ts k) ∙ h c ∙ coefficient_rest c u us (λ (l : u.0 ≡ c). k (e ∙ l))

    by_order : (t u : ℕ × ℤ) (ts us : List (ℕ × ℤ)) → AscendsFrom (t.0 + 1) ts → AscendsFrom (u.0 + 1) us → t.1 ≢ pos 0 → u.1 ≢ pos 0 →
        ((c : ℕ) → coefficient c (t ∷ ts) ≡ coefficient c (u ∷ us)) → ((t.0 ≡ u.0) ⊎ ((t.0 < u.0) ⊎ (u.0 < t.0))) →
        (t.0 ≡ u.0 → ts ≡ us) → t ∷ ts ≡ u ∷ us
    by_order t u ts us p q n m h (inl e) rest =
        let f : t.1 ≡ u.1 = sym (coefficient_first t.0 t ts p refl) ∙ h t.0 ∙ coefficient_first t.0 u us q (sym e) in
        let g : ts ≡ us = rest e in
        let k : t ≡ u = λ i. (e i, f i) in
        cc
    by_order t u ts us p q n m h (inr (inl l)) rest =
        absurd (n (sym (coefficient_first t.0 t ts p refl) ∙ h t.0 ∙ coefficient_below u.0 t.0 (u ∷ us) (omega arith, q) l))
    by_order t u ts us p q n m h (inr (inr l)) rest =
        absurd (m (sym (coefficient_first u.0 u us q refl) ∙ sym (h u.0) ∙ coefficient_below t.0 u.0 (t ∷ ts) (omega arith, p) l))

-- ---- coefficients that fit

-- each term's coefficient is that of its column
pub Fits-from_columns : (low : ℕ) (ts : List (ℕ × ℤ)) → AscendsFrom low ts → ((c : ℕ) → Fits (coefficient c ts)) → AllByRecursion (λ t. Fits t.1) ts
Fits-from_columns low [] up h = tt
Fits-from_columns low (t ∷ ts) up h =
    (rw (coefficient_first t.0 t ts up.1 refl) at (h t.0), Fits-from_columns (t.0 + 1) ts up.1 (λ c. later t ts up.1 h c (cases_eq t.0 c)))
  where
    later : (t : ℕ × ℤ) (ts : List (ℕ × ℤ)) → AscendsFrom (t.0 + 1) ts → ((c : ℕ) → Fits (coefficient c (t ∷ ts))) → (c : ℕ) →
        ((t.0 ≡ c) ⊎ (t.0 ≡ c → ⊥)) → Fits (coefficient c ts)
    later t ts up h c (inl e) = rw (coefficient_below (t.0 + 1) c ts up (omega arith)) (omega arith)
    later t ts up h c (inr e) = rw (coefficient_rest c t ts e) at (h c)
