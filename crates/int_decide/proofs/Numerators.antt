-- A rational point by numerators over one denominator.
use Rattle.std.proofs.Common.{◌≡◌, ℕ, zero, suc, ◌+◌, ◌<◌, ◌≤◌, ℤ, pos, ◌*ℤ◌, ◌<ℤ◌, List, [], ◌∷◌, ◌++◌, length, take, get_or, sym, ap, ◌∙◌, subst}
use Rattle.std.specs.List.{AllByRecursion}
use Rattle.std.proofs.lemmas.List.{take_more, take_all}
use Rattle.math_facts.proofs.Whole.{product_zero_left, product_assoc}
use Rattle.frac.specs.Fractions.{Fraction, IsLowest, IsRatio}
use Rattle.lin_rows.specs.Rows.{LinearRow}
use Rattle.lin_rows.specs.Points.{point_of}
use Rattle.fm_elim.specs.Values.{value_at}
use Rattle.fm_elim.specs.Slices.{IsPoint}
use Rattle.fm_elim.specs.Worth.{HoldsAt}
use Rattle.int_decide.specs.Ties.Picking.{IsOver, AreOver}

over_more : (d : ℤ) (fs : List Fraction) (ps : List ℤ) (f : Fraction) (p : ℤ) → AreOver d fs ps → IsOver d f p → AreOver d (fs ++ f ∷ []) (ps ++ p ∷ [])
over_more d [] [] f p h o = (o, tt)
over_more d [] (q ∷ ps) f p h o = absurd h
over_more d (g ∷ fs) [] f p h o = absurd h
over_more d (g ∷ fs) (q ∷ ps) f p h o = (h.0, over_more d fs ps f p h.1 o)

-- one value more
pub over_next : (d : ℤ) (fs : List Fraction) (ps qs : List ℤ) (i : ℕ) (f : Fraction) (p : ℤ) → i < length fs → f ≡ get_or fs i f → AreOver d (take i fs) ps → IsOver d f p →
    qs ≡ ps ++ p ∷ [] → AreOver d (take (i + 1) fs) qs
over_next d fs ps qs i f p l e h o q =
    let t : take (i + 1) fs ≡ take i fs ++ f ∷ [] = take_more fs i f l ∙ ap (λ (g : Fraction). take i fs ++ g ∷ []) (sym e) in
    subst (λ (xs : List Fraction). AreOver d xs qs) (sym t) (subst (λ (xs : List ℤ). AreOver d (take i fs ++ f ∷ []) xs) (sym q) (over_more d (take i fs) ps f p h o))

-- all values
pub over_all : (d : ℤ) (fs : List Fraction) (ps : List ℤ) (i : ℕ) → length fs ≤ i → AreOver d (take i fs) ps → AreOver d fs ps
over_all d fs ps i l h = subst (λ (xs : List Fraction). AreOver d xs ps) (take_all i fs l) h

over_lowest : (d : ℤ) (fs : List Fraction) (ps : List ℤ) → AreOver d fs ps → AllByRecursion IsLowest fs
over_lowest d [] ps h = tt
over_lowest d (f ∷ fs) [] h = absurd h
over_lowest d (f ∷ fs) (p ∷ ps) h = (h.0.lowest, over_lowest d fs ps h.1)

over_values : (d : ℤ) (fs : List Fraction) (ps : List ℤ) → AreOver d fs ps → (c : ℕ) → IsRatio (value_at fs c) (point_of ps c) d
over_values d [] [] h c = product_zero_left d
over_values d [] (p ∷ ps) h c = absurd h
over_values d (f ∷ fs) [] h c = absurd h
over_values d (f ∷ fs) (p ∷ ps) h zero = h.0.ratio
over_values d (f ∷ fs) (p ∷ ps) h (suc c) = over_values d fs ps h.1 c

-- the values are a point of the rows
pub over_point : (n : ℕ) (rows : List LinearRow) (d : ℤ) (fs : List Fraction) (ps : List ℤ) → length fs ≡ n → pos 0 <ℤ d → AreOver d fs ps → AllByRecursion (HoldsAt d (point_of ps)) rows →
    IsPoint n rows fs
over_point n rows d fs ps e q h all = record {
  lowest = over_lowest d fs ps h;
  meets = record { columns = e; d = d; p = point_of ps; positive = q; values_are = over_values d fs ps h; holds = all };
}

-- a numerator over a multiple of the denominator
pub over_is : (d times : ℤ) (f : Fraction) (p : ℤ) → IsLowest f → times *ℤ f.den ≡ d → p ≡ f.num *ℤ times → IsOver d f p
over_is d times f p low e g = record {
  lowest = low;
  ratio = ap (λ (x : ℤ). f.num *ℤ x) (sym e) ∙ sym (product_assoc f.num times f.den) ∙ ap (λ (x : ℤ). x *ℤ f.den) (sym g);
}
