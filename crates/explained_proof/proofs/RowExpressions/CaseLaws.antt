-- Cases along their columns, what is left of a bound, and conditions that are excluded.
use mathlib.Core.Bool.{beq}
use Rattle.std.proofs.Common.{◌≡◌, ◌∙◌, ◌⊎◌, inl, inr, ℕ, zero, suc, ◌+◌, ◌<◌, ◌≤◌, ◌^◌, min, ℤ, pos, ◌-ℤ◌, Bool, true, false, cond, List, [], ◌∷◌, ◌++◌, length, take, drop, get_or, Option, None, Some, refl, sym, ap, subst, append_assoc, arith}
use Rattle.std.specs.Prelude.{◌&&◌, unsigned_abs, nat_lt, if◌then◌else◌}
use Rattle.std.specs.List.{AllByRecursion}
use Rattle.std.specs.Option.{option_and_then}
use Rattle.std.proofs.lemmas.List.{drop_more, drop_all, append-nil}
use Rattle.std.proofs.lemmas.List.Elements.{filter_more}
use Rattle.std.proofs.lemmas.Bool.{ltb-true}
use Rattle.math_facts.specs.Fits.{Fits}
use Rattle.lin_rows.specs.Rows.{IsCoefficient}
use Rattle.boogie_tree.specs.Tree.{Expression}
use Rattle.explained_proof.specs.RowExpressions.Scopes.{ClauseScope, is_truth}
use Rattle.explained_proof.specs.RowExpressions.Cases.{fit, rest, conditions, implied, opposite_of, excluded_from, excluded}
use Rattle.explained_proof.specs.RowExpressions.Rows.{terms_of}

-- ---- what is left of a bound

rest_of_none : (b : ℤ) (ts : List (ℕ × ℤ)) → rest b ts [] ≡ Some b
rest_of_none b [] = refl
rest_of_none b (t ∷ ts) = refl

-- behind the last column, or behind the case
pub rest_ends : (b : ℤ) (ts : List (ℕ × ℤ)) (c : List Bool) (i : ℕ) → (length ts ≤ i) ⊎ (length c ≤ i) → Some b ≡ rest b (drop i ts) (drop i c)
rest_ends b ts c i (inl h) = ap (λ us. rest b us (drop i c)) (sym (drop_all i ts h))
rest_ends b ts c i (inr h) = sym (rest_of_none b (drop i ts)) ∙ ap (rest b (drop i ts)) (sym (drop_all i c h))

module _ (b : ℤ) (ts : List (ℕ × ℤ)) (c : List Bool) (i : ℕ) (l : i < length ts) (k : i < length c) where
  rest_at : (v : Bool) → get_or c i false ≡ v → rest b (drop i ts) (drop i c) ≡ rest b (get_or ts i (0, pos 0) ∷ drop (i + 1) ts) (v ∷ drop (i + 1) c)
  rest_at v e =
      ap (λ us. rest b us (drop i c)) (drop_more ts i (0, pos 0) l) ∙
      ap (rest b (get_or ts i (0, pos 0) ∷ drop (i + 1) ts)) (drop_more c i false k ∙ ap (λ w. w ∷ drop (i + 1) c) e)

  -- the column is false in the case
  pub rest_passes : get_or c i false ≡ false → rest b (drop (i + 1) ts) (drop (i + 1) c) ≡ rest b (drop i ts) (drop i c)
  rest_passes e = sym (rest_at false e)

  -- it is true, and the difference fits
  pub rest_takes : (r : ℤ) → get_or c i false ≡ true → fit (b -ℤ (get_or ts i (0, pos 0)).1) ≡ Some r → rest r (drop (i + 1) ts) (drop (i + 1) c) ≡ rest b (drop i ts) (drop i c)
  rest_takes r e f = sym (rest_at true e ∙ ap (option_and_then (λ q. rest q (drop (i + 1) ts) (drop (i + 1) c))) f)

  -- it is true, and the difference does not fit
  pub rest_stops : get_or c i false ≡ true → fit (b -ℤ (get_or ts i (0, pos 0)).1) ≡ None → None ≡ rest b (drop i ts) (drop i c)
  rest_stops e f = sym (rest_at true e ∙ ap (option_and_then (λ q. rest q (drop (i + 1) ts) (drop (i + 1) c))) f)

fit_fits : (z r : ℤ) → fit z ≡ Some r → Fits r
fit_fits z r e = by (nat_lt (unsigned_abs z) (2 ^ 127)) refl
  where
    by : (t : Bool) → nat_lt (unsigned_abs z) (2 ^ 127) ≡ t → Fits r
    by true h =
        let s : Some z ≡ Some r = sym (ap (λ t. if t then Some z else None) h) ∙ e in
        let q : z ≡ r = cc in
        subst Fits q (ltb-true (unsigned_abs z) (2 ^ 127) h)
    by false h =
        let s : None ≡ Some r = sym (ap (λ t. if t then Some z else None) h) ∙ e in
        absurd (cc)

through : (o : Option ℤ) (z r : ℤ) (ts : List (ℕ × ℤ)) (c : List Bool) → fit z ≡ o → ((q : ℤ) → Fits q → rest q ts c ≡ Some r → Fits r) →
    option_and_then (λ q. rest q ts c) (fit z) ≡ Some r → Fits r
through None z r ts c f k e =
    let s : None ≡ Some r = sym (ap (option_and_then (λ q. rest q ts c)) f) ∙ e in
    absurd (cc)
through (Some q) z r ts c f k e = k q (fit_fits z q f) (sym (ap (option_and_then (λ p. rest p ts c)) f) ∙ e)

-- what is left fits where the bound does
pub rest_fits : (b r : ℤ) (ts : List (ℕ × ℤ)) (c : List Bool) → Fits b → rest b ts c ≡ Some r → Fits r
rest_fits b r [] c h e = let q : b ≡ r = cc in subst Fits q h
rest_fits b r (t ∷ ts) [] h e = let q : b ≡ r = cc in subst Fits q h
rest_fits b r (t ∷ ts) (false ∷ c) h e = rest_fits b r ts c h e
rest_fits b r (t ∷ ts) (true ∷ c) h e = through (fit (b -ℤ t.1)) (b -ℤ t.1) r ts c refl (λ q. rest_fits q r ts c) e

-- ---- conditions

conditions_of_none : (s : ClauseScope) (ts : List (ℕ × ℤ)) → conditions s ts [] ≡ Some []
conditions_of_none s [] = refl
conditions_of_none s (t ∷ ts) = refl

pub conditions_end : (s : ClauseScope) (ts : List (ℕ × ℤ)) (c : List Bool) (i : ℕ) → min (length ts) (length c) ≤ i → conditions s (drop i ts) (drop i c) ≡ Some []
conditions_end s ts c i h = by (short (length ts) (length c) i h)
  where
    short : (a b i : ℕ) → min a b ≤ i → (a ≤ i) ⊎ (b ≤ i)
    short a b i h = grind arith

    by : (length ts ≤ i) ⊎ (length c ≤ i) → conditions s (drop i ts) (drop i c) ≡ Some []
    by (inl l) = ap (λ us. conditions s us (drop i c)) (drop_all i ts l)
    by (inr l) = ap (conditions s (drop i ts)) (drop_all i c l) ∙ conditions_of_none s (drop i ts)

-- ---- conditions that do not hold together

excluded_on : (qs ps : List Expression) (e : Expression) → excluded_from qs (ps ++ e ∷ []) ≡ Some (implied (qs ++ ps) (opposite_of e))
excluded_on qs [] e = ap (λ xs. Some (implied xs (opposite_of e))) (sym (append-nil qs))
excluded_on qs (p ∷ []) e = refl
excluded_on qs (p ∷ (r ∷ ps)) e = excluded_on (qs ++ p ∷ []) (r ∷ ps) e ∙ ap (λ xs. Some (implied xs (opposite_of e))) (append_assoc qs (p ∷ []) (r ∷ ps))

-- the opposite of the last under the others
pub excluded_last : (ps : List Expression) (e : Expression) → excluded (ps ++ e ∷ []) ≡ Some (implied ps (opposite_of e))
excluded_last ps e = excluded_on [] ps e

-- ---- terms that are kept

pub and_false : (a b : Bool) → b ≡ false → (a && b) ≡ false
and_false true b h = h
and_false false b h = refl

pub terms_next : (s : ClauseScope) (truths : Bool) (ts : List (ℕ × ℤ)) (i : ℕ) (here : Bool) (now new : List (ℕ × ℤ)) → i < length ts → now ≡ terms_of s truths (take i ts) →
    here ≡ beq truths (is_truth s (get_or ts i (0, pos 0)).0) → new ≡ now ++ cond here (get_or ts i (0, pos 0) ∷ []) [] → new ≡ terms_of s truths (take (i + 1) ts)
terms_next s truths ts i here now new l h e f =
    let t : ℕ × ℤ = get_or ts i (0, pos 0) in
    f ∙ ap (λ us. us ++ cond here (t ∷ []) []) h ∙ ap (λ b. terms_of s truths (take i ts) ++ cond b (t ∷ []) []) e ∙
    sym (filter_more (λ (u : ℕ × ℤ). beq truths (is_truth s u.0)) ts i (0, pos 0) l)

all_pushed : (us : List (ℕ × ℤ)) (t : ℕ × ℤ) → AllByRecursion IsCoefficient us → IsCoefficient t → AllByRecursion IsCoefficient (us ++ t ∷ [])
all_pushed [] t h k = (k, tt)
all_pushed (u ∷ us) t h k = (h.0, all_pushed us t h.1 k)

coefficient_at : (ts : List (ℕ × ℤ)) (i : ℕ) → i < length ts → AllByRecursion IsCoefficient ts → IsCoefficient (get_or ts i (0, pos 0))
coefficient_at [] i l h = absurd (omega (arith, l))
coefficient_at (t ∷ ts) zero l h = h.0
coefficient_at (t ∷ ts) (suc i) l h = coefficient_at ts i (omega (arith, l)) h.1

pub valid_next : (ts us new : List (ℕ × ℤ)) (i : ℕ) (here : Bool) → i < length ts → AllByRecursion IsCoefficient ts → AllByRecursion IsCoefficient us →
    new ≡ us ++ cond here (get_or ts i (0, pos 0) ∷ []) [] → AllByRecursion IsCoefficient new
valid_next ts us new i true l h k e = subst (AllByRecursion IsCoefficient) (sym e) (all_pushed us (get_or ts i (0, pos 0)) k (coefficient_at ts i l h))
valid_next ts us new i false l h k e = subst (AllByRecursion IsCoefficient) (sym (e ∙ append-nil us)) k
