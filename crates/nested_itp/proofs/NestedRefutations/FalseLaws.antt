-- Where a claim of a triple is false: which row of its system is `0 <= -1`, and that a leaf which takes that row refutes.
use Rattle.std.proofs.Common.{◌≡◌, ◌∙◌, ℕ, zero, suc, ◌+◌, ◌<◌, ℤ, pos, ◌+ℤ◌, ◌*ℤ◌, ◌<ℤ◌, Bool, true, false, List, [], ◌∷◌, ◌++◌, length, map, refl, sym, ap, subst, arith, append_assoc, length-append, Option, None, Some}
use Rattle.std.specs.Prelude.{slice_get, if◌then◌else◌}
use Rattle.std.specs.List.{AllByRecursion}
use Rattle.std.proofs.lemmas.Int.{ints}
use Rattle.std.proofs.Math.Dec.{lit<}
use Rattle.math_facts.specs.Fits.{Fits}
use Rattle.math_facts.specs.Terms.{coefficient}
use Rattle.lin_rows.specs.Rows.{LinearRow}
use Rattle.lin_rows.specs.Tightening.{content, never, tightened}
use Rattle.lin_rows.specs.Combinations.{row_at, Multiplies, Contradicts}
use Rattle.farkas_check.specs.Trees.{Tree}
use Rattle.nwa_base.specs.declared.letters.Letter.{Letter}
use Rattle.letter_acts.specs.Invariant.{Graph}
use Rattle.triple_rows.specs.Predicates.{Formula, truth}
use Rattle.nested_itp.specs.NestedPredicates.Sums.{root_of}
use Rattle.nested_itp.specs.NestedPredicates.Simplifying.{is_same}
use Rattle.nested_itp.specs.NestedRefutations.Refutations.{Claim, TreeSpot, truth_in, formula_at, Exposed, exposed, View, rows_in}
use Rattle.nested_itp.specs.NestedRefutations.Numbers.{IsFalse}
use Rattle.nested_itp.specs.NestedRefutations.Walked.{is_truth, false_row}
use Rattle.nested_itp.proofs.NestedRefutations.SpotLaws.{spot, IsUncased, uncased_stands}
use Rattle.nested_itp.proofs.NestedRefutations.RowsLaws as rows_laws
use Rattle.nested_itp.proofs.NestedRefutations.RowsLaws.{says, IsAtomRow, pairs_counted, exposed_rows}
use Rattle.nested_itp.proofs.NestedRefutations.BeginLaws.{exposed_none}

-- ---- a leaf that takes the row

never_stays : tightened never ≡ never
unfolding content
never_stays = refl

same_some : {X : Type 0} (x y : X) → Some x ≡ Some y → x ≡ y
same_some x y e = cc

-- the row with this number
row_found : (rows : List LinearRow) (k : ℕ) (r : LinearRow) → slice_get rows k ≡ Some r → (row_at rows k ≡ r) × (k < length rows)
row_found [] k r e = absurd (cc)
row_found (x ∷ rows) zero r e = (same_some x r e, omega arith)
row_found (x ∷ rows) (suc k) r e = let h = row_found rows k r e in (h.0, (let l = h.1 in omega (arith, l)))

pub row_tightened : (rows : List LinearRow) (k : ℕ) → slice_get rows k ≡ Some never → slice_get (map tightened rows) k ≡ Some never
row_tightened [] k e = absurd (cc)
row_tightened (x ∷ rows) zero e = ap (λ (r : LinearRow). Some (tightened r)) (same_some x never e) ∙ ap Some never_stays
row_tightened (x ∷ rows) (suc k) e = row_tightened rows k e

-- what each number is where it is taken once
abbrev FitsOnce : ℤ → Type 0
FitsOnce z = Fits (pos 1 *ℤ z) × Fits (pos 0 +ℤ (pos 1 *ℤ z)) × Unit {0}

-- once the row `0 <= -1`
pub never_contradicts : (rows : List LinearRow) (k : ℕ) → slice_get rows k ≡ Some never → Contradicts rows ((k, pos 1) ∷ [])
never_contradicts rows k e =
    let h = row_found rows k never e in
    let at : row_at rows k ≡ never = h.0 in
    let back : never ≡ row_at rows k = sym at in
    record {
      ascends = (omega arith, tt);
      each = (record { exists = h.1; multiplies = subst (λ (r : LinearRow). Multiplies (pos 1) r.kind) back (omega (arith, ints)) }, tt);
      multipliers_fit = (lit< tt, tt);
      columns_fit = λ c. subst (λ (r : LinearRow). FitsOnce (coefficient c r.terms)) back (lit< tt, lit< tt, tt);
      bound_fits = subst (λ (r : LinearRow). FitsOnce r.bound) back (lit< tt, lit< tt, tt);
      columns_vanish = λ c. ap (λ (r : LinearRow). (pos 1 *ℤ coefficient c r.terms) +ℤ pos 0) at;
      bound_negative = subst (λ (r : LinearRow). ((pos 1 *ℤ r.bound) +ℤ pos 0) <ℤ pos 0) back (omega (arith, ints));
    }

-- ---- the rows of claims among those of a system

-- these rows and then a claim's, one after another, before others
abbrev pub rows_laid : Graph → List Letter → Tree → View → List (List LinearRow) → List Claim → List LinearRow → List LinearRow
rows_laid g w t v [] cs more = more
rows_laid g w t v (m ∷ ms) [] more = more
rows_laid g w t v (m ∷ ms) (c ∷ cs) more =
    m ++ (rows_in (says c.is_denied c.column (formula_at v.columns c (root_of g w) t)) ++ rows_laid g w t v ms cs more)

false_rows : (d : Bool) (to : ℕ → ℕ) → rows_in (says d to (truth d)) ≡ never ∷ []
false_rows true to = refl
false_rows false to = refl

other_rows : (d z : Bool) (to : ℕ → ℕ) → is_same z d ≡ false → rows_in (says d to (truth z)) ≡ []
other_rows true true to e = absurd (cc)
other_rows true false to e = refl
other_rows false true to e = refl
other_rows false false to e = absurd (cc)

same_truth : (z d : Bool) → is_same z d ≡ true → z ≡ d
same_truth true true e = refl
same_truth true false e = absurd (cc)
same_truth false true e = absurd (cc)
same_truth false false e = refl

-- a claim that is not false has a row for each of its atoms
claim_counted : (g : Graph) (w : List Letter) (t : Tree) (v : View) (c : Claim) → IsUncased t → (o : Option Bool) → truth_in (formula_at v.columns c (root_of g w) t) ≡ o → is_truth o c.is_denied ≡ false →
    length (exposed v.columns c 0 (root_of g w) t).leaves ≡ length (rows_in (says c.is_denied c.column (formula_at v.columns c (root_of g w) t)))
claim_counted g w t v c un None e n =
    let root : TreeSpot = spot 0 (root_of g w) t in
    pairs_counted (IsAtomRow v.columns root c) (exposed v.columns c 0 (root_of g w) t).leaves (rows_in (says c.is_denied c.column (formula_at v.columns c (root_of g w) t)))
    (exposed_rows v.columns root un c 0 (root_of g w) t (uncased_stands v.columns 0 (root_of g w) t un) e)
claim_counted g w t v c un (Some z) e n =
    ap (λ (x : Exposed). length x.leaves) (exposed_none v.columns c 0 (root_of g w) t z e) ∙
    sym (ap (λ (f : Formula). length (rows_in (says c.is_denied c.column f))) (rows_laws.is_truth (formula_at v.columns c (root_of g w) t) z e) ∙
    ap (λ (l : List LinearRow). length l) (other_rows c.is_denied z c.column n))

-- a claim that is so has the row `0 <= -1`
claim_false : (g : Graph) (w : List Letter) (t : Tree) (v : View) (c : Claim) → (o : Option Bool) → truth_in (formula_at v.columns c (root_of g w) t) ≡ o → is_truth o c.is_denied ≡ true →
    rows_in (says c.is_denied c.column (formula_at v.columns c (root_of g w) t)) ≡ never ∷ []
claim_false g w t v c None e n = absurd (cc)
claim_false g w t v c (Some z) e n =
    ap (λ (f : Formula). rows_in (says c.is_denied c.column f)) (rows_laws.is_truth (formula_at v.columns c (root_of g w) t) z e ∙ ap truth (same_truth z c.is_denied n)) ∙
    false_rows c.is_denied c.column

found_behind : (front more : List LinearRow) (r : LinearRow) (k : ℕ) → k ≡ length front → slice_get (front ++ r ∷ more) k ≡ Some r
found_behind [] more r k e = ap (slice_get (r ∷ more)) e
found_behind (x ∷ front) more r zero e = absurd (omega (arith, e))
found_behind (x ∷ front) more r (suc k) e = found_behind front more r k (omega (arith, e))

-- the first claim, where it is false, and else a later one
first_or_later : (g : Graph) (w : List Letter) (t : Tree) (v : View) → IsUncased t → (front : List LinearRow) (k : ℕ) → k ≡ length front →
    (m : List LinearRow) (ms : List (List LinearRow)) (c : Claim) (cs : List Claim) (more : List LinearRow) (r : ℕ) →
    ((before : List LinearRow) (j : ℕ) → j ≡ length before → false_row g w t v j (map length ms) cs ≡ Some r → slice_get (before ++ rows_laid g w t v ms cs more) r ≡ Some never) →
    (z : Bool) → is_truth (truth_in (formula_at v.columns c (root_of g w) t)) c.is_denied ≡ z →
    (if z then Some (k + length m) else false_row g w t v (k + length m + length (exposed v.columns c 0 (root_of g w) t).leaves) (map length ms) cs) ≡ Some r →
    slice_get (front ++ rows_laid g w t v (m ∷ ms) (c ∷ cs) more) r ≡ Some never
first_or_later g w t v un front k e m ms c cs more r later true f h =
    let mine : List LinearRow = rows_in (says c.is_denied c.column (formula_at v.columns c (root_of g w) t)) in
    let rest : List LinearRow = rows_laid g w t v ms cs more in
    let one : mine ≡ never ∷ [] = claim_false g w t v c (truth_in (formula_at v.columns c (root_of g w) t)) refl f in
    let at : k + length m ≡ r = same_some (k + length m) r h in
    let l = length-append front m in
    let place : r ≡ length (front ++ m) = omega (arith, at, l, e) in
    let laid : front ++ (m ++ (mine ++ rest)) ≡ (front ++ m) ++ never ∷ rest =
    sym (append_assoc front m (mine ++ rest)) ∙ ap (λ (x : List LinearRow). (front ++ m) ++ (x ++ rest)) one in
    ap (λ (x : List LinearRow). slice_get x r) laid ∙ found_behind (front ++ m) rest never r place
first_or_later g w t v un front k e m ms c cs more r later false f h =
    let mine : List LinearRow = rows_in (says c.is_denied c.column (formula_at v.columns c (root_of g w) t)) in
    let rest : List LinearRow = rows_laid g w t v ms cs more in
    let leaves : List ℕ = (exposed v.columns c 0 (root_of g w) t).leaves in
    let count : length leaves ≡ length mine = claim_counted g w t v c un (truth_in (formula_at v.columns c (root_of g w) t)) refl f in
    let l1 = length-append front m in
    let l2 = length-append (front ++ m) mine in
    let place : k + length m + length leaves ≡ length ((front ++ m) ++ mine) = omega (arith, count, l1, l2, e) in
    let laid : front ++ (m ++ (mine ++ rest)) ≡ ((front ++ m) ++ mine) ++ rest =
    sym (append_assoc front m (mine ++ rest)) ∙ sym (append_assoc (front ++ m) mine rest) in
    ap (λ (x : List LinearRow). slice_get x r) laid ∙ later ((front ++ m) ++ mine) (k + length m + length leaves) place h

-- behind so many rows
pub false_row_found : (g : Graph) (w : List Letter) (t : Tree) (v : View) → IsUncased t → (front : List LinearRow) (k : ℕ) → k ≡ length front →
    (ms : List (List LinearRow)) (cs : List Claim) (more : List LinearRow) (r : ℕ) → false_row g w t v k (map length ms) cs ≡ Some r →
    slice_get (front ++ rows_laid g w t v ms cs more) r ≡ Some never
false_row_found g w t v un front k e [] cs more r h = absurd (cc)
false_row_found g w t v un front k e (m ∷ ms) [] more r h = absurd (cc)
false_row_found g w t v un front k e (m ∷ ms) (c ∷ cs) more r h =
    first_or_later g w t v un front k e m ms c cs more r (λ before j f i. false_row_found g w t v un before j f ms cs more r i) (is_truth (truth_in (formula_at v.columns c (root_of g w) t)) c.is_denied) refl h

-- ---- no claim is false

not_first : (o : Option Bool) (d : Bool) → is_truth o d ≡ false → o ≡ Some d → ⊥
not_first None d n e = absurd (cc)
not_first (Some true) true n e = absurd (cc)
not_first (Some true) false n e = absurd (cc)
not_first (Some false) true n e = absurd (cc)
not_first (Some false) false n e = absurd (cc)

-- where no row is found
pub none_false : (g : Graph) (w : List Letter) (t : Tree) (v : View) (k : ℕ) (gaps : List ℕ) (cs : List Claim) → length gaps ≡ length cs → false_row g w t v k gaps cs ≡ None →
    AllByRecursion (λ c. IsFalse g w t v c → ⊥) cs
none_false g w t v k [] [] l h = tt
none_false g w t v k [] (c ∷ cs) l h = absurd (omega (arith, l))
none_false g w t v k (n ∷ gaps) [] l h = absurd (omega (arith, l))
none_false g w t v k (n ∷ gaps) (c ∷ cs) l h =
    by_test (is_truth (truth_in (formula_at v.columns c (root_of g w) t)) c.is_denied) refl h (none_false g w t v (k + n + length (exposed v.columns c 0 (root_of g w) t).leaves) gaps cs (omega (arith, l)))
  where
    by_test : (z : Bool) → is_truth (truth_in (formula_at v.columns c (root_of g w) t)) c.is_denied ≡ z →
        (if z then Some (k + n) else false_row g w t v (k + n + length (exposed v.columns c 0 (root_of g w) t).leaves) gaps cs) ≡ None →
        (false_row g w t v (k + n + length (exposed v.columns c 0 (root_of g w) t).leaves) gaps cs ≡ None → AllByRecursion (λ d. IsFalse g w t v d → ⊥) cs) →
        (IsFalse g w t v c → ⊥) × AllByRecursion (λ d. IsFalse g w t v d → ⊥) cs
    by_test true e h later = absurd (cc)
    by_test false e h later = (not_first (truth_in (formula_at v.columns c (root_of g w) t)) c.is_denied e, later h)
