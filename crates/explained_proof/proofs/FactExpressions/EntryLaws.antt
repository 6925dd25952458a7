-- Rows at the entry of a frame, and what a row says at its place in a list.
use Rattle.std.proofs.Common.{◌≡◌, ◌∙◌, ℕ, ◌<◌, ℤ, pos, Bool, true, false, List, [], ◌∷◌, ◌+◌, length, take, drop, get_or, None, Some, refl, sym, ap, subst, arith}
use Rattle.std.specs.Prelude.{if◌then◌else◌}
use Rattle.std.specs.Borrow.{Bor}
use Rattle.std.specs.List.{AllByRecursion}
use Rattle.std.proofs.lemmas.List.{drop_more, take-map, drop-map}
use Rattle.math_facts.specs.Fits.{Fits}
use Rattle.lin_rows.specs.declared.types.RowKind.TheVariants.{Le}
use Rattle.lin_rows.specs.Rows.{LinearRow, IsCoefficient, IsRow}
use Rattle.lin_rows.specs.Sums.{row_of, SumsFit}
use Rattle.lin_rows.specs.Tightening.{tightened}
use Rattle.explained_proof.specs.BuiltExpressions.Members.{always}
use Rattle.explained_proof.specs.RowExpressions.Scopes.{ClauseScope}
use Rattle.explained_proof.specs.RowExpressions.Rows.{row_said}
use Rattle.explained_proof.specs.FactExpressions.EntryRows.{sums_fit, entry_terms, entry_row, has_opposite, row_said_at}
use Rattle.explained_proof.specs.FactExpressions.Views.{rows}
use Rattle.explained_proof.proofs.FactExpressions.FitLaws.{all_to_test, test_to_all}

-- the numbers of a row that stands at the entry fit, as the row's own do
each_fits : (s : ClauseScope) (ts : List (ℕ × ℤ)) → AllByRecursion IsCoefficient ts → AllByRecursion (λ t. Fits t.1) (entry_terms s ts)
each_fits s [] h = tt
each_fits s (t ∷ ts) h = (h.0.fits, each_fits s ts h.1)

none_fits : (c : ℕ) → Fits (pos 0)
none_fits c = omega arith

-- a row that was made there
pub entry_made : (s : ClauseScope) (r : LinearRow) (given ts : List (ℕ × ℤ)) (b : ℤ) (made out : LinearRow) → given ≡ r.terms → ts ≡ entry_terms s given → b ≡ r.bound → SumsFit ts b →
    made ≡ row_of ts Le b → out ≡ tightened made → Some out ≡ entry_row s r
entry_made s r given ts b made out g e f fit m o =
    let same : ts ≡ entry_terms s r.terms = e ∙ ap (entry_terms s) g in
    let passes : sums_fit [] (entry_terms s r.terms) ≡ true = subst (λ us. sums_fit [] us ≡ true) same (all_to_test [] ts (λ c k. fit.sums c k)) in
    ap Some (o ∙ ap tightened (m ∙ ap (λ us. row_of us Le b) same ∙ ap (row_of (entry_terms s r.terms) Le) f)) ∙
    sym (ap (λ x. if x then Some (tightened (row_of (entry_terms s r.terms) Le r.bound)) else None) passes)

-- one that was not
pub entry_past : (s : ClauseScope) (r : LinearRow) (given ts : List (ℕ × ℤ)) (b : ℤ) → IsRow r → given ≡ r.terms → ts ≡ entry_terms s given → b ≡ r.bound → (SumsFit ts b → ⊥) → None ≡ entry_row s r
entry_past s r given ts b valid g e f past = by (sums_fit [] (entry_terms s r.terms)) refl
  where
    same : ts ≡ entry_terms s r.terms
    same = e ∙ ap (entry_terms s) g

    fits : sums_fit [] (entry_terms s r.terms) ≡ true → SumsFit (entry_terms s r.terms) r.bound
    fits h = record { each = each_fits s r.terms valid.coefficients; sums = test_to_all [] (entry_terms s r.terms) none_fits h; bound_fits = valid.bound_fits }

    by : (x : Bool) → sums_fit [] (entry_terms s r.terms) ≡ x → None ≡ (if x then Some (tightened (row_of (entry_terms s r.terms) Le r.bound)) else None)
    by true h = absurd (past (subst (λ us. SumsFit us b) (sym same) (subst (SumsFit (entry_terms s r.terms)) (sym f) (fits h))))
    by false h = refl

-- the rows from a place on begin with that one
pub rows_from : (xs : List (Bor LinearRow)) (n : ℕ) (d : Bor LinearRow) → n < length xs → d ≡ get_or xs n d → drop n (rows xs) ≡ d.now ∷ rows (drop (n + 1) xs)
rows_from xs n d l h =
    drop-map (λ (r : Bor LinearRow). r.now) n xs ∙ ap rows (drop_more xs n d l) ∙ ap (λ (r : Bor LinearRow). r.now ∷ rows (drop (n + 1) xs)) (sym h)

-- what the row at a place says
pub said_at : (s : ClauseScope) (xs : List (Bor LinearRow)) (n : ℕ) (d : Bor LinearRow) → n < length xs → d ≡ get_or xs n d →
    row_said_at s (take n (rows xs)) (drop n (rows xs)) ≡ (if has_opposite (rows (take n xs)) d.now then always else row_said s d.now (has_opposite (rows (drop n xs)) d.now))
said_at s xs n d l h =
    let from = rows_from xs n d l h in
    ap (λ ys. row_said_at s ys (drop n (rows xs))) (take-map (λ (r : Bor LinearRow). r.now) n xs) ∙ ap (row_said_at s (rows (take n xs))) from ∙
    ap (λ ys. if has_opposite (rows (take n xs)) d.now then always else row_said s d.now (has_opposite ys d.now)) (sym from ∙ drop-map (λ (r : Bor LinearRow). r.now) n xs)

-- a row that makes an equality with one before it says nothing
pub said_before : (s : ClauseScope) (xs : List (Bor LinearRow)) (n : ℕ) (d : Bor LinearRow) → n < length xs → d ≡ get_or xs n d → true ≡ has_opposite (rows (take n xs)) d.now →
    row_said_at s (take n (rows xs)) (drop n (rows xs)) ≡ always
said_before s xs n d l h e =
    said_at s xs n d l h ∙ ap (λ x. if x then always else row_said s d.now (has_opposite (rows (drop n xs)) d.now)) (sym e)

pub said_here : (s : ClauseScope) (xs : List (Bor LinearRow)) (n : ℕ) (d : Bor LinearRow) (equal : Bool) → n < length xs → d ≡ get_or xs n d → false ≡ has_opposite (rows (take n xs)) d.now →
    equal ≡ has_opposite (rows (drop n xs)) d.now → row_said s d.now equal ≡ row_said_at s (take n (rows xs)) (drop n (rows xs))
said_here s xs n d equal l h e q =
    ap (row_said s d.now) q ∙ ap (λ x. if x then always else row_said s d.now (has_opposite (rows (drop n xs)) d.now)) e ∙ sym (said_at s xs n d l h)
