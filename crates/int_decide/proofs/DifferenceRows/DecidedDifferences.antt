-- Decide of difference rows has no gap.
use Rattle.std.proofs.Common.{◌≡◌, inl, inr, ℕ, zero, suc, ◌≤◌, ◌%◌, ℤ, pos, List, [], ◌∷◌, ◌++◌, map, None, refl, sym, ap, ◌∙◌, subst, arith}
use Rattle.std.specs.Prelude.{unsigned_abs}
use Rattle.std.specs.Int.{int_div_euclid}
use Rattle.std.specs.List.{AllByRecursion}
use Rattle.std.proofs.lemmas.Bool.{eq-eqb}
use Rattle.math_facts.proofs.Division.{multiple_floor}
use Rattle.math_facts.proofs.Whole.{product_one_left}
use Rattle.frac.specs.Fractions.{Fraction}
use Rattle.lin_rows.specs.declared.types.RowKind.{RowKind}
use Rattle.lin_rows.specs.declared.types.RowKind.TheVariants.{Le, Eq}
use Rattle.lin_rows.specs.Rows.{LinearRow, IsRow, RowsBelow}
use Rattle.lin_rows.specs.Tightening.{tightened, content, divided, divided_row}
use Rattle.lin_rows.proofs.TighteningLaw.{content_below, tightened_as}
use Rattle.fm_elim.specs.Elimination as outcome
use Rattle.fm_elim.specs.Slices.{IsPickedOutcome}
use Rattle.farkas_check.specs.Nodes.{cut}
use Rattle.farkas_check.specs.Refutes.{at_most, above}
use Rattle.int_decide.specs.Decisions.{Decision, gap, beside, under}
use Rattle.int_decide.specs.Decide.{first_broken, by_values, by_outcome, decide_rows}
use Rattle.int_decide.specs.DifferenceRows.Differences.{AreOfDifference, IsDifference}
use Rattle.int_decide.proofs.DifferenceRows.RoundedPoints.{IsWholeValue, picked_is_whole}

-- ---- no value is broken

none_broken : (c : ℕ) (values : List Fraction) → AllByRecursion IsWholeValue values → first_broken c values ≡ None
none_broken c [] h = refl
none_broken c (x ∷ values) h = subst (λ (f : Fraction). first_broken c (f ∷ values) ≡ None) (sym h.0.1) (none_broken (suc c) values h.1)

never_gap : (broken : ℕ → ℤ → Decision) (n : ℕ) (rows : List LinearRow) (o : outcome.EliminationOutcome) → AllByRecursion IsDifference rows → IsPickedOutcome n rows o →
    by_outcome broken o ≡ gap → ⊥
never_gap broken n rows (outcome.refuted parts) a p e = let no : ⊥ = cc in no
never_gap broken n rows (outcome.point values) a p e =
    let f : by_values broken values None ≡ gap = ap (by_values broken values) (sym (none_broken 0 values (picked_is_whole n rows values a p))) ∙ e in
    let no : ⊥ = cc in no

-- ---- difference rows are tight

floor_one : (z : ℤ) → int_div_euclid z (pos 1) ≡ z
floor_one z = multiple_floor 1 z z (omega arith) (product_one_left z)

divided_one : (ts : List (ℕ × ℤ)) → divided 1 ts ≡ ts
divided_one [] = refl
divided_one (t ∷ ts) =
    ap (λ (z : ℤ). (t.0, z) ∷ divided 1 ts) (floor_one t.1) ∙ ap (λ (us : List (ℕ × ℤ)). t ∷ us) (divided_one ts)

divided_row_one : (kind : RowKind) (ts : List (ℕ × ℤ)) (b : ℤ) → divided_row kind 1 ts b ≡ record { terms = ts; kind = kind; bound = b }
divided_row_one Le ts b = λ i. record { terms = divided_one ts i; kind = Le; bound = floor_one b i }
divided_row_one Eq ts b =
    let e : unsigned_abs b % 1 ≡ 0 = omega arith in
    rw (eq-eqb (unsigned_abs b % 1) 0 e) (λ i. record { terms = divided_one ts i; kind = Eq; bound = floor_one b i })

-- a row whose coefficients have no common divisor above 1 stays
tight_stays : (r : LinearRow) (g : ℕ) → content r.terms ≡ g → g ≤ 1 → tightened r ≡ r
tight_stays r zero e l = tightened_as r 0 e
tight_stays r (suc zero) e l = tightened_as r 1 e ∙ divided_row_one r.kind r.terms r.bound
tight_stays r (suc (suc g)) e l = absurd (omega arith)

unit_content : (t : ℕ × ℤ) (ts : List (ℕ × ℤ)) → unsigned_abs t.1 ≡ 1 → content (t ∷ ts) ≤ 1
unit_content t ts e = let l : content (t ∷ ts) ≤ unsigned_abs t.1 = content_below t ts in omega arith

no_content : content [] ≡ 0
unfolding content
no_content = refl

small_content : (ts : List (ℕ × ℤ)) → AreOfDifference ts → content ts ≤ 1
small_content [] a = let e = no_content in omega arith
small_content (t ∷ []) (inl e) = unit_content t [] (ap unsigned_abs e)
small_content (t ∷ []) (inr e) = unit_content t [] (ap unsigned_abs e)
small_content (t ∷ u ∷ []) (inl e) = unit_content t (u ∷ []) (ap unsigned_abs e.0)
small_content (t ∷ u ∷ []) (inr e) = unit_content t (u ∷ []) (ap unsigned_abs e.0)
small_content (t ∷ u ∷ v ∷ ts) a = absurd a

stay : (rows : List LinearRow) → AllByRecursion IsDifference rows → map tightened rows ≡ rows
stay [] a = refl
stay (r ∷ rows) a =
    ap (λ (x : LinearRow). x ∷ map tightened rows) (tight_stays r (content r.terms) refl (small_content r.terms a.0)) ∙ ap (λ (xs : List LinearRow). r ∷ xs) (stay rows a.1)

-- ---- Decide

-- what the elimination finds
abbrev pub PickedAt : ℕ → List LinearRow → Type 0
PickedAt n rows = IsPickedOutcome n (map tightened rows) (outcome.elimination n rows)

of_rows : (n depth : ℕ) (rows : List LinearRow) → PickedAt n rows → AllByRecursion IsDifference rows → decide_rows n depth rows ≡ gap → ⊥
of_rows n zero rows p a e =
    never_gap (λ c k. gap) n rows (outcome.elimination n rows) a
    (subst (λ (xs : List LinearRow). IsPickedOutcome n xs (outcome.elimination n rows)) (stay rows a) p) e
of_rows n (suc depth) rows p a e =
    never_gap
    (λ c k. under (cut c k) (beside (decide_rows n depth (rows ++ at_most c k ∷ [])) (decide_rows n depth (rows ++ above c k ∷ [])))) n rows (outcome.elimination n rows) a
    (subst (λ (xs : List LinearRow). IsPickedOutcome n xs (outcome.elimination n rows)) (stay rows a) p) e

pub differences_decided : ((n : ℕ) (rows : List LinearRow) → AllByRecursion IsRow rows → RowsBelow n rows → PickedAt n rows) →
    (n depth : ℕ) (rows : List LinearRow) → AllByRecursion IsRow rows → RowsBelow n rows → AllByRecursion IsDifference rows →
    decide_rows n depth (map tightened rows) ≡ gap → ⊥
differences_decided law n depth rows v b a e =
    of_rows n depth rows (law n rows v b) a (ap (decide_rows n depth) (sym (stay rows a)) ∙ e)
