-- The rank at a point: its form, its bound, and its two leaves.
use Rattle.std.proofs.Common.{◌≡◌, ◌∙◌, ℕ, zero, suc, ◌+◌, ◌-◌, ◌≤◌, Bool, true, false, ℤ, pos, neg_ℤ, List, [], ◌∷◌, ◌++◌, length, take, drop, if◌then◌else◌, refl, sym, ap, subst, arith, lit<}
use Rattle.std.specs.Prelude.{map}
use Rattle.std.specs.List.{AllByRecursion}
use Rattle.std.proofs.lemmas.Bool.{false≢true}
use Rattle.std.proofs.lemmas.List.{length-map}
use Rattle.math_facts.specs.Fits.{Fits}
use Rattle.math_facts.specs.Terms.{dot, opposite}
use Rattle.lin_rows.specs.declared.types.RowKind.TheVariants.{Le}
use Rattle.lin_rows.specs.Rows.{LinearRow, IsCoefficient}
use Rattle.lin_rows.specs.Sums.{is_zero, summed, row_of, SumsFit}
use Rattle.lin_rows.specs.Points.{point_of, DotFits}
use Rattle.lin_rows.specs.Tightening.{content, tightened}
use Rattle.lin_rows.proofs.Ascending.{HasNoZero}
use Rattle.lin_rows.proofs.SummedLaws.{AscendsFrom-summed, HasNoZero-summed, summed_from_coefficients}
use Rattle.farkas_check.specs.Nodes.{PlainNode, leaf}
use Rattle.letter_acts.specs.FrameRows.Rows.{columns_from}
use Rattle.path_rows.proofs.ListLemmas.{length-columns_from}
use Rattle.rank_lasso.specs.declared.lasso_turns.made.MadeTurn.{MadeTurn}
use Rattle.rank_lasso.specs.LassoTurns.Turns.{Turn}
use Rattle.rank_lasso.specs.LassoTurns.Made.{plain_turn, CanBeRanked}
use Rattle.rank_lasso.specs.LassoTurns.Claims.{IsFormOver, at_versions, unfallen, unbounded}
use Rattle.rank_lasso.proofs.LassoTurns.KeptLaws.{below_summed}
use Rattle.rank_lasso.proofs.LassoTurns.FitLaws.{fall_fits, at_first}
use Rattle.rank_lasso.specs.RankingSystem.RankingSystem.{weighted, values_from, first_coefficient, rank_terms, rank_bound, taken_by, falls_leaf, bounded_leaf}
use Rattle.rank_lasso.specs.RankingSystem.Scaled.{RankAtFits}
use Rattle.rank_lasso.proofs.RankingSystem.SystemLaws.{weighted_below}
use Rattle.rank_lasso.proofs.RankingSystem.LeafLaws.{terms_from, summed_weighted}
use Rattle.rank_lasso.proofs.RankingSystem.TakenLaws.{values_are, bounds_run, bounds_sum}

-- ---- the terms

coefficients_from : (n : ℕ) (zs : List ℤ) → AllByRecursion Fits zs → AllByRecursion IsCoefficient (terms_from n zs)
coefficients_from n [] h = tt
coefficients_from n (z ∷ zs) h = by_test (is_zero z) refl (coefficients_from (suc n) zs h.1)
  where
    by_test : (b : Bool) → is_zero z ≡ b → AllByRecursion IsCoefficient (terms_from (suc n) zs) →
        AllByRecursion IsCoefficient (if b then terms_from (suc n) zs else (n, z) ∷ terms_from (suc n) zs)
    by_test true e k = k
    by_test false e k = (record { is_not_zero = λ z. false≢true (sym e ∙ ap is_zero z); fits = h.0 }, k)

pub are_coefficients : (zs : List ℤ) → AllByRecursion Fits zs → AllByRecursion IsCoefficient (summed (weighted 0 zs))
are_coefficients zs h = subst (λ (v : List (ℕ × ℤ)). AllByRecursion IsCoefficient v) (sym (summed_weighted 0 zs)) (coefficients_from 0 zs h)

they_fit : (ts : List (ℕ × ℤ)) → AllByRecursion IsCoefficient ts → AllByRecursion (λ t. Fits t.1) ts
they_fit [] h = tt
they_fit (t ∷ ts) h = (h.0.fits, they_fit ts h.1)

pub is_form : (width : ℕ) (zs : List ℤ) → length zs ≡ width → AllByRecursion Fits zs → IsFormOver width (summed (weighted 0 zs))
is_form width zs l h = record {
  ascends = AscendsFrom-summed (weighted 0 zs);
  within = below_summed width (weighted 0 zs) (weighted_below 0 width zs (omega (arith, l)));
  coefficients = they_fit (summed (weighted 0 zs)) (are_coefficients zs h);
}

-- the row that says that the rank does not fall fits
pub fall_sums : (d : MadeTurn) (ts : List (ℕ × ℤ)) → CanBeRanked d → IsFormOver d.width ts → SumsFit (ts ++ opposite (at_versions d.here.items ts)) (pos 0)
fall_sums d ts r f = fall_fits d.width ts f d.here.items r.long r.differ r.fresh (pos 0) (lit< tt)

-- ---- the numbers of the unknowns, and parts of them

pub all_fit_behind : (i : ℕ) (xs : List ℤ) → AllByRecursion Fits xs → AllByRecursion Fits (drop i xs)
all_fit_behind zero xs h = h
all_fit_behind (suc i) [] h = tt
all_fit_behind (suc i) (x ∷ xs) h = all_fit_behind i xs h.1

pub all_fit_before : (i : ℕ) (xs : List ℤ) → AllByRecursion Fits xs → AllByRecursion Fits (take i xs)
all_fit_before zero xs h = tt
all_fit_before (suc i) [] h = tt
all_fit_before (suc i) (x ∷ xs) h = (h.0, all_fit_before i xs h.1)

pub part_is : (xs : List ℤ) (o e k : ℕ) → e ≡ o + k → e ≤ length xs → take (e - o) (drop o xs) ≡ values_from (point_of xs) o k
part_is xs o e k s l =
    ap (λ (n : ℕ). take n (drop o xs)) (let z : e - o ≡ k = omega (arith, s) in z) ∙ sym (values_are xs o k (omega (arith, s, l)))

pub values_long : (p : ℕ → ℤ) (o k : ℕ) → length (values_from p o k) ≡ k
values_long p o k = length-map (columns_from o k) p ∙ length-columns_from o k

-- ---- no bound

pub no_bound : (t : Turn) (rows : List LinearRow) (p : ℕ → ℤ) (zs : List ℤ) → zs ≡ values_from p (length rows) (length rows) →
    (DotFits (point_of zs) (pos 0) (weighted 0 (map (λ r. r.bound) rows)) → ⊥) → RankAtFits t rows p → ⊥
no_bound t rows p zs e n f =
    let own : List ℤ = values_from p (length rows) (length rows) in
    let r : LinearRow = unbounded t (rank_terms t rows p) (rank_bound rows p) in
    n (subst (λ (v : List ℤ). DotFits (point_of v) (pos 0) (weighted 0 (map (λ r. r.bound) rows))) (sym e)
    (bounds_run rows (tightened r) own (pos (taken_by (content r.terms))) (values_long p (length rows) (length rows)) f.bounded.leaf.bound_fits))

-- ---- the rank

-- what the parts of the rank are
pub record RankParts (d : MadeTurn) (rows : List LinearRow) (p : ℕ → ℤ) (terms : List (ℕ × ℤ)) (bound : ℤ) (falls bounded : List PlainNode) : Type 0 where
  pub terms_are : terms ≡ rank_terms (plain_turn d) rows p
  pub bound_is : bound ≡ rank_bound rows p
  pub falls_is : falls ≡ leaf (falls_leaf (plain_turn d) rows p) ∷ []
  pub bounded_is : bounded ≡ leaf (bounded_leaf (plain_turn d) rows p) ∷ []

module _ (d : MadeTurn) (rows : List LinearRow) (p : ℕ → ℤ) (terms : List (ℕ × ℤ)) (bound : ℤ) (falls bounded : List PlainNode) (first second rest : List ℤ)
    (first_is : first ≡ values_from p 0 (length rows)) (second_is : second ≡ values_from p (length rows) (length rows))
    (rest_is : rest ≡ values_from p (length rows + length rows) d.width) (terms_made : terms ≡ summed (weighted 0 rest)) (form : IsFormOver d.width terms) where
  same_terms : terms ≡ rank_terms (plain_turn d) rows p
  same_terms =
      terms_made ∙ ap (λ (v : List ℤ). summed (weighted 0 v)) rest_is ∙
      ap (λ (k : ℕ). summed (weighted 0 (values_from p (first_coefficient rows) k))) (sym (length-columns_from 0 d.width))

  first_long : length first ≡ length rows
  first_long = ap length first_is ∙ values_long p 0 (length rows)

  second_long : length second ≡ length rows
  second_long = ap length second_is ∙ values_long p (length rows) (length rows)

  -- the terms over the versions before the turn are the terms themselves
  before_is : at_versions (columns_from 0 d.width) terms ≡ terms
  before_is = at_first d.width terms form.within

  has_no_zero : HasNoZero terms
  has_no_zero = subst HasNoZero (sym terms_made) (HasNoZero-summed (weighted 0 rest))

  summed_again : summed (at_versions (columns_from 0 d.width) terms) ≡ terms
  summed_again = ap summed before_is ∙ sym (summed_from_coefficients terms terms form.ascends has_no_zero (λ c. refl))

  -- the divisor of the row that says that the rank does not fall, and that of the one that says that it is not bounded
  fall_is : (here : List ℕ) (one : List (ℕ × ℤ)) (fall : ℤ) → here ≡ d.here.items → one ≡ terms →
      fall ≡ pos (taken_by (content (row_of (one ++ opposite (at_versions here one)) Le (pos 0)).terms)) →
      fall ≡ pos (taken_by (content (unfallen (plain_turn d) (rank_terms (plain_turn d) rows p)).terms))
  fall_is here one fall e f h =
      h ∙ ap (λ (v : List ℕ). pos (taken_by (content (summed (one ++ opposite (at_versions v one)))))) e ∙
      ap (λ (v : List (ℕ × ℤ)). pos (taken_by (content (summed (v ++ opposite (at_versions d.here.items v)))))) f ∙
      ap (λ (v : List (ℕ × ℤ)). pos (taken_by (content (summed (v ++ opposite (at_versions d.here.items terms)))))) (sym before_is) ∙
      ap (λ (v : List (ℕ × ℤ)). pos (taken_by (content (unfallen (plain_turn d) v).terms))) same_terms

  last_is : (two : List (ℕ × ℤ)) (last : ℤ) → two ≡ terms → last ≡ pos (taken_by (content two)) →
      last ≡ pos (taken_by (content (unbounded (plain_turn d) (rank_terms (plain_turn d) rows p) (rank_bound rows p)).terms))
  last_is two last e h =
      h ∙ ap (λ (v : List (ℕ × ℤ)). pos (taken_by (content v))) (e ∙ sym summed_again) ∙
      ap (λ (v : List (ℕ × ℤ)). pos (taken_by (content (unbounded (plain_turn d) v (rank_bound rows p)).terms))) same_terms

  leaf_is : (own zs : List ℤ) (m n : ℤ) → zs ≡ own → length zs ≡ length rows → m ≡ n → (nodes : List PlainNode) →
      nodes ≡ leaf (summed (weighted 0 zs) ++ (length zs, m) ∷ []) ∷ [] → nodes ≡ leaf (summed (weighted 0 own) ++ (length rows, n) ∷ []) ∷ []
  leaf_is own zs m n e l f nodes h =
      h ∙ ap (λ (k : ℕ). leaf (summed (weighted 0 zs) ++ (k, m) ∷ []) ∷ []) l ∙ ap (λ (y : ℤ). leaf (summed (weighted 0 zs) ++ (length rows, y) ∷ []) ∷ []) f ∙
      ap (λ (v : List ℤ). leaf (summed (weighted 0 v) ++ (length rows, n) ∷ []) ∷ []) e

  pub rank_parts : (here : List ℕ) (one two : List (ℕ × ℤ)) (fall last : ℤ) → here ≡ d.here.items → one ≡ terms → two ≡ terms →
      fall ≡ pos (taken_by (content (row_of (one ++ opposite (at_versions here one)) Le (pos 0)).terms)) → last ≡ pos (taken_by (content two)) →
      bound ≡ neg_ℤ (dot (point_of second) (weighted 0 (map (λ r. r.bound) rows))) → falls ≡ leaf (summed (weighted 0 first) ++ (length first, fall) ∷ []) ∷ [] →
      bounded ≡ leaf (summed (weighted 0 second) ++ (length second, last) ∷ []) ∷ [] → RankParts d rows p terms bound falls bounded
  rank_parts here one two fall last e f g h k b i j =
      let bs : List ℤ = map (λ r. r.bound) rows in
      let l : length bs ≡ length rows = length-map rows (λ r. r.bound) in
      record {
        terms_are = same_terms;
        bound_is = b ∙ ap neg_ℤ (bounds_sum p (length rows) bs second (second_long ∙ sym l) (second_is ∙ ap (values_from p (length rows)) (sym l)));
        falls_is = leaf_is (values_from p 0 (length rows)) first fall _ first_is first_long (fall_is here one fall e f h) falls i;
        bounded_is = leaf_is (values_from p (length rows) (length rows)) second last _ second_is second_long (last_is two last g k) bounded j;
      }
