-- What the search for a linear rank finds: the ranking system has no rational point, or the rank at one, whose numbers fit, holds.
use Rattle.std.proofs.Common.{◌≡◌, ◌∙◌, inl, inr, ℕ, zero, suc, ◌+◌, ◌/◌, ℤ, pos, List, [], ◌∷◌, map, length, refl, sym, ap, subst, arith}
use Rattle.std.proofs.lemmas.List.{length-map}
use Rattle.std.specs.List.{AllByRecursion}
use Rattle.math_facts.specs.Terms.{IsBelow}
use Rattle.math_facts.proofs.Whole.{product_zero_left}
use Rattle.frac.specs.Fractions.{Fraction, IsFraction}
use Rattle.lin_rows.specs.declared.systems.System.{System}
use Rattle.lin_rows.specs.Rows.{LinearRow, RowsBelow}
use Rattle.lin_rows.specs.Points.{point_of}
use Rattle.lin_rows.specs.Tightening.{tightened}
use Rattle.lin_rows.specs.Combinations.{Contradicts}
use Rattle.lin_rows.specs.Systems.{rows_of}
use Rattle.farkas_check.specs.Nodes.{PlainNode, leaf}
use Rattle.farkas_check.specs.Refutes.{Refutes}
use Rattle.fm_elim.specs.Elimination.{EliminationOutcome, point, elimination, EliminationFits}
use Rattle.fm_elim.specs.Values.{value_at}
use Rattle.fm_elim.specs.Worth.{Combines, IsSolvable, MeetsAll}
use Rattle.fm_elim.proofs.Inputs.{IsBelow-tightened}
use Rattle.fm_elim.proofs.Lists.{all_map}
use Rattle.fm_elim.proofs.Refuting.{no_point}
use Rattle.letter_acts.specs.Acts.{frame_of}
use Rattle.letter_acts.specs.Invariant.{Graph, IsGraph, alphabet_of}
use Rattle.letter_acts.specs.FrameRows.Rows.{columns_from}
use Rattle.path_rows.proofs.ListLemmas.{length-columns_from}
use Rattle.path_rows.proofs.SolvedLaws.{Below, below_columns}
use Rattle.rank_lasso.specs.declared.lasso_turns.made.MadeTurn.{MadeTurn}
use Rattle.rank_lasso.specs.LassoTurns.Turns.{Turn, AreInside, turn_of}
use Rattle.rank_lasso.specs.LassoTurns.Made.{plain_turn}
use Rattle.rank_lasso.specs.LassoTurns.Claims.{IsFormOver}
use Rattle.rank_lasso.proofs.LassoTurns.KeptLaws.{turn_keeps}
use Rattle.rank_lasso.specs.declared.ranking_system.points.LinearRank.{LinearRank}
use Rattle.rank_lasso.specs.RankingSystem.RankingSystem.{ranking_rows, ranking_system, unknowns, rank_terms, rank_bound, falls_leaf}
use Rattle.rank_lasso.specs.RankingSystem.Scaled.{least_denominator, numerator_over, scaled_point, RankAtFits, ScaledRankFits, IsScaled, IsRankAt}
use Rattle.rank_lasso.proofs.RankingSystem.TighteningLaws.{tightening_keeps_ranks}
use Rattle.rank_lasso.proofs.RankingSystem.SystemLaws.{IsSystemOver}
use Rattle.rank_lasso.proofs.RankingSystem.SystemFits.{ranking_below}
use Rattle.rank_lasso.proofs.RankingSystem.PointLaws.{scaled_meets, RankShown, rank_shown}
use Rattle.rank_lasso.specs.LassoRanks.Lassos.{PlainLasso, entry_proc, AreOfEntry, loop_turn}
use Rattle.rank_lasso.specs.LassoRanks.Ranks.{PlainRanking, ranked_by, IsRankingOver, IsFirstFailing}
use Rattle.rank_lasso.specs.LassoRanks.Outcomes.{LinearFits, WherePoint, ranking_at}

-- ---- no rational point

-- what refutes the tightened rows of the ranking system leaves it without a rational point
pub no_rank : (t : Turn) (parts : List (ℕ × ℤ)) → Combines (map tightened (ranking_system t)) parts → IsSolvable (ranking_system t) → ⊥
no_rank t parts c s = no_point (map tightened (ranking_system t)) parts c (tightening_keeps_ranks t (map tightened t.rows) s)

-- nor has it one where a leaf refutes them
pub leaf_unsolves : (s : System) (rows : List LinearRow) (parts : List (ℕ × ℤ)) → rows_of s ≡ rows → Refutes (leaf parts ∷ []) s → IsSolvable (map tightened rows) → ⊥
leaf_unsolves s rows parts e h k =
    let c : Contradicts (map tightened rows) parts = subst (λ (v : List LinearRow). Contradicts (map tightened v) parts) e h.0 in
    no_point (map tightened rows) parts (record { ascends = c.ascends; each = c.each; columns_vanish = c.columns_vanish; bound_negative = c.bound_negative }) k

-- ---- a point

-- the tightened rows of a turn are over its columns
pub system_over : (g : Graph) → IsGraph g → (p : ℕ) (ns : List ℕ) → AreInside (alphabet_of g) p ns →
    IsSystemOver (turn_of (alphabet_of g) p ns) (map tightened (turn_of (alphabet_of g) p ns).rows)
system_over g ok p ns i =
    let t : Turn = turn_of (alphabet_of g) p ns in
    let width : ℕ = length (frame_of (alphabet_of g) p) in
    let k = turn_keeps g ok p ns i in
    record {
      rows_below = all_map (λ r. IsBelow t.columns r.terms) (λ r. IsBelow t.columns r.terms) tightened t.rows (λ r b. IsBelow-tightened t.columns r b) k.rows;
      before = subst (Below t.columns) (sym k.before) (below_columns 0 width t.columns (let w = k.wide in omega (arith, w)));
      after = k.below;
      same = k.long ∙ sym (ap length k.before ∙ length-columns_from 0 width);
    }

-- whole numbers that are the values over d are those of the point
numerator_at : (d : ℕ) (values : List Fraction) (c : ℕ) → point_of (map (numerator_over d) values) c ≡ numerator_over d (value_at values c)
numerator_at d [] c = sym (product_zero_left (pos (d / 1)))
numerator_at d (f ∷ values) zero = refl
numerator_at d (f ∷ values) (suc c) = numerator_at d values c

pub scaled_is : (values : List Fraction) (numbers : List ℤ) → IsScaled values numbers → point_of numbers ≡ scaled_point values
scaled_is values numbers h = ap point_of h.are ∙ (λ i c. numerator_at (least_denominator values) values c i)

-- both claims of the rank at the point are refuted where its numbers fit
pub point_shown : (g : Graph) → IsGraph g → (l : PlainLasso) → AreOfEntry g l.loop → (n : ℕ) (values : List Fraction) (numbers : List ℤ) → AllByRecursion IsFraction values →
    MeetsAll n (map tightened (ranking_system (loop_turn g l))) values → IsScaled values numbers →
    RankAtFits (loop_turn g l) (map tightened (loop_turn g l).rows) (point_of numbers) → RankShown (loop_turn g l) (point_of numbers)
point_shown g ok l i n values numbers v m s f =
    let t : Turn = loop_turn g l in
    let k = scaled_meets n (ranking_system t) values v m in
    let e : point_of numbers ≡ scaled_point values = scaled_is values numbers s in
    let P : (ℕ → ℤ) → Type 0 = RankShown t in
    subst P (sym e) (rank_shown t (scaled_point values) (pos (least_denominator values)) (system_over g ok (entry_proc g) l.loop i) k.positive k.holds
    (let Q : (ℕ → ℤ) → Type 0 = RankAtFits t (map tightened t.rows) in subst Q e f))

-- a ranking with the rank at a point, and it holds there: none of its refutations fails
pub never_fails : (g : Graph) (l : PlainLasso) (p : ℕ → ℤ) (r : PlainRanking) (line : ℕ) → r ≡ ranking_at (loop_turn g l) (map tightened (loop_turn g l).rows) p →
    RankShown (loop_turn g l) p → IsFirstFailing g l r line → ⊥
never_fails g l p r line e s h = by_line (let P : PlainRanking → Type 0 = λ q. IsFirstFailing g l q line in subst P e h)
  where
    by_line : IsFirstFailing g l (ranking_at (loop_turn g l) (map tightened (loop_turn g l).rows) p) line → ⊥
    by_line (inl k) = k.1 s.falls
    by_line (inr k) = k.2 s.bounded

-- ---- the ranking system that is made

-- the rows are those of the ranking system of the turn, and n is the number of its unknowns
pub record IsSystemFor (t : Turn) (n : ℕ) (rows : List LinearRow) : Type 0 where
  pub columns : n ≡ unknowns t
  pub rows_are : rows ≡ ranking_system t

unknowns_of : (d : MadeTurn) (n : ℕ) → n ≡ length d.rows.items + length d.rows.items + d.width → n ≡ unknowns (plain_turn d)
unknowns_of d n e = e ∙ ap (λ (k : ℕ). length d.rows.items + length d.rows.items + k) (sym (length-columns_from 0 d.width))

pub system_made : (t : Turn) (d : MadeTurn) (n : ℕ) (tight rows : List LinearRow) → plain_turn d ≡ t → tight ≡ map tightened d.rows.items →
    rows ≡ ranking_rows (plain_turn d) tight → n ≡ length d.rows.items + length d.rows.items + d.width → IsSystemFor t n rows
system_made t d n tight rows e s h k = record {
  columns = unknowns_of d n k ∙ ap unknowns e;
  rows_are = h ∙ ap (ranking_rows (plain_turn d)) s ∙ ap ranking_system e;
}

pub system_below : (t : Turn) (d : MadeTurn) (n : ℕ) (rows : List LinearRow) → plain_turn d ≡ t → length d.here.items ≡ d.width → IsSystemFor t n rows → RowsBelow n rows
system_below t d n rows e l s =
    let same : length (plain_turn d).after ≡ length (plain_turn d).before = l ∙ sym (length-columns_from 0 d.width) in
    let tight : List LinearRow = map tightened d.rows.items in
    let own : RowsBelow (length tight + length tight + length (columns_from 0 d.width)) (ranking_system (plain_turn d)) = ranking_below (plain_turn d) tight same in
    let k : length tight ≡ length d.rows.items = length-map d.rows.items tightened in
    let here : RowsBelow (unknowns (plain_turn d)) (ranking_system (plain_turn d)) =
    subst (λ (m : ℕ). RowsBelow m (ranking_system (plain_turn d))) (ap (λ (m : ℕ). m + m + length (columns_from 0 d.width)) k) own in
    let there : RowsBelow (unknowns t) (ranking_system t) = subst (λ (x : Turn). RowsBelow (unknowns x) (ranking_system x)) e here in
    subst (RowsBelow n) (sym s.rows_are) (subst (λ (m : ℕ). RowsBelow m (ranking_system t)) (sym s.columns) there)

-- what the elimination says of it
pub none_is_solved : (t : Turn) (n : ℕ) (rows : List LinearRow) (parts : List (ℕ × ℤ)) → IsSystemFor t n rows → Combines (map tightened rows) parts → IsSolvable (ranking_system t) → ⊥
none_is_solved t n rows parts s c =
    no_rank t parts (subst (λ (v : List LinearRow). Combines (map tightened v) parts) s.rows_are c)

pub unsolved_rows : (t : Turn) (n : ℕ) (rows : List LinearRow) → IsSystemFor t n rows → (IsSolvable (map tightened rows) → ⊥) → IsSolvable (ranking_system t) → ⊥
unsolved_rows t n rows s h k =
    h (subst (λ (v : List LinearRow). IsSolvable (map tightened v)) (sym s.rows_are) (tightening_keeps_ranks t (map tightened t.rows) k))

pub point_meets : (t : Turn) (n : ℕ) (rows : List LinearRow) (values : List Fraction) → IsSystemFor t n rows → MeetsAll n (map tightened rows) values →
    MeetsAll (unknowns t) (map tightened (ranking_system t)) values
point_meets t n rows values s m =
    subst (λ (k : ℕ). MeetsAll k (map tightened (ranking_system t)) values) s.columns (subst (λ (v : List LinearRow). MeetsAll n (map tightened v) values) s.rows_are m)

pub elimination_past : (g : Graph) (l : PlainLasso) (n : ℕ) (rows : List LinearRow) → IsSystemFor (loop_turn g l) n rows → (EliminationFits n rows → ⊥) → LinearFits g l → ⊥
elimination_past g l n rows s h f =
    h (subst (EliminationFits n) (sym s.rows_are) (subst (λ (k : ℕ). EliminationFits k (ranking_system (loop_turn g l))) (sym s.columns) f.elimination_fits))

pub point_fits : (g : Graph) (l : PlainLasso) (n : ℕ) (rows : List LinearRow) (values : List Fraction) → IsSystemFor (loop_turn g l) n rows → point values ≡ elimination n rows →
    LinearFits g l → ScaledRankFits (loop_turn g l) values
point_fits g l n rows values s e f =
    let own : elimination n rows ≡ elimination (unknowns (loop_turn g l)) (ranking_system (loop_turn g l)) = ap (elimination n) s.rows_are ∙ ap (λ (k : ℕ). elimination k (ranking_system (loop_turn g l))) s.columns in
    subst (λ (o : EliminationOutcome). WherePoint o (ScaledRankFits (loop_turn g l))) (sym (e ∙ own)) f.rank_fits

-- ---- the rank at a point

module _ (g : Graph) (l : PlainLasso) (d : MadeTurn) (tight : List LinearRow) (e : plain_turn d ≡ loop_turn g l) (s : tight ≡ map tightened d.rows.items) where
  same_width : d.width ≡ length (frame_of (alphabet_of g) (entry_proc g))
  same_width =
      sym (length-columns_from 0 d.width) ∙ ap (λ (t : Turn). length t.before) e ∙ length-columns_from 0 (length (frame_of (alphabet_of g) (entry_proc g)))

  -- the numbers that fit at the point with these values fit at the whole numbers that they are
  pub rank_fits_at : (values : List Fraction) (numbers : List ℤ) → IsScaled values numbers → ScaledRankFits (loop_turn g l) values → RankAtFits (plain_turn d) tight (point_of numbers)
  rank_fits_at values numbers h f =
      let here : RankAtFits (plain_turn d) (map tightened d.rows.items) (scaled_point values) =
      subst (λ (t : Turn). RankAtFits t (map tightened t.rows) (scaled_point values)) (sym e) f.rank in
      subst (λ (p : ℕ → ℤ). RankAtFits (plain_turn d) tight p) (sym (scaled_is values numbers h))
      (subst (λ (v : List LinearRow). RankAtFits (plain_turn d) v (scaled_point values)) (sym s) here)

  -- the ranking with the rank there
  pub ranking_is : (p : ℕ → ℤ) (r : LinearRank) → IsRankAt (plain_turn d) d.width tight p r →
      ranked_by r.terms.items r.bound r.falls r.bounded ≡ ranking_at (loop_turn g l) (map tightened (loop_turn g l).rows) p
  ranking_is p r h =
      ap (λ (ts : List (ℕ × ℤ)). ranked_by ts r.bound r.falls r.bounded) h.terms ∙
      ap (λ (b : ℤ). ranked_by (rank_terms (plain_turn d) tight p) b r.falls r.bounded) h.bound ∙
      ap (λ (ns : List PlainNode). ranked_by (rank_terms (plain_turn d) tight p) (rank_bound tight p) ns r.bounded) h.falls ∙
      ap (λ (ns : List PlainNode). ranked_by (rank_terms (plain_turn d) tight p) (rank_bound tight p) (leaf (falls_leaf (plain_turn d) tight p) ∷ []) ns) h.bounded ∙
      ap (λ (v : List LinearRow). ranking_at (plain_turn d) v p) s ∙ ap (λ (t : Turn). ranking_at t (map tightened t.rows) p) e

  pub ranking_over : (p : ℕ → ℤ) (r : LinearRank) → IsRankAt (plain_turn d) d.width tight p r → IsRankingOver g (ranked_by r.terms.items r.bound r.falls r.bounded)
  ranking_over p r h = record { form = subst (λ (n : ℕ). IsFormOver n r.terms.items) same_width h.form; bound_fits = h.bound_fits }

  -- where its numbers fit none of its refutations fails
  pub at_point : IsGraph g → AreOfEntry g l.loop → (values : List Fraction) (numbers : List ℤ) (r : LinearRank) (line : ℕ) → AllByRecursion IsFraction values →
      MeetsAll (unknowns (loop_turn g l)) (map tightened (ranking_system (loop_turn g l))) values → IsScaled values numbers →
      IsRankAt (plain_turn d) d.width tight (point_of numbers) r → ScaledRankFits (loop_turn g l) values → IsFirstFailing g l (ranked_by r.terms.items r.bound r.falls r.bounded) line → ⊥
  at_point ok i values numbers r line v m h k f x =
      let own : RankAtFits (loop_turn g l) (map tightened (loop_turn g l).rows) (point_of numbers) =
      subst (λ (p : ℕ → ℤ). RankAtFits (loop_turn g l) (map tightened (loop_turn g l).rows) p) (sym (scaled_is values numbers h)) f.rank in
      never_fails g l (point_of numbers) (ranked_by r.terms.items r.bound r.falls r.bounded) line (ranking_is (point_of numbers) r k)
      (point_shown g ok l i (unknowns (loop_turn g l)) values numbers v m h own) x
