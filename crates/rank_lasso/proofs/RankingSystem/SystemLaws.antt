-- A rational point of a ranking system, with any common denominator, gives a rank and a leaf for each of its two claims.
use Rattle.std.proofs.Common.{◌≡◌, ◌⊎◌, ◌∙◌, ℕ, zero, suc, ◌+◌, ◌<◌, ◌≤◌, Bool, true, false, ℤ, pos, negsuc, ◌+ℤ◌, ◌-ℤ◌, ◌*ℤ◌, neg_ℤ, ◌≤ℤ◌, ◌<ℤ◌, List, [], ◌∷◌, ◌++◌, length, nat_eq, if◌then◌else◌, inl, inr, refl, sym, ap, subst, arith, append_assoc, length-append}
use Rattle.std.specs.Prelude.{map, slice_index}
use Rattle.std.specs.List.{AllByRecursion}
use Rattle.std.proofs.lemmas.Int.{ints}
use Rattle.std.proofs.lemmas.List.{length-map}
use Rattle.math_facts.specs.Terms.{coefficient, dot, opposite, IsBelow}
use Rattle.math_facts.proofs.Whole.{product_one_right, product_zero_left, product_zero_right}
use Rattle.math_facts.proofs.TermLaws.{coefficient-append, coefficient-opposite, coefficient_past, dot-append, dot-opposite, IsBelow-append, IsBelow-opposite}
use Rattle.lin_rows.specs.declared.types.RowKind.{RowKind}
use Rattle.lin_rows.specs.declared.types.RowKind.TheVariants.{Le, Eq}
use Rattle.lin_rows.specs.Rows.{LinearRow, RowsBelow}
use Rattle.lin_rows.specs.Sums.{summed}
use Rattle.lin_rows.specs.Tightening.{tightened}
use Rattle.lin_rows.proofs.SummedLaws.{coefficient-summed, dot-summed}
use Rattle.letter_acts.proofs.ListLemmas.{below_or_from}
use Rattle.fm_elim.specs.Worth.{HoldsAt, Combines}
use Rattle.fm_elim.proofs.Lists.{all_parts}
use Rattle.letter_acts.specs.FrameRows.Rows.{columns_from}
use Rattle.path_rows.proofs.ListLemmas.{length-columns_from}
use Rattle.path_rows.proofs.SolvedLaws.{Below}
use Rattle.rank_lasso.specs.LassoTurns.Turns.{Turn}
use Rattle.rank_lasso.specs.LassoTurns.Claims.{at_versions, unfallen, unbounded}
use Rattle.rank_lasso.specs.RankingSystem.RankingSystem.{weighted, across, standing_at, first_coefficient, falls_at, bounded_at, falls_by_one, not_negative, signs_of, signs, ranking_rows, values_from, rank_terms, rank_bound, falls_leaf, bounded_leaf}
use Rattle.rank_lasso.proofs.LassoTurns.KeptLaws.{below_summed, names_below}
use Rattle.rank_lasso.proofs.RankingSystem.LeafLaws.{paired, paired_comm, paired_zero, dot_weighted, MayStand, MultipliersStand, leaf_combines}

-- the rows name columns of the turn, and its versions are columns of its own, as many before as after
pub record IsSystemOver (t : Turn) (rows : List LinearRow) : Type 0 where
  pub rows_below : RowsBelow t.columns rows
  pub before : Below t.columns t.before
  pub after : Below t.columns t.after
  pub same : length t.after ≡ length t.before

-- ---- the rank over versions

-- 1 where the version of a column is column c
abbrev pub stands : ℕ → ℕ → ℤ
stands c v = if nat_eq v c then pos 1 else pos 0

coefficient-at_versions : (c : ℕ) (versions : List ℕ) (ts : List (ℕ × ℤ)) → coefficient c (at_versions versions ts) ≡ dot (λ j. stands c (slice_index versions j)) ts
coefficient-at_versions c versions [] = refl
coefficient-at_versions c versions (t ∷ ts) =
    let e : coefficient c (at_versions versions ts) ≡ dot (λ j. stands c (slice_index versions j)) ts = coefficient-at_versions c versions ts in
    let f : (if nat_eq (slice_index versions t.0) c then t.1 else pos 0) ≡ t.1 *ℤ stands c (slice_index versions t.0) = by_test (nat_eq (slice_index versions t.0) c) t.1 in
    omega (arith, ints)
  where
    by_test : (b : Bool) (z : ℤ) → (if b then z else pos 0) ≡ z *ℤ (if b then pos 1 else pos 0)
    by_test true z = sym (product_one_right z)
    by_test false z = sym (product_zero_right z)

index_behind : (front : List ℕ) (x : ℕ) (rest : List ℕ) → slice_index (front ++ x ∷ rest) (length front) ≡ x
index_behind [] x rest = refl
index_behind (y ∷ front) x rest = index_behind front x rest

indexes_listed : (f : ℕ → ℤ) (front xs : List ℕ) (n : ℕ) → n ≡ length front → map (λ i. f (slice_index (front ++ xs) i)) (columns_from n (length xs)) ≡ map f xs
indexes_listed f front [] n e = refl
indexes_listed f front (x ∷ xs) n e =
    let here : f (slice_index (front ++ x ∷ xs) n) ≡ f x = ap (λ (i : ℕ). f (slice_index (front ++ x ∷ xs) i)) e ∙ ap f (index_behind front x xs) in
    let l = length-append front (x ∷ []) in
    let rest : map (λ i. f (slice_index (front ++ x ∷ xs) i)) (columns_from (suc n) (length xs)) ≡ map f xs =
    subst (λ (v : List ℕ). map (λ i. f (slice_index v i)) (columns_from (suc n) (length xs)) ≡ map f xs) (append_assoc front (x ∷ []) xs)
    (indexes_listed f (front ++ x ∷ []) xs (suc n) (omega (arith, e, l))) in
    cc

-- the coefficient that the rank over the versions has at column c, from the values of the unknowns
coefficient_of_rank : (c n : ℕ) (p : ℕ → ℤ) (versions : List ℕ) (width : ℕ) → length versions ≡ width →
    coefficient c (at_versions versions (summed (weighted 0 (values_from p n width)))) ≡ dot p (standing_at n c versions)
coefficient_of_rank c n p versions width l =
    let cs : List ℤ = values_from p n width in
    let point : ℕ → ℤ = λ j. stands c (slice_index versions j) in
    let wide : length cs ≡ width = length-map (columns_from n width) p ∙ length-columns_from n width in
    let here : map point (columns_from 0 (length cs)) ≡ map (stands c) versions =
    ap (λ (k : ℕ). map point (columns_from 0 k)) (wide ∙ sym l) ∙ indexes_listed (stands c) [] versions 0 refl in
    let there : map p (columns_from n (length (map (stands c) versions))) ≡ cs = ap (λ (k : ℕ). map p (columns_from n k)) (length-map versions (stands c) ∙ l) in
    coefficient-at_versions c versions (summed (weighted 0 cs)) ∙ dot-summed point (weighted 0 cs) ∙ dot_weighted point 0 cs ∙ ap (paired cs) here ∙
    paired_comm cs (map (stands c) versions) ∙ ap (paired (map (stands c) versions)) (sym there) ∙ sym (dot_weighted p n (map (stands c) versions))

-- ---- what the rows of the system say of a point

-- a row that equals 0 at a point
at_zero : (d : ℤ) (p : ℕ → ℤ) (ts : List (ℕ × ℤ)) → dot p (summed ts) ≡ pos 0 *ℤ d → dot p ts ≡ pos 0
at_zero d p ts h = sym (dot-summed p ts) ∙ h ∙ product_zero_left d

columns_hold : (P : LinearRow → Type 0) (f : ℕ → LinearRow) (n k c : ℕ) → n ≤ c → c < n + k → AllByRecursion P (map f (columns_from n k)) → P (f c)
columns_hold P f n zero c a b h = absurd (omega arith)
columns_hold P f n (suc k) c a b h = elim (below_or_from c (suc n)) [
  | inl l ↦ subst (λ (i : ℕ). P (f i)) (let e : n ≡ c = omega (arith, l) in e) h.0
  | inr m ↦ columns_hold P f (suc n) k c (let e = m.1 in omega (arith, e)) (omega arith) h.1
]

sign_stands : (d : ℤ) (p : ℕ → ℤ) (i : ℕ) → HoldsAt d p (not_negative i) → pos 0 ≤ℤ p i
sign_stands d p i h = let z : pos 0 *ℤ d ≡ pos 0 = product_zero_left d in omega (arith, ints)

-- both multipliers of each inequality are not negative
record Stand (p : ℕ → ℤ) (i j : ℕ) (rows : List LinearRow) : Type 0 where
  first : MultipliersStand rows (values_from p i (length rows))
  second : MultipliersStand rows (values_from p j (length rows))

kind_stands : (d : ℤ) (p : ℕ → ℤ) (kind : RowKind) (i j : ℕ) → AllByRecursion (HoldsAt d p) (signs_of kind i j) → MayStand kind (p i) × MayStand kind (p j)
kind_stands d p Le i j h = (sign_stands d p i h.0, sign_stands d p j h.1.0)
kind_stands d p Eq i j h = (tt, tt)

signs_stand : (d : ℤ) (p : ℕ → ℤ) (i j : ℕ) (rows : List LinearRow) → AllByRecursion (HoldsAt d p) (signs i j rows) → Stand p i j rows
signs_stand d p i j [] h = record { first = tt; second = tt }
signs_stand d p i j (r ∷ rows) h =
    let k = all_parts (HoldsAt d p) (signs_of r.kind i j) (signs (suc i) (suc j) rows) h in
    let a = kind_stands d p r.kind i j k.0 in
    let b = signs_stand d p (suc i) (suc j) rows k.1 in
    record { first = (a.0, b.first); second = (a.1, b.second) }

-- what holds at a point of the system
record SystemSays (d : ℤ) (t : Turn) (rows : List LinearRow) (p : ℕ → ℤ) : Type 0 where
  falls : (c : ℕ) → c < t.columns → HoldsAt d p (falls_at t rows c)
  bounded : (c : ℕ) → c < t.columns → HoldsAt d p (bounded_at t rows c)
  by_one : HoldsAt d p (falls_by_one rows)
  stand : Stand p 0 (length rows) rows

system_says : (d : ℤ) (t : Turn) (rows : List LinearRow) (p : ℕ → ℤ) → AllByRecursion (HoldsAt d p) (ranking_rows t rows) → SystemSays d t rows p
system_says d t rows p h =
    let falls : List LinearRow = map (falls_at t rows) (columns_from 0 t.columns) in
    let bounded : List LinearRow = map (bounded_at t rows) (columns_from 0 t.columns) in
    let one = all_parts (HoldsAt d p) falls (bounded ++ (falls_by_one rows ∷ signs 0 (length rows) rows)) h in
    let two = all_parts (HoldsAt d p) bounded (falls_by_one rows ∷ signs 0 (length rows) rows) one.1 in
    record {
      falls = λ c l. columns_hold (HoldsAt d p) (falls_at t rows) 0 t.columns c (omega arith) (omega arith) one.0;
      bounded = λ c l. columns_hold (HoldsAt d p) (bounded_at t rows) 0 t.columns c (omega arith) (omega arith) two.0;
      by_one = two.1.0;
      stand = signs_stand d p 0 (length rows) rows two.1.1;
    }

-- ---- both leaves

-- a column that no row names
unnamed : (c n : ℕ) (rows : List LinearRow) → n ≤ c → RowsBelow n rows → AllByRecursion (λ y. y ≡ pos 0) (across c rows)
unnamed c n [] l h = tt
unnamed c n (r ∷ rows) l h = (coefficient_past c n r.terms l h.0, unnamed c n rows l h.1)

pub weighted_below : (n m : ℕ) (zs : List ℤ) → n + length zs ≤ m → IsBelow m (weighted n zs)
weighted_below n m [] l = tt
weighted_below n m (z ∷ zs) l = (omega (arith, l), weighted_below (suc n) m zs (omega (arith, l)))

module _ (t : Turn) (rows : List LinearRow) (p : ℕ → ℤ) (over : IsSystemOver t rows) where
  -- the rank's terms name columns of the frame
  terms_below : IsBelow (length t.before) (rank_terms t rows p)
  terms_below =
      let cs : List ℤ = values_from p (first_coefficient rows) (length t.before) in
      let l = length-map (columns_from (first_coefficient rows) (length t.before)) p in
      let k = length-columns_from (first_coefficient rows) (length t.before) in
      below_summed (length t.before) (weighted 0 cs) (weighted_below 0 (length t.before) cs (omega (arith, l, k)))

  before_below : IsBelow t.columns (at_versions t.before (rank_terms t rows p))
  before_below = names_below t.columns t.before (rank_terms t rows p) over.before terms_below

  after_below : IsBelow t.columns (at_versions t.after (rank_terms t rows p))
  after_below = names_below t.columns t.after (rank_terms t rows p) over.after (subst (λ (n : ℕ). IsBelow n (rank_terms t rows p)) (sym over.same) terms_below)

  -- its coefficients before and after
  before_at : (c : ℕ) → coefficient c (at_versions t.before (rank_terms t rows p)) ≡ dot p (standing_at (first_coefficient rows) c t.before)
  before_at c = coefficient_of_rank c (first_coefficient rows) p t.before (length t.before) refl

  after_at : (c : ℕ) → coefficient c (at_versions t.after (rank_terms t rows p)) ≡ dot p (standing_at (first_coefficient rows) c t.after)
  after_at c = coefficient_of_rank c (first_coefficient rows) p t.after (length t.before) over.same

  -- the sum of the rows in a column, by multipliers from unknown o on
  rows_at : (o c : ℕ) → dot p (weighted o (across c rows)) ≡ paired (values_from p o (length rows)) (across c rows)
  rows_at o c =
      dot_weighted p o (across c rows) ∙
      ap (λ (k : ℕ). paired (across c rows) (map p (columns_from o k))) (length-map rows (λ r. coefficient c r.terms)) ∙
      paired_comm (across c rows) (values_from p o (length rows))

  bounds_at : (o : ℕ) → dot p (weighted o (map (λ r. r.bound) rows)) ≡ paired (values_from p o (length rows)) (map (λ r. r.bound) rows)
  bounds_at o =
      dot_weighted p o (map (λ r. r.bound) rows) ∙
      ap (λ (k : ℕ). paired (map (λ r. r.bound) rows) (map p (columns_from o k))) (length-map rows (λ r. r.bound)) ∙
      paired_comm (map (λ r. r.bound) rows) (values_from p o (length rows))

  multipliers_long : (o : ℕ) → length (values_from p o (length rows)) ≡ length rows
  multipliers_long o = length-map (columns_from o (length rows)) p ∙ length-columns_from o (length rows)

  -- the row that says that the rank does not fall
  unfallen_at : (c : ℕ) → coefficient c (unfallen t (rank_terms t rows p)).terms ≡
      coefficient c (at_versions t.before (rank_terms t rows p)) +ℤ neg_ℤ (coefficient c (at_versions t.after (rank_terms t rows p)))
  unfallen_at c =
      let b : List (ℕ × ℤ) = at_versions t.before (rank_terms t rows p) in
      let a : List (ℕ × ℤ) = at_versions t.after (rank_terms t rows p) in
      coefficient-summed c (b ++ opposite a) ∙ coefficient-append c b (opposite a) ∙ ap (λ (z : ℤ). coefficient c b +ℤ z) (coefficient-opposite c a)

  unfallen_past : (c : ℕ) → t.columns ≤ c → coefficient c (unfallen t (rank_terms t rows p)).terms ≡ pos 0
  unfallen_past c l =
      let b : List (ℕ × ℤ) = at_versions t.before (rank_terms t rows p) in
      let a : List (ℕ × ℤ) = at_versions t.after (rank_terms t rows p) in
      coefficient_past c t.columns (summed (b ++ opposite a)) l
      (below_summed t.columns (b ++ opposite a) (IsBelow-append t.columns b (opposite a) before_below (IsBelow-opposite t.columns a after_below)))

  unbounded_past : (b : ℤ) (c : ℕ) → t.columns ≤ c → coefficient c (unbounded t (rank_terms t rows p) b).terms ≡ pos 0
  unbounded_past b c l =
      coefficient_past c t.columns (summed (at_versions t.before (rank_terms t rows p))) l
      (below_summed t.columns (at_versions t.before (rank_terms t rows p)) before_below)

  falls_vanish : (d : ℤ) → SystemSays d t rows p → (c : ℕ) →
      paired (values_from p 0 (length rows)) (across c rows) +ℤ coefficient c (unfallen t (rank_terms t rows p)).terms ≡ pos 0
  falls_vanish d s c = by_place (below_or_from c t.columns)
    where
      by_place : ((c < t.columns) ⊎ ((k : ℕ) × (c ≡ t.columns + k))) →
          paired (values_from p 0 (length rows)) (across c rows) +ℤ coefficient c (unfallen t (rank_terms t rows p)).terms ≡ pos 0
      by_place (inl l) =
          let o : ℕ = first_coefficient rows in
          let w : List (ℕ × ℤ) = weighted 0 (across c rows) in
          let x : List (ℕ × ℤ) = standing_at o c t.before in
          let y : List (ℕ × ℤ) = standing_at o c t.after in
          let e : dot p (w ++ (x ++ opposite y)) ≡ pos 0 = at_zero d p (w ++ (x ++ opposite y)) (s.falls c l) in
          let f : dot p (w ++ (x ++ opposite y)) ≡ dot p w +ℤ dot p (x ++ opposite y) = dot-append p w (x ++ opposite y) in
          let h : dot p (x ++ opposite y) ≡ dot p x +ℤ dot p (opposite y) = dot-append p x (opposite y) in
          let i : dot p (opposite y) ≡ neg_ℤ (dot p y) = dot-opposite p y in
          let j = rows_at 0 c in
          let k = before_at c in
          let m = after_at c in
          let n = unfallen_at c in
          omega (arith, ints, j, k, m, n)
      by_place (inr (k, e)) =
          let a : paired (values_from p 0 (length rows)) (across c rows) ≡ pos 0 =
          paired_zero (values_from p 0 (length rows)) (across c rows) (unnamed c t.columns rows (omega (arith, e)) over.rows_below) in
          let b = unfallen_past c (omega (arith, e)) in
          omega (arith, ints, a, b)

  bounded_vanish : (d b : ℤ) → SystemSays d t rows p → (c : ℕ) →
      paired (values_from p (length rows) (length rows)) (across c rows) +ℤ coefficient c (unbounded t (rank_terms t rows p) b).terms ≡ pos 0
  bounded_vanish d b s c = by_place (below_or_from c t.columns)
    where
      by_place : ((c < t.columns) ⊎ ((k : ℕ) × (c ≡ t.columns + k))) →
          paired (values_from p (length rows) (length rows)) (across c rows) +ℤ coefficient c (unbounded t (rank_terms t rows p) b).terms ≡ pos 0
      by_place (inl l) =
          let o : ℕ = first_coefficient rows in
          let w : List (ℕ × ℤ) = weighted (length rows) (across c rows) in
          let x : List (ℕ × ℤ) = standing_at o c t.before in
          let e : dot p (w ++ x) ≡ pos 0 = at_zero d p (w ++ x) (s.bounded c l) in
          let f : dot p (w ++ x) ≡ dot p w +ℤ dot p x = dot-append p w x in
          let j = rows_at (length rows) c in
          let k = before_at c in
          let n = coefficient-summed c (at_versions t.before (rank_terms t rows p)) in
          omega (arith, ints, j, k, n)
      by_place (inr (k, e)) =
          let a : paired (values_from p (length rows) (length rows)) (across c rows) ≡ pos 0 =
          paired_zero (values_from p (length rows) (length rows)) (across c rows) (unnamed c t.columns rows (omega (arith, e)) over.rows_below) in
          let f = unbounded_past b c (omega (arith, e)) in
          omega (arith, ints, a, f)

  -- the leaf that shows that the rank falls
  pub ranks_fall : (d : ℤ) → pos 0 <ℤ d → AllByRecursion (HoldsAt d p) (ranking_rows t rows) →
      Combines (rows ++ tightened (unfallen t (rank_terms t rows p)) ∷ []) (falls_leaf t rows p)
  ranks_fall d x h =
      let s = system_says d t rows p h in
      let b = bounds_at 0 in
      let w : List (ℕ × ℤ) = weighted 0 (map (λ r. r.bound) rows) in
      let e : dot p (summed w) ≤ℤ (negsuc 0 *ℤ d) = s.by_one in
      let f : dot p (summed w) ≡ dot p w = dot-summed p w in
      leaf_combines rows (unfallen t (rank_terms t rows p)).terms (pos 0) (values_from p 0 (length rows)) (multipliers_long 0) s.stand.first (falls_vanish d s)
      (omega (arith, ints, b))

  -- the leaf that shows that it is bounded
  pub ranks_are_bounded : (d : ℤ) → AllByRecursion (HoldsAt d p) (ranking_rows t rows) →
      Combines (rows ++ tightened (unbounded t (rank_terms t rows p) (rank_bound rows p)) ∷ []) (bounded_leaf t rows p)
  ranks_are_bounded d h =
      let s = system_says d t rows p h in
      let b = bounds_at (length rows) in
      let bound : ℤ = rank_bound rows p in
      leaf_combines rows (unbounded t (rank_terms t rows p) bound).terms (bound -ℤ pos 1) (values_from p (length rows) (length rows)) (multipliers_long (length rows))
      s.stand.second (bounded_vanish d bound s) (omega (arith, ints, b))
