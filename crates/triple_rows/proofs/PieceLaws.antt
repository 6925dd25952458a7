-- Pieces of systems over tables of columns: they are those over the columns that the tables have.
use Rattle.std.proofs.Common.{◌≡◌, ◌∙◌, ℕ, ◌+◌, ◌<◌, Bool, true, false, ℤ, List, [], ◌∷◌, length, refl, sym, ap, subst, arith}
use Rattle.std.specs.Prelude.{map, slice_index}
use Rattle.std.specs.List.{AllByRecursion}
use Rattle.math_facts.specs.Terms.{IsBelow}
use Rattle.lin_rows.specs.Rows.{LinearRow}
use Rattle.lin_rows.specs.Sums.{row_of}
use Rattle.lin_rows.specs.Negating.{negated}
use Rattle.letter_acts.proofs.ListLemmas.{map_map}
use Rattle.triple_rows.specs.Predicates.{Formula, Formulas, truth, atom, and_of, or_of, no_formula, one_more, IsOver, AreOver}
use Rattle.triple_rows.specs.Systems.{PlainSystem, both_systems, only_rows, one_of, one_member, said, all_said, members_said, denied, all_denied, members_denied}
use Rattle.letter_acts.specs.FrameRows.Rows.{renamed, equal_row}
use Rattle.triple_rows.specs.Ties.Drafts.{stated}
use Rattle.triple_rows.specs.Ties.Tables.{IsTable}

renamed_same : (p q : ℕ → ℕ) (n : ℕ) (r : LinearRow) → IsBelow n r.terms → ((c : ℕ) → c < n → p c ≡ q c) → renamed p r ≡ renamed q r
renamed_same p q n r b e = ap (λ (ts : List (ℕ × ℤ)). row_of ts r.kind r.bound) (same r.terms b)
  where
    same : (ts : List (ℕ × ℤ)) → IsBelow n ts → map {B = ℕ × ℤ} (λ t. (p t.0, t.1)) ts ≡ map {B = ℕ × ℤ} (λ t. (q t.0, t.1)) ts
    same [] b = refl
    same (t ∷ ts) b = ap (λ (c : ℕ). (c, t.1) ∷ map (λ u. (p u.0, u.1)) ts) (e t.0 b.0) ∙ ap (λ (us : List (ℕ × ℤ)). (q t.0, t.1) ∷ us) (same ts b.1)

mutual
  said_same : (p q : ℕ → ℕ) (n : ℕ) (f : Formula) → IsOver n f → ((c : ℕ) → c < n → p c ≡ q c) → said p f ≡ said q f
  said_same p q n (truth true) o e = refl
  said_same p q n (truth false) o e = refl
  said_same p q n (atom r) o e = ap (λ (s : LinearRow). only_rows (s ∷ [])) (renamed_same p q n r o e)
  said_same p q n (and_of fs) o e = all_said_same p q n fs o e
  said_same p q n (or_of fs) o e = ap one_of (members_said_same p q n fs o e)

  all_said_same : (p q : ℕ → ℕ) (n : ℕ) (fs : Formulas) → AreOver n fs → ((c : ℕ) → c < n → p c ≡ q c) → all_said p fs ≡ all_said q fs
  all_said_same p q n no_formula o e = refl
  all_said_same p q n (one_more f fs) o e =
      ap (λ (s : PlainSystem). both_systems s (all_said p fs)) (said_same p q n f o.0 e) ∙ ap (both_systems (said q f)) (all_said_same p q n fs o.1 e)

  members_said_same : (p q : ℕ → ℕ) (n : ℕ) (fs : Formulas) → AreOver n fs → ((c : ℕ) → c < n → p c ≡ q c) → members_said p fs ≡ members_said q fs
  members_said_same p q n no_formula o e = refl
  members_said_same p q n (one_more f fs) o e =
      ap (λ (s : PlainSystem). one_member s (members_said p fs)) (said_same p q n f o.0 e) ∙ ap (one_member (said q f)) (members_said_same p q n fs o.1 e)

mutual
  denied_same : (p q : ℕ → ℕ) (n : ℕ) (f : Formula) → IsOver n f → ((c : ℕ) → c < n → p c ≡ q c) → denied p f ≡ denied q f
  denied_same p q n (truth true) o e = refl
  denied_same p q n (truth false) o e = refl
  denied_same p q n (atom r) o e = ap (λ (s : LinearRow). only_rows (negated s ∷ [])) (renamed_same p q n r o e)
  denied_same p q n (and_of fs) o e = ap one_of (members_denied_same p q n fs o e)
  denied_same p q n (or_of fs) o e = all_denied_same p q n fs o e

  all_denied_same : (p q : ℕ → ℕ) (n : ℕ) (fs : Formulas) → AreOver n fs → ((c : ℕ) → c < n → p c ≡ q c) → all_denied p fs ≡ all_denied q fs
  all_denied_same p q n no_formula o e = refl
  all_denied_same p q n (one_more f fs) o e =
      ap (λ (s : PlainSystem). both_systems s (all_denied p fs)) (denied_same p q n f o.0 e) ∙ ap (both_systems (denied q f)) (all_denied_same p q n fs o.1 e)

  members_denied_same : (p q : ℕ → ℕ) (n : ℕ) (fs : Formulas) → AreOver n fs → ((c : ℕ) → c < n → p c ≡ q c) → members_denied p fs ≡ members_denied q fs
  members_denied_same p q n no_formula o e = refl
  members_denied_same p q n (one_more f fs) o e =
      ap (λ (s : PlainSystem). one_member s (members_denied p fs)) (denied_same p q n f o.0 e) ∙ ap (one_member (denied q f)) (members_denied_same p q n fs o.1 e)

-- ---- over tables

pub sliced : (n : ℕ) (to : ℕ → ℕ) (slice items : List ℕ) → slice ≡ items → IsTable n to items → IsTable n to slice
sliced n to slice items e h = subst (IsTable n to) (sym e) h

pub from_first : (n : ℕ) (columns : List ℕ) → IsTable n (λ c. 0 + c) columns → IsTable n (λ c. c) columns
from_first n columns h = record { count = h.count; value = λ c l. h.value c l ∙ (let e : 0 + c ≡ c = omega arith in e); differ = h.differ }

pub stated_by_table : (deny : Bool) (n : ℕ) (to : ℕ → ℕ) (columns : List ℕ) (f : Formula) → IsOver n f → IsTable n to columns → stated deny (slice_index columns) f ≡ stated deny to f
stated_by_table true n to columns f o h = denied_same (slice_index columns) to n f o h.value
stated_by_table false n to columns f o h = said_same (slice_index columns) to n f o h.value

pub rows_by_table : (n : ℕ) (to : ℕ → ℕ) (columns : List ℕ) (rows : List LinearRow) → AllByRecursion (λ r. IsBelow n r.terms) rows → IsTable n to columns →
    map (renamed (slice_index columns)) rows ≡ map (renamed to) rows
rows_by_table n to columns [] b h = refl
rows_by_table n to columns (r ∷ rows) b h =
    ap (λ (s : LinearRow). s ∷ map (renamed (slice_index columns)) rows) (renamed_same (slice_index columns) to n r b.0 h.value) ∙
    ap (λ (rs : List LinearRow). renamed to r ∷ rs) (rows_by_table n to columns rows b.1 h)

pub ties_by_tables : {X : Type 0} (n k : ℕ) (to other : ℕ → ℕ) (left right : List ℕ) (a b : X → ℕ) (xs : List X) → AllByRecursion (λ x. (a x < n) × (b x < k)) xs →
    IsTable n to left → IsTable k other right →
    map (λ x. equal_row (slice_index left (a x)) (slice_index right (b x))) xs ≡ map (λ x. equal_row (to (a x)) (other (b x))) xs
ties_by_tables n k to other left right a b [] w h g = refl
ties_by_tables n k to other left right a b (x ∷ xs) w h g =
    ap (λ (c : ℕ). equal_row c (slice_index right (b x)) ∷ map (λ y. equal_row (slice_index left (a y)) (slice_index right (b y))) xs) (h.value (a x) w.0.0) ∙
    ap (λ (c : ℕ). equal_row (to (a x)) c ∷ map (λ y. equal_row (slice_index left (a y)) (slice_index right (b y))) xs) (g.value (b x) w.0.1) ∙
    ap (λ (rs : List LinearRow). equal_row (to (a x)) (other (b x)) ∷ rs) (ties_by_tables n k to other left right a b xs w.1 h g)

-- each column with itself
pub doubled_ties : (left right columns : List ℕ) →
    map (λ (p : ℕ × ℕ). equal_row (slice_index left p.0) (slice_index right p.1)) (map (λ c. (c, c)) columns) ≡ map (λ c. equal_row (slice_index left c) (slice_index right c)) columns
doubled_ties left right columns = map_map (λ (c : ℕ). (c, c)) (λ (p : ℕ × ℕ). equal_row (slice_index left p.0) (slice_index right p.1)) columns

pub within_tables : {X : Type 0} (n k : ℕ) (to other : ℕ → ℕ) (left right : List ℕ) (a b : X → ℕ) (xs : List X) → IsTable n to left → IsTable k other right →
    AllByRecursion (λ x. (a x < n) × (b x < k)) xs → AllByRecursion (λ x. (a x < length left) × (b x < length right)) xs
within_tables n k to other left right a b [] h g w = tt
within_tables n k to other left right a b (x ∷ xs) h g w =
    let e = h.count in
    let f = g.count in
    let l = w.0.0 in
    let m = w.0.1 in
    ((omega (arith, e, l), omega (arith, f, m)), within_tables n k to other left right a b xs h g w.1)
