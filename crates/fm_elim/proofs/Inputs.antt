-- The tightened input rows are combinations of themselves.
use Rattle.std.proofs.Common.{◌≡◌, ℕ, zero, suc, ◌+◌, ◌%◌, ◌<◌, ◌≤◌, Bool, true, false, ℤ, pos, ◌+ℤ◌, ◌*ℤ◌, List, [], ◌∷◌, ◌++◌, length, take, get_or, map, nat_eq, refl, sym, ap, ◌∙◌, inl, inr, ◌⊎◌, arith, if◌then◌else◌}
use Rattle.std.specs.Prelude.{unsigned_abs}
use Rattle.std.specs.Int.{int_div_euclid}
use Rattle.std.specs.List.{AllByRecursion}
use Rattle.std.proofs.lemmas.Bool.{cases_eq, eq-eqb, ne_eqb}
use Rattle.std.proofs.lemmas.Int.{ints}
use Rattle.std.proofs.lemmas.List.{length-take-le, take_more}
use Rattle.math_facts.specs.Terms.{coefficient, IsBelow}
use Rattle.math_facts.proofs.Whole.{product_one_left}
use Rattle.math_facts.proofs.TermLaws.{coefficient_past}
use Rattle.lin_rows.specs.declared.types.RowKind.{RowKind}
use Rattle.lin_rows.specs.declared.types.RowKind.TheVariants.{Le, Eq}
use Rattle.lin_rows.specs.Rows.{LinearRow, AscendsFrom, IsRow, RowsBelow}
use Rattle.lin_rows.specs.Tightening.{content, divided, never, divided_row, tightened_by, tightened}
use Rattle.lin_rows.specs.Combinations.{row_at}
use Rattle.lin_rows.proofs.Ascending.{HasNoZero}
use Rattle.lin_rows.proofs.RowLemmas.{HasNoZero-terms}
use Rattle.fm_elim.specs.Derivations.{DerivedRow, input, inputs, at}
use Rattle.fm_elim.proofs.Multipliers.{MayTake, IsMade}

-- the rows, tightened, stand in a list from n on
abbrev pub Follow : List LinearRow → ℕ → List LinearRow → Type 0
Follow given n [] = Unit {0}
Follow given n (r ∷ rs) = ((row_at given n ≡ tightened r) × (n < length given)) × Follow given (suc n) rs

follow_later : (q : LinearRow) (given : List LinearRow) (n : ℕ) (rows : List LinearRow) → Follow given n rows → Follow (q ∷ given) (suc n) rows
follow_later q given n [] h = tt
follow_later q given n (r ∷ rs) h = ((h.0.0, let l : n < length given = h.0.1 in omega arith), follow_later q given (suc n) rs h.1)

follow_themselves : (rows : List LinearRow) → Follow (map tightened rows) 0 rows
follow_themselves [] = tt
follow_themselves (r ∷ rs) = ((refl, omega arith), follow_later (tightened r) (map tightened rs) 0 rs (follow_themselves rs))

takes_itself : (kind r : RowKind) → r ≡ kind → MayTake kind r (pos 1 +ℤ pos 0)
takes_itself Le Le e = omega (arith, ints)
takes_itself Le Eq e = tt
takes_itself Eq Le e = absurd (cc)
takes_itself Eq Eq e = tt

takes_none : (kind r : RowKind) → MayTake kind r (pos 0 +ℤ pos 0)
takes_none Le Le = omega (arith, ints)
takes_none Le Eq = tt
takes_none Eq Le = refl
takes_none Eq Eq = tt

input_is_made : (given : List LinearRow) (n : ℕ) (r : LinearRow) → row_at given n ≡ tightened r → n < length given → IsMade given (input n r)
input_is_made given n r e l = record {
  columns = λ c.
      let d : coefficient c (row_at given n).terms ≡ coefficient c (tightened r).terms = ap (λ (q : LinearRow). coefficient c q.terms) e in
      let o : pos 1 *ℤ coefficient c (row_at given n).terms ≡ coefficient c (row_at given n).terms = product_one_left (coefficient c (row_at given n).terms) in
      omega (arith, ints);
  bound =
      let d : (row_at given n).bound ≡ (tightened r).bound = ap (λ (q : LinearRow). q.bound) e in
      let o : pos 1 *ℤ (row_at given n).bound ≡ (row_at given n).bound = product_one_left (row_at given n).bound in
      omega (arith, ints);
  takes = λ i. at_row i (cases_eq n i);
  within = λ i k. coefficient_past i (length given) ((n, pos 1) ∷ []) k (l, tt);
  ascends = (omega arith, tt);
  nonzero = (λ (z : pos 1 ≡ pos 0). omega (arith, ints), tt);
}
  where
    at_row : (i : ℕ) → ((n ≡ i) ⊎ (n ≡ i → ⊥)) → MayTake (tightened r).kind (row_at given i).kind ((if nat_eq n i then pos 1 else pos 0) +ℤ pos 0)
    at_row i (inl d) =
        rw (eq-eqb n i d) (takes_itself (tightened r).kind (row_at given i).kind (ap (λ (k : ℕ). (row_at given k).kind) (sym d) ∙ ap (λ (q : LinearRow). q.kind) e))
    at_row i (inr d) = rw (ne_eqb n i d) (takes_none (tightened r).kind (row_at given i).kind)

inputs_follow : (given : List LinearRow) (n : ℕ) (rows : List LinearRow) → Follow given n rows → AllByRecursion (IsMade given) (inputs n rows)
inputs_follow given n [] h = tt
inputs_follow given n (r ∷ rs) h = (input_is_made given n r h.0.0 h.0.1, inputs_follow given (suc n) rs h.1)

pub inputs_are_made : (rows : List LinearRow) → AllByRecursion (IsMade (map tightened rows)) (inputs 0 rows)
inputs_are_made rows = inputs_follow (map tightened rows) 0 rows (follow_themselves rows)

-- ---- the columns and the order of their terms

IsBelow-divided : (n g : ℕ) (ts : List (ℕ × ℤ)) → IsBelow n ts → IsBelow n (divided g ts)
IsBelow-divided n g [] h = tt
IsBelow-divided n g (t ∷ ts) h = (h.0, IsBelow-divided n g ts h.1)

IsBelow-divided_row : (n : ℕ) (kind : RowKind) (g : ℕ) (ts : List (ℕ × ℤ)) (b : ℤ) → IsBelow n ts → IsBelow n (divided_row kind g ts b).terms
IsBelow-divided_row n Le g ts b h = IsBelow-divided n g ts h
IsBelow-divided_row n Eq g ts b h = by_test (nat_eq (unsigned_abs b % g) 0)
  where
    by_test : (c : Bool) → IsBelow n (if c then (record { terms = divided g ts; kind = Eq; bound = int_div_euclid b (pos g) }) else never).terms
    by_test true = IsBelow-divided n g ts h
    by_test false = tt

pub IsBelow-tightened : (n : ℕ) (r : LinearRow) → IsBelow n r.terms → IsBelow n (tightened r).terms
IsBelow-tightened n r h = by_content (content r.terms)
  where
    by_content : (g : ℕ) → IsBelow n (tightened_by g r).terms
    by_content zero = h
    by_content (suc g) = IsBelow-divided_row n r.kind (suc g) r.terms r.bound h

-- no column from n on stands in the row
abbrev pub IsClear : ℕ → DerivedRow → Type 0
IsClear n r = (c : ℕ) → n ≤ c → at c r ≡ pos 0

-- the terms ascend and have no coefficient 0
abbrev pub IsOrdered : DerivedRow → Type 0
IsOrdered r = AscendsFrom 0 r.row.terms × HasNoZero r.row.terms

pub inputs_are_clear : (n k : ℕ) (rows : List LinearRow) → RowsBelow n rows → AllByRecursion (IsClear n) (inputs k rows)
inputs_are_clear n k [] h = tt
inputs_are_clear n k (r ∷ rs) h =
    (λ c l. coefficient_past c n (tightened r).terms l (IsBelow-tightened n r h.0), inputs_are_clear n (suc k) rs h.1)

pub inputs_are_ordered : (k : ℕ) (rows : List LinearRow) → AllByRecursion (λ r. IsRow (tightened r)) rows → AllByRecursion IsOrdered (inputs k rows)
inputs_are_ordered k [] h = tt
inputs_are_ordered k (r ∷ rs) h = ((h.0.ascends, HasNoZero-terms (tightened r).terms h.0.coefficients), inputs_are_ordered (suc k) rs h.1)

-- one input row more
pub inputs-append : (n : ℕ) (xs ys : List LinearRow) → inputs n (xs ++ ys) ≡ inputs n xs ++ inputs (n + length xs) ys
inputs-append n [] ys = ap (λ (k : ℕ). inputs k ys) (let e : n ≡ n + 0 = omega arith in e)
inputs-append n (x ∷ xs) ys =
    ap (λ (rest : List DerivedRow). input n x ∷ rest)
    (inputs-append (suc n) xs ys ∙ ap (λ (k : ℕ). inputs (suc n) xs ++ inputs k ys) (let e : suc n + length xs ≡ n + suc (length xs) = omega arith in e))

pub inputs_more : (rows : List LinearRow) (i : ℕ) (d : LinearRow) → i < length rows → inputs 0 (take (i + 1) rows) ≡ inputs 0 (take i rows) ++ input i (get_or rows i d) ∷ []
inputs_more rows i d l =
    let k : 0 + length (take i rows) ≡ i = (let e : length (take i rows) ≡ i = length-take-le i rows (omega arith) in omega arith) in
    ap (λ (xs : List LinearRow). inputs 0 xs) (take_more rows i d l) ∙ inputs-append 0 (take i rows) (get_or rows i d ∷ []) ∙
    ap (λ (n : ℕ). inputs 0 (take i rows) ++ input n (get_or rows i d) ∷ []) k
