-- A column that stands in no row: eliminating it keeps the rows, and nothing bounds it.
use Rattle.std.proofs.Common.{◌≡◌, ℕ, zero, suc, ◌+◌, ◌-◌, ◌<◌, ◌≤◌, ℤ, pos, Bool, true, false, ◌&&◌, not, List, [], ◌∷◌, ◌++◌, Option, None, Some, map, length, get_or, take, refl, sym, ap, ◌∙◌, subst, append_assoc, arith, if◌then◌else◌}
use Rattle.std.specs.Prelude.{nat_eq, unsigned_abs, int_lt, replicate}
use Rattle.std.specs.Ordering.{nat_cmp, ord_max}
use Rattle.std.proofs.lemmas.Grind.{common_steps}
use Rattle.std.proofs.lemmas.List.{map-append, replicate_more}
use Rattle.std.specs.List.{AllByRecursion, filter, flat_map}
use Rattle.fm_elim.specs.Folds.{first, Where}
use Rattle.fm_elim.specs.Derivations.{DerivedRow, at, has, is_upper, is_lower, is_equality, is_false}
use Rattle.lin_rows.specs.Sums.{is_zero}
use Rattle.fm_elim.specs.Columns.{SetAside, Eliminated, bounded, is_pivot, both_halves, BothHalvesFit, halves, HalvesFit, PairFits, pairs, paired_off, CombinedFits, elimination_step_by, StepByFits, elimination_step, EliminationStepFits}
use Rattle.fm_elim.specs.Ties.Climb.{IsDown}
use Rattle.fm_elim.specs.declared.types.Aside.{Aside}
use Rattle.fm_elim.specs.Answers.{aside_of}
use Rattle.fm_elim.proofs.Climbing.{down_more}

-- the column stands in none of the rows
abbrev pub IsFree : ℕ → List DerivedRow → Type 0
IsFree k rows = AllByRecursion (λ r. at k r ≡ pos 0) rows

append_none : {X : Type 0} (xs : List X) → xs ++ [] ≡ xs
append_none [] = refl
append_none {X = X} (x ∷ xs) = ap (λ (ys : List X). x ∷ ys) (append_none xs)

-- ---- one row

and_false : (b : Bool) → (b && false) ≡ false
and_false true = refl
and_false false = refl

no_pivot : (k : ℕ) (r : DerivedRow) → at k r ≡ pos 0 → is_pivot k r ≡ false
no_pivot k r e = ap (λ (z : ℤ). is_equality r.row.kind && nat_eq (unsigned_abs z) 1) e ∙ and_false (is_equality r.row.kind)

not_halved : (k : ℕ) (r : DerivedRow) → at k r ≡ pos 0 → (is_equality r.row.kind && has k r) ≡ false
not_halved k r e = ap (λ (z : ℤ). is_equality r.row.kind && not (is_zero z)) e ∙ and_false (is_equality r.row.kind)

-- ---- all rows

no_first_pivot : (k : ℕ) (rows : List DerivedRow) → IsFree k rows → first (is_pivot k) rows ≡ None
no_first_pivot k [] h = refl
no_first_pivot k (r ∷ rows) h = ap (λ (b : Bool). if b then Some r else first (is_pivot k) rows) (no_pivot k r h.0) ∙ no_first_pivot k rows h.1

halves_are_rows : (k : ℕ) (rows : List DerivedRow) → IsFree k rows → flat_map (halves k) rows ≡ rows
halves_are_rows k [] h = refl
halves_are_rows k (r ∷ rows) h =
    ap (λ (b : Bool). (if b then both_halves r else r ∷ []) ++ flat_map (halves k) rows) (not_halved k r h.0) ∙ ap (λ (xs : List DerivedRow). r ∷ xs) (halves_are_rows k rows h.1)

halves_fit : (k : ℕ) (rows : List DerivedRow) → IsFree k rows → AllByRecursion (HalvesFit k) rows
halves_fit k [] h = tt
halves_fit k (r ∷ rows) h = (subst (λ (b : Bool). Where b (BothHalvesFit r)) (sym (not_halved k r h.0)) tt, halves_fit k rows h.1)

all_without : (k : ℕ) (rows : List DerivedRow) → IsFree k rows → filter (λ r. not (has k r)) rows ≡ rows
all_without k [] h = refl
all_without k (r ∷ rows) h =
    ap (λ (z : ℤ). if not (not (is_zero z)) then r ∷ filter (λ r. not (has k r)) rows else filter (λ r. not (has k r)) rows) h.0
    ∙ ap (λ (xs : List DerivedRow). r ∷ xs) (all_without k rows h.1)

no_uppers : (k : ℕ) (rows : List DerivedRow) → IsFree k rows → filter (is_upper k) rows ≡ []
no_uppers k [] h = refl
no_uppers k (r ∷ rows) h = ap (λ (z : ℤ). if int_lt (pos 0) z then r ∷ filter (is_upper k) rows else filter (is_upper k) rows) h.0 ∙ no_uppers k rows h.1

no_lowers : (k : ℕ) (rows : List DerivedRow) → IsFree k rows → filter (is_lower k) rows ≡ []
no_lowers k [] h = refl
no_lowers k (r ∷ rows) h = ap (λ (z : ℤ). if int_lt z (pos 0) then r ∷ filter (is_lower k) rows else filter (is_lower k) rows) h.0 ∙ no_lowers k rows h.1

-- ---- the step

-- the rows as they are, and no bound
abbrev kept : List DerivedRow → Eliminated
kept rows = record { rows = rows; aside = bounded [] [] }

combined_is : (k : ℕ) (rows : List DerivedRow) → IsFree k rows → CombinedFits k rows × (kept rows ≡ paired_off k rows)
combined_is k rows h =
    let w : filter (λ r. not (has k r)) rows ≡ rows = all_without k rows h in
    let u : filter (is_upper k) rows ≡ [] = no_uppers k rows h in
    let l : filter (is_lower k) rows ≡ [] = no_lowers k rows h in (
      subst (λ (us : List DerivedRow). AllByRecursion (λ u. AllByRecursion (λ l. PairFits k u l) (filter (is_lower k) rows)) us) (sym u) tt,
      sym (ap (λ (xs : List DerivedRow). by_lists xs (filter (is_upper k) rows) (filter (is_lower k) rows)) w
          ∙ ap (λ (xs : List DerivedRow). by_lists rows xs (filter (is_lower k) rows)) u
          ∙ ap (λ (xs : List DerivedRow). by_lists rows [] xs) l
          ∙ ap kept (append_none rows)),
    )
  where
    by_lists : List DerivedRow → List DerivedRow → List DerivedRow → Eliminated
    by_lists without us ls = record { rows = without ++ pairs k us ls; aside = bounded ls us }

free_step : (k : ℕ) (rows : List DerivedRow) → IsFree k rows → EliminationStepFits k rows × (kept rows ≡ elimination_step k rows)
free_step k rows h =
    subst (λ (o : Option DerivedRow). StepByFits k o rows × (kept rows ≡ elimination_step_by k o rows)) (sym (no_first_pivot k rows h))
    (subst (λ (xs : List DerivedRow). (AllByRecursion (HalvesFit k) rows × CombinedFits k xs) × (kept rows ≡ paired_off k xs)) (sym (halves_are_rows k rows h))
    (let c = combined_is k rows h in ((halves_fit k rows h, c.0), c.1)))

-- ---- the columns from `used` on

-- one column after the other
down_by : (n : ℕ) (given : List DerivedRow) (used count : ℕ) (rows : List DerivedRow) (asides : List SetAside) → IsDown n given (used + count) rows asides →
    first is_false rows ≡ None → ((k : ℕ) → used ≤ k → k < used + count → IsFree k rows) → IsDown n given used rows (asides ++ replicate count (bounded [] []))
down_by n given used zero rows asides d h f =
    subst (λ (xs : List SetAside). IsDown n given used rows xs) (sym (append_none asides)) (subst (λ (m : ℕ). IsDown n given m rows asides) (omega arith) d)
down_by n given used (suc count) rows asides d h f =
    let e : used + suc count ≡ suc (used + count) = omega arith in
    subst (λ (xs : List SetAside). IsDown n given used rows xs) (append_assoc asides (bounded [] [] ∷ []) (replicate count (bounded [] [])))
    (down_by n given used count rows (asides ++ bounded [] [] ∷ [])
    (down_more n given (used + suc count) (used + count) rows asides (kept rows) d e h (free_step (used + count) rows (f (used + count) (omega arith) (omega arith))))
    h
    (λ k i j. f k i (omega arith)))

-- columns that stand in no row are set aside, each without bounds
pub down_free : (n : ℕ) (given : List DerivedRow) (left used : ℕ) (rows : List DerivedRow) (asides : List SetAside) → IsDown n given left rows asides → used ≤ left →
    first is_false rows ≡ None → ((k : ℕ) → used ≤ k → k < left → IsFree k rows) → IsDown n given used rows (asides ++ replicate (left - used) (bounded [] []))
down_free n given left used rows asides d l h f =
    let e : left ≡ used + (left - used) = omega arith in
    down_by n given used (left - used) rows asides (subst (λ (m : ℕ). IsDown n given m rows asides) e d) h (λ k i j. f k i (omega arith))

-- the same as the loop has it, where the new list of what is set aside ends by those columns
pub down_set : (n : ℕ) (given : List DerivedRow) (left used : ℕ) (rows : List DerivedRow) (asides next : List Aside) → IsDown n given left rows (map aside_of asides) → used ≤ left →
    first is_false rows ≡ None → ((k : ℕ) → used ≤ k → k < left → IsFree k rows) → map aside_of next ≡ map aside_of asides ++ replicate (left - used) (bounded [] []) →
    IsDown n given used rows (map aside_of next)
down_set n given left used rows asides next d l h f e =
    subst (λ (xs : List SetAside). IsDown n given used rows xs) (sym e) (down_free n given left used rows (map aside_of asides) d l h f)

-- one more column is set aside without bounds
pub set_more : (old now next : List Aside) (used count : ℕ) (a : Aside) → used ≤ count → map aside_of now ≡ map aside_of old ++ replicate (count - used) (bounded [] []) →
    next ≡ now ++ a ∷ [] → aside_of a ≡ bounded [] [] → map aside_of next ≡ map aside_of old ++ replicate (count + 1 - used) (bounded [] [])
set_more old now next used count a l h e f =
    let q : count - used + 1 ≡ count + 1 - used = omega arith in
    ap (λ (xs : List Aside). map aside_of xs) e ∙ map-append aside_of now (a ∷ [])
    ∙ ap (λ (x : SetAside). map aside_of now ++ x ∷ []) f
    ∙ ap (λ (xs : List SetAside). xs ++ bounded [] [] ∷ []) h
    ∙ append_assoc (map aside_of old) (replicate (count - used) (bounded [] [])) (bounded [] [] ∷ [])
    ∙ ap (λ (xs : List SetAside). map aside_of old ++ xs) (replicate_more (count - used) (bounded [] []) ∙ ap (λ (m : ℕ). replicate m (bounded [] [])) q)

-- ---- the columns that are used

-- one row more
pub free_taken : (k i j : ℕ) (rows : List DerivedRow) (r : DerivedRow) → j ≡ suc i → i < length rows → r ≡ get_or rows i r → IsFree k (take i rows) → at k r ≡ pos 0 → IsFree k (take j rows)
free_taken k i j rows r q l e h z = subst (λ (m : ℕ). IsFree k (take m rows)) (sym q) (at_next i rows l e h)
  where
    at_next : (i : ℕ) (rows : List DerivedRow) → i < length rows → r ≡ get_or rows i r → IsFree k (take i rows) → IsFree k (take (suc i) rows)
    at_next i [] l e h = absurd (omega arith)
    at_next zero (s ∷ rows) l e h = (subst (λ (q : DerivedRow). at k q ≡ pos 0) e z, tt)
    at_next (suc i) (s ∷ rows) l e h = (h.0, at_next i rows (omega arith) e h.1)

-- all rows
pub free_all : (k i : ℕ) (rows : List DerivedRow) → length rows ≤ i → IsFree k (take i rows) → IsFree k rows
free_all k i [] l h = tt
free_all k zero (r ∷ rows) l h = absurd (omega arith)
free_all k (suc i) (r ∷ rows) l h = (h.0, free_all k i rows (omega arith) h.1)

-- the greater of two numbers
pub greater_is : (a b m : ℕ) → m ≡ ord_max nat_cmp a b → (a ≤ m) × (b ≤ m) × ((n : ℕ) → a ≤ n → b ≤ n → m ≤ n)
greater_is a b m e = (grind (arith, common_steps), grind (arith, common_steps), λ n i j. grind (arith, common_steps))
