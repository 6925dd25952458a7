-- Systems that are put together piece by piece.
use Rattle.std.specs.Prelude.{◌≡◌, ℕ, ◌+◌, Bool, true, false, not, List, [], ◌∷◌, ◌++◌, map, filter, length}
use Rattle.lin_rows.specs.declared.systems.System.{System}
use Rattle.lin_rows.specs.Rows.{LinearRow}
use Rattle.lin_rows.specs.Negating.{negated}
use Rattle.lin_rows.specs.Systems.{members_of}
use Rattle.letter_acts.specs.Frames.{Columns, constants_of, variables_of, result_columns, olds_of}
use Rattle.letter_acts.specs.Reading.{taken, is_listed}
use Rattle.letter_acts.specs.Invariant.{written_by}
use Rattle.triple_rows.specs.declared.drafts.Draft.{Draft}
use Rattle.triple_rows.specs.Predicates.{Formula, Formulas}
use Rattle.triple_rows.specs.Systems.{PlainSystem, Groups, Members, plain_system, AreGroups, only_rows, after_column, call_column, said, all_said, members_said, denied, all_denied, members_denied}
use Rattle.letter_acts.specs.FrameRows.Rows.{renamed, equal_row}

abbrev pub rows_in : PlainSystem → List LinearRow
rows_in (plain_system rows groups) = rows

abbrev pub groups_in : PlainSystem → Groups
groups_in (plain_system rows groups) = groups

-- the new draft is the old one with the rows and groups of a system behind
pub record Adds (piece : PlainSystem) (old new : Draft) : Type 0 where
  pub rows : new.rows.items ≡ old.rows.items ++ rows_in piece
  pub more : List (List System)
  pub groups : members_of new.groups.items ≡ members_of old.groups.items ++ more
  pub are_groups : AreGroups (groups_in piece) more

-- that a predicate holds, or that it does not
abbrev pub stated : Bool → (ℕ → ℕ) → Formula → PlainSystem
stated true to f = denied to f
stated false to f = said to f

-- of all of some predicates at once, as parts of `and` that hold, or of `or` that do not
abbrev pub all_stated : Bool → (ℕ → ℕ) → Formulas → PlainSystem
all_stated true to fs = all_denied to fs
all_stated false to fs = all_said to fs

-- as members of a group
abbrev pub members_stated : Bool → (ℕ → ℕ) → Formulas → Members
members_stated true to fs = members_denied to fs
members_stated false to fs = members_said to fs

-- the row of an atom, or its negation
abbrev pub stated_row : Bool → (ℕ → ℕ) → LinearRow → LinearRow
stated_row true to r = negated (renamed to r)
stated_row false to r = renamed to r

-- the systems are added one after another
abbrev pub AddsAll : List PlainSystem → Draft → Draft → Type 0
AddsAll [] old new = old ≡ new
AddsAll (s ∷ ss) old new = (mid : Draft) × Adds s old mid × AddsAll ss mid new

-- the rows of a return that come from no predicate and bound nothing, in order
abbrev pub return_ties : Columns → Columns → List LinearRow → List ℕ → List PlainSystem
return_ties caller callee rows targets =
    let m = length callee in
    let n = length caller in
    let written = written_by caller targets in
    let after = after_column m (m + n) written in (
    only_rows (map (λ c. equal_row c (m + c)) (constants_of callee)) ∷
    only_rows (map (λ o. equal_row o.0 (m + o.1)) (olds_of callee)) ∷
    only_rows (map (renamed (call_column m n (length written))) rows) ∷
    only_rows (map (λ g. equal_row (after g) g) (filter (λ g. not (is_listed targets g)) (variables_of caller))) ∷
    only_rows (map (λ p. equal_row (after p.0) p.1) (taken targets (result_columns callee))) ∷
    [])
