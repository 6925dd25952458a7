-- What letters allow, read column by column.
use Rattle.std.specs.Prelude.{◌≡◌, ℕ, ℤ, Bool, false, nat_eq, ◌||◌, List, [], ◌∷◌, ◌++◌}
use Rattle.std.specs.List.{AllByRecursion}
use Rattle.lin_rows.specs.Rows.{LinearRow}
use Rattle.lin_rows.specs.Points.{point_of}
use Rattle.nwa_base.specs.Members.{Member}
use Rattle.letter_acts.specs.Frames.{Columns, IsState, globals_of, constants_of, variables_of, result_columns, olds_of}
use Rattle.letter_acts.specs.Values.{picked, RowsHold}

-- the states agree outside the written columns, and with some helpers the rows hold
pub record InsideReads (frame : Columns) (written : List ℕ) (helpers : ℕ) (rows : List LinearRow) (s t : List ℤ) : Type 0 where
  pub before : IsState frame s
  pub after : IsState frame t
  pub others : (c : ℕ) → (Member written c → ⊥) → point_of t c ≡ point_of s c
  pub rows_hold : RowsHold (s ++ picked t written) helpers rows

-- the callee's constants and globals equal the caller's, its old columns equal the caller's globals, and the rows hold
-- with some helpers
pub record CallReads (caller callee : Columns) (helpers : ℕ) (rows : List LinearRow) (s t : List ℤ) : Type 0 where
  pub before : IsState caller s
  pub after : IsState callee t
  pub globals : AllByRecursion (λ c. point_of t c ≡ point_of s c) (globals_of callee)
  pub olds : AllByRecursion (λ o. point_of t o.0 ≡ point_of s o.1) (olds_of callee)
  pub rows_hold : RowsHold (s ++ t) helpers rows

-- the number stands in the list
abbrev pub is_listed : List ℕ → ℕ → Bool
is_listed [] c = false
is_listed (d ∷ ds) c = nat_eq d c || is_listed ds c

-- each target with the callee's column that it takes
abbrev pub taken : List ℕ → List ℕ → List (ℕ × ℕ)
taken [] results = []
taken (t ∷ ts) [] = []
taken (t ∷ ts) (r ∷ rs) = (t, r) ∷ taken ts rs

-- The exit's constants and old columns equal the constants and globals of before; the call's rows hold with some helpers
-- between before and the exit; each global of after that is no target is that of the exit; each target is the result in
-- its place; all else is as before.
pub record BackReads (caller callee : Columns) (helpers : ℕ) (rows : List LinearRow) (targets : List ℕ) (exit before after : List ℤ) : Type 0 where
  pub at_exit : IsState callee exit
  pub at_call : IsState caller before
  pub at_end : IsState caller after
  pub constants : AllByRecursion (λ c. point_of exit c ≡ point_of before c) (constants_of callee)
  pub olds : AllByRecursion (λ o. point_of exit o.0 ≡ point_of before o.1) (olds_of callee)
  pub rows_hold : RowsHold (before ++ exit) helpers rows
  pub globals : AllByRecursion (λ g. (Member targets g → ⊥) → point_of after g ≡ point_of exit g) (variables_of caller)
  pub results : AllByRecursion (λ p. point_of after p.0 ≡ point_of exit p.1) (taken targets (result_columns callee))
  pub others : (c : ℕ) → (Member (variables_of caller) c → ⊥) → (Member targets c → ⊥) → point_of after c ≡ point_of before c
