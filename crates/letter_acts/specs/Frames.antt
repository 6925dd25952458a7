-- Frames: the columns of a procedure, how they are laid out, and the states of a frame.
use Rattle.std.specs.Prelude.{◌≡◌, ◌⊎◌, ℕ, suc, ℤ, pos, Bool, true, false, not, ◌&&◌, List, [], ◌∷◌, ◌++◌}
use Rattle.std.specs.List.{AllByRecursion}
use Rattle.boogie_tree.specs.declared.tree.Column.{Column}
use Rattle.boogie_tree.specs.declared.tree.Column.TheVariants.{Global, Old, Local}
use Rattle.boogie_tree.specs.declared.tree.VarInfo.{VarInfo}
use Rattle.boogie_tree.specs.declared.tree.Ty.{Ty}
use Rattle.boogie_tree.specs.declared.tree.Ty.TheVariants as types

-- a frame: its columns, and what is known of each
abbrev pub Columns : Type 0
Columns = List (Column × VarInfo)

-- x in front, where the test passed
abbrev pub added : {X : Type 0} → Bool → X → List X → List X
added true x xs = x ∷ xs
added false x xs = xs

-- the columns Global(n), Global(n + 1) and so on
abbrev pub globals_from : ℕ → List VarInfo → Columns
globals_from n [] = []
globals_from n (v ∷ vs) = (Global n, v) ∷ globals_from (suc n) vs

-- the old columns of the globals from number n on that are not constant
abbrev pub old_columns : ℕ → List VarInfo → Columns
old_columns n [] = []
old_columns n (v ∷ vs) = added (not v.constant) (Old n, v) (old_columns (suc n) vs)

-- the columns Local(n), Local(n + 1) and so on
abbrev pub locals_from : ℕ → List VarInfo → Columns
locals_from n [] = []
locals_from n (v ∷ vs) = (Local n, v) ∷ locals_from (suc n) vs

-- the constant ones stand first
abbrev pub ConstantsFirst : List VarInfo → Type 0
ConstantsFirst [] = Unit {0}
ConstantsFirst (v ∷ vs) = (v.constant ≡ false → AllByRecursion (λ w. w.constant ≡ false) vs) × ConstantsFirst vs

-- A frame begins with the constants and globals, then come the old columns of those that are not constant, then the
-- locals, of which the parameters are constant and stand first.
pub record IsFrame (globals : List VarInfo) (frame : Columns) : Type 0 where
  pub locals : List VarInfo
  pub columns : frame ≡ globals_from 0 globals ++ (old_columns 0 globals ++ locals_from 0 locals)
  pub parameters_first : ConstantsFirst locals

abbrev pub is_global_column : Column → Bool
is_global_column (Global n) = true
is_global_column c = false

abbrev pub is_old_column : Column → Bool
is_old_column (Global n) = false
is_old_column (Old n) = true
is_old_column (Local n) = false

abbrev pub is_local_column : Column → Bool
is_local_column (Local n) = true
is_local_column c = false

-- a constant or global
abbrev pub is_global : (Column × VarInfo) → Bool
is_global c = is_global_column c.0

-- a constant
abbrev pub is_fixed_column : (Column × VarInfo) → Bool
is_fixed_column c = is_global_column c.0 && c.1.constant

-- a global that may change
abbrev pub is_variable : (Column × VarInfo) → Bool
is_variable c = is_global_column c.0 && not c.1.constant

-- a parameter, a result or a local
abbrev pub is_local : (Column × VarInfo) → Bool
is_local c = is_local_column c.0

-- a parameter
abbrev pub is_parameter : (Column × VarInfo) → Bool
is_parameter c = is_local_column c.0 && c.1.constant

-- a local that is no parameter; the results come first among them
abbrev pub is_result : (Column × VarInfo) → Bool
is_result c = is_local_column c.0 && not c.1.constant

-- the numbers, from n on, of the members that pass a test
abbrev pub places : {X : Type 0} → (X → Bool) → ℕ → List X → List ℕ
places test n [] = []
places test n (x ∷ xs) = added (test x) n (places test (suc n) xs)

abbrev pub globals_of : Columns → List ℕ
globals_of frame = places is_global 0 frame

abbrev pub constants_of : Columns → List ℕ
constants_of frame = places is_fixed_column 0 frame

abbrev pub variables_of : Columns → List ℕ
variables_of frame = places is_variable 0 frame

abbrev pub result_columns : Columns → List ℕ
result_columns frame = places is_result 0 frame

-- an old column at place n, with the column of its global, in front
abbrev pub old_at : Column → ℕ → List (ℕ × ℕ) → List (ℕ × ℕ)
old_at (Old g) n rest = (n, g) ∷ rest
old_at c n rest = rest

abbrev pub olds_from : ℕ → Columns → List (ℕ × ℕ)
olds_from n [] = []
olds_from n (c ∷ cs) = old_at c.0 n (olds_from (suc n) cs)

-- each old column, and the column of its global: column k is Global(k)
abbrev pub olds_of : Columns → List (ℕ × ℕ)
olds_of frame = olds_from 0 frame

-- a value of a type: of a boolean one 0 or 1
abbrev pub IsValue : Ty → ℤ → Type 0
IsValue types.Int v = Unit {0}
IsValue types.Bool v = (v ≡ pos 0) ⊎ (v ≡ pos 1)

-- a state of a frame: a value for each column
abbrev pub IsState : Columns → List ℤ → Type 0
IsState [] [] = Unit {0}
IsState [] (v ∷ vs) = ⊥
IsState (c ∷ cs) [] = ⊥
IsState (c ∷ cs) (v ∷ vs) = IsValue c.1.ty v × IsState cs vs
