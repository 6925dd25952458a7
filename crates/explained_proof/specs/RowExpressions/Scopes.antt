-- Where a fact is to be said, and what its columns are called there.
use Rattle.std.specs.Prelude.{ℕ, ◌+◌, Bool, true, false, ◌&&◌, ◌||◌, not, nat_lt, nat_le, nat_eq, List, ◌++◌, length, Option, None, Some, is_some, codes, slice_get, slice_index, if◌then◌else◌}
use Rattle.std.specs.List.{list_any}
use Rattle.std.specs.Option.{option_map, option_and_then}
use Rattle.std.specs.Str.{bytes_eq}
use Rattle.boogie_tree.specs.declared.tree.Column.{Column}
use Rattle.boogie_tree.specs.declared.tree.Column.TheVariants as columns
use Rattle.boogie_tree.specs.declared.tree.VarInfo.{VarInfo}
use Rattle.boogie_tree.specs.declared.tree.Ty.{Ty}
use Rattle.boogie_tree.specs.declared.tree.Ty.TheVariants as types
use Rattle.boogie_tree.specs.Tree.{Expression}
use Rattle.explained_proof.specs.BuiltExpressions.Building.{variable, old_of}
use Rattle.explained_proof.specs.declared.row_expressions.scopes.Position.{Position}
use Rattle.explained_proof.specs.declared.row_expressions.scopes.Position.TheVariants.{Requires, Ensures, Body}
use Rattle.explained_proof.specs.declared.row_expressions.scopes.Voice.{Voice}
use Rattle.explained_proof.specs.declared.row_expressions.scopes.Voice.TheVariants.{Plain, InOld}
use Rattle.explained_proof.specs.RowExpressions.Options.{passes}

pub record ClauseScope : Type 0 where
  pub frame : List (Column × VarInfo)
  -- how many parameters and results come first among the locals
  pub params : ℕ
  pub results : ℕ
  -- in a `requires`, in an `ensures`, in an `invariant` or an `assert`
  pub position : Position
  -- Whether the fact is a premise, about the entry of the frame. What cannot be said is false there, and elsewhere true.
  pub premise : Bool

-- No program has a local of that name: it begins with `h:`.
abbrev pub is_hidden_name : List ℕ → Bool
is_hidden_name name = nat_le 2 (length name) && (nat_eq (slice_index name 0) 104 && nat_eq (slice_index name 1) 58)

-- the local of that number and name is seen
abbrev pub sees_at : Position → ClauseScope → ℕ → List ℕ → Bool
sees_at Requires s n name = nat_lt n s.params
sees_at Ensures s n name = nat_lt n (s.params + s.results)
sees_at Body s n name = not (is_hidden_name name)

abbrev pub sees : ClauseScope → ℕ → List ℕ → Bool
sees s n name = sees_at s.position s n name

-- a local keeps the value that it has at the entry, where that is asked
abbrev pub stays : ClauseScope → ℕ → Bool
stays s n = not s.premise || nat_lt n s.params

abbrev pub is_seen_local : ClauseScope → List ℕ → Column × VarInfo → Bool
is_seen_local s name (columns.Global n, v) = false
is_seen_local s name (columns.Old n, v) = false
is_seen_local s name (columns.Local n, v) = bytes_eq v.name name && sees s n name

-- a local that is seen has the name of a global
abbrev pub hides : ClauseScope → List ℕ → Bool
hides s name = list_any (is_seen_local s name) s.frame

abbrev pub is_requires : Position → Bool
is_requires Requires = true
is_requires Ensures = false
is_requires Body = false

-- the fact is about the entry of the frame, where the globals have their old values
abbrev pub is_of_entry : ClauseScope → Bool
is_of_entry s = s.premise || is_requires s.position

-- What a global had at the entry is called by its name in premises and in `requires`, which speak of the entry.
abbrev pub voice_of_old : ClauseScope → Voice
voice_of_old s = if is_of_entry s then Plain else InOld

-- how a column is called; none where it cannot be said
abbrev pub voice : ClauseScope → Column × VarInfo → Option Voice
voice s (columns.Local n, v) = if sees s n v.name && stays s n then Some Plain else None
voice s (columns.Global n, v) = if hides s v.name then None else Some Plain
voice s (columns.Old n, v) = if hides s v.name then None else Some (voice_of_old s)

-- the variable of that name, or its value at the entry
abbrev pub spoken : List ℕ → Voice → Expression
spoken name Plain = variable name
spoken name InOld = old_of (variable name)

-- a column as an expression; none where it cannot be said
abbrev pub column_said : ClauseScope → Column × VarInfo → Option Expression
column_said s c = option_map (spoken c.1.name) (voice s c)

abbrev pub said : ClauseScope → ℕ → Option Expression
said s n = option_and_then (column_said s) (slice_get s.frame n)

abbrev pub can_say : ClauseScope → ℕ → Bool
can_say s n = passes (λ c. is_some (voice s c)) (slice_get s.frame n)

abbrev pub is_boolean : Ty → Bool
is_boolean types.Int = false
is_boolean types.Bool = true

abbrev pub has_truth : Column × VarInfo → Bool
has_truth c = is_boolean c.1.ty

-- the column is boolean
abbrev pub is_truth : ClauseScope → ℕ → Bool
is_truth s n = passes has_truth (slice_get s.frame n)

abbrev pub changes : Column × VarInfo → Bool
changes (columns.Global n, v) = not v.constant
changes (columns.Old n, v) = true
changes (columns.Local n, v) = false

-- the column is a global that may change, or what one had at the entry
abbrev pub may_change : ClauseScope → ℕ → Bool
may_change s n = passes changes (slice_get s.frame n)

abbrev pub opening : Voice → List ℕ
opening Plain = codes "(if "
opening InOld = codes "(if old("

abbrev pub closing : Voice → List ℕ
closing Plain = codes " then 1 else 0)"
closing InOld = codes ") then 1 else 0)"

-- the text of the number that a boolean column stands for, for which our language has no word
abbrev pub number_text : List ℕ → Voice → List ℕ
number_text name v = (opening v ++ name) ++ closing v

abbrev pub number_spoken : VarInfo → Voice → Expression
number_spoken i v = if is_boolean i.ty then variable (number_text i.name v) else spoken i.name v

-- the number that a column stands for; none where it cannot be said
abbrev pub column_number : ClauseScope → Column × VarInfo → Option Expression
column_number s c = option_map (number_spoken c.1) (voice s c)

abbrev pub number_said : ClauseScope → ℕ → Option Expression
number_said s n = option_and_then (column_number s) (slice_get s.frame n)

abbrev pub entry_named : ℕ → Option (Column × VarInfo) → ℕ
entry_named n None = n
entry_named n (Some (columns.Old g, v)) = g
entry_named n (Some (columns.Global g, v)) = n
entry_named n (Some (columns.Local l, v)) = n

-- The column by which one is called there: what a global had is the global. The constants and globals are the first columns of a frame.
abbrev pub entry_column : ClauseScope → ℕ → ℕ
entry_column s n = entry_named n (slice_get s.frame n)
