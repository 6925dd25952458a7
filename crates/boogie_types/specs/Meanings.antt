-- Which column a name means at a place.
use Rattle.std.specs.Prelude.{ℕ, ◌+◌, Bool, List, [], ◌∷◌, Option, None, Some, if◌then◌else◌, option_and_then}
use Rattle.std.specs.Option.{option_map, option_or}
use Rattle.std.specs.Str.{bytes_eq}
use Rattle.boogie_tree.specs.declared.tree.Vary.{Vary}
use Rattle.boogie_tree.specs.declared.tree.Column.{Column}
use Rattle.boogie_tree.specs.declared.tree.Column.TheVariants as columns
use Rattle.boogie_tree.specs.declared.tree.VarInfo.{VarInfo}
use Rattle.typed_tree.specs.Scope.{Scope, variable_at}

abbrev pub variable_info : Bool → Vary → VarInfo
variable_info constant v = record { name = v.name.text; ty = v.ty; constant = constant }

-- the number of the variable with that name, counted from n
abbrev pub number_from : ℕ → List ℕ → List VarInfo → Option ℕ
number_from n name [] = None
number_from n name (v ∷ vs) = if bytes_eq name v.name then Some n else number_from (n + 1) name vs

-- the column, where it is seen
abbrev pub if_seen : Scope → Column → Option Column
if_seen s c = option_map (λ v. c) (variable_at s c)

-- the column of a constant or global, where it is seen
abbrev pub if_visible : Scope → ℕ → Option Column
if_visible s n = if_seen s (columns.Global n)

-- the column that a name means: a local that is seen hides a global
abbrev pub column_of : Scope → List ℕ → Option Column
column_of s name =
    option_or (option_map columns.Local (number_from 0 name s.locals))
    (option_and_then (if_visible s) (number_from 0 name s.globals))
