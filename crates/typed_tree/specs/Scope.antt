-- Which variables are seen at a place.
use Rattle.std.specs.Prelude.{Bool, true, false, ◌||◌, List, [], Option, None, Some, if◌then◌else◌, option_and_then, slice_get}
use Rattle.boogie_tree.specs.declared.tree.Column.{Column}
use Rattle.boogie_tree.specs.declared.tree.Column.TheVariants as columns
use Rattle.boogie_tree.specs.declared.tree.VarInfo.{VarInfo}
use Rattle.typed_tree.specs.declared.scope.Scope as code

-- What is seen: the constants and globals, of which the globals may be hidden from view, the locals, and whether `old` may stand.
pub record Scope : Type 0 where
  pub globals : List VarInfo
  pub variables : Bool
  pub locals : List VarInfo
  pub old : Bool

-- axioms see constants
abbrev pub axiom_scope : List VarInfo → Scope
axiom_scope globals = record { globals = globals; variables = false; locals = []; old = false }

-- requires see globals and parameters
abbrev pub requires_scope : List VarInfo → List VarInfo → Scope
requires_scope globals params = record { globals = globals; variables = true; locals = params; old = false }

-- ensures see results too; bodies see all locals
abbrev pub body_scope : List VarInfo → List VarInfo → Scope
body_scope globals locals = record { globals = globals; variables = true; locals = locals; old = true }

-- the variable, unless it may not be seen
abbrev pub unless_hidden : Bool → VarInfo → Option VarInfo
unless_hidden variables v = if variables || v.constant then Some v else None

-- what stands in a column; nothing where it is not seen
abbrev pub variable_at : Scope → Column → Option VarInfo
variable_at s (columns.Global n) = option_and_then (unless_hidden s.variables) (slice_get s.globals n)
variable_at s (columns.Old n) = None
variable_at s (columns.Local n) = slice_get s.locals n

abbrev pub is_constant_variable : Option VarInfo → Bool
is_constant_variable None = false
is_constant_variable (Some v) = v.constant

-- whether the column is that of a constant
abbrev pub is_constant_column : List VarInfo → Column → Bool
is_constant_column globals (columns.Global n) = is_constant_variable (slice_get globals n)
is_constant_column globals c = false

-- the columns of constants
abbrev pub fixed : Scope → Column → Bool
fixed s = is_constant_column s.globals

-- the scope of the code
abbrev pub seen : code.Scope → Scope
seen s = record { globals = s.globals.now; variables = s.variables; locals = s.locals.now; old = s.old }
