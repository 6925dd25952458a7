-- What is told of a step behind its line: what it reads, which way it takes, and what it chooses and changes.
use Rattle.std.specs.Prelude.{ℕ, ◌+◌, zero, suc, ℤ, Bool, true, false, nat_eq, nat_lt, unsigned_abs, List, [], ◌∷◌, ◌++◌, map, length, Option, None, Some, slice_get, codes, if◌then◌else◌}
use Rattle.std.specs.List.{flat_map, list_any}
use Rattle.std.specs.Fmt.{signed_decimal}
use Rattle.boogie_tree.specs.declared.span.Span.{Span}
use Rattle.boogie_tree.specs.declared.tree.Ty.{Ty}
use Rattle.boogie_tree.specs.declared.tree.Ty.TheVariants as types
use Rattle.boogie_tree.specs.declared.tree.VarInfo.{VarInfo}
use Rattle.boogie_tree.specs.declared.tree.Column.{Column}
use Rattle.boogie_tree.specs.declared.tree.Column.TheVariants as columns
use Rattle.boogie_tree.specs.Printing.{truth_text}
use Rattle.boogie_tree.specs.Tree.{Declaration}
use Rattle.typed_tree.specs.TypedTree.{TypedExpression, Lit, Truth, Var, Old, Not, Neg, Bin, TypedProcedure, TypedProgram}
use Rattle.typed_tree.specs.Values.{value, column_value}
use Rattle.boogie_run.specs.BoogiePoints.Sites.{clause_at}
use Rattle.boogie_run.specs.BoogiePoints.Starts.{targets_at}
use Rattle.boogie_run.specs.BoogiePoints.Actions.{action_at}
use Rattle.boogie_run.specs.BoogiePoints.Told.{Told, Check, Suppose, Demand, Write, Guess, Test, Pick, Jump, Enter, Keep, Grant, Finish, Leave, told}
use Rattle.boogie_run.specs.Configurations.{Frame, Config, state_of}
use Rattle.boogie_run.specs.Needs.{locals_at}
use Rattle.boogie_run.specs.Fitting.{is_choosing}
use Rattle.boogie_run.specs.Steps.{is_true, modifies_of}
use Rattle.explain_top.specs.RunStory.Items.{Item}
use Rattle.explain_top.specs.RunStory.Sites.{item_at}

-- ---- values

abbrev pub value_text : Ty → ℤ → List ℕ
value_text types.Int z = signed_decimal z
value_text types.Bool z = truth_text (is_true z)

abbrev pub variable_note : Option VarInfo → ℤ → List ℕ
variable_note None z = signed_decimal z
variable_note (Some v) z = v.name ++ (codes " = " ++ value_text v.ty z)

abbrev pub old_note : Option VarInfo → ℤ → List ℕ
old_note None z = signed_decimal z
old_note (Some v) z = codes "old(" ++ (v.name ++ (codes ") = " ++ value_text v.ty z))

-- a column of procedure p with a value
abbrev pub note : TypedProgram → ℕ → Column → ℤ → List ℕ
note t p (columns.Global n) z = variable_note (slice_get t.globals n) z
note t p (columns.Old n) z = old_note (slice_get t.globals n) z
note t p (columns.Local n) z = variable_note (slice_get (locals_at t p) n) z

-- columns with the values that they have in the frame that runs
abbrev pub held : TypedProgram → Config → List Column → List (List ℕ)
held t c xs = map (λ x. note t c.top.proc x (column_value (state_of c) x)) xs

-- ---- what expressions read

abbrev pub column_read : Bool → Column → Column
column_read true (columns.Global n) = columns.Old n
column_read true (columns.Old n) = columns.Old n
column_read true (columns.Local n) = columns.Local n
column_read false x = x

-- the columns that are read, in order, inside `old` or not
abbrev pub columns_in : Bool → TypedExpression → List Column
columns_in old (Lit at n) = []
columns_in old (Truth at b) = []
columns_in old (Var at x) = column_read old x ∷ []
columns_in old (Old at e) = columns_in true e
columns_in old (Not at e) = columns_in old e
columns_in old (Neg at e) = columns_in old e
columns_in old (Bin at op a b) = columns_in old a ++ columns_in old b

abbrev pub same_column : Column → Column → Bool
same_column (columns.Global n) (columns.Global m) = nat_eq n m
same_column (columns.Old n) (columns.Old m) = nat_eq n m
same_column (columns.Local n) (columns.Local m) = nat_eq n m
same_column x y = false

-- the columns of the first list, and behind them those of the second, each once, where it stands first
abbrev pub once : List Column → List Column → List Column
once seen [] = seen
once seen (x ∷ xs) = once (if list_any (same_column x) seen then seen else seen ++ x ∷ []) xs

abbrev pub readings : TypedProgram → Config → List TypedExpression → List (List ℕ)
readings t c es = held t c (once [] (flat_map (columns_in false) es))

-- ---- before a step

abbrev pub clause_text : List Declaration → Option Span → List (List ℕ)
clause_text ds None = []
clause_text ds (Some at) = (item_at ds at).text ∷ []

abbrev pub way_taken : Option (List ℕ) → List (List ℕ)
way_taken None = []
way_taken (Some name) = name ∷ []

-- way n of those of the item
abbrev pub way : Item → ℕ → List (List ℕ)
way i n = way_taken (slice_get i.ways n)

-- what is read, the clause of the called procedure that is asserted or assumed, and the way that is taken
abbrev pub read_by : TypedProgram → List Declaration → Item → Config → ℤ → Told → List (List ℕ)
read_by t ds i c v (Check id at e) = readings t c (e ∷ [])
read_by t ds i c v (Suppose e) = readings t c (e ∷ [])
read_by t ds i c v (Demand id at e args) = clause_text ds (clause_at t c.top.point) ++ readings t c args
read_by t ds i c v (Write xs es) = []
read_by t ds i c v (Guess x) = []
read_by t ds i c v (Test e) = readings t c (e ∷ []) ++ way i (if is_true (value (state_of c) e) then 0 else 1)
read_by t ds i c v (Pick ways) = way i (unsigned_abs v)
read_by t ds i c v Jump = []
read_by t ds i c v (Enter f args) = []
read_by t ds i c v (Keep f args x) = note t f x v ∷ []
read_by t ds i c v (Grant f args e) = clause_text ds (clause_at t c.top.point)
read_by t ds i c v (Finish f args targets) = []
read_by t ds i c v Leave = []

-- First the constants and globals are chosen, then the locals that the frame has not.
abbrev pub notes_before : TypedProgram → List Declaration → Item → Config → ℤ → List (List ℕ)
notes_before t ds i c v =
    if nat_lt (length c.globals) (length t.globals) then note t c.top.proc (columns.Global (length c.globals)) v ∷ []
    else (if nat_lt (length c.top.locals) (length (locals_at t c.top.proc)) then note t c.top.proc (columns.Local (length c.top.locals)) v ∷ []
    else read_by t ds i c v (told (action_at t c.top.proc c.top.point)))

-- ---- behind a step

abbrev pub first_locals : ℕ → ℕ → List Column
first_locals n zero = []
first_locals n (suc k) = columns.Local n ∷ first_locals (n + 1) k

abbrev pub parameters : Option TypedProcedure → List Column
parameters None = []
parameters (Some q) = first_locals 0 q.params

abbrev pub targets_below : List Frame → List Column
targets_below [] = []
targets_below (f ∷ fs) = targets_at f.point.todo

-- the columns that a step from c changes, in the frame in which it goes on
abbrev pub changed_by : TypedProgram → Config → Told → List Column
changed_by t c (Write xs es) = xs
changed_by t c (Guess x) = x ∷ []
changed_by t c (Enter f args) = parameters (slice_get t.procs f)
changed_by t c (Finish f args targets) = map columns.Global (modifies_of (slice_get t.procs f)) ++ targets
changed_by t c Leave = targets_below c.below
changed_by t c a = []

abbrev pub changes : TypedProgram → Config → List Column
changes t c = if is_choosing t c then [] else changed_by t c (told (action_at t c.top.proc c.top.point))

-- ---- a step

-- of a step that stands at this item and leads from c to d, with its choice as a number
abbrev pub notes : TypedProgram → List Declaration → Item → Config → ℤ → Config → List (List ℕ)
notes t ds i c v d = notes_before t ds i c v ++ held t d (changes t c)
