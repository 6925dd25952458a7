-- Conditions of called procedures, read at the caller: arguments stand for parameters.
use Rattle.std.specs.Prelude.{ℕ, ℤ, pos, Bool, false, List, ◌++◌, map, Option, None, Some, slice_get}
use Rattle.std.specs.Option.{option_map}
use Rattle.boogie_tree.specs.declared.tree.Ty.{Ty}
use Rattle.boogie_tree.specs.declared.tree.Column.{Column}
use Rattle.boogie_tree.specs.declared.tree.Column.TheVariants as columns
use Rattle.typed_tree.specs.TypedTree.{TypedExpression}
use Rattle.typed_tree.specs.Values.{State, value}
use Rattle.cond_jumps.specs.Conjunctions.{Plan, Just}
use Rattle.cond_jumps.specs.Forms.{Linears, linear_number, column}
use Rattle.cond_jumps.specs.Comparisons.{no_jumps, truth_of_column}
use Rattle.cond_jumps.specs.Environments.{Environment, type_in}
use Rattle.cond_jumps.specs.Paths.{linear, paths}

-- what stands for a column: another column of an environment, a column by its number, with its type, or an expression
pub data Standing : Type 0 where
  Same : Column → Standing
  Numbered : ℕ → Ty → Standing
  Passed : TypedExpression → Standing

abbrev pub standing_type : Environment → Option Standing → Option Ty
standing_type v None = None
standing_type v (Some (Same c)) = v.type c
standing_type v (Some (Numbered c t)) = Some t
standing_type v (Some (Passed e)) = type_in v false e

abbrev pub standing_sum : Environment → Option Standing → Linears
standing_sum v None = linear_number (pos 0)
standing_sum v (Some (Same c)) = v.sum c
standing_sum v (Some (Numbered c t)) = column c
standing_sum v (Some (Passed e)) = linear v false e

abbrev pub standing_plan : Environment → Option Standing → Bool → Plan
standing_plan v None want = Just no_jumps
standing_plan v (Some (Same c)) want = v.plan c want
standing_plan v (Some (Numbered c t)) want = Just (truth_of_column c want)
standing_plan v (Some (Passed e)) want = paths v false e want

-- the environment in which these stand for the columns
abbrev pub standing_environment : Environment → (Column → Option Standing) → Environment
standing_environment v stands =
    record { type = λ c. standing_type v (stands c); fixed = v.fixed; sum = λ c. standing_sum v (stands c); plan = λ c. standing_plan v (stands c) }

-- a requires of a called procedure: its parameters are the arguments
abbrev pub passed : List TypedExpression → Column → Option Standing
passed args (columns.Global n) = Some (Same (columns.Global n))
passed args (columns.Old n) = Some (Same (columns.Old n))
passed args (columns.Local n) = option_map Passed (slice_get args n)

-- and their values are those of the arguments
abbrev pub passed_state : State → List TypedExpression → State
passed_state s args = record { globals = s.globals; old = s.old; locals = map (value s) args }

-- the global itself, or the column in which a call without body leaves it
abbrev pub left_in : ℕ → Option (ℕ × Ty) → Standing
left_in n None = Same (columns.Global n)
left_in n (Some x) = Numbered x.0 x.1

-- the arguments, and then the columns of the results
abbrev pub passed_locals : List TypedExpression → List (ℕ × Ty) → List Standing
passed_locals args results = map Passed args ++ map (λ r. Numbered r.0 r.1) results

-- An ensures of a called procedure without body: a global that it may write stands in a new column, each old value is the
-- value before the call, the parameters are the arguments, and the results stand in new columns.
abbrev pub imported : (ℕ → Option (ℕ × Ty)) → List TypedExpression → List (ℕ × Ty) → Column → Option Standing
imported written args results (columns.Global n) = Some (left_in n (written n))
imported written args results (columns.Old n) = Some (Same (columns.Global n))
imported written args results (columns.Local n) = slice_get (passed_locals args results) n

-- the state that such an ensures is about
abbrev pub imported_state : State → List ℤ → List TypedExpression → List ℤ → State
imported_state s globals args results = record { globals = globals; old = s.globals; locals = map (value s) args ++ results }
