-- What is known of the act and the predicates of a triple whose system is made.
use Rattle.std.specs.Prelude.{ℕ, ◌+◌, ◌<◌, List, length, ◌⊎◌}
use Rattle.std.specs.List.{AllByRecursion}
use Rattle.math_facts.specs.Terms.{IsBelow}
use Rattle.lin_rows.specs.Rows.{LinearRow}
use Rattle.nwa_base.specs.Members.{Member}
use Rattle.letter_acts.specs.Frames.{Columns, globals_of, constants_of, variables_of, result_columns, olds_of}
use Rattle.letter_acts.specs.Reading.{taken}
use Rattle.letter_acts.specs.Invariant.{AreDistinct, inside_width, call_width, written_by}
use Rattle.triple_rows.specs.Predicates.{Formula, IsOver, HasInequalities}
use Rattle.triple_rows.specs.Systems.{after_column, call_column}
use Rattle.triple_rows.specs.Ties.Tables.{IsTable}

-- what is known of an inside act and of the predicates before and after it
pub record InsideIsRead (frame : Columns) (written : List ℕ) (helpers : ℕ) (rows : List LinearRow) (from to : Formula) : Type 0 where
  pub distinct : AreDistinct written
  pub exist : AllByRecursion (λ c. c < length frame) written
  pub rows_within : AllByRecursion (λ r. IsBelow (inside_width frame written helpers) r.terms) rows
  pub from_over : IsOver (length frame) from
  pub to_over : IsOver (length frame) to
  pub inequalities : HasInequalities to

-- what is known of a call act and of the predicates before and after it
pub record CallIsRead (caller callee : Columns) (helpers : ℕ) (rows : List LinearRow) (from to : Formula) : Type 0 where
  pub globals_within : AllByRecursion (λ c. (c < length callee) × (c < length caller)) (globals_of callee)
  pub olds_within : AllByRecursion (λ o. (o.0 < length callee) × (o.1 < length caller)) (olds_of callee)
  pub rows_within : AllByRecursion (λ r. IsBelow (call_width caller callee helpers) r.terms) rows
  pub from_over : IsOver (length caller) from
  pub to_over : IsOver (length callee) to
  pub inequalities : HasInequalities to

-- the columns that a return ties exist
pub record TiesAreWithin (caller callee : Columns) (targets : List ℕ) : Type 0 where
  pub constants : AllByRecursion (λ c. (c < length callee) × (c < length caller)) (constants_of callee)
  pub olds : AllByRecursion (λ o. (o.0 < length callee) × (o.1 < length caller)) (olds_of callee)
  pub variables : AllByRecursion (λ g. (g < length caller) × (g < length callee)) (variables_of caller)
  pub taken : AllByRecursion (λ p. (p.0 < length caller) × (p.1 < length callee)) (taken targets (result_columns callee))

-- what is known of a return act, of its call, and of the predicates
pub record BackIsRead (caller callee : Columns) (helpers : ℕ) (rows : List LinearRow) (targets : List ℕ) (exit before to : Formula) : Type 0 where
  pub ties : TiesAreWithin caller callee targets
  pub distinct : AreDistinct (written_by caller targets)
  pub exist : AllByRecursion (λ c. c < length caller) (written_by caller targets)
  pub variables_written : (c : ℕ) → Member (variables_of caller) c → Member (written_by caller targets) c
  pub targets_written : (c : ℕ) → Member targets c → Member (written_by caller targets) c
  pub written_are : (c : ℕ) → Member (written_by caller targets) c → Member (variables_of caller) c ⊎ Member targets c
  pub rows_within : AllByRecursion (λ r. IsBelow (call_width caller callee helpers) r.terms) rows
  pub exit_over : IsOver (length callee) exit
  pub before_over : IsOver (length caller) before
  pub to_over : IsOver (length caller) to

-- the tables of the columns of a return: the exit's, those before the call, those after the return, and those of the call's rows
pub record AreReturnTables (caller callee : Columns) (written at_exit at_call at_end in_rows : List ℕ) : Type 0 where
  pub exit : IsTable (length callee) (λ c. c) at_exit
  pub call : IsTable (length caller) (λ c. length callee + c) at_call
  pub end : IsTable (length caller) (after_column (length callee) (length callee + length caller) written) at_end
  pub rows : IsTable (length in_rows) (call_column (length callee) (length caller) (length written)) in_rows
