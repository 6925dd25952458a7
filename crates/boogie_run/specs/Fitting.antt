-- When each value that a step reads fits.
use Rattle.std.specs.Prelude.{Bool, true, false, ◌||◌, neg_ℤ, List, length, Option, None, Some, slice_get, nat_lt}
use Rattle.std.specs.List.{AllByRecursion}
use Rattle.math_facts.specs.Fits.{Fits}
use Rattle.boogie_tree.specs.declared.tree.Column.{Column}
use Rattle.boogie_tree.specs.declared.tree.Column.TheVariants as columns
use Rattle.typed_tree.specs.TypedTree.{TypedExpression, Lit, Truth, Var, Old, Not, Neg, Bin, TypedProgram}
use Rattle.typed_tree.specs.Values.{State, member, at_entry, value, operation_value, PartsFit}
use Rattle.boogie_run.specs.BoogiePoints.Actions.{Action, Check, Suppose, Demand, Write, Guess, Test, Pick, Jump, Enter, Keep, Grant, Finish, Leave, action_at}
use Rattle.boogie_run.specs.Configurations.{Config, state_of}
use Rattle.boogie_run.specs.Needs.{locals_at}
use Rattle.boogie_run.specs.Steps.{passed_state, granted_state}

-- the value of each part of each of these expressions fits
abbrev pub AllFit : State → List TypedExpression → Type 0
AllFit s es = AllByRecursion (PartsFit s) es

-- the values of an argument's parts fit
abbrev pub ArgumentFits : State → Option TypedExpression → Type 0
ArgumentFits s None = Unit {0}
ArgumentFits s (Some e) = PartsFit s e

abbrev pub PassedColumnFits : State → List TypedExpression → State → Column → Type 0
PassedColumnFits s args p (columns.Global n) = Fits (member p.globals n)
PassedColumnFits s args p (columns.Old n) = Fits (member p.old n)
PassedColumnFits s args p (columns.Local n) = ArgumentFits s (slice_get args n)

-- The value of each part fits, read in the state p, with the argument, read in the state s, in place of each parameter that stands in it.
abbrev pub PassedPartsFit : State → List TypedExpression → State → TypedExpression → Type 0
PassedPartsFit s args p (Lit at n) = Fits n
PassedPartsFit s args p (Truth at b) = Unit {0}
PassedPartsFit s args p (Var at x) = PassedColumnFits s args p x
PassedPartsFit s args p (Old at e) = PassedPartsFit s args (at_entry p) e
PassedPartsFit s args p (Not at e) = PassedPartsFit s args p e
PassedPartsFit s args p (Neg at e) = PassedPartsFit s args p e × Fits (neg_ℤ (value p e))
PassedPartsFit s args p (Bin at op a b) =
    PassedPartsFit s args p a × PassedPartsFit s args p b × Fits (operation_value op (value p a) (value p b))

-- The value of each part of a requires of a called procedure fits.
abbrev pub PassedFit : State → List TypedExpression → TypedExpression → Type 0
PassedFit s args e = PassedPartsFit s args (passed_state s args) e

-- The values that an action reads fit. Arguments are taken by the first step behind the requires; they do not change before the last.
abbrev pub ActionFits : TypedProgram → Config → Action → Type 0
ActionFits t c (Check id at e next) = PartsFit (state_of c) e
ActionFits t c (Suppose e next) = PartsFit (state_of c) e
ActionFits t c (Demand id at e args next) = PassedFit (state_of c) args e
ActionFits t c (Write cs es next) = AllFit (state_of c) es
ActionFits t c (Guess x next) = Unit {0}
ActionFits t c (Test e hit miss) = PartsFit (state_of c) e
ActionFits t c (Pick ways) = Unit {0}
ActionFits t c (Jump next) = Unit {0}
ActionFits t c (Enter f args) = AllFit (state_of c) args
ActionFits t c (Keep f args x next) = AllFit (state_of c) args
ActionFits t c (Grant f args e next) = AllFit (state_of c) args × PartsFit (granted_state t c f args) e
ActionFits t c (Finish f args targets next) = AllFit (state_of c) args
ActionFits t c Leave = Unit {0}

-- a constant, a global or a local is still to be chosen
abbrev pub is_choosing : TypedProgram → Config → Bool
is_choosing t c = nat_lt (length c.globals) (length t.globals) || nat_lt (length c.top.locals) (length (locals_at t c.top.proc))

abbrev pub Unless : Bool → Type 0 → Type 0
Unless true fits = Unit {0}
Unless false fits = fits

-- those of the next step; a choice of a constant, a global or a local reads none
abbrev pub NextFits : TypedProgram → Config → Type 0
NextFits t c = Unless (is_choosing t c) (ActionFits t c (action_at t c.top.proc c.top.point))
