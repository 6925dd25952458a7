-- What the next step of a configuration takes.
use Rattle.std.specs.Prelude.{ℕ, ℤ, pos, negsuc, Bool, true, false, not, nat_lt, List, [], length, Option, None, Some, slice_get, if◌then◌else◌}
use Rattle.boogie_tree.specs.declared.tree.Ty.{Ty}
use Rattle.boogie_tree.specs.declared.tree.Ty.TheVariants as types
use Rattle.boogie_tree.specs.declared.tree.Column.{Column}
use Rattle.boogie_tree.specs.declared.tree.Column.TheVariants as columns
use Rattle.boogie_tree.specs.declared.tree.VarInfo.{VarInfo}
use Rattle.typed_tree.specs.TypedTree.{TypedProcedure, TypedProgram}
use Rattle.boogie_run.specs.BoogiePoints.Actions.{Action, Guess, Pick, Keep, action_at}
use Rattle.boogie_run.specs.Configurations.{Config}

-- nothing, a whole number, 0 or 1, or a number below n
pub data Need : Type 0 where
  Nothing : Need
  Whole : Need
  Truth : Need
  Below : ℕ → Need

abbrev pub need_of_type : Ty → Need
need_of_type types.Int = Whole
need_of_type types.Bool = Truth

-- a value of that variable; a whole number where there is none
abbrev pub need_of : Option VarInfo → Need
need_of None = Whole
need_of (Some v) = need_of_type v.ty

abbrev pub locals_if_any : Option TypedProcedure → List VarInfo
locals_if_any None = []
locals_if_any (Some q) = q.locals

-- the locals of procedure n
abbrev pub locals_at : TypedProgram → ℕ → List VarInfo
locals_at t n = locals_if_any (slice_get t.procs n)

abbrev pub need_of_column : List VarInfo → List VarInfo → Column → Need
need_of_column globals locals (columns.Global n) = need_of (slice_get globals n)
need_of_column globals locals (columns.Old n) = need_of (slice_get globals n)
need_of_column globals locals (columns.Local n) = need_of (slice_get locals n)

-- of an action of procedure n; a call without body chooses results of the procedure that it calls
abbrev pub need_of_action : TypedProgram → ℕ → Action → Need
need_of_action t n (Guess c next) = need_of_column t.globals (locals_at t n) c
need_of_action t n (Pick ways) = Below (length ways)
need_of_action t n (Keep f args c next) = need_of_column t.globals (locals_at t f) c
need_of_action t n a = Nothing

-- First the constants and globals are chosen, then the locals that the frame has not, and then each action takes what it needs.
abbrev pub need : TypedProgram → Config → Need
need t c =
    if nat_lt (length c.globals) (length t.globals) then need_of (slice_get t.globals (length c.globals))
    else (if nat_lt (length c.top.locals) (length (locals_at t c.top.proc)) then need_of (slice_get (locals_at t c.top.proc) (length c.top.locals))
    else need_of_action t c.top.proc (action_at t c.top.proc c.top.point))

-- the choice is one that the need takes
abbrev pub is_taken : Need → Option ℤ → Bool
is_taken Nothing None = true
is_taken Nothing (Some z) = false
is_taken n None = false
is_taken Whole (Some z) = true
is_taken Truth (Some (pos z)) = nat_lt z 2
is_taken Truth (Some (negsuc z)) = false
is_taken (Below n) (Some (pos z)) = nat_lt z n
is_taken (Below n) (Some (negsuc z)) = false

-- a choice is needed, and none is given
abbrev pub is_missing : Need → Option ℤ → Bool
is_missing Nothing choice = false
is_missing n None = true
is_missing n (Some z) = false

-- a choice is given that the need does not take
abbrev pub is_refused : Need → Option ℤ → Bool
is_refused n None = false
is_refused n (Some z) = not (is_taken n (Some z))
