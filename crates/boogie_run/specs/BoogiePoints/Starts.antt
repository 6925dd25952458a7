-- Where procedures and runs begin, and the call at which a frame stands.
use Rattle.std.specs.Prelude.{ℕ, List, [], ◌∷◌, Option, None, Some}
use Rattle.boogie_tree.specs.declared.tree.Column.{Column}
use Rattle.typed_tree.specs.TypedTree.{TypedExpression, Call, TypedBlock, Then, TypedProcedure, TypedProgram}
use Rattle.boogie_run.specs.BoogiePoints.Points.{Todo, Start, Point, settled}
use Rattle.boogie_run.specs.BoogiePoints.Actions.{first_point, first_assertion, first_place, start_conditions}

abbrev pub point_of_procedure : TypedProgram → ℕ → TypedProcedure → Option TypedBlock → Point
point_of_procedure t f q None = settled []
point_of_procedure t f q (Some b) = first_point q b (first_assertion t.procs f) (first_place t f)

abbrev pub point_of_call : TypedProgram → ℕ → Option TypedProcedure → Point
point_of_call t f None = settled []
point_of_call t f (Some q) = point_of_procedure t f q q.body

-- the first point of a run: the first condition that is assumed at the start, or else the first point of the entry
abbrev pub unless_none : List TypedExpression → Point → Point
unless_none [] first = first
unless_none (e ∷ es) first = record { stage = Start; todo = []; part = 0 }

abbrev pub start_point_of : TypedProgram → Option TypedProcedure → Point
start_point_of t None = settled []
start_point_of t (Some q) = unless_none (start_conditions t q) (point_of_procedure t t.entry q q.body)

-- the targets of the call at which a frame stands
abbrev pub targets_of_statement : TypedBlock → List Column
targets_of_statement (Then (Call at cs f es) b) = cs
targets_of_statement b = []

abbrev pub targets_at : List Todo → List Column
targets_at [] = []
targets_at (t ∷ ts) = targets_of_statement t.rest
