-- What the parts of a call make, wherever it stands in a body.
use Rattle.std.specs.Prelude.{◌≡◌, ℕ, ◌+◌, Bool, List, [], ◌∷◌, length, drop, Some, slice_get}
use Rattle.boogie_tree.specs.declared.span.Span.{Span}
use Rattle.boogie_tree.specs.declared.tree.Column.{Column}
use Rattle.typed_tree.specs.TypedTree.{TypedExpression, TypedInvariant, Call, TypedBlock, TypedProcedure, TypedProgram}
use Rattle.boogie_run.specs.BoogiePoints.Points.{Todo, settled, past}
use Rattle.boogie_run.specs.BoogiePoints.Actions.{plain_conditions}
use Rattle.boogie_run.specs.BoogiePlaces.Places.{at_statement, located, parts_from}
use Rattle.lowered_graph.specs.Arcs.{place_number}
use Rattle.lowered_graph.specs.LoweredParts.Parts.{Walked}
use Rattle.lowered_graph.specs.LoweredParts.Items.{PlacesMade}

-- so many conditions are done, and these are left
pub record AreLeft (all : List TypedInvariant) (done : ℕ) (rest : List TypedInvariant) : Type 0 where
  pub left : drop done all ≡ rest
  pub count : done + length rest ≡ length all

-- The first parts of a call of a procedure with these plain requires have made this.
abbrev pub PartsMade : TypedProgram → ℕ → Span → List Column → ℕ → List TypedExpression → List TypedInvariant → ℕ → ℕ → ℕ → Bool → Bool → Walked → Walked → Type 0
PartsMade t n sp cs f es plain id at count w b old new = (q : TypedProcedure) (whole : TypedBlock) (rest : TypedBlock) (loop : Bool) (under : List Todo) (callee : TypedProcedure) →
    slice_get t.procs n ≡ Some q → q.body ≡ Some whole → slice_get t.procs f ≡ Some callee → plain_conditions callee.specs ≡ plain →
    PlacesMade t (located n (parts_from (at_statement (Call sp cs f es) rest loop id at under) 0 count)) w b old new

-- The call itself, behind its requires, has made this.
abbrev pub CallMade : TypedProgram → ℕ → Span → List Column → ℕ → List TypedExpression → TypedProcedure → ℕ → ℕ → Bool → Bool → Walked → Walked → Type 0
CallMade t n sp cs f es callee place after w b old new = (q : TypedProcedure) (whole : TypedBlock) (rest : TypedBlock) (loop : Bool) (id at : ℕ) (under : List Todo) →
    slice_get t.procs n ≡ Some q → q.body ≡ Some whole → slice_get t.procs f ≡ Some callee → place ≡ at + length (plain_conditions callee.specs) →
    after ≡ place_number t n (settled (past t.procs (Call sp cs f es) rest loop id at ∷ under)) →
    PlacesMade t (record { proc = n; point = record (at_statement (Call sp cs f es) rest loop id at under) { part = length (plain_conditions callee.specs) } } ∷ []) w b old new
