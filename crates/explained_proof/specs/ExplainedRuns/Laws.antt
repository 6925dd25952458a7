-- What the text of an explained program is worth: where the annotation proves the graph of the program, each clause that is added holds in every run, wherever
-- it stands.
use Rattle.std.specs.Prelude.{◌≡◌, ◌≢◌, ℕ, ◌+◌, ℤ, pos, IsTrue, List, [], ◌∷◌, map, length, take, Option, None, Some, slice_get, if◌then◌else◌}
use Rattle.boogie_tree.specs.declared.tree.VarInfo.{VarInfo}
use Rattle.boogie_tree.specs.Tree.{Expression}
use Rattle.typed_tree.specs.TypedTree.{TypedExpression, TypedProcedure, TypedProgram}
use Rattle.typed_tree.specs.Values.{value}
use Rattle.typed_tree.specs.Scope.{Scope, requires_scope, body_scope}
use Rattle.typed_tree.specs.TypingRules.ValidProgram.{is_valid}
use Rattle.boogie_types.specs.Naming.{named}
use Rattle.boogie_run.specs.BoogiePoints.Points.{Point, Start, at_exit}
use Rattle.boogie_run.specs.BoogiePoints.Actions.{ensured_conditions}
use Rattle.boogie_run.specs.BoogiePlaces.Places.{number_of}
use Rattle.boogie_run.specs.Configurations.{Config, state_of}
use Rattle.boogie_run.specs.Needs.{locals_at}
use Rattle.boogie_run.specs.Steps.{Went, start, step}
use Rattle.boogie_run.specs.Runs.{run}
use Rattle.lowered_graph.specs.Lowered.{lowered}
use Rattle.proof_form.specs.Annotations.{Content}
use Rattle.proof_names.specs.Outlines.{Sketch}
use Rattle.explained_proof.specs.KnownRuns.Reached.{IsReached}
use Rattle.explained_proof.specs.KnownRuns.Followed.{IsProofOf}
use Rattle.explained_proof.specs.declared.row_expressions.scopes.Position.TheVariants as positions
use Rattle.explained_proof.specs.RowExpressions.Scopes.{is_hidden_name}
use Rattle.explained_proof.specs.Known.{known_of}
use Rattle.explained_proof.specs.Clauses.{required, holding}
use Rattle.explained_proof.specs.Explained.{Told, known_procedure}

-- a program with what an annotation of its graph knows of it, the lines of which name this
abbrev pub told : TypedProgram → Content → Sketch → Told
told t a s = record { program = t; graph = lowered t; known = known_of (lowered t) a s.nodes }

-- Each clause that is an expression of the program is true there. One in which an `if then else` stands is none.
abbrev pub AreTrue : Scope → Config → List Expression → Type 0
AreTrue scope c [] = Unit {0}
AreTrue scope c (e ∷ es) = ((x : TypedExpression) → named scope e ≡ Some x → value (state_of c) x ≡ pos 1) × AreTrue scope c es

abbrev pub place_at : TypedProgram → Config → ℕ
place_at t c = number_of t (record { proc = c.top.proc; point = c.top.point })

-- The locals of a body as a text names them: those that it does not have, into which arguments are put before calls, have no name there.
abbrev pub text_local : VarInfo → VarInfo
text_local v = if is_hidden_name v.name then record v { name = [] } else v

abbrev pub text_locals : List VarInfo → List VarInfo
text_locals vs = map text_local vs

-- What is told as invariants and assertions of a procedure holds at every place of its body that a run reaches, so at the first of the places of each loop and behind
-- each label.
abbrev pub BodiesHold : Type 0
BodiesHold = (t : TypedProgram) (a : Content) (s : Sketch) (c : Config) (q : TypedProcedure) → IsTrue (is_valid t) → IsProofOf t a s → IsReached t c →
    slice_get t.procs c.top.proc ≡ Some q → (c.top.point.stage ≡ Start → ⊥) →
    AreTrue (body_scope t.globals (text_locals q.locals)) c (holding (known_procedure (told t a s) c.top.proc q) positions.Body (place_at t c))

-- the point at which a procedure returns
abbrev pub point_of_return : TypedProcedure → Point
point_of_return q = record at_exit { part = length (ensured_conditions q.specs) }

-- What is told as ensures holds wherever the procedure returns.
abbrev pub EnsuresHold : Type 0
EnsuresHold = (t : TypedProgram) (a : Content) (s : Sketch) (c : Config) (q : TypedProcedure) → IsTrue (is_valid t) → IsProofOf t a s → IsReached t c →
    slice_get t.procs c.top.proc ≡ Some q → c.top.point ≡ point_of_return q →
    AreTrue (body_scope t.globals (take (q.params + q.results) q.locals)) c (holding (known_procedure (told t a s) c.top.proc q) positions.Ensures (place_at t c))

-- A call has entered a procedure with a body, and then its locals were chosen and nothing else was done.
pub record IsBegun (t : TypedProgram) (c : Config) : Type 0 where
  pub choices : List (Option ℤ)
  pub caller : Config
  pub goes : run t (start t) choices ≡ Went caller
  pub callee : Config
  pub enters : step t caller None ≡ Went callee
  pub deeper : callee.below ≡ caller.top ∷ caller.below
  pub locals : List (Option ℤ)
  pub chosen : run t callee locals ≡ Went c
  pub all : length callee.top.locals + length locals ≡ length (locals_at t callee.top.proc)

-- What is told as requires holds wherever the procedure was called and begins.
abbrev pub RequiresHold : Type 0
RequiresHold = (t : TypedProgram) (a : Content) (s : Sketch) (c : Config) (q : TypedProcedure) → IsTrue (is_valid t) → IsProofOf t a s → IsBegun t c →
    slice_get t.procs c.top.proc ≡ Some q → c.top.proc ≢ t.entry →
    AreTrue (requires_scope t.globals (take q.params q.locals)) c (required (known_procedure (told t a s) c.top.proc q))
