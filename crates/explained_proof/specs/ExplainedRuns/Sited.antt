-- The loops and labels of a body's text, and the points at which runs stand before the ones and behind the others.
use Rattle.std.specs.Prelude.{◌≡◌, ℕ, zero, suc, ◌+◌, Bool, true, false, ◌&&◌, not, IsTrue, List, [], ◌∷◌, ◌++◌, map, length, filter, Option, None, Some, slice_get, if◌then◌else◌}
use Rattle.std.specs.Option.{is_some}
use Rattle.boogie_tree.specs.declared.span.Span.{Span}
use Rattle.boogie_tree.specs.declared.tree.Name.{Name}
use Rattle.boogie_tree.specs.Tree as tree
use Rattle.boogie_tree.specs.Tree.{Expression, Invariant, Procedure, ProcedureBody, Declaration}
use Rattle.typed_tree.specs.TypedTree as typed
use Rattle.typed_tree.specs.TypedTree.{TypedStatement, TypedBlock, TypedProcedure, TypedProgram}
use Rattle.typed_tree.specs.Scope.{body_scope}
use Rattle.typed_tree.specs.TypingRules.Shape.{block_labels}
use Rattle.typed_tree.specs.TypingRules.ValidProgram.{is_valid}
use Rattle.boogie_types.specs.Sorted.{procedures_of, body_of}
use Rattle.boogie_types.specs.Resolved.{resolved_program}
use Rattle.boogie_run.specs.BoogiePoints.Points.{Todo, Stage, Start, Entry, Body, Exit, Point, found_block}
use Rattle.boogie_run.specs.BoogiePoints.Actions.{point_behind, free_conditions, first_assertion, first_place}
use Rattle.boogie_run.specs.BoogiePlaces.Places.{points_of_body, number_of, IsOneOf}
use Rattle.boogie_run.specs.Configurations.{Config}
use Rattle.proof_form.specs.Annotations.{Content}
use Rattle.proof_names.specs.Outlines.{Sketch}
use Rattle.explained_proof.specs.KnownRuns.Reached.{IsReached}
use Rattle.explained_proof.specs.KnownRuns.Followed.{IsProofOf}
use Rattle.explained_proof.specs.declared.row_expressions.scopes.Position.TheVariants as positions
use Rattle.explained_proof.specs.Clauses.{holding}
use Rattle.explained_proof.specs.Statements.{Setting, Left, condition, asserted, before, first_breaks_to, explained_block}
use Rattle.explained_proof.specs.Explained.{known_procedure, setting, explained_body}
use Rattle.explained_proof.specs.ExplainedRuns.Laws.{told, AreTrue, text_locals}

-- ---- loops of a text

abbrev mutual
  -- the loops of a statement and of a list of statements, in text order
  pub loops_in : tree.Statement → List tree.Statement
  loops_in (tree.If at g a b) = loops_of a ++ loops_of b
  loops_in (tree.While at g is b) = tree.While at g is b ∷ loops_of b
  loops_in s = []

  pub loops_of : tree.Block → List tree.Statement
  loops_of tree.Empty = []
  loops_of (tree.Then s b) = loops_in s ++ loops_of b

-- where a loop stands in the text
abbrev pub span_of : tree.Statement → Option Span
span_of (tree.While at g is b) = Some at
span_of s = None

abbrev pub invariants_of : tree.Statement → List Invariant
invariants_of (tree.While at g is b) = is
invariants_of s = []

-- ---- their heads

-- where the loop stands in the text with which a block begins
abbrev pub loop_span : TypedStatement → Option Span
loop_span (typed.While at g is x) = Some at
loop_span s = None

abbrev pub first_span : TypedBlock → Option Span
first_span typed.Empty = None
first_span (typed.Then s b) = loop_span s

abbrev pub span_at : List Todo → Option Span
span_at [] = None
span_at (d ∷ ds) = first_span d.rest

abbrev pub is_zero : ℕ → Bool
is_zero zero = true
is_zero (suc n) = false

abbrev pub is_in_body : Stage → Bool
is_in_body Start = false
is_in_body Entry = false
is_in_body Body = true
is_in_body Exit = false

-- A loop comes next: its first invariant, or its guard where it has none.
abbrev pub is_head : Point → Bool
is_head p = is_some (span_at p.todo) && (is_zero p.part && is_in_body p.stage)

-- the heads of the loops of a body, in text order
abbrev pub heads_of : TypedProgram → ℕ → TypedProcedure → TypedBlock → List Point
heads_of t n q b = filter is_head (points_of_body t n q b)

-- ---- what is told of them

-- A loop of the text that begins at the point has further invariants in front of its own, of which that holds.
pub record IsToldAt (P : Point → List Expression → Type 0) (p : Point) (given explained : tree.Statement) : Type 0 where
  pub at : span_at p.todo ≡ span_of given
  pub added : List Expression
  pub invariants : invariants_of explained ≡ map condition added ++ invariants_of given
  pub so : P p added

-- the same of loops in order, each with its head
abbrev pub AreToldAt : (Point → List Expression → Type 0) → List Point → List tree.Statement → List tree.Statement → Type 0
AreToldAt P [] [] [] = Unit {0}
AreToldAt P (p ∷ ps) (s ∷ ss) (u ∷ us) = IsToldAt P p s u × AreToldAt P ps ss us
AreToldAt P ps ss us = ⊥

-- The body of procedure n of a text, and what it is in the typed program.
pub record IsBody (ds : List Declaration) (t : TypedProgram) (n : ℕ) (b : ProcedureBody) (q : TypedProcedure) (x : TypedBlock) : Type 0 where
  pub entry : List ℕ
  pub resolved : resolved_program ds entry ≡ Some t
  pub given : Procedure
  pub listed : slice_get (procedures_of ds) n ≡ Some given
  pub of_given : body_of ds given ≡ Some b
  pub procedure : slice_get t.procs n ≡ Some q
  pub body : q.body ≡ Some x

-- Each loop of a body is told what holds at the place at which runs stand before it.
abbrev pub LoopsAreTold : Type 0
LoopsAreTold = (ds : List Declaration) (t : TypedProgram) (a : Content) (s : Sketch) (n : ℕ) (b : ProcedureBody) (q : TypedProcedure) (x : TypedBlock) → IsBody ds t n b q x →
    AreToldAt (λ p es. es ≡ holding (known_procedure (told t a s) n q) positions.Body (number_of t (record { proc = n; point = p })))
    (heads_of t n q x) (loops_of b.stmts) (loops_of (explained_body (told t a s) n q b).stmts)

-- Where a run stands before a loop it stands at one of these heads.
abbrev pub HeadsAreListed : Type 0
HeadsAreListed = (t : TypedProgram) (c : Config) (q : TypedProcedure) (x : TypedBlock) → IsTrue (is_valid t) → IsReached t c → slice_get t.procs c.top.proc ≡ Some q → q.body ≡ Some x →
    is_head c.top.point ≡ true → IsOneOf (heads_of t c.top.proc q x) c.top.point

-- The invariants that a loop is told are true whenever a run stands before it.
abbrev pub InvariantsHold : Type 0
InvariantsHold = (ds : List Declaration) (t : TypedProgram) (a : Content) (s : Sketch) (n : ℕ) (b : ProcedureBody) (q : TypedProcedure) (x : TypedBlock) → IsTrue (is_valid t) → IsProofOf t a s →
    IsBody ds t n b q x →
    AreToldAt (λ p es. (c : Config) → IsReached t c → c.top.proc ≡ n → c.top.point ≡ p → AreTrue (body_scope t.globals (text_locals q.locals)) c es)
    (heads_of t n q x) (loops_of b.stmts) (loops_of (explained_body (told t a s) n q b).stmts)

-- ---- labels

abbrev mutual
  -- the labels of a statement and of a list of statements, each with what stands behind it in its list; in text order
  pub labels_in : tree.Statement → tree.Block → List (Name × tree.Block)
  labels_in (tree.If at g c d) b = labels_of c ++ labels_of d
  labels_in (tree.While at g is c) b = labels_of c
  labels_in (tree.Label y) b = (y, b) ∷ []
  labels_in s b = []

  pub labels_of : tree.Block → List (Name × tree.Block)
  labels_of tree.Empty = []
  labels_of (tree.Then s b) = labels_in s b ++ labels_of b

-- where a frame stands behind label k of a body: where gotos to it lead
abbrev pub landing : TypedProgram → ℕ → TypedProcedure → TypedBlock → ℕ → Point
landing t n q x k = point_behind (found_block t.procs k x false (first_assertion t.procs n) (first_place t n + length (free_conditions q.specs)) [])

-- Behind label k stand further assertions, of which that holds, and then what the statements there become.
pub record IsAssertedAt (w : Setting) (P : ℕ → Name × tree.Block → List Expression → Type 0) (k : ℕ) (given explained : Name × tree.Block) : Type 0 where
  pub name : explained.0 ≡ given.0
  pub added : List Expression
  pub rest : Left
  pub front : explained.1 ≡ before (map asserted added) (explained_block w given.1 rest)
  pub so : P k given added

-- the same of labels in order, with their numbers
abbrev pub AreAssertedAt : Setting → (ℕ → Name × tree.Block → List Expression → Type 0) → List ℕ → List (Name × tree.Block) → List (Name × tree.Block) → Type 0
AreAssertedAt w P [] [] [] = Unit {0}
AreAssertedAt w P (k ∷ ks) (b ∷ bs) (u ∷ us) = IsAssertedAt w P k b u × AreAssertedAt w P ks bs us
AreAssertedAt w P ks bs us = ⊥

abbrev pub setting_of : TypedProgram → Content → Sketch → ℕ → TypedProcedure → TypedBlock → Setting
setting_of t a s n q x = setting (told t a s) (known_procedure (told t a s) n q) x

-- what is known at a place, behind a label to which a goto behind it leads, and which no break names
abbrev pub said_behind : Setting → ℕ → Name × tree.Block → ℕ → List Expression
said_behind w k y place = if w.backwards k && not (first_breaks_to y.0.text y.1) then holding w.procedure positions.Body place else []

-- What is asserted behind a label is what holds at the place at which runs stand there.
abbrev pub LabelsAreTold : Type 0
LabelsAreTold = (ds : List Declaration) (t : TypedProgram) (a : Content) (s : Sketch) (n : ℕ) (b : ProcedureBody) (q : TypedProcedure) (x : TypedBlock) → IsTrue (is_valid t) → IsBody ds t n b q x →
    AreAssertedAt (setting_of t a s n q x) (λ k y es. es ≡ said_behind (setting_of t a s n q x) k y (number_of t (record { proc = n; point = landing t n q x k })))
    (block_labels x) (labels_of b.stmts) (labels_of (explained_body (told t a s) n q b).stmts)

-- What is asserted behind a label is true whenever a run stands there.
abbrev pub AssertionsHold : Type 0
AssertionsHold = (ds : List Declaration) (t : TypedProgram) (a : Content) (s : Sketch) (n : ℕ) (b : ProcedureBody) (q : TypedProcedure) (x : TypedBlock) → IsTrue (is_valid t) → IsProofOf t a s →
    IsBody ds t n b q x →
    AreAssertedAt (setting_of t a s n q x) (λ k y es. (c : Config) → IsReached t c → c.top.proc ≡ n → c.top.point ≡ landing t n q x k → AreTrue (body_scope t.globals (text_locals q.locals)) c es)
    (block_labels x) (labels_of b.stmts) (labels_of (explained_body (told t a s) n q b).stmts)
