-- Programs with what an annotation knows of them.
use Rattle.std.specs.Prelude.{ℕ, ◌+◌, Bool, false, ◌||◌, nat_eq, nat_lt, nat_le, List, [], ◌++◌, map, filter, length, Option, None, Some, slice_get, if◌then◌else◌}
use Rattle.std.specs.List.{position_from}
use Rattle.std.specs.Option.{option_map, option_flatten}
use Rattle.std.specs.Str.{bytes_eq}
use Rattle.boogie_tree.specs.declared.tree.Name.{Name}
use Rattle.boogie_tree.specs.Tree.{Specification, Requires, Ensures, Block, ProcedureBody, Procedure, Declaration, Const, Global, Axiom, Declares, Implements}
use Rattle.letter_acts.specs.Acts.{frame_of}
use Rattle.letter_acts.specs.Invariant.{Graph, alphabet_of}
use Rattle.typed_tree.specs.TypedTree.{TypedBlock, TypedProcedure, TypedProgram}
use Rattle.boogie_run.specs.BoogiePoints.Actions.{free_conditions}
use Rattle.explained_proof.specs.declared.row_expressions.scopes.Position.TheVariants as positions
use Rattle.explained_proof.specs.declared.clauses.Entered.{Entered}
use Rattle.explained_proof.specs.Known.{Known}
use Rattle.explained_proof.specs.Clauses.{KnownProcedure, required, holding}
use Rattle.explained_proof.specs.Backwards.{no_labels, passing_all}
use Rattle.explained_proof.specs.Statements.{Setting, left, condition, explained_block}

-- a program with its graph, and what is known there
pub record Told : Type 0 where
  pub program : TypedProgram
  pub graph : Graph
  pub known : Known

-- the place of procedure p in a list of places
abbrev pub place_of : List (Option ℕ) → ℕ → Option ℕ
place_of places p = option_flatten (slice_get places p)

abbrev pub entered : Bool → ℕ → Entered
entered b n = record { node = n; is_premise = b }

abbrev pub has_no_predicate : Known → ℕ → Bool
has_no_predicate k n = nat_le (length (k.preds n)) 0

-- The entry nodes of the frame in which runs begin: those at the start without predicates.
abbrev pub starts : Told → ℕ → List ℕ
starts d p = if nat_eq p d.program.entry then filter (has_no_predicate d.known) (d.known.entered 0) else []

abbrev pub entered_at : Known → Option ℕ → List ℕ
entered_at k None = []
entered_at k (Some place) = k.entered place

-- the entry nodes of procedure p where it is called
abbrev pub called : Told → ℕ → List ℕ
called d p = entered_at d.known (place_of d.graph.entries p)

-- The entry nodes of procedure p. Where there are several, each that is not of the start is a premise.
abbrev pub entries : Told → ℕ → List Entered
entries d p =
    map (entered false) (starts d p) ++ map (entered (nat_lt 0 (length (starts d p)) || nat_lt 1 (length (called d p)))) (called d p)

abbrev pub known_procedure : Told → ℕ → TypedProcedure → KnownProcedure
known_procedure d p q = record {
  known = d.known;
  frame = frame_of (alphabet_of d.graph) p;
  params = q.params;
  results = q.results;
  entries = entries d p;
}

-- what callers have to keep; the entry procedure of the run keeps its own requires
abbrev pub requires : Told → ℕ → KnownProcedure → List Specification
requires d p k = if nat_eq p d.program.entry then [] else map (λ e. Requires (condition e)) (required k)

abbrev pub ensures_at : KnownProcedure → Option ℕ → List Specification
ensures_at k None = []
ensures_at k (Some place) = map (λ e. Ensures (condition e)) (holding k positions.Ensures place)

-- what holds where it returns
abbrev pub ensures : Told → ℕ → KnownProcedure → List Specification
ensures d p k = ensures_at k (place_of d.graph.exits p)

abbrev pub setting : Told → KnownProcedure → TypedBlock → Setting
setting d k t = record { procs = d.program.procs; procedure = k; backwards = (passing_all t no_labels).backwards }

-- the statements of a body, the first place of which comes behind the free requires
abbrev pub explained_statements : Told → KnownProcedure → Block → TypedProcedure → TypedBlock → ℕ → Block
explained_statements d k b q t place = explained_block (setting d k t) b (left t (place + length (free_conditions q.specs)))

abbrev pub body_from : Told → KnownProcedure → ProcedureBody → TypedProcedure → Option TypedBlock → Option ℕ → ProcedureBody
body_from d k b q None place = b
body_from d k b q (Some t) None = b
body_from d k b q (Some t) (Some place) = record b { stmts = explained_statements d k b.stmts q t place }

abbrev pub explained_body : Told → ℕ → TypedProcedure → ProcedureBody → ProcedureBody
explained_body d p q b = body_from d (known_procedure d p q) b q q.body (place_of d.graph.entries p)

abbrev pub is_entered : Told → ℕ → Bool
is_entered d p = nat_lt 0 (length (entries d p))

-- the implementation of a procedure; one that is never entered stays as it is
abbrev pub implemented : Told → ℕ → TypedProcedure → Procedure → Procedure
implemented d p q given = if is_entered d p then record given { body = option_map (explained_body d p q) given.body } else given

-- what is required and ensured; of a procedure that is never entered only what is required, `false`
abbrev pub contract : Told → ℕ → TypedProcedure → List Specification
contract d p q = requires d p (known_procedure d p q) ++ (if is_entered d p then ensures d p (known_procedure d p q) else [])

abbrev pub contracted : Told → ℕ → TypedProcedure → Procedure → Procedure
contracted d p q given = record given { specs = given.specs ++ contract d p q }

abbrev pub declared_with : Told → ℕ → TypedProcedure → Procedure → Option TypedBlock → Procedure
declared_with d p q given None = given
declared_with d p q given (Some t) = implemented d p q (contracted d p q given)

-- a procedure that has a body, with its contract
abbrev pub declared : Told → ℕ → TypedProcedure → Procedure → Procedure
declared d p q given = declared_with d p q given q.body

abbrev pub is_of : Name → TypedProcedure → Bool
is_of x q = bytes_eq q.name x.text

abbrev pub at_listed : (TypedProcedure → Procedure → Procedure) → Procedure → Option TypedProcedure → Procedure
at_listed change given None = given
at_listed change given (Some q) = change q given

abbrev pub on_listed : (ℕ → TypedProcedure → Procedure → Procedure) → List TypedProcedure → Procedure → Option ℕ → Procedure
on_listed change qs given None = given
on_listed change qs given (Some p) = at_listed (change p) given (slice_get qs p)

-- a change of the procedure of that name, if there is one
abbrev pub on_named : (ℕ → TypedProcedure → Procedure → Procedure) → TypedProgram → Procedure → Procedure
on_named change t given = on_listed change t.procs given (position_from (is_of given.name) 0 t.procs)

abbrev pub explained_declaration : Told → Declaration → Declaration
explained_declaration d (Const x) = Const x
explained_declaration d (Global x) = Global x
explained_declaration d (Axiom at e) = Axiom at e
explained_declaration d (Declares given) = Declares (on_named (declared d) d.program given)
explained_declaration d (Implements given) = Implements (on_named (implemented d) d.program given)

-- the declarations of a program with what is known of it
abbrev pub explained : Told → List Declaration → List Declaration
explained d ds = map (explained_declaration d) ds
