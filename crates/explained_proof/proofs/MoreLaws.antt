-- An explained program is the given one, of which more is said.
use Rattle.std.proofs.Common.{◌≡◌, ℕ, ◌+◌, length, Bool, true, false, List, [], ◌∷◌, ◌++◌, map, Option, None, Some, refl, sym}
use Rattle.std.specs.Prelude.{slice_get, if◌then◌else◌}
use Rattle.std.specs.List.{position_from}
use Rattle.std.specs.Option.{option_map}
use Rattle.std.proofs.lemmas.List.{append-nil}
use Rattle.boogie_tree.specs.Apart.{nowhere}
use Rattle.boogie_tree.specs.Tree.{Expression, Statement, If, While, Block, Empty, Then, ProcedureBody, Procedure, Declaration, Const, Global, Axiom, Declares, Implements}
use Rattle.typed_tree.specs.TypedTree.{TypedBlock, TypedProcedure}
use Rattle.boogie_run.specs.BoogiePoints.Actions.{free_conditions}
use Rattle.explained_proof.specs.Clauses.{KnownProcedure}
use Rattle.explained_proof.specs.Statements.{Setting, Left, left, asserted, before, condition, held, assertions_behind, is_left, behind, first_branch, second_branch, loop_body, explained_block, explained_statement}
use Rattle.explained_proof.specs.Explained.{Told, setting, place_of, known_procedure, body_from, explained_body, is_entered, implemented, contract, contracted, declared_with, declared, is_of, at_listed, on_listed, explained_declaration}
use Rattle.explained_proof.specs.Laws.{SaysMore, nothing_left, one_more, one_asserted, SaysMoreIn, unchanged, in_branches, in_loop, BodySaysMore, ProcedureSaysMore, DeclarationSaysMore, ExplainedSaysMore}

assertions_more : (es : List Expression) (a b : Block) → SaysMore a b → SaysMore a (before (map asserted es) b)
assertions_more [] a b h = h
assertions_more (e ∷ es) a b h = one_asserted nowhere e (assertions_more es a b h)

mutual
  block_more : (w : Setting) (b : Block) (l : Left) → SaysMore b (explained_block w b l)
  block_more w Empty l = nothing_left
  block_more w (Then s b) l =
      one_more (statement_more w s l) (assertions_more (assertions_behind w (is_left s b) l) b (explained_block w b (behind w.procs s l)) (block_more w b (behind w.procs s l)))

  statement_more : (w : Setting) (s : Statement) (l : Left) → SaysMoreIn s (explained_statement w s l)
  statement_more w (If at g a b) l = in_branches at g (block_more w a (first_branch l)) (block_more w b (second_branch w.procs l))
  statement_more w (While at g is b) l = in_loop at g (map condition (held w l.at)) is (block_more w b (loop_body l))
  statement_more w s l = unchanged s

body_same : (o : Option ProcedureBody) → BodySaysMore o o
body_same None = tt
body_same (Some b) = (refl, block_same b.stmts)
  where
    block_same : (b : Block) → SaysMore b b
    block_same Empty = nothing_left
    block_same (Then s b) = one_more (unchanged s) (block_same b)

body_by : (d : Told) (k : KnownProcedure) (b : ProcedureBody) (q : TypedProcedure) (t : Option TypedBlock) (o : Option ℕ) → BodySaysMore (Some b) (Some (body_from d k b q t o))
body_by d k b q None o = body_same (Some b)
body_by d k b q (Some t) None = body_same (Some b)
body_by d k b q (Some t) (Some place) = (refl, block_more (setting d k t) b.stmts (left t (place + length (free_conditions q.specs))))

body_more : (d : Told) (p : ℕ) (q : TypedProcedure) (o : Option ProcedureBody) → BodySaysMore o (option_map (explained_body d p q) o)
body_more d p q None = tt
body_more d p q (Some b) = body_by d (known_procedure d p q) b q q.body (place_of d.graph.entries p)

procedure_same : (p : Procedure) → ProcedureSaysMore p p
procedure_same p = record { span = refl; name = refl; params = refl; results = refl; specs = ([], sym (append-nil p.specs)); body = body_same p.body }

implemented_by : (b : Bool) (d : Told) (p : ℕ) (q : TypedProcedure) (given : Procedure) →
    ProcedureSaysMore given (if b then record given { body = option_map (explained_body d p q) given.body } else given)
implemented_by true d p q given = record { span = refl; name = refl; params = refl; results = refl; specs = ([], sym (append-nil given.specs)); body = body_more d p q given.body }
implemented_by false d p q given = procedure_same given

implemented_more : (d : Told) (p : ℕ) (q : TypedProcedure) (given : Procedure) → ProcedureSaysMore given (implemented d p q given)
implemented_more d p q given = implemented_by (is_entered d p) d p q given

-- with specifications more
with_contract : (d : Told) (p : ℕ) (q : TypedProcedure) (given last : Procedure) → ProcedureSaysMore (contracted d p q given) last → (last.specs ≡ given.specs ++ contract d p q) →
    ProcedureSaysMore given last
with_contract d p q given last h e = record { span = h.span; name = h.name; params = h.params; results = h.results; specs = (contract d p q, e); body = h.body }

kept_specs : (b : Bool) (d : Told) (p : ℕ) (q : TypedProcedure) (given : Procedure) →
    (if b then record given { body = option_map (explained_body d p q) given.body } else given).specs ≡ given.specs
kept_specs true d p q given = refl
kept_specs false d p q given = refl

declared_by : (d : Told) (p : ℕ) (q : TypedProcedure) (given : Procedure) (o : Option TypedBlock) → ProcedureSaysMore given (declared_with d p q given o)
declared_by d p q given None = procedure_same given
declared_by d p q given (Some t) =
    with_contract d p q given (implemented d p q (contracted d p q given)) (implemented_more d p q (contracted d p q given)) (kept_specs (is_entered d p) d p q (contracted d p q given))

declared_more : (d : Told) (p : ℕ) (q : TypedProcedure) (given : Procedure) → ProcedureSaysMore given (declared d p q given)
declared_more d p q given = declared_by d p q given q.body

module _ (change : ℕ → TypedProcedure → Procedure → Procedure) (more : (p : ℕ) (q : TypedProcedure) (given : Procedure) → ProcedureSaysMore given (change p q given)) where
  listed_by : (p : ℕ) (given : Procedure) (o : Option TypedProcedure) → ProcedureSaysMore given (at_listed (change p) given o)
  listed_by p given None = procedure_same given
  listed_by p given (Some q) = more p q given

  listed_more : (qs : List TypedProcedure) (given : Procedure) (o : Option ℕ) → ProcedureSaysMore given (on_listed change qs given o)
  listed_more qs given None = procedure_same given
  listed_more qs given (Some p) = listed_by p given (slice_get qs p)

declaration_more : (d : Told) (e : Declaration) → DeclarationSaysMore e (explained_declaration d e)
declaration_more d (Const x) = refl
declaration_more d (Global x) = refl
declaration_more d (Axiom at e) = refl
declaration_more d (Declares given) = listed_more (declared d) (declared_more d) d.program.procs given (position_from (is_of given.name) 0 d.program.procs)
declaration_more d (Implements given) = listed_more (implemented d) (implemented_more d) d.program.procs given (position_from (is_of given.name) 0 d.program.procs)

pub explained_more : ExplainedSaysMore
explained_more d [] = tt
explained_more d (e ∷ es) = (declaration_more d e, explained_more d es)
