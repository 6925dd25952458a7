-- Where in the text the items stand at the places of a program: by the points there, and read off the statements in the order of the text.
use Rattle.std.specs.Prelude.{ℕ, ◌+◌, List, [], ◌∷◌, ◌++◌, map, length, replicate, Option, None, Some, slice_get}
use Rattle.boogie_tree.specs.declared.span.Span.{Span}
use Rattle.typed_tree.specs.TypedTree.{TypedExpression, TypedInvariant, TypedStatement, Assert, Assume, Havoc, Assign, Call, If, While, Break, Goto, Return, Label, TypedBlock, Empty, Then, TypedProcedure, TypedProgram}
use Rattle.typed_tree.specs.BrokenRules.{expression_span}
use Rattle.typed_tree.specs.TypingRules.Counts.{checked_at_call}
use Rattle.boogie_run.specs.BoogiePoints.Actions.{plain_conditions, free_conditions, ensured_conditions}
use Rattle.boogie_run.specs.BoogiePoints.Sites.{span_at}
use Rattle.boogie_run.specs.BoogiePlaces.Places.{Place, program_places}

-- a procedure, and where an item of it stands; none where it returns
abbrev pub PlaceSite : Type 0
PlaceSite = ℕ × Option Span

abbrev pub site_of : TypedProgram → Place → PlaceSite
site_of t p = (p.proc, span_at t p.proc p.point)

-- those of all places, in the order of their numbers, which count from 1
abbrev pub place_sites : TypedProgram → List PlaceSite
place_sites t = map (site_of t) (program_places t)

-- ---- read off the statements

abbrev pub here : ℕ → Span → PlaceSite
here n at = (n, Some at)

abbrev pub condition_site : ℕ → TypedInvariant → PlaceSite
condition_site n i = here n i.span

abbrev pub axiom_site : ℕ → TypedExpression → PlaceSite
axiom_site n e = here n (expression_span e)

abbrev mutual
  -- those of the points of a statement of procedure n
  pub statement_sites : List TypedProcedure → ℕ → TypedStatement → List PlaceSite
  statement_sites procs n (Havoc at cs) = replicate (length cs) (here n at)
  statement_sites procs n (Call at cs f es) = replicate (checked_at_call (slice_get procs f) + 1) (here n at)
  statement_sites procs n (If at g x y) = here n at ∷ (block_sites procs n x ++ block_sites procs n y)
  statement_sites procs n (While at g is x) = (map (condition_site n) is ++ here n at ∷ []) ++ block_sites procs n x
  statement_sites procs n (Label k) = []
  statement_sites procs n (Assert at e) = here n at ∷ []
  statement_sites procs n (Assume at e) = here n at ∷ []
  statement_sites procs n (Assign at cs es) = here n at ∷ []
  statement_sites procs n (Break at k) = here n at ∷ []
  statement_sites procs n (Goto at ks) = here n at ∷ []
  statement_sites procs n (Return at) = here n at ∷ []

  pub block_sites : List TypedProcedure → ℕ → TypedBlock → List PlaceSite
  block_sites procs n Empty = []
  block_sites procs n (Then s b) = statement_sites procs n s ++ block_sites procs n b

-- those of procedure n with this body: of its free requires, its statements, its ensures and the return
abbrev pub body_sites : List TypedProcedure → ℕ → TypedProcedure → Option TypedBlock → List PlaceSite
body_sites procs n q None = []
body_sites procs n q (Some b) =
    map (condition_site n) (free_conditions q.specs) ++ (block_sites procs n b ++ (map (condition_site n) (ensured_conditions q.specs) ++ (n, None) ∷ []))

-- those of these procedures, the first of which has number n
abbrev pub sites_from : List TypedProcedure → ℕ → List TypedProcedure → List PlaceSite
sites_from procs n [] = []
sites_from procs n (q ∷ qs) = body_sites procs n q q.body ++ sites_from procs (n + 1) qs

abbrev pub start_sites : TypedProgram → Option TypedProcedure → List PlaceSite
start_sites t None = []
start_sites t (Some q) = map (axiom_site t.entry) t.axioms ++ map (condition_site t.entry) (plain_conditions q.specs)

abbrev pub program_sites : TypedProgram → List PlaceSite
program_sites t = start_sites t (slice_get t.procs t.entry) ++ sites_from t.procs 0 t.procs
