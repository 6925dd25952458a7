-- How many assertions and points a program has. They are numbered by 32 bits.
use Rattle.std.specs.Prelude.{ℕ, ◌+◌, ◌^◌, Bool, true, false, not, ◌&&◌, nat_lt, List, [], ◌∷◌, length, Option, None, Some, slice_get}
use Rattle.std.specs.List.{list_all}
use Rattle.boogie_tree.specs.declared.tree.VarInfo.{VarInfo}
use Rattle.typed_tree.specs.TypedTree.{TypedInvariant, TypedStatement, Assert, Havoc, Call, If, While, Label, TypedBlock, Empty, Then, TypedSpecification, Requires, Ensures, TypedProcedure, TypedProgram}

abbrev pub one_if : Bool → ℕ
one_if true = 1
one_if false = 0

-- a condition that is checked: one that is not free
abbrev pub one_if_plain : TypedInvariant → ℕ
one_if_plain i = one_if (not i.free)

abbrev pub plain_invariants : List TypedInvariant → ℕ
plain_invariants [] = 0
plain_invariants (i ∷ is) = one_if_plain i + plain_invariants is

-- the requires that are checked at a call, and those that are assumed at the entry
abbrev pub plain_requires : List TypedSpecification → ℕ
plain_requires [] = 0
plain_requires (Requires i ∷ ss) = one_if_plain i + plain_requires ss
plain_requires (Ensures i ∷ ss) = plain_requires ss

abbrev pub free_requires : List TypedSpecification → ℕ
free_requires [] = 0
free_requires (Requires i ∷ ss) = one_if i.free + free_requires ss
free_requires (Ensures i ∷ ss) = free_requires ss

-- the ensures that are checked at the end of a body, and all ensures
abbrev pub plain_ensures : List TypedSpecification → ℕ
plain_ensures [] = 0
plain_ensures (Requires i ∷ ss) = plain_ensures ss
plain_ensures (Ensures i ∷ ss) = one_if_plain i + plain_ensures ss

abbrev pub all_ensures : List TypedSpecification → ℕ
all_ensures [] = 0
all_ensures (Requires i ∷ ss) = all_ensures ss
all_ensures (Ensures i ∷ ss) = 1 + all_ensures ss

-- the requires that a call checks
abbrev pub checked_at_call : Option TypedProcedure → ℕ
checked_at_call None = 0
checked_at_call (Some p) = plain_requires p.specs

abbrev mutual
  -- the assertions of a statement
  pub assertions : List TypedProcedure → TypedStatement → ℕ
  assertions procs (Assert at e) = 1
  assertions procs (Call at cs f es) = checked_at_call (slice_get procs f)
  assertions procs (If at g a b) = block_assertions procs a + block_assertions procs b
  assertions procs (While at g is b) = plain_invariants is + block_assertions procs b
  assertions procs s = 0

  pub block_assertions : List TypedProcedure → TypedBlock → ℕ
  block_assertions procs Empty = 0
  block_assertions procs (Then s b) = assertions procs s + block_assertions procs b

abbrev mutual
  -- the points of a statement: one for each variable of a havoc, for each invariant and the guard of a loop, for each requires that a call checks and the call, and for any other statement but a label
  pub points : List TypedProcedure → TypedStatement → ℕ
  points procs (Havoc at cs) = length cs
  points procs (Call at cs f es) = checked_at_call (slice_get procs f) + 1
  points procs (If at g a b) = 1 + (block_points procs a + block_points procs b)
  points procs (While at g is b) = length is + (1 + block_points procs b)
  points procs (Label n) = 0
  points procs s = 1

  pub block_points : List TypedProcedure → TypedBlock → ℕ
  block_points procs Empty = 0
  block_points procs (Then s b) = points procs s + block_points procs b

-- of a procedure with a body: the assertions of its statements and its ensures
abbrev pub body_assertions : List TypedProcedure → List TypedSpecification → Option TypedBlock → ℕ
body_assertions procs specs None = 0
body_assertions procs specs (Some b) = block_assertions procs b + plain_ensures specs

-- of a procedure with a body: a point for each free requires, those of its statements, one for each ensures, and the exit
abbrev pub body_points : List TypedProcedure → List TypedSpecification → Option TypedBlock → ℕ
body_points procs specs None = 0
body_points procs specs (Some b) = free_requires specs + (block_points procs b + (all_ensures specs + 1))

-- the places of a procedure: its points, and one for each assertion to fail at
abbrev pub procedure_places : List TypedProcedure → TypedProcedure → ℕ
procedure_places procs p = body_points procs p.specs p.body + body_assertions procs p.specs p.body

abbrev pub all_places : List TypedProcedure → List TypedProcedure → ℕ
all_places procs [] = 0
all_places procs (p ∷ ps) = procedure_places procs p + all_places procs ps

-- the places of a program: the start, a point for each axiom and each plain requires of the entry, and those of the procedures
abbrev pub places : TypedProgram → ℕ
places t = 1 + (length t.axioms + (checked_at_call (slice_get t.procs t.entry) + all_places t.procs t.procs))

-- The columns of a frame are numbered by 32 bits: the globals, their old values, and the locals.
abbrev pub columns_fit : List VarInfo → TypedProcedure → Bool
columns_fit globals p = nat_lt (length globals + (length globals + length p.locals)) (2 ^ 32)

-- places, columns and procedures have numbers of 32 bits
abbrev pub numbers_fit : TypedProgram → Bool
numbers_fit t =
    nat_lt (places t) (2 ^ 32) && (nat_lt (length t.procs) (2 ^ 32) && list_all (columns_fit t.globals) t.procs)
