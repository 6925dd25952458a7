-- Parts of a typed program: one for each procedure with a body, in which every call is taken by the specification of what it calls.
use Rattle.std.specs.Prelude.{ℕ, zero, suc, ◌+◌, nat_eq, List, [], ◌∷◌, ◌++◌, map, length, Option, None, Some, slice_get, codes, if◌then◌else◌}
use Rattle.std.specs.Option.{option_map}
use Rattle.typed_tree.specs.TypedTree.{TypedStatement, Assert, Assume, Havoc, Assign, Call, If, While, Break, Goto, Return, Label, TypedBlock, Empty, Then, TypedProcedure, TypedProgram}

abbrev mutual
  -- the statement, with the procedures that it calls renumbered
  pub recalled : (ℕ → ℕ) → TypedStatement → TypedStatement
  recalled r (Assert at e) = Assert at e
  recalled r (Assume at e) = Assume at e
  recalled r (Havoc at cs) = Havoc at cs
  recalled r (Assign at cs es) = Assign at cs es
  recalled r (Call at cs f es) = Call at cs (r f) es
  recalled r (If at g x y) = If at g (recalled_block r x) (recalled_block r y)
  recalled r (While at g is x) = While at g is (recalled_block r x)
  recalled r (Break at n) = Break at n
  recalled r (Goto at ks) = Goto at ks
  recalled r (Return at) = Return at
  recalled r (Label n) = Label n

  pub recalled_block : (ℕ → ℕ) → TypedBlock → TypedBlock
  recalled_block r Empty = Empty
  recalled_block r (Then s b) = Then (recalled r s) (recalled_block r b)

-- the number that calls of procedure f have in the part of procedure own: calls of own itself go to its copy
abbrev pub called_in : ℕ → ℕ → ℕ → ℕ
called_in copy own f = if nat_eq f own then copy else f

-- what is known of a procedure to those that call it
abbrev pub without_body : TypedProcedure → TypedProcedure
without_body q = record q { body = None }

-- the procedure that calls of q go to in its own part
abbrev pub copy_of : TypedProcedure → TypedProcedure
copy_of q = record q { name = codes "m:" ++ q.name; body = None }

abbrev pub own_procedure : (ℕ → ℕ) → TypedProcedure → TypedProcedure
own_procedure r q = record q { body = option_map (recalled_block r) q.body }

-- the procedures, of which number n alone keeps its body
abbrev pub cut_procs : (ℕ → ℕ) → ℕ → List TypedProcedure → List TypedProcedure
cut_procs r n [] = []
cut_procs r zero (q ∷ qs) = own_procedure r q ∷ map without_body qs
cut_procs r (suc n) (q ∷ qs) = without_body q ∷ cut_procs r n qs

abbrev pub copies : Option TypedProcedure → List TypedProcedure
copies None = []
copies (Some q) = copy_of q ∷ []

-- The part of procedure n: its body begins the run, and no other procedure has one.
abbrev pub procedure_part : TypedProgram → ℕ → TypedProgram
procedure_part t n =
    record {
      globals = t.globals;
      axioms = t.axioms;
      procs = cut_procs (called_in (length t.procs) n) n t.procs ++ copies (slice_get t.procs n);
      entry = n;
    }

-- a part, with the name of its procedure
pub record PlainPart : Type 0 where
  pub name : List ℕ
  pub program : TypedProgram

-- the part of procedure n, where it has a body
abbrev pub part_if : TypedProgram → ℕ → TypedProcedure → Option TypedBlock → List PlainPart
part_if t n q None = []
part_if t n q (Some b) = record { name = q.name; program = procedure_part t n } ∷ []

abbrev pub part_at : TypedProgram → ℕ → Option TypedProcedure → List PlainPart
part_at t n None = []
part_at t n (Some q) = part_if t n q q.body

-- those of these procedures, of which the first has that number
abbrev pub parts_from_number : TypedProgram → ℕ → List TypedProcedure → List PlainPart
parts_from_number t n [] = []
parts_from_number t n (q ∷ qs) = part_at t n (Some q) ++ parts_from_number t (n + 1) qs

-- one for each procedure with a body, in order of declaration
abbrev pub parts_of : TypedProgram → List PlainPart
parts_of t = parts_from_number t 0 t.procs
