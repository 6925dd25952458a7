-- The generated program: `main` and a chain of procedures, each of which adds 1 to a global variable, calls the next one, and asserts a lower bound.
use Rattle.std.specs.Prelude.{ℕ, zero, suc, ◌+◌, pos, Bool, true, false, List, [], ◌∷◌, ◌++◌, Some, map, codes}
use Rattle.std.specs.Fmt.{decimal}
use Rattle.boogie_tree.specs.declared.tree.Name.{Name}
use Rattle.boogie_tree.specs.declared.tree.Ty.TheVariants.{Int}
use Rattle.boogie_tree.specs.declared.tree.Op.TheVariants.{Add, Ge}
use Rattle.boogie_tree.specs.Tree.{Expression, Lit, Var, Bin, Statement, Assert, Assign, Call, Block, Empty, Then, Modifies, Procedure, Declaration, Global, Declares}
use Rattle.boogie_tree.specs.Places.{beginning}

-- No part of it stands in a text: each has the place of a beginning.
abbrev pub name : List ℕ → Name
name text = record { span = beginning; text = text }

-- the global variable
abbrev pub counter : Name
counter = name (codes "g")

-- the name of the procedure with that number
abbrev pub link_name : ℕ → Name
link_name number = name (codes "p" ++ decimal number)

-- a procedure without parameters that modifies the counter
abbrev pub counting_procedure : Name → Block → Procedure
counting_procedure x b = record {
  span = beginning;
  name = x;
  params = [];
  results = [];
  specs = Modifies (counter ∷ []) ∷ [];
  body = Some (record { locals = []; stmts = b });
}

abbrev pub becomes : Expression → Statement
becomes e = Assign beginning (counter ∷ []) (e ∷ [])

abbrev pub calls : ℕ → Statement
calls number = Call beginning [] (link_name number) []

-- `g := 0; call p1();`
abbrev pub main_procedure : Procedure
main_procedure = counting_procedure (name (codes "main")) (Then (becomes (Lit beginning (pos 0))) (Then (calls 1) Empty))

-- `assert g >= K;`
abbrev pub bound : ℕ → Block
bound number = Then (Assert beginning (Bin beginning Ge (Var beginning counter) (Lit beginning (pos number)))) Empty

-- the call of the next procedure, if there is one, and the assertion
abbrev pub rest_of : Bool → ℕ → Block
rest_of true number = Then (calls (number + 1)) (bound number)
rest_of false number = bound number

-- `g := g + 1;`
abbrev pub counting_step : Statement
counting_step = becomes (Bin beginning Add (Var beginning counter) (Lit beginning (pos 1)))

-- the procedure with that number, which calls the next one or not
abbrev pub link : Bool → ℕ → Procedure
link next number = counting_procedure (link_name number) (Then counting_step (rest_of next number))

-- one more than none
abbrev pub is_positive : ℕ → Bool
is_positive zero = false
is_positive (suc n) = true

-- the procedures from that number on, so many: the last one calls none
unfoldable pub chain : ℕ → ℕ → List Procedure
chain number zero = []
chain number (suc more) = link (is_positive more) number ∷ chain (number + 1) more

abbrev pub declared : Declaration
declared = Global (record { name = counter; ty = Int })

-- `main`, and so many procedures in a chain
abbrev pub generated : ℕ → List Declaration
generated count = declared ∷ map Declares (main_procedure ∷ chain 1 count)
