-- What the code of statements gives, as the reading functions see it.
use Rattle.std.specs.Prelude.{◌≡◌, ◌≢◌, ℕ, List, [], ◌∷◌, ◌++◌, Option, None, Some, Result, Ok, Err}
use Rattle.std.specs.Borrow.{Bor}
use Rattle.std.specs.declared.alloc.Global.{Global}
use Rattle.std.specs.declared.vec.Vec.{Vec}
use Rattle.boogie_tree.specs.declared.span.Span.{Span}
use Rattle.boogie_tree.specs.declared.tree.Stmt.{Stmt}
use Rattle.boogie_tree.specs.Tree.{Statement, Block}
use Rattle.boogie_tree.specs.View.{statement, statements}
use Rattle.boogie_parse.specs.declared.fault.Fault.{Fault}
use Rattle.boogie_parse.specs.declared.fault.Fault.TheVariants as faults
use Rattle.boogie_parse.specs.declared.symbols.Symbol.{Symbol}
use Rattle.boogie_parse.specs.Reading.Outcomes.{ReadResult}
use Rattle.boogie_parse.specs.Reading.ListReading.{read, Possible, expression_at}
use Rattle.boogie_parse.specs.Reading.StatementReading.{Inside, inside_at}

-- how to read what opens a block, where 200 parentheses and so many blocks may be opened
abbrev pub inside : Span → ℕ → Inside
inside end b = inside_at (expression_at end) end 200 b

abbrev pub block_of : Vec Stmt Global → Block
block_of ss = statements ss.items

-- One statement more stands at the end of the code's list: with the symbols behind it, it is what reading gives, but where memory runs out.
abbrev pub Adds : List Stmt → List Stmt → Result (Bor (List Symbol)) Fault → ReadResult Statement → Type 0
Adds old new (Ok rest) x = (s : Stmt) × (new ≡ old ++ s ∷ []) × (x ≡ read (statement s) rest.now)
Adds old new (Err e) x = e ≢ faults.Memory → x ≡ Err e

-- the same of a statement that may stand there or not
abbrev pub AddsIf : List Stmt → List Stmt → Result (Option (Bor (List Symbol))) Fault → Possible Statement → Type 0
AddsIf old new (Ok None) x = (new ≡ old) × (x ≡ Ok None)
AddsIf old new (Ok (Some rest)) x = (s : Stmt) × (new ≡ old ++ s ∷ []) × (x ≡ Ok (Some (record { value = statement s; rest = rest.now })))
AddsIf old new (Err e) x = e ≢ faults.Memory → x ≡ Err e
