-- What the code reads, as contracts see it.
use Rattle.std.specs.Prelude.{◌≡◌, ◌≢◌, List, Option, None, Some, Result, Ok, Err}
use Rattle.std.specs.Borrow.{Bor}
use Rattle.boogie_tree.specs.declared.span.Span.{Span}
use Rattle.boogie_tree.specs.Tree.{Expression}
use Rattle.boogie_tree.specs.View as view
use Rattle.boogie_parse.specs.declared.fault.Fault.{Fault}
use Rattle.boogie_parse.specs.declared.fault.Fault.TheVariants as faults
use Rattle.boogie_parse.specs.declared.symbols.Symbol.{Symbol}
use Rattle.boogie_parse.specs.declared.grammar.found.Found.{Found}
use Rattle.boogie_parse.specs.Rules.GrammarLimits as limits
use Rattle.boogie_parse.specs.Reading.Outcomes.{Read, ReadResult}

abbrev pub tree : Found → Expression
tree f = view.expression f.expr.value

abbrev pub found : Found → Read Expression
found f = record { value = tree f; rest = f.rest.now }

-- the call gives what is expected, unless memory runs out
abbrev pub Gives : Result Found Fault → ReadResult Expression → Type 0
Gives (Ok f) x = x ≡ Ok (found f)
Gives (Err e) x = e ≢ faults.Memory → x ≡ Err e

-- the height is the depth of the tree
abbrev pub HasHeight : Found → Type 0
HasHeight f = f.height ≡ limits.depth (tree f)

-- an operator that was seen, and the symbols behind it
abbrev pub seen : {X : Type 0} → Option (X × Span × Bor (List Symbol)) → Option (X × Span × List Symbol)
seen None = None
seen (Some x) = Some (x.0, x.1, x.2.now)

-- the symbols behind a mark that was seen
abbrev pub behind : Option (Bor (List Symbol)) → Option (List Symbol)
behind None = None
behind (Some r) = Some r.now
