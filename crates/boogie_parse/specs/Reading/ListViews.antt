-- What the code of the grammar gives, as the reading functions see it.
use Rattle.std.specs.Prelude.{◌≡◌, ◌≢◌, List, map, Option, None, Some, Result, Ok, Err}
use Rattle.std.specs.Borrow.{Bor}
use Rattle.std.specs.declared.alloc.Global.{Global}
use Rattle.std.specs.declared.vec.Vec.{Vec}
use Rattle.boogie_parse.specs.declared.fault.Fault.{Fault}
use Rattle.boogie_parse.specs.declared.fault.Fault.TheVariants as faults
use Rattle.boogie_parse.specs.declared.symbols.Symbol.{Symbol}
use Rattle.boogie_parse.specs.Reading.Outcomes.{Read}

-- what the code returns is what reading gives, but where memory runs out
abbrev pub Gives : {C X : Type 0} → (C → X) → Result C Fault → Result X Fault → Type 0
Gives view (Ok c) x = x ≡ Ok (view c)
Gives view (Err e) x = e ≢ faults.Memory → x ≡ Err e

-- a value and the symbols behind it
abbrev pub found : {C X : Type 0} → (C → X) → C × Bor (List Symbol) → Read X
found view f = record { value = view f.0; rest = f.1.now }

abbrev pub found_if : {C X : Type 0} → (C → X) → Option (C × Bor (List Symbol)) → Option (Read X)
found_if view None = None
found_if view (Some f) = Some (found view f)

abbrev pub same : {C : Type 0} → C → C
same c = c

abbrev pub items : {C : Type 0} → Vec C Global → List C
items cs = cs.items

abbrev pub items_as : {C X : Type 0} → (C → X) → Vec C Global → List X
items_as view cs = map view cs.items
