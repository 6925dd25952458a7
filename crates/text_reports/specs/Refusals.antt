-- The lines of refused programs.
use Rattle.std.specs.Prelude.{ℕ, List, [], ◌∷◌, ◌++◌, codes}
use Rattle.std.specs.Fmt.{decimal}
use Rattle.boogie_parse.specs.declared.fault.Fault.{Fault}
use Rattle.boogie_parse.specs.declared.fault.Fault.TheVariants.{Syntax, Unsupported, Limit, Memory}
use Rattle.boogie_parse.specs.declared.fault.What.{What}
use Rattle.boogie_parse.specs.declared.fault.What.TheVariants.{Map, Quantifier, Declaration, Operator, Conditional, Concurrency, Real}
use Rattle.boogie_parse.specs.declared.fault.Which.{Which}
use Rattle.boogie_parse.specs.declared.fault.Which.TheVariants.{Literal, Nesting, Procedures, Variables}

-- the name of a part of Boogie that is left out
abbrev pub what_name : What → List ℕ
what_name Map = codes "map"
what_name Quantifier = codes "quantifier"
what_name Declaration = codes "declaration"
what_name Operator = codes "operator"
what_name Conditional = codes "conditional"
what_name Concurrency = codes "concurrency"
what_name Real = codes "real"

-- the name of a limit
abbrev pub which_name : Which → List ℕ
which_name Literal = codes "literal"
which_name Nesting = codes "nesting"
which_name Procedures = codes "procedures"
which_name Variables = codes "variables"

-- ` LINE COLUMN` and the line's end
abbrev pub place_text : ℕ → ℕ → List ℕ
place_text line col = 32 ∷ (decimal line ++ 32 ∷ (decimal col ++ 10 ∷ []))

-- the line of a program with this fault; want of memory is no fault of the program
abbrev pub refusal : Fault → List ℕ
refusal (Syntax line col) = codes "refused Syntax" ++ place_text line col
refusal (Unsupported what line col) = codes "refused Unsupported " ++ what_name what ++ place_text line col
refusal (Limit which line col) = codes "refused Limit " ++ which_name which ++ place_text line col
refusal Memory = []
