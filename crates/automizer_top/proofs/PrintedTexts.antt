-- A program's text is empty or begins with a keyword, and the second letter of no such keyword is `c`.
use Rattle.std.proofs.Common.{◌≡◌, List, [], ◌∷◌, get_or, arith}
use Rattle.boogie_tree.specs.Tree.{Declaration, Const, Global, Axiom, Declares, Implements}
use Rattle.boogie_tree.specs.Printing.{program_text}

pub begins_otherwise : (ds : List Declaration) → get_or (program_text ds) 1 0 ≡ 99 → ⊥
begins_otherwise [] h = omega arith
begins_otherwise (Const x ∷ ds) h = omega arith
begins_otherwise (Global x ∷ ds) h = omega arith
begins_otherwise (Axiom s e ∷ ds) h = omega arith
begins_otherwise (Declares p ∷ ds) h = omega arith
begins_otherwise (Implements p ∷ ds) h = omega arith
