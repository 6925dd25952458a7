-- What the laws on reading expressions speak of.
use Rattle.std.specs.Prelude.{◌≡◌, ℕ, ◌≤◌, List, [], ◌∷◌, Ok, Err}
use Rattle.boogie_tree.specs.declared.level.Level.{Level}
use Rattle.boogie_tree.specs.Levels.{rank}
use Rattle.boogie_parse.specs.declared.fault.Fault.TheVariants as faults
use Rattle.boogie_parse.specs.declared.symbols.Fixed.{Fixed}
use Rattle.boogie_parse.specs.declared.symbols.Fixed.TheVariants as fixed
use Rattle.boogie_parse.specs.declared.symbols.Sign.{Sign}
use Rattle.boogie_parse.specs.declared.symbols.Sign.TheVariants as signs
use Rattle.boogie_parse.specs.declared.symbols.Symbol.{Symbol}
use Rattle.boogie_parse.specs.Reading.Outcomes.{ReadResult}

-- one more than the rank of a binary operator's level; 0 for all other words and marks
abbrev pub strength : Fixed → ℕ
strength fixed.Iff = 1
strength fixed.Implies = 2
strength fixed.And = 3
strength fixed.Or = 3
strength fixed.Equal = 4
strength fixed.Unequal = 4
strength fixed.Less = 4
strength fixed.AtMost = 4
strength fixed.Greater = 4
strength fixed.AtLeast = 4
strength fixed.Plus = 5
strength fixed.Minus = 5
strength fixed.Star = 6
strength fixed.Div = 6
strength fixed.Mod = 6
strength f = 0

abbrev pub sign_strength : Sign → ℕ
sign_strength (signs.Fixed f) = strength f
sign_strength s = 0

abbrev pub first_strength : List Symbol → ℕ
first_strength [] = 0
first_strength (t ∷ ts) = sign_strength t.sign

-- no operator follows that would carry an expression of that level on
abbrev pub Ends : Level → List Symbol → Type 0
Ends level r = first_strength r ≤ rank level

-- What is read, or refused as no syntax, is so in the other outcome too. A limit says nothing of it.
abbrev pub Grows : {X : Type 0} → ReadResult X → ReadResult X → Type 0
Grows (Ok x) y = y ≡ Ok x
Grows (Err (faults.Syntax line col)) y = y ≡ Err (faults.Syntax line col)
Grows (Err f) y = Unit {0}
