-- Expressions that stand nowhere in a text.
use Rattle.std.specs.Prelude.{ℕ, zero, suc, ℤ, pos, negsuc, Bool, nat_le, List, [], ◌∷◌, length, take, drop, Option, None, Some, if◌then◌else◌}
use Rattle.boogie_tree.specs.declared.tree.Op.{Op}
use Rattle.boogie_tree.specs.Tree.{Expression, Lit, Truth, Var, Old, Not, Neg, Bin}
use Rattle.boogie_tree.specs.Apart.{nowhere}

abbrev pub variable : List ℕ → Expression
variable name = Var nowhere (record { span = nowhere; text = name })

-- a number as the parser reads it: one below 0 is a `-` and a literal
abbrev pub number : ℤ → Expression
number (pos n) = Lit nowhere (pos n)
number (negsuc n) = Neg nowhere (Lit nowhere (pos (suc n)))

abbrev pub truth : Bool → Expression
truth b = Truth nowhere b

abbrev pub not_of : Expression → Expression
not_of e = Not nowhere e

abbrev pub old_of : Expression → Expression
old_of e = Old nowhere e

abbrev pub operation : Op → Expression → Expression → Expression
operation op a b = Bin nowhere op a b

-- operands in a row behind the first
abbrev pub in_a_row : Op → Expression → List Expression → Expression
in_a_row op e [] = e
in_a_row op e (f ∷ fs) = in_a_row op (operation op e f) fs

-- the operation on what is there and one operand more
abbrev pub with_operand : Op → Option Expression → Expression → Expression
with_operand op None e = e
with_operand op (Some f) e = operation op f e

abbrev pub row_of : Op → List Expression → Option Expression
row_of op [] = None
row_of op (e ∷ es) = Some (in_a_row op e es)

abbrev pub added : Option Expression → List Expression → List Expression
added None es = es
added (Some e) es = e ∷ es

-- operands in groups of sixteen, each in a row; the first number bounds how many there are
unfoldable pub in_groups : ℕ → Op → List Expression → List Expression
in_groups zero op es = []
in_groups (suc n) op [] = []
in_groups (suc n) op (e ∷ es) = added (row_of op (take 16 (e ∷ es))) (in_groups n op (drop 16 (e ∷ es)))

-- The operation on all operands: in a row where there are sixteen at most, else in groups that are joined likewise. The first number bounds how often.
unfoldable pub chained_within : ℕ → Op → List Expression → Option Expression
chained_within zero op es = row_of op es
chained_within (suc n) op es = if nat_le (length es) 16 then row_of op es else chained_within n op (in_groups (length es) op es)

abbrev pub chained : Op → List Expression → Option Expression
chained op es = chained_within (length es) op es
