-- How strongly expressions bind, and where an operand needs parentheses.
use Rattle.std.specs.Prelude.{ℕ, ℤ, pos, negsuc, Bool, true, false, ◌||◌, nat_le}
use Rattle.boogie_tree.specs.declared.level.Level.{Level}
use Rattle.boogie_tree.specs.declared.level.Level.TheVariants.{Equivalence, Implication, Junction, Conjunction, Disjunction, Comparison, Sum, Product, Unary, Primary}
use Rattle.boogie_tree.specs.declared.tree.Op.{Op}
use Rattle.boogie_tree.specs.declared.tree.Op.TheVariants.{Iff, Implies, And, Or, Eq, Ne, Lt, Le, Gt, Ge, Add, Sub, Mul, Div, Mod}
use Rattle.boogie_tree.specs.Tree.{Expression, Lit, Truth, Var, Old, Not, Neg, Bin}

-- from the weakest to the strongest
abbrev pub rank : Level → ℕ
rank Equivalence = 0
rank Implication = 1
rank Junction = 2
rank Conjunction = 2
rank Disjunction = 2
rank Comparison = 3
rank Sum = 4
rank Product = 5
rank Unary = 6
rank Primary = 7

abbrev pub is_conjunction : Level → Bool
is_conjunction Conjunction = true
is_conjunction level = false

abbrev pub is_disjunction : Level → Bool
is_disjunction Disjunction = true
is_disjunction level = false

-- Where a level is asked for, an expression of that level stands without parentheses. `&&` and `||` do not mix.
abbrev pub may_stand : Level → Level → Bool
may_stand Conjunction own = is_conjunction own || nat_le (rank Comparison) (rank own)
may_stand Disjunction own = is_disjunction own || nat_le (rank Comparison) (rank own)
may_stand asked own = nat_le (rank asked) (rank own)

-- the level of an operation
abbrev pub level_of_operator : Op → Level
level_of_operator Iff = Equivalence
level_of_operator Implies = Implication
level_of_operator And = Conjunction
level_of_operator Or = Disjunction
level_of_operator Eq = Comparison
level_of_operator Ne = Comparison
level_of_operator Lt = Comparison
level_of_operator Le = Comparison
level_of_operator Gt = Comparison
level_of_operator Ge = Comparison
level_of_operator Add = Sum
level_of_operator Sub = Sum
level_of_operator Mul = Product
level_of_operator Div = Product
level_of_operator Mod = Product

-- The level that is asked of the operand before an operator: all chains but that of `==>` group to the left, and comparisons make no chain.
abbrev pub left_of : Level → Level
left_of Implication = Junction
left_of Comparison = Sum
left_of level = level

-- the level that is asked of the operand behind an operator: `==>` groups to the right
abbrev pub right_of : Level → Level
right_of Equivalence = Implication
right_of Implication = Implication
right_of Junction = Comparison
right_of Conjunction = Comparison
right_of Disjunction = Comparison
right_of Comparison = Sum
right_of Sum = Product
right_of Product = Unary
right_of Unary = Primary
right_of Primary = Primary

-- A literal below 0 binds like the unary `-` that its text begins with; the grammar reads no such literal.
abbrev pub level_of_literal : ℤ → Level
level_of_literal (pos n) = Primary
level_of_literal (negsuc n) = Unary

abbrev pub level_of : Expression → Level
level_of (Lit s n) = level_of_literal n
level_of (Truth s b) = Primary
level_of (Var s x) = Primary
level_of (Old s e) = Primary
level_of (Not s e) = Unary
level_of (Neg s e) = Unary
level_of (Bin s op a b) = level_of_operator op
