-- Reading expressions, step by step as the code does it: the expression that the symbols begin with and the symbols behind it, or the fault.
-- A reader takes the depth that is still allowed, and the symbols.
use Rattle.std.specs.Prelude.{ℕ, zero, suc, ◌-◌, Bool, true, false, nat_le, List, [], ◌∷◌, Option, None, Some, Ok, Err}
use Rattle.boogie_tree.specs.declared.span.Span.{Span}
use Rattle.boogie_tree.specs.declared.level.Level.{Level}
use Rattle.boogie_tree.specs.declared.level.Level.TheVariants.{Equivalence, Implication, Conjunction, Disjunction, Comparison, Sum, Product}
use Rattle.boogie_tree.specs.declared.tree.Op.{Op}
use Rattle.boogie_tree.specs.declared.tree.Op.TheVariants as op
use Rattle.boogie_tree.specs.Tree.{Expression, Lit, Truth, Var, Old, Not, Neg, Bin}
use Rattle.boogie_parse.specs.declared.fault.Which.TheVariants.{Nesting}
use Rattle.boogie_parse.specs.declared.symbols.Fixed.{Fixed}
use Rattle.boogie_parse.specs.declared.symbols.Fixed.TheVariants as fixed
use Rattle.boogie_parse.specs.declared.symbols.Sign.{Sign}
use Rattle.boogie_parse.specs.declared.symbols.Sign.TheVariants as signs
use Rattle.boogie_parse.specs.declared.symbols.Symbol.{Symbol}
use Rattle.boogie_parse.specs.declared.grammar.expressions.operators.Chain.{Chain}
use Rattle.boogie_parse.specs.declared.grammar.expressions.operators.Chain.TheVariants as chains
use Rattle.boogie_parse.specs.declared.grammar.expressions.operators.Prefix.{Prefix}
use Rattle.boogie_parse.specs.declared.grammar.expressions.operators.Prefix.TheVariants as prefixes
use Rattle.boogie_parse.specs.Rules.Grammar.{links, compares}
use Rattle.boogie_parse.specs.Rules.GrammarLimits.{depth}
use Rattle.boogie_parse.specs.Reading.Outcomes.{ReadResult, place_or, syntax_fault, limit_fault, refused, and_then}

abbrev pub Reader : Type 0
Reader = ℕ → List Symbol → ReadResult Expression

-- an expression, and what is behind it
abbrev pub done : Expression → List Symbol → ReadResult Expression
done e r = Ok (record { value = e; rest = r })

-- one more would be too deep
abbrev pub too_deep : Span → ReadResult Expression
too_deep here = Err (limit_fault Nesting here)

-- one more is too deep where the test says so
abbrev pub unless_deep : Bool → Span → ReadResult Expression → ReadResult Expression
unless_deep true here go = too_deep here
unless_deep false here go = go

-- the binary operator of that level that is spelled so
abbrev pub joins : Level → Fixed → Option Op
joins Implication fixed.Implies = Some op.Implies
joins Comparison f = compares f
joins level f = links level f

abbrev pub sign_joins : Level → Sign → Option Op
sign_joins level (signs.Fixed f) = joins level f
sign_joins level s = None

-- an operator where it stands, and the symbols behind it
abbrev pub Infix : Type 0
Infix = Op × Span × List Symbol

abbrev pub infix_of : Span → List Symbol → Option Op → Option Infix
infix_of here r None = None
infix_of here r (Some o) = Some (o, here, r)

-- the operator of that level that the symbols begin with
abbrev pub infix_at : Level → List Symbol → Option Infix
infix_at level [] = None
infix_at level (t ∷ ts) = infix_of t.span ts (sign_joins level t.sign)

-- The expression stands alone where no operator follows; else `go` reads on from the operator.
abbrev pub unless_alone : Expression → List Symbol → (Op → Span → List Symbol → ReadResult Expression) → Option Infix → ReadResult Expression
unless_alone a r go None = done a r
unless_alone a r go (Some x) = go x.0 x.1 x.2

-- the operation whose right operand is read
abbrev pub binary_operation : Span → Op → Expression → ReadResult Expression → ReadResult Expression
binary_operation here o a right = and_then right (λ b r. done (Bin here o a b) r)

-- the levels of the chains
abbrev pub level_of_chain : Chain → Level
level_of_chain chains.Equivalence = Equivalence
level_of_chain chains.Conjunction = Conjunction
level_of_chain chains.Disjunction = Disjunction
level_of_chain chains.Sum = Sum
level_of_chain chains.Product = Product

-- One more operation of a chain that begins at that place, where d is allowed; `next` reads on from it.
abbrev pub linked : Reader → Span → ℕ → (Expression → List Symbol → ReadResult Expression) → Expression → Op → Span → List Symbol → ReadResult Expression
linked operand here d next a o at m = unless_deep (nat_le d (depth a)) at (and_then (operand (d - 1) m) (λ b r. next (Bin here o a b) r))

-- A chain, read on from its first operands, with k more at most: to the left.
unfoldable pub chain_behind : Chain → Reader → Span → ℕ → ℕ → Expression → List Symbol → ReadResult Expression
chain_behind c operand here d zero a r = unless_alone a r (λ o at m. too_deep at) (infix_at (level_of_chain c) r)
chain_behind c operand here d (suc k) a r = unless_alone a r (linked operand here d (chain_behind c operand here d k) a) (infix_at (level_of_chain c) r)

-- a whole chain
abbrev pub chained : Span → Chain → Reader → Reader
chained end c operand d ts = and_then (operand d ts) (chain_behind c operand (place_or end ts) d d)

-- `(`
abbrev pub opens : Sign → Bool
opens (signs.Fixed fixed.OpenParenthesis) = true
opens s = false

-- `)`
abbrev pub closes : Sign → Bool
closes (signs.Fixed fixed.CloseParenthesis) = true
closes s = false

abbrev pub behind_if : Bool → List Symbol → Option (List Symbol)
behind_if true ts = Some ts
behind_if false ts = None

-- what is behind the first symbol, where that is such a one
abbrev pub behind_sign : (Sign → Bool) → List Symbol → Option (List Symbol)
behind_sign test [] = None
behind_sign test (t ∷ ts) = behind_if (test t.sign) ts

-- what must stand there; `go` reads on from behind it
abbrev pub expected : Span → List Symbol → (List Symbol → ReadResult Expression) → Option (List Symbol) → ReadResult Expression
expected end ts go None = refused end ts
expected end ts go (Some m) = go m

-- the closing parenthesis
abbrev pub closed : Span → Expression → List Symbol → ReadResult Expression
closed end e r = expected end r (done e) (behind_sign closes r)

-- `!` and unary `-`
abbrev pub prefix_of : Sign → Option Prefix
prefix_of (signs.Fixed fixed.Not) = Some prefixes.Not
prefix_of (signs.Fixed fixed.Minus) = Some prefixes.Neg
prefix_of s = None

abbrev pub prefix_by : Span → List Symbol → Option Prefix → Option (Prefix × Span × List Symbol)
prefix_by here r None = None
prefix_by here r (Some o) = Some (o, here, r)

abbrev pub prefix_at : List Symbol → Option (Prefix × Span × List Symbol)
prefix_at [] = None
prefix_at (t ∷ ts) = prefix_by t.span ts (prefix_of t.sign)

abbrev pub prefixed : Prefix → Span → Expression → Expression
prefixed prefixes.Not here e = Not here e
prefixed prefixes.Neg here e = Neg here e

abbrev pub over : Prefix → Span → ReadResult Expression → ReadResult Expression
over o here x = and_then x (λ e r. done (prefixed o here e) r)

abbrev pub if_prefixed : ReadResult Expression → (Prefix → Span → List Symbol → ReadResult Expression) → Option (Prefix × Span × List Symbol) → ReadResult Expression
if_prefixed plain go None = plain
if_prefixed plain go (Some x) = go x.0 x.1 x.2

-- `inner` reads what stands in parentheses, from the opening one on
abbrev pub old_value : Reader → Span → Reader
old_value inner here zero ts = too_deep here
old_value inner here (suc d) ts = and_then (inner d ts) (λ e r. done (Old here e) r)

abbrev pub word_value : Reader → ℕ → Symbol → List Symbol → Fixed → ReadResult Expression
word_value inner d t ts fixed.True = done (Truth t.span true) ts
word_value inner d t ts fixed.False = done (Truth t.span false) ts
word_value inner d t ts fixed.Old = old_value inner t.span d ts
word_value inner d t ts fixed.OpenParenthesis = inner d (t ∷ ts)
word_value inner d t ts f = Err (syntax_fault t.span)

abbrev pub sign_value : Reader → ℕ → Symbol → List Symbol → Sign → ReadResult Expression
sign_value inner d t ts (signs.Number n) = done (Lit t.span n) ts
sign_value inner d t ts (signs.Name x) = done (Var t.span (record { span = t.span; text = x })) ts
sign_value inner d t ts (signs.Fixed f) = word_value inner d t ts f

-- literals, names, `old` and parentheses
abbrev pub primary : Span → Reader → Reader
primary end inner d [] = refused end []
primary end inner d (t ∷ ts) = sign_value inner d t ts t.sign

-- `!`, unary `-` and what binds more
unfoldable pub unary : Span → Reader → Reader
unary end inner zero ts = if_prefixed (primary end inner zero ts) (λ o at m. too_deep at) (prefix_at ts)
unary end inner (suc d) ts = if_prefixed (primary end inner (suc d) ts) (λ o at m. over o at (unary end inner d m)) (prefix_at ts)

abbrev pub factor_chain : Span → Reader → Reader
factor_chain end inner = chained end chains.Product (unary end inner)

abbrev pub sum : Span → Reader → Reader
sum end inner = chained end chains.Sum (factor_chain end inner)

-- one comparison at most
unfoldable pub comparison : Span → Reader → Reader
comparison end inner d ts =
    and_then (sum end inner d ts) (λ a r.
    unless_alone a r (λ o at m. unless_deep (nat_le d (depth a)) at (binary_operation (place_or end ts) o a (sum end inner (d - 1) m))) (infix_at Comparison r))

abbrev pub junction_by : Option Infix → Chain
junction_by None = chains.Conjunction
junction_by (Some x) = chains.Disjunction

-- a chain of `&&` or one of `||`, as the first operator says
abbrev pub junction : Span → Reader → Reader
junction end inner d ts =
    and_then (comparison end inner d ts) (λ a r.
    chain_behind (junction_by (infix_at Disjunction r)) (comparison end inner) (place_or end ts) d d a r)

-- `==>` groups to the right
unfoldable pub implication : Span → Reader → Reader
implication end inner zero ts =
    and_then (junction end inner zero ts) (λ a r.
    unless_alone a r (λ o at m. too_deep at) (infix_at Implication r))
implication end inner (suc d) ts =
    and_then (junction end inner (suc d) ts) (λ a r.
    unless_alone a r (λ o at m. unless_deep (nat_le (suc d) (depth a)) at (binary_operation (place_or end ts) o a (implication end inner d m))) (infix_at Implication r))

abbrev pub equivalence : Span → Reader → Reader
equivalence end inner = chained end chains.Equivalence (implication end inner)

-- the operands of each chain
abbrev pub operand : Span → Reader → Chain → Reader
operand end inner chains.Equivalence = implication end inner
operand end inner chains.Conjunction = comparison end inner
operand end inner chains.Disjunction = comparison end inner
operand end inner chains.Sum = factor_chain end inner
operand end inner chains.Product = unary end inner

-- an expression in parentheses, from the opening one on, where p may be open at once
unfoldable pub inside : Span → ℕ → Reader
inside end zero d ts = expected end ts (λ m. too_deep (place_or end ts)) (behind_sign opens ts)
inside end (suc p) d ts = expected end ts (λ m. and_then (equivalence end (inside end p) d m) (closed end)) (behind_sign opens ts)

-- an expression, where p parentheses may be open in it at once
abbrev pub expression : Span → ℕ → Reader
expression end p = equivalence end (inside end p)
