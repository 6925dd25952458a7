-- Each call opens fewer parentheses or goes less deep, or is of a level that binds more.
use Rattle.std.proofs.Common.{◌≡◌, ◌≤◌, ℕ, ◌+◌, ◌-◌, ◌*◌}
use Rattle.boogie_parse.specs.declared.grammar.expressions.operators.Chain.{Chain}
use Rattle.boogie_parse.specs.declared.grammar.expressions.operators.Chain.TheVariants as chains
use Rattle.boogie_parse.specs.Reading.ExpressionReading as reading
use Rattle.boogie_parse.specs.Ties.ExpressionViews.{tree, HasHeight}
use Rattle.boogie_parse.proofs.grammar.parser.Parser.+expressions.Given as goal

abbrev weight : Chain → ℕ
weight chains.Equivalence = 13
weight chains.Conjunction = 9
weight chains.Disjunction = 9
weight chains.Sum = 5
weight chains.Product = 3

abbrev pub decreases-product : goal.decreases-product
decreases-product l = 32 * (l.parentheses + l.depth) + 3

abbrev pub decreases-sum : goal.decreases-sum
decreases-sum l = 32 * (l.parentheses + l.depth) + 4

abbrev pub decreases-chain_from : goal.decreases-chain_from
decreases-chain_from l = 32 * (l.parentheses + l.depth)

abbrev pub decreases-comparison : goal.decreases-comparison
decreases-comparison l = 32 * (l.parentheses + l.depth) + 8

abbrev pub decreases-group : goal.decreases-group
decreases-group l = 32 * (l.parentheses + l.depth)

abbrev pub decreases-implied : goal.decreases-implied
decreases-implied l = 32 * (l.parentheses + l.depth)

abbrev pub decreases-compared : goal.decreases-compared
decreases-compared l = 32 * (l.parentheses + l.depth)

abbrev pub decreases-prefixed : goal.decreases-prefixed
decreases-prefixed l = 32 * (l.parentheses + l.depth) + 1

abbrev pub decreases-implication : goal.decreases-implication
decreases-implication l = 32 * (l.parentheses + l.depth) + 12

abbrev pub decreases-joined : goal.decreases-joined
decreases-joined l = 32 * (l.parentheses + l.depth) + 1

abbrev pub decreases-old_value : goal.decreases-old_value
decreases-old_value l = 32 * (l.parentheses + l.depth)

abbrev pub decreases-operand : goal.decreases-operand
decreases-operand l = 32 * (l.parentheses + l.depth) + weight l.chain

abbrev pub decreases-primary : goal.decreases-primary
decreases-primary l = 32 * (l.parentheses + l.depth) + 1

abbrev pub decreases-unary : goal.decreases-unary
decreases-unary l = 32 * (l.parentheses + l.depth) + 2

abbrev pub invariant-chain_from-loop-turn : goal.invariant-chain_from-loop-turn
invariant-chain_from-loop-turn l =
    (reading.chain_behind l.chain (reading.operand l.self.end (reading.inside l.self.end l.parentheses) l.chain) l.place l.depth (l.depth - l._turn) (tree l.left) l.left.rest.now
    ≡ reading.chain_behind l.chain (reading.operand l.self.end (reading.inside l.self.end l.parentheses) l.chain) l.place l.depth l.depth (tree l.fn.first) l.fn.first.rest.now)
    × HasHeight l.left
    × (l.left.height ≤ l.depth)
