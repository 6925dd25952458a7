use Rattle.std.proofs.Common.{◌≡◌, suc, ◌+◌, ◌-◌, List, refl, ap, sym, ◌∙◌, subst, arith}
use Rattle.std.proofs.lemmas.Result.{err_from_is_err_and}
use Rattle.boogie_tree.specs.declared.level.Level.TheVariants.{Implication, Comparison}
use Rattle.boogie_parse.specs.declared.symbols.Symbol.{Symbol}
use Rattle.boogie_parse.specs.Reading.ExpressionReading as reading
use Rattle.boogie_parse.specs.Ties.ExpressionViews.{tree, Gives, seen, behind}
use Rattle.boogie_parse.proofs.Reading.ExpressionSteps.{turn_deep, turn_fails, turn_goes, turn_full, unary_step}
use Rattle.boogie_parse.proofs.Reading.ExpressionExits as exits
use Rattle.boogie_parse.proofs.grammar.parser.Parser.+expressions.Goals as goal

pub chain_from-returns-then-left-depth-clause-gives : goal.chain_from-returns-then-left-depth-clause-gives
chain_from-returns-then-left-depth-clause-gives t c = λ _.
    turn_deep _ _ _ _ _ _ _ _ _ _ _ c.loop-turn.invariant.0 c.level.ensures c.in-Some.ensures c.loop-turn.invariant.1 _ c.if-left-depth.true c.past_limit.ensures

pub chain_from-returns-in_err-right-clause-gives : goal.chain_from-returns-in_err-right-clause-gives
chain_from-returns-in_err-right-clause-gives t c =
    let p = err_from_is_err_and c.from_residual.result c.from_residual.ensures.1 in
    let turns : c.args.depth - c.loop-turn._turn ≡ suc (c.args.depth - (c.loop-turn._turn + 1)) = omega arith in
    rw (p.1, p.2)
    (turn_fails _ _ _ _ _ _ _ _ _ _ _ c.loop-turn.invariant.0 c.level.ensures c.in-Some.ensures c.loop-turn.invariant.1
    (c.args.depth - (c.loop-turn._turn + 1)) _ c.if-left-depth.false turns c.in_err-right.ensures.gives)

pub chain_from-loop-turn-preserved : goal.chain_from-loop-turn-preserved
chain_from-loop-turn-preserved t c =
    let turns : c.args.depth - c.loop-turn._turn ≡ suc (c.args.depth - (c.loop-turn._turn + 1)) = omega arith in (
      turn_goes _ _ _ _ _ _ _ _ _ _ _ c.loop-turn.invariant.0 c.level.ensures c.in-Some.ensures c.loop-turn.invariant.1
          (c.args.depth - (c.loop-turn._turn + 1)) _ _ _ _ c.if-left-depth.false turns c.in_ok-right.ensures.gives c.in_ok-left.ensures.gives,
      c.in_ok-left.ensures.height,
      omega (arith, c.in_ok-left.ensures.same, c.in_ok-right.ensures.low),
    )

pub chain_from-returns-clause-gives : goal.chain_from-returns-clause-gives
chain_from-returns-clause-gives t c = λ _.
    let none : c.args.depth - c.loop-turn._turn ≡ 0 = omega arith in
    turn_full _ _ _ _ _ _ _ _ _ _ _ c.loop-turn.invariant.0 c.level-2.ensures c.in-Some-infix_at.ensures c.loop-turn.invariant.1 _ none c.past_limit-in-Some-infix_at.ensures

pub chain_from-returns-in_default-clause-gives : goal.chain_from-returns-in_default-clause-gives
chain_from-returns-in_default-clause-gives t c =
    exits.turn_stops _ _ _ _ _ _ _ _ _ c.loop-turn.invariant.0 c.level.ensures (sym (ap seen c.in_default.is) ∙ c.infix_at.ensures)

pub chain_from-returns-in-None-clause-gives : goal.chain_from-returns-in-None-clause-gives
chain_from-returns-in-None-clause-gives t c = exits.turn_stops _ _ _ _ _ _ _ _ _ c.loop-turn.invariant.0 c.level-2.ensures c.in-None.ensures

pub chain_from-returns-in_err-left-clause-gives : goal.chain_from-returns-in_err-left-clause-gives
chain_from-returns-in_err-left-clause-gives t c =
    let p = err_from_is_err_and c.from_residual-in_err-left.result c.from_residual-in_err-left.ensures.1 in
    rw (p.1, p.2) (λ m. exits.never_fails _ _ _ _ (c.in_err-left.ensures.gives m))

-- `==>`

pub implication-returns-in_err-first-clause-gives : goal.implication-returns-in_err-first-clause-gives
implication-returns-in_err-first-clause-gives t c =
    let p = err_from_is_err_and c.from_residual.result c.from_residual.ensures.1 in
    rw (p.1, p.2)
    (λ m. exits.implication_comparison_fails c.args.self.now.end (reading.inside c.args.self.now.end c.args.parentheses) c.args.depth c.args.symbols.now _ c.place-place.ensures _
    (exits.comparison_first_fails c.args.self.now.end (reading.inside c.args.self.now.end c.args.parentheses) c.args.depth c.args.symbols.now _ c.place-place.ensures _ (c.in_err-first.ensures.gives m)))

pub implication-returns-in_err-product-clause-gives : goal.implication-returns-in_err-product-clause-gives
implication-returns-in_err-product-clause-gives t c =
    let p = err_from_is_err_and c.from_residual-in_err-product.result c.from_residual-in_err-product.ensures.1 in
    rw (p.1, p.2)
    (λ m. exits.implication_comparison_fails c.args.self.now.end (reading.inside c.args.self.now.end c.args.parentheses) c.args.depth c.args.symbols.now _ c.place-place.ensures _
    (exits.comparison_product_fails c.args.self.now.end (reading.inside c.args.self.now.end c.args.parentheses) c.args.depth c.args.symbols.now _ c.place-place.ensures _ _ _ c.in_ok-first.ensures.gives (c.in_err-product.ensures.gives m)))

pub implication-returns-in_err-sum-clause-gives : goal.implication-returns-in_err-sum-clause-gives
implication-returns-in_err-sum-clause-gives t c =
    let p = err_from_is_err_and c.from_residual-in_err-sum.result c.from_residual-in_err-sum.ensures.1 in
    rw (p.1, p.2)
    (λ m. exits.implication_comparison_fails c.args.self.now.end (reading.inside c.args.self.now.end c.args.parentheses) c.args.depth c.args.symbols.now _ c.place-place.ensures _
    (exits.comparison_sum_fails c.args.self.now.end (reading.inside c.args.self.now.end c.args.parentheses) c.args.depth c.args.symbols.now _ c.place-place.ensures _ _ _ _ _ c.in_ok-first.ensures.gives c.in_ok-product.ensures.gives (c.in_err-sum.ensures.gives m)))

pub implication-returns-in_err-comparison-clause-gives : goal.implication-returns-in_err-comparison-clause-gives
implication-returns-in_err-comparison-clause-gives t c =
    let p = err_from_is_err_and c.from_residual-in_err-comparison.result c.from_residual-in_err-comparison.ensures.1 in
    rw (p.1, p.2)
    (λ m. exits.implication_comparison_fails c.args.self.now.end (reading.inside c.args.self.now.end c.args.parentheses) c.args.depth c.args.symbols.now _ c.place-place.ensures _
    (exits.comparison_goes c.args.self.now.end (reading.inside c.args.self.now.end c.args.parentheses) c.args.depth c.args.symbols.now _ c.place-place.ensures _ _ _ _ _ _ c.in_ok-first.ensures.gives c.in_ok-product.ensures.gives c.in_ok-sum.ensures.gives ∙ c.in_err-comparison.ensures.gives m))

pub implication-returns-in_err-junction-clause-gives : goal.implication-returns-in_err-junction-clause-gives
implication-returns-in_err-junction-clause-gives t c =
    let p = err_from_is_err_and c.from_residual-in_err-junction.result c.from_residual-in_err-junction.ensures.1 in
    rw (p.1, p.2)
    (λ m. exits.implication_junction_fails c.args.self.now.end (reading.inside c.args.self.now.end c.args.parentheses) c.args.depth c.args.symbols.now _ c.place-place.ensures _ _ _
    (exits.comparison_goes c.args.self.now.end (reading.inside c.args.self.now.end c.args.parentheses) c.args.depth c.args.symbols.now _ c.place-place.ensures _ _ _ _ _ _ c.in_ok-first.ensures.gives c.in_ok-product.ensures.gives c.in_ok-sum.ensures.gives ∙ c.in_ok-comparison.ensures.gives) (c.in_err-junction.ensures.gives m))

pub implication-returns-clause-gives : goal.implication-returns-clause-gives
implication-returns-clause-gives t c =
    subst (λ o. Gives c.implied.result o)
    (sym (exits.implication_goes c.args.self.now.end (reading.inside c.args.self.now.end c.args.parentheses) c.args.depth c.args.symbols.now _ c.place-place.ensures _ _ _ _
    (exits.comparison_goes c.args.self.now.end (reading.inside c.args.self.now.end c.args.parentheses) c.args.depth c.args.symbols.now _ c.place-place.ensures _ _ _ _ _ _ c.in_ok-first.ensures.gives c.in_ok-product.ensures.gives c.in_ok-sum.ensures.gives ∙ c.in_ok-comparison.ensures.gives) c.in_ok-junction.ensures.gives))
    c.implied.ensures.gives

pub implied-returns-in_default-clause-gives : goal.implied-returns-in_default-clause-gives
implied-returns-in_default-clause-gives t c =
    exits.stays_alone (reading.done (tree c.args.left) c.args.left.rest.now) Implication (λ (ts : List Symbol). reading.implication c.args.self.now.end (reading.inside c.args.self.now.end c.args.parentheses) (c.args.depth - 1) ts) c.args.place c.args.depth _ _
    refl (sym (ap seen c.in_default.is) ∙ c.infix_at.ensures)

pub implied-returns-then-left-depth-clause-gives : goal.implied-returns-then-left-depth-clause-gives
implied-returns-then-left-depth-clause-gives t c = λ _.
    exits.goes_too_deep (reading.done (tree c.args.left) c.args.left.rest.now) Implication (λ (ts : List Symbol). reading.implication c.args.self.now.end (reading.inside c.args.self.now.end c.args.parentheses) (c.args.depth - 1) ts) c.args.place c.args.depth _ _ _ _ _
    refl c.in-Some.ensures c.requires.left_height c.if-left-depth.true c.past_limit.ensures

pub implied-returns-in_err-right-clause-gives : goal.implied-returns-in_err-right-clause-gives
implied-returns-in_err-right-clause-gives t c =
    let p = err_from_is_err_and c.from_residual.result c.from_residual.ensures.1 in
    rw (p.1, p.2)
    (λ m. exits.next_fails (reading.done (tree c.args.left) c.args.left.rest.now) Implication (λ (ts : List Symbol). reading.implication c.args.self.now.end (reading.inside c.args.self.now.end c.args.parentheses) (c.args.depth - 1) ts) c.args.place c.args.depth _ _ _ _ _
    refl c.in-Some.ensures c.requires.left_height c.if-left-depth.false (c.in_err-right.ensures.gives m))

pub implied-returns-clause-gives : goal.implied-returns-clause-gives
implied-returns-clause-gives t c =
    exits.operation_gives (reading.done (tree c.args.left) c.args.left.rest.now) Implication (λ (ts : List Symbol). reading.implication c.args.self.now.end (reading.inside c.args.self.now.end c.args.parentheses) (c.args.depth - 1) ts) c.args.place c.args.depth c.operation.result c.args.place _ _ _ _ _ _
    refl c.in-Some.ensures c.requires.left_height c.if-left-depth.false c.in_ok-right.ensures.gives refl c.operation.ensures.gives

-- comparisons

pub comparison-returns-in_err-first-clause-gives : goal.comparison-returns-in_err-first-clause-gives
comparison-returns-in_err-first-clause-gives t c =
    let p = err_from_is_err_and c.from_residual.result c.from_residual.ensures.1 in
    rw (p.1, p.2)
    (λ m. exits.comparison_first_fails c.args.self.now.end (reading.inside c.args.self.now.end c.args.parentheses) c.args.depth c.args.symbols.now _ c.place-place.ensures _ (c.in_err-first.ensures.gives m))

pub comparison-returns-in_err-product-clause-gives : goal.comparison-returns-in_err-product-clause-gives
comparison-returns-in_err-product-clause-gives t c =
    let p = err_from_is_err_and c.from_residual-in_err-product.result c.from_residual-in_err-product.ensures.1 in
    rw (p.1, p.2)
    (λ m. exits.comparison_product_fails c.args.self.now.end (reading.inside c.args.self.now.end c.args.parentheses) c.args.depth c.args.symbols.now _ c.place-place.ensures _ _ _ c.in_ok-first.ensures.gives (c.in_err-product.ensures.gives m))

pub comparison-returns-in_err-sum-clause-gives : goal.comparison-returns-in_err-sum-clause-gives
comparison-returns-in_err-sum-clause-gives t c =
    let p = err_from_is_err_and c.from_residual-in_err-sum.result c.from_residual-in_err-sum.ensures.1 in
    rw (p.1, p.2)
    (λ m. exits.comparison_sum_fails c.args.self.now.end (reading.inside c.args.self.now.end c.args.parentheses) c.args.depth c.args.symbols.now _ c.place-place.ensures _ _ _ _ _ c.in_ok-first.ensures.gives c.in_ok-product.ensures.gives (c.in_err-sum.ensures.gives m))

pub comparison-returns-clause-gives : goal.comparison-returns-clause-gives
comparison-returns-clause-gives t c =
    subst (λ o. Gives c.compared.result o)
    (sym (exits.comparison_goes c.args.self.now.end (reading.inside c.args.self.now.end c.args.parentheses) c.args.depth c.args.symbols.now _ c.place-place.ensures _ _ _ _ _ _ c.in_ok-first.ensures.gives c.in_ok-product.ensures.gives c.in_ok-sum.ensures.gives))
    c.compared.ensures.gives

pub compared-returns-in_default-clause-gives : goal.compared-returns-in_default-clause-gives
compared-returns-in_default-clause-gives t c =
    exits.stays_alone (reading.done (tree c.args.left) c.args.left.rest.now) Comparison (λ (ts : List Symbol). reading.sum c.args.self.now.end (reading.inside c.args.self.now.end c.args.parentheses) (c.args.depth - 1) ts) c.args.place c.args.depth _ _
    refl (sym (ap seen c.in_default.is) ∙ c.infix_at.ensures)

pub compared-returns-then-left-depth-clause-gives : goal.compared-returns-then-left-depth-clause-gives
compared-returns-then-left-depth-clause-gives t c = λ _.
    exits.goes_too_deep (reading.done (tree c.args.left) c.args.left.rest.now) Comparison (λ (ts : List Symbol). reading.sum c.args.self.now.end (reading.inside c.args.self.now.end c.args.parentheses) (c.args.depth - 1) ts) c.args.place c.args.depth _ _ _ _ _
    refl c.in-Some.ensures c.requires.left_height c.if-left-depth.true c.past_limit.ensures

pub compared-returns-in_err-right-clause-gives : goal.compared-returns-in_err-right-clause-gives
compared-returns-in_err-right-clause-gives t c =
    let p = err_from_is_err_and c.from_residual.result c.from_residual.ensures.1 in
    rw (p.1, p.2)
    (λ m. exits.next_fails (reading.done (tree c.args.left) c.args.left.rest.now) Comparison (λ (ts : List Symbol). reading.sum c.args.self.now.end (reading.inside c.args.self.now.end c.args.parentheses) (c.args.depth - 1) ts) c.args.place c.args.depth _ _ _ _ _
    refl c.in-Some.ensures c.requires.left_height c.if-left-depth.false (c.in_err-right.ensures.gives m))

pub compared-returns-clause-gives : goal.compared-returns-clause-gives
compared-returns-clause-gives t c =
    exits.operation_gives (reading.done (tree c.args.left) c.args.left.rest.now) Comparison (λ (ts : List Symbol). reading.sum c.args.self.now.end (reading.inside c.args.self.now.end c.args.parentheses) (c.args.depth - 1) ts) c.args.place c.args.depth c.operation.result c.args.place _ _ _ _ _ _
    refl c.in-Some.ensures c.requires.left_height c.if-left-depth.false c.in_ok-right.ensures.gives refl c.operation.ensures.gives

-- `!` and unary `-`

pub unary-returns-in-None-clause-gives : goal.unary-returns-in-None-clause-gives
unary-returns-in-None-clause-gives t c =
    subst (λ o. Gives c.primary.result o)
    (sym (exits.unary_plain c.args.self.now.end (reading.inside c.args.self.now.end c.args.parentheses) c.args.depth c.args.symbols.now c.in-None.ensures))
    c.primary.ensures.gives

pub unary-returns-in-Some-clause-gives : goal.unary-returns-in-Some-clause-gives
unary-returns-in-Some-clause-gives t c =
    rw (unary_step c.args.self.now.end (reading.inside c.args.self.now.end c.args.parentheses) c.args.depth c.args.symbols.now, ← c.in-Some.ensures) c.prefixed.ensures.gives

pub prefixed-returns-then-depth-eq0-clause-gives : goal.prefixed-returns-then-depth-eq0-clause-gives
prefixed-returns-then-depth-eq0-clause-gives t c = λ _. exits.prefix_deep c.args.depth c.args.at _ _ c.if-depth-eq0.true c.past_limit.ensures

pub prefixed-returns-in_err-operand-clause-gives : goal.prefixed-returns-in_err-operand-clause-gives
prefixed-returns-in_err-operand-clause-gives t c =
    let p = err_from_is_err_and c.from_residual.result c.from_residual.ensures.1 in
    rw (p.1, p.2) (λ m. exits.prefix_goes c.args.depth c.args.at _ c.if-depth-eq0.false ∙ rw (c.in_err-operand.ensures.gives m) refl)

pub prefixed-returns-clause-gives : goal.prefixed-returns-clause-gives
prefixed-returns-clause-gives t c = rw (exits.prefix_goes c.args.depth c.args.at _ c.if-depth-eq0.false, c.in_ok-operand.ensures.gives) c.behind_prefix.ensures.gives

-- behind `old`

pub old_value-returns-then-depth-eq0-clause-gives : goal.old_value-returns-then-depth-eq0-clause-gives
old_value-returns-then-depth-eq0-clause-gives t c = λ _.
    exits.old_deep (reading.inside c.args.self.now.end c.args.parentheses) c.args.span c.args.depth c.args.symbols.now _ c.if-depth-eq0.true c.past_limit.ensures

pub old_value-returns-in_err-operand-clause-gives : goal.old_value-returns-in_err-operand-clause-gives
old_value-returns-in_err-operand-clause-gives t c =
    let p = err_from_is_err_and c.from_residual.result c.from_residual.ensures.1 in
    rw (p.1, p.2)
    (λ m. exits.old_fails (reading.inside c.args.self.now.end c.args.parentheses) c.args.span c.args.depth c.args.symbols.now _ c.if-depth-eq0.false (c.in_err-operand.ensures.gives m))

pub old_value-returns-clause-gives : goal.old_value-returns-clause-gives
old_value-returns-clause-gives t c =
    subst (λ o. Gives c.node.result o)
    (sym (exits.old_gives (reading.inside c.args.self.now.end c.args.parentheses) c.args.span c.args.depth c.args.symbols.now _ _ c.if-depth-eq0.false c.in_ok-operand.ensures.gives))
    c.node.ensures.gives

-- parentheses

pub group-returns-in_default-clause-gives : goal.group-returns-in_default-clause-gives
group-returns-in_default-clause-gives t c = λ _.
    exits.unopened c.args.self.now.end c.args.parentheses c.args.depth c.args.symbols.now _ (sym (ap behind c.in_default.is) ∙ c.behind_open.ensures) c.refused.ensures

pub group-returns-then-parentheses-eq0-clause-gives : goal.group-returns-then-parentheses-eq0-clause-gives
group-returns-then-parentheses-eq0-clause-gives t c = λ _.
    exits.too_many c.args.self.now.end c.args.parentheses c.args.depth c.args.symbols.now _ _ _ c.in-Some.ensures c.if-parentheses-eq0.true c.place.ensures c.past_limit.ensures

pub group-returns-in_err-first-clause-gives : goal.group-returns-in_err-first-clause-gives
group-returns-in_err-first-clause-gives t c =
    let p = err_from_is_err_and c.from_residual.result c.from_residual.ensures.1 in
    let inner = reading.inside c.args.self.now.end (c.args.parentheses - 1) in
    rw (p.1, p.2)
    (λ m. exits.inner_fails c.args.self.now.end c.args.parentheses c.args.depth c.args.symbols.now _ _ c.in-Some.ensures c.if-parentheses-eq0.false
    (exits.equivalence_fails c.args.self.now.end inner c.args.depth c.in-Some.rest.now _ refl _ (c.in_err-first.ensures.gives m)))

pub group-returns-in_err-expr-clause-gives : goal.group-returns-in_err-expr-clause-gives
group-returns-in_err-expr-clause-gives t c =
    let p = err_from_is_err_and c.from_residual-in_err-expr.result c.from_residual-in_err-expr.ensures.1 in
    let inner = reading.inside c.args.self.now.end (c.args.parentheses - 1) in
    rw (p.1, p.2)
    (λ m. exits.inner_fails c.args.self.now.end c.args.parentheses c.args.depth c.args.symbols.now _ _ c.in-Some.ensures c.if-parentheses-eq0.false
    (exits.equivalence_goes c.args.self.now.end inner c.args.depth c.in-Some.rest.now _ c.place-place.ensures _ _ c.in_ok-first.ensures.gives ∙ c.in_err-expr.ensures.gives m))

pub group-returns-in-None-clause-gives : goal.group-returns-in-None-clause-gives
group-returns-in-None-clause-gives t c = λ _.
    exits.unclosed c.args.self.now.end c.args.parentheses c.args.depth c.args.symbols.now _ _ _ _ c.in-Some.ensures c.if-parentheses-eq0.false (exits.equivalence_goes c.args.self.now.end (reading.inside c.args.self.now.end (c.args.parentheses - 1)) c.args.depth c.in-Some.rest.now _ c.place-place.ensures _ _ c.in_ok-first.ensures.gives ∙ c.in_ok-expr.ensures.gives) c.in-None.ensures c.refused-in-None.ensures

pub group-returns-in-Some-behind_close-clause-gives : goal.group-returns-in-Some-behind_close-clause-gives
group-returns-in-Some-behind_close-clause-gives t c =
    exits.closed_again c.args.self.now.end c.args.parentheses c.args.depth c.args.symbols.now _ _ _ _ c.in-Some.ensures c.if-parentheses-eq0.false (exits.equivalence_goes c.args.self.now.end (reading.inside c.args.self.now.end (c.args.parentheses - 1)) c.args.depth c.in-Some.rest.now _ c.place-place.ensures _ _ c.in_ok-first.ensures.gives ∙ c.in_ok-expr.ensures.gives) c.in-Some-behind_close.ensures
