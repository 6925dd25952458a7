use Rattle.std.proofs.Common.{refl, ap, arith, map}
use Rattle.std.proofs.lemmas.Result.{err_from_is_err_and}
use Rattle.boogie_tree.specs.View.{expression}
use Rattle.boogie_parse.specs.Reading.ListReading.{one, expression_at, expression_item, expressions_at}
use Rattle.boogie_parse.proofs.Reading.ListTurns.{begins, goes, ends, faults, exhausted, map-pushed}
use Rattle.boogie_parse.proofs.grammar.parser.Parser.expressions.Goals as goal

pub loop-turn-init : goal.loop-turn-init
unfolding expressions_at
loop-turn-init c =
    begins (expression_item (expression_at c.args.self.now.end) c.args.parentheses) c.args.self.now.end _ _ _ _ _ (ap (map expression) c.new-expressions.ensures.items) (omega arith)

pub returns-in_err-expression : goal.returns-in_err-expression
returns-in_err-expression c =
    let p = err_from_is_err_and c.from_residual.result c.from_residual.ensures.1 in
    rw (p.1, p.2) (λ m.
    faults (expression_item (expression_at c.args.self.now.end) c.args.parentheses) c.args.self.now.end _ _ _ _ _ _ _ _ c.loop-turn.invariant c.loop-turn-test.true refl (ap one (c.in_err-expression.ensures m)))

pub returns-in-None : goal.returns-in-None
returns-in-None c =
    ends (expression_item (expression_at c.args.self.now.end) c.args.parentheses) c.args.self.now.end _ _ _ _ _ _ _ _ _ _ c.loop-turn.invariant c.loop-turn-test.true refl (ap one c.in_ok-expression.ensures) c.in-None.ensures
    (map-pushed expression _ _ _ c.in_ok-push.ensures.items)

pub loop-turn-preserved : goal.loop-turn-preserved
loop-turn-preserved c =
    goes (expression_item (expression_at c.args.self.now.end) c.args.parentheses) c.args.self.now.end _ _ _ _ _ _ _ _ _ _ _ c.loop-turn.invariant c.loop-turn-test.true refl (ap one c.in_ok-expression.ensures) c.in-Some.ensures
    (map-pushed expression _ _ _ c.in_ok-push.ensures.items)

pub returns : goal.returns
returns c m =
    rw c.refused.ensures (exhausted (expression_item (expression_at c.args.self.now.end) c.args.parentheses) c.args.self.now.end _ _ _ _ _ c.loop-turn.invariant (omega arith))
