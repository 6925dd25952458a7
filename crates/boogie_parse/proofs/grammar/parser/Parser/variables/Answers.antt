use Rattle.std.proofs.Common.{arith}
use Rattle.std.proofs.lemmas.Result.{err_from_is_err_and}
use Rattle.boogie_parse.specs.Reading.ListReading.{group_at, variables_at}
use Rattle.boogie_parse.proofs.Reading.ListTurns.{begins, goes, ends, faults, exhausted}
use Rattle.boogie_parse.proofs.grammar.parser.Parser.variables.Goals as goal

pub loop-turn-init : goal.loop-turn-init
unfolding variables_at
loop-turn-init c = begins (group_at c.args.self.now.end) c.args.self.now.end _ _ _ _ _ c.new-variables.ensures.items (omega arith)

pub returns-in_err-group : goal.returns-in_err-group
returns-in_err-group c =
    let p = err_from_is_err_and c.from_residual.result c.from_residual.ensures.1 in
    rw (p.1, p.2) (λ m. faults (group_at c.args.self.now.end) c.args.self.now.end _ _ _ _ _ _ _ _ c.loop-turn.invariant c.loop-turn-test.true (omega arith) (c.in_err-group.ensures m))

pub returns-in-None : goal.returns-in-None
returns-in-None c =
    ends (group_at c.args.self.now.end) c.args.self.now.end _ _ _ _ _ _ _ _ _ _ c.loop-turn.invariant c.loop-turn-test.true (omega arith) c.in_ok-group.ensures c.in-None.ensures c.in_ok-append.ensures.items

pub loop-turn-preserved : goal.loop-turn-preserved
loop-turn-preserved c =
    goes (group_at c.args.self.now.end) c.args.self.now.end _ _ _ _ _ _ _ _ _ _ _ c.loop-turn.invariant c.loop-turn-test.true (omega arith) c.in_ok-group.ensures c.in-Some.ensures c.in_ok-append.ensures.items

pub returns : goal.returns
returns c m = rw c.refused.ensures (exhausted (group_at c.args.self.now.end) c.args.self.now.end _ _ _ _ _ c.loop-turn.invariant (omega arith))
