use Rattle.std.proofs.Common.{ap, arith}
use Rattle.std.proofs.lemmas.Result.{err_from_is_err_and}
use Rattle.boogie_parse.specs.Reading.ListReading.{one, name_item, names_at}
use Rattle.boogie_parse.proofs.Reading.ListTurns.{begins, goes, ends, faults, exhausted}
use Rattle.boogie_parse.proofs.grammar.parser.Parser.names.Goals as goal

pub loop-turn-init : goal.loop-turn-init
unfolding names_at
loop-turn-init c = begins (name_item c.args.self.now.end) c.args.self.now.end _ _ _ _ _ c.new-names.ensures.items (omega arith)

pub returns-in_err-name : goal.returns-in_err-name
returns-in_err-name c =
    let p = err_from_is_err_and c.from_residual.result c.from_residual.ensures.1 in
    rw (p.1, p.2) (λ m. faults (name_item c.args.self.now.end) c.args.self.now.end _ _ _ _ _ _ _ _ c.loop-turn.invariant c.loop-turn-test.true (omega arith) (ap one (c.in_err-name.ensures m)))

pub returns-in-None : goal.returns-in-None
returns-in-None c =
    ends (name_item c.args.self.now.end) c.args.self.now.end _ _ _ _ _ _ _ _ _ _ c.loop-turn.invariant c.loop-turn-test.true (omega arith) (ap one c.in_ok-name.ensures) c.in-None.ensures c.in_ok-push.ensures.items

pub loop-turn-preserved : goal.loop-turn-preserved
loop-turn-preserved c =
    goes (name_item c.args.self.now.end) c.args.self.now.end _ _ _ _ _ _ _ _ _ _ _ c.loop-turn.invariant c.loop-turn-test.true (omega arith) (ap one c.in_ok-name.ensures) c.in-Some.ensures c.in_ok-push.ensures.items

pub returns : goal.returns
returns c m = rw c.refused.ensures (exhausted (name_item c.args.self.now.end) c.args.self.now.end _ _ _ _ _ c.loop-turn.invariant (omega arith))
