use Rattle.std.proofs.Common.{arith, length}
use Rattle.std.proofs.lemmas.Result.{err_from_is_err_and}
use Rattle.boogie_parse.specs.Reading.ProgramReading.{local_at, locals_at}
use Rattle.boogie_parse.proofs.Reading.ListTurns.{starts, continues, stops, fails, completes, length-adds}
use Rattle.boogie_parse.proofs.grammar.parser.Parser.locals.Goals as goal

pub loop-turn-init : goal.loop-turn-init
unfolding locals_at
loop-turn-init c = starts (local_at c.args.self.now.end) length length-adds _ _ _ _ _ c.new-locals.ensures.items (omega arith)

pub returns-in_err-local : goal.returns-in_err-local
returns-in_err-local c =
    let p = err_from_is_err_and c.from_residual.result c.from_residual.ensures.1 in
    rw (p.1, p.2) (λ m. fails (local_at c.args.self.now.end) length _ _ _ _ _ _ _ _ c.loop-turn.invariant c.loop-turn-test.true (omega arith) (c.in_err-local.ensures m))

pub returns-in-None : goal.returns-in-None
returns-in-None c = stops (local_at c.args.self.now.end) length _ _ _ _ _ _ _ c.loop-turn.invariant c.loop-turn-test.true (omega arith) (rw c.in-None.is at c.in_ok-local.ensures)

pub loop-turn-preserved : goal.loop-turn-preserved
loop-turn-preserved c =
    continues (local_at c.args.self.now.end) length length-adds _ _ _ _ _ _ _ _ _ _ c.loop-turn.invariant c.loop-turn-test.true (omega arith) (rw c.in-Some.is at c.in_ok-local.ensures) c.in_ok-append-in-Some.ensures.items

pub returns : goal.returns
returns c = completes (local_at c.args.self.now.end) length _ _ _ _ _ c.loop-turn.invariant (omega arith)
