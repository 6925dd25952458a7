use Rattle.std.proofs.Common.{ap, map, arith}
use Rattle.std.proofs.lemmas.Result.{err_from_is_err_and}
use Rattle.boogie_tree.specs.View.{declaration}
use Rattle.boogie_parse.specs.Rules.GrammarLimits.{procedures_counted}
use Rattle.boogie_parse.specs.Reading.ListReading.{expression_at}
use Rattle.boogie_parse.specs.Reading.ProgramReading.{declaration_at, declarations_at}
use Rattle.boogie_parse.proofs.Reading.ListTurns.{starts, continues, stops, fails, completes}
use Rattle.boogie_parse.proofs.Reading.ProgramCounts.{procedures-add, no_procedures, room_appended, map-appended}
use Rattle.boogie_parse.proofs.grammar.parser.Parser.declarations.Goals as goal

pub loop-turn-init : goal.loop-turn-init
unfolding declarations_at
loop-turn-init c = (no_procedures c.args.most _ c.new-declarations.ensures.items, starts (declaration_at (expression_at c.args.self.now.end) c.args.self.now.end 200 200 1000) procedures_counted procedures-add _ _ _ _ _ (ap (map declaration) c.new-declarations.ensures.items) (omega arith))

pub returns-in_err-declaration : goal.returns-in_err-declaration
returns-in_err-declaration c =
    let p = err_from_is_err_and c.from_residual.result c.from_residual.ensures.1 in
    rw (p.1, p.2) (λ m. fails (declaration_at (expression_at c.args.self.now.end) c.args.self.now.end 200 200 1000) procedures_counted _ _ _ _ _ _ _ _ c.loop-turn.invariant.1 c.loop-turn-test.true c.loop-turn.invariant.0 (c.in_err-declaration.ensures m))

pub returns-in-None : goal.returns-in-None
returns-in-None c = stops (declaration_at (expression_at c.args.self.now.end) c.args.self.now.end 200 200 1000) procedures_counted _ _ _ _ _ _ _ c.loop-turn.invariant.1 c.loop-turn-test.true c.loop-turn.invariant.0 (rw c.in-None.is at c.in_ok-declaration.ensures)

pub loop-turn-preserved : goal.loop-turn-preserved
loop-turn-preserved c = (
  room_appended c.args.most c.loop-turn.room c.room_behind-room.result c.loop-turn.declarations.items c.in-Some.more.items c.append.new.self.items c.deref.result.now c.room_behind-room.ensures c.deref.ensures.value c.loop-turn.invariant.0 c.in_ok-append-in-Some.ensures.items,
  continues (declaration_at (expression_at c.args.self.now.end) c.args.self.now.end 200 200 1000) procedures_counted procedures-add _ _ _ _ _ _ _ _ _ _ c.loop-turn.invariant.1 c.loop-turn-test.true c.loop-turn.invariant.0 (rw c.in-Some.is at c.in_ok-declaration.ensures)
      (map-appended _ _ _ c.in_ok-append-in-Some.ensures.items),
)

pub returns : goal.returns
returns c = completes (declaration_at (expression_at c.args.self.now.end) c.args.self.now.end 200 200 1000) procedures_counted _ _ _ _ _ c.loop-turn.invariant.1 (omega arith)
