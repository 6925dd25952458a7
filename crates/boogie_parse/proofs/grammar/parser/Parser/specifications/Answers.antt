use Rattle.std.proofs.Common.{refl, ap, arith, map, length}
use Rattle.std.proofs.lemmas.Result.{err_from_is_err_and}
use Rattle.boogie_tree.specs.View.{specification}
use Rattle.boogie_parse.specs.Reading.ListReading.{one_there, expression_at}
use Rattle.boogie_parse.specs.Reading.ProgramReading.{specification_item, specifications_at}
use Rattle.boogie_parse.proofs.Reading.ListTurns.{starts, continues, stops, fails, completes, length-adds, map-pushed}
use Rattle.boogie_parse.proofs.grammar.parser.Parser.specifications.Goals as goal

pub loop-turn-init : goal.loop-turn-init
unfolding specifications_at
loop-turn-init c = starts (specification_item (expression_at c.args.self.now.end) c.args.self.now.end 200) length length-adds _ _ _ _ _ (ap (map specification) c.new-specifications.ensures.items) (omega arith)

pub returns-in_err-specification : goal.returns-in_err-specification
returns-in_err-specification c =
    let p = err_from_is_err_and c.from_residual.result c.from_residual.ensures.1 in
    rw (p.1, p.2) (λ m. fails (specification_item (expression_at c.args.self.now.end) c.args.self.now.end 200) length _ _ _ _ _ _ _ _ c.loop-turn.invariant c.loop-turn-test.true refl (ap one_there (c.in_err-specification.ensures m)))

pub returns-in-None : goal.returns-in-None
returns-in-None c = stops (specification_item (expression_at c.args.self.now.end) c.args.self.now.end 200) length _ _ _ _ _ _ _ c.loop-turn.invariant c.loop-turn-test.true refl (ap one_there (rw c.in-None.is at c.in_ok-specification.ensures))

pub loop-turn-preserved : goal.loop-turn-preserved
loop-turn-preserved c =
    continues (specification_item (expression_at c.args.self.now.end) c.args.self.now.end 200) length length-adds _ _ _ _ _ _ _ _ _ _ c.loop-turn.invariant c.loop-turn-test.true refl (ap one_there (rw c.in-Some.is at c.in_ok-specification.ensures))
    (map-pushed specification _ _ _ c.in_ok-push-in-Some.ensures.items)

pub returns : goal.returns
returns c = completes (specification_item (expression_at c.args.self.now.end) c.args.self.now.end 200) length _ _ _ _ _ c.loop-turn.invariant (omega arith)
