use Rattle.std.proofs.Common.{refl, ap, arith, map, length}
use Rattle.boogie_tree.specs.View.{invariant}
use Rattle.boogie_parse.specs.Reading.ListReading.{one_there, expression_at, invariant_item, invariants_at}
use Rattle.boogie_parse.proofs.Reading.ListTurns.{starts, continues, stops, fails, completes, length-adds, map-pushed}
use Rattle.boogie_parse.proofs.grammar.parser.Parser.invariants.Goals as goal

pub loop-turn-init : goal.loop-turn-init
unfolding invariants_at
loop-turn-init c = starts (invariant_item (expression_at c.args.self.now.end) c.args.self.now.end 200) length length-adds _ _ _ _ _ (ap (map invariant) c.new-invariants.ensures.items) (omega arith)

pub returns-in-Err : goal.returns-in-Err
returns-in-Err c =
    λ m. fails (invariant_item (expression_at c.args.self.now.end) c.args.self.now.end 200) length _ _ _ _ _ _ _ _ c.loop-turn.invariant c.loop-turn-test.true refl (ap one_there (c.in-Err.ensures m))

pub returns-in-Ok-None : goal.returns-in-Ok-None
returns-in-Ok-None c =
    stops (invariant_item (expression_at c.args.self.now.end) c.args.self.now.end 200) length _ _ _ _ _ _ _ c.loop-turn.invariant c.loop-turn-test.true refl (ap one_there (rw c.in-Ok-None.field-0-is at c.in-Ok-None.ensures))

pub loop-turn-preserved : goal.loop-turn-preserved
loop-turn-preserved c =
    continues (invariant_item (expression_at c.args.self.now.end) c.args.self.now.end 200) length length-adds _ _ _ _ _ _ _ _ _ _ c.loop-turn.invariant c.loop-turn-test.true refl (ap one_there (rw c.in-Ok-Some.field-0-is at c.in-Ok-Some.ensures))
    (map-pushed invariant _ _ _ c.in_ok-push-in-Ok-Some.ensures.items)

pub returns : goal.returns
returns c = completes (invariant_item (expression_at c.args.self.now.end) c.args.self.now.end 200) length _ _ _ _ _ c.loop-turn.invariant (omega arith)
