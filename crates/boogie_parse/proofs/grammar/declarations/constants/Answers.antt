use Rattle.std.proofs.Common.{refl}
use Rattle.boogie_tree.specs.View.{declaration}
use Rattle.boogie_tree.specs.Tree.{Const}
use Rattle.boogie_parse.proofs.Reading.ListTurns.{made-pushed}
use Rattle.boogie_parse.proofs.grammar.declarations.constants.Goals as goal

pub loop-variable-preserved : goal.loop-variable-preserved
loop-variable-preserved c =
    made-pushed declaration Const c.loop-variable.declarations.items c.push.new.self.items c.loop-variable.yielded _ c.in-Some.variable c.loop-variable.invariant c.in_ok-push.ensures.items refl
