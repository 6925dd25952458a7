use Rattle.boogie_tree.specs.declared.tree.Name.{Name}
use Rattle.boogie_parse.proofs.Reading.ListTurns.{listed-pushed}
use Rattle.boogie_parse.proofs.grammar.variables.of_type.Goals as goal

pub loop-name-preserved : goal.loop-name-preserved
loop-name-preserved c =
    listed-pushed (λ (x : Name). record { name = x; ty = c.args.ty }) c.loop-name.variables.items c.push.new.self.items c.loop-name.yielded c.in-Some.name c.loop-name.invariant c.in_ok-push.ensures.items
