use Rattle.itp_automaton.specs.declared.sources.Source.TheVariants.{Back}
use Rattle.itp_automaton.proofs.SourceLaws.{mapped_behind}
use Rattle.itp_automaton.proofs.sources.add_exit.Goals as goal

pub loop-before-preserved : goal.loop-before-preserved
loop-before-preserved c =
    mapped_behind (Back c.args.exit) c.args.callers.now c.loop-before.before-index 0 c.args.sources.now.items c.loop-before.sources.items c.push.new.self.items
    c.loop-before-test.true c.loop-before.invariant c.in_ok-push.ensures.items
