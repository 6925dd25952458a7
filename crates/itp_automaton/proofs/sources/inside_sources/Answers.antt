use Rattle.itp_automaton.specs.declared.sources.Source.TheVariants.{Inside}
use Rattle.itp_automaton.proofs.SourceLaws.{mapped_next}
use Rattle.itp_automaton.proofs.sources.inside_sources.Goals as goal

pub loop-state-preserved : goal.loop-state-preserved
loop-state-preserved c =
    mapped_next Inside c.args.states.now c.loop-state.state-index 0 c.loop-state.sources.items c.push.new.self.items c.loop-state-test.true
    c.loop-state.invariant c.in_ok-push.ensures.items
