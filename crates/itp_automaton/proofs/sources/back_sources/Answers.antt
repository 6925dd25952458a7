use Rattle.std.proofs.Common.{ℕ, map}
use Rattle.itp_automaton.specs.declared.sources.Source.TheVariants.{Back}
use Rattle.itp_automaton.proofs.SourceLaws.{flat_next}
use Rattle.itp_automaton.proofs.sources.back_sources.Goals as goal

pub loop-exit-preserved : goal.loop-exit-preserved
loop-exit-preserved c =
    flat_next (λ (exit : ℕ). map (Back exit) c.args.callers.now) c.args.exits.now c.loop-exit.exit-index 0 c.loop-exit.sources.items
    c.add_exit.new.sources.items c.loop-exit-test.true c.loop-exit.invariant c.in_ok-add_exit.ensures
