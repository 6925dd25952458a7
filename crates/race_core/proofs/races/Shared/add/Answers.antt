use Rattle.std.proofs.Common.{arith}
use Rattle.std.specs.Arc.{arc_value}
use Rattle.race_core.proofs.Interleaved.{sound_added}
use Rattle.race_core.proofs.races.Shared.add.Goals as goal

pub invariant_of-self : goal.invariant_of-self
invariant_of-self g c =
    rw c.push_reserved.ensures.items (
      sound_added g.E.Evidence.automaton g.E.Evidence.feasible _ c.args.self.now c.args.entry (arc_value c.args.kept)
          c.self.view_is c.requires.room c.requires.next c.requires.keeps c.nwa.ensures.infeasible c.self.invariant.0,
      omega (arith, c.push_reserved.ensures.capacity, c.self.invariant.1),
    )
