use Rattle.std.proofs.Common.{List}
use Rattle.nwa_base.specs.declared.letters.Letter.{Letter}
use Rattle.nwa_emptiness.specs.Ties.Seen.{seen}
use Rattle.nwa_emptiness.specs.declared.spelling.Task.TheVariants as tasks
use Rattle.nwa_emptiness.specs.Ties.Loads.{load}
use Rattle.nwa_emptiness.specs.Ties.Tasks.{IsFilling, IsRest}
use Rattle.nwa_emptiness.proofs.spelling.letters_to.Given as goal

abbrev pub invariant-loop-task : goal.invariant-loop-task
invariant-loop-task l =
    (w : List Letter) → IsRest (seen l.search) l.tasks.items l.letters.items w → IsFilling (seen l.search) (tasks.Whole l.place) w

abbrev pub decreases-loop-task : goal.decreases-loop-task
decreases-loop-task l = load l.tasks.items
