use Rattle.std.proofs.Common.{◌<◌, List, sym, subst}
use Rattle.nwa_emptiness.specs.Ties.Seen.{seen}
use Rattle.nwa_emptiness.specs.declared.spelling.Task.{Task}
use Rattle.nwa_emptiness.specs.Ties.Loads.{load}
use Rattle.nwa_emptiness.specs.declared.spelling.Task.TheVariants as tasks
use Rattle.nwa_emptiness.proofs.TaskLemmas.{rest_first, rest_last, rest_popped, none_left}
use Rattle.nwa_emptiness.proofs.spelling.letters_to.Goals as goal

pub loop-task-init : goal.loop-task-init
loop-task-init c w h =
    rest_first (seen c.args.search.now) _ (tasks.Whole c.args.place) c.new-letters.result.items w c.in_ok-tasks.ensures.items c.new-letters.ensures.items h

pub loop-task-preserved : goal.loop-task-preserved
loop-task-preserved c w h =
    c.loop-task.invariant w
    (rest_popped (seen c.args.search.now) c.loop-task.tasks.items c.pop.new.self.items c.in-Some.task c.loop-task.letters.items w c.in-Some.ensures.items
    (c.in_ok-perform.ensures.rest w h))

pub returns : goal.returns
returns c =
    c.loop-task.invariant _ (rest_last (seen c.args.search.now) c.loop-task.tasks.items c.loop-task.letters.items _ (none_left _ _ _ c.in_default.ensures.cases.0 c.in_default.ensures.rest c.in_default.ensures.items) c.reverse.ensures.items)

pub loop-task-smaller : goal.loop-task-smaller
loop-task-smaller c =
    subst (λ (ts : List Task). load c.perform.new.tasks.items < load ts) (sym c.in-Some.ensures.items) c.in_ok-perform.ensures.less
