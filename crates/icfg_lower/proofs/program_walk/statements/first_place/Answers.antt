use Rattle.icfg_lower.proofs.ProgramWalk.WalkSteps.{all_labels, some_left}
use Rattle.icfg_lower.proofs.program_walk.statements.first_place.Goals as goal

pub returns-then-before_last_labels-eq0 : goal.returns-then-before_last_labels-eq0
returns-then-before_last_labels-eq0 c = all_labels c.args.list.now c.before_last_labels.result c.args.first c.args.after c.before_last_labels.ensures c.if-before_last_labels-eq0.true

pub returns-else-before_last_labels-eq0 : goal.returns-else-before_last_labels-eq0
returns-else-before_last_labels-eq0 c = some_left c.args.list.now c.before_last_labels.result c.args.first c.args.after c.before_last_labels.ensures c.if-before_last_labels-eq0.false
