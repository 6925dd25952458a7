use Rattle.boogie_tree.specs.View as view
use Rattle.boogie_types.proofs.ResolvedLaws.{faults_exclude}
use Rattle.boogie_types.proofs.resolving.resolve.Goals as goal

pub returns-clause-ok : goal.returns-clause-ok
returns-clause-ok c = rw (← c.deref.ensures.value, ← c.as_bytes.ensures.value) c.resolved.ensures.ok

pub returns-clause-fault : goal.returns-clause-fault
returns-clause-fault c = rw (← c.deref.ensures.value, ← c.as_bytes.ensures.value) c.resolved.ensures.fault

pub returns-clause-only : goal.returns-clause-only
returns-clause-only c =
    faults_exclude (view.program c.args.program) c.args.entry.now c.resolved.result (rw (← c.deref.ensures.value, ← c.as_bytes.ensures.value) c.resolved.ensures.fault)
