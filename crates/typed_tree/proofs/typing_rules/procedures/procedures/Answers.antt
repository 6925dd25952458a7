use Rattle.std.proofs.Common.{rules, sym, map}
use Rattle.typed_tree.proofs.TypingRules.Faults.{item_fault}
use Rattle.typed_tree.specs.TypedView as view
use Rattle.typed_tree.specs.TypingRules.Rules.{procedure_keeps_rules}
use Rattle.typed_tree.proofs.TypingRules.LoopLaws.{all_step, all_end}
use Rattle.typed_tree.proofs.typing_rules.procedures.procedures.Goals as goal

pub returns-in_err-procedure : goal.returns-in_err-procedure
returns-in_err-procedure c = search (rules, item_fault)

pub loop-checked-preserved : goal.loop-checked-preserved
loop-checked-preserved c =
    all_step (procedure_keeps_rules c.args.globals.now (map view.procedure c.args.procs.now)) view.procedure c.args.procs.now c.loop-checked.checked-index c.checked-item.result c.checked-item.result _ c.loop-checked-test.true c.checked-item.is c.in_ok-procedure.ensures c.loop-checked.invariant

pub returns : goal.returns
returns c = sym (all_end (procedure_keeps_rules c.args.globals.now (map view.procedure c.args.procs.now)) view.procedure c.args.procs.now c.loop-checked.checked-index _ c.loop-checked-test.false c.loop-checked.invariant)
