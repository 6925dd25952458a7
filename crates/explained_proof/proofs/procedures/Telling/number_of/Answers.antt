use Rattle.std.proofs.Common.{◌≡◌, ◌∙◌, false, List, map, rules, ap}
use Rattle.std.specs.List.{position_from}
use Rattle.typed_tree.specs.declared.types.TProc.{TProc}
use Rattle.typed_tree.specs.TypedView as typed
use Rattle.explained_proof.specs.Explained as spec
use Rattle.explained_proof.proofs.ProcedureLaws.{position_on, position_end}
use Rattle.explained_proof.proofs.procedures.Telling.number_of.Goals as goal

pub loop-number-preserved : goal.loop-number-preserved
loop-number-preserved c =
    let no : spec.is_of c.args.name.now (typed.procedure c.listed-item.result) ≡ false = search rules in
    position_on (spec.is_of c.args.name.now) typed.procedure c.procs-listed-items.result.now c.loop-number.number c.listed-item.result _ c.loop-number-test.true c.listed-item.is
    no c.loop-number.invariant

pub returns : goal.returns
returns c =
    position_end (spec.is_of c.args.name.now) typed.procedure c.procs-listed-items.result.now c.loop-number.number _ c.loop-number-test.false c.loop-number.invariant ∙
    ap (λ (ps : List TProc). position_from (spec.is_of c.args.name.now) 0 (map typed.procedure ps)) c.procs-listed-items.ensures
