use Rattle.std.proofs.Common.{ℕ, ◌+◌, map, drop, Some, Vec, Global, subst, ap, sym, ◌∙◌}
use Rattle.std.proofs.lemmas.Result.{err_from_is_err_and}
use Rattle.boogie_tree.specs.View as view
use Rattle.boogie_types.specs.Sorted.{modified_in}
use Rattle.boogie_types.specs.Ties.Making.{made}
use Rattle.boogie_types.specs.Ties.Modified.{modified_numbers, AreModifiedFault}
use Rattle.boogie_types.proofs.ModifiedLaws.{fault_of_list, list_turn, other_turn, no_list}
use Rattle.boogie_types.proofs.modifies.all_modified.Goals as goal
use Rattle.boogie_types.proofs.modifies.all_modified.Goals.{in-Modifies+in_ok-add_modified, in_default}

pub returns-in_err-add_modified-clause-fault : goal.returns-in_err-add_modified-clause-fault
returns-in_err-add_modified-clause-fault c =
    let p = err_from_is_err_and c.from_residual.result c.from_residual.ensures.1 in
    rw (p.1, p.2)
    (fault_of_list c.args.declared.now.globals.now c.args.specs.now c.loop-spec.spec-index c.spec-item.result c.in-Modifies.names.items c.in_err-add_modified.field-0.0 c.loop-spec-test.true c.spec-item.is
    (ap view.specification c.in-Modifies.is)
    (subst (λ xs. AreModifiedFault c.args.declared.now.globals.now xs c.in_err-add_modified.field-0.0) c.deref.ensures.value c.in_err-add_modified.ensures.fault))

pub loop-spec-preserved : goal.loop-spec-preserved
loop-spec-preserved c =
    let globals = c.args.declared.now.globals.now in
    let ss = c.args.specs.now in
    let i = c.loop-spec.spec-index in
    let s = c.spec-item.result in
    elim c.match-spec.branch [
      | in-Modifies+in_ok-add_modified w ↦
          list_turn globals ss i s c.loop-spec-test.true c.spec-item.is w.in-Modifies.names.items c.loop-spec.numbers.items c.match-spec.numbers.items _ (ap view.specification w.in-Modifies.is)
          (ap (λ xs. made c.loop-spec.numbers.items (modified_numbers globals xs)) (sym w.deref.ensures.value) ∙ w.in_ok-add_modified.ensures.ok ∙ ap (λ (v : Vec ℕ Global). Some v.items) (sym w.numbers-is))
          c.loop-spec.invariant
      | in_default w ↦
          ap (λ (v : Vec ℕ Global). made v.items (modified_numbers globals (modified_in (map view.specification (drop (i + 1) ss))))) w.numbers-is
          ∙ other_turn globals ss i s c.loop-spec-test.true c.spec-item.is c.loop-spec.numbers.items _ (no_list s w.in_default.not-Modifies) c.loop-spec.invariant
    ]
