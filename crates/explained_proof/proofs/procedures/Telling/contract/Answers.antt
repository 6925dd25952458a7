use Rattle.std.proofs.Common.{◌∙◌, ◌++◌, List, Vec, Global, length, map, ap}
use Rattle.std.proofs.lemmas.List.{map-append}
use Rattle.boogie_tree.specs.declared.tree.Spec.{Spec}
use Rattle.boogie_tree.specs.Tree.{Specification}
use Rattle.boogie_tree.specs.View as tree
use Rattle.typed_tree.specs.TypedView as typed
use Rattle.explained_proof.specs.Explained as spec
use Rattle.explained_proof.specs.Ties.Views as view
use Rattle.explained_proof.proofs.ProcedureLaws.{some_there, none_there, contract_entered, contract_never}
use Rattle.explained_proof.proofs.procedures.Telling.contract.Goals as goal
use Rattle.explained_proof.proofs.procedures.Telling.contract.Goals.{then-not-is_empty+in_ok-ensured+in_ok-append, else-not-is_empty}

pub returns : goal.returns
returns c =
    let d = view.told c.args.self.now in
    let q = typed.procedure c.args.listed.now in
    let k = view.procedure c.in_ok-procedure.procedure in
    let entries = c.in_ok-procedure.procedure.entries in
    elim c.if-not-is_empty.branch [
      | then-not-is_empty+in_ok-ensured+in_ok-append w ↦
          contract_entered d c.args.number q k (map tree.specification c.if-not-is_empty.specs.items) c.in_ok-procedure.ensures
          (some_there entries.len (length entries.items) c.is_empty.result entries.ok.0 c.is_empty.ensures w.if-not-is_empty.true)
          (ap (λ (v : Vec Spec Global). map tree.specification v.items) w.specs-is ∙ ap (map tree.specification) w.in_ok-append.ensures.items ∙
          map-append tree.specification c.in_ok-specs.specs.items w.in_ok-ensured.ensured.items ∙
          ap (λ (ss : List Specification). ss ++ map tree.specification w.in_ok-ensured.ensured.items) c.in_ok-specs.ensures ∙
          ap (λ (ss : List Specification). spec.requires d c.args.number k ++ ss) w.in_ok-ensured.ensures)
      | else-not-is_empty w ↦
          contract_never d c.args.number q k (map tree.specification c.if-not-is_empty.specs.items) c.in_ok-procedure.ensures
          (none_there entries.len (length entries.items) c.is_empty.result entries.ok.0 c.is_empty.ensures w.if-not-is_empty.false)
          (ap (λ (v : Vec Spec Global). map tree.specification v.items) w.specs-is ∙ c.in_ok-specs.ensures)
    ]
