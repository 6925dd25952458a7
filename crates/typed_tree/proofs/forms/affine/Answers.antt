use Rattle.std.proofs.Common.{rules, FitsSigned}
use Rattle.std.specs.Int.{w128}
use Rattle.std.proofs.lemmas.Int.{to_z-of_z}
use Rattle.typed_tree.proofs.FormParts.{affine_form}
use Rattle.typed_tree.proofs.forms.affine.Goals as goal

pub returns-clause-form : goal.returns-clause-form
returns-clause-form c =
    let f : FitsSigned w128 c.in_ok-terms.field-0.constant = search rules in
    simp to_z-of_z (affine_form _ _ c.requires.kind c.requires.products c.in_ok-terms.ensures)
