use Rattle.std.proofs.Common.{◌≡◌, ◌∙◌, ◌+◌, ℕ, List, map, length, ap, subst, arith}
use Rattle.std.specs.Prelude.{IfOk}
use Rattle.boogie_run.specs.BoogiePoints.Actions.{free_conditions}
use Rattle.boogie_tree.specs.Tree.{Block}
use Rattle.boogie_tree.specs.View as tree
use Rattle.typed_tree.specs.declared.types.TSpec.{TSpec}
use Rattle.typed_tree.specs.TypedView as typed
use Rattle.typed_tree.specs.TypingRules.TypedParts.{typed_program}
use Rattle.explained_proof.specs.Explained as spec
use Rattle.explained_proof.specs.Statements.{left, explained_block}
use Rattle.explained_proof.specs.Ties.Views as view
use Rattle.explained_proof.proofs.PlaceLaws.{statements_fit, statements_there}
use Rattle.explained_proof.proofs.procedures.Telling.statements.Goals as goal

pub overflow_add-at : goal.overflow_add-at
overflow_add-at c =
    let fit = (statements_fit (typed_program c.args.self.now.program.now) c.args.number (typed.procedure c.args.listed.now) (typed.statements c.args.inside.now) c.args.place
    c.numbers_fit.ensures.places c.ranges.place.fits c.requires.stands c.requires.body).numbers in
    let same = ap (λ (ss : List TSpec). length (free_conditions (map typed.specification ss))) c.deref.ensures.value in
    omega (arith, fit, same, c.granted.ensures, c.from.ensures)

pub statements-requires : goal.statements-requires
statements-requires c =
    statements_there _ _ (typed_program c.args.self.now.program.now) c.args.number (typed.procedure c.args.listed.now) (typed.statements c.args.inside.now) c.args.place
    (ap (map typed.procedure) c.procs.ensures)
    (ap (λ (n : ℕ). n + c.granted.result) c.from.ensures ∙ ap (λ (n : ℕ). c.args.place + n) c.granted.ensures ∙
    ap (λ (ss : List TSpec). c.args.place + length (free_conditions (map typed.specification ss))) c.deref.ensures.value)
    c.numbers_fit.ensures.places c.ranges.place.fits c.requires.stands c.requires.body

pub returns : goal.returns
returns c =
    let d = view.told c.args.self.now in
    let k = view.procedure c.args.procedure.now in
    let given = tree.statements c.args.given.items in
    let inside = typed.statements c.args.inside.now in
    subst (λ (b : Block). IfOk c.statements.result (λ out. tree.statements out.items ≡ b))
    ((λ i. explained_block (record { procs = map typed.procedure (c.procs.ensures i); procedure = k; backwards = c.in_ok-backwards.ensures i }) given (left inside (c.from.ensures i + c.granted.ensures i))) ∙
    ap (λ (ss : List TSpec). explained_block (spec.setting d k inside) given (left inside (c.args.place + length (free_conditions (map typed.specification ss))))) c.deref.ensures.value)
    c.statements.ensures
