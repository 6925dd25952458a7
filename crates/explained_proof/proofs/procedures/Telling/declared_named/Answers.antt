use Rattle.std.proofs.Common.{◌≡◌, length, refl, sym, subst}
use Rattle.std.specs.Prelude.{IfOk}
use Rattle.std.proofs.lemmas.Option.{slice_get_read, slice_get_past}
use Rattle.boogie_tree.specs.Tree.{Procedure}
use Rattle.boogie_tree.specs.View as tree
use Rattle.typed_tree.specs.TypedView as typed
use Rattle.typed_tree.specs.TypingRules.TypedParts.{typed_program}
use Rattle.explained_proof.specs.Explained as spec
use Rattle.explained_proof.specs.Ties.Views as view
use Rattle.explained_proof.proofs.ProcedureLaws.{listed_there, listed_past, seen_there, seen_past}
use Rattle.explained_proof.proofs.procedures.Telling.declared_named.Goals as goal

pub returns-in-Some-get : goal.returns-in-Some-get
returns-in-Some-get c =
    let d = view.told c.args.self.now in
    let at = slice_get_read c.procs.result.now (length c.procs.result.now) c.in-Some.number c.in-Some-get.listed.now refl c.in-Some-get.ensures.lookup.3.0 c.in-Some-get.ensures.lookup.1 in
    subst (λ (p : Procedure). IfOk c.declared.result (λ out. tree.procedure out ≡ p))
    (listed_there (spec.declared d) (typed_program c.args.self.now.program.now).procs (tree.procedure c.args.given) _ c.in-Some.number (typed.procedure c.in-Some-get.listed.now) (sym c.in-Some.ensures)
    (seen_there c.args.self.now.program.now.procs c.procs.result.now c.in-Some.number c.in-Some-get.listed.now c.procs.ensures at))
    c.declared.ensures

pub returns-in-None : goal.returns-in-None
returns-in-None c =
    let d = view.told c.args.self.now in
    let at = slice_get_past c.procs.result.now c.in-Some.number c.in-None.ensures.lookup.3 in
    listed_past (spec.declared d) (typed_program c.args.self.now.program.now).procs (tree.procedure c.args.given) _ c.in-Some.number (sym c.in-Some.ensures)
    (seen_past c.args.self.now.program.now.procs c.procs.result.now c.in-Some.number c.procs.ensures at)
