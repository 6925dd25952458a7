use Rattle.std.proofs.Common.{map, subst, List}
use Rattle.std.proofs.lemmas.Result.{err_from_is_err_and}
use Rattle.boogie_tree.specs.View as view
use Rattle.boogie_tree.specs.declared.tree.VarInfo.{VarInfo}
use Rattle.typed_tree.specs.declared.types.TExpr.{TExpr}
use Rattle.typed_tree.specs.declared.types.TProc.{TProc}
use Rattle.typed_tree.specs.TypingRules.BrokenTyping.{IsTypingFault}
use Rattle.typed_tree.specs.TypingRules.TypedParts.{program_of}
use Rattle.boogie_types.specs.Ties.Replaced.{program_by}
use Rattle.boogie_types.proofs.Refusals.{typing_refused}
use Rattle.boogie_types.proofs.resolving.checked.Goals as goal

pub returns-in_err-check_typing-clause-fault : goal.returns-in_err-check_typing-clause-fault
returns-in_err-check_typing-clause-fault c =
    let ds = map view.declaration c.args.decls.now in
    let p = err_from_is_err_and c.from_residual-in_err-check_typing.result c.from_residual-in_err-check_typing.ensures.1 in
    let f = c.in_err-check_typing.field-0.0 in
    let r = c.in_ok-replaced.replaced in
    let h = subst (λ (gs : List VarInfo). IsTypingFault (program_of gs c.deref-2.result.now c.deref-3.result.now) f) c.deref.ensures.value c.in_err-check_typing.ensures.fault in
    let i = subst (λ (es : List TExpr). IsTypingFault (program_of r.globals.items es c.deref-3.result.now) f) c.deref-2.ensures.value h in
    let j = subst (λ (ps : List TProc). IsTypingFault (program_of r.globals.items r.axioms.items ps) f) c.deref-3.ensures.value i in
    rw (p.1, p.2) (typing_refused ds (program_by r) c.in_ok-replaced.ensures.ok.named f j)
