use Rattle.std.proofs.lemmas.Result.{err_from_is_err_and}
use Rattle.typed_tree.specs.Scope.{seen}
use Rattle.typed_tree.specs.TypingRules.TypedParts.{program_of}
use Rattle.typed_tree.proofs.TypingRules.ProcedureParts.{axiom_fault, program_judged}
use Rattle.typed_tree.proofs.typing_rules.procedures.program.Goals as goal

pub returns-in_err-axioms : goal.returns-in_err-axioms
returns-in_err-axioms c =
    let p = err_from_is_err_and c.from_residual.result c.from_residual.ensures.1 in
    rw (p.1, p.2)
    (axiom_fault (program_of c.args.globals.now c.args.listed.now c.args.procs.now) (seen c.axiom_scope.result) _ c.axiom_scope.ensures c.in_err-axioms.ensures)

pub returns : goal.returns
returns c =
    program_judged _ (program_of c.args.globals.now c.args.listed.now c.args.procs.now) (seen c.axiom_scope.result) c.axiom_scope.ensures
    c.in_ok-axioms.ensures c.procedures.ensures
