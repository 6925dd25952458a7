use Rattle.std.proofs.Common.{inr}
use Rattle.std.proofs.lemmas.Result.{err_from_is_err_and}
use Rattle.typed_tree.specs.BrokenRules.{misplaced}
use Rattle.typed_tree.proofs.Parts.{not_fault, neg_fault, left_fault, right_fault, old_answer}
use Rattle.typed_tree.proofs.typing.+part_of.Goals as goal

pub returns-in_err-part-in-Not : goal.returns-in_err-part-in-Not
returns-in_err-part-in-Not t c =
    let p = err_from_is_err_and c.from_residual.result c.from_residual.ensures.1 in
    rw (p.1, p.2, c.in-Not.is) (not_fault _ _ _ _ _ (rw c.deref-in-Not.ensures at c.in_err-part-in-Not.ensures))

pub returns-in_err-part-in-Neg : goal.returns-in_err-part-in-Neg
returns-in_err-part-in-Neg t c =
    let p = err_from_is_err_and c.from_residual-in_err-part-in-Neg.result c.from_residual-in_err-part-in-Neg.ensures.1 in
    rw (p.1, p.2, c.in-Neg.is) (neg_fault _ _ _ _ _ (rw c.deref-in-Neg.ensures at c.in_err-part-in-Neg.ensures))

pub returns-in_err-first-in-Bin : goal.returns-in_err-first-in-Bin
returns-in_err-first-in-Bin t c =
    let p = err_from_is_err_and c.from_residual-in_err-first-in-Bin.result c.from_residual-in_err-first-in-Bin.ensures.1 in
    rw (p.1, p.2, c.in-Bin.is) (left_fault _ _ _ _ _ _ _ (rw c.deref-in-Bin.ensures at c.in_err-first-in-Bin.ensures))

pub returns-in_err-second-in-Bin : goal.returns-in_err-second-in-Bin
returns-in_err-second-in-Bin t c =
    let p = err_from_is_err_and c.from_residual-in_err-second-in-Bin.result c.from_residual-in_err-second-in-Bin.ensures.1 in
    rw (p.1, p.2, c.in-Bin.is) (right_fault _ _ _ _ _ _ _ (rw c.deref-in-Bin-2.ensures at c.in_err-second-in-Bin.ensures))

pub returns-then-scope : goal.returns-then-scope
returns-then-scope t c = rw c.in-Old.is (old_answer _ _ _ _ _ c.if-scope.true (rw c.deref.ensures at c.part_of.ensures))

pub returns-else-scope : goal.returns-else-scope
returns-else-scope t c = rw c.in-Old.is (inr (misplaced _ _ _ c.if-scope.false))
