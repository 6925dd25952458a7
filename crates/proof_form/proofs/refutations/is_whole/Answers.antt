use Rattle.std.proofs.Common.{arith, sym, refl}
use Rattle.proof_form.specs.Refutations.{plain_refutation_node, refutation_parts}
use Rattle.proof_form.proofs.CountLaws.{begins, count_fits, stops}
use Rattle.proof_form.proofs.refutations.is_whole.Goals as goal

pub loop-left-init : goal.loop-left-init
loop-left-init c = begins plain_refutation_node refutation_parts _ _ refl

pub returns-then-below-count : goal.returns-then-below-count
returns-then-below-count c =
    sym (stops plain_refutation_node refutation_parts _ _ _ _ _ (omega arith) c.loop-left.invariant c.index-nodes-left.is (omega arith))

pub overflow_add-count : goal.overflow_add-count
overflow_add-count c = let h = count_fits plain_refutation_node refutation_parts _ _ _ c.loop-left.invariant in omega arith
