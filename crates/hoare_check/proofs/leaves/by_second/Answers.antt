use Rattle.std.proofs.Common.{◌≡◌, ◌∙◌, ◌++◌, ℕ, length, map, Option, IfSome, sym, ap, subst, arith}
use Rattle.lin_rows.specs.declared.systems.System.{out-System}
use Rattle.lin_rows.specs.Combinations.{Contradicts}
use Rattle.lin_rows.specs.Systems.{rows_of}
use Rattle.lin_rows.specs.Tightening.{tightened}
use Rattle.hoare_check.specs.declared.leaves.Leaf.{Leaf}
use Rattle.hoare_check.specs.Halves.{IsLeafOf}
use Rattle.hoare_check.proofs.LeafLaws.{some_of, moved_by, leaf_behind}
use Rattle.hoare_check.proofs.JointLaws.{leaf_refutes}
use Rattle.hoare_check.proofs.leaves.by_second.Goals as goal

pub returns : goal.returns
returns c = λ n p q h k.
    let first = c.args.first.now in
    let second = c.args.second.now in
    let xs = rows_of first.system in
    let ys = rows_of second.system in
    let given = c.args.leaf.now in
    let l : IsLeafOf second.system given = subst (λ (o : Option Leaf). IfSome o (IsLeafOf second.system)) c.requires.leaf k.leaf in
    let count : c.len.result ≡ length xs = omega (arith, c.len.ensures, (out-System first.system).rows.ok.0) in
    let is : c.in-Some.parts.items ≡ moved_by c.len.result c.deref.result.now = some_of c.in_ok-parts.field-0 c.in-Some.parts _ c.in-Some.is c.in_ok-parts.ensures in
    let moved : c.in-Some.parts.items ≡ moved_by (length xs) given.parts.items =
    is ∙ ap (λ (m : ℕ). moved_by m c.deref.result.now) count ∙ ap (moved_by (length xs)) c.deref.ensures.value in
    leaf_refutes n p q first second h k c.in-Some.parts.items c.in_ok-tree_of.field-0
    (subst (Contradicts (map tightened (xs ++ ys))) (sym moved) (leaf_behind xs ys given.others.items given.parts.items c.requires.alone l)) c.in_ok-tree_of.ensures
