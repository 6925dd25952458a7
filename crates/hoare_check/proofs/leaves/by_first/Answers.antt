use Rattle.std.proofs.Common.{◌≡◌, ◌++◌, List, length, map, Option, IfSome, sym, subst, arith}
use Rattle.lin_rows.specs.declared.systems.System.{out-System}
use Rattle.lin_rows.specs.Rows.{LinearRow}
use Rattle.lin_rows.specs.Combinations.{Contradicts}
use Rattle.lin_rows.specs.Systems.{rows_of}
use Rattle.lin_rows.specs.Tightening.{tightened}
use Rattle.hoare_check.specs.declared.leaves.Leaf.{Leaf}
use Rattle.hoare_check.specs.Halves.{IsLeafOf}
use Rattle.hoare_check.proofs.LeafLaws.{some_of}
use Rattle.hoare_check.proofs.JointLaws.{leaf_refutes}
use Rattle.hoare_check.proofs.leaves.by_first.Goals as goal

pub returns : goal.returns
returns c = λ n p q h k.
    let first = c.args.first.now in
    let second = c.args.second.now in
    let xs = rows_of first.system in
    let given = c.args.leaf.now in
    let l : IsLeafOf first.system given = subst (λ (o : Option Leaf). IfSome o (IsLeafOf first.system)) c.requires.leaf h.leaf in
    let count : length xs ≡ c.len-count.result = omega (arith, c.len-count.ensures, (out-System first.system).rows.ok.0) in
    let told : Contradicts (map tightened (xs ++ c.deref-2.result.now)) c.deref.result.now =
    subst (λ (rs : List LinearRow). Contradicts (map tightened (xs ++ rs)) c.deref.result.now) (sym c.deref-2.ensures.value)
    (subst (Contradicts (map tightened (xs ++ given.others.items))) (sym c.deref.ensures.value) l) in
    let found = some_of c.in_ok-parts.field-0 c.in-Some.parts _ c.in-Some.is c.in_ok-parts.ensures xs count told in
    leaf_refutes n p q first second h k c.in-Some.parts.items c.in_ok-tree_of.field-0
    (subst (λ (rs : List LinearRow). Contradicts (map tightened (xs ++ rs)) c.in-Some.parts.items) c.deref-3.ensures.value found) c.in_ok-tree_of.ensures
