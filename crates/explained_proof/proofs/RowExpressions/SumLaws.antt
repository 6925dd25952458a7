-- A comparison, from its sides.
use Rattle.std.proofs.Common.{◌≡◌, ◌∙◌, ℕ, ℤ, pos, ◌+ℤ◌, neg_ℤ, FitsSigned, Bool, List, ◌++◌, length, Option, ap, arith, rules}
use Rattle.std.specs.Int.{w128}
use Rattle.std.proofs.lemmas.Int.{ints}
use Rattle.math_facts.specs.Fits.{Fits}
use Rattle.boogie_tree.specs.declared.tree.Op.{Op}
use Rattle.boogie_tree.specs.declared.tree.Op.TheVariants as ops
use Rattle.boogie_tree.specs.Tree.{Expression}
use Rattle.explained_proof.specs.BuiltExpressions.Building.{chained}
use Rattle.explained_proof.specs.RowExpressions.Sums.{stands_left, stands_right, number_if, related, compared}

pub compared_by : (op : Op) (b : ℤ) (ls rs : List Expression) (n m : ℕ) (on_left on_right : Bool) (opposite : ℤ) (left right : Option Expression) →
    n ≡ length ls → m ≡ length rs → on_left ≡ stands_left n m b → on_right ≡ stands_right n m b → opposite ≡ neg_ℤ b →
    left ≡ chained ops.Add (ls ++ number_if on_left opposite) → right ≡ chained ops.Add (rs ++ number_if on_right b) → related op left right ≡ compared op b ls rs
compared_by op b ls rs n m on_left on_right opposite left right p q u v z e f =
    let l : on_left ≡ stands_left (length ls) (length rs) b = u ∙ ap (λ k. stands_left k m b) p ∙ ap (λ k. stands_left (length ls) k b) q in
    let r : on_right ≡ stands_right (length ls) (length rs) b = v ∙ ap (λ k. stands_right k m b) p ∙ ap (λ k. stands_right (length ls) k b) q in
    ap (λ x. related op x right) (e ∙ ap (λ w. chained ops.Add (ls ++ number_if w opposite)) l ∙ ap (λ y. chained ops.Add (ls ++ number_if (stands_left (length ls) (length rs) b) y)) z) ∙
    ap (related op (chained ops.Add (ls ++ number_if (stands_left (length ls) (length rs) b) (neg_ℤ b)))) (f ∙ ap (λ w. chained ops.Add (rs ++ number_if w b)) r)

pub neg_fits : (z : ℤ) → Fits z → FitsSigned w128 (pos 0 +ℤ neg_ℤ z)
neg_fits z h = search (rules, ints)

pub from_zero : (z : ℤ) → pos 0 +ℤ neg_ℤ z ≡ neg_ℤ z
from_zero z = omega (arith, ints)
