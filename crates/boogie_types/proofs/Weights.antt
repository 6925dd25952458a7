-- How much is left of statements, for recursions over them.
use Rattle.std.proofs.Common.{◌≡◌, ℕ, zero, suc, ◌+◌, ◌<◌, List, [], ◌∷◌, length, get_or, ap, arith}
use Rattle.boogie_tree.specs.declared.tree.Stmt.{Stmt}
use Rattle.boogie_tree.specs.Tree.{Statement, If, While, Block, Empty, Then}
use Rattle.boogie_tree.specs.View as view

abbrev mutual
  pub weight : Statement → ℕ
  weight (If at g a b) = 1 + (block_weight a + block_weight b)
  weight (While at g is b) = 1 + block_weight b
  weight s = 1

  pub block_weight : Block → ℕ
  block_weight Empty = 0
  block_weight (Then s b) = 1 + (weight s + block_weight b)

-- a member weighs less than its list
pub member_weight : (ss : List Stmt) (i : ℕ) (x : Stmt) → i < length ss → x ≡ get_or ss i x → weight (view.statement x) < block_weight (view.statements ss)
member_weight [] i x l e = omega arith
member_weight (s ∷ ss) zero x l e =
    let w : weight (view.statement x) ≡ weight (view.statement s) = ap (λ y. weight (view.statement y)) e in omega arith
member_weight (s ∷ ss) (suc i) x l e =
    let below : i < length ss = omega arith in
    let h = member_weight ss i x below e in omega arith
