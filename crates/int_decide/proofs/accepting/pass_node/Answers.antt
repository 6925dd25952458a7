use Rattle.int_decide.proofs.CutLaws.{pass_cases}
use Rattle.std.proofs.Common.{ℕ, suc, ◌≡◌, ◌-◌, List, [], ◌∷◌, ◌++◌, ap, ◌∙◌, arith}
use Rattle.int_decide.proofs.CutSteps.{pass_leaf, pass_cut}
use Rattle.int_decide.proofs.accepting.pass_node.Goals as goal

pub returns-in_ok-push_copies-in-Cases : goal.returns-in_ok-push_copies-in-Cases
returns-in_ok-push_copies-in-Cases c =
    rw c.in-Cases.is
    (pass_cases _ c.in-Some.left c.args.lefts.now.items c.pop.new.self.items c.push_copies.new.numbers.items (rw c.in-Some.is at c.pop.ensures.items)
    c.in_ok-push_copies-in-Cases.ensures)

pub returns-in-Leaf : goal.returns-in-Leaf
returns-in-Leaf c = rw c.in-Leaf.is (pass_leaf c.in-Leaf.field-0.items c.in-Some.left c.args.lefts.now.items c.pop.new.self.items (rw c.in-Some.is at c.pop.ensures.items))

pub returns-in_ok-push-in-Cut-2 : goal.returns-in_ok-push-in-Cut-2
returns-in_ok-push-in-Cut-2 c =
    let less : ℕ = c.in-Some.left - 1 in
    let one : c.in-Some.left ≡ suc (c.in-Some.left - 1) = omega arith in
    rw c.in-Cut.is
    (pass_cut c.in-Cut.col c.in-Cut.k c.in-Some.left less c.args.lefts.now.items c.pop.new.self.items c.push-in-Cut.new.self.items one (rw c.in-Some.is at c.pop.ensures.items)
    (c.in_ok-push-in-Cut-2.ensures.items ∙ ap (λ (ls : List ℕ). ls ++ less ∷ []) c.in_ok-push-in-Cut.ensures.items))
