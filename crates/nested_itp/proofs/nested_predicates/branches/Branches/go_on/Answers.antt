use Rattle.std.proofs.Common.{◌≡◌, List, ◌∷◌}
use Rattle.nested_itp.specs.NestedPredicates.Sums.{Branch}
use Rattle.nested_itp.specs.NestedPredicates.Tables.{entered, branch_of, Await}
use Rattle.nested_itp.proofs.NestedPredicates.RunningLaws.{on_ok}
use Rattle.nested_itp.proofs.NestedPredicates.TableLaws.{next_entered}
use Rattle.nested_itp.proofs.nested_predicates.branches.Branches.go_on.Goals as goal

pub returns : goal.returns
returns c =
    let base : Branch = record { rows = c.truncate.new.self.items; stamps = c.truncate-2.new.self.items } in
    on_ok (branch_of c.add.new.self ≡ entered base c.in-Some.next.side)
    ((b : Branch) (rest : List Branch) → Await c.args.self.now (b ∷ rest) → (branch_of c.add.new.self ≡ b) × Await c.add.new.self rest)
    (λ now. next_entered c.args.self.now c.add.new.self c.in-Some.next c.pop.new.self.items base c.in-Some.ensures.items c.add.ensures.waiting
    (λ i. record { rows = c.truncate.ensures.items i; stamps = c.truncate-2.ensures.items i }) now) c.add.result c.add.ensures.branch
