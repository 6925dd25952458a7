use Rattle.std.proofs.Common.{◌≡◌, ◌↔◌, ◌∙◌, FitsSigned, sym, subst}
use Rattle.std.specs.Int.{w128}
use Rattle.std.proofs.lemmas.Int.{to_z-of_z}
use Rattle.math_facts.specs.Terms.{dot}
use Rattle.lin_rows.specs.Rows.{LinearRow, Stands, Holds}
use Rattle.lin_rows.specs.Sums.{row_of}
use Rattle.lin_rows.proofs.RowLemmas.{row_of_from_sum}
use Rattle.lin_rows.proofs.HoldsLaws.{holds-row_of}
use Rattle.lin_rows.proofs.make.row.Goals as goal

value_of : (c : goal.After-new) → c.new.result ≡ row_of c.args.terms.now c.args.kind c.args.bound
value_of c =
    let f : FitsSigned w128 c.args.bound = c.ranges.bound in
    (simp to_z-of_z at c.new.ensures) ∙
    row_of_from_sum c.args.terms.now c.in-Some.sum.items c.args.kind c.args.bound (rw c.in-Some.is at c.in_ok-sum.ensures)

pub returns-clause-value : goal.returns-clause-value
returns-clause-value c = value_of c

pub returns-clause-holds : goal.returns-clause-holds
returns-clause-holds c = λ point.
    subst (λ (r : LinearRow). Holds point r ↔ Stands c.args.kind (dot point c.args.terms.now) c.args.bound) (sym (value_of c))
    (holds-row_of point c.args.terms.now c.args.kind c.args.bound)
