-- At depth 0, rows alone are refuted exactly where no rational point meets them.
use Rattle.std.proofs.Common.{◌≡◌, ◌↔◌, ℕ, zero, suc, List, [], Option, None, Some, map, refl, sym, ap, ◌∙◌, subst}
use Rattle.frac.specs.Fractions.{Fraction}
use Rattle.lin_rows.specs.declared.systems.System.{System}
use Rattle.lin_rows.specs.Rows.{LinearRow, IsRow}
use Rattle.lin_rows.specs.Tightening.{tightened}
use Rattle.lin_rows.specs.Systems.{rows_of, groups_of}
use Rattle.fm_elim.specs.Elimination as outcome
use Rattle.fm_elim.specs.Worth.{IsSolvable}
use Rattle.fm_elim.proofs.Refuting.{no_point}
use Rattle.int_decide.specs.Decisions.{Decision, gap}
use Rattle.int_decide.specs.Decide.{first_broken, by_values, by_outcome, decide_rows, decide_groups, decide}
use Rattle.int_decide.specs.Sizes.{group_count, AllRows, SystemBelow}
use Rattle.int_decide.specs.Worth.{IsRefuted}
use Rattle.int_decide.proofs.Points.{OutcomeWorth, elimination_worth}
use Rattle.int_decide.proofs.Worths.{IsFineOpen, fine_open}

pub values_not_refuted : (values : List Fraction) (x : Option (ℕ × Fraction)) → IsRefuted (by_values (λ c k. gap) values x) → ⊥
values_not_refuted values None h = h
values_not_refuted values (Some x) h = h

outcome_exact : (n : ℕ) (rows : List LinearRow) (o : outcome.EliminationOutcome) → OutcomeWorth n rows o → IsRefuted (by_outcome (λ c k. gap) o) ↔ (IsSolvable rows → ⊥)
outcome_exact n rows (outcome.refuted parts) w = (λ r s. no_point rows parts w s, λ s. tt)
outcome_exact n rows (outcome.point values) w = (
  λ r s. values_not_refuted values (first_broken 0 values) r,
  λ s. absurd (s (record { d = w.d; p = w.p; positive = w.are_values.positive; holds = w.holds })),
)

pub groups_none : (f n d : ℕ) (rows : List LinearRow) → decide_groups f n d rows [] ≡ decide_rows n d rows
groups_none zero n d rows = refl
groups_none (suc f) n d rows = refl

pub refuted_exactly : (n : ℕ) (s : System) → AllRows IsRow s → SystemBelow n s → groups_of s ≡ [] → IsRefuted (decide n 0 s) ↔ (IsSolvable (map tightened (rows_of s)) → ⊥)
refuted_exactly n s v b e =
    let o : IsFineOpen n s = fine_open n s (v, b) in
    let rows : List LinearRow = map tightened (rows_of s) in
    let q : decide n 0 s ≡ decide_rows n 0 rows = ap (decide_groups (group_count s) n 0 rows) e ∙ groups_none (group_count s) n 0 rows in
    subst (λ (d : Decision). IsRefuted d ↔ (IsSolvable rows → ⊥)) (sym q)
    (outcome_exact n rows (outcome.elimination n rows) (elimination_worth n rows o.tight o.below))
