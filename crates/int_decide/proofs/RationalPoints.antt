-- Rows without groups that a rational point meets: Decide without cuts does not refute them.
use Rattle.std.proofs.Common.{◌≡◌, ◌∙◌, ℕ, ℤ, List, [], Option, None, Some, map, ap, refl, sym, subst}
use Rattle.std.specs.List.{AllByRecursion}
use Rattle.math_facts.specs.Terms.{IsBelow}
use Rattle.frac.specs.Fractions.{Fraction, IsFraction}
use Rattle.lin_rows.specs.declared.systems.System.{System}
use Rattle.lin_rows.specs.Rows.{LinearRow, IsRow, Holds, RowsBelow}
use Rattle.lin_rows.specs.Points.{point_of}
use Rattle.lin_rows.specs.Systems.{Meets, EachHasMember, rows_of, groups_of}
use Rattle.lin_rows.specs.Tightening.{tightened}
use Rattle.lin_rows.proofs.SystemLaws.{meets_close}
use Rattle.fm_elim.specs.Elimination as outcome
use Rattle.fm_elim.specs.Slices.{IsPickedOutcome, IsPoint}
use Rattle.fm_elim.specs.Worth.{IsSolvable, MeetsAll}
use Rattle.fm_elim.proofs.Inputs.{IsBelow-tightened}
use Rattle.fm_elim.proofs.Lists.{all_map}
use Rattle.int_decide.specs.Decisions.{gap}
use Rattle.int_decide.specs.Decide.{first_broken, by_outcome, decide_rows, decide_groups, decide}
use Rattle.int_decide.specs.Ties.Searching.{cut_at}
use Rattle.int_decide.specs.Sizes.{group_count, SystemBelow}
use Rattle.int_decide.specs.WithoutCuts.{IsNotRefuted}
use Rattle.int_decide.specs.Worth.{IsRefuted}
use Rattle.int_decide.proofs.Exactness.{values_not_refuted, groups_none}
use Rattle.int_decide.proofs.Opening.{SystemBelow_open}
use Rattle.int_decide.proofs.PickedValues.{own_outcome}
use Rattle.int_decide.proofs.Points.{whole_meets_all}
use Rattle.int_decide.proofs.Tight.{hold_untightened}
use Rattle.int_decide.proofs.TightRows.{tight_stay, tightened_stay}

solved_outcome : (n : ℕ) (rows : List LinearRow) (o : outcome.EliminationOutcome) → IsPickedOutcome n rows o → IsSolvable rows → IsRefuted (by_outcome (λ c k. gap) o) → ⊥
solved_outcome n rows (outcome.refuted parts) u s r = u s
solved_outcome n rows (outcome.point values) u s r = values_not_refuted values (first_broken 0 values) r

module _ (n : ℕ) (s : System) (rows : List LinearRow) (b : SystemBelow n s) (alone : groups_of s ≡ []) (t : rows ≡ map tightened (rows_of s)) (v : AllByRecursion IsRow rows) where
  tight_below : RowsBelow n rows
  tight_below = subst (RowsBelow n) (sym t)
      (all_map (λ r. IsBelow n r.terms) (λ r. IsBelow n r.terms) tightened (rows_of s) (λ r i. IsBelow-tightened n r i) (SystemBelow_open n s b).0)

  stay_tight : map tightened rows ≡ rows
  stay_tight = subst (λ (rs : List LinearRow). map tightened rs ≡ rs) (sym t) (tight_stay (map tightened (rows_of s)) (tightened_stay (rows_of s)))

  -- any rational point refuses the system
  pub solved_unrefuted : IsSolvable rows → IsNotRefuted n s
  solved_unrefuted k = λ r f.
      let all : List LinearRow = map tightened (rows_of s) in
      let q : decide n 0 s ≡ decide_rows n 0 rows =
      ap (decide_groups (group_count s) n 0 all) alone ∙ groups_none (group_count s) n 0 all ∙ ap (decide_rows n 0) (sym t) in
      solved_outcome n rows (outcome.elimination n rows) (own_outcome n rows v tight_below stay_tight) k (subst IsRefuted q r)

  -- and a whole one meets it
  pub whole_point_meets : (values : List Fraction) → MeetsAll n rows values → AllByRecursion IsFraction values → first_broken 0 values ≡ None →
      Meets (point_of (map (λ f. f.num) values)) s
  whole_point_meets values m w e =
      let point : ℕ → ℤ = point_of (map (λ f. f.num) values) in
      meets_close point s (
        hold_untightened point (rows_of s) (subst (AllByRecursion (Holds point)) t (whole_meets_all n rows values m w e)),
        subst (EachHasMember (Meets point)) (sym alone) tt,
      )

pub point_solves : (n : ℕ) (rows : List LinearRow) (values : List Fraction) → IsPoint n rows values → IsSolvable rows
point_solves n rows values p = record { d = p.meets.d; p = p.meets.p; positive = p.meets.positive; holds = p.meets.holds }

pub uncut_none : (x : Option (ℕ × Fraction)) → None ≡ cut_at x → x ≡ None
uncut_none None e = refl
uncut_none (Some y) e = absurd (let z : ⊥ = cc in z)
