use Rattle.std.proofs.Common.{◌≡◌, ◌<◌, ◌^◌, ℕ, ℤ, List, Option, None, length, sym, subst, arith}
use Rattle.fm_elim.specs.Slices.{IsPoint}
use Rattle.lin_rows.specs.Points.{point_of}
use Rattle.lin_rows.specs.Systems.{Meets}
use Rattle.int_decide.specs.Decide.{first_broken}
use Rattle.int_decide.specs.Ties.Searching.{cut_at}
use Rattle.int_decide.proofs.RationalPoints.{solved_unrefuted, whole_point_meets, point_solves, uncut_none}
use Rattle.int_decide.proofs.without_cuts.of_point.Goals as goal

pub first_broken-requires : goal.first_broken-requires
first_broken-requires c =
    let met : IsPoint c.args.columns c.args.rows.now c.args.values.now = c.in_ok-is_met.ensures c.if-not-branch.false in
    let many : length c.args.values.now ≡ c.args.columns = met.meets.columns in
    let small : c.args.columns < 2 ^ 32 = c.ranges.columns.fits in
    omega arith

pub returns-in-Some : goal.returns-in-Some
returns-in-Some c =
    solved_unrefuted c.args.columns c.args.system.now c.args.rows.now c.requires.below c.requires.alone c.requires.tight c.requires.valid
    (point_solves c.args.columns c.args.rows.now c.args.values.now (c.in_ok-is_met.ensures c.if-not-branch.false))

pub returns-in_ok-numerators-in-None : goal.returns-in_ok-numerators-in-None
returns-in_ok-numerators-in-None c =
    let met : IsPoint c.args.columns c.args.rows.now c.args.values.now = c.in_ok-is_met.ensures c.if-not-branch.false in
    let whole : first_broken 0 c.args.values.now ≡ None = uncut_none (first_broken 0 c.args.values.now) (subst (λ (x : Option (ℕ × ℤ)). x ≡ cut_at (first_broken 0 c.args.values.now)) c.in-None.is c.first_broken.ensures.value) in (
      subst (λ (xs : List ℤ). Meets (point_of xs) c.args.system.now) (sym c.in_ok-numerators-in-None.ensures.value)
          (whole_point_meets c.args.columns c.args.system.now c.args.rows.now c.requires.below c.requires.alone c.requires.tight c.requires.valid c.args.values.now met.meets c.in_ok-numerators-in-None.ensures.valid whole),
      solved_unrefuted c.args.columns c.args.system.now c.args.rows.now c.requires.below c.requires.alone c.requires.tight c.requires.valid
          (point_solves c.args.columns c.args.rows.now c.args.values.now met),
    )
