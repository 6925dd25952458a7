use Rattle.std.proofs.Common.{rules, FitsSigned, sym, ◌∙◌}
use Rattle.std.specs.Int.{w128}
use Rattle.std.proofs.lemmas.Int.{to_z-of_z}
use Rattle.lin_rows.proofs.MergingLemmas.{merging_starts, merging_ascends, least_fits, merging_goes, merging_ends, fewer_left}
use Rattle.lin_rows.proofs.merging.merged.Goals as goal

pub split_at_column-first-requires : goal.split_at_column-first-requires
split_at_column-first-requires c =
    (merging_ascends _ _ _ _ _ _ _ c.loop-column.invariant (sym c.least_column.ensures ∙ c.in-Some.is)).0

pub split_at_column-second-requires : goal.split_at_column-second-requires
split_at_column-second-requires c =
    (merging_ascends _ _ _ _ _ _ _ c.loop-column.invariant (sym c.least_column.ensures ∙ c.in-Some.is)).1

pub loop-column-smaller : goal.loop-column-smaller
loop-column-smaller c =
    rw (c.split_at_column-first.ensures.rest, c.split_at_column-second.ensures.rest)
    (fewer_left _ _ _ (sym c.least_column.ensures ∙ c.in-Some.is))

pub loop-column-preserved : goal.loop-column-preserved
loop-column-preserved c =
    let f : FitsSigned w128 c.args.m = c.ranges.m in
    let g : FitsSigned w128 c.split_at_column-first.result.0 = search rules in
    let k : FitsSigned w128 c.split_at_column-second.result.0 = search rules in
    let j : FitsSigned w128 c.in-Some-plus_times.coefficient = search rules in
    let h = rw (c.split_at_column-first.ensures.value, c.split_at_column-second.ensures.value) at (simp to_z-of_z at c.in-Some-plus_times.ensures) in
    let s = simp to_z-of_z at c.loop-column.invariant in
    let p = simp to_z-of_z at c.in_ok-push_term.ensures in
    simp to_z-of_z (rw (p, c.split_at_column-first.ensures.rest, c.split_at_column-second.ensures.rest)
    (merging_goes _ _ _ _ _ _ _ _ s (sym c.least_column.ensures ∙ c.in-Some.is) h.1 h.0.0 (rw h.1 h.0.1)))

pub returns : goal.returns
returns c =
    let f : FitsSigned w128 c.args.m = c.ranges.m in
    merging_ends _ _ _ _ _ _ (simp to_z-of_z at c.loop-column.invariant) (sym c.least_column.ensures ∙ c.in_default.is)

pub loop-column-init : goal.loop-column-init
loop-column-init c =
    let f : FitsSigned w128 c.args.m = c.ranges.m in
    simp to_z-of_z (rw c.new-sum.ensures.items (merging_starts c.args.a.now c.args.m c.args.b.now c.requires.a_ascends c.requires.b_ascends))

pub returns-in_default-plus_times : goal.returns-in_default-plus_times
returns-in_default-plus_times c =
    let f : FitsSigned w128 c.args.m = c.ranges.m in
    let g : FitsSigned w128 c.split_at_column-first.result.0 = search rules in
    let k : FitsSigned w128 c.split_at_column-second.result.0 = search rules in
    let n = rw (c.split_at_column-first.ensures.value, c.split_at_column-second.ensures.value) at (simp to_z-of_z at c.in_default-plus_times.ensures) in
    λ h. n (least_fits _ _ _ _ _ _ _ (simp to_z-of_z at c.loop-column.invariant) h)
