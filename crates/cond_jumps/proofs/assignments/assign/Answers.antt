use Rattle.std.proofs.Common.{◌≡◌, ℕ, ◌+◌, false, map, length, sym, subst, arith}
use Rattle.typed_tree.specs.TypedView.{expression}
use Rattle.cond_jumps.specs.Conjunctions.{all_fit}
use Rattle.cond_jumps.specs.Frames.{frame_environment}
use Rattle.cond_jumps.specs.Paths.{assigns}
use Rattle.cond_jumps.proofs.assignments.assign.Goals as goal

pub returns-in_err-_members-clause-too_big : goal.returns-in_err-_members-clause-too_big
returns-in_err-_members-clause-too_big c = λ e.
    let w : ℕ = length c.args.frame.now.columns.items in
    let h = rw e at c.from_residual-in_err-_members.ensures.1 in
    absurd ((c.in_err-_members.ensures (w + length c.args.values.now) w (omega arith) (omega arith)).1 (sym h))

pub returns-in_err-_members-clause-too_wide : goal.returns-in_err-_members-clause-too_wide
returns-in_err-_members-clause-too_wide c = λ e.
    let w : ℕ = length c.args.frame.now.columns.items in
    let h = rw e at c.from_residual-in_err-_members.ensures.1 in
    let k = c.requires in
    (c.in_err-_members.ensures (w + length c.args.targets.now) w (omega arith) (omega (arith, k))).0 (sym h)

pub returns-in-Ok-values_list-clause-narrow : goal.returns-in-Ok-values_list-clause-narrow
returns-in-Ok-values_list-clause-narrow c = λ e.
    let w : ℕ = length c.args.frame.now.columns.items in
    let k = c.requires in
    (c.in_ok-_members.ensures (w + length c.args.targets.now) w (omega arith) (omega (arith, k))).narrow

pub returns-in-Err-TooBig-clause-too_big : goal.returns-in-Err-TooBig-clause-too_big
returns-in-Err-TooBig-clause-too_big c = λ e.
    let w : ℕ = length c.args.frame.now.columns.items in
    let k = c.requires in
    let first : c.in-Ok.first ≡ w = omega arith in
    let base : c.in_ok-base.base ≡ w + length c.args.targets.now = omega arith in
    let P : ℕ → ℕ → Type 0 = λ j n. all_fit (assigns (frame_environment c.args.frame.now.columns.items) j (map expression c.args.values.now)) n ≡ false in
    let h : P c.in-Ok.first c.in_ok-base.base = c.in-Err-TooBig.ensures c.in-Err-TooBig.field-0-is in
    ((c.in_ok-_members.ensures (w + length c.args.targets.now) w (omega arith) (omega (arith, k))).narrow, subst (λ n. P w n) base (subst (λ j. P j c.in_ok-base.base) first h))
