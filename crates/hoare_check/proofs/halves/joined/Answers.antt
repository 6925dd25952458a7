use Rattle.std.proofs.Common.{◌∙◌, ◌++◌, sym, ap}
use Rattle.std.specs.Prelude.{List}
use Rattle.rayon.proofs.ListFacts.{IfOk-then}
use Rattle.lin_rows.specs.Rows.{LinearRow}
use Rattle.lin_rows.specs.Systems.{rows_of}
use Rattle.lin_rows.proofs.SystemLaws.{same_open}
use Rattle.hoare_check.proofs.JointLaws.{joint_is_system, copy_is_system}
use Rattle.hoare_check.proofs.halves.joined.Goals as goal

pub returns-clause-rows : goal.returns-clause-rows
returns-clause-rows c =
    let front = c.in_ok-front.front in
    let back = c.in_ok-back.back in
    let a = same_open c.args.first.now front c.in_ok-front.ensures.says_same in
    let b = same_open c.args.second.now back c.in_ok-back.ensures.says_same in
    IfOk-then c.appended.result _ _ c.appended.ensures (λ s j.
    j.rows ∙ ap (λ (rs : List LinearRow). rs ++ rows_of back) (sym a.0) ∙ ap (λ (rs : List LinearRow). rows_of c.args.first.now ++ rs) (sym b.0))

pub returns-clause-system : goal.returns-clause-system
returns-clause-system c = IfOk-then c.appended.result _ _ c.appended.ensures (λ s j p q h k.
    joint_is_system p q c.in_ok-front.front c.in_ok-back.back s (copy_is_system p c.args.first.now c.in_ok-front.front h c.in_ok-front.ensures.says_same)
    (copy_is_system q c.args.second.now c.in_ok-back.back k c.in_ok-back.ensures.says_same) j)
