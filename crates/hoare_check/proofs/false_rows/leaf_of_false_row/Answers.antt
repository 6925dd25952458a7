use Rattle.std.proofs.Common.{◌≡◌, ◌<◌, List, length, sym, subst}
use Rattle.lin_rows.specs.Combinations.{row_at}
use Rattle.lin_rows.specs.Rows.{LinearRow}
use Rattle.lin_rows.specs.Tightening.{never}
use Rattle.int_decide.specs.Answers.{RefutesWithin}
use Rattle.hoare_check.proofs.FalseRowLaws.{never_refutes}
use Rattle.hoare_check.proofs.false_rows.leaf_of_false_row.Goals as goal

pub returns-in_ok-leaf_of-in-Some : goal.returns-in_ok-leaf_of-in-Some
returns-in_ok-leaf_of-in-Some c =
    let place = c.in-Some.place in
    let found = subst (λ (rows : List LinearRow). (place < length rows) × (row_at rows place ≡ never)) c.deref.ensures.value c.in-Some.ensures in
    subst (RefutesWithin 0 c.args.system.now) (sym c.in_ok-leaf_of-in-Some.ensures) (never_refutes c.args.system.now place found.0 found.1)
