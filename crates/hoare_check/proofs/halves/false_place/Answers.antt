use Rattle.std.proofs.Common.{◌+◌, ◌++◌, ℕ, Option, IfSome, subst, arith}
use Rattle.lin_rows.specs.declared.systems.System.{out-System}
use Rattle.lin_rows.specs.Systems.{rows_of}
use Rattle.triple_rows.specs.Systems.{PlainSystem}
use Rattle.hoare_check.specs.Halves.{IsFalseRow, IsHalf}
use Rattle.hoare_check.proofs.JointLaws.{counted, false_in_front, false_behind}
use Rattle.hoare_check.proofs.halves.false_place.Goals as goal

pub returns-in-Some : goal.returns-in-Some
returns-in-Some c = λ n p q h k.
    false_in_front (rows_of c.args.first.now.system) (rows_of c.args.second.now.system) c.in-Some.place
    (subst (λ (o : Option ℕ). IfSome o (IsFalseRow (rows_of c.args.first.now.system))) c.in-Some.is h.false_row)

pub returns-in-Some-false_row : goal.returns-in-Some-false_row
returns-in-Some-false_row c =
    let first = rows_of c.args.first.now.system in
    let second = rows_of c.args.second.now.system in
    counted (c.in-Some-false_row.place + c.len.result) c.plus.result (λ m. (n : ℕ) (p q : PlainSystem) → IsHalf n p c.args.first.now → IsHalf n q c.args.second.now → IsFalseRow (first ++ second) m)
    c.plus.ensures (λ m e n p q h k.
    false_behind first second c.in-Some-false_row.place m (omega (arith, e, c.len.ensures, (out-System c.args.first.now.system).rows.ok.0)) (subst (λ (o : Option ℕ). IfSome o (IsFalseRow second)) c.in-Some-false_row.is k.false_row))
