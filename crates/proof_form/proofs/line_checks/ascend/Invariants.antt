use Rattle.std.proofs.Common.{◌≡◌, ◌-◌, drop}
use Rattle.proof_form.specs.Lines.{ascend}
use Rattle.proof_form.proofs.line_checks.ascend.Given as goal

abbrev pub invariant-loop-i : goal.invariant-loop-i
invariant-loop-i l = ascend (drop (l.i - 1) l.numerals) ≡ ascend l.numerals
