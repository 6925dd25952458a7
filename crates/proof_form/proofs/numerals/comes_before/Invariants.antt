use Rattle.std.proofs.Common.{◌≡◌, drop}
use Rattle.proof_form.specs.Numerals.{comes_before}
use Rattle.proof_form.proofs.numerals.comes_before.Given as goal

abbrev pub invariant-loop-i : goal.invariant-loop-i
invariant-loop-i l = comes_before (drop l.i l.first) (drop l.i l.second) ≡ comes_before l.first l.second
