use Rattle.std.proofs.Common.{◌≡◌, ◌-◌, drop}
use Rattle.proof_names.specs.Predicates.{terms_ascend}
use Rattle.proof_names.proofs.predicates.ascend.Given as goal

abbrev pub invariant-loop-i : goal.invariant-loop-i
invariant-loop-i l = terms_ascend l.terms ≡ terms_ascend (drop (l.i - 1) l.terms)
