use Rattle.std.proofs.Common.{◌≡◌, take, drop}
use Rattle.proof_form.specs.TextReading.{first_line}
use Rattle.proof_form.proofs.StandingLaws.{led_by}
use Rattle.proof_form.proofs.text_lines.first_line.Given as goal

abbrev pub invariant-loop-i : goal.invariant-loop-i
invariant-loop-i l = led_by (take l.i l.text) (first_line (drop l.i l.text)) ≡ first_line l.text
