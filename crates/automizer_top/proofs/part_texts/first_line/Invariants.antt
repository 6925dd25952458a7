use Rattle.std.proofs.Common.{◌≡◌, take, true}
use Rattle.automizer_top.proofs.PartLines.{is_open}
use Rattle.automizer_top.proofs.part_texts.first_line.Given as goal

abbrev pub invariant-loop-place : goal.invariant-loop-place
invariant-loop-place l = is_open (take l.place l.text) ≡ true
