use Rattle.std.proofs.Common.{◌≡◌, false, length, get_or}
use Rattle.std.specs.List.{filter, range_with_len}
use Rattle.proof_names.proofs.CoarseLines.MarkLaws.{with_places}
use Rattle.proof_names.proofs.coarse_lines.letters.marked_places.Given as goal

abbrev pub invariant-loop-place : goal.invariant-loop-place
invariant-loop-place l = with_places (λ n. get_or l.marks n false) l.places.items l.place (length l.marks) ≡ filter (λ n. get_or l.marks n false) (range_with_len 0 (length l.marks))
