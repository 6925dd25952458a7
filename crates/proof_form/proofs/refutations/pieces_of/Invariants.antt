use Rattle.std.proofs.Common.{◌-◌, length, map}
use Rattle.proof_form.specs.Reading.{many, more_follow}
use Rattle.proof_form.specs.Refutations.{plain_refutation_node}
use Rattle.proof_form.specs.RefutationReading.{piece_at}
use Rattle.proof_form.specs.Ties.TreeViews.{part}
use Rattle.proof_form.proofs.ManyLaws.{Reached}
use Rattle.proof_form.proofs.refutations.pieces_of.Given as goal

abbrev pub invariant-loop-turn : goal.invariant-loop-turn
invariant-loop-turn l =
    Reached (map (part plain_refutation_node) l.pieces.items) (many piece_at more_follow (l._turn-end - l._turn) l.rest) (many piece_at more_follow (length l.fn.bytes) l.fn.bytes)
