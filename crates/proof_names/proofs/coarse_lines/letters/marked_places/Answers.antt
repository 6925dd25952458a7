use Rattle.std.proofs.Common.{false, length, get_or}
use Rattle.proof_names.proofs.CoarseLines.MarkLaws.{places_begin, place_is_done, places_end}
use Rattle.proof_names.proofs.coarse_lines.letters.marked_places.Goals as goal

pub loop-place-init : goal.loop-place-init
loop-place-init c = places_begin (λ n. get_or c.args.marks.now n false) c.new-places.result.items (length c.args.marks.now) c.new-places.ensures.items

pub loop-place-preserved : goal.loop-place-preserved
loop-place-preserved c =
    place_is_done (λ n. get_or c.args.marks.now n false) c.loop-place.places.items c.push_marked.new.places.items c.loop-place.place (length c.args.marks.now) _ c.loop-place-test.true c.in_ok-push_marked.ensures c.loop-place.invariant

pub returns : goal.returns
returns c = places_end (λ n. get_or c.args.marks.now n false) c.loop-place.places.items c.loop-place.place (length c.args.marks.now) _ c.loop-place-test.false c.loop-place.invariant
