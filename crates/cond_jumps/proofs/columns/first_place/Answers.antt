use Rattle.std.proofs.Common.{subst}
use Rattle.letter_acts.specs.Frames.{Columns}
use Rattle.cond_jumps.specs.CodeView.{FoundAt}
use Rattle.cond_jumps.proofs.PlaceLemmas.{place_found}
use Rattle.cond_jumps.proofs.columns.first_place.Goals as goal

pub returns-in_ok-place_at-in-Some : goal.returns-in_ok-place_at-in-Some
returns-in_ok-place_at-in-Some c =
    place_found c.args.frame.now.columns.items c.args.column c.in-Some.i c.in_ok-place_at-in-Some.field-0
    (let P : Columns → Type 0 = λ l. FoundAt l c.args.column c.in-Some.i in subst P c.as_slice.ensures.value c.in-Some.ensures.some) c.in_ok-place_at-in-Some.ensures
