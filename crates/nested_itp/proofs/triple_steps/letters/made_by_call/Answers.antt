use Rattle.std.proofs.Common.{refl}
use Rattle.letter_acts.specs.Frames.{places, is_local}
use Rattle.letter_acts.specs.FrameRows.Frames.{is_old}
use Rattle.nested_itp.proofs.TripleSteps.LetterLaws.{made_three}
use Rattle.nested_itp.proofs.triple_steps.letters.made_by_call.Goals as goal

pub returns : goal.returns
returns c =
    made_three c.args.at c.args.helpers_at c.args.helpers c.args.callee.now c.new-made.result.items c.add_places.new.made.items c.add_columns.new.made.items c.add_places-2.new.made.items
    (places is_local 0 c.args.callee.now) (places is_old 0 c.args.callee.now) c.new-made.ensures.items refl refl c.in_ok-add_places.ensures c.in_ok-add_columns.ensures c.in_ok-add_places-2.ensures
