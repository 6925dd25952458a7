use Rattle.std.proofs.Common.{◌∙◌, ℕ, List, ◌++◌, ap}
use Rattle.letter_acts.specs.Frames.{places}
use Rattle.nested_itp.specs.TripleSteps.Ties.Classes.{is_of}
use Rattle.nested_itp.proofs.TripleSteps.ColumnLaws.{places_next, places_done}
use Rattle.nested_itp.proofs.triple_steps.classes.places.Goals as goal

pub loop-i-init : goal.loop-i-init
loop-i-init c = ap (λ (l : List ℕ). l ++ places (is_of c.args.class) 0 c.args.frame.now) c.new-places.ensures.items

pub loop-i-preserved : goal.loop-i-preserved
loop-i-preserved c =
    places_next (is_of c.args.class) c.args.frame.now c.loop-i.i c.in_ok-place.place c.index-frame-i.result c.loop-i.places.items c.add_if.new.columns.items c.is_of.result c.loop-i-test.true
    c.in_ok-place.ensures.value (c.is_of.ensures ∙ ap (is_of c.args.class) c.index-frame-i.is) c.in_ok-add_if.ensures c.loop-i.invariant

pub returns : goal.returns
returns c = places_done (is_of c.args.class) c.args.frame.now c.loop-i.i c.loop-i.places.items c.loop-i-test.false c.loop-i.invariant
