use Rattle.std.proofs.Common.{◌∙◌, refl, ap}
use Rattle.letter_acts.specs.Acts.{frame_of}
use Rattle.letter_acts.specs.Invariant.{alphabet_of}
use Rattle.nwa_base.specs.declared.letters.Letter.{Letter}
use Rattle.nwa_base.specs.declared.letters.Kind.TheVariants.{Inside}
use Rattle.nested_itp.proofs.NestedPredicates.StampCounts.{stamps_start, stamps_next, stamps_done}
use Rattle.nested_itp.proofs.nested_predicates.stamps.Stamps.of.Goals as goal

pub loop-i-init : goal.loop-i-init
loop-i-init c = stamps_start c.args.icfg.now c.args.letters.now c.columns.result.now c.in_ok-stamps.stamps (c.columns.ensures.value ∙ ap (frame_of (alphabet_of c.args.icfg.now)) c.start_proc.ensures) c.in_ok-stamps.ensures.rows c.in_ok-stamps.ensures.columns

pub loop-i-preserved : goal.loop-i-preserved
loop-i-preserved c =
    let d : Letter = record { id = 0; kind = Inside; call = 0 } in
    stamps_next c.args.icfg.now c.args.letters.now c.loop-i.i _ d c.loop-i.stamps c.read.new.self c.loop-i-test.true refl c.loop-i.invariant c.in_ok-read.ensures

pub returns-clause-rows : goal.returns-clause-rows
returns-clause-rows c = (stamps_done c.args.icfg.now c.args.letters.now c.loop-i.i c.loop-i.stamps c.loop-i-test.false c.loop-i.invariant).0

pub returns-clause-columns : goal.returns-clause-columns
returns-clause-columns c = (stamps_done c.args.icfg.now c.args.letters.now c.loop-i.i c.loop-i.stamps c.loop-i-test.false c.loop-i.invariant).1
