use Rattle.std.proofs.Common.{◌≡◌, Some, None, sym, subst}
use Rattle.modular_cut.specs.declared.cutting.Part.{Part}
use Rattle.automizer_top.specs.PartTexts.{text_behind, part_line}
use Rattle.automizer_top.proofs.PartLoops.{not_this, this_one, none_named}
use Rattle.automizer_top.proofs.parts.part_in.Goals as goal

pub returns-in-Some : goal.returns-in-Some
returns-in-Some c =
    this_one c.args.parts.now c.args.text.now c.loop-number.number c.index-parts-number.result c.in-Some.rest c.loop-number-test.true c.index-parts-number.is
    (subst (λ (p : Part). text_behind (part_line p.name) c.args.text.now ≡ Some c.in-Some.rest.now) (sym c.index-parts-number.is) (sym c.in-Some.ensures)) c.loop-number.invariant

pub loop-number-preserved : goal.loop-number-preserved
loop-number-preserved c =
    not_this c.args.parts.now c.args.text.now c.loop-number.number c.index-parts-number.result c.loop-number-test.true c.index-parts-number.is
    (subst (λ (p : Part). text_behind (part_line p.name) c.args.text.now ≡ None) (sym c.index-parts-number.is) (sym c.in_default.ensures)) c.loop-number.invariant

pub returns : goal.returns
returns c = none_named c.args.parts.now c.args.text.now c.loop-number.number c.loop-number-test.false c.loop-number.invariant
