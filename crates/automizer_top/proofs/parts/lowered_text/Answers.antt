use Rattle.typed_tree.specs.TypingRules.TypedParts.{typed_program}
use Rattle.modular_cut.specs.View.{plain_part}
use Rattle.std.proofs.Common.{map}
use Rattle.text_reports.specs.Answers.{answer_of}
use Rattle.automizer_top.specs.Ties.Answers.{answered}
use Rattle.automizer_top.specs.Report.{IsTypedText, RefusesTyped}
use Rattle.automizer_top.specs.Ties.PartViews.{AreParts, RefusesFree, AreGraphsOf, RefusesUnlowered}
use Rattle.automizer_top.proofs.PartFunctions.{typed_refused, cut_refused, unlowered_refused}
use Rattle.automizer_top.proofs.parts.lowered_text.Goals as goal

pub returns-in-Err : goal.returns-in-Err
returns-in-Err c =
    let r : RefusesTyped c.args.entry.now c.args.text.now (answer_of c.in-Err.answer) = rw c.in-Err.is at c.in_ok-program.ensures.typed in
    typed_refused c.args.entry.now c.args.text.now (answer_of c.in-Err.answer) r

pub parts_of-requires : goal.parts_of-requires
parts_of-requires c = record { names = rw c.in-Ok.is at c.in_ok-program.ensures.names }

pub returns-in-Err-made : goal.returns-in-Err-made
returns-in-Err-made c =
    let t = typed_program c.in-Ok.program in
    let typed : IsTypedText c.args.entry.now c.args.text.now t = rw c.in-Ok.is at c.in_ok-program.ensures.typed in
    let r : RefusesFree t (answered c.in-Err-made.answer) = rw c.in-Err-made.is at c.in-Ok-parts_of.ensures in
    cut_refused c.args.entry.now c.args.text.now t (answered c.in-Err-made.answer) typed r

pub returns-in-Ok-lowered : goal.returns-in-Ok-lowered
returns-in-Ok-lowered c =
    let t = typed_program c.in-Ok.program in
    let typed : IsTypedText c.args.entry.now c.args.text.now t = rw c.in-Ok.is at c.in_ok-program.ensures.typed in
    let parts : AreParts t c.in-Ok-made.parts.items = rw c.in-Ok-made.is at c.in-Ok-parts_of.ensures in
    let graphs : AreGraphsOf (map plain_part c.deref.result.now) c.in-Ok-lowered.graphs.items = rw c.in-Ok-lowered.is at c.in-Ok-graphs_of.ensures in
    (t, typed, parts, rw (← c.deref.ensures.value) graphs)

pub returns-in-Err-lowered : goal.returns-in-Err-lowered
returns-in-Err-lowered c =
    let t = typed_program c.in-Ok.program in
    let typed : IsTypedText c.args.entry.now c.args.text.now t = rw c.in-Ok.is at c.in_ok-program.ensures.typed in
    let parts : AreParts t c.in-Ok-made.parts.items = rw c.in-Ok-made.is at c.in-Ok-parts_of.ensures in
    let r : RefusesUnlowered (map plain_part c.deref.result.now) (answer_of c.in-Err-lowered.answer) = rw c.in-Err-lowered.is at c.in-Ok-graphs_of.ensures in
    unlowered_refused c.args.entry.now c.args.text.now t c.in-Ok-made.parts.items (answer_of c.in-Err-lowered.answer) typed parts (rw (← c.deref.ensures.value) r)
