use Rattle.std.proofs.Common.{get_or, sym, subst}
use Rattle.nwa_base.specs.declared.letters.Letter.{Letter}
use Rattle.nwa_base.specs.declared.letters.Kind.TheVariants.{Inside}
use Rattle.nwa_base.specs.Acceptance.{Accepts}
use Rattle.path_rows.proofs.MakingLemmas.{read_none, goes_at, read_next, read_all, read_within, same_front, columns_told_apart}
use Rattle.path_rows.proofs.making.read_word.Goals as goal

pub loop-i-init : goal.loop-i-init
loop-i-init c =
    read_none c.args.icfg.now c.letters-letters.result.now c.frame_at_start.result.now c.in_ok-draft.draft c.frame_at_start.ensures.valid c.frame_at_start.ensures.automaton
    (subst (Accepts c.args.icfg.now.automaton) (sym c.letters-letters.ensures.value) c.requires) c.frame_at_start.ensures.value c.in_ok-draft.ensures

pub read-requires-clause-goes : goal.read-requires-clause-goes
read-requires-clause-goes c =
    let d : Letter = record { id = 0; kind = Inside; call = 0 } in
    let a : Letter = get_or c.letters-letters.result.now c.loop-i.i d in
    goes_at c.args.icfg.now c.letters-letters.result.now c.loop-i.i c.loop-i.draft a c.loop-i-test.true (same_front c.letters-letters.result.now c.loop-i.i d c.loop-i-test.true)
    c.loop-i.invariant

pub loop-i-preserved : goal.loop-i-preserved
loop-i-preserved c =
    let d : Letter = record { id = 0; kind = Inside; call = 0 } in
    let a : Letter = get_or c.letters-letters.result.now c.loop-i.i d in
    read_next c.args.icfg.now c.letters-letters.result.now c.loop-i.i c.loop-i.draft c.read.new.self a c.frame_at_start.ensures.valid c.loop-i-test.true
    (same_front c.letters-letters.result.now c.loop-i.i d c.loop-i-test.true) c.loop-i.invariant c.in_ok-read.ensures.value c.in_ok-read.ensures.room

pub returns-clause-done : goal.returns-clause-done
returns-clause-done c =
    read_all c.args.icfg.now c.letters-letters.result.now c.args.word.now c.loop-i.i c.loop-i.draft c.loop-i-test.false c.letters-letters.ensures.value c.loop-i.invariant

pub returns-clause-columns : goal.returns-clause-columns
returns-clause-columns c = columns_told_apart c.args.icfg.now c.letters-letters.result.now c.loop-i.i c.loop-i.draft c.loop-i.invariant

pub returns-clause-within : goal.returns-clause-within
returns-clause-within c = read_within c.args.icfg.now c.letters-letters.result.now c.loop-i.i c.loop-i.draft c.loop-i.invariant
