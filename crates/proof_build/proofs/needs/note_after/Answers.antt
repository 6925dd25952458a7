use Rattle.std.proofs.Common.{ℕ, ◌+◌, List, cond, take, sym, subst}
use Rattle.std.proofs.lemmas.List.{take_all}
use Rattle.nwa_base.specs.declared.letters.Letter.{Letter}
use Rattle.proof_names.specs.declared.outlines.Listed.{Listed}
use Rattle.proof_build.specs.Ties.Noted.{IsInserted}
use Rattle.proof_build.specs.Ties.Needs.{Numbers, inside_numbers, call_numbers, NotesAll}
use Rattle.proof_build.proofs.NeedLaws.{some_of, none_of, noted_none, noted_more, noted_still}
use Rattle.proof_build.proofs.needs.note_after.Goals as goal
use Rattle.proof_build.proofs.needs.note_after.Goals.{in-Some+in_ok-insert, in_default}

pub loop-target-init : goal.loop-target-init
loop-target-init c =
    noted_none (cond c.args.is_call c.args.union.now.calls c.args.union.now.insides) (cond c.args.is_call call_numbers inside_numbers) c.args.before.now c.args.letter c.args.noted.now

pub loop-target-preserved : goal.loop-target-preserved
loop-target-preserved c =
    let edges : List (ℕ × Letter × ℕ) = cond c.args.is_call c.args.union.now.calls c.args.union.now.insides in
    let numbers : Numbers = cond c.args.is_call call_numbers inside_numbers in
    elim c.match-source.branch [
      | in-Some+in_ok-insert w ↦ subst (λ (l : List Listed). NotesAll edges numbers c.args.before.now c.args.letter (take (c.loop-target.target-index + 1) c.args.after.now) c.args.noted.now l) (sym w.noted-is)
          (noted_more edges numbers c.args.before.now c.args.letter c.args.after.now c.loop-target.target-index w.in-Some.source w.in_ok-insert.field-0 c.args.noted.now c.loop-target.noted w.insert.new.self
          c.loop-target-test.true c.loop-target.invariant (some_of c.source.result w.in-Some.source _ _ w.in-Some.is c.source.ensures)
          (subst (λ (t : Listed). IsInserted c.loop-target.noted t w.in_ok-insert.field-0 w.insert.new.self) w.listed_by.ensures w.in_ok-insert.ensures))
      | in_default w ↦ subst (λ (l : List Listed). NotesAll edges numbers c.args.before.now c.args.letter (take (c.loop-target.target-index + 1) c.args.after.now) c.args.noted.now l) (sym w.noted-is)
          (noted_still edges numbers c.args.before.now c.args.letter c.args.after.now c.loop-target.target-index c.args.noted.now c.loop-target.noted c.loop-target-test.true c.loop-target.invariant
          (none_of c.source.result _ _ w.in_default.is c.source.ensures))
    ]

pub returns : goal.returns
returns c =
    subst (λ (l : List ℕ). NotesAll (cond c.args.is_call c.args.union.now.calls c.args.union.now.insides) (cond c.args.is_call call_numbers inside_numbers) c.args.before.now c.args.letter l c.args.noted.now c.loop-target.noted)
    (take_all c.loop-target.target-index c.args.after.now c.loop-target-test.false) c.loop-target.invariant
