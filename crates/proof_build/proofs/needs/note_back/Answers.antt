use Rattle.std.proofs.Common.{ℕ, ◌+◌, List, take, sym, subst}
use Rattle.std.proofs.lemmas.List.{take_all}
use Rattle.proof_names.specs.declared.outlines.Listed.{Listed}
use Rattle.proof_build.specs.Ties.Needs.{NotesBacks}
use Rattle.proof_build.proofs.NeedLaws.{some_of, none_of, backs_none, backs_more, backs_still}
use Rattle.proof_build.proofs.needs.note_back.Goals as goal
use Rattle.proof_build.proofs.needs.note_back.Goals.{in-Some+in_ok-insert, in_default}

pub loop-target-init : goal.loop-target-init
loop-target-init c = backs_none c.args.union.now.backs c.args.exits.now c.args.before.now c.args.letter c.args.noted.now

pub loop-target-preserved : goal.loop-target-preserved
loop-target-preserved c = elim c.match-back_sources.branch [
  | in-Some+in_ok-insert w ↦ subst (λ (l : List Listed). NotesBacks c.args.union.now.backs c.args.exits.now c.args.before.now c.args.letter (take (c.loop-target.target-index + 1) c.args.after.now) c.args.noted.now l) (sym w.noted-is)
      (backs_more c.args.union.now.backs c.args.exits.now c.args.before.now c.args.letter c.args.after.now c.loop-target.target-index w.in-Some.exit w.in-Some.source w.in_ok-insert.field-0 c.args.noted.now c.loop-target.noted w.insert.new.self
      c.loop-target-test.true c.loop-target.invariant (some_of c.back_sources.result (w.in-Some.exit, w.in-Some.source) _ _ w.in-Some.is c.back_sources.ensures) w.in_ok-insert.ensures)
  | in_default w ↦ subst (λ (l : List Listed). NotesBacks c.args.union.now.backs c.args.exits.now c.args.before.now c.args.letter (take (c.loop-target.target-index + 1) c.args.after.now) c.args.noted.now l) (sym w.noted-is)
      (backs_still c.args.union.now.backs c.args.exits.now c.args.before.now c.args.letter c.args.after.now c.loop-target.target-index c.args.noted.now c.loop-target.noted c.loop-target-test.true c.loop-target.invariant
      (none_of c.back_sources.result _ _ w.in_default.is c.back_sources.ensures))
]

pub returns : goal.returns
returns c =
    subst (λ (l : List ℕ). NotesBacks c.args.union.now.backs c.args.exits.now c.args.before.now c.args.letter l c.args.noted.now c.loop-target.noted) (take_all c.loop-target.target-index c.args.after.now c.loop-target-test.false)
    c.loop-target.invariant
