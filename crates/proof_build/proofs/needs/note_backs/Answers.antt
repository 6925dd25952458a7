use Rattle.std.proofs.Common.{ℕ, List, subst}
use Rattle.std.proofs.lemmas.List.{take_all}
use Rattle.nwa_base.specs.declared.letters.Letter.{Letter}
use Rattle.nwa_base.specs.declared.letters.Kind.TheVariants.{Inside}
use Rattle.proof_build.specs.ProofUnwind.Spots.{nodes_of}
use Rattle.proof_build.specs.Ties.Needs.{NotesBackSteps}
use Rattle.proof_build.proofs.NeedLaws.{back_steps_none, back_steps_more}
use Rattle.proof_build.proofs.needs.note_backs.Goals as goal

pub loop-step-init : goal.loop-step-init
loop-step-init c = back_steps_none c.args.union.now.backs (nodes_of c.args.nodes.now) c.args.noted.now

pub loop-step-preserved : goal.loop-step-preserved
loop-step-preserved c =
    back_steps_more c.args.union.now.backs (nodes_of c.args.nodes.now) c.args.steps.now c.loop-step.step-index (0, 0, record { id = 0; kind = Inside; call = 0 }, 0) c.preds_at-exits.result.now
    c.preds_at-before.result.now c.preds_at-after.result.now c.args.noted.now c.loop-step.noted c.note_back.new.noted c.loop-step-test.true c.loop-step.invariant c.preds_at-exits.ensures
    c.preds_at-before.ensures c.preds_at-after.ensures c.in_ok-note_back.ensures

pub returns : goal.returns
returns c =
    subst (λ (l : List (ℕ × ℕ × Letter × ℕ)). NotesBackSteps c.args.union.now.backs (nodes_of c.args.nodes.now) l c.args.noted.now c.loop-step.noted) (take_all c.loop-step.step-index c.args.steps.now c.loop-step-test.false)
    c.loop-step.invariant
