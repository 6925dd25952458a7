use Rattle.std.proofs.Common.{ℕ, List, cond, subst}
use Rattle.std.proofs.lemmas.List.{take_all}
use Rattle.nwa_base.specs.declared.letters.Letter.{Letter}
use Rattle.nwa_base.specs.declared.letters.Kind.TheVariants.{Inside}
use Rattle.proof_build.specs.ProofUnwind.Spots.{nodes_of}
use Rattle.proof_build.specs.Ties.Needs.{Numbers, inside_numbers, call_numbers, NotesSteps}
use Rattle.proof_build.proofs.NeedLaws.{steps_none, steps_more}
use Rattle.proof_build.proofs.needs.note_steps.Goals as goal

pub loop-step-init : goal.loop-step-init
loop-step-init c =
    steps_none (cond c.args.is_call c.args.union.now.calls c.args.union.now.insides) (cond c.args.is_call call_numbers inside_numbers) (nodes_of c.args.nodes.now) c.args.noted.now

pub loop-step-preserved : goal.loop-step-preserved
loop-step-preserved c =
    let edges : List (ℕ × Letter × ℕ) = cond c.args.is_call c.args.union.now.calls c.args.union.now.insides in
    let numbers : Numbers = cond c.args.is_call call_numbers inside_numbers in
    steps_more edges numbers (nodes_of c.args.nodes.now) c.args.steps.now c.loop-step.step-index (0, record { id = 0; kind = Inside; call = 0 }, 0) c.preds_at-before.result.now
    c.preds_at-after.result.now c.args.noted.now c.loop-step.noted c.note_after.new.noted c.loop-step-test.true c.loop-step.invariant c.preds_at-before.ensures c.preds_at-after.ensures
    c.in_ok-note_after.ensures

pub returns : goal.returns
returns c =
    let edges : List (ℕ × Letter × ℕ) = cond c.args.is_call c.args.union.now.calls c.args.union.now.insides in
    let numbers : Numbers = cond c.args.is_call call_numbers inside_numbers in
    subst (λ (l : List (ℕ × Letter × ℕ)). NotesSteps edges numbers (nodes_of c.args.nodes.now) l c.args.noted.now c.loop-step.noted) (take_all c.loop-step.step-index c.args.steps.now c.loop-step-test.false)
    c.loop-step.invariant
