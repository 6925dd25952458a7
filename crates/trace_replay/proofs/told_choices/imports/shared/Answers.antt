use Rattle.std.proofs.Common.{◌∙◌, ℕ, ◌+◌, Bool, cond, List, [], ◌∷◌, drop, get_or, refl, sym, ap, append-nil}
use Rattle.lowered_graph.specs.LoweredSteps.Edges.{those_in}
use Rattle.trace_replay.proofs.ToldChoices.Turns.{turn}
use Rattle.trace_replay.proofs.LastTurns.{last_turn}
use Rattle.trace_replay.proofs.told_choices.imports.shared.Goals as goal
use Rattle.trace_replay.proofs.told_choices.imports.shared.Goals.{then-is_in+in_ok-push, else-is_in}

pub loop-global-preserved : goal.loop-global-preserved
loop-global-preserved c =
    let n : ℕ = get_or c.args.modified.now c.loop-global.global-index 0 in
    let rest : List ℕ = those_in c.args.targets.now (drop (c.loop-global.global-index + 1) c.args.modified.now) in
    elim c.if-is_in.branch [
      | then-is_in+in_ok-push w ↦
          turn (those_in c.args.targets.now) c.args.modified.now c.loop-global.global-index 0 c.loop-global.found.items c.if-is_in.found.items (those_in c.args.targets.now c.args.modified.now)
          (n ∷ []) c.loop-global-test.true (ap (λ (b : Bool). cond b (n ∷ rest) rest) (sym c.is_in.ensures ∙ w.if-is_in.true))
          (ap (λ v. v.items) w.found-is ∙ w.in_ok-push.ensures.items) c.loop-global.invariant
      | else-is_in w ↦
          turn (those_in c.args.targets.now) c.args.modified.now c.loop-global.global-index 0 c.loop-global.found.items c.if-is_in.found.items (those_in c.args.targets.now c.args.modified.now)
          [] c.loop-global-test.true (ap (λ (b : Bool). cond b (n ∷ rest) rest) (sym c.is_in.ensures ∙ w.if-is_in.false))
          (ap (λ v. v.items) w.found-is ∙ sym (append-nil c.loop-global.found.items)) c.loop-global.invariant
    ]

pub loop-global-init : goal.loop-global-init
loop-global-init c = rw c.new-found.ensures.items refl

pub returns : goal.returns
returns c =
    last_turn (those_in c.args.targets.now) c.args.modified.now c.loop-global.global-index c.loop-global.found.items (those_in c.args.targets.now c.args.modified.now) refl
    c.loop-global-test.false c.loop-global.invariant
