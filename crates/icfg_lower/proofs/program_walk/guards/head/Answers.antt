use Rattle.std.proofs.Common.{◌+◌, ◌<◌, ◌^◌, ℕ, refl, sym, ap, map, length, arith}
use Rattle.std.proofs.lemmas.List.{length-map}
use Rattle.typed_tree.specs.TypedView as view
use Rattle.typed_tree.specs.TypingRules.TypedParts.{typed_program}
use Rattle.lowered_graph.specs.LoweredSteps.ProgramFrames.{frame_at}
use Rattle.icfg_lower.specs.PlaceEdges.WalkedParts.{walked}
use Rattle.icfg_lower.proofs.ProgramWalk.HeadNumbers.{invariants_fit, inner_fits, before_inner}
use Rattle.icfg_lower.proofs.ProgramWalk.WalkSteps.{heads}
use Rattle.icfg_lower.proofs.program_walk.guards.head.Goals as goal

pub returns-clause-added : goal.returns-clause-added
returns-clause-added c =
    heads (typed_program c.args.lowering.now.parts) (typed_program c.invariants.new.lowering.parts) c.args.here.proc c.args.after c.args.guarded.span (view.guard c.args.guarded.cond.now) (map view.invariant c.args.conditions.now)
    (view.statements c.args.inner.now) c.args.assertion c.args.here.place (length c.args.conditions.now) c.first_place-hit.result c.in_ok-number.number (c.args.here.place + length c.args.conditions.now + 1)
    (walked c.args.lowering.now) (walked c.invariants.new.lowering) (walked c.choose.new.lowering) c.in_ok-number.ensures.program c.in_ok-number.ensures.program (sym (length-map c.args.conditions.now view.invariant))
    c.in_ok-number.ensures.number refl c.first_place-hit.ensures c.in_ok-number.ensures.added c.in_ok-choose.ensures.item

pub returns-clause-fits : goal.returns-clause-fits
returns-clause-fits c = inner_fits (typed_program c.args.lowering.now.parts) (frame_at (typed_program c.args.lowering.now.parts) c.args.here.proc) c.args.guarded.span (view.guard c.args.guarded.cond.now) (map view.invariant c.args.conditions.now) (view.statements c.args.inner.now) c.args.assertion c.args.here.place (length c.args.conditions.now) c.in_ok-number.number c.requires.fits (sym (length-map c.args.conditions.now view.invariant)) c.in_ok-number.ensures.number

pub returns-clause-numbers : goal.returns-clause-numbers
returns-clause-numbers c = record { assertion = c.in_ok-number.ensures.number; point = ap (λ (n : ℕ). c.args.here.place + n + 1) (sym (length-map c.args.conditions.now view.invariant)) }

pub invariants-requires-clause-numbers : goal.invariants-requires-clause-numbers
invariants-requires-clause-numbers c = invariants_fit (typed_program c.args.lowering.now.parts) (frame_at (typed_program c.args.lowering.now.parts) c.args.here.proc) c.args.guarded.span (view.guard c.args.guarded.cond.now) (map view.invariant c.args.conditions.now) (view.statements c.args.inner.now) c.args.assertion c.args.here.place (length c.args.conditions.now) c.requires.fits (sym (length-map c.args.conditions.now view.invariant))

pub overflow_add-at : goal.overflow_add-at
overflow_add-at c = let h : c.args.here.place + length c.args.conditions.now + 1 < 2 ^ 32 = before_inner (typed_program c.args.lowering.now.parts) (frame_at (typed_program c.args.lowering.now.parts) c.args.here.proc) c.args.guarded.span (view.guard c.args.guarded.cond.now) (map view.invariant c.args.conditions.now) (view.statements c.args.inner.now) c.args.assertion c.args.here.place (length c.args.conditions.now) c.requires.fits (sym (length-map c.args.conditions.now view.invariant)) in omega arith

pub overflow_add-first : goal.overflow_add-first
overflow_add-first c = let h : c.args.here.place + length c.args.conditions.now + 1 < 2 ^ 32 = before_inner (typed_program c.args.lowering.now.parts) (frame_at (typed_program c.args.lowering.now.parts) c.args.here.proc) c.args.guarded.span (view.guard c.args.guarded.cond.now) (map view.invariant c.args.conditions.now) (view.statements c.args.inner.now) c.args.assertion c.args.here.place (length c.args.conditions.now) c.requires.fits (sym (length-map c.args.conditions.now view.invariant)) in omega arith
