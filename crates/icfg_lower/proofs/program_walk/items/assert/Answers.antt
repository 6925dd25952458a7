use Rattle.std.proofs.Common.{sym, subst}
use Rattle.typed_tree.specs.TypedView as view
use Rattle.typed_tree.specs.TypingRules.TypedParts.{typed_program}
use Rattle.icfg_lower.specs.PlaceEdges.Forms.{FormsFit}
use Rattle.icfg_lower.specs.PlaceEdges.WalkedParts.{WalkedParts}
use Rattle.icfg_lower.proofs.ProgramWalk.ItemSteps.{assert_led}
use Rattle.icfg_lower.proofs.program_walk.items.assert.Goals as goal

pub test-requires-clause-fit : goal.test-requires-clause-fit
test-requires-clause-fit c = subst (λ (x : WalkedParts). FormsFit (typed_program x.parts) (view.expression c.args.cond.now)) (sym c.in_ok-assertion.ensures) c.requires.fit

pub returns-clause-item : goal.returns-clause-item
returns-clause-item c =
    assert_led c.args.span c.args.number c.args.here.proc c.args.here.place c.args.to c.error_place-wrong.result (view.expression c.args.cond.now) c.in_ok-trouble.trouble.wide c.in_ok-trouble.trouble.big
    c.layout.result.now c.args.lowering.now c.assertion.new.self c.test.new.lowering c.note.new.self c.in_ok-assertion.ensures c.layout.ensures c.error_place-wrong.ensures c.in_ok-trouble.ensures c.note.ensures
