use Rattle.std.proofs.Common.{◌≡◌, ◌∙◌, ◌+◌, List, sym, ap, map, IsTrue, subst}
use Rattle.std.specs.Prelude.{slice_get}
use Rattle.typed_tree.specs.declared.types.TExpr.{TExpr}
use Rattle.typed_tree.specs.TypedView as view
use Rattle.typed_tree.specs.TypingRules.TypedParts.{TypedParts, typed_program}
use Rattle.icfg_lower.specs.PlaceEdges.WalkedParts.{walked}
use Rattle.icfg_lower.proofs.ProgramWalk.LoopSteps.{seen_at}
use Rattle.icfg_lower.proofs.ProgramWalk.StartSteps.{axiom_starts, axioms_end}
use Rattle.icfg_lower.proofs.ProgramWalk.ReadForms.{axiom_fits}
use Rattle.icfg_lower.specs.PlaceEdges.Forms.{FormsFit}
use Rattle.typed_tree.specs.TypingRules.ValidProgram.{is_valid}
use Rattle.typed_tree.specs.TypedTree.{TypedProgram}
use Rattle.icfg_lower.proofs.program_walk.starting.axioms.Goals as goal

pub start_condition-requires-clause-fit : goal.start_condition-requires-clause-fit
start_condition-requires-clause-fit c =
    let listed : c.axioms-axioms.result.now ≡ c.args.lowering.now.parts.axioms = c.axioms-axioms.ensures ∙ ap (λ (x : TypedParts). x.axioms) (c.program.ensures.value ∙ c.layout.ensures) in
    let valid : IsTrue (is_valid (typed_program c.args.lowering.now.parts)) = subst (λ (x : TypedParts). IsTrue (is_valid (typed_program x))) c.layout.ensures c.program.ensures.valid in
    subst (λ (t : TypedProgram). FormsFit t (view.expression c.axiom-item.result)) (sym c.loop-axiom.invariant.program)
    (axiom_fits (typed_program c.args.lowering.now.parts) c.loop-axiom.axiom-index (view.expression c.axiom-item.result) valid
    (ap (λ (l : List TExpr). slice_get (map view.expression l) c.loop-axiom.axiom-index) (sym listed)
    ∙ seen_at view.expression c.axioms-axioms.result.now c.loop-axiom.axiom-index c.axiom-item.result c.loop-axiom-test.true c.axiom-item.is))

pub loop-axiom-preserved : goal.loop-axiom-preserved
loop-axiom-preserved c =
    let listed : c.axioms-axioms.result.now ≡ c.args.lowering.now.parts.axioms = c.axioms-axioms.ensures ∙ ap (λ (x : TypedParts). x.axioms) (c.program.ensures.value ∙ c.layout.ensures) in
    record {
      program = c.in_ok-start_condition.ensures.program ∙ c.loop-axiom.invariant.program;
      number = ap (λ n. n + 1) c.loop-axiom.invariant.number;
      starts =
          axiom_starts (typed_program c.args.lowering.now.parts) (typed_program c.loop-axiom.lowering.parts) c.loop-axiom.number c.loop-axiom.axiom-index c.axiom-item.result
          (walked c.args.lowering.now) (walked c.loop-axiom.lowering) (walked c.start_condition.new.lowering) c.loop-axiom.invariant.program c.loop-axiom.invariant.number
          (ap (λ (l : List TExpr). slice_get (map view.expression l) c.loop-axiom.axiom-index) (sym listed)
          ∙ seen_at view.expression c.axioms-axioms.result.now c.loop-axiom.axiom-index c.axiom-item.result c.loop-axiom-test.true c.axiom-item.is)
          c.loop-axiom.invariant.starts c.in_ok-start_condition.ensures.starts;
    }

pub returns-clause-starts : goal.returns-clause-starts
returns-clause-starts c =
    let listed : c.axioms-axioms.result.now ≡ c.args.lowering.now.parts.axioms = c.axioms-axioms.ensures ∙ ap (λ (x : TypedParts). x.axioms) (c.program.ensures.value ∙ c.layout.ensures) in
    axioms_end (typed_program c.args.lowering.now.parts) c.loop-axiom.axiom-index c.axioms-axioms.result.now (walked c.args.lowering.now) (walked c.loop-axiom.lowering)
    (ap (map view.expression) (sym listed)) c.loop-axiom.auto.axiom-index-end c.loop-axiom-test.false c.loop-axiom.invariant.starts
