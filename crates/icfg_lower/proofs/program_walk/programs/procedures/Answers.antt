use Rattle.std.proofs.Common.{◌≡◌, ◌∙◌, List, refl, sym, ap, map, length, arith}
use Rattle.std.specs.Prelude.{slice_get}
use Rattle.std.proofs.lemmas.List.{length-map}
use Rattle.typed_tree.specs.declared.types.TProc.{TProc}
use Rattle.typed_tree.specs.TypedView as view
use Rattle.typed_tree.specs.TypedTree.{TypedProgram}
use Rattle.typed_tree.specs.TypingRules.TypedParts.{TypedParts, typed_program}
use Rattle.icfg_lower.specs.PlaceEdges.WalkedParts.{walked}
use Rattle.icfg_lower.proofs.ProgramWalk.LoopSteps.{seen_at}
use Rattle.icfg_lower.proofs.ProgramWalk.WholeSteps.{no_procedure, one_more_procedure, all_procedures}
use Rattle.icfg_lower.proofs.program_walk.programs.procedures.Goals as goal

pub loop-number-init : goal.loop-number-init
loop-number-init c = record { program = refl; added = no_procedure (typed_program c.args.lowering.now.parts) (walked c.args.lowering.now) }

pub procedure-requires : goal.procedure-requires
procedure-requires c =
    let procs : c.procs-procs.result.now ≡ c.args.lowering.now.parts.procs = c.procs-procs.ensures ∙ ap (λ (x : TypedParts). x.procs) (c.program.ensures.value ∙ c.layout-layout.ensures) in
    ap (λ (x : TypedProgram). slice_get x.procs c.loop-number.number) c.loop-number.invariant.program
    ∙ ap (λ (ps : List TProc). slice_get (map view.procedure ps) c.loop-number.number) (sym procs)
    ∙ seen_at view.procedure c.procs-procs.result.now c.loop-number.number c.index-procs-number.result c.loop-number-test.true c.index-procs-number.is

pub loop-number-preserved : goal.loop-number-preserved
loop-number-preserved c =
    let procs : c.procs-procs.result.now ≡ c.args.lowering.now.parts.procs = c.procs-procs.ensures ∙ ap (λ (x : TypedParts). x.procs) (c.program.ensures.value ∙ c.layout-layout.ensures) in
    record {
      program = c.in_ok-procedure.ensures.program ∙ c.loop-number.invariant.program;
      added =
          one_more_procedure (typed_program c.args.lowering.now.parts) (typed_program c.loop-number.lowering.parts) c.loop-number.number (view.procedure c.index-procs-number.result)
          (walked c.args.lowering.now) (walked c.loop-number.lowering) (walked c.procedure.new.lowering) c.loop-number.invariant.program
          (ap (λ (ps : List TProc). slice_get (map view.procedure ps) c.loop-number.number) (sym procs)
          ∙ seen_at view.procedure c.procs-procs.result.now c.loop-number.number c.index-procs-number.result c.loop-number-test.true c.index-procs-number.is)
          c.loop-number.invariant.added c.in_ok-procedure.ensures.added;
    }

pub returns-clause-added : goal.returns-clause-added
returns-clause-added c =
    let procs : c.procs-procs.result.now ≡ c.args.lowering.now.parts.procs = c.procs-procs.ensures ∙ ap (λ (x : TypedParts). x.procs) (c.program.ensures.value ∙ c.layout-layout.ensures) in
    let count : length (typed_program c.args.lowering.now.parts).procs ≡ length c.procs-procs.result.now =
    length-map c.args.lowering.now.parts.procs view.procedure ∙ ap (λ (ps : List TProc). length ps) (sym procs) in
    all_procedures (typed_program c.args.lowering.now.parts) c.loop-number.number (walked c.args.lowering.now) (walked c.loop-number.lowering) (omega (arith, c.loop-number-test.false, count)) c.loop-number.invariant.added
