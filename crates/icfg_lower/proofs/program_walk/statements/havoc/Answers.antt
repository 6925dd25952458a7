use Rattle.std.proofs.Common.{◌∙◌}
use Rattle.std.proofs.lemmas.Option.{slice_get-get_or}
use Rattle.boogie_tree.specs.declared.tree.Column.TheVariants.{Global}
use Rattle.typed_tree.specs.TypingRules.TypedParts.{typed_program}
use Rattle.icfg_lower.specs.PlaceEdges.WalkedParts.{walked}
use Rattle.icfg_lower.proofs.ProgramWalk.LoopSteps.{havoc_step, havoc_ends, stands_at}
use Rattle.icfg_lower.proofs.program_walk.statements.havoc.Goals as goal

pub loop-number-preserved : goal.loop-number-preserved
loop-number-preserved c = record {
  program = c.in_ok-guess.ensures.program ∙ c.loop-number.invariant.program;
  done =
      havoc_step (typed_program c.args.lowering.now.parts) (typed_program c.loop-number.lowering.parts) c.args.here.proc c.args.columns.now c.args.here.place c.args.after c.loop-number.number c.chosen-to.result _
      (walked c.args.lowering.now) (walked c.loop-number.lowering) (walked c.guess.new.lowering) c.loop-number.invariant.program c.loop-number.invariant.program
      (slice_get-get_or c.args.columns.now c.loop-number.number (Global 0) c.loop-number-test.true) c.chosen-to.ensures
      c.loop-number.invariant.done c.in_ok-guess.ensures.led;
}

pub guess-requires : goal.guess-requires
guess-requires c =
    stands_at (typed_program c.args.lowering.now.parts) (typed_program c.loop-number.lowering.parts) c.args.here.proc c.args.columns.now c.loop-number.number _ c.loop-number.invariant.program c.requires.targets
    (slice_get-get_or c.args.columns.now c.loop-number.number (Global 0) c.loop-number-test.true)

pub returns-clause-added : goal.returns-clause-added
returns-clause-added c =
    havoc_ends (typed_program c.args.lowering.now.parts) c.args.here.proc c.args.columns.now c.args.here.place c.args.after c.loop-number.number (walked c.args.lowering.now) (walked c.loop-number.lowering)
    c.loop-number.auto.number-end c.loop-number-test.false c.loop-number.invariant.done
