use Rattle.std.proofs.Common.{◌∙◌, ℕ, List, ap, get_or}
use Rattle.std.proofs.lemmas.Option.{slice_get-get_or}
use Rattle.icfg_lower.specs.PlaceEdges.WalkedParts.{walked}
use Rattle.icfg_lower.specs.ProgramWalk.Ties.Walks.{label_or_exit}
use Rattle.icfg_lower.proofs.ProgramWalk.LoopSteps.{ways_step}
use Rattle.icfg_lower.proofs.program_walk.statements.ways.Goals as goal

pub loop-label-preserved : goal.loop-label-preserved
loop-label-preserved c = record {
  program = c.in_ok-skip.ensures.program ∙ c.loop-label.invariant.program;
  led =
      ways_step c.args.here.proc c.args.here.place (label_or_exit c.args.body.now.labels.items c.args.body.now.exit) c.args.labels.now c.loop-label.label-index (get_or c.args.labels.now c.loop-label.label-index 0)
      c.label_or_exit-to.result (walked c.args.lowering.now) (walked c.loop-label.lowering) (walked c.skip.new.self) c.loop-label-test.true
      (slice_get-get_or c.args.labels.now c.loop-label.label-index 0 c.loop-label-test.true)
      (c.label_or_exit-to.ensures ∙ ap (λ (xs : List ℕ). label_or_exit xs c.args.body.now.exit (get_or c.args.labels.now c.loop-label.label-index 0)) c.deref.ensures.value) c.loop-label.invariant.led c.in_ok-skip.ensures;
}
