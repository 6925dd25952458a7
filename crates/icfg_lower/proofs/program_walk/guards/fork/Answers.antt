use Rattle.std.proofs.Common.{◌≡◌, ◌∙◌, ◌+◌, List, refl, ap, map}
use Rattle.typed_tree.specs.TypedView as view
use Rattle.typed_tree.specs.TypedTree.{TypedProcedure}
use Rattle.typed_tree.specs.TypingRules.Counts.{block_assertions, block_points}
use Rattle.typed_tree.specs.TypingRules.TypedParts.{TypedParts, typed_program}
use Rattle.icfg_lower.specs.PlaceEdges.WalkedParts.{walked}
use Rattle.icfg_lower.proofs.ProgramWalk.WalkSteps.{forks}
use Rattle.icfg_lower.proofs.program_walk.guards.fork.Goals as goal

pub returns-clause-added : goal.returns-clause-added
returns-clause-added c =
    let procs : map view.procedure c.procs.result.now ≡ (typed_program c.args.lowering.now.parts).procs =
    ap (map view.procedure) (c.procs.ensures ∙ ap (λ (x : TypedParts). x.procs) (c.program.ensures.value ∙ c.layout.ensures)) in
    let place : c.behind_block-second.result.place ≡ c.args.here.place + 1 + block_points (typed_program c.args.lowering.now.parts).procs (view.statements c.args.then.now) =
    c.behind_block-second.ensures.place ∙ ap (λ (ps : List TypedProcedure). c.args.here.place + 1 + block_points ps (view.statements c.args.then.now)) procs in
    let number : c.behind_block-second.result.assertion ≡ c.args.assertion + block_assertions (typed_program c.args.lowering.now.parts).procs (view.statements c.args.then.now) =
    c.behind_block-second.ensures.assertion ∙ ap (λ (ps : List TypedProcedure). c.args.assertion + block_assertions ps (view.statements c.args.then.now)) procs in
    forks (typed_program c.args.lowering.now.parts) c.args.here.proc c.args.after c.args.guarded.span (view.guard c.args.guarded.cond.now) (view.statements c.args.then.now) (view.statements c.args.otherwise.now)
    c.args.assertion c.args.here.place c.first_place-hit.result c.first_place-miss.result c.behind_block-second.result.assertion c.behind_block-second.result.place (walked c.args.lowering.now) (walked c.choose.new.lowering)
    refl number place c.first_place-hit.ensures c.first_place-miss.ensures c.in_ok-choose.ensures.item
