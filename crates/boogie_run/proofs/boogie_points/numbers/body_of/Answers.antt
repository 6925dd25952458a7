use Rattle.std.proofs.Common.{◌∙◌, List, ap, sym, map}
use Rattle.std.specs.Prelude.{slice_get}
use Rattle.std.specs.Option.{option_map}
use Rattle.typed_tree.specs.declared.types.TProc.{TProc}
use Rattle.typed_tree.specs.TypedView as view
use Rattle.typed_tree.specs.TypingRules.TypedParts.{typed_program}
use Rattle.boogie_run.specs.BoogiePoints.Numbered.{body_block, block_of}
use Rattle.boogie_run.proofs.BodySteps.{block_found, block_room}
use Rattle.boogie_run.proofs.boogie_points.numbers.body_of.Goals as goal

pub returns-in-None-clause-block : goal.returns-in-None-clause-block
returns-in-None-clause-block c =
    let t = typed_program c.args.program.now in
    ap (λ o. body_block t c.args.proc (view.procedure c.in_ok-found.found.now) (option_map (λ b. view.statements b.items) o)) (sym c.in-None.is)
    ∙ ap (block_of t c.args.proc) (c.in_ok-found.ensures ∙ ap (λ (ps : List TProc). slice_get (map view.procedure ps) c.args.proc) c.procs.ensures)

pub returns-in-Some-clause-block : goal.returns-in-Some-clause-block
returns-in-Some-clause-block c =
    block_found (typed_program c.args.program.now) c.args.proc (view.procedure c.in_ok-found.found.now) _ _ c.in_ok-first.first
    (sym (c.in_ok-found.ensures ∙ ap (λ (ps : List TProc). slice_get (map view.procedure ps) c.args.proc) c.procs.ensures))
    (ap (option_map (λ b. view.statements b.items)) c.in-Some.is) (ap view.statements c.deref.ensures.value) c.in_ok-first.ensures

pub returns-in-Some-clause-room : goal.returns-in-Some-clause-room
returns-in-Some-clause-room c =
    block_room (typed_program c.args.program.now) c.args.proc (view.procedure c.in_ok-found.found.now) _ _ c.in_ok-first.first
    (sym (c.in_ok-found.ensures ∙ ap (λ (ps : List TProc). slice_get (map view.procedure ps) c.args.proc) c.procs.ensures))
    (ap (option_map (λ b. view.statements b.items)) c.in-Some.is) (ap view.statements c.deref.ensures.value) c.in_ok-first.ensures
