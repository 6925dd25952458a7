use Rattle.std.proofs.Common.{◌≡◌, ◌∙◌, ◌≤◌, List, ◌++◌, map, Some, refl, length, sym, ap, arith}
use Rattle.std.specs.Prelude.{slice_get}
use Rattle.std.specs.Option.{option_map}
use Rattle.std.proofs.lemmas.List.{length-map}
use Rattle.std.proofs.lemmas.Option.{slice_get-map, slice_get_read}
use Rattle.typed_tree.specs.TypedTree.{TypedProcedure}
use Rattle.typed_tree.specs.TypedView as view
use Rattle.typed_tree.specs.declared.types.TProc.{TProc}
use Rattle.typed_tree.specs.TypingRules.TypedParts.{typed_program}
use Rattle.trace_replay.specs.ToldChoices.Ties.Walks.{body_kinds}
use Rattle.trace_replay.specs.ToldChoices.Ties.Views.{plain_kinds}
use Rattle.trace_replay.proofs.ToldChoices.Steps.{kinds_step, kinds_done}
use Rattle.trace_replay.proofs.ToldChoices.PlaceKinds.{program_kinds_are}
use Rattle.trace_replay.proofs.told_choices.table.kinds_of.Goals as goal

pub loop-proc-preserved : goal.loop-proc-preserved
loop-proc-preserved c =
    let q : TypedProcedure = view.procedure c.index-procs-proc.result in
    let got : slice_get c.procs-procs.result.now c.loop-proc.proc ≡ Some c.index-procs-proc.result =
    slice_get_read c.procs-procs.result.now (length c.procs-procs.result.now) c.loop-proc.proc c.index-procs-proc.result refl (omega arith) c.index-procs-proc.is in
    let found : slice_get (map view.procedure c.args.program.now.procs) c.loop-proc.proc ≡ Some q =
    ap (λ (ps : List TProc). slice_get (map view.procedure ps) c.loop-proc.proc) (sym c.procs-procs.ensures) ∙ slice_get-map view.procedure c.procs-procs.result.now c.loop-proc.proc ∙ ap (option_map view.procedure) got in
    kinds_step (typed_program c.args.program.now) c.loop-proc.proc q (plain_kinds c.loop-proc.kinds.items) (plain_kinds c.add_procedure.new.kinds.items) found
    (c.in_ok-add_procedure.ensures ∙ (λ i. plain_kinds c.loop-proc.kinds.items ++ body_kinds (map view.procedure (c.procs-procs.ensures i)) (c.columns_of.ensures i) q q.body))
    ∙ c.loop-proc.invariant

pub returns : goal.returns
returns c =
    let all : length (typed_program c.args.program.now).procs ≤ c.loop-proc.proc =
    omega (arith, length-map c.args.program.now.procs view.procedure, ap length c.procs-procs.ensures, c.loop-proc-test.false) in
    kinds_done (typed_program c.args.program.now) c.loop-proc.proc (plain_kinds c.loop-proc.kinds.items) all c.loop-proc.invariant ∙ program_kinds_are (typed_program c.args.program.now)
