use Rattle.std.proofs.Common.{◌∙◌, List, ap, map}
use Rattle.std.specs.Prelude.{slice_get}
use Rattle.std.specs.Option.{is_some, option_map}
use Rattle.typed_tree.specs.declared.types.TProc.{TProc}
use Rattle.typed_tree.specs.TypedView as view
use Rattle.typed_tree.specs.TypingRules.TypedParts.{typed_program}
use Rattle.boogie_run.specs.declared.boogie_points.numbers.First.{First}
use Rattle.boogie_run.proofs.BoogiePoints.NumberLaws.{first_found}
use Rattle.boogie_run.proofs.boogie_points.numbers.first_at.Goals as goal

pub returns-in-Some : goal.returns-in-Some
returns-in-Some c =
    first_found (typed_program c.args.program.now) c.args.proc (view.procedure c.in_ok-found.found.now) c.get.result c.fits.ensures.places
    (c.in_ok-found.ensures ∙ ap (λ (ps : List TProc). slice_get (map view.procedure ps) c.args.proc) c.procs.ensures)
    (ap (λ o. is_some (option_map (λ b. view.statements b.items) o)) c.in-Some.is)
    (c.get.ensures ∙ ap (λ (ns : List First). slice_get ns c.args.proc) c.requires)
