use Rattle.std.proofs.Common.{Option, ap, sym, length, refl}
use Rattle.std.specs.Option.{option_map}
use Rattle.std.proofs.lemmas.Option.{slice_get_read, slice_get_past}
use Rattle.boogie_tree.specs.declared.tree.Column.{Column}
use Rattle.boogie_run.specs.BoogiePoints.Ties.AtStatement.{guessed}
use Rattle.boogie_run.specs.BoogiePoints.Told.{Guess}
use Rattle.boogie_run.proofs.boogie_points.acting.havoc.Goals as goal

pub returns-in-Some : goal.returns-in-Some
returns-in-Some c =
    ap (λ (o : Option Column). guessed (option_map Guess o))
    (sym (slice_get_read c.args.columns.now (length c.args.columns.now) c.args.part c.in-Some.column.now refl c.in-Some.ensures.lookup.3.0 c.in-Some.ensures.lookup.1))

pub returns-in-None : goal.returns-in-None
returns-in-None c = ap (λ (o : Option Column). guessed (option_map Guess o)) (sym (slice_get_past c.args.columns.now c.args.part c.in-None.ensures.lookup.3))
