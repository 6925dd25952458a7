use Rattle.std.proofs.Common.{ap, sym, ◌∙◌}
use Rattle.typed_tree.specs.TypedTree as typed
use Rattle.boogie_types.specs.Ties.PlaceViews.{place_outside}
use Rattle.boogie_types.specs.Naming.{hidden_column}
use Rattle.boogie_types.proofs.Seen.{place_seen}
use Rattle.boogie_types.proofs.calls.aside.Goals as goal

pub returns-clause-ok : goal.returns-clause-ok
returns-clause-ok c =
    ap (typed.Var c.args.argument.now.span) c.in_ok-column.ensures.ok
    ∙ ap (λ at. typed.Var at (hidden_column (place_outside c.args.place.now) c.args.hidden.now)) (sym (place_seen c.args.argument.now.span c.args.argument.now.kind))
