use Rattle.std.proofs.Common.{◌≡◌, ◌+◌, map, drop, length}
use Rattle.boogie_tree.specs.View as view
use Rattle.typed_tree.specs.TypedView as typed
use Rattle.boogie_types.specs.Naming.{named_arguments, hidden_arguments, put_aside}
use Rattle.boogie_types.specs.Ties.PlaceViews.{place_outside}
use Rattle.boogie_types.specs.Ties.Making.{made}
use Rattle.boogie_types.proofs.calls.arguments.Given as goal

-- what is made and what is still to be made is the whole
abbrev pub invariant-loop-number : goal.invariant-loop-number
invariant-loop-number l = record {
  values : made (map typed.expression l.values.items) (named_arguments (place_outside l.place) l.hidden (drop l.number l.params) (map view.expression (drop l.number l.exprs))) ≡ named_arguments (place_outside l.place) l.fn.hidden l.params (map view.expression l.exprs);
  aside : made (map typed.statement l.out.items) (put_aside (place_outside l.place) l.hidden l.span (hidden_arguments (drop l.number l.params) (map view.expression (drop l.number l.exprs)))) ≡ made (map typed.statement l.fn.out.items) (put_aside (place_outside l.place) l.fn.hidden l.span (hidden_arguments l.params (map view.expression l.exprs)));
  count : l.hidden + length (hidden_arguments (drop l.number l.params) (map view.expression (drop l.number l.exprs))) ≡ l.fn.hidden + length (hidden_arguments l.params (map view.expression l.exprs));
}
