use Rattle.std.proofs.Common.{◌≡◌, ◌+◌, map, drop, length}
use Rattle.boogie_tree.specs.View as tree
use Rattle.typed_tree.specs.TypedView as typed
use Rattle.explained_proof.specs.Ties.Fitting.{HasPlaces}
use Rattle.explained_proof.specs.Statements as spec
use Rattle.explained_proof.specs.Ties.Views as view
use Rattle.explained_proof.proofs.statements.Walk.+explained_statements.Given as goal

abbrev pub invariant-statements-loop-statement : goal.invariant-statements-loop-statement
invariant-statements-loop-statement l = record {
  value : spec.before (map tree.statement l.out.items) (spec.explained_block (view.setting l.self) (tree.statements l.statement-iterator.rest.items) (view.left l.left)) ≡
      spec.explained_block (view.setting l.fn.self) (tree.statements l.fn.given.items) (view.left l.fn.left);
  labels : drop l.number l.left_labels.items ≡ spec.left_labels (tree.statements l.statement-iterator.rest.items);
  counted : l.number + length l.statement-iterator.rest.items ≡ length l.fn.given.items;
  fits : HasPlaces (map typed.procedure l.self.procs.now) (view.left l.left);
}
