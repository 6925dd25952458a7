use Rattle.std.proofs.Common.{◌≡◌, map, drop}
use Rattle.boogie_tree.specs.View as view
use Rattle.typed_tree.specs.TypedView as typed
use Rattle.typed_tree.specs.declared.fault.TypeFault.{TypeFault}
use Rattle.boogie_types.specs.BrokenNames.{IsMisnamedIn}
use Rattle.boogie_types.specs.Naming.{named_block, hidden_in_block}
use Rattle.boogie_types.specs.Ties.Places.{label_by}
use Rattle.boogie_types.specs.Ties.PlaceViews.{place_at}
use Rattle.boogie_types.specs.Ties.Making.{block_made}
use Rattle.std.proofs.Common.{◌+◌, None}
use Rattle.boogie_types.proofs.Weights.{weight, block_weight}
use Rattle.boogie_types.proofs.statements.+statements.Given as goal

abbrev pub decreases-statement : goal.decreases-statement
decreases-statement l = weight (view.statement l.statement.now) + weight (view.statement l.statement.now)

abbrev pub decreases-put_branches : goal.decreases-put_branches
decreases-put_branches l =
    1 + ((block_weight (view.statements l.then.now) + block_weight (view.statements l.then.now)) + (block_weight (view.statements l.otherwise.now) + block_weight (view.statements l.otherwise.now)))

abbrev pub decreases-looped : goal.decreases-looped
decreases-looped l = 1 + (block_weight (view.statements l.body.now) + block_weight (view.statements l.body.now))

abbrev pub decreases-block : goal.decreases-block
decreases-block l = block_weight (view.statements l.statements.now) + block_weight (view.statements l.statements.now)

-- what is made and what is still to be made is the whole
abbrev pub invariant-block-loop-each : goal.invariant-block-loop-each
invariant-block-loop-each l = record {
  made : block_made (map typed.statement l.out.items) (named_block (place_at l.place l.fn.walk.loops.items) (label_by l.before) l.walk.hidden (view.statements (drop l.each-index l.statements))) ≡ named_block (place_at l.place l.fn.walk.loops.items) None l.fn.walk.hidden (view.statements l.statements);
  hidden : l.walk.hidden + hidden_in_block (place_at l.place l.fn.walk.loops.items) (view.statements (drop l.each-index l.statements)) ≡ l.fn.walk.hidden + hidden_in_block (place_at l.place l.fn.walk.loops.items) (view.statements l.statements);
  loops : l.walk.loops.items ≡ l.fn.walk.loops.items;
  faults : (f : TypeFault) → IsMisnamedIn (place_at l.place l.fn.walk.loops.items) (label_by l.before) (view.statements (drop l.each-index l.statements)) f → IsMisnamedIn (place_at l.place l.fn.walk.loops.items) None (view.statements l.statements) f;
}
