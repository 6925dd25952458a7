use Rattle.std.proofs.Common.{◌≡◌, ◌++◌, map, drop}
use Rattle.typed_tree.specs.TypedView as view
use Rattle.explain_top.specs.TraceStory.Ties.PlaceSites.{block_sites}
use Rattle.explain_top.proofs.trace_story.sites.+statements.Given as goal

abbrev pub invariant-add_block-loop-statement : goal.invariant-add_block-loop-statement
invariant-add_block-loop-statement l = l.sites.items ++ block_sites (map view.procedure l.procs) l.proc (view.statements (drop l.statement-index l.listed)) ≡ l.fn.sites.items ++ block_sites (map view.procedure l.procs) l.proc (view.statements l.listed)
