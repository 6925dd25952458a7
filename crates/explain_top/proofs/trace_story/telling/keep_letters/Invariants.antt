use Rattle.std.proofs.Common.{◌≡◌, ◌≤◌, List}
use Rattle.boogie_tree.specs.Tree.{Declaration}
use Rattle.typed_tree.specs.TypedTree.{TypedProgram}
use Rattle.explain_top.specs.RunStory.Tables.{IsTable}
use Rattle.explain_top.specs.TraceStory.Ties.PlaceSites.{place_sites}
use Rattle.explain_top.proofs.TraceStory.TellingLaws.{HasTold}
use Rattle.explain_top.proofs.trace_story.telling.keep_letters.Given as goal

abbrev pub invariant-loop-i : goal.invariant-loop-i
invariant-loop-i l = record {
  told : (t : TypedProgram) (ds : List Declaration) → l.sites ≡ place_sites t → IsTable ds l.table → HasTold t ds l.fn.lines.all l.places l.letters l.i l.calls l.count l.lines;
  opened : l.calls ≤ l.i;
  many : l.count ≤ l.i;
}
