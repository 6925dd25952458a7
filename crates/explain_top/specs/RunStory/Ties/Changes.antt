-- The columns that a step changes, as the code keeps them.
use Rattle.std.specs.Prelude.{List, [], ◌∷◌, ◌++◌, map, slice_get}
use Rattle.boogie_tree.specs.declared.tree.Column.{Column}
use Rattle.boogie_tree.specs.declared.tree.Column.TheVariants as columns
use Rattle.typed_tree.specs.TypedTree.{TypedProgram}
use Rattle.boogie_run.specs.Steps.{modifies_of}
use Rattle.explain_top.specs.declared.run_story.changes.Changes.{Changes}
use Rattle.explain_top.specs.declared.run_story.changes.Changes.TheVariants as code
use Rattle.explain_top.specs.RunStory.Notes.{parameters}

abbrev pub changed_columns : TypedProgram → Changes → List Column
changed_columns t code.Nothing = []
changed_columns t (code.One x) = x ∷ []
changed_columns t (code.Each xs) = xs.now
changed_columns t (code.Parameters f) = parameters (slice_get t.procs f)
changed_columns t (code.Finished f targets) = map columns.Global (modifies_of (slice_get t.procs f)) ++ targets.now
