-- The edges of one place by the numbers of places and columns, and the lists that they need.
use Rattle.std.specs.Prelude.{ℕ, true, false, List, [], ◌∷◌, ◌++◌, map}
use Rattle.typed_tree.specs.TypedTree.{TypedExpression, TypedGuard, Any, Cond}
use Rattle.letter_acts.specs.Acts.{inside_act, call_act}
use Rattle.letter_acts.specs.Frames.{Columns}
use Rattle.cond_jumps.specs.FreeProducts.Letters.{MarkedConjunction}
use Rattle.cond_jumps.specs.FreeProducts.FrameLetters.{path_letters, passed_letters}
use Rattle.letter_acts.specs.LetterTable.Letters.{Arc, inside_arc, call_arc}
use Rattle.lowered_graph.specs.LoweredSteps.Edges.{no_rows}
use Rattle.lowered_graph.specs.Items.{Needed, path_needed, assign_needed, passed_needed}

-- an edge of procedure n for each letter of a list, from one place to another; each writes these columns
abbrev pub list_arcs : ℕ → ℕ → List ℕ → List MarkedConjunction → ℕ → List Arc
list_arcs n place written ls to = map (λ l. inside_arc place (record { act = inside_act n written l.plain.helpers l.plain.rows; coarse = l.coarse }) to) ls

-- one that writes these columns with any values
abbrev pub skip_arcs : ℕ → ℕ → List ℕ → ℕ → List Arc
skip_arcs n place written to = list_arcs n place written no_rows to

-- one way where the condition is true, the other where it is false
abbrev pub test_arcs : Columns → ℕ → ℕ → ℕ → TypedExpression → ℕ → ℕ → List Arc
test_arcs frame m n place e hit miss = list_arcs n place [] (path_letters frame m e true) hit ++ list_arcs n place [] (path_letters frame m e false) miss

abbrev pub test_needed : Columns → ℕ → TypedExpression → List Needed
test_needed frame m e = path_needed frame m e true ∷ path_needed frame m e false ∷ []

-- either way, or by the condition
abbrev pub guard_arcs : Columns → ℕ → ℕ → ℕ → TypedGuard → ℕ → ℕ → List Arc
guard_arcs frame m n place Any hit miss = skip_arcs n place [] hit ++ skip_arcs n place [] miss
guard_arcs frame m n place (Cond e) hit miss = test_arcs frame m n place e hit miss

abbrev pub guard_needed : Columns → ℕ → TypedGuard → List Needed
guard_needed frame m Any = []
guard_needed frame m (Cond e) = test_needed frame m e

-- a parallel assignment to so many columns
abbrev pub write_needed : Columns → ℕ → List TypedExpression → ℕ → List Needed
write_needed frame m es count = assign_needed frame m es count ∷ []

-- a requires of a called procedure, whose parameters stand for the arguments
abbrev pub demand_arcs : Columns → ℕ → ℕ → ℕ → List TypedExpression → TypedExpression → ℕ → ℕ → List Arc
demand_arcs frame m n place args e hit miss =
    list_arcs n place [] (passed_letters frame m args e true) hit ++ list_arcs n place [] (passed_letters frame m args e false) miss

abbrev pub demand_needed : Columns → ℕ → List TypedExpression → TypedExpression → List Needed
demand_needed frame m args e = passed_needed frame m args e true ∷ passed_needed frame m args e false ∷ []

-- a call of procedure f for each member of a list: from a place to the callee's entry, and back from where it returns, with its results to
-- these columns, behind the call
abbrev pub entered_arcs : ℕ → ℕ → ℕ → ℕ → ℕ → List ℕ → ℕ → List MarkedConjunction → List Arc
entered_arcs n f place entry exit targets behind ls =
    map (λ l. call_arc place (record { act = call_act n f l.plain.helpers l.plain.rows; coarse = l.coarse }) entry exit targets behind) ls
