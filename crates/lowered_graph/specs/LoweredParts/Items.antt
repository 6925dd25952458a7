-- The assertions, edges and lists of items: conditions that may be free, and jumps to several places.
use Rattle.std.specs.Prelude.{ℕ, Bool, true, false, List, [], ◌∷◌, ◌++◌, map}
use Rattle.boogie_tree.specs.declared.span.Span.{Span}
use Rattle.typed_tree.specs.TypedTree.{TypedExpression, Label, TypedBlock, Empty, Then, TypedProgram}
use Rattle.letter_acts.specs.Frames.{Columns}
use Rattle.letter_acts.specs.declared.sites.Site.{Site}
use Rattle.cond_jumps.specs.FreeProducts.FrameLetters.{path_letters}
use Rattle.letter_acts.specs.LetterTable.Letters.{Arc}
use Rattle.lowered_graph.specs.LoweredSteps.ProgramFrames.{frame_at}
use Rattle.lowered_graph.specs.LoweredSteps.Edges.{local_count}
use Rattle.boogie_run.specs.BoogiePlaces.Places.{Place}
use Rattle.lowered_graph.specs.Arcs.{error_place, arcs_of}
use Rattle.lowered_graph.specs.Lowered.{sites_of}
use Rattle.lowered_graph.specs.Items.{Needed, path_needed, all_needed}
use Rattle.lowered_graph.specs.LoweredParts.Parts.{Walked}
use Rattle.lowered_graph.specs.LoweredParts.Making.{Makes}
use Rattle.lowered_graph.specs.LoweredParts.Lists.{list_arcs, skip_arcs, test_arcs, test_needed}

-- an assertion of that number, at a place of the text
abbrev pub site_of : TypedProgram → ℕ → Span → Site
site_of t i at = record { id = record { number = i; line = at.line }; place = error_place t i }

-- A condition is assumed where it is free. Else it is asserted: where it is false, the edge leads to the place of that error.
abbrev pub checked_sites : TypedProgram → Bool → ℕ → Span → List Site
checked_sites t true id at = []
checked_sites t false id at = site_of t id at ∷ []

abbrev pub checked_arcs : TypedProgram → ℕ → ℕ → Bool → ℕ → TypedExpression → ℕ → List Arc
checked_arcs t n place true id e to = list_arcs n place [] (path_letters (frame_at t n) (local_count t n) e true) to
checked_arcs t n place false id e to = test_arcs (frame_at t n) (local_count t n) n place e to (error_place t id)

abbrev pub checked_needed : Columns → ℕ → Bool → TypedExpression → List Needed
checked_needed frame m true e = path_needed frame m e true ∷ []
checked_needed frame m false e = test_needed frame m e

-- an edge to each of some places
abbrev pub ways_arcs : ℕ → ℕ → List ℕ → List Arc
ways_arcs n place [] = []
ways_arcs n place (k ∷ ks) = skip_arcs n place [] k ++ ways_arcs n place ks

-- what some places of an item have made
abbrev pub PlacesMade : TypedProgram → List Place → Bool → Bool → Walked → Walked → Type 0
PlacesMade t ps w b old new = Makes (map (λ s. s.1) (sites_of t ps)) (arcs_of t ps) (all_needed t ps) w b old new

-- only labels are left
abbrev pub only_labels : TypedBlock → Bool
only_labels Empty = true
only_labels (Then (Label k) b) = only_labels b
only_labels (Then s b) = false
