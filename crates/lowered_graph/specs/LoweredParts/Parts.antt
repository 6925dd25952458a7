-- What has been lowered of a program so far, and what one more part of it adds.
use Rattle.std.specs.Prelude.{◌≡◌, Bool, false, not, List, [], ◌++◌, map, Option, None}
use Rattle.std.specs.List.{list_any}
use Rattle.typed_tree.specs.TypedTree.{TypedProgram}
use Rattle.letter_acts.specs.declared.sites.Site.{Site}
use Rattle.cond_jumps.specs.Conjunctions.{is_wide, all_fit}
use Rattle.boogie_run.specs.BoogiePlaces.Places.{Place}
use Rattle.letter_acts.specs.LetterTable.Letters.{Arc, Lettered, no_letters, with_arcs, lettered}
use Rattle.lowered_graph.specs.Arcs.{arcs_of, program_arcs}
use Rattle.lowered_graph.specs.Lowered.{sites_of, program_sites}
use Rattle.lowered_graph.specs.Items.{Needed, ItemFault, earlier, first_of, items_of, first_fault}

-- of a program: the letters with their acts and the edges, the assertions, and the fault of the first item in the text that has one
pub record Walked : Type 0 where
  pub program : TypedProgram
  pub lettered : Lettered
  pub sites : List Site
  pub fault : Option ItemFault

abbrev pub nothing_yet : TypedProgram → Walked
nothing_yet t = record { program = t; lettered = no_letters; sites = []; fault = None }

-- a list has too many members
abbrev pub some_is_wide : List Needed → Bool
some_is_wide ns = list_any (λ n. is_wide n.plan n.base) ns

-- a list has a number that does not fit
abbrev pub some_is_big : List Needed → Bool
some_is_big ns = list_any (λ n. not (all_fit n.plan n.base)) ns

-- What is wrong with lists: one is too wide; and where none is, one has a number that does not fit.
pub record IsTrouble (needed : List Needed) (is_wide is_big : Bool) : Type 0 where
  pub wide : is_wide ≡ some_is_wide needed
  pub big : is_wide ≡ false → is_big ≡ some_is_big needed

-- These edges are added, where nothing is wrong with the lists that they need. Else some may be missing.
pub record Leads (arcs : List Arc) (needed : List Needed) (wide big : Bool) (old new : Walked) : Type 0 where
  pub trouble : IsTrouble needed wide big
  pub program : new.program ≡ old.program
  pub sites : new.sites ≡ old.sites
  pub fault : new.fault ≡ old.fault
  pub edges : wide ≡ false → big ≡ false → new.lettered ≡ with_arcs old.lettered arcs

-- These places are lowered: their assertions, the first fault in the text among their items, and where there is none so far their edges.
pub record Adds (ps : List Place) (old new : Walked) : Type 0 where
  pub program : new.program ≡ old.program
  pub sites : new.sites ≡ old.sites ++ map (λ s. s.1) (sites_of old.program ps)
  pub fault : new.fault ≡ earlier old.fault (first_of (items_of old.program ps))
  pub edges : new.fault ≡ None → new.lettered ≡ with_arcs old.lettered (arcs_of old.program ps)

-- The whole program is lowered.
pub record IsWalked (t : TypedProgram) (w : Walked) : Type 0 where
  pub program : w.program ≡ t
  pub sites : w.sites ≡ map (λ s. s.1) (program_sites t)
  pub fault : w.fault ≡ first_fault t
  pub edges : w.fault ≡ None → w.lettered ≡ lettered (program_arcs t)
