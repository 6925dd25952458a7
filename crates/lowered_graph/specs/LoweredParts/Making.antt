-- What a part of an item adds: assertions and edges, before the fault of the whole item is noted.
use Rattle.std.specs.Prelude.{◌≡◌, Bool, false, List, [], ◌∷◌, ◌++◌, Option, None, Some, if◌then◌else◌}
use Rattle.boogie_tree.specs.declared.span.Span.{Span}
use Rattle.letter_acts.specs.declared.sites.Site.{Site}
use Rattle.letter_acts.specs.LetterTable.Letters.{Arc, with_arcs}
use Rattle.lowered_graph.specs.Items.{Needed, ItemFault, TooWide, TooBig, earlier}
use Rattle.lowered_graph.specs.LoweredParts.Parts.{Walked, IsTrouble}

-- These assertions are added, and these edges where nothing is wrong with the lists that they need.
pub record Makes (added : List Site) (arcs : List Arc) (needed : List Needed) (wide big : Bool) (old new : Walked) : Type 0 where
  pub trouble : IsTrouble needed wide big
  pub program : new.program ≡ old.program
  pub sites : new.sites ≡ old.sites ++ added
  pub fault : new.fault ≡ old.fault
  pub edges : wide ≡ false → big ≡ false → new.lettered ≡ with_arcs old.lettered arcs

-- the fault of an item that stands there with this trouble
abbrev pub trouble_at : Span → Bool → Bool → Option ItemFault
trouble_at at wide big = if wide then Some (TooWide at) else (if big then Some (TooBig at) else None)

-- with the fault of an item noted
abbrev pub noted : Walked → Span → Bool → Bool → Walked
noted w at wide big = record w { fault = earlier w.fault (trouble_at at wide big) }

-- with one more assertion
abbrev pub asserted : Walked → Site → Walked
asserted w s = record w { sites = w.sites ++ s ∷ [] }

-- An item that stands there is lowered: its assertions and edges, and its fault.
pub record MakesItem (at : Span) (added : List Site) (arcs : List Arc) (needed : List Needed) (old new : Walked) : Type 0 where
  pub wide : Bool
  pub big : Bool
  pub mid : Walked
  pub made : Makes added arcs needed wide big old mid
  pub faults : new ≡ noted mid at wide big
