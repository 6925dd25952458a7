-- The parts from which an `Icfg` is made.
use Rattle.std.specs.Prelude.{ℕ, List, Option}
use Rattle.nwa_base.specs.Automata.{Automaton}
use Rattle.letter_acts.specs.declared.acts.Act.{Act}
use Rattle.letter_acts.specs.declared.frames.Frame.{Frame}
use Rattle.letter_acts.specs.declared.sites.Site.{Site}
use Rattle.letter_acts.specs.declared.parts.Parts.{Parts}
use Rattle.letter_acts.specs.Acts.{Alphabet, plain_acts, marks_of, plain_frames}
use Rattle.letter_acts.specs.Invariant.{Graph}

-- the graph of these parts
abbrev pub graph : Automaton → List Act → List Frame → List (List ℕ) → List ℕ → List (Option ℕ) → List (Option ℕ) → List Site → Graph
graph nwa acts frames names place_procs entries exits sites = record {
  automaton = nwa;
  acts = plain_acts acts;
  marks = marks_of acts;
  frames = plain_frames frames;
  names = names;
  place_procs = place_procs;
  entries = entries;
  exits = exits;
  sites = sites;
}

abbrev pub graph_of : Parts → Graph
graph_of p = graph p.nwa p.acts.items p.frames.items p.names.items p.place_procs.items p.entries.items p.exits.items p.sites.items

-- the alphabet of acts and frames
abbrev pub alphabet : List Act → List Frame → Alphabet
alphabet acts frames = record { acts = plain_acts acts; frames = plain_frames frames }
