-- What has been lowered, as the code keeps it: beside the parts of the program.
use Rattle.std.specs.Prelude.{List, Option}
use Rattle.typed_tree.specs.TypingRules.TypedParts.{TypedParts, typed_program}
use Rattle.letter_acts.specs.declared.sites.Site.{Site}
use Rattle.letter_acts.specs.LetterTable.Letters.{Lettered}
use Rattle.lowered_graph.specs.Items.{ItemFault}
use Rattle.lowered_graph.specs.LoweredParts.Parts.{Walked}

pub record WalkedParts : Type 0 where
  pub parts : TypedParts
  pub lettered : Lettered
  pub sites : List Site
  pub fault : Option ItemFault

-- with the program of these parts
abbrev pub walked : WalkedParts → Walked
walked w = record { program = typed_program w.parts; lettered = w.lettered; sites = w.sites; fault = w.fault }
