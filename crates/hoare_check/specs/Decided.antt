-- When Decide without cuts refutes the system of a triple, and what may be answered of a triple.
use Rattle.std.specs.Prelude.{◌≡◌, ℕ, List, Option, None, Some}
use Rattle.std.specs.List.{AllByRecursion}
use Rattle.lin_rows.specs.declared.systems.System.{System}
use Rattle.letter_acts.specs.Acts.{Alphabet}
use Rattle.farkas_check.specs.Nodes.{PlainNode}
use Rattle.int_decide.specs.Decisions.{refuted}
use Rattle.int_decide.specs.Decide.{decide}
use Rattle.int_decide.specs.Numbers.{DecideFits}
use Rattle.triple_rows.specs.declared.triples.Triple.{Triple}
use Rattle.triple_rows.specs.Systems.{PlainFits, IsSystem}
use Rattle.triple_rows.specs.Triples.{Agrees, system_of}
use Rattle.triple_rows.specs.Proofs.{PlainProof, IsProofOver}
use Rattle.triple_rows.specs.Cuts.{columns_of, IsCutWithin}

-- ---- cuts

-- each cut is at a column of the triple's system
abbrev pub AreCutsWithin : Alphabet → Triple → List PlainNode → Type 0
AreCutsWithin al triple nodes = AllByRecursion (IsCutWithin (columns_of al triple)) nodes

-- ---- what is proved

-- A proof for the alphabet: its triple agrees with its letter, its refutation refutes the triple's system, and each cut is at a column of
-- that system.
pub record IsProofFor (al : Alphabet) (p : PlainProof) : Type 0 where
  pub agrees : Agrees al p.triple
  pub over : IsProofOver al p
  pub within : AreCutsWithin al p.triple p.refutation

-- Decide of the system over so many columns, without cuts, is a refutation, and all its numbers fit.
pub record IsRefutedByDecide (columns : ℕ) (s : System) : Type 0 where
  pub nodes : List PlainNode
  pub refuted : decide columns 0 s ≡ refuted nodes
  pub numbers : DecideFits columns 0 s

-- Decide without cuts refutes the triple's system, and all numbers of the system and of Decide fit.
pub record RefutesUncut (al : Alphabet) (triple : Triple) : Type 0 where
  pub fits : PlainFits (system_of al triple)
  pub refuted : (s : System) → IsSystem (system_of al triple) s → IsRefutedByDecide (columns_of al triple) s

-- What may be answered of a triple: a proof of it, or none where Decide without cuts does not refute its system within the numbers that fit.
abbrev pub MayProve : Alphabet → Triple → Option PlainProof → Type 0
MayProve al triple None = RefutesUncut al triple → ⊥
MayProve al triple (Some p) = (p.triple ≡ triple) × IsProofFor al p
