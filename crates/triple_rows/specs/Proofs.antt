-- Proofs: triples with refutations of their systems.
use Rattle.std.specs.Prelude.{List}
use Rattle.letter_acts.specs.Acts.{Alphabet}
use Rattle.farkas_check.specs.Nodes.{PlainNode}
use Rattle.triple_rows.specs.declared.triples.Triple.{Triple}
use Rattle.triple_rows.specs.Triples.{IsRefuted}

-- a proof as contracts see it
pub record PlainProof : Type 0 where
  pub triple : Triple
  pub refutation : List PlainNode

-- the refutation refutes the triple's system over this alphabet, whose numbers fit
abbrev pub IsProofOver : Alphabet → PlainProof → Type 0
IsProofOver al p = IsRefuted al p.triple p.refutation

-- what a proof keeps: it is one over some alphabet
abbrev pub IsProof : PlainProof → Type 0
IsProof p = (al : Alphabet) × IsProofOver al p
