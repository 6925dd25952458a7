-- Proofs of triples, in order, and when there is none.
use Rattle.std.specs.Prelude.{◌≡◌, List, [], map}
use Rattle.std.specs.List.{AllByRecursion}
use Rattle.nwa_base.specs.declared.letters.Letter.{Letter}
use Rattle.letter_acts.specs.Acts.{Alphabet}
use Rattle.letter_acts.specs.Invariant.{Graph}
use Rattle.farkas_check.specs.Nodes.{PlainNode}
use Rattle.farkas_check.specs.Trees.{Tree, prefix_of}
use Rattle.triple_rows.specs.declared.triples.Triple.{Triple}
use Rattle.triple_rows.specs.Systems.{PlainFits}
use Rattle.triple_rows.specs.Triples.{system_of, IsUnrefuted}
use Rattle.triple_rows.specs.Proofs.{PlainProof}
use Rattle.nested_itp.specs.NestedPredicates.Interpolants.{prefix_predicates, triples_along}
use Rattle.hoare_check.specs.Decided.{AreCutsWithin, IsProofFor}

-- they are the triples of a word's letters with its prefix predicates under the refutation with these nodes
pub record AreTriplesOf (g : Graph) (w : List Letter) (nodes : List PlainNode) (triples : List Triple) : Type 0 where
  pub tree : Tree
  pub spelled : prefix_of tree ≡ nodes
  pub triples_are : triples ≡ triples_along w (prefix_predicates g w tree) []

-- they are proofs of these triples for the alphabet
pub record AreProofsOf (al : Alphabet) (claimed : List Triple) (proofs : List PlainProof) : Type 0 where
  pub triples : map (λ p. p.triple) proofs ≡ claimed
  pub proved : AllByRecursion (IsProofFor al) proofs

-- The tree with these nodes is no proof of the triple: where its cuts are at columns of the triple's system, and the numbers of that fit,
-- there is such a system that it does not refute.
abbrev pub IsNoProof : Alphabet → Triple → List PlainNode → Type 0
IsNoProof al triple nodes = AreCutsWithin al triple nodes → PlainFits (system_of al triple) → IsUnrefuted al triple nodes
