-- Nested interpolants: the prefix predicates of a word under a refutation of its rows, with a proved triple for each letter.
use Rattle.std.specs.Prelude.{◌≡◌, ℕ, ◌≤◌, true, false, List, [], ◌∷◌, ◌++◌, map}
use Rattle.std.specs.List.{AllByRecursion}
use Rattle.nwa_base.specs.declared.letters.Kind.{Kind}
use Rattle.nwa_base.specs.declared.letters.Kind.TheVariants as kinds
use Rattle.nwa_base.specs.declared.letters.Letter.{Letter}
use Rattle.letter_acts.specs.Invariant.{Graph, alphabet_of}
use Rattle.lin_rows.specs.Rows.{LinearRow}
use Rattle.lin_rows.specs.Tightening.{tightened}
use Rattle.farkas_check.specs.Nodes.{PlainNode}
use Rattle.farkas_check.specs.Refutes.{Refute}
use Rattle.farkas_check.specs.Trees.{Tree, prefix_of as nodes_of, cuts_on_branch}
use Rattle.triple_rows.specs.declared.predicates.PredNode.TheVariants.{Truth}
use Rattle.triple_rows.specs.declared.triples.Scoped.{Scoped}
use Rattle.triple_rows.specs.declared.triples.Triple.{Triple}
use Rattle.triple_rows.specs.declared.triples.Triple.TheVariants.{Inside, Call, Back}
use Rattle.triple_rows.specs.Predicates.{prefix_of}
use Rattle.triple_rows.specs.Proofs.{PlainProof, IsProofOver}
use Rattle.nested_itp.specs.NestedPredicates.Positions.{Position, positions_of}
use Rattle.nested_itp.specs.NestedPredicates.Joins.{predicate_at}

-- no branch of the tree with these nodes has more than n cuts
abbrev pub HasCutsUpTo : ℕ → List PlainNode → Type 0
HasCutsUpTo n nodes = (t : Tree) → nodes_of t ≡ nodes → cuts_on_branch t ≤ n

-- the tree with these nodes refutes rows without groups
abbrev pub RefutesRows : List PlainNode → List LinearRow → Type 0
RefutesRows nodes rows = Refute nodes (record { rows = map tightened rows; groups = [] } ∷ [])

-- the predicate of a position, in the procedure of its frame
abbrev pub interpolant_at : Graph → List Letter → Tree → Position → Scoped
interpolant_at g w t q = record { proc = q.scope.proc; pred = prefix_of (predicate_at g w t q) }

-- the prefix predicates of a word, one for each position
abbrev pub prefix_predicates : Graph → List Letter → Tree → List Scoped
prefix_predicates g w t = map (interpolant_at g w t) (positions_of g w)

-- the predicates are the prefix predicates of the word under the refutation with these nodes
pub record ArePredicates (g : Graph) (w : List Letter) (nodes : List PlainNode) (preds : List Scoped) : Type 0 where
  pub tree : Tree
  pub spelled : nodes_of tree ≡ nodes
  pub preds_are : preds ≡ prefix_predicates g w tree

-- the triple of a return, with the predicates before the calls that are open, innermost first
abbrev pub return_triple : ℕ → Scoped → List Scoped → Scoped → List Triple
return_triple letter exit [] to = []
return_triple letter exit (before ∷ saved) to = Back exit before letter to ∷ []

-- the triple of a letter of this kind, from one position's predicate to the next
abbrev pub letter_triple : Kind → ℕ → Scoped → List Scoped → Scoped → List Triple
letter_triple kinds.Inside letter from saved to = Inside from letter to ∷ []
letter_triple kinds.Call letter from saved to = Call from letter to ∷ []
letter_triple kinds.Back letter from saved to = return_triple letter from saved to

-- without the predicate before the innermost call
abbrev pub left : List Scoped → List Scoped
left [] = []
left (before ∷ saved) = saved

-- the predicates before the open calls, after a letter of this kind
abbrev pub saved_after : Kind → Scoped → List Scoped → List Scoped
saved_after kinds.Inside from saved = saved
saved_after kinds.Call from saved = from ∷ saved
saved_after kinds.Back from saved = left saved

-- the triples of the letters, in order, along the predicates of the positions
abbrev pub triples_along : List Letter → List Scoped → List Scoped → List Triple
triples_along [] preds saved = []
triples_along (a ∷ w) [] saved = []
triples_along (a ∷ w) (from ∷ []) saved = []
triples_along (a ∷ w) (from ∷ to ∷ preds) saved =
    letter_triple a.kind a.id from saved to ++ triples_along w (to ∷ preds) (saved_after a.kind from saved)

-- interpolants as contracts see them
pub record PlainInterpolants : Type 0 where
  pub preds : List Scoped
  pub proofs : List PlainProof

-- The predicates are the prefix predicates of the word under the refutation with these nodes; and each letter's triple, of
-- three places at returns, has a proof over the graph's alphabet.
pub record AreInterpolants (g : Graph) (w : List Letter) (nodes : List PlainNode) (i : PlainInterpolants) : Type 0 where
  pub tree : Tree
  pub spelled : nodes_of tree ≡ nodes
  pub preds : i.preds ≡ prefix_predicates g w tree
  pub triples : map (λ p. p.triple) i.proofs ≡ triples_along w i.preds []
  pub proved : AllByRecursion (IsProofOver (alphabet_of g)) i.proofs

-- the first predicate is true
abbrev pub BeginsTrue : List Scoped → Type 0
BeginsTrue [] = ⊥
BeginsTrue (p ∷ ps) = p.pred ≡ Truth true ∷ []

-- the last predicate is false
abbrev pub EndsFalse : List Scoped → Type 0
EndsFalse [] = ⊥
EndsFalse (p ∷ []) = p.pred ≡ Truth false ∷ []
EndsFalse (p ∷ q ∷ ps) = EndsFalse (q ∷ ps)
