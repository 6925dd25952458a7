-- The nodes of predicates and refutations: which of them can be spelled, and what spells them.
use Rattle.std.specs.Prelude.{◌≡◌, ◌≢◌, ℕ, ◌<◌, ◌≤◌, ℤ, IsTrue, List, [], map, Some}
use Rattle.std.specs.List.{AllByRecursion}
use Rattle.math_facts.specs.Fits.{Fits}
use Rattle.math_facts.specs.Terms.{IsBelow}
use Rattle.lin_rows.specs.Rows.{IsCoefficient}
use Rattle.letter_acts.specs.Frames.{Columns}
use Rattle.letter_acts.specs.Invariant.{AreDistinct}
use Rattle.farkas_check.specs.Nodes as nodes
use Rattle.farkas_check.specs.Nodes.{PlainNode}
use Rattle.triple_rows.specs.declared.predicates.PredNode.{PredNode}
use Rattle.triple_rows.specs.declared.predicates.PredNode.TheVariants.{Truth, Atom, And, Or}
use Rattle.triple_rows.specs.Predicates.{IsAtom}
use Rattle.proof_form.specs.declared.numerals.Numeral.{Numeral}
use Rattle.proof_form.specs.Names.{is_column}
use Rattle.proof_form.specs.Predicates as preds
use Rattle.proof_form.specs.Predicates.{PredicateNode, is_term}
use Rattle.proof_form.specs.Refutations as refs
use Rattle.proof_form.specs.Refutations.{RefutationNode, is_part}
use Rattle.proof_names.specs.Columns.{column_text}
use Rattle.proof_names.specs.Predicates.{term_named, node_named}
use Rattle.proof_names.specs.Refutations.{part_fits, named_part, node_of, node_is_named}
use Rattle.proof_names.specs.ProofSpell.Drafts.{IsWithin}

-- ---- predicates

-- no two columns of a frame are named alike, and each of these names is in the grammar
pub record IsReadable (frame : Columns) : Type 0 where
  pub differ : AreDistinct (map column_text frame)
  pub valid : AllByRecursion (λ c. IsTrue (is_column (column_text c))) frame

-- the column is one of so many, and its coefficient is not 0 and fits
pub record IsTermWithin (columns : ℕ) (t : ℕ × ℤ) : Type 0 where
  pub within : t.0 < columns
  pub coefficient : IsCoefficient t

-- a term of the grammar names this column, with this coefficient
pub record SpellsTerm (frame : Columns) (t : Numeral × List ℕ) (u : ℕ × ℤ) : Type 0 where
  pub valid : IsTrue (is_term t)
  pub named : term_named frame t ≡ Some u

-- it is no truth value, an atom is an inequality with a term, over so many columns, and the others have two parts or more
abbrev pub IsNodeWithin : ℕ → PredNode → Type 0
IsNodeWithin columns (Truth b) = ⊥
IsNodeWithin columns (Atom r) = IsAtom r × IsBelow columns r.terms
IsNodeWithin columns (And n) = 2 ≤ n
IsNodeWithin columns (Or n) = 2 ≤ n

-- a node of the grammar names this one
pub record SpellsNode (frame : Columns) (n : PredicateNode) (m : PredNode) : Type 0 where
  pub valid : IsTrue (preds.is_predicate_node n)
  pub named : node_named frame n ≡ Some m

-- ---- refutations

-- a leaf has a part, and multipliers and cuts fit
abbrev pub HasNumbers : PlainNode → Type 0
HasNumbers (nodes.leaf parts) = (parts ≢ []) × AllByRecursion (λ p. Fits p.1) parts
HasNumbers (nodes.cut c k) = Fits k
HasNumbers (nodes.cases n) = Unit {0}

-- a part of the grammar has this row and this multiplier
pub record SpellsPart (p : Numeral × Numeral) (q : ℕ × ℤ) : Type 0 where
  pub valid : IsTrue (is_part p)
  pub fits : IsTrue (part_fits p)
  pub named : named_part p ≡ Some q

-- a node of the grammar has these numbers, and is one over so many columns where this one is
pub record SpellsBranch (n : RefutationNode) (m : PlainNode) : Type 0 where
  pub valid : IsTrue (refs.is_refutation_node n)
  pub named : node_of n ≡ Some m
  pub fits : (columns : ℕ) → IsWithin columns m → IsTrue (node_is_named columns n)
