-- How a list of nodes is read from its front: which trees stand there, and what follows them.
use Rattle.std.specs.Prelude.{◌≡◌, ℕ, ◌+◌, ◌-◌, ◌<◌, ◌≤◌, ℤ, pos, Bool, List, [], ◌∷◌, ◌++◌, length, drop}
use Rattle.math_facts.specs.Terms.{IsBelow}
use Rattle.lin_rows.specs.Points.{DotFits}
use Rattle.triple_rows.specs.declared.predicates.PredNode.{PredNode}
use Rattle.triple_rows.specs.declared.predicates.PredNode.TheVariants.{Truth, Atom, And, Or}
use Rattle.triple_rows.specs.Predicates.{Formula, Formulas, truth, atom, and_of, or_of, no_formula, one_more, formula_count, prefix_of, prefixes_of, formulas, IsTree, AreTrees, nesting, deepest}

-- ---- lists that may be no trees

-- a tree that is nested at most so deep stands in front, and these nodes follow it
pub record IsAfterTree (depth : ℕ) (nodes rest : List PredNode) : Type 0 where
  pub tree : Formula
  pub is_tree : IsTree tree
  pub nested : nesting tree ≤ depth
  pub spelled : nodes ≡ prefix_of tree ++ rest

-- so many trees stand in front
pub record AreAfterTrees (count depth : ℕ) (nodes rest : List PredNode) : Type 0 where
  pub trees : Formulas
  pub counted : formula_count trees ≡ count
  pub are_trees : AreTrees trees
  pub nested : deepest trees ≤ depth
  pub spelled : nodes ≡ prefixes_of trees ++ rest

-- so many trees stand in front, as the parts of a node that is nested at most so deep
pub record AreAfterParts (count depth : ℕ) (nodes rest : List PredNode) : Type 0 where
  pub some : 2 ≤ count
  pub deep : 0 < depth
  pub trees : AreAfterTrees count (depth - 1) nodes rest

abbrev pub HasNoTree : ℕ → List PredNode → Type 0
HasNoTree depth nodes = (rest : List PredNode) → IsAfterTree depth nodes rest → ⊥

abbrev pub HasNoParts : ℕ → ℕ → List PredNode → Type 0
HasNoParts count depth nodes = (rest : List PredNode) → AreAfterParts count depth nodes rest → ⊥

-- a single truth value
abbrev pub IsTruthAlone : List PredNode → Type 0
IsTruthAlone nodes = (b : Bool) × (nodes ≡ Truth b ∷ [])

-- ---- lists of whole trees

-- behind each node stand at least as many trees as it has parts
abbrev pub AreComplete : List PredNode → Type 0
AreComplete [] = Unit {0}
AreComplete (Truth b ∷ ns) = AreComplete ns
AreComplete (Atom r ∷ ns) = AreComplete ns
AreComplete (And k ∷ ns) = (k ≤ length (formulas ns)) × AreComplete ns
AreComplete (Or k ∷ ns) = (k ≤ length (formulas ns)) × AreComplete ns

-- what is left of the list once so many trees of it were read
pub record IsRest (count : ℕ) (nodes rest : List PredNode) : Type 0 where
  pub trees : formulas rest ≡ drop count (formulas nodes)
  pub complete : AreComplete rest
  pub shorter : length rest + count ≤ length nodes

-- each number that is formed where each atom is evaluated at the point fits
abbrev mutual
  pub FormulaFits : (ℕ → ℤ) → Formula → Type 0
  FormulaFits point (truth b) = Unit {0}
  FormulaFits point (atom r) = DotFits point (pos 0) r.terms
  FormulaFits point (and_of fs) = FormulasFit point fs
  FormulaFits point (or_of fs) = FormulasFit point fs

  pub FormulasFit : (ℕ → ℤ) → Formulas → Type 0
  FormulasFit point no_formula = Unit {0}
  FormulasFit point (one_more f fs) = FormulaFits point f × FormulasFit point fs

-- the row of the node, if it is an atom, names columns below n alone
abbrev pub NodeIsOver : ℕ → PredNode → Type 0
NodeIsOver n (Truth b) = Unit {0}
NodeIsOver n (Atom r) = IsBelow n r.terms
NodeIsOver n (And k) = Unit {0}
NodeIsOver n (Or k) = Unit {0}
