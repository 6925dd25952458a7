-- Predicates that the nodes at a position spell.
use Rattle.std.specs.Prelude.{◌≡◌, ℕ, ◌≤◌, List, [], ◌∷◌, map, Some, slice_get}
use Rattle.std.specs.Global.{Vec}
use Rattle.nwa_base.specs.declared.letters.Letter.{Letter}
use Rattle.letter_acts.specs.Invariant.{Graph}
use Rattle.path_rows.specs.Paths.{path_of}
use Rattle.farkas_check.specs.Trees.{Tree, cuts_on_branch}
use Rattle.farkas_check.specs.Trees as trees
use Rattle.triple_rows.specs.declared.predicates.PredNode.{PredNode}
use Rattle.triple_rows.specs.Predicates.{Formula, prefix_of, formula_of, IsPredicate}
use Rattle.nested_itp.specs.NestedPredicates.Stamps.{stamps_of}
use Rattle.nested_itp.specs.NestedPredicates.Positions.{positions_of}
use Rattle.nested_itp.specs.NestedPredicates.Sums.{root_of}
use Rattle.nested_itp.specs.NestedPredicates.Joins.{simplified}
use Rattle.nested_itp.specs.NestedPredicates.Simplifying.{SpellsJoined}
use Rattle.nested_itp.specs.NestedPredicates.Interpolants.{RefutesRows}
use Rattle.nested_itp.specs.NestedPredicates.Tables.{table_along}

-- the nodes at the position spell the formula
abbrev pub SpellsAt : List (Vec PredNode) → ℕ → Formula → Type 0
SpellsAt table position f = map (λ v. slice_get v.items position) table ≡ map Some (prefix_of f)

-- its nodes are read as it, and it is a predicate once it is simplified
pub record CanSpell (f : Formula) : Type 0 where
  pub joined : SpellsJoined (prefix_of f)
  pub read : formula_of (prefix_of f) ≡ f
  pub predicate : IsPredicate (simplified f)

-- the table is that of a tree that refutes the word's rows
pub record IsTableOf (g : Graph) (w : List Letter) (t : Tree) (table : List (Vec PredNode)) : Type 0 where
  pub spelled : map (λ v. v.items) table ≡ table_along (stamps_of g w).columns (positions_of g w) (trees.prefix_of t) (root_of g w ∷ [])
  pub refutes : RefutesRows (trees.prefix_of t) (path_of g w).rows
  pub cuts : cuts_on_branch t ≤ 64
