-- When the numbers of the sums of a refutation's leaves fit.
use Rattle.std.specs.Prelude.{ℕ, ℤ, List, [], ◌∷◌}
use Rattle.std.specs.List.{AllByRecursion}
use Rattle.math_facts.specs.Fits.{Fits}
use Rattle.farkas_check.specs.Nodes.{PlainNode, leaf, cut, cases}
use Rattle.farkas_check.specs.Refutes.{at_most, above}
use Rattle.farkas_check.specs.Trees.{Tree, leaf_tree, cut_tree, cases_tree}
use Rattle.nested_itp.specs.NestedPredicates.Stamps.{column_stamp}
use Rattle.nested_itp.specs.NestedPredicates.Positions.{Position}
use Rattle.nested_itp.specs.NestedPredicates.Sums.{Branch, with_cut, coefficients_at, bound_at}
use Rattle.nested_itp.specs.NestedPredicates.Tables.{branches_after}

-- the coefficients and the bound of a leaf's sum at a position fit
pub record SumNumbersFit (b : Branch) (parts : List (ℕ × ℤ)) (q : Position) : Type 0 where
  pub columns : AllByRecursion (λ a. Fits a) (coefficients_at b parts q)
  pub bound : Fits (bound_at b parts q)

-- those of each leaf at each of these positions fit
abbrev pub SumsFit : List ℕ → List Position → Branch → Tree → Type 0
SumsFit columns qs b (leaf_tree parts) = AllByRecursion (SumNumbersFit b parts) qs
SumsFit columns qs b (cut_tree c k t u) =
    SumsFit columns qs (with_cut b (column_stamp columns c) (at_most c k)) t ×
    SumsFit columns qs (with_cut b (column_stamp columns c) (above c k)) u
SumsFit columns qs b (cases_tree ts) = Unit {0}

-- ---- node by node

-- those of a node on its branch fit, if it is a leaf
abbrev pub NodeFits : List Position → PlainNode → Branch → Type 0
NodeFits qs (leaf parts) b = AllByRecursion (SumNumbersFit b parts) qs
NodeFits qs (cut c k) b = Unit {0}
NodeFits qs (cases n) b = Unit {0}

-- those of the nodes of trees on these branches fit
abbrev pub NodesFit : List ℕ → List Position → List PlainNode → List Branch → Type 0
NodesFit columns qs [] bs = Unit {0}
NodesFit columns qs (n ∷ ns) [] = Unit {0}
NodesFit columns qs (n ∷ ns) (b ∷ bs) = NodeFits qs n b × NodesFit columns qs ns (branches_after columns n b bs)
