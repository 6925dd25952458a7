-- Decide's refutations are trees, with as many cuts on a branch as it may make, at most.
use Rattle.std.proofs.Common.{◌≡◌, ℕ, zero, suc, ℤ, List, [], ◌∷◌, ◌++◌, Option, None, Some, length, map, subst}
use Rattle.frac.specs.Fractions.{Fraction}
use Rattle.lin_rows.specs.declared.systems.System.{System}
use Rattle.lin_rows.specs.Rows.{LinearRow}
use Rattle.lin_rows.specs.Tightening.{tightened}
use Rattle.lin_rows.specs.Systems.{rows_of, groups_of}
use Rattle.farkas_check.specs.Nodes.{PlainNode, cut, cases}
use Rattle.farkas_check.specs.Refutes.{at_most, above}
use Rattle.fm_elim.specs.Elimination as outcome
use Rattle.int_decide.specs.Decisions.{Decision, refuted, whole, gap, beside, all_beside, under}
use Rattle.int_decide.specs.Decide.{first_broken, by_values, by_outcome, decide_rows, decide_groups, decide}
use Rattle.fm_elim.specs.Quotients.{floor}
use Rattle.int_decide.specs.Sizes.{group_count}
use Rattle.int_decide.specs.Worth.{IsTreeOf}
use Rattle.int_decide.proofs.Refuting.{AreTreesOf, leaf_is_tree, cut_is_tree, no_trees, one_more_tree, cases_are_tree}

-- a refutation is the list of a tree with d cuts on a branch at most
abbrev pub IsTreeIf : ℕ → Decision → Type 0
IsTreeIf d (refuted ns) = IsTreeOf d ns
IsTreeIf d (whole x) = Unit {0}
IsTreeIf d gap = Unit {0}

-- of so many trees
abbrev pub AreTreesIf : ℕ → ℕ → Decision → Type 0
AreTreesIf d count (refuted ns) = AreTreesOf d count ns
AreTreesIf d count (whole x) = Unit {0}
AreTreesIf d count gap = Unit {0}

cut_tree_if : (d c : ℕ) (k : ℤ) (a b : Decision) → IsTreeIf d a → IsTreeIf d b → IsTreeIf (suc d) (under (cut c k) (beside a b))
cut_tree_if d c k (whole x) b h i = tt
cut_tree_if d c k gap (whole y) h i = tt
cut_tree_if d c k gap gap h i = tt
cut_tree_if d c k gap (refuted ms) h i = tt
cut_tree_if d c k (refuted ns) (whole y) h i = tt
cut_tree_if d c k (refuted ns) gap h i = tt
cut_tree_if d c k (refuted ns) (refuted ms) h i = cut_is_tree d c k ns ms h i

tree_by_values : (d : ℕ) (broken : ℕ → ℤ → Decision) (values : List Fraction) (x : Option (ℕ × Fraction)) → ((c : ℕ) (k : ℤ) → IsTreeIf d (broken c k)) →
    IsTreeIf d (by_values broken values x)
tree_by_values d broken values None f = tt
tree_by_values d broken values (Some x) f = f x.0 (floor x.1)

tree_by_outcome : (d : ℕ) (broken : ℕ → ℤ → Decision) (o : outcome.EliminationOutcome) → ((c : ℕ) (k : ℤ) → IsTreeIf d (broken c k)) → IsTreeIf d (by_outcome broken o)
tree_by_outcome d broken (outcome.refuted parts) f = leaf_is_tree d parts
tree_by_outcome d broken (outcome.point values) f = tree_by_values d broken values (first_broken 0 values) f

rows_tree : (n d : ℕ) (rows : List LinearRow) → IsTreeIf d (decide_rows n d rows)
rows_tree n zero rows = tree_by_outcome zero (λ c k. gap) (outcome.elimination n rows) (λ c k. tt)
rows_tree n (suc d) rows =
    tree_by_outcome (suc d) (λ c k. under (cut c k) (beside (decide_rows n d (rows ++ at_most c k ∷ [])) (decide_rows n d (rows ++ above c k ∷ []))))
    (outcome.elimination n rows)
    (λ c k. cut_tree_if d c k (decide_rows n d (rows ++ at_most c k ∷ [])) (decide_rows n d (rows ++ above c k ∷ []))
    (rows_tree n d (rows ++ at_most c k ∷ [])) (rows_tree n d (rows ++ above c k ∷ [])))

one_more_if : (d count : ℕ) (a b : Decision) → IsTreeIf d a → AreTreesIf d count b → AreTreesIf d (suc count) (beside a b)
one_more_if d count (whole x) b h i = tt
one_more_if d count gap (whole y) h i = tt
one_more_if d count gap gap h i = tt
one_more_if d count gap (refuted ms) h i = tt
one_more_if d count (refuted ns) (whole y) h i = tt
one_more_if d count (refuted ns) gap h i = tt
one_more_if d count (refuted ns) (refuted ms) h i = one_more_tree d count ns ms h i

members_trees : (d : ℕ) (decided : System → Decision) (members : List System) → ((m : System) → IsTreeIf d (decided m)) →
    AreTreesIf d (length members) (all_beside (map decided members))
members_trees d decided [] f = no_trees d
members_trees d decided (m ∷ ms) f = one_more_if d (length ms) (decided m) (all_beside (map decided ms)) (f m) (members_trees d decided ms f)

cases_tree_if : (d count : ℕ) (a : Decision) → AreTreesIf d count a → IsTreeIf d (under (cases count) a)
cases_tree_if d count (refuted ns) h = cases_are_tree d count ns h
cases_tree_if d count (whole x) h = tt
cases_tree_if d count gap h = tt

groups_tree : (f n d : ℕ) (rows : List LinearRow) (groups : List (List System)) → IsTreeIf d (decide_groups f n d rows groups)
groups_tree zero n d rows [] = rows_tree n d rows
groups_tree (suc f) n d rows [] = rows_tree n d rows
groups_tree zero n d rows (g ∷ gs) = tt
groups_tree (suc f) n d rows (g ∷ gs) =
    let decided : System → Decision = λ m. decide_groups f n d (rows ++ map tightened (rows_of m)) (gs ++ groups_of m) in
    cases_tree_if d (length g) (all_beside (map decided g))
    (members_trees d decided g (λ m. groups_tree f n d (rows ++ map tightened (rows_of m)) (gs ++ groups_of m)))

-- so a refutation by Decide is one
pub decided_is_tree : (n d : ℕ) (s : System) (ns : List PlainNode) → decide n d s ≡ refuted ns → IsTreeOf d ns
decided_is_tree n d s ns e =
    subst (λ (a : Decision). IsTreeIf d a) e (groups_tree (group_count s) n d (map tightened (rows_of s)) (groups_of s))
