-- The parts of each leaf of a refutation of rows ascend.
use Rattle.std.proofs.Common.{◌≡◌, ℕ, zero, suc, List, [], ◌∷◌, ◌++◌, map, refl, subst, Some}
use Rattle.std.specs.Prelude.{slice_get}
use Rattle.std.specs.List.{AllByRecursion}
use Rattle.lin_rows.specs.Rows.{LinearRow}
use Rattle.lin_rows.specs.Tightening.{tightened}
use Rattle.farkas_check.specs.declared.refutations.Node.{Node}
use Rattle.farkas_check.specs.Nodes.{PlainNode, leaf, cut, cases, plain, plain_nodes}
use Rattle.farkas_check.specs.Refutes.{Goal, at_most, above, with_row, CasesRefute, Refute}
use Rattle.nested_itp.specs.NestedPredicates.Interpolants.{RefutesRows}
use Rattle.nested_itp.specs.TripleWalks.Leaves.{Ascends}

refuted_ascends : (ns : List PlainNode) (gs : List Goal) → AllByRecursion (λ g. g.groups ≡ []) gs → Refute ns gs → AllByRecursion Ascends ns
refuted_ascends [] gs h r = tt
refuted_ascends (leaf parts ∷ ns) [] h r = absurd r
refuted_ascends (leaf parts ∷ ns) (g ∷ gs) h r = (r.0.ascends, refuted_ascends ns gs h.1 r.1)
refuted_ascends (cut c k ∷ ns) [] h r = absurd r
refuted_ascends (cut c k ∷ ns) (g ∷ gs) h r = (tt, refuted_ascends ns (with_row g (at_most c k) ∷ with_row g (above c k) ∷ gs) (h.0, (h.0, h.1)) r.2)
refuted_ascends (cases n ∷ ns) [] h r = absurd r
refuted_ascends (cases n ∷ ns) (g ∷ gs) h r = absurd (subst (CasesRefute (λ goals. Refute ns (goals ++ gs)) n g.rows) h.0 r)

pub refutation_ascends : (nodes : List PlainNode) (rows : List LinearRow) → RefutesRows nodes rows → AllByRecursion Ascends nodes
refutation_ascends nodes rows r = refuted_ascends nodes (record { rows = map tightened rows; groups = [] } ∷ []) (refl, tt) r

-- at the node with a number
node_ascends : (nodes : List Node) (i : ℕ) (n : Node) → AllByRecursion Ascends (plain_nodes nodes) → slice_get nodes i ≡ Some n → Ascends (plain n)
node_ascends [] i n h e = absurd (cc)
node_ascends (m ∷ nodes) zero n h e = subst (λ (x : Node). Ascends (plain x)) (let q : m ≡ n = cc in q) h.0
node_ascends (m ∷ nodes) (suc i) n h e = node_ascends nodes i n h.1 e
