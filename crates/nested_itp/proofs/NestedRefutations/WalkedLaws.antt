-- A tree that is put down as the refutation of a triple goes refutes its goal, where the leaves of the refutation contradict their rows.
use Rattle.std.proofs.Common.{◌≡◌, ◌∙◌, ℕ, suc, ℤ, Bool, true, false, List, [], ◌∷◌, ◌++◌, length, map, refl, sym, ap, subst, Option, None, Some}
use Rattle.std.specs.Prelude.{slice_get, IfSome}
use Rattle.math_facts.specs.Fits.{Fits}
use Rattle.lin_rows.specs.declared.systems.System.{System}
use Rattle.lin_rows.specs.Rows.{LinearRow}
use Rattle.lin_rows.specs.Systems.{rows_of, groups_of}
use Rattle.lin_rows.specs.Tightening.{tightened}
use Rattle.lin_rows.specs.Negating.{below_opposite}
use Rattle.lin_rows.specs.Combinations.{Contradicts}
use Rattle.farkas_check.specs.Refutes.{Goal, at_most, above, with_row, goal_with_member, CasesRefute}
use Rattle.farkas_check.specs.Trees.{Tree, Trees, leaf_tree, cut_tree, cases_tree, no_tree, one_more, tree_count, TreeRefutes, EachRefutes}
use Rattle.triple_rows.specs.Systems.{PlainSystem, Groups, IsSystem, AreGroups}
use Rattle.nested_itp.specs.NestedPredicates.Stamps.{column_stamp}
use Rattle.nested_itp.specs.NestedPredicates.Sums.{Branch}
use Rattle.nested_itp.proofs.NestedPredicates.EndLaws.{rows_goal}
use Rattle.nested_itp.specs.NestedRefutations.Refutations.{side_of, TreeSpot, low_side, high_side, truth_in, formula_at, Claim, Asked, one_part, both_parts, some_part, asked_at, View, Gathered, taken_at, Meeting, own_cut, told_by, meeting_of, Stop, at_leaf, at_cut, at_group, nowhere, followed, stop_at, stops, stops_at, side_at, with_own, member_taken, opened, on_opened, leaf_from}
use Rattle.nested_itp.specs.NestedRefutations.Walked.{IsLeafOf, IsCutOf, AfterMembers, AreCasesOf, IsWalked, AreWalked}
use Rattle.nested_itp.proofs.NestedRefutations.RowsLaws.{AllPairs}
use Rattle.nested_itp.proofs.NestedRefutations.WaitingLaws.{groups_in, system_rows, system_groups, groups_beside, member_at, waiting, taken_rows, taken_groups}

-- ---- the numbers of cuts

-- k and -k-1 fit at each cut
abbrev pub CutsFit : Tree → Type 0
CutsFit (leaf_tree parts) = Unit {0}
CutsFit (cut_tree c k t u) = Fits k × Fits (below_opposite k) × CutsFit t × CutsFit u
CutsFit (cases_tree ts) = Unit {0}

pub refuted_fit : (t : Tree) (b : Branch) → TreeRefutes t (rows_goal b) → CutsFit t
refuted_fit (leaf_tree parts) b r = tt
refuted_fit (cut_tree c k t u) b r = (r.0, r.1, refuted_fit t (record b { rows = b.rows ++ at_most c k ∷ [] }) r.2, refuted_fit u (record b { rows = b.rows ++ above c k ∷ [] }) r.3)
refuted_fit (cases_tree ts) b r = absurd r

-- from where the refutation stops on
abbrev pub StopFits : Stop → Type 0
StopFits (at_leaf n b parts) = Unit {0}
StopFits (at_cut r col k low high) = Fits k × Fits (below_opposite k) × CutsFit low.tree × CutsFit high.tree
StopFits (at_group s) = CutsFit s.tree
StopFits nowhere = Unit {0}

side_fits : (side : Bool) (low high : Stop) → StopFits low → StopFits high → StopFits (side_of side low high)
side_fits false low high f g = f
side_fits true low high f g = g

followed_fits : (a : Asked) (member : Option Bool) (s : TreeSpot) (low high : Stop) → CutsFit s.tree → StopFits low → StopFits high → StopFits (followed a member s low high)
followed_fits (one_part side) member s low high h f g = side_fits side low high f g
followed_fits both_parts member s low high h f g = f
followed_fits some_part None s low high h f g = h
followed_fits some_part (Some side) s low high h f g = side_fits side low high f g

meeting_fits : (m : Meeting) (follow : ℕ → Claim → Stop) (cut : Stop) → ((i : ℕ) (c : Claim) → StopFits (follow i c)) → StopFits cut → StopFits (stop_at m follow cut)
meeting_fits own_cut follow cut f g = g
meeting_fits (told_by i c) follow cut f g = f i c

pub stops_fit : (v : View) (taken : List (ℕ × ℕ × Bool)) (n : ℕ) (b : Branch) (t : Tree) → CutsFit t → StopFits (stops v taken n b t)
stops_fit v taken n b (leaf_tree parts) h = tt
stops_fit v taken n b (cut_tree col k t u) h =
    let stamp : ℕ = column_stamp v.columns col in
    let low : TreeSpot = low_side v.columns n b col k t in
    let high : TreeSpot = high_side v.columns n b col k t u in
    let s : TreeSpot = record { node = n; branch = b; tree = cut_tree col k t u } in
    let to_low : Stop = stops v taken low.node low.branch t in
    let to_high : Stop = stops v taken high.node high.branch u in
    let at_low : StopFits to_low = stops_fit v taken low.node low.branch t h.2 in
    let at_high : StopFits to_high = stops_fit v taken high.node high.branch u h.3 in
    meeting_fits (meeting_of v.returns 0 v.claims stamp)
    (λ i c. followed (asked_at c stamp (truth_in (formula_at v.columns c low.branch t)) (truth_in (formula_at v.columns c high.branch u))) (taken_at i n taken) s to_low to_high)
    (at_cut (length b.rows) col k low high)
    (λ i c. followed_fits (asked_at c stamp (truth_in (formula_at v.columns c low.branch t)) (truth_in (formula_at v.columns c high.branch u))) (taken_at i n taken) s to_low to_high h at_low at_high) h
stops_fit v taken n b (cases_tree ts) h = tt

-- ---- goals

-- the leaves to which sides lead from where the refutation stops contradict their rows
abbrev pub LeavesContradict : View → Gathered → Stop → Type 0
LeavesContradict v g stop = (sides : List Bool) → IfSome (leaf_from v sides g stop) (λ l. Contradicts l.rows l.parts)

-- the goal has the rows of where the refutation has come to, and its groups are those that wait
pub record Ready (v : View) (g : Gathered) (stop : Stop) (goal : Goal) : Type 0 where
  pub rows : goal.rows ≡ g.rows
  pub groups : AreGroups (waiting v g.groups) goal.groups
  pub cuts : StopFits stop
  pub leaves : LeavesContradict v g stop

leaf_refutes : (v : View) (g : Gathered) (stop : Stop) (goal : Goal) (found : List (ℕ × ℤ)) → Ready v g stop goal → IsLeafOf v g stop found → Contradicts goal.rows found
leaf_refutes v g (at_leaf n b parts) goal found r h =
    subst (λ (rows : List LinearRow). Contradicts rows found) (sym r.rows)
    (subst (Contradicts g.rows) (sym h) (r.leaves []))
leaf_refutes v g (at_cut k col j low high) goal found r h = absurd h
leaf_refutes v g (at_group s) goal found r h = absurd h
leaf_refutes v g nowhere goal found r h = absurd h

-- on a side of a cut
side_ready : (v : View) (g : Gathered) (r col : ℕ) (k : ℤ) (low high : TreeSpot) (goal : Goal) → Ready v g (at_cut r col k low high) goal → (side : Bool) (row : LinearRow) →
    row ≡ side_of side (at_most (v.column col) k) (above (v.column col) k) → CutsFit (side_of side low high).tree →
    Ready v (with_own v r col k side g) (stops_at v g.taken (side_of side low high)) (with_row goal row)
side_ready v g r col k low high goal ready side row e fits =
    let s : TreeSpot = side_of side low high in
    record {
      rows = ap (λ (l : List LinearRow). l ++ row ∷ []) ready.rows ∙ ap (λ (x : LinearRow). g.rows ++ x ∷ []) e;
      groups = ready.groups;
      cuts = stops_fit v g.taken s.node s.branch s.tree fits;
      leaves = λ sides. ready.leaves (side ∷ sides);
    }

cut_refutes : (v : View) (g : Gathered) (stop : Stop) (goal : Goal) (c : ℕ) (j : ℤ) (t u : Tree) → Ready v g stop goal → IsCutOf v g stop c j (IsWalked v t) (IsWalked v u) →
    ((h : Gathered) (to : Stop) (side : Goal) → Ready v h to side → IsWalked v t h to → TreeRefutes t side) →
    ((h : Gathered) (to : Stop) (side : Goal) → Ready v h to side → IsWalked v u h to → TreeRefutes u side) → TreeRefutes (cut_tree c j t u) goal
cut_refutes v g (at_leaf n b parts) goal c j t u ready h first second = absurd h
cut_refutes v g (at_cut r col k low high) goal c j t u ready h first second =
    let here : at_most c j ≡ at_most (v.column col) k = ap (λ (x : ℕ). at_most x j) h.0 ∙ ap (at_most (v.column col)) h.1 in
    let there : above c j ≡ above (v.column col) k = ap (λ (x : ℕ). above x j) h.0 ∙ ap (above (v.column col)) h.1 in (
      subst Fits (sym h.1) ready.cuts.0,
      subst (λ (z : ℤ). Fits (below_opposite z)) (sym h.1) ready.cuts.1,
      first (with_own v r col k false g) (stops_at v g.taken low) (with_row goal (at_most c j)) (side_ready v g r col k low high goal ready false (at_most c j) here ready.cuts.2) h.2,
      second (with_own v r col k true g) (stops_at v g.taken high) (with_row goal (above c j)) (side_ready v g r col k low high goal ready true (above c j) there ready.cuts.3) h.3,
    )
cut_refutes v g (at_group s) goal c j t u ready h first second = absurd h
cut_refutes v g nowhere goal c j t u ready h first second = absurd h

-- where the first group is opened, and a member taken
abbrev after_member : View → Bool → Gathered → ℕ × TreeSpot → List (ℕ × TreeSpot) → Gathered
after_member v side g p ps =
    member_taken v p.0 (slice_get v.claims p.0) p.1.node side (side_at v.columns p.1.node p.1.branch p.1.tree side) (record g { groups = ps })

member_ready : (v : View) (g : Gathered) (s : TreeSpot) (goal : Goal) → Ready v g (at_group s) goal → (p : ℕ × TreeSpot) (ps : List (ℕ × TreeSpot)) → g.groups ≡ p ∷ ps →
    (rest : List (List System)) → AreGroups (waiting v ps) rest → (side : Bool) (member : System) → IsSystem (member_at v.columns (slice_get v.claims p.0) p.1 side) member →
    Ready v (after_member v side g p ps) (stops_at v (after_member v side g p ps).taken s) (goal_with_member (record { rows = goal.rows; groups = rest }) member)
member_ready v g s goal ready p ps e rest are side member is =
    let c : Option Claim = slice_get v.claims p.0 in
    let to : Option TreeSpot = side_at v.columns p.1.node p.1.branch p.1.tree side in
    let from : Gathered = record g { groups = ps } in
    let h : Gathered = after_member v side g p ps in
    let system : PlainSystem = member_at v.columns c p.1 side in
    record {
      rows = ap (λ (l : List LinearRow). l ++ map tightened (rows_of member)) ready.rows ∙
          ap (λ (l : List LinearRow). g.rows ++ map tightened l) (system_rows system member is) ∙ sym (taken_rows v p.0 c p.1.node side to from);
      groups = subst (λ (l : Groups). AreGroups l (rest ++ groups_of member)) (sym (taken_groups v p.0 c p.1.node side to from refl))
          (groups_beside (waiting v ps) (groups_in system) rest (groups_of member) are (system_groups system member is));
      cuts = stops_fit v h.taken s.node s.branch s.tree ready.cuts;
      leaves = λ sides. subst (λ (l : List (ℕ × TreeSpot)). IfSome (on_opened (opened v side g l) (λ x. leaf_from v sides x (stops_at v x.taken s))) (λ l. Contradicts l.rows l.parts)) e
          (ready.leaves (side ∷ sides));
    }

walked_counted : (v : View) (ts : Trees) (ps : List (Gathered × Stop)) → AreWalked v ts ps → tree_count ts ≡ length ps
walked_counted v no_tree [] h = refl
walked_counted v no_tree (p ∷ ps) h = absurd h
walked_counted v (one_more t ts) [] h = absurd h
walked_counted v (one_more t ts) (p ∷ ps) h = ap suc (walked_counted v ts ps h.1)

abbrev EachReady : View → List (Gathered × Stop) → List Goal → Type 0
EachReady v = AllPairs (λ (p : Gathered × Stop) (goal : Goal). Ready v p.0 p.1 goal)

cases_refute : (v : View) (ts : Trees) (g : Gathered) (stop : Stop) (goal : Goal) → Ready v g stop goal → AreCasesOf v g stop (AreWalked v ts) →
    ((ps : List (Gathered × Stop)) (goals : List Goal) → EachReady v ps goals → AreWalked v ts ps → EachRefutes ts goals) → TreeRefutes (cases_tree ts) goal
cases_refute v ts g (at_leaf n b parts) goal ready h each = absurd h
cases_refute v ts g (at_cut r col k low high) goal ready h each = absurd h
cases_refute v ts g nowhere goal ready h each = absurd h
cases_refute v ts g (at_group s) goal ready h each = by_groups g.groups goal.groups refl ready.groups h
  where
    by_groups : (waits : List (ℕ × TreeSpot)) (groups : List (List System)) → g.groups ≡ waits → AreGroups (waiting v waits) groups →
        AfterMembers v s (opened v false g waits) (opened v true g waits) (AreWalked v ts) → CasesRefute (λ goals. EachRefutes ts goals) (tree_count ts) goal.rows groups
    by_groups [] groups e are walked = absurd walked
    by_groups (p ∷ ps) [] e are walked = absurd are
    by_groups (p ∷ ps) ([] ∷ rest) e are walked = absurd are.0
    by_groups (p ∷ ps) ((first ∷ []) ∷ rest) e are walked = absurd are.0.1
    by_groups (p ∷ ps) ((first ∷ second ∷ more ∷ others) ∷ rest) e are walked = absurd are.0.1.1
    by_groups (p ∷ ps) ((first ∷ second ∷ []) ∷ rest) e are walked =
        let left : Goal = record { rows = goal.rows; groups = rest } in
        let x : Gathered = after_member v false g p ps in
        let y : Gathered = after_member v true g p ps in
        let places : List (Gathered × Stop) = (x, stops_at v x.taken s) ∷ (y, stops_at v y.taken s) ∷ [] in (
          walked_counted v ts places walked,
          each places (goal_with_member left first ∷ goal_with_member left second ∷ [])
              (member_ready v g s goal ready p ps e rest are.1 false first are.0.0, (member_ready v g s goal ready p ps e rest are.1 true second are.0.1.0, tt)) walked,
        )

-- ---- the tree

mutual
  pub walked_refutes : (v : View) (found : Tree) (g : Gathered) (stop : Stop) (goal : Goal) → Ready v g stop goal → IsWalked v found g stop → TreeRefutes found goal
  walked_refutes v (leaf_tree parts) g stop goal ready h = leaf_refutes v g stop goal parts ready h
  walked_refutes v (cut_tree c k t u) g stop goal ready h = cut_refutes v g stop goal c k t u ready h (walked_refutes v t) (walked_refutes v u)
  walked_refutes v (cases_tree ts) g stop goal ready h = cases_refute v ts g stop goal ready h (each_refutes v ts)

  each_refutes : (v : View) (ts : Trees) (ps : List (Gathered × Stop)) (goals : List Goal) → EachReady v ps goals → AreWalked v ts ps → EachRefutes ts goals
  each_refutes v no_tree [] [] r h = tt
  each_refutes v no_tree [] (goal ∷ goals) r h = absurd r
  each_refutes v no_tree (p ∷ ps) goals r h = absurd h
  each_refutes v (one_more t ts) [] goals r h = absurd h
  each_refutes v (one_more t ts) (p ∷ ps) [] r h = absurd r
  each_refutes v (one_more t ts) (p ∷ ps) (goal ∷ goals) r h = (walked_refutes v t p.0 p.1 goal r.0 h.0, each_refutes v ts ps goals r.1 h.1)
