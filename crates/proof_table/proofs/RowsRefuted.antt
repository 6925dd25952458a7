-- A tree that refutes the system of a word refutes its rows.
use Rattle.std.proofs.Common.{◌≡◌, List, [], ◌∷◌, map, subst}
use Rattle.std.specs.Prelude.{◌↔◌, Bool, Result, Ok, Err, IfOk, IsTrue}
use Rattle.std.specs.declared.alloc.AllocError.{AllocError}
use Rattle.lin_rows.specs.declared.systems.System.{System}
use Rattle.lin_rows.specs.Rows.{LinearRow}
use Rattle.lin_rows.specs.Tightening.{tightened}
use Rattle.lin_rows.specs.Systems.{rows_of, groups_of}
use Rattle.farkas_check.specs.Nodes.{PlainNode}
use Rattle.farkas_check.specs.Refutes.{Goal, Refute, Refutes, goal_of}
use Rattle.nested_itp.specs.NestedPredicates.Interpolants.{RefutesRows}

same_goal : (s : System) (rows : List LinearRow) → rows_of s ≡ rows → groups_of s ≡ [] → goal_of s ≡ record { rows = map tightened rows; groups = [] }
same_goal s rows a b = cc

pub rows_refuted : (s : System) (rows : List LinearRow) (nodes : List PlainNode) (r : Result Bool AllocError) → rows_of s ≡ rows → groups_of s ≡ [] →
    IfOk r (λ yes. IsTrue yes ↔ Refutes nodes s) → IfOk r (λ yes. IsTrue yes → RefutesRows nodes rows)
rows_refuted s rows nodes (Ok answer) a b h = λ q. subst (λ (x : Goal). Refute nodes (x ∷ [])) (same_goal s rows a b) (h.0 q)
rows_refuted s rows nodes (Err e) a b h = tt
