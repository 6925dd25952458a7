-- What the code makes for a call without body, as contracts see it.
use Rattle.std.specs.Prelude.{◌≡◌, ℕ, ◌+◌, false, List, ◌++◌, map, length, take, drop}
use Rattle.boogie_tree.specs.declared.tree.Ty.{Ty}
use Rattle.boogie_tree.specs.declared.tree.Column.{Column}
use Rattle.boogie_tree.specs.declared.tree.VarInfo.{VarInfo}
use Rattle.typed_tree.specs.TypedTree.{TypedExpression, TypedProcedure}
use Rattle.letter_acts.specs.Frames.{Columns}
use Rattle.lowered_graph.specs.LoweredSteps.Edges.{those_in, import_written, left_at, results_at}
use Rattle.icfg_lower.specs.declared.call_jumps.layouts.Layout.{Layout}
use Rattle.icfg_lower.specs.CallJumps.Ties.Reading.{Stand, read_by}
use Rattle.icfg_lower.specs.CallJumps.Ties.Stands.{argument_stand, result_stand, ensures_stand}
use Rattle.icfg_lower.specs.CallJumps.CallLists.{behind_written}

-- the columns at a call with these targets, of which the first that is written has the number `base`
pub record IsLayout (base : ℕ) (q : TypedProcedure) (targets : List ℕ) (l : Layout) : Type 0 where
  pub written : l.written.items ≡ import_written q.modifies targets
  pub targeted : l.targeted.items ≡ those_in targets q.modifies
  pub base_is : l.base ≡ base
  pub helpers : l.helpers ≡ base + length (import_written q.modifies targets)
  pub width : l.width ≡ behind_written base q targets

-- the results of a called procedure, in the columns of their targets
abbrev pub import_results : ℕ → TypedProcedure → List ℕ → List (ℕ × Ty)
import_results base q targets = results_at base (import_written q.modifies targets) targets (take q.results (drop q.params q.locals))

-- what stands for the columns of conditions over the results and further ones
abbrev pub import_stands : Columns → ℕ → List VarInfo → TypedProcedure → List TypedExpression → List ℕ → List (ℕ × Ty) → Column → Stand
import_stands frame base globals q args targets more =
    ensures_stand frame (left_at globals base q.modifies targets) (map (argument_stand frame) args ++ map result_stand (import_results base q targets ++ more))

-- such conditions over numbered columns
abbrev pub import_conditions : Columns → ℕ → List VarInfo → TypedProcedure → List TypedExpression → List ℕ → List (ℕ × Ty) → List TypedExpression → List TypedExpression
import_conditions frame base globals q args targets more es = map (read_by (import_stands frame base globals q args targets more) false) es
