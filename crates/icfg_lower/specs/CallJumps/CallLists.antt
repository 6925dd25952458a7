-- How the lists of a call are put together.
use Rattle.std.specs.Prelude.{ℕ, zero, suc, ◌+◌, false, Bool, List, [], ◌∷◌, ◌++◌, map, length, take, drop}
use Rattle.boogie_tree.specs.declared.span.Span.{Span}
use Rattle.boogie_tree.specs.declared.tree.Ty.{Ty}
use Rattle.boogie_tree.specs.declared.tree.Column.TheVariants as columns
use Rattle.boogie_tree.specs.declared.tree.VarInfo.{VarInfo}
use Rattle.typed_tree.specs.TypedTree.{TypedExpression, Var, TypedSpecification, TypedProcedure}
use Rattle.letter_acts.specs.Frames.{Columns}
use Rattle.cond_jumps.specs.Conjunctions.{Plan, listed_plan}
use Rattle.cond_jumps.specs.Paths.{paths}
use Rattle.cond_jumps.specs.Frames.{frame_environment, fixed_in}
use Rattle.cond_jumps.specs.Passing.{passed, imported, standing_environment}
use Rattle.cond_jumps.specs.FreeProducts.FreeProducts.{all_freed}
use Rattle.cond_jumps.specs.FreeProducts.Letters.{MarkedConjunction, marked_letter}
use Rattle.cond_jumps.specs.FreeProducts.FrameLetters.{widened, all_product_count, told_condition, passed_count, freed_passed_plan}
use Rattle.boogie_run.specs.BoogiePoints.Actions.{ensured_conditions}
use Rattle.lowered_graph.specs.LoweredSteps.Edges.{those_in, import_written, import_products, left_at, results_at, whole_columns, all_hold, behind_helpers, parameters_get}

-- ---- requires

-- that of a condition of the called procedure, with the arguments for its parameters
abbrev pub passed_plan : Columns → List TypedExpression → TypedExpression → Bool → Plan
passed_plan frame args e want = paths (standing_environment (frame_environment frame) (passed args)) false e want

-- the variables of k locals, from number m on
abbrev pub local_variables : Span → ℕ → ℕ → List TypedExpression
local_variables at m zero = []
local_variables at m (suc k) = Var at (columns.Local m) ∷ local_variables at (suc m) k

-- that of a requires, as its products are told, over a frame whose locals have numbers below m, and its products
abbrev pub demand_plan : Columns → ℕ → List TypedExpression → TypedExpression → Bool → Plan
demand_plan frame m args e want = freed_passed_plan frame m args (told_condition (fixed_in frame) args e) want

-- and its first helper column: behind the frame and the products
abbrev pub demand_base : Columns → List TypedExpression → TypedExpression → ℕ
demand_base frame args e = length frame + passed_count frame args (told_condition (fixed_in frame) args e)

-- ---- parameters

-- That of the parameters, over a frame whose locals have numbers below m, the products of the arguments, and the callee's frame, in which the
-- parameters stand behind so many columns.
abbrev pub parameters_plan : Columns → ℕ → ℕ → List TypedExpression → Plan
parameters_plan frame m before args =
    parameters_get (frame_environment (widened frame m (all_product_count frame args))) (length frame + all_product_count frame args + before) (all_freed (fixed_in frame) m args)

-- and its first helper column: behind the frame, the products, and the callee's frame of so many columns
abbrev pub parameters_base : Columns → ℕ → List TypedExpression → ℕ
parameters_base frame callee args = length frame + all_product_count frame args + callee

-- the letters of the parameters: the list has one member
abbrev pub parameters_letters : Columns → ℕ → ℕ → ℕ → List TypedExpression → List MarkedConjunction
parameters_letters frame m before callee args =
    map (marked_letter (length frame) (all_product_count frame args) callee) (listed_plan (parameters_plan frame m before args) (parameters_base frame callee args))

-- ---- calls without body

-- its ensures
abbrev pub ensured : List TypedSpecification → List TypedExpression
ensured specs = map (λ i. i.cond) (ensured_conditions specs)

-- That of conditions over the results of procedure q, called with these arguments and targets, and over further results; the first column that is
-- written has the number `base`.
abbrev pub ensures_plan : Columns → ℕ → List VarInfo → TypedProcedure → List TypedExpression → List ℕ → List (ℕ × Ty) → List TypedExpression → Plan
ensures_plan frame base globals q args targets more es =
    all_hold
    (standing_environment (frame_environment frame)
    (imported (left_at globals base q.modifies targets) args (results_at base (import_written q.modifies targets) targets (take q.results (drop q.params q.locals)) ++ more)))
    es

-- the column behind the written ones, of which the first has the number `base`, and behind a helper for each modified global that is a target, too
abbrev pub behind_written : ℕ → TypedProcedure → List ℕ → ℕ
behind_written base q targets = base + length (import_written q.modifies targets) + length (those_in targets q.modifies)

-- how many free products the arguments and conditions have
abbrev pub both_count : Columns → List TypedExpression → List TypedExpression → ℕ
both_count frame args es = all_product_count frame args + all_product_count frame es

-- That of conditions as they are told, over a frame whose locals have numbers below m, and its products: those of the arguments, and then those of the
-- conditions, which are further results.
abbrev pub freed_ensures_plan : Columns → ℕ → List VarInfo → TypedProcedure → List TypedExpression → List ℕ → List TypedExpression → Plan
freed_ensures_plan frame m globals q args targets es =
    ensures_plan (widened frame m (both_count frame args es)) (length frame + both_count frame args es) globals q (all_freed (fixed_in frame) m args) targets
    (whole_columns (length frame + all_product_count frame args) (all_product_count frame es))
    (all_freed (fixed_in frame) (length args + length (take q.results (drop q.params q.locals))) es)

-- and its first helper column
abbrev pub freed_ensures_base : Columns → TypedProcedure → List TypedExpression → List ℕ → List TypedExpression → ℕ
freed_ensures_base frame q args targets es = behind_written (length frame + both_count frame args es) q targets

-- their letters, behind a helper for each modified global that is a target, too
abbrev pub ensures_letters : Columns → ℕ → List VarInfo → TypedProcedure → List TypedExpression → List ℕ → List TypedExpression → List MarkedConjunction
ensures_letters frame m globals q args targets es =
    let own : ℕ = length (those_in targets q.modifies) in
    map (λ c. behind_helpers own (marked_letter (length frame) (both_count frame args es) (length (import_written q.modifies targets) + own) c))
    (listed_plan (freed_ensures_plan frame m globals q args targets es) (freed_ensures_base frame q args targets es))

-- the first helper column of a call's ensures: behind the frame, the products, the written columns, and those helpers
abbrev pub import_base : Columns → TypedProcedure → List TypedExpression → List ℕ → ℕ
import_base frame q args targets = behind_written (length frame + import_products frame q args) q targets
