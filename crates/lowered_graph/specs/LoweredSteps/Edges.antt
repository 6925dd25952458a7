-- What the letters of a program allow at a point: the inside edges, each with the columns that it writes and its rows, and the rows of calls.
use Rattle.std.specs.Prelude.{ℕ, zero, suc, ◌+◌, pos, Bool, true, false, nat_eq, not, List, [], ◌∷◌, ◌++◌, map, filter, length, Option, None, Some, slice_get, if◌then◌else◌}
use Rattle.boogie_tree.specs.declared.tree.Ty.{Ty}
use Rattle.boogie_tree.specs.declared.tree.Ty.TheVariants as types
use Rattle.boogie_tree.specs.declared.tree.Column.{Column}
use Rattle.boogie_tree.specs.declared.tree.VarInfo.{VarInfo}
use Rattle.typed_tree.specs.TypedTree.{TypedExpression, Lit, Truth, Var, Old, Not, Neg, Bin, TypedProcedure, TypedProgram}
use Rattle.typed_tree.specs.Values.{truth}
use Rattle.typed_tree.specs.TypingRules.Rules.{results_of}
use Rattle.letter_acts.specs.Frames.{Columns, old_columns}
use Rattle.cond_jumps.specs.Conjunctions.{Conjunction, Plan, Just, With, listed_plan}
use Rattle.cond_jumps.specs.Forms.{Linears, linear_number, column, linear_minus}
use Rattle.cond_jumps.specs.Comparisons.{compared, equal, always}
use Rattle.cond_jumps.specs.Environments.{Environment}
use Rattle.cond_jumps.specs.Paths.{linear, paths}
use Rattle.cond_jumps.specs.Frames.{frame_environment, fixed_in}
use Rattle.cond_jumps.specs.Passing.{imported, standing_environment}
use Rattle.cond_jumps.specs.FreeProducts.FreeProducts.{all_freed}
use Rattle.cond_jumps.specs.FreeProducts.Letters.{MarkedConjunction, marked_letter}
use Rattle.cond_jumps.specs.FreeProducts.FrameLetters.{widened, all_product_count, told_condition, path_letters, assign_letters, passed_letters}
use Rattle.boogie_run.specs.BoogiePoints.Points.{Point, settled, past_first}
use Rattle.boogie_run.specs.BoogiePoints.Actions as actions
use Rattle.boogie_run.specs.BoogiePoints.Actions.{Action, ensured_conditions}
use Rattle.boogie_run.specs.BoogiePoints.Starts.{targets_at}
use Rattle.boogie_run.specs.Needs.{locals_at}
use Rattle.letter_acts.specs.Reading.{is_listed}
use Rattle.lowered_graph.specs.LoweredSteps.ProgramFrames.{frame_at, width_at, column_number}

-- where an inside edge leads in its procedure: to a point, or to the failing of an assertion
pub data Spot : Type 0 where
  At : Point → Spot
  Wrong : ℕ → Spot

-- an inside edge: where it leads, the columns that it writes, its rows over the frame, the written columns and the helpers, and whether
-- these rows leave a product free
pub record Edge : Type 0 where
  pub to : Spot
  pub written : List ℕ
  pub rows : Conjunction
  pub coarse : Bool

-- an edge for each letter of a list
abbrev pub leads : List ℕ → List MarkedConjunction → Spot → List Edge
leads written letters to = map (λ l. record { to = to; written = written; rows = l.plain; coarse = l.coarse }) letters

-- the list of the one letter without rows
abbrev pub no_rows : List MarkedConjunction
no_rows = record { plain = record { rows = []; helpers = 0 }; coarse = false } ∷ []

-- ---- calls without body

-- of the numbers those that stand in a list, and those that do not
abbrev pub those_in : List ℕ → List ℕ → List ℕ
those_in ms ns = filter (is_listed ms) ns

abbrev pub those_not_in : List ℕ → List ℕ → List ℕ
those_not_in ms ns = filter (λ n. not (is_listed ms n)) ns

-- the first place of a number in a list, from k on
abbrev pub found_from : ℕ → List ℕ → ℕ → Option ℕ
found_from k [] n = None
found_from k (m ∷ ms) n = if nat_eq m n then Some k else found_from (suc k) ms n

-- the columns that such a call writes: the modified globals, and then the other targets
abbrev pub import_written : List ℕ → List ℕ → List ℕ
import_written modified targets = modified ++ those_not_in modified targets

abbrev pub typed_column : ℕ → Option VarInfo → Option (ℕ × Ty)
typed_column c None = None
typed_column c (Some v) = Some (c, v.ty)

-- Where a global is behind such a call, before its target is written: in the column that is written for it, or in a helper where it is a target,
-- too; and in its own column where it is not modified. `base` is the number of the first written column.
abbrev pub left_if : List VarInfo → ℕ → ℕ → Option ℕ → Option ℕ → Option (ℕ × Ty)
left_if globals base n None helper = None
left_if globals base n (Some k) None = typed_column (base + k) (slice_get globals n)
left_if globals base n (Some k) (Some h) = typed_column h (slice_get globals n)

abbrev pub left_at : List VarInfo → ℕ → List ℕ → List ℕ → ℕ → Option (ℕ × Ty)
left_at globals base modified targets n =
    left_if globals base n (found_from 0 modified n)
    (found_from (base + length (import_written modified targets)) (those_in targets modified) n)

abbrev pub found_or_0 : Option ℕ → ℕ
found_or_0 None = 0
found_or_0 (Some k) = k

-- the column in which a result stands, with its type: the one that is written for its target
abbrev pub result_at : ℕ → List ℕ → ℕ → VarInfo → ℕ × Ty
result_at base written target v = (base + found_or_0 (found_from 0 written target), v.ty)

abbrev pub results_at : ℕ → List ℕ → List ℕ → List VarInfo → List (ℕ × Ty)
results_at base written [] vs = []
results_at base written (c ∷ cs) [] = []
results_at base written (c ∷ cs) (v ∷ vs) = result_at base written c v ∷ results_at base written cs vs

-- all of these conditions hold
abbrev pub all_hold : Environment → List TypedExpression → Plan
all_hold v [] = Just always
all_hold v (e ∷ es) = With (paths v false e true) (all_hold v es)

-- the letter with the last k further columns counted among its helpers, before those that it has
abbrev pub behind_helpers : ℕ → MarkedConjunction → MarkedConjunction
behind_helpers k l = record { plain = record { rows = l.plain.rows; helpers = k + l.plain.helpers }; coarse = l.coarse }

-- its ensures as their products are told at a call with these arguments
abbrev pub told_ensures : Columns → TypedProcedure → List TypedExpression → List TypedExpression
told_ensures frame q args = map (λ i. told_condition (fixed_in frame) args i.cond) (ensured_conditions q.specs)

-- how many free products the arguments have, and the ensures
abbrev pub import_products : Columns → TypedProcedure → List TypedExpression → ℕ
import_products frame q args = all_product_count frame args + all_product_count frame (told_ensures frame q args)

-- k columns of whole numbers, from number n on
abbrev pub whole_columns : ℕ → ℕ → List (ℕ × Ty)
whole_columns n zero = []
whole_columns n (suc k) = (n, types.Int) ∷ whole_columns (suc n) k

-- What stands for the columns in the ensures of procedure q, called with these arguments and targets from a frame whose locals have numbers
-- below m: behind the frame stand the products, those of the arguments first, and those of the ensures are further results.
abbrev pub import_environment : Columns → ℕ → List VarInfo → TypedProcedure → List TypedExpression → List ℕ → Environment
import_environment frame m globals q args targets =
    let told : ℕ = all_product_count frame args in
    let base : ℕ = length frame + import_products frame q args in
    standing_environment (frame_environment (widened frame m (import_products frame q args)))
    (imported (left_at globals base q.modifies targets) (all_freed (fixed_in frame) m args)
    (results_at base (import_written q.modifies targets) targets (results_of q) ++ whole_columns (length frame + told) (all_product_count frame (told_ensures frame q args))))

-- All its ensures together, their products in the places of locals behind its parameters and results.
abbrev pub import_plan : Columns → ℕ → List VarInfo → TypedProcedure → List TypedExpression → List ℕ → Plan
import_plan frame m globals q args targets =
    all_hold (import_environment frame m globals q args targets) (all_freed (fixed_in frame) (length args + length (results_of q)) (told_ensures frame q args))

-- Their letters come behind a helper for each modified global that is a target, too.
abbrev pub import_letters : Columns → ℕ → List VarInfo → TypedProcedure → List TypedExpression → List ℕ → List MarkedConjunction
import_letters frame m globals q args targets =
    let free : ℕ = import_products frame q args in
    let written : ℕ = length (import_written q.modifies targets) in
    let own : ℕ = length (those_in targets q.modifies) in
    map (λ c. behind_helpers own (marked_letter (length frame) free (written + own) c)) (listed_plan (import_plan frame m globals q args targets) (length frame + free + written + own))

abbrev pub import_edges : Columns → ℕ → List VarInfo → Option TypedProcedure → List TypedExpression → List ℕ → Point → List Edge
import_edges frame m globals None args targets next = []
import_edges frame m globals (Some q) args targets next = leads (import_written q.modifies targets) (import_letters frame m globals q args targets) (At next)

-- ---- the inside edges at a point of procedure n, by the action there

abbrev pub skips : List Point → List Edge
skips [] = []
skips (p ∷ ps) = leads [] no_rows (At p) ++ skips ps

-- the numbers of columns in a frame
abbrev pub numbers_in : Columns → List Column → List ℕ
numbers_in frame cs = map (column_number frame) cs

-- the locals of procedure n have numbers below this
abbrev pub local_count : TypedProgram → ℕ → ℕ
local_count t n = length (locals_at t n)

-- An assertion leads on where it is true, and to its failing where it is false; a call without body does all it does by one edge.
abbrev pub inside_edges : TypedProgram → ℕ → Point → Action → List Edge
inside_edges t n here (actions.Check id at e next) =
    leads [] (path_letters (frame_at t n) (local_count t n) e true) (At next) ++ leads [] (path_letters (frame_at t n) (local_count t n) e false) (Wrong id)
inside_edges t n here (actions.Suppose e next) = leads [] (path_letters (frame_at t n) (local_count t n) e true) (At next)
inside_edges t n here (actions.Demand id at e args next) =
    leads [] (passed_letters (frame_at t n) (local_count t n) args e true) (At next) ++ leads [] (passed_letters (frame_at t n) (local_count t n) args e false) (Wrong id)
inside_edges t n here (actions.Write cs es next) = leads (numbers_in (frame_at t n) cs) (assign_letters (frame_at t n) (local_count t n) (length es) es) (At next)
inside_edges t n here (actions.Guess c next) = leads (column_number (frame_at t n) c ∷ []) no_rows (At next)
inside_edges t n here (actions.Test e hit miss) =
    leads [] (path_letters (frame_at t n) (local_count t n) e true) (At hit) ++ leads [] (path_letters (frame_at t n) (local_count t n) e false) (At miss)
inside_edges t n here (actions.Pick ways) = skips ways
inside_edges t n here (actions.Jump next) = skips (next ∷ [])
inside_edges t n here (actions.Enter f args) = []
inside_edges t n here (actions.Keep f args c next) =
    import_edges (frame_at t n) (local_count t n) t.globals (slice_get t.procs f) args (numbers_in (frame_at t n) (targets_at here.todo)) (settled (past_first t.procs here.todo))
inside_edges t n here (actions.Grant f args e next) =
    import_edges (frame_at t n) (local_count t n) t.globals (slice_get t.procs f) args (numbers_in (frame_at t n) (targets_at here.todo)) (settled (past_first t.procs here.todo))
inside_edges t n here (actions.Finish f args targets next) =
    import_edges (frame_at t n) (local_count t n) t.globals (slice_get t.procs f) args (numbers_in (frame_at t n) (targets_at here.todo)) (settled (past_first t.procs here.todo))
inside_edges t n here actions.Leave = []

-- ---- calls of procedures with a body

-- an argument as a sum: a truth value is a literal, a name, or one less a name
abbrev pub argument_sum : Environment → TypedExpression → Linears
argument_sum v (Lit at n) = linear v false (Lit at n)
argument_sum v (Truth at b) = linear_number (truth b)
argument_sum v (Var at c) = linear v false (Var at c)
argument_sum v (Old at e) = linear v false (Old at e)
argument_sum v (Not at e) = linear_minus (linear_number (pos 1)) (argument_sum v e)
argument_sum v (Neg at e) = linear v false (Neg at e)
argument_sum v (Bin at op a b) = linear v false (Bin at op a b)

-- the parameters, from column j on, have the values of the arguments
abbrev pub parameters_get : Environment → ℕ → List TypedExpression → Plan
parameters_get v j [] = Just always
parameters_get v j (e ∷ es) = With (Just (compared equal (column j) (argument_sum v e))) (parameters_get v (suc j) es)

-- how many columns of a frame stand before its locals
abbrev pub columns_before_locals : TypedProgram → ℕ
columns_before_locals t = length t.globals + length (old_columns 0 t.globals)

-- how the rows of a call from procedure n to procedure f are put together, over the caller's frame and the products of the arguments
abbrev pub call_plan : TypedProgram → ℕ → List TypedExpression → Plan
call_plan t n args =
    let free : ℕ = all_product_count (frame_at t n) args in
    parameters_get (frame_environment (widened (frame_at t n) (local_count t n) free)) (width_at t n + free + columns_before_locals t)
    (all_freed (fixed_in (frame_at t n)) (local_count t n) args)

-- The letters of the call: over the caller's frame, the callee's frame, and the helpers. The list has one member.
abbrev pub call_letters : TypedProgram → ℕ → ℕ → List TypedExpression → List MarkedConjunction
call_letters t n f args =
    let free : ℕ = all_product_count (frame_at t n) args in
    map (marked_letter (width_at t n) free (width_at t f)) (listed_plan (call_plan t n args) (width_at t n + free + width_at t f))
