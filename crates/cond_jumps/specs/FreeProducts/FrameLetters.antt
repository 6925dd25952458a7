-- The letters of a frame: of conditions, of assignments, and of conditions of called procedures with arguments for their parameters.
use Rattle.std.specs.Prelude.{ℕ, zero, suc, ◌+◌, Bool, false, not, ◌&&◌, List, [], ◌∷◌, ◌++◌, map, length, Option, None, Some, option_and_then, unwrap_or, slice_get, if◌then◌else◌}
use Rattle.std.specs.Option.{is_some}
use Rattle.boogie_tree.specs.declared.tree.Column.{Column}
use Rattle.boogie_tree.specs.declared.tree.Column.TheVariants as columns
use Rattle.boogie_tree.specs.declared.tree.Ty.TheVariants as types
use Rattle.boogie_tree.specs.declared.tree.VarInfo.{VarInfo}
use Rattle.typed_tree.specs.TypedTree.{TypedExpression, Lit, Truth, Var, Old, Not, Neg, Bin}
use Rattle.typed_tree.specs.BrokenRules.{expression_span}
use Rattle.typed_tree.specs.AffineForm.{divisor_of, is_empty, forms_fit}
use Rattle.letter_acts.specs.Frames.{Columns}
use Rattle.cond_jumps.specs.Conjunctions.{Plan, listed_plan}
use Rattle.cond_jumps.specs.Frames.{frame_environment, fixed_in}
use Rattle.cond_jumps.specs.Paths.{paths}
use Rattle.cond_jumps.specs.Passing.{passed, standing_environment}
use Rattle.cond_jumps.specs.Lists.{path_plan, path_list, assign_plan, assign_list}
use Rattle.cond_jumps.specs.FreeProducts.FreeProducts.{free_products, freed, all_free_products, all_freed}
use Rattle.cond_jumps.specs.FreeProducts.Letters.{MarkedConjunction, marked_letter}

-- ---- a frame with products

abbrev pub product_variable : VarInfo
product_variable = record { name = []; ty = types.Int; constant = false }

-- the locals from number m on, one for each of k products
abbrev pub product_columns : ℕ → ℕ → Columns
product_columns m zero = []
product_columns m (suc k) = (columns.Local m, product_variable) ∷ product_columns (suc m) k

-- the frame, whose locals have numbers below m, and behind it a local for each of k products
abbrev pub widened : Columns → ℕ → ℕ → Columns
widened frame m k = frame ++ product_columns m k

-- ---- conditions and assignments

-- how many free products an expression has
abbrev pub product_count : Columns → TypedExpression → ℕ
product_count frame e = length (free_products (fixed_in frame) false e)

-- how the list over the frame and the products is put together
abbrev pub freed_path_plan : Columns → ℕ → TypedExpression → Bool → Plan
freed_path_plan frame m e want = path_plan (widened frame m (product_count frame e)) (freed (fixed_in frame) m false e) want

-- The letters of a condition with the wanted value, over a frame whose locals have numbers below m.
abbrev pub path_letters : Columns → ℕ → TypedExpression → Bool → List MarkedConjunction
path_letters frame m e want =
    map (marked_letter (length frame) (product_count frame e) 0)
    (path_list (widened frame m (product_count frame e)) (freed (fixed_in frame) m false e) want)

abbrev pub all_product_count : Columns → List TypedExpression → ℕ
all_product_count frame es = length (all_free_products (fixed_in frame) es)

abbrev pub freed_assign_plan : Columns → ℕ → List TypedExpression → Plan
freed_assign_plan frame m es = assign_plan (widened frame m (all_product_count frame es)) (all_freed (fixed_in frame) m es)

-- the letters of an assignment of these values to so many columns
abbrev pub assign_letters : Columns → ℕ → ℕ → List TypedExpression → List MarkedConjunction
assign_letters frame m count es =
    map (marked_letter (length frame) (all_product_count frame es) count)
    (assign_list (widened frame m (all_product_count frame es)) count (all_freed (fixed_in frame) m es))

-- ---- conditions of called procedures

-- the argument, where it is a literal, or one behind a `-`
abbrev pub if_literal : TypedExpression → Option TypedExpression
if_literal e = if is_some (divisor_of e) then Some e else None

abbrev pub literal_or : List TypedExpression → Column → TypedExpression → TypedExpression
literal_or args (columns.Local n) e = unwrap_or (option_and_then if_literal (slice_get args n)) e
literal_or args c e = e

-- the condition with the literal arguments in the places of their parameters
abbrev pub put_in : List TypedExpression → TypedExpression → TypedExpression
put_in args (Lit at n) = Lit at n
put_in args (Truth at b) = Truth at b
put_in args (Var at c) = literal_or args c (Var at c)
put_in args (Old at e) = Old at (put_in args e)
put_in args (Not at e) = Not at (put_in args e)
put_in args (Neg at e) = Neg at (put_in args e)
put_in args (Bin at op a b) = Bin at op (put_in args a) (put_in args b)

-- The condition of a called procedure as its products are told: with the literal arguments, where it has a free product and the forms then fit.
abbrev pub told_condition : (Column → Bool) → List TypedExpression → TypedExpression → TypedExpression
told_condition fixed args e = if not (is_empty (free_products fixed false e)) && forms_fit fixed false (put_in args e) then put_in args e else e

-- the locals of products from number m on, one for each, as arguments
abbrev pub product_arguments : ℕ → List TypedExpression → List TypedExpression
product_arguments m [] = []
product_arguments m (p ∷ ps) = Var (expression_span p) (columns.Local m) ∷ product_arguments (suc m) ps

-- The arguments, and behind them the products of the condition, as further arguments.
abbrev pub passed_arguments : (Column → Bool) → ℕ → List TypedExpression → TypedExpression → List TypedExpression
passed_arguments fixed m args e = all_freed fixed m args ++ product_arguments (m + length (all_free_products fixed args)) (free_products fixed false e)

-- how many free products the arguments and a condition have
abbrev pub passed_count : Columns → List TypedExpression → TypedExpression → ℕ
passed_count frame args e = all_product_count frame args + product_count frame e

abbrev pub freed_passed_plan : Columns → ℕ → List TypedExpression → TypedExpression → Bool → Plan
freed_passed_plan frame m args e want =
    paths (standing_environment (frame_environment (widened frame m (passed_count frame args e))) (passed (passed_arguments (fixed_in frame) m args e))) false
    (freed (fixed_in frame) (length args) false e) want

-- The letters of a condition, told so, with arguments for its parameters.
abbrev pub told_letters : Columns → ℕ → List TypedExpression → TypedExpression → Bool → List MarkedConjunction
told_letters frame m args e want =
    map (marked_letter (length frame) (passed_count frame args e) 0)
    (listed_plan (freed_passed_plan frame m args e want) (length (widened frame m (passed_count frame args e))))

abbrev pub passed_letters : Columns → ℕ → List TypedExpression → TypedExpression → Bool → List MarkedConjunction
passed_letters frame m args e want = told_letters frame m args (told_condition (fixed_in frame) args e) want
