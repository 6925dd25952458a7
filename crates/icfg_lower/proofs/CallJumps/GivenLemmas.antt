-- The letter of the parameters, over the frame and the products of the arguments.
use Rattle.std.proofs.Common.{◌≡◌, ℕ, ◌+◌, ◌≤◌, Bool, List, [], ◌∷◌, map, length, sym, ◌∙◌, ap, arith}
use Rattle.typed_tree.specs.TypedTree.{TypedExpression}
use Rattle.letter_acts.specs.Frames.{Columns}
use Rattle.cond_jumps.specs.Conjunctions.{Conjunction, Plan, listed_plan}
use Rattle.cond_jumps.specs.Frames.{frame_environment, fixed_in}
use Rattle.cond_jumps.specs.FreeProducts.FrameLetters.{all_product_count}
use Rattle.cond_jumps.specs.FreeProducts.Letters.{MarkedConjunction, marked_letter}
use Rattle.cond_jumps.specs.FreeProducts.LetterView.{exact_letter}
use Rattle.cond_jumps.proofs.FreeProducts.NarrowLemmas.{plain_letters}
use Rattle.cond_jumps.proofs.FreeProducts.FreedLemmas.{map_length}
use Rattle.cond_jumps.proofs.FreeProducts.MeanLemmas.{all_freed_length}
use Rattle.cond_jumps.proofs.FreeProducts.FrameAnswers.{AreAllFor, length-widened}
use Rattle.lowered_graph.specs.LoweredSteps.Edges.{parameters_get}
use Rattle.icfg_lower.specs.CallJumps.CallLists.{parameters_plan, parameters_base, parameters_letters}

-- the numbers of the columns, as the code adds them up
pub record AreColumns (frame : Columns) (args : List TypedExpression) (before callee first base : ℕ) : Type 0 where
  pub first_is : first ≡ length frame + all_product_count frame args + before
  pub base_is : base ≡ length frame + all_product_count frame args + callee

pub are_columns : (frame : Columns) (args : List TypedExpression) (before callee low count high first base : ℕ) → low ≡ length frame → count ≡ all_product_count frame args →
    high ≡ low + count → first ≡ high + before → base ≡ high + callee → AreColumns frame args before callee first base
are_columns frame args before callee low count high first base l c h f b = record { first_is = omega (arith, l, c, h, f); base_is = omega (arith, l, c, h, b) }

plan_for : (frame : Columns) (m before callee first base : ℕ) (args : List TypedExpression) (wide : Columns) (bs : List TypedExpression) → AreAllFor frame m args wide bs → AreColumns frame args before callee first base →
    parameters_get (frame_environment wide) first bs ≡ parameters_plan frame m before args
plan_for frame m before callee first base args wide bs h k = λ i. parameters_get (frame_environment (h.columns i)) (k.first_is i) (h.exprs i)

-- a test of the plan and the base
pub test_given : (test : Plan → ℕ → Bool) (frame : Columns) (m before callee first base : ℕ) (args : List TypedExpression) (wide : Columns) (bs : List TypedExpression) (b : Bool) → AreAllFor frame m args wide bs →
    AreColumns frame args before callee first base → test (parameters_get (frame_environment wide) first bs) base ≡ b → test (parameters_plan frame m before args) (parameters_base frame callee args) ≡ b
test_given test frame m before callee first base args wide bs b h k t = sym (λ i. test (plan_for frame m before callee first base args wide bs h k i) (k.base_is i)) ∙ t

pub list_given : (frame : Columns) (m before callee first base : ℕ) (args : List TypedExpression) (wide : Columns) (bs : List TypedExpression) → AreAllFor frame m args wide bs → AreColumns frame args before callee first base →
    listed_plan (parameters_get (frame_environment wide) first bs) base ≡ listed_plan (parameters_plan frame m before args) (parameters_base frame callee args)
list_given frame m before callee first base args wide bs h k = λ i. listed_plan (plan_for frame m before callee first base args wide bs h k i) (k.base_is i)

pub letter_at : (frame : Columns) (m before callee low count : ℕ) (args : List TypedExpression) (c : Conjunction) (l : MarkedConjunction) → low ≡ length frame → count ≡ all_product_count frame args →
    c ∷ [] ≡ listed_plan (parameters_plan frame m before args) (parameters_base frame callee args) → l ≡ marked_letter low count callee c → l ∷ [] ≡ parameters_letters frame m before callee args
letter_at frame m before callee low count args c l p q s e = (λ i. e i ∷ []) ∙ (λ i. map (marked_letter (p i) (q i) callee) (s i))

pub letter_given : (frame : Columns) (m before callee low count first base : ℕ) (args : List TypedExpression) (wide : Columns) (bs : List TypedExpression) (c : Conjunction) (l : MarkedConjunction) → AreAllFor frame m args wide bs →
    AreColumns frame args before callee first base → low ≡ length frame → count ≡ all_product_count frame args → c ∷ [] ≡ listed_plan (parameters_get (frame_environment wide) first bs) base →
    l ≡ marked_letter low count callee c → l ∷ [] ≡ parameters_letters frame m before callee args
letter_given frame m before callee low count first base args wide bs c l h k p q s e =
    letter_at frame m before callee low count args c l p q (s ∙ list_given frame m before callee first base args wide bs h k) e

-- where there is no product the conjunction is its own letter
pub letter_own : (low count callee : ℕ) (c : Conjunction) → count ≡ 0 → exact_letter c ≡ marked_letter low count callee c
letter_own low count callee c h = sym (ap (λ (n : ℕ). marked_letter low n callee c) h ∙ plain_letters low callee c)

-- the parameters have columns in the callee's frame
pub frame_before : (frame : Columns) (m before callee first base : ℕ) (args : List TypedExpression) (wide : Columns) (bs : List TypedExpression) → AreAllFor frame m args wide bs → AreColumns frame args before callee first base →
    length wide ≤ base
frame_before frame m before callee first base args wide bs h k =
    let w : length wide ≡ length frame + all_product_count frame args = ap length h.columns ∙ length-widened frame m (all_product_count frame args) in
    let b = k.base_is in
    omega (arith, w, b)

pub parameters_before : {X : Type 0} (f : X → TypedExpression) (frame : Columns) (m before callee first base : ℕ) (given : List X) (wide : Columns) (made : List X) → AreAllFor frame m (map f given) wide (map f made) →
    AreColumns frame (map f given) before callee first base → before + length given ≤ callee → first + length made ≤ base
parameters_before f frame m before callee first base given wide made h k l =
    let a : length (map f made) ≡ length made = map_length f made in
    let b : length (map f given) ≡ length given = map_length f given in
    let c : length (map f made) ≡ length (map f given) = ap length h.exprs ∙ all_freed_length (fixed_in frame) m (map f given) in
    let d = k.first_is in
    let e = k.base_is in
    omega (arith, a, b, c, d, e, l)
