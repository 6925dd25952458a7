-- The innermost block is the last of the code's list.
use Rattle.std.proofs.Common.{◌≡◌, ℕ, zero, suc, ◌-◌, List, [], ◌∷◌, ◌++◌, length, length-append, map, refl, ap, sym, subst, arith, Some}
use Rattle.std.specs.Prelude.{slice_get, slice_set, MatchOption}
use Rattle.std.proofs.lemmas.List.{reverse-append}
use Rattle.boogie_run.specs.declared.boogie_points.blocks.Todo.{Todo}
use Rattle.boogie_run.specs.BoogiePoints.Points.{Exit, Body}
use Rattle.boogie_run.specs.BoogiePoints.Stacks.{with_top, over_top, without_top, standing}
use Rattle.boogie_run.specs.BoogiePoints.View.{todo_of, stack_of}

pub stack_none : stack_of [] ≡ []
unfolding stack_of
stack_none = refl

pub stack_push : (xs : List Todo) (y : Todo) → stack_of (xs ++ y ∷ []) ≡ todo_of y ∷ stack_of xs
unfolding stack_of
stack_push xs y = ap (map todo_of) (reverse-append xs (y ∷ []))

-- a list that is not empty ends with an item
ends : (x : Todo) (xs : List Todo) → (ys : List Todo) × (y : Todo) × (x ∷ xs ≡ ys ++ y ∷ [])
ends x [] = ([], x, refl)
ends x (z ∷ zs) = let r = ends z zs in (x ∷ r.0, r.1, ap (λ (l : List Todo). x ∷ l) r.2)

get_end : (ys : List Todo) (y : Todo) (n : ℕ) → n ≡ length ys → slice_get (ys ++ y ∷ []) n ≡ Some y
get_end [] y zero e = refl
get_end [] y (suc n) e = absurd (omega arith)
get_end (z ∷ ys) y zero e = absurd (omega arith)
get_end (z ∷ ys) y (suc n) e = get_end ys y n (omega arith)

set_end : (ys : List Todo) (y x : Todo) (n : ℕ) → n ≡ length ys → slice_set (ys ++ y ∷ []) n x ≡ ys ++ x ∷ []
set_end [] y x zero e = refl
set_end [] y x (suc n) e = absurd (omega arith)
set_end (z ∷ ys) y x zero e = absurd (omega arith)
set_end (z ∷ ys) y x (suc n) e = ap (λ (l : List Todo). z ∷ l) (set_end ys y x n (omega arith))

-- the item before a last one
set_below : (ys : List Todo) (y x i : Todo) (n : ℕ) → n ≡ length ys → slice_set ((ys ++ y ∷ []) ++ i ∷ []) n x ≡ (ys ++ x ∷ []) ++ i ∷ []
set_below [] y x i zero e = refl
set_below [] y x i (suc n) e = absurd (omega arith)
set_below (z ∷ ys) y x i zero e = absurd (omega arith)
set_below (z ∷ ys) y x i (suc n) e = ap (λ (l : List Todo). z ∷ l) (set_below ys y x i n (omega arith))

top_end : (ys : List Todo) (y : Todo) (n : ℕ) → n ≡ length ys → MatchOption (slice_get (ys ++ y ∷ []) n) (stack_of (ys ++ y ∷ []) ≡ []) (λ t. stack_of (ys ++ y ∷ []) ≡ todo_of t ∷ without_top (stack_of (ys ++ y ∷ [])))
top_end ys y n e = rw (get_end ys y n e, stack_push ys y) refl

-- the innermost block is the last one
pub stack_top : (xs : List Todo) (n : ℕ) → n ≡ length xs - 1 →
    MatchOption (slice_get xs n) (stack_of xs ≡ []) (λ t. stack_of xs ≡ todo_of t ∷ without_top (stack_of xs))
stack_top [] n e = stack_none
stack_top (x ∷ xs) n e =
    let r = ends x xs in
    let count : length (x ∷ xs) ≡ length (r.0 ++ r.1 ∷ []) = ap length r.2 in
    subst (λ (l : List Todo). MatchOption (slice_get l n) (stack_of l ≡ []) (λ t. stack_of l ≡ todo_of t ∷ without_top (stack_of l))) (sym r.2)
    (top_end r.0 r.1 n (omega (arith, count, length-append r.0 (r.1 ∷ []))))

pub stack_put : (xs : List Todo) (y : Todo) (n : ℕ) → n ≡ length xs - 1 → stack_of (slice_set xs n y) ≡ with_top (todo_of y) (stack_of xs)
stack_put [] y n e = rw stack_none refl
stack_put (x ∷ xs) y n e =
    let r = ends x xs in
    let count : length (x ∷ xs) ≡ length (r.0 ++ r.1 ∷ []) = ap length r.2 in
    let at : n ≡ length r.0 = omega (arith, count, length-append r.0 (r.1 ∷ [])) in
    subst (λ (l : List Todo). stack_of (slice_set l n y) ≡ with_top (todo_of y) (stack_of l)) (sym r.2)
    (rw (set_end r.0 r.1 y n at, stack_push r.0 y, stack_push r.0 r.1) refl)

pub stack_over : (xs : List Todo) (i y : Todo) (n : ℕ) → n ≡ length xs - 1 → (length xs ≡ 0 → ⊥) →
    stack_of (slice_set (xs ++ i ∷ []) n y) ≡ over_top (todo_of i) (todo_of y) (stack_of xs)
stack_over [] i y n e h = absurd (h refl)
stack_over (x ∷ xs) i y n e h =
    let r = ends x xs in
    let count : length (x ∷ xs) ≡ length (r.0 ++ r.1 ∷ []) = ap length r.2 in
    let at : n ≡ length r.0 = omega (arith, count, length-append r.0 (r.1 ∷ [])) in
    subst (λ (l : List Todo). stack_of (slice_set (l ++ i ∷ []) n y) ≡ over_top (todo_of i) (todo_of y) (stack_of l)) (sym r.2)
    (rw (set_below r.0 r.1 y i n at, stack_push (r.0 ++ y ∷ []) i, stack_push r.0 y, stack_push r.0 r.1) refl)

pub no_items : (xs : List Todo) → length xs ≡ 0 → xs ≡ []
no_items [] e = refl
no_items (x ∷ xs) e = absurd (omega arith)

pub ruleset stacking = (stack_none, stack_push)

pub standing_exit : (xs : List Todo) → length xs ≡ 0 → standing (stack_of xs) ≡ record { stage = Exit; todo = stack_of xs; part = 0 }
standing_exit [] e = rw stack_none refl
standing_exit (x ∷ xs) e = absurd (omega arith)

pub standing_body : (xs : List Todo) → (length xs ≡ 0 → ⊥) → standing (stack_of xs) ≡ record { stage = Body; todo = stack_of xs; part = 0 }
standing_body [] h = absurd (h refl)
standing_body (x ∷ xs) h =
    let r = ends x xs in
    subst (λ (l : List Todo). standing (stack_of l) ≡ record { stage = Body; todo = stack_of l; part = 0 }) (sym r.2) (rw (stack_push r.0 r.1) refl)
