-- How many steps are still to come: more groups than there are make no difference, and a group that is opened leaves fewer.
use Rattle.std.proofs.Common.{◌≡◌, ℕ, zero, suc, ◌+◌, ◌<◌, ◌≤◌, List, [], ◌∷◌, ◌++◌, map, refl, sym, ap, ◌∙◌, arith}
use Rattle.std.specs.List.{AllByRecursion}
use Rattle.lin_rows.specs.declared.systems.System.{System}
use Rattle.lin_rows.specs.Rows.{LinearRow}
use Rattle.lin_rows.specs.Systems.{groups_of}
use Rattle.farkas_check.specs.Refutes.{goal_with_member}
use Rattle.fm_elim.proofs.Lists.{all_both}
use Rattle.int_decide.specs.Sizes.{total, over_groups, group_count}
use Rattle.int_decide.specs.Ties.Searching.{Task, opened, cut_count, step_count, goal_groups, steps_left}
use Rattle.int_decide.proofs.Enough.{left_for_each}

total_same : {X : Type 0} (a b : X → ℕ) (R : X → Type 0) (xs : List X) → ((x : X) → R x → a x ≡ b x) → AllByRecursion R xs → total a xs ≡ total b xs
total_same a b R [] f h = refl
total_same a b R (x ∷ xs) f h = λ i. f x h.0 i + total_same a b R xs f h.1 i

pub total-append : {X : Type 0} (number : X → ℕ) (xs ys : List X) → total number (xs ++ ys) ≡ total number xs + total number ys
total-append number [] ys = omega arith
total-append number (x ∷ xs) ys = let e : total number (xs ++ ys) ≡ total number xs + total number ys = total-append number xs ys in omega arith

pub total-of_map : {X Y : Type 0} (number : Y → ℕ) (f : X → Y) (xs : List X) → total number (map f xs) ≡ total (λ x. number (f x)) xs
total-of_map number f [] = refl
total-of_map number f (x ∷ xs) = ap (λ (n : ℕ). number (f x) + n) (total-of_map number f xs)

-- both numbers of groups are enough for a member
abbrev EnoughBoth : ℕ → ℕ → List (List System) → System → Type 0
EnoughBoth f e gs m = (over_groups group_count (gs ++ groups_of m) ≤ f) × (over_groups group_count (gs ++ groups_of m) ≤ e)

pub same_steps : (f e d : ℕ) (groups : List (List System)) → over_groups group_count groups ≤ f → over_groups group_count groups ≤ e → step_count f d groups ≡ step_count e d groups
same_steps zero zero d [] h k = refl
same_steps zero (suc e) d [] h k = refl
same_steps (suc f) zero d [] h k = refl
same_steps (suc f) (suc e) d [] h k = refl
same_steps zero e d (g ∷ gs) h k = absurd (omega arith)
same_steps (suc f) zero d (g ∷ gs) h k = absurd (omega arith)
same_steps (suc f) (suc e) d (g ∷ gs) h k =
    ap (λ (n : ℕ). suc n) (total_same (λ m. step_count f d (gs ++ groups_of m)) (λ m. step_count e d (gs ++ groups_of m)) (EnoughBoth f e gs) g
    (λ m i. same_steps f e d (gs ++ groups_of m) i.0 i.1)
    (all_both (λ m. over_groups group_count (gs ++ groups_of m) ≤ f) (λ m. over_groups group_count (gs ++ groups_of m) ≤ e) g (left_for_each gs g f h) (left_for_each gs g e k)))

pub cut_count_positive : (d : ℕ) → 0 < cut_count d
cut_count_positive zero = omega arith
cut_count_positive (suc d) = omega arith

-- once a group is opened, one step less is left
pub steps-opened : (left : ℕ) (rows : List LinearRow) (members : List System) (groups : List (List System)) →
    step_count (over_groups group_count (members ∷ groups)) left (members ∷ groups) ≡
    suc (steps_left (opened (record { left = left; goal = record { rows = rows; groups = members ∷ groups } }) members groups))
steps-opened left rows members groups =
    let f : ℕ = total group_count members + over_groups group_count groups in
    let e : over_groups group_count (members ∷ groups) ≡ suc f = omega arith in
    let l : over_groups group_count (members ∷ groups) ≤ suc f = omega arith in
    let to : System → Task = λ m. record { left = left; goal = goal_with_member (record { rows = rows; groups = groups }) m } in
    let s : total (λ m. step_count f left (groups ++ groups_of m)) members ≡ total (λ m. step_count (over_groups group_count (groups ++ groups_of m)) left (groups ++ groups_of m)) members =
    total_same (λ m. step_count f left (groups ++ groups_of m)) (λ m. step_count (over_groups group_count (groups ++ groups_of m)) left (groups ++ groups_of m))
    (λ m. over_groups group_count (groups ++ groups_of m) ≤ f) members
    (λ m i. same_steps f (over_groups group_count (groups ++ groups_of m)) left (groups ++ groups_of m) i (omega arith))
    (left_for_each groups members f l) in
    ap (λ (k : ℕ). step_count k left (members ∷ groups)) e ∙ ap (λ (k : ℕ). suc k) (s ∙ sym (total-of_map (λ (t : Task). step_count (goal_groups t.goal) t.left t.goal.groups) to members))
