-- More groups than there are make no difference.
use Rattle.std.proofs.Common.{◌≡◌, ◌↔◌, ℕ, zero, suc, ◌+◌, ◌≤◌, List, [], ◌∷◌, ◌++◌, length, map, refl, sym, ap, subst, arith}
use Rattle.std.specs.List.{AllByRecursion}
use Rattle.lin_rows.specs.declared.systems.System.{System}
use Rattle.lin_rows.specs.Rows.{LinearRow}
use Rattle.lin_rows.specs.Tightening.{tightened}
use Rattle.lin_rows.specs.Systems.{rows_of, groups_of}
use Rattle.farkas_check.specs.Nodes.{cases}
use Rattle.fm_elim.proofs.Lists.{all_weaker, all_both}
use Rattle.int_decide.specs.Decisions.{Decision, all_beside, under, UnlessWhole}
use Rattle.int_decide.specs.Decide.{decide_groups, decide}
use Rattle.int_decide.specs.Sizes.{total, over_groups, group_count}
use Rattle.int_decide.specs.Numbers.{EachUntilWhole, GroupsFit}
use Rattle.int_decide.proofs.Opening.{group_count_opened}

-- ---- how many groups there are

-- the groups of two lists
pub over_groups-append : {X : Type 0} (number : X → ℕ) (gs hs : List (List X)) → over_groups number (gs ++ hs) ≡ over_groups number gs + over_groups number hs
over_groups-append number [] hs = omega arith
over_groups-append number (g ∷ gs) hs =
    let e : over_groups number (gs ++ hs) ≡ over_groups number gs + over_groups number hs = over_groups-append number gs hs in
    omega arith

-- each member's number is at most the sum
at_most_total : (number : System → ℕ) (n : ℕ) (g : List System) → total number g ≤ n → AllByRecursion (λ m. number m ≤ n) g
at_most_total number n [] h = tt
at_most_total number n (m ∷ ms) h = (omega arith, at_most_total number n ms (omega arith))

-- once the first group is taken away, a member's groups at the end
pub groups_left : (gs : List (List System)) (g : List System) (m : System) (f : ℕ) → over_groups group_count (g ∷ gs) ≤ suc f → group_count m ≤ total group_count g →
    over_groups group_count (gs ++ groups_of m) ≤ f
groups_left gs g m f h l =
    let e : over_groups group_count (gs ++ groups_of m) ≡ over_groups group_count gs + over_groups group_count (groups_of m) = over_groups-append group_count gs (groups_of m) in
    let o : group_count m ≡ over_groups group_count (groups_of m) = group_count_opened m in
    omega arith

-- for each member
pub left_for_each : (gs : List (List System)) (g : List System) (f : ℕ) → over_groups group_count (g ∷ gs) ≤ suc f →
    AllByRecursion (λ m. over_groups group_count (gs ++ groups_of m) ≤ f) g
left_for_each gs g f h =
    all_weaker (λ m. group_count m ≤ total group_count g) (λ m. over_groups group_count (gs ++ groups_of m) ≤ f) g
    (λ m l. groups_left gs g m f h l) (at_most_total group_count (total group_count g) g (omega arith))

-- ---- members with the same decisions and numbers

pub map_same : {X Y : Type 0} (a b : X → Y) (R : X → Type 0) (xs : List X) → ((x : X) → R x → a x ≡ b x) → AllByRecursion R xs → map a xs ≡ map b xs
map_same a b R [] f h = refl
map_same a b R (x ∷ xs) f h = λ i. f x h.0 i ∷ map_same a b R xs f h.1 i

pub each_same : {X : Type 0} (a b : X → Decision) (P Q R : X → Type 0) (xs : List X) → ((x : X) → R x → a x ≡ b x) → ((x : X) → R x → P x ≡ Q x) →
    AllByRecursion R xs → EachUntilWhole a P xs ≡ EachUntilWhole b Q xs
each_same a b P Q R [] f g h = refl
each_same a b P Q R (x ∷ xs) f g h = λ i. g x h.0 i × UnlessWhole (f x h.0 i) (each_same a b P Q R xs f g h.1 i)

-- ---- the law

-- both numbers of groups are enough for a member
abbrev FitsBoth : ℕ → ℕ → List (List System) → System → Type 0
FitsBoth f e gs m = (over_groups group_count (gs ++ groups_of m) ≤ f) × (over_groups group_count (gs ++ groups_of m) ≤ e)

both_for_each : (f e : ℕ) (g : List System) (gs : List (List System)) → over_groups group_count (g ∷ gs) ≤ suc f → over_groups group_count (g ∷ gs) ≤ suc e →
    AllByRecursion (FitsBoth f e gs) g
both_for_each f e g gs h k =
    all_both (λ m. over_groups group_count (gs ++ groups_of m) ≤ f) (λ m. over_groups group_count (gs ++ groups_of m) ≤ e) g (left_for_each gs g f h) (left_for_each gs g e k)

-- two numbers of groups, both enough, give the same decision
pub same_decision : (f e n d : ℕ) (rows : List LinearRow) (groups : List (List System)) → over_groups group_count groups ≤ f → over_groups group_count groups ≤ e →
    decide_groups f n d rows groups ≡ decide_groups e n d rows groups
same_decision zero zero n d rows [] h k = refl
same_decision zero (suc e) n d rows [] h k = refl
same_decision (suc f) zero n d rows [] h k = refl
same_decision (suc f) (suc e) n d rows [] h k = refl
same_decision zero e n d rows (g ∷ gs) h k = absurd (omega arith)
same_decision (suc f) zero n d rows (g ∷ gs) h k = absurd (omega arith)
same_decision (suc f) (suc e) n d rows (g ∷ gs) h k =
    let a : System → Decision = λ m. decide_groups f n d (rows ++ map tightened (rows_of m)) (gs ++ groups_of m) in
    let b : System → Decision = λ m. decide_groups e n d (rows ++ map tightened (rows_of m)) (gs ++ groups_of m) in
    ap (λ (ds : List Decision). under (cases (length g)) (all_beside ds))
    (map_same a b (FitsBoth f e gs) g (λ m i. same_decision f e n d (rows ++ map tightened (rows_of m)) (gs ++ groups_of m) i.0 i.1) (both_for_each f e g gs h k))

-- and the same numbers
pub same_numbers : (f e n d : ℕ) (rows : List LinearRow) (groups : List (List System)) → over_groups group_count groups ≤ f → over_groups group_count groups ≤ e →
    GroupsFit f n d rows groups ≡ GroupsFit e n d rows groups
same_numbers zero zero n d rows [] h k = refl
same_numbers zero (suc e) n d rows [] h k = refl
same_numbers (suc f) zero n d rows [] h k = refl
same_numbers (suc f) (suc e) n d rows [] h k = refl
same_numbers zero e n d rows (g ∷ gs) h k = absurd (omega arith)
same_numbers (suc f) zero n d rows (g ∷ gs) h k = absurd (omega arith)
same_numbers (suc f) (suc e) n d rows (g ∷ gs) h k =
    each_same (λ m. decide_groups f n d (rows ++ map tightened (rows_of m)) (gs ++ groups_of m))
    (λ m. decide_groups e n d (rows ++ map tightened (rows_of m)) (gs ++ groups_of m))
    (λ m. GroupsFit f n d (rows ++ map tightened (rows_of m)) (gs ++ groups_of m))
    (λ m. GroupsFit e n d (rows ++ map tightened (rows_of m)) (gs ++ groups_of m))
    (FitsBoth f e gs) g
    (λ m i. same_decision f e n d (rows ++ map tightened (rows_of m)) (gs ++ groups_of m) i.0 i.1)
    (λ m i. same_numbers f e n d (rows ++ map tightened (rows_of m)) (gs ++ groups_of m) i.0 i.1)
    (both_for_each f e g gs h k)

size_at_most : (f : ℕ) (s : System) → group_count s ≤ f → over_groups group_count (groups_of s) ≤ f
size_at_most f s h = let o : group_count s ≡ over_groups group_count (groups_of s) = group_count_opened s in omega arith

-- More groups than a system has make no difference to the decision.
pub enough_decision : (f n d : ℕ) (s : System) → group_count s ≤ f → decide_groups f n d (map tightened (rows_of s)) (groups_of s) ≡ decide n d s
enough_decision f n d s h =
    same_decision f (group_count s) n d (map tightened (rows_of s)) (groups_of s) (size_at_most f s h) (size_at_most (group_count s) s (omega arith))

-- nor to its numbers
pub enough_numbers : (f n d : ℕ) (s : System) → group_count s ≤ f →
    GroupsFit f n d (map tightened (rows_of s)) (groups_of s) ↔ GroupsFit (group_count s) n d (map tightened (rows_of s)) (groups_of s)
enough_numbers f n d s h =
    let e : GroupsFit f n d (map tightened (rows_of s)) (groups_of s) ≡ GroupsFit (group_count s) n d (map tightened (rows_of s)) (groups_of s) =
    same_numbers f (group_count s) n d (map tightened (rows_of s)) (groups_of s) (size_at_most f s h) (size_at_most (group_count s) s (omega arith)) in
    (λ x. subst (λ (T : Type 0). T) e x, λ x. subst (λ (T : Type 0). T) (sym e) x)
