-- The goals that wait with the cuts that are left for each, where goals are added.
use Rattle.std.proofs.Common.{◌≡◌, ℕ, zero, suc, ◌+◌, ◌<◌, ◌≤◌, ◌^◌, List, [], ◌∷◌, ◌++◌, length, map, reverse, replicate, refl, ap, ◌∙◌, arith}
use Rattle.std.proofs.lemmas.List.{reverse-append, length-replicate, length-append, length-map, map-append}
use Rattle.lin_rows.specs.declared.systems.System.{System}
use Rattle.farkas_check.specs.declared.refutations.Node.TheVariants.{Cases}
use Rattle.farkas_check.specs.Nodes.{cases, plain, plain_nodes}
use Rattle.farkas_check.specs.Walks.{goal_at_hand, goals_left, OpensGroup}
use Rattle.farkas_check.specs.Refutes.{Goal, goal_with_member}
use Rattle.int_decide.specs.declared.search.Search.{Search}
use Rattle.int_decide.specs.Sizes.{total, extent}
use Rattle.int_decide.specs.Ties.Searching.{Task, tasks, IsPaired, opened, goal_extent, Opens}

-- ---- numbers

few_members : (members : List System) → length members ≤ total (λ m. suc (extent m)) members
few_members [] = omega arith
few_members (m ∷ ms) = let l : length ms ≤ total (λ s. suc (extent s)) ms = few_members ms in omega arith

-- a goal's group has no more members than the goal's extent
pub count_fits : (g : Goal) (left new : List Goal) (n : ℕ) → OpensGroup g left n new → goal_extent g < 2 ^ 32 → n < 2 ^ 32
count_fits g left new n o h =
    let a : total (λ members. total (λ m. suc (extent m)) members) g.groups ≡ total (λ m. suc (extent m)) o.members + total (λ members. total (λ m. suc (extent m)) members) o.groups =
    ap (total (λ members. total (λ m. suc (extent m)) members)) o.taken in
    let b : length o.members ≤ total (λ m. suc (extent m)) o.members = few_members o.members in
    let e : n ≡ length o.members = o.count in
    omega arith

-- ---- lists

replicated : (n left : ℕ) → reverse (replicate n left) ≡ replicate n left
replicated zero left = refl
replicated (suc n) left =
    reverse-append (left ∷ []) (replicate n left) ∙ ap (λ (l : List ℕ). l ++ left ∷ []) (replicated n left) ∙ turned n
  where
    turned : (k : ℕ) → replicate k left ++ left ∷ [] ≡ left ∷ replicate k left
    turned zero = refl
    turned (suc k) = ap (λ (l : List ℕ). left ∷ l) (turned k)

tasks_of_group : (left : ℕ) (g : Goal) (members : List System) (groups : List (List System)) (ls : List ℕ) (gs : List Goal) →
    tasks (replicate (length members) left ++ ls) (map (goal_with_member (record { rows = g.rows; groups = groups })) members ++ gs) ≡
    opened (record { left = left; goal = g }) members groups ++ tasks ls gs
tasks_of_group left g [] groups ls gs = refl
tasks_of_group left g (m ∷ ms) groups ls gs =
    ap (λ (ts : List Task). record { left = left; goal = goal_with_member (record { rows = g.rows; groups = groups }) m } ∷ ts) (tasks_of_group left g ms groups ls gs)

-- ---- a group is opened

pub opens_is : (left n : ℕ) (old new : Search) → OpensGroup (goal_at_hand old.walk) (goals_left old.walk) n (goals_left new.walk) →
    new.nodes.items ≡ old.nodes.items ++ Cases n ∷ [] → new.lefts.items ≡ old.lefts.items ++ replicate n left → new.gap ≡ old.gap → IsPaired old →
    Opens (record { left = left; goal = goal_at_hand old.walk }) old new
opens_is left n old new o nodes lefts gap paired =
    let g : Goal = goal_at_hand old.walk in
    let gs : List Goal = goals_left old.walk in
    let ls : List ℕ = old.lefts.items in
    let k : ℕ = length o.members in
    let a : new.lefts.items ≡ ls ++ replicate k left = lefts ∙ ap (λ (m : ℕ). ls ++ replicate m left) o.count in
    let b : reverse new.lefts.items ≡ replicate k left ++ reverse ls =
    ap reverse a ∙ reverse-append ls (replicate k left) ∙ ap (λ (l : List ℕ). l ++ reverse ls) (replicated k left) in
    let c : tasks (reverse new.lefts.items) (goals_left new.walk) ≡ opened (record { left = left; goal = g }) o.members o.groups ++ tasks (reverse ls) gs =
    (λ i. tasks (b i) (o.wait i)) ∙ tasks_of_group left g o.members o.groups (reverse ls) gs in
    let d : plain_nodes new.nodes.items ≡ plain_nodes old.nodes.items ++ cases k ∷ [] =
    ap plain_nodes nodes ∙ map-append plain old.nodes.items (Cases n ∷ []) ∙ ap (λ (m : ℕ). plain_nodes old.nodes.items ++ cases m ∷ []) o.count in
    let l : length new.lefts.items ≡ length ls + k = ap length a ∙ length-append ls (replicate k left) ∙ ap (λ (m : ℕ). length ls + m) (length-replicate k left) in
    let m : length (goals_left new.walk) ≡ k + length gs =
    ap length o.wait ∙ length-append (map (goal_with_member (record { rows = g.rows; groups = o.groups })) o.members) gs ∙
    ap (λ (x : ℕ). x + length gs) (length-map o.members (goal_with_member (record { rows = g.rows; groups = o.groups }))) in
    let p : length ls ≡ length gs = paired in
    record {
      members = o.members;
      groups = o.groups;
      taken = o.taken;
      stands = λ i. record { gap = gap i; nodes = d i; tasks = c i };
      paired = omega arith;
    }
