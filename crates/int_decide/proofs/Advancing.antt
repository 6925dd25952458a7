-- What one step does to the search: what is decided, the numbers, what is refuted, and which points meet it stay the same.
use Rattle.std.proofs.Common.{◌≡◌, ◌↔◌, ℕ, zero, suc, ◌+◌, ◌<◌, ◌≤◌, ◌^◌, Bool, true, false, ℤ, List, [], ◌∷◌, ◌++◌, Option, None, Some, length, map, append_assoc, refl, sym, ap, ◌∙◌, subst, arith, inl, inr, ◌⊎◌}
use Rattle.std.specs.List.{AllByRecursion}
use Rattle.std.proofs.lemmas.List.{length-map, length-append}
use Rattle.math_facts.specs.Terms.{IsBelow}
use Rattle.frac.specs.Fractions.{Fraction}
use Rattle.lin_rows.specs.declared.systems.System.{System}
use Rattle.lin_rows.specs.Rows.{LinearRow, Holds, RowsBelow}
use Rattle.lin_rows.specs.Tightening.{tightened}
use Rattle.lin_rows.specs.Systems.{SomeMember, EachHasMember, Meets, rows_of, groups_of}
use Rattle.lin_rows.proofs.SystemLaws.{meets_close}
use Rattle.farkas_check.specs.Nodes.{PlainNode, leaf, cut, cases}
use Rattle.farkas_check.specs.Refutes.{Goal, at_most, above, with_row, goal_with_member, goal_of, Refute}
use Rattle.fm_elim.specs.Elimination as outcome
use Rattle.fm_elim.specs.Worth.{Combines, IsWorth}
use Rattle.fm_elim.proofs.Lists.{all_append, all_parts, all_map}
use Rattle.fm_elim.proofs.Inputs.{IsBelow-tightened}
use Rattle.int_decide.specs.Decisions.{Decision, refuted, whole, gap, beside, all_beside, under, UnlessWhole}
use Rattle.int_decide.specs.Decide.{first_broken, decide_rows, decide_groups}
use Rattle.fm_elim.specs.Quotients.{floor}
use Rattle.int_decide.specs.Numbers.{EachUntilWhole, RowsFit, GroupsFit, LeavesFit}
use Rattle.int_decide.specs.Sizes.{total, over_groups, group_count, extent, AllMembers, SystemBelow}
use Rattle.int_decide.specs.Ties.Searching.{Task, Standing, opened, sides, after_broken, after_values, after_outcome, after_cases, after_groups, values_if, whole_outcome, whole_groups, StaysTight, IsReady, found_by, decide_task, TaskFits, goals_of, SomeMet, IsSound, steps_left}
use Rattle.int_decide.proofs.DecisionLaws.{nothing_beside, beside_assoc, under_beside, all_beside-map-append, UnlessWhole-beside, UnlessWhole-under, UnlessWhole-both, EachUntilWhole-append}
use Rattle.int_decide.proofs.Enough.{map_same, each_same, left_for_each, same_decision, same_numbers}
use Rattle.int_decide.proofs.Opening.{extent_opened, SystemBelow_open}
use Rattle.int_decide.proofs.Tight.{hold_untightened}
use Rattle.int_decide.proofs.Worths.{each_parts, members_append}
use Rattle.int_decide.proofs.TightRows.{tightened_stay, at_most_stays, above_stays, tight_stay}
use Rattle.int_decide.proofs.Points.{broken_below}
use Rattle.int_decide.proofs.RowsDecided.{rows_refuted, rows_at, BrokenFits, rows_fit, rows_fit_cut, cut_fits}
use Rattle.int_decide.proofs.StepsLeft.{cut_count_positive, steps-opened, total-append}

-- the decisions of the goals that wait, and their numbers
abbrev pub all_decided : ℕ → List Task → Decision
all_decided n ts = all_beside (map (decide_task n) ts)

abbrev pub AllFit : ℕ → List Task → Type 0
AllFit n ts = EachUntilWhole (decide_task n) (TaskFits n) ts

abbrev pub task : ℕ → List LinearRow → List (List System) → Task
task left rows groups = record { left = left; goal = record { rows = rows; groups = groups } }

-- One step from the standing with the task at hand to the new one.
pub record Advances (n : ℕ) (t : Task) (old new : Standing) : Type 0 where
  pub value : beside (found_by old.gap old.nodes) (beside (decide_task n t) (all_decided n old.tasks)) ≡ beside (found_by new.gap new.nodes) (all_decided n new.tasks)
  pub fits : (TaskFits n t × UnlessWhole (decide_task n t) (AllFit n old.tasks)) ↔ AllFit n new.tasks
  pub ready : AllByRecursion (IsReady n) old.tasks → AllByRecursion (IsReady n) new.tasks
  pub sound : (s : System) → IsSound s old.gap old.nodes (t.goal ∷ goals_of old.tasks) → IsSound s new.gap new.nodes (goals_of new.tasks)
  pub met : (point : ℕ → ℤ) → SomeMet point new.tasks → SomeMet point (t ∷ old.tasks)
  pub fewer : steps_left new.tasks < steps_left (t ∷ old.tasks)

-- ---- what is common to the steps

-- a node is found
found_node : (g : Bool) (ns : List PlainNode) (n : PlainNode) → beside (found_by g ns) (refuted (n ∷ [])) ≡ found_by g (ns ++ n ∷ [])
found_node true ns n = refl
found_node false ns n = refl

found_under : (g : Bool) (ns : List PlainNode) (n : PlainNode) (a b : Decision) →
    beside (found_by g ns) (beside (under n a) b) ≡ beside (found_by g (ns ++ n ∷ [])) (beside a b)
found_under g ns n a b =
    ap (λ (d : Decision). beside (found_by g ns) (beside d b)) (under_beside n a) ∙
    ap (beside (found_by g ns)) (beside_assoc (refuted (n ∷ [])) a b) ∙
    sym (beside_assoc (found_by g ns) (refuted (n ∷ [])) (beside a b)) ∙
    ap (λ (d : Decision). beside d (beside a b)) (found_node g ns n)

found_gap : (g : Bool) (ns : List PlainNode) (b : Decision) → beside (found_by g ns) (beside gap b) ≡ beside gap b
found_gap true ns (refuted ms) = refl
found_gap true ns (whole x) = refl
found_gap true ns gap = refl
found_gap false ns (refuted ms) = refl
found_gap false ns (whole x) = refl
found_gap false ns gap = refl

-- where a decision is known
unless_is : (a b : Decision) (P : Type 0) → a ≡ b → UnlessWhole a P → UnlessWhole b P
unless_is a b P e h = subst (λ (d : Decision). UnlessWhole d P) e h

push_node : (s : System) (g : Bool) (nodes : List PlainNode) (n : PlainNode) (old new : List Goal) →
    ((ns : List PlainNode) → (LeavesFit ns new → Refute ns new) → LeavesFit (n ∷ ns) old → Refute (n ∷ ns) old) →
    IsSound s g nodes old → IsSound s g (nodes ++ n ∷ []) new
push_node s true nodes n old new r h = tt
push_node s false nodes n old new r h = λ ns f l.
    let a : (nodes ++ n ∷ []) ++ ns ≡ nodes ++ n ∷ ns = append_assoc nodes (n ∷ []) ns in
    subst (λ (ms : List PlainNode). Refute ms (goal_of s ∷ [])) (sym a)
    (h (n ∷ ns) (r ns f) (subst (λ (ms : List PlainNode). LeavesFit ms (goal_of s ∷ [])) a l))

-- ---- a leaf

leaf_contradicts : (rows : List LinearRow) (parts : List (ℕ × ℤ)) (gs : List Goal) → Combines rows parts → (ns : List PlainNode) →
    (LeavesFit ns gs → Refute ns gs) → LeavesFit (leaf parts ∷ ns) (record { rows = rows; groups = [] } ∷ gs) → Refute (leaf parts ∷ ns) (record { rows = rows; groups = [] } ∷ gs)
leaf_contradicts rows parts gs c ns f h = (
  record {
    ascends = c.ascends;
    each = c.each;
    multipliers_fit = h.0.multipliers_fit;
    columns_fit = h.0.columns_fit;
    bound_fits = h.0.bound_fits;
    columns_vanish = c.columns_vanish;
    bound_negative = c.bound_negative;
  },
  f h.1,
)

advance_leaf : (n left : ℕ) (rows : List LinearRow) (s : Standing) (parts : List (ℕ × ℤ)) → outcome.elimination n rows ≡ outcome.refuted parts → outcome.EliminationFits n rows →
    Combines rows parts → Advances n (task left rows []) s (after_outcome (task left rows []) s (outcome.refuted parts))
advance_leaf n left rows s parts e f c =
    let q : decide_rows n left rows ≡ refuted (leaf parts ∷ []) = rows_refuted n left rows parts e in
    let rest : Decision = all_decided n s.tasks in
    record {
      value =
          ap (λ (d : Decision). beside (found_by s.gap s.nodes) (beside d rest)) q ∙ found_under s.gap s.nodes (leaf parts) (refuted []) rest ∙
          ap (beside (found_by s.gap (s.nodes ++ leaf parts ∷ []))) (nothing_beside rest);
      fits = (
        λ h. unless_is (decide_rows n left rows) (refuted (leaf parts ∷ [])) (AllFit n s.tasks) q h.1,
        λ h. (rows_fit n left rows (outcome.refuted parts) e f tt, unless_is (refuted (leaf parts ∷ [])) (decide_rows n left rows) (AllFit n s.tasks) (sym q) h),
      );
      ready = λ h. h;
      sound = λ sys. push_node sys s.gap s.nodes (leaf parts) (record { rows = rows; groups = [] } ∷ goals_of s.tasks) (goals_of s.tasks)
          (leaf_contradicts rows parts (goals_of s.tasks) c);
      met = λ point h. inr h;
      fewer = let l : 0 < _ = cut_count_positive left in omega arith;
    }

-- ---- a gap

advance_gap : (n : ℕ) (rows : List LinearRow) (s : Standing) (values : List Fraction) (x : ℕ × Fraction) → outcome.elimination n rows ≡ outcome.point values → first_broken 0 values ≡ Some x →
    outcome.EliminationFits n rows → Advances n (task zero rows []) s (after_broken zero (record { rows = rows; groups = [] }) s x.0 (floor x.1))
advance_gap n rows s values x e b f =
    let q : decide_rows n zero rows ≡ gap = rows_at n zero rows values (Some x) e b in
    let rest : Decision = all_decided n s.tasks in
    record {
      value = ap (λ (d : Decision). beside (found_by s.gap s.nodes) (beside d rest)) q ∙ found_gap s.gap s.nodes rest;
      fits = (
        λ h. unless_is (decide_rows n zero rows) gap (AllFit n s.tasks) q h.1,
        λ h. (f, unless_is gap (decide_rows n zero rows) (AllFit n s.tasks) (sym q) h),
      );
      ready = λ h. h;
      sound = λ sys h. tt;
      met = λ point h. inr h;
      fewer = omega arith;
    }

-- ---- a cut

side_ready : (n left : ℕ) (rows : List LinearRow) (r : LinearRow) → IsReady n (task (suc left) rows []) → IsBelow n r.terms → StaysTight r → IsReady n (task left (rows ++ r ∷ []) [])
side_ready n left rows r h b t =
    let a : length (rows ++ r ∷ []) ≡ length rows + 1 = length-append rows (r ∷ []) in
    let l : (length rows + 0) + suc left < 2 ^ 32 = h.numbered in
    record {
      below = all_append (λ q. IsBelow n q.terms) rows (r ∷ []) h.below (b, tt);
      groups_below = tt;
      tight = all_append StaysTight rows (r ∷ []) h.tight (t, tt);
      numbered = omega arith;
    }

advance_cut : (n left : ℕ) (rows : List LinearRow) (s : Standing) (values : List Fraction) (x : ℕ × Fraction) → outcome.elimination n rows ≡ outcome.point values → first_broken 0 values ≡ Some x →
    outcome.EliminationFits n rows → x.0 < n → IsReady n (task (suc left) rows []) →
    Advances n (task (suc left) rows []) s (after_broken (suc left) (record { rows = rows; groups = [] }) s x.0 (floor x.1))
advance_cut n left rows s values x e b f l r =
    let c : ℕ = x.0 in
    let k : ℤ = floor x.1 in
    let first : Decision = decide_rows n left (rows ++ at_most c k ∷ []) in
    let second : Decision = decide_rows n left (rows ++ above c k ∷ []) in
    let q : decide_rows n (suc left) rows ≡ under (cut c k) (beside first second) = rows_at n (suc left) rows values (Some x) e b in
    let rest : Decision = all_decided n s.tasks in
    let Rest : Type 0 = AllFit n s.tasks in
    let Second : Type 0 = RowsFit n left (rows ++ above c k ∷ []) in
    let u = UnlessWhole-under (cut c k) (beside first second) Rest in
    let v = UnlessWhole-beside first second Rest in
    let w = UnlessWhole-both first Second (UnlessWhole second Rest) in
    let g : Goal = record { rows = rows; groups = [] } in
    record {
      value =
          ap (λ (d : Decision). beside (found_by s.gap s.nodes) (beside d rest)) q ∙ found_under s.gap s.nodes (cut c k) (beside first second) rest ∙
          ap (beside (found_by s.gap (s.nodes ++ cut c k ∷ []))) (beside_assoc first second rest);
      fits = (
        λ h.
            let both : BrokenFits n (suc left) rows c k = rows_fit_cut n left rows values x e b h.0 in
            (both.0, w.1 (both.1, v.0 (u.0 (unless_is (decide_rows n (suc left) rows) (under (cut c k) (beside first second)) Rest q h.1)))),
        λ h.
            let parts = w.0 h.1 in (
              cut_fits n (suc left) rows values (Some x) e b f (h.0, parts.0),
              unless_is (under (cut c k) (beside first second)) (decide_rows n (suc left) rows) Rest (sym q) (u.1 (v.1 parts.1)),
            ),
      );
      ready = λ h. (side_ready n left rows (at_most c k) r (l, tt) (at_most_stays c k), (side_ready n left rows (above c k) r (l, tt) (above_stays c k), h));
      sound = λ sys. push_node sys s.gap s.nodes (cut c k) (g ∷ goals_of s.tasks) (with_row g (at_most c k) ∷ with_row g (above c k) ∷ goals_of s.tasks)
          (λ ns m h. (h.0, h.1, m h.2));
      met = λ point. cut_met point;
      fewer = omega arith;
    }
  where
    cut_met : (point : ℕ → ℤ) → SomeMet point (sides left (record { rows = rows; groups = [] }) x.0 (floor x.1) ++ s.tasks) → SomeMet point (task (suc left) rows [] ∷ s.tasks)
    cut_met point (inl h) = inl ((all_parts (Holds point) rows (at_most x.0 (floor x.1) ∷ []) h.0).0, h.1)
    cut_met point (inr (inl h)) = inl ((all_parts (Holds point) rows (above x.0 (floor x.1) ∷ []) h.0).0, h.1)
    cut_met point (inr (inr h)) = inr h

-- ---- cases

-- members of the first group, with what the goal has else
members_ready : (n left k : ℕ) (rows : List LinearRow) (groups : List (List System)) (members : List System) (ts : List Task) →
    RowsBelow n rows → AllByRecursion StaysTight rows → AllMembers (SystemBelow n) groups → AllByRecursion (SystemBelow n) members →
    (length rows + total (λ m. suc (extent m)) members) + total (λ ms. total (λ m. suc (extent m)) ms) groups + left < 2 ^ 32 →
    AllByRecursion (IsReady n) ts → AllByRecursion (IsReady n) (map (λ m. record { left = left; goal = goal_with_member (record { rows = rows; groups = groups }) m }) members ++ ts)
members_ready n left k rows groups [] ts b t g m l h = h
members_ready n left k rows groups (s ∷ ss) ts b t g m l h = (
  let o = SystemBelow_open n s m.0 in
      let e : extent s ≡ length (rows_of s) + total (λ ms. total (λ m. suc (extent m)) ms) (groups_of s) = extent_opened s in
      let a : length (rows ++ map tightened (rows_of s)) ≡ length rows + length (map tightened (rows_of s)) = length-append rows (map tightened (rows_of s)) in
      let c : length (map tightened (rows_of s)) ≡ length (rows_of s) = length-map (rows_of s) tightened in
      let d : total (λ ms. total (λ m. suc (extent m)) ms) (groups ++ groups_of s) ≡ total (λ ms. total (λ m. suc (extent m)) ms) groups + total (λ ms. total (λ m. suc (extent m)) ms) (groups_of s) =
      total-append (λ ms. total (λ m. suc (extent m)) ms) groups (groups_of s) in
      record {
        below = all_append (λ r. IsBelow n r.terms) rows (map tightened (rows_of s)) b
            (all_map (λ r. IsBelow n r.terms) (λ r. IsBelow n r.terms) tightened (rows_of s) (λ r i. IsBelow-tightened n r i) o.0);
        groups_below = members_append (SystemBelow n) groups (groups_of s) g o.1;
        tight = all_append StaysTight rows (map tightened (rows_of s)) t (tightened_stay (rows_of s));
        numbered = omega arith;
      },
  members_ready n left k rows groups ss ts b t g m.1 (omega arith) h,
)

goals-opened : (left : ℕ) (rows : List LinearRow) (groups : List (List System)) (members : List System) (ts : List Task) →
    goals_of (opened (task left rows (members ∷ groups)) members groups ++ ts) ≡ map (goal_with_member (record { rows = rows; groups = groups })) members ++ goals_of ts
goals-opened left rows groups members ts = by_list members
  where
    by_list : (ms : List System) →
        goals_of (map (λ m. record { left = left; goal = goal_with_member (record { rows = rows; groups = groups }) m }) ms ++ ts) ≡
        map (goal_with_member (record { rows = rows; groups = groups })) ms ++ goals_of ts
    by_list [] = refl
    by_list (m ∷ ms) = ap (λ (gs : List Goal). goal_with_member (record { rows = rows; groups = groups }) m ∷ gs) (by_list ms)

-- a point that meets a goal with a member meets the goal with the group
member_met : (point : ℕ → ℤ) (left : ℕ) (rows : List LinearRow) (groups : List (List System)) (ms : List System) (ts : List Task) →
    SomeMet point (map (λ m. record { left = left; goal = goal_with_member (record { rows = rows; groups = groups }) m }) ms ++ ts) →
    (AllByRecursion (Holds point) rows × EachHasMember (Meets point) groups × SomeMember (Meets point) ms) ⊎ SomeMet point ts
member_met point left rows groups [] ts h = inr h
member_met point left rows groups (m ∷ ms) ts (inl h) =
    let r = all_parts (Holds point) rows (map tightened (rows_of m)) h.0 in
    let g = each_parts (Meets point) groups (groups_of m) h.1 in
    inl (r.0, g.0, inl (meets_close point m (hold_untightened point (rows_of m) r.1, g.1)))
member_met point left rows groups (m ∷ ms) ts (inr h) = later (member_met point left rows groups ms ts h)
  where
    later : (AllByRecursion (Holds point) rows × EachHasMember (Meets point) groups × SomeMember (Meets point) ms) ⊎ SomeMet point ts →
        (AllByRecursion (Holds point) rows × EachHasMember (Meets point) groups × SomeMember (Meets point) (m ∷ ms)) ⊎ SomeMet point ts
    later (inl k) = inl (k.0, k.1, inr k.2)
    later (inr k) = inr k

group_met : (point : ℕ → ℤ) (left : ℕ) (rows : List LinearRow) (groups : List (List System)) (members : List System) (ts : List Task) →
    (AllByRecursion (Holds point) rows × EachHasMember (Meets point) groups × SomeMember (Meets point) members) ⊎ SomeMet point ts →
    SomeMet point (task left rows (members ∷ groups) ∷ ts)
group_met point left rows groups members ts (inl k) = inl (k.0, (k.2, k.1))
group_met point left rows groups members ts (inr k) = inr k

map-of_map : {X Y Z : Type 0} (g : Y → Z) (f : X → Y) (xs : List X) → map g (map f xs) ≡ map (λ x. g (f x)) xs
map-of_map g f [] = refl
map-of_map g f (x ∷ xs) = λ i. g (f x) ∷ map-of_map g f xs i

each-of_map : {X Y : Type 0} (decided : Y → Decision) (P : Y → Type 0) (f : X → Y) (xs : List X) →
    EachUntilWhole decided P (map f xs) ≡ EachUntilWhole (λ x. decided (f x)) (λ x. P (f x)) xs
each-of_map decided P f [] = refl
each-of_map decided P f (x ∷ xs) = λ i. P (f x) × UnlessWhole (decided (f x)) (each-of_map decided P f xs i)

-- what Decide answers of a goal with a group is that of the goals with its members
decided-opened : (n left : ℕ) (rows : List LinearRow) (groups : List (List System)) (members : List System) →
    decide_task n (task left rows (members ∷ groups)) ≡ under (cases (length members)) (all_decided n (opened (task left rows (members ∷ groups)) members groups))
decided-opened n left rows groups members =
    let f : ℕ = total group_count members + over_groups group_count groups in
    let e : over_groups group_count (members ∷ groups) ≡ suc f = omega arith in
    let l : over_groups group_count (members ∷ groups) ≤ suc f = omega arith in
    let to : System → Task = λ m. record { left = left; goal = goal_with_member (record { rows = rows; groups = groups }) m } in
    let a : System → Decision = λ m. decide_groups f n left (rows ++ map tightened (rows_of m)) (groups ++ groups_of m) in
    let b : System → Decision = λ m. decide_task n (to m) in
    ap (λ (k : ℕ). decide_groups k n left rows (members ∷ groups)) e ∙
    ap (λ (ds : List Decision). under (cases (length members)) (all_beside ds))
    (map_same a b (λ m. over_groups group_count (groups ++ groups_of m) ≤ f) members
    (λ m i. same_decision f (over_groups group_count (groups ++ groups_of m)) n left (rows ++ map tightened (rows_of m)) (groups ++ groups_of m) i (omega arith))
    (left_for_each groups members f l) ∙ sym (map-of_map (decide_task n) to members))

fits-opened : (n left : ℕ) (rows : List LinearRow) (groups : List (List System)) (members : List System) →
    TaskFits n (task left rows (members ∷ groups)) ≡ AllFit n (opened (task left rows (members ∷ groups)) members groups)
fits-opened n left rows groups members =
    let f : ℕ = total group_count members + over_groups group_count groups in
    let e : over_groups group_count (members ∷ groups) ≡ suc f = omega arith in
    let l : over_groups group_count (members ∷ groups) ≤ suc f = omega arith in
    let to : System → Task = λ m. record { left = left; goal = goal_with_member (record { rows = rows; groups = groups }) m } in
    let a : System → Decision = λ m. decide_groups f n left (rows ++ map tightened (rows_of m)) (groups ++ groups_of m) in
    let b : System → Decision = λ m. decide_task n (to m) in
    ap (λ (k : ℕ). GroupsFit k n left rows (members ∷ groups)) e ∙
    each_same a b (λ m. GroupsFit f n left (rows ++ map tightened (rows_of m)) (groups ++ groups_of m)) (λ m. TaskFits n (to m))
    (λ m. over_groups group_count (groups ++ groups_of m) ≤ f) members
    (λ m i. same_decision f (over_groups group_count (groups ++ groups_of m)) n left (rows ++ map tightened (rows_of m)) (groups ++ groups_of m) i (omega arith))
    (λ m i. same_numbers f (over_groups group_count (groups ++ groups_of m)) n left (rows ++ map tightened (rows_of m)) (groups ++ groups_of m) i (omega arith))
    (left_for_each groups members f l) ∙ sym (each-of_map (decide_task n) (TaskFits n) to members)

pub advance_cases : (n left : ℕ) (rows : List LinearRow) (s : Standing) (members : List System) (groups : List (List System)) → IsReady n (task left rows (members ∷ groups)) →
    Advances n (task left rows (members ∷ groups)) s (after_cases (task left rows (members ∷ groups)) s members groups)
advance_cases n left rows s members groups r =
    let t : Task = task left rows (members ∷ groups) in
    let new : List Task = opened t members groups in
    let inside : Decision = all_decided n new in
    let rest : Decision = all_decided n s.tasks in
    let Rest : Type 0 = AllFit n s.tasks in
    let node : PlainNode = cases (length members) in
    let one : Goal = record { rows = rows; groups = groups } in
    let q : decide_task n t ≡ under node inside = decided-opened n left rows groups members in
    let p : TaskFits n t ≡ AllFit n new = fits-opened n left rows groups members in
    let u = UnlessWhole-under node inside Rest in
    let v = EachUntilWhole-append (decide_task n) (TaskFits n) new s.tasks in
    let gs : List Goal = map (goal_with_member one) members ++ goals_of s.tasks in
    record {
      value =
          ap (λ (d : Decision). beside (found_by s.gap s.nodes) (beside d rest)) q ∙ found_under s.gap s.nodes node inside rest ∙
          ap (beside (found_by s.gap (s.nodes ++ node ∷ []))) (sym (all_beside-map-append (decide_task n) new s.tasks));
      fits = (
        λ h. v.1 (subst (λ (T : Type 0). T) p h.0, u.0 (unless_is (decide_task n t) (under node inside) Rest q h.1)),
        λ h. let k = v.0 h in (subst (λ (T : Type 0). T) (sym p) k.0, unless_is (under node inside) (decide_task n t) Rest (sym q) (u.1 k.1)),
      );
      ready = λ h. members_ready n left 0 rows groups members s.tasks r.below r.tight r.groups_below.1 r.groups_below.0 (let l = r.numbered in omega arith) h;
      sound = λ sys h.
          subst (λ (goals : List Goal). IsSound sys s.gap (s.nodes ++ node ∷ []) goals) (sym (goals-opened left rows groups members s.tasks))
          (push_node sys s.gap s.nodes node (t.goal ∷ goals_of s.tasks) gs (λ ns m l. (refl, m l)) h);
      met = λ point h. group_met point left rows groups members s.tasks (member_met point left rows groups members s.tasks h);
      fewer =
          let a = steps-opened left rows members groups in
          let b : steps_left (new ++ s.tasks) ≡ steps_left new + steps_left s.tasks = total-append _ new s.tasks in
          omega arith;
    }

-- ---- each step

values_advance : (n left : ℕ) (rows : List LinearRow) (s : Standing) (values : List Fraction) (x : Option (ℕ × Fraction)) → outcome.elimination n rows ≡ outcome.point values →
    first_broken 0 values ≡ x → values_if values x ≡ None → outcome.EliminationFits n rows → length values ≡ n → IsReady n (task left rows []) →
    Advances n (task left rows []) s (after_values (task left rows []) s x)
values_advance n left rows s values None e b w f l r = absurd (cc)
values_advance n zero rows s values (Some x) e b w f l r = advance_gap n rows s values x e b f
values_advance n (suc left) rows s values (Some x) e b w f l r =
    advance_cut n left rows s values x e b f (let k : x.0 < 0 + length values = broken_below 0 values x b in omega arith) r

rows_advance : (n left : ℕ) (rows : List LinearRow) (s : Standing) (o : outcome.EliminationOutcome) → outcome.elimination n rows ≡ o → whole_outcome o ≡ None → outcome.EliminationFits n rows →
    IsWorth n rows o → IsReady n (task left rows []) → Advances n (task left rows []) s (after_outcome (task left rows []) s o)
rows_advance n left rows s (outcome.refuted parts) e w f v r = advance_leaf n left rows s parts e f v
rows_advance n left rows s (outcome.point values) e w f v r = values_advance n left rows s values (first_broken 0 values) e refl w f v.columns r

groups_advance : (n left : ℕ) (rows : List LinearRow) (groups : List (List System)) (s : Standing) → whole_groups n rows groups ≡ None →
    (groups ≡ [] → outcome.EliminationFits n rows) → (groups ≡ [] → IsWorth n (map tightened rows) (outcome.elimination n rows)) → IsReady n (task left rows groups) →
    Advances n (task left rows groups) s (after_groups n (task left rows groups) s groups)
groups_advance n left rows [] s w f v r =
    rows_advance n left rows s (outcome.elimination n rows) refl w (f refl)
    (subst (λ (rs : List LinearRow). IsWorth n rs (outcome.elimination n rows)) (tight_stay rows r.tight) (v refl)) r
groups_advance n left rows (members ∷ groups) s w f v r = advance_cases n left rows s members groups r

-- the step at a task that gives no whole point
pub task_advances : (n : ℕ) (t : Task) (s : Standing) → whole_groups n t.goal.rows t.goal.groups ≡ None → (t.goal.groups ≡ [] → outcome.EliminationFits n t.goal.rows) →
    (t.goal.groups ≡ [] → IsWorth n (map tightened t.goal.rows) (outcome.elimination n t.goal.rows)) → IsReady n t → Advances n t s (after_groups n t s t.goal.groups)
task_advances n t s w f v r = groups_advance n t.left t.goal.rows t.goal.groups s w f v r
