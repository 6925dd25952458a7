-- How far the search has come: at its start, after each step, and at its end.
use Rattle.std.proofs.Common.{◌≡◌, ℕ, suc, ◌+◌, ◌<◌, ◌^◌, Bool, true, false, ℤ, List, [], ◌∷◌, Option, None, Some, length, map, refl, sym, ap, ◌∙◌, subst, arith, inl, inr}
use Rattle.std.specs.List.{AllByRecursion}
use Rattle.std.proofs.lemmas.List.{length-map, append-nil}
use Rattle.math_facts.specs.Terms.{IsBelow}
use Rattle.frac.specs.Fractions.{Fraction}
use Rattle.lin_rows.specs.declared.systems.System.{System}
use Rattle.lin_rows.specs.Rows.{LinearRow, Holds}
use Rattle.lin_rows.specs.Tightening.{tightened}
use Rattle.lin_rows.specs.Systems.{EachHasMember, Meets, rows_of, groups_of}
use Rattle.lin_rows.proofs.SystemLaws.{meets_close}
use Rattle.lin_rows.specs.Points.{point_of}
use Rattle.farkas_check.specs.Nodes.{PlainNode, plain_nodes}
use Rattle.farkas_check.specs.Refutes.{goal_of, Refutes}
use Rattle.fm_elim.specs.Elimination as outcome
use Rattle.fm_elim.proofs.Lists.{all_map}
use Rattle.fm_elim.proofs.Inputs.{IsBelow-tightened}
use Rattle.int_decide.specs.declared.search.Search.{Search}
use Rattle.int_decide.specs.Decisions.{Decision, refuted, whole, gap, beside, UnlessWhole}
use Rattle.int_decide.specs.Decide.{first_broken, decide_groups, decide}
use Rattle.int_decide.specs.Numbers.{GroupsFit, LeavesFit}
use Rattle.int_decide.specs.Sizes.{total, over_groups, group_count, extent, SystemBelow}
use Rattle.int_decide.specs.Ties.Searching.{Task, Standing, standing_of, values_if, whole_outcome, whole_groups, StepFits, Goes, IsMet, Takes, TakesNone, IsReady, found_by, decide_task, TaskFits, EliminationsFit, SomeMet, IsSound, HasCome, steps_left, IsClosed, IsPoint}
use Rattle.int_decide.proofs.DecisionLaws.{nothing_beside, beside_nothing}
use Rattle.int_decide.proofs.Opening.{group_count_opened, extent_opened, SystemBelow_open}
use Rattle.int_decide.proofs.Tight.{hold_untightened}
use Rattle.int_decide.proofs.TightRows.{tightened_stay, tight_stay}
use Rattle.int_decide.proofs.Refuting.{tree_is_counted}
use Rattle.int_decide.proofs.FewCuts.{decided_is_tree}
use Rattle.int_decide.proofs.RowsDecided.{rows_at, rows_fit_elimination, cut_fits}
use Rattle.int_decide.proofs.Advancing.{Advances, task, task_advances, all_decided, AllFit}

-- ---- the start

always_unless : (d : Decision) → UnlessWhole d (Unit {0})
always_unless (refuted ns) = tt
always_unless (whole x) = tt
always_unless gap = tt

abbrev pub start : ℕ → System → Standing
start d s = record { gap = false; nodes = []; tasks = record { left = d; goal = goal_of s } ∷ [] }

start_ready : (n d : ℕ) (s : System) → SystemBelow n s → extent s + d < 2 ^ 32 → IsReady n (record { left = d; goal = goal_of s })
start_ready n d s b h =
    let o = SystemBelow_open n s b in
    let e : extent s ≡ length (rows_of s) + total (λ members. total (λ m. suc (extent m)) members) (groups_of s) = extent_opened s in
    let c : length (map tightened (rows_of s)) ≡ length (rows_of s) = length-map (rows_of s) tightened in
    record {
      below = all_map (λ r. IsBelow n r.terms) (λ r. IsBelow n r.terms) tightened (rows_of s) (λ r i. IsBelow-tightened n r i) o.0;
      groups_below = o.1;
      tight = tightened_stay (rows_of s);
      numbered = omega arith;
    }

pub come_start : (n d : ℕ) (s : System) → SystemBelow n s → extent s + d < 2 ^ 32 → HasCome n d s (start d s)
come_start n d s b h =
    let rows : List LinearRow = map tightened (rows_of s) in
    let t : Task = record { left = d; goal = goal_of s } in
    let o : group_count s ≡ over_groups group_count (groups_of s) = group_count_opened s in
    let p : decide n d s ≡ decide_task n t = ap (λ (f : ℕ). decide_groups f n d rows (groups_of s)) o in
    let q : EliminationsFit n d s ≡ TaskFits n t = ap (λ (f : ℕ). GroupsFit f n d rows (groups_of s)) o in
    record {
      value = p ∙ sym (nothing_beside (beside (decide_task n t) (refuted [])) ∙ beside_nothing (decide_task n t));
      fits = (λ x. (subst (λ (T : Type 0). T) q x, always_unless (decide_task n t)), λ x. subst (λ (T : Type 0). T) (sym q) x.0);
      ready = (start_ready n d s b h, tt);
      sound = λ ns f l. f l;
      met = λ point. start_met point;
    }
  where
    start_met : (point : ℕ → ℤ) → SomeMet point (record { left = d; goal = goal_of s } ∷ []) → Meets point s
    start_met point (inl m) = meets_close point s (hold_untightened point (rows_of s) m.0, m.1)
    start_met point (inr m) = absurd m

-- ---- a goal is taken up

abbrev pub with_task : Task → Standing → Standing
with_task t st = record { gap = st.gap; nodes = st.nodes; tasks = t ∷ st.tasks }

pub come_taken : (n d : ℕ) (s : System) (old mid : Search) (t : Task) → HasCome n d s (standing_of old) → Takes old t mid → HasCome n d s (with_task t (standing_of mid))
come_taken n d s old mid t h k =
    let e : standing_of old ≡ with_task t (standing_of mid) = λ i. record { gap = sym k.gap i; nodes = ap plain_nodes (sym k.nodes) i; tasks = k.tasks i } in
    subst (λ (st : Standing). HasCome n d s st) e h

pub taken_ready : (n d : ℕ) (s : System) (old mid : Search) (t : Task) → HasCome n d s (standing_of old) → Takes old t mid → IsReady n t
taken_ready n d s old mid t h k = (come_taken n d s old mid t h k).ready.0

-- the numbers of a step are among those of Decide
task_fits : (n left : ℕ) (rows : List LinearRow) (groups : List (List System)) → TaskFits n (task left rows groups) → groups ≡ [] → outcome.EliminationFits n rows
task_fits n left rows [] f e = rows_fit_elimination n left rows f
task_fits n left rows (g ∷ gs) f e = absurd (cc)

pub taken_fits : (n d : ℕ) (s : System) (old mid : Search) (t : Task) → HasCome n d s (standing_of old) → Takes old t mid → EliminationsFit n d s → StepFits n t.goal
taken_fits n d s old mid t h k f e =
    task_fits n t.left t.goal.rows t.goal.groups ((come_taken n d s old mid t h k).fits.0 f).0 e

-- ---- a step

come_on : (n d : ℕ) (s : System) (t : Task) (st new : Standing) → HasCome n d s (with_task t st) → Advances n t st new → HasCome n d s new
come_on n d s t st new h a = record {
  value = h.value ∙ a.value;
  fits = (λ f. a.fits.0 (h.fits.0 f), λ f. h.fits.1 (a.fits.1 f));
  ready = a.ready h.ready.1;
  sound = a.sound s h.sound;
  met = λ point m. h.met point (a.met point m);
}

goes_advances : (n : ℕ) (t : Task) (mid new : Search) → IsReady n t → StepFits n t.goal → Goes n t mid new → Advances n t (standing_of mid) (standing_of new)
goes_advances n t mid new r f g =
    subst (λ (st : Standing). Advances n t (standing_of mid) st) (sym g.stands) (task_advances n t (standing_of mid) g.no_point f g.worth r)

pub come_further : (n d : ℕ) (s : System) (old mid new : Search) (t : Task) → HasCome n d s (standing_of old) → Takes old t mid → StepFits n t.goal → Goes n t mid new →
    HasCome n d s (standing_of new)
come_further n d s old mid new t h k f g =
    come_on n d s t (standing_of mid) (standing_of new) (come_taken n d s old mid t h k) (goes_advances n t mid new (taken_ready n d s old mid t h k) f g)

pub steps_fewer : (n d : ℕ) (s : System) (old mid new : Search) (t : Task) → HasCome n d s (standing_of old) → Takes old t mid → StepFits n t.goal → Goes n t mid new →
    steps_left (standing_of new).tasks < steps_left (standing_of old).tasks
steps_fewer n d s old mid new t h k f g =
    let a = goes_advances n t mid new (taken_ready n d s old mid t h k) f g in
    let l : steps_left (standing_of new).tasks < steps_left (t ∷ (standing_of mid).tasks) = a.fewer in
    subst (λ (ts : List Task). steps_left (standing_of new).tasks < steps_left ts) (sym k.tasks) l

-- ---- the end

-- what was found so far is no whole point
found_whole : (g : Bool) (ns : List PlainNode) (x : List ℤ) (b : Decision) → beside (found_by g ns) (beside (whole x) b) ≡ whole x
found_whole true ns x b = refl
found_whole false ns x b = refl

-- the decision of a goal that is met by a whole point, and its numbers
record IsWholeTask (n : ℕ) (t : Task) (numbers : List ℤ) : Type 0 where
  decided : decide_task n t ≡ whole numbers
  fits : TaskFits n t

whole_values : (n left : ℕ) (rows : List LinearRow) (values : List Fraction) (x : Option (ℕ × Fraction)) (numbers : List ℤ) → outcome.elimination n rows ≡ outcome.point values →
    first_broken 0 values ≡ x → values_if values x ≡ Some numbers → outcome.EliminationFits n rows → IsWholeTask n (task left rows []) numbers
whole_values n left rows values (Some x) numbers e b w f = absurd (cc)
whole_values n left rows values None numbers e b w f =
    let same : map (λ f. f.num) values ≡ numbers = cc in
    record {
      decided = rows_at n left rows values None e b ∙ ap whole same;
      fits = cut_fits n left rows values None e b f tt;
    }

whole_rows : (n left : ℕ) (rows : List LinearRow) (o : outcome.EliminationOutcome) (numbers : List ℤ) → outcome.elimination n rows ≡ o → whole_outcome o ≡ Some numbers →
    outcome.EliminationFits n rows → IsWholeTask n (task left rows []) numbers
whole_rows n left rows (outcome.refuted parts) numbers e w f = absurd (cc)
whole_rows n left rows (outcome.point values) numbers e w f = whole_values n left rows values (first_broken 0 values) numbers e refl w f

whole_task : (n left : ℕ) (rows : List LinearRow) (groups : List (List System)) (numbers : List ℤ) → whole_groups n rows groups ≡ Some numbers →
    (groups ≡ [] → outcome.EliminationFits n rows) → IsWholeTask n (task left rows groups) numbers
whole_task n left rows [] numbers w f = whole_rows n left rows (outcome.elimination n rows) numbers refl w (f refl)
whole_task n left rows (g ∷ gs) numbers w f = absurd (cc)

none_hold : (point : ℕ → ℤ) (groups : List (List System)) → groups ≡ [] → EachHasMember (Meets point) groups
none_hold point groups e = subst (EachHasMember (Meets point)) (sym e) tt

-- a whole point is found
pub come_met : (n d : ℕ) (s : System) (old mid : Search) (t : Task) (numbers : List ℤ) → HasCome n d s (standing_of old) → Takes old t mid → StepFits n t.goal → IsMet n t.goal numbers →
    EliminationsFit n d s × IsPoint n d s numbers
come_met n d s old mid t numbers h k f m =
    let c = come_taken n d s old mid t h k in
    let w : IsWholeTask n t numbers = whole_task n t.left t.goal.rows t.goal.groups numbers m.point f in
    let rest : Decision = all_decided n (standing_of mid).tasks in
    let r : AllByRecursion (Holds (point_of numbers)) t.goal.rows = subst (AllByRecursion (Holds (point_of numbers))) (tight_stay t.goal.rows (taken_ready n d s old mid t h k).tight) m.holds in (
      c.fits.1 (w.fits, subst (λ (a : Decision). UnlessWhole a (AllFit n (standing_of mid).tasks)) (sym w.decided) tt),
      record {
        decided =
            c.value ∙ ap (λ (a : Decision). beside (found_by mid.gap (plain_nodes mid.nodes.items)) (beside a rest)) w.decided ∙
            found_whole mid.gap (plain_nodes mid.nodes.items) numbers rest;
        worth = record { columns = m.columns; meets = c.met (point_of numbers) (inl (r, none_hold (point_of numbers) t.goal.groups m.alone)) };
        fit = m.fit;
      },
    )

-- no goal is left
come_none : (n d : ℕ) (s : System) (g : Bool) (ns : List PlainNode) → HasCome n d s (record { gap = g; nodes = ns; tasks = [] }) → (decide n d s ≡ found_by g ns) × EliminationsFit n d s
come_none n d s g ns h = (h.value ∙ beside_nothing (found_by g ns), h.fits.1 tt)

come_to_end : (n d : ℕ) (s : System) (old new : Search) → HasCome n d s (standing_of old) → TakesNone old new →
    HasCome n d s (record { gap = new.gap; nodes = plain_nodes new.nodes.items; tasks = [] })
come_to_end n d s old new h k =
    let a : standing_of new ≡ record { gap = new.gap; nodes = plain_nodes new.nodes.items; tasks = [] } =
    λ i. record { gap = new.gap; nodes = plain_nodes new.nodes.items; tasks = (ap (λ (st : Standing). st.tasks) k.stands ∙ k.tasks) i } in
    subst (λ (st : Standing). HasCome n d s st) (sym k.stands ∙ a) h

-- there is a gap
pub ends_open : (n d : ℕ) (s : System) (old new : Search) → HasCome n d s (standing_of old) → TakesNone old new → new.gap ≡ true → EliminationsFit n d s × (decide n d s ≡ gap)
ends_open n d s old new h k e =
    let c = come_none n d s new.gap (plain_nodes new.nodes.items) (come_to_end n d s old new h k) in
    (c.1, c.0 ∙ ap (λ (g : Bool). found_by g (plain_nodes new.nodes.items)) e)

closed_sound : (s : System) (g : Bool) (ns : List PlainNode) → g ≡ false → IsSound s g ns [] → LeavesFit ns (goal_of s ∷ []) → Refutes ns s
closed_sound s true ns e h = absurd (cc)
closed_sound s false ns e h = λ l.
    subst (λ (ms : List PlainNode). Refutes ms s) (append-nil ns)
    (h [] (λ x. tt) (subst (λ (ms : List PlainNode). LeavesFit ms (goal_of s ∷ [])) (sym (append-nil ns)) l))

-- there is none
pub ends_closed : (n d : ℕ) (s : System) (old new : Search) → HasCome n d s (standing_of old) → TakesNone old new → new.gap ≡ false →
    EliminationsFit n d s × IsClosed n d s (plain_nodes new.nodes.items)
ends_closed n d s old new h k e =
    let ns : List PlainNode = plain_nodes new.nodes.items in
    let m = come_to_end n d s old new h k in
    let c = come_none n d s new.gap ns m in
    let q : decide n d s ≡ refuted ns = c.0 ∙ ap (λ (g : Bool). found_by g ns) e in (
      c.1,
      record { decided = q; whole_tree = tree_is_counted d ns (decided_is_tree n d s ns q); sound = closed_sound s new.gap ns e m.sound },
    )
