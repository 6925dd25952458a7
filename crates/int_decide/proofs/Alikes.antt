-- Decide by outcomes that stand in for those of its eliminations: each step leaves the decision as it is, but for nodes.
use Rattle.std.proofs.Common.{◌≡◌, ℕ, zero, suc, ◌+◌, ◌<◌, ◌^◌, Bool, true, false, ℤ, List, [], ◌∷◌, ◌++◌, Option, None, Some, length, map, refl, sym, ap, ◌∙◌, subst, arith, inl, inr}
use Rattle.std.specs.List.{AllByRecursion}
use Rattle.std.proofs.lemmas.List.{length-map, length-append}
use Rattle.math_facts.specs.Terms.{IsBelow}
use Rattle.frac.specs.Fractions.{Fraction, IsFraction}
use Rattle.lin_rows.specs.declared.systems.System.{System}
use Rattle.lin_rows.specs.Rows.{LinearRow, Holds}
use Rattle.lin_rows.specs.Systems.{EachHasMember, Meets}
use Rattle.lin_rows.specs.Tightening.{tightened}
use Rattle.lin_rows.specs.Points.{point_of}
use Rattle.farkas_check.specs.Nodes.{PlainNode, leaf, cut, plain_nodes}
use Rattle.farkas_check.specs.Refutes.{at_most, above}
use Rattle.fm_elim.specs.Elimination as outcome
use Rattle.fm_elim.specs.Worth.{MeetsAll}
use Rattle.fm_elim.proofs.Lists.{all_append, all_parts}
use Rattle.int_decide.specs.declared.search.Search.{Search}
use Rattle.int_decide.specs.Decisions.{Decision, refuted, whole, gap, beside, under}
use Rattle.int_decide.specs.Decide.{first_broken, by_values, by_outcome, decide_rows, decide}
use Rattle.fm_elim.specs.Quotients.{floor}
use Rattle.int_decide.specs.Sizes.{extent, SystemBelow}
use Rattle.int_decide.specs.Ties.Searching.{Task, Standing, standing_of, cut_at, sides, after_broken, after_values, after_outcome, values_if, whole_outcome, StaysTight, IsReady, found_by, decide_task, SomeMet, Takes, TakesNone, IsPoint}
use Rattle.int_decide.specs.Ties.Alike.{AreAlike, StandsIn, bare, StandsAfter, GoesOn, IsMetBy, ComesTo}
use Rattle.int_decide.proofs.DecisionLaws.{nothing_beside, beside_assoc}
use Rattle.int_decide.proofs.TightRows.{at_most_stays, above_stays, tight_stay}
use Rattle.int_decide.proofs.Points.{broken_below, whole_meets_all}
use Rattle.int_decide.proofs.RowsDecided.{broken_of, by_elimination}
use Rattle.int_decide.proofs.Advancing.{all_decided, task, advance_cases}
use Rattle.int_decide.proofs.Coming.{start, come_start, with_task}

-- ---- bare decisions

bare_beside : (a b : Decision) → bare (beside a b) ≡ beside (bare a) (bare b)
bare_beside (whole x) b = refl
bare_beside gap (whole y) = refl
bare_beside gap gap = refl
bare_beside gap (refuted ms) = refl
bare_beside (refuted ns) (whole y) = refl
bare_beside (refuted ns) gap = refl
bare_beside (refuted ns) (refuted ms) = refl

bare_under : (n : PlainNode) (a : Decision) → bare (under n a) ≡ bare a
bare_under n (refuted ns) = refl
bare_under n (whole x) = refl
bare_under n gap = refl

-- the part in the middle counts without its nodes
in_middle : (f d e r : Decision) → bare d ≡ bare e → bare (beside f (beside d r)) ≡ bare (beside f (beside e r))
in_middle f d e r s =
    bare_beside f (beside d r) ∙
    ap (beside (bare f)) (bare_beside d r ∙ ap (λ (x : Decision). beside x (bare r)) s ∙ sym (bare_beside e r)) ∙
    sym (bare_beside f (beside e r))

-- and so does the part in front
in_front : (f g r : Decision) → bare f ≡ bare g → bare (beside f r) ≡ bare (beside g r)
in_front f g r s = bare_beside f r ∙ ap (λ (x : Decision). beside x (bare r)) s ∙ sym (bare_beside g r)

found_bare : (g : Bool) (ns ms : List PlainNode) → bare (found_by g ns) ≡ bare (found_by g ms)
found_bare true ns ms = refl
found_bare false ns ms = refl

gap_in_middle : (g : Bool) (ns : List PlainNode) (b : Decision) → beside (found_by g ns) (beside gap b) ≡ beside gap b
gap_in_middle true ns (refuted ms) = refl
gap_in_middle true ns (whole x) = refl
gap_in_middle true ns gap = refl
gap_in_middle false ns (refuted ms) = refl
gap_in_middle false ns (whole x) = refl
gap_in_middle false ns gap = refl

whole_in_middle : (g : Bool) (ns : List PlainNode) (x : List ℤ) (b : Decision) → beside (found_by g ns) (beside (whole x) b) ≡ whole x
whole_in_middle true ns x b = refl
whole_in_middle false ns x b = refl

bare_whole : (d : Decision) (x : List ℤ) → bare d ≡ whole x → d ≡ whole x
bare_whole (refuted ns) x e = absurd (let z : ⊥ = cc in z)
bare_whole (whole y) x e = e
bare_whole gap x e = e

bare_gap : (d : Decision) → bare d ≡ gap → d ≡ gap
bare_gap (refuted ns) e = absurd (let z : ⊥ = cc in z)
bare_gap (whole y) e = e
bare_gap gap e = refl

-- ---- rows, by an outcome that stands in

by_values_alike : (broken : ℕ → ℤ → Decision) (own values : List Fraction) (a b : Option (ℕ × Fraction)) → cut_at a ≡ cut_at b → values_if own a ≡ values_if values b →
    by_values broken own a ≡ by_values broken values b
by_values_alike broken own values None None e f = let s : map (λ (g : Fraction). g.num) own ≡ map (λ (g : Fraction). g.num) values = cc in ap whole s
by_values_alike broken own values None (Some y) e f = absurd (let z : ⊥ = cc in z)
by_values_alike broken own values (Some x) None e f = absurd (let z : ⊥ = cc in z)
by_values_alike broken own values (Some x) (Some y) e f =
    let s : (x.0, floor x.1) ≡ (y.0, floor y.1) = cc in ap (λ (p : ℕ × ℤ). broken p.0 p.1) s

by_outcome_alike : (broken : ℕ → ℤ → Decision) (o p : outcome.EliminationOutcome) → AreAlike o p → bare (by_outcome broken o) ≡ bare (by_outcome broken p)
by_outcome_alike broken (outcome.refuted own) (outcome.refuted parts) h = refl
by_outcome_alike broken (outcome.refuted own) (outcome.point values) h = absurd h
by_outcome_alike broken (outcome.point own) (outcome.refuted parts) h = absurd h
by_outcome_alike broken (outcome.point own) (outcome.point values) h =
    ap bare (by_values_alike broken own values (first_broken 0 own) (first_broken 0 values) h.cuts h.numbers)

rows_alike : (n d : ℕ) (rows : List LinearRow) (o : outcome.EliminationOutcome) → StandsIn n rows o → bare (decide_rows n d rows) ≡ bare (by_outcome (broken_of n d rows) o)
rows_alike n d rows o h =
    ap bare (by_elimination n d rows (outcome.elimination n rows) refl) ∙ by_outcome_alike (broken_of n d rows) (outcome.elimination n rows) o h.alike

-- ---- one step

-- from the standing with the task at hand to the new one
record CarriesOn (n : ℕ) (t : Task) (old new : Standing) : Type 0 where
  pub value : bare (beside (found_by old.gap old.nodes) (beside (decide_task n t) (all_decided n old.tasks))) ≡ bare (beside (found_by new.gap new.nodes) (all_decided n new.tasks))
  pub ready : AllByRecursion (IsReady n) old.tasks → AllByRecursion (IsReady n) new.tasks
  pub met : (point : ℕ → ℤ) → SomeMet point new.tasks → SomeMet point (t ∷ old.tasks)

carries_leaf : (n left : ℕ) (rows : List LinearRow) (s : Standing) (parts : List (ℕ × ℤ)) → StandsIn n rows (outcome.refuted parts) →
    CarriesOn n (task left rows []) s (after_outcome (task left rows []) s (outcome.refuted parts))
carries_leaf n left rows s parts h =
    let f : Decision = found_by s.gap s.nodes in
    let rest : Decision = all_decided n s.tasks in
    record {
      value =
          in_middle f (decide_rows n left rows) (refuted []) rest (rows_alike n left rows (outcome.refuted parts) h) ∙
          ap (λ (x : Decision). bare (beside f x)) (nothing_beside rest) ∙
          in_front f (found_by s.gap (s.nodes ++ leaf parts ∷ [])) rest (found_bare s.gap s.nodes (s.nodes ++ leaf parts ∷ []));
      ready = λ r. r;
      met = λ point m. inr m;
    }

carries_gap : (n : ℕ) (rows : List LinearRow) (s : Standing) (x : ℕ × Fraction) → bare (decide_rows n zero rows) ≡ gap →
    CarriesOn n (task zero rows []) s (after_broken zero (record { rows = rows; groups = [] }) s x.0 (floor x.1))
carries_gap n rows s x h =
    let f : Decision = found_by s.gap s.nodes in
    let rest : Decision = all_decided n s.tasks in
    record {
      value = in_middle f (decide_rows n zero rows) gap rest h ∙ ap bare (gap_in_middle s.gap s.nodes rest);
      ready = λ r. r;
      met = λ point m. inr m;
    }

side_is_ready : (n left : ℕ) (rows : List LinearRow) (r : LinearRow) → IsReady n (task (suc left) rows []) → IsBelow n r.terms → StaysTight r → IsReady n (task left (rows ++ r ∷ []) [])
side_is_ready n left rows r h b t =
    let a : length (rows ++ r ∷ []) ≡ length rows + 1 = length-append rows (r ∷ []) in
    let l : (length rows + 0) + suc left < 2 ^ 32 = h.numbered in
    record {
      below = all_append (λ q. IsBelow n q.terms) rows (r ∷ []) h.below (b, tt);
      groups_below = tt;
      tight = all_append StaysTight rows (r ∷ []) h.tight (t, tt);
      numbered = omega arith;
    }

carries_cut : (n left : ℕ) (rows : List LinearRow) (s : Standing) (x : ℕ × Fraction) →
    bare (decide_rows n (suc left) rows) ≡ bare (broken_of n (suc left) rows x.0 (floor x.1)) → x.0 < n → IsReady n (task (suc left) rows []) →
    CarriesOn n (task (suc left) rows []) s (after_broken (suc left) (record { rows = rows; groups = [] }) s x.0 (floor x.1))
carries_cut n left rows s x h l r =
    let c : ℕ = x.0 in
    let k : ℤ = floor x.1 in
    let f : Decision = found_by s.gap s.nodes in
    let first : Decision = decide_rows n left (rows ++ at_most c k ∷ []) in
    let second : Decision = decide_rows n left (rows ++ above c k ∷ []) in
    let rest : Decision = all_decided n s.tasks in
    record {
      value =
          in_middle f (decide_rows n (suc left) rows) (beside first second) rest (h ∙ bare_under (cut c k) (beside first second)) ∙
          ap (λ (y : Decision). bare (beside f y)) (beside_assoc first second rest) ∙
          in_front f (found_by s.gap (s.nodes ++ cut c k ∷ [])) (beside first (beside second rest)) (found_bare s.gap s.nodes (s.nodes ++ cut c k ∷ []));
      ready = λ q. (side_is_ready n left rows (at_most c k) r (l, tt) (at_most_stays c k), (side_is_ready n left rows (above c k) r (l, tt) (above_stays c k), q));
      met = λ point. cut_met point;
    }
  where
    cut_met : (point : ℕ → ℤ) → SomeMet point (sides left (record { rows = rows; groups = [] }) x.0 (floor x.1) ++ s.tasks) → SomeMet point (task (suc left) rows [] ∷ s.tasks)
    cut_met point (inl h) = inl ((all_parts (Holds point) rows (at_most x.0 (floor x.1) ∷ []) h.0).0, h.1)
    cut_met point (inr (inl h)) = inl ((all_parts (Holds point) rows (above x.0 (floor x.1) ∷ []) h.0).0, h.1)
    cut_met point (inr (inr h)) = inr h

values_carry : (n left : ℕ) (rows : List LinearRow) (s : Standing) (values : List Fraction) (x : Option (ℕ × Fraction)) → first_broken 0 values ≡ x →
    StandsIn n rows (outcome.point values) → values_if values x ≡ None → IsReady n (task left rows []) →
    CarriesOn n (task left rows []) s (after_values (task left rows []) s x)
values_carry n left rows s values None b h w r = absurd (let z : ⊥ = cc in z)
values_carry n zero rows s values (Some x) b h w r =
    carries_gap n rows s x
    (rows_alike n zero rows (outcome.point values) h ∙ ap (λ (y : Option (ℕ × Fraction)). bare (by_values (broken_of n zero rows) values y)) b)
values_carry n (suc left) rows s values (Some x) b h w r =
    carries_cut n left rows s x
    (rows_alike n (suc left) rows (outcome.point values) h ∙ ap (λ (y : Option (ℕ × Fraction)). bare (by_values (broken_of n (suc left) rows) values y)) b)
    (let k : x.0 < 0 + length values = broken_below 0 values x b in let e : length values ≡ n = h.meets.columns in omega arith) r

rows_carry : (n left : ℕ) (rows : List LinearRow) (s : Standing) (o : outcome.EliminationOutcome) → StandsIn n rows o → whole_outcome o ≡ None → IsReady n (task left rows []) →
    CarriesOn n (task left rows []) s (after_outcome (task left rows []) s o)
rows_carry n left rows s (outcome.refuted parts) h w r = carries_leaf n left rows s parts h
rows_carry n left rows s (outcome.point values) h w r = values_carry n left rows s values (first_broken 0 values) refl h w r

groups_carry : (n left : ℕ) (rows : List LinearRow) (groups : List (List System)) (s new : Standing) → StandsAfter n (task left rows groups) s new groups →
    IsReady n (task left rows groups) → CarriesOn n (task left rows groups) s new
groups_carry n left rows [] s new h r =
    subst (λ (st : Standing). CarriesOn n (task left rows []) s st) (sym h.1.2) (rows_carry n left rows s h.0 h.1.0 h.1.1 r)
groups_carry n left rows (members ∷ groups) s new h r =
    let a = advance_cases n left rows s members groups r in
    subst (λ (st : Standing). CarriesOn n (task left rows (members ∷ groups)) s st) (sym h) (record { value = ap bare a.value; ready = a.ready; met = a.met })

-- ---- how far the search has come

pub comes_start : (n d : ℕ) (s : System) → SystemBelow n s → extent s + d < 2 ^ 32 → ComesTo n d s (start d s)
comes_start n d s b h = let c = come_start n d s b h in record { value = ap bare c.value; ready = c.ready; met = c.met }

comes_taken : (n d : ℕ) (s : System) (old mid : Search) (t : Task) → ComesTo n d s (standing_of old) → Takes old t mid → ComesTo n d s (with_task t (standing_of mid))
comes_taken n d s old mid t h k =
    let e : standing_of old ≡ with_task t (standing_of mid) = λ i. record { gap = sym k.gap i; nodes = ap plain_nodes (sym k.nodes) i; tasks = k.tasks i } in
    subst (λ (st : Standing). ComesTo n d s st) e h

pub taken_is_ready : (n d : ℕ) (s : System) (old mid : Search) (t : Task) → ComesTo n d s (standing_of old) → Takes old t mid → IsReady n t
taken_is_ready n d s old mid t h k = (comes_taken n d s old mid t h k).ready.0

pub taken_is_tight : (n d : ℕ) (s : System) (old mid : Search) (t : Task) → ComesTo n d s (standing_of old) → Takes old t mid → map tightened t.goal.rows ≡ t.goal.rows
taken_is_tight n d s old mid t h k = tight_stay t.goal.rows (taken_is_ready n d s old mid t h k).tight

pub comes_further : (n d : ℕ) (s : System) (old mid new : Search) (t : Task) → ComesTo n d s (standing_of old) → Takes old t mid → GoesOn n t mid new → ComesTo n d s (standing_of new)
comes_further n d s old mid new t h k g =
    let c = comes_taken n d s old mid t h k in
    let a = groups_carry n t.left t.goal.rows t.goal.groups (standing_of mid) (standing_of new) g.stands c.ready.0 in
    record { value = c.value ∙ a.value; ready = a.ready c.ready.1; met = λ point m. c.met point (a.met point m) }

-- ---- the end

met_by : (n : ℕ) (rows : List LinearRow) (values : List Fraction) (numbers : List ℤ) (x : Option (ℕ × Fraction)) → MeetsAll n rows values → AllByRecursion IsFraction values →
    first_broken 0 values ≡ x → values_if values x ≡ Some numbers → (length numbers ≡ n) × AllByRecursion (Holds (point_of numbers)) rows
met_by n rows values numbers (Some x) m v e w = absurd (let z : ⊥ = cc in z)
met_by n rows values numbers None m v e w =
    let same : map (λ (f : Fraction). f.num) values ≡ numbers = cc in (
      ap length (sym same) ∙ length-map values (λ (f : Fraction). f.num) ∙ m.columns,
      subst (λ (xs : List ℤ). AllByRecursion (Holds (point_of xs)) rows) same (whole_meets_all n rows values m v e),
    )

by_whole : (broken : ℕ → ℤ → Decision) (values : List Fraction) (x : Option (ℕ × Fraction)) (numbers : List ℤ) → values_if values x ≡ Some numbers → by_values broken values x ≡ whole numbers
by_whole broken values (Some x) numbers w = absurd (let z : ⊥ = cc in z)
by_whole broken values None numbers w = let same : map (λ (f : Fraction). f.num) values ≡ numbers = cc in ap whole same

whole_task : (n left : ℕ) (rows : List LinearRow) (groups : List (List System)) (values : List Fraction) (numbers : List ℤ) → groups ≡ [] → StandsIn n rows (outcome.point values) →
    values_if values (first_broken 0 values) ≡ Some numbers → bare (decide_task n (task left rows groups)) ≡ whole numbers
whole_task n left rows [] values numbers e h w =
    rows_alike n left rows (outcome.point values) h ∙ ap bare (by_whole (broken_of n left rows) values (first_broken 0 values) numbers w)
whole_task n left rows (g ∷ gs) values numbers e h w = absurd (let z : ⊥ = cc in z)

none_are_held : (point : ℕ → ℤ) (groups : List (List System)) → groups ≡ [] → EachHasMember (Meets point) groups
none_are_held point groups e = subst (EachHasMember (Meets point)) (sym e) tt

-- a whole point is found
pub comes_met : (n d : ℕ) (s : System) (old mid : Search) (t : Task) (numbers : List ℤ) → ComesTo n d s (standing_of old) → Takes old t mid → IsMetBy n t.goal numbers →
    IsPoint n d s numbers
comes_met n d s old mid t numbers h k m =
    let c = comes_taken n d s old mid t h k in
    let rows : List LinearRow = t.goal.rows in
    let f : Decision = found_by mid.gap (plain_nodes mid.nodes.items) in
    let rest : Decision = all_decided n (standing_of mid).tasks in
    let w : bare (decide_task n t) ≡ whole numbers = whole_task n t.left rows t.goal.groups m.values numbers m.alone m.found m.are_whole in
    let met = met_by n (map tightened rows) m.values numbers (first_broken 0 m.values) m.found.meets m.valid refl m.are_whole in
    let r : AllByRecursion (Holds (point_of numbers)) rows = subst (AllByRecursion (Holds (point_of numbers))) (tight_stay rows c.ready.0.tight) met.1 in
    record {
      decided =
          bare_whole (decide n d s) numbers
          (c.value ∙ in_middle f (decide_task n t) (whole numbers) rest w ∙ ap bare (whole_in_middle mid.gap (plain_nodes mid.nodes.items) numbers rest));
      worth = record { columns = met.0; meets = c.met (point_of numbers) (inl (r, none_are_held (point_of numbers) t.goal.groups m.alone)) };
      fit = m.fit;
    }

-- no goal is left, and there is a gap
pub comes_open : (n d : ℕ) (s : System) (old new : Search) → ComesTo n d s (standing_of old) → TakesNone old new → new.gap ≡ true → decide n d s ≡ gap
comes_open n d s old new h k e =
    let ns : List PlainNode = plain_nodes new.nodes.items in
    let a : standing_of old ≡ record { gap = true; nodes = ns; tasks = [] } =
    sym k.stands ∙ (λ i. record { gap = e i; nodes = ns; tasks = (ap (λ (st : Standing). st.tasks) k.stands ∙ k.tasks) i }) in
    let c : ComesTo n d s (record { gap = true; nodes = ns; tasks = [] }) = subst (λ (st : Standing). ComesTo n d s st) a h in
    bare_gap (decide n d s) c.value
