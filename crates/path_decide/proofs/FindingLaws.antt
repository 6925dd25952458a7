-- What is found of a word by an answer of Decide on a system of its rows.
use Rattle.std.proofs.Common.{◌≡◌, ◌∙◌, ℕ, suc, ◌+◌, ℤ, List, [], ◌∷◌, length, map, ap, refl, sym, subst, arith}
use Rattle.std.specs.Prelude.{Result, Ok, Err, IfOk}
use Rattle.std.specs.declared.alloc.AllocError.{AllocError}
use Rattle.std.specs.List.{AllByRecursion}
use Rattle.lin_rows.specs.declared.systems.System.{System}
use Rattle.lin_rows.specs.Rows.{LinearRow, IsRow, Holds, RowsBelow}
use Rattle.lin_rows.specs.Points.{point_of}
use Rattle.lin_rows.specs.Tightening.{tightened}
use Rattle.lin_rows.specs.Systems.{Meets, rows_of, groups_of}
use Rattle.lin_rows.proofs.SystemLaws.{meets_open}
use Rattle.farkas_check.specs.Nodes.{PlainNode}
use Rattle.farkas_check.specs.Refutes.{Goal, Refute, Refutes, goal_of}
use Rattle.int_decide.specs.declared.types.Answer.{Answer}
use Rattle.int_decide.specs.declared.types.Answer.TheVariants as answers
use Rattle.int_decide.specs.declared.types.DecideFault.{DecideFault}
use Rattle.int_decide.specs.declared.types.DecideFault.TheVariants as faults
use Rattle.int_decide.specs.Answers.{decision_of, IsWorthOf, OfRefuted, OfWhole, RefutesWithin, IsDecided}
use Rattle.int_decide.specs.Decide.{decide, decide_rows, decide_groups}
use Rattle.int_decide.specs.Decisions.{Decision, refuted, whole, gap, WhereRefuted}
use Rattle.int_decide.specs.Numbers.{RowsFit, GroupsFit, LeavesFit, DecideFits}
use Rattle.int_decide.specs.Sizes.{total, extent, group_count, AllMembers, SystemBelow}
use Rattle.int_decide.proofs.Opening.{SystemBelow_open, SystemBelow_close, extent_opened}
use Rattle.int_decide.specs.DifferenceRows.Differences.{IsDifference}
use Rattle.int_decide.specs.DifferenceRows.Laws.{DifferencesAreDecided}
use Rattle.nwa_base.specs.declared.letters.Letter.{Letter}
use Rattle.letter_acts.specs.Invariant.{Graph}
use Rattle.path_rows.specs.Paths.{PlainPath, IsPathOf, path_of}
use Rattle.path_decide.specs.Decided.{path_goal, RefutesPath, path_decision, PathFits, goal_of_rows, IsRowsRefutation, IsGap, IsAnswer, IsOwn}

-- the system has the rows of the word, and no groups, and n is the number of its columns
pub record IsSystemOf (g : Graph) (w : List Letter) (n : ℕ) (s : System) : Type 0 where
  pub rows : rows_of s ≡ (path_of g w).rows
  pub groups : groups_of s ≡ []
  pub columns : n ≡ length (path_of g w).column_at

-- what rows are asked for where Decide is to have no gap: they are rows, over the columns below n
pub record AreRowsBelow (n : ℕ) (s : System) : Type 0 where
  pub rows : AllByRecursion IsRow (rows_of s)
  pub below : SystemBelow n s

-- rows without groups are below what their columns are below, and are as many as they are
rows_are_below : (n : ℕ) (s : System) → groups_of s ≡ [] → RowsBelow n (rows_of s) → SystemBelow n s
rows_are_below n s e h = SystemBelow_close n s (h, subst (AllMembers (SystemBelow n)) (sym e) tt)

pub rows_are_all : (s : System) → groups_of s ≡ [] → extent s ≡ length (rows_of s)
rows_are_all s e =
    extent_opened s ∙ ap (λ (gs : List (List System)). length (rows_of s) + total (λ members. total (λ m. suc (extent m)) members) gs) e ∙
    (let z : length (rows_of s) + 0 ≡ length (rows_of s) = omega arith in z)

-- the system of a path, with the number of its columns
pub system_of : (g : Graph) (p : PlainPath) (n : ℕ) (s : System) → IsPathOf g p → rows_of s ≡ p.rows → groups_of s ≡ [] → n ≡ length p.column_at → IsSystemOf g p.word n s
system_of g p n s h rows groups columns = record { rows = rows ∙ h.rows; groups = groups; columns = columns ∙ ap length h.column_at }

pub path_is_below : (p : PlainPath) (n : ℕ) (s : System) → rows_of s ≡ p.rows → groups_of s ≡ [] → n ≡ length p.column_at → RowsBelow (length p.column_at) p.rows → SystemBelow n s
path_is_below p n s rows groups columns h =
    rows_are_below n s groups
    (subst (λ (rs : List LinearRow). RowsBelow n rs) (sym rows) (subst (λ (m : ℕ). RowsBelow m p.rows) (sym columns) h))

goal_is : (g : Graph) (w : List Letter) (n : ℕ) (s : System) → IsSystemOf g w n s → goal_of s ≡ path_goal g w
goal_is g w n s h = let a = h.rows in let b = h.groups in cc

without_groups : (f n d : ℕ) (rows : List LinearRow) (gs : List (List System)) → gs ≡ [] → decide_groups f n d rows gs ≡ decide_rows n d rows
without_groups f n d rows [] e = refl
without_groups f n d rows (x ∷ gs) e = absurd (cc)

decision_is : (g : Graph) (w : List Letter) (n d : ℕ) (s : System) → IsSystemOf g w n s → decide n d s ≡ path_decision g d w
decision_is g w n d s h =
    let e : decide n d s ≡ decide_rows n d (map tightened (rows_of s)) = without_groups (group_count s) n d (map tightened (rows_of s)) (groups_of s) h.groups in
    let a = h.rows in let b = h.columns in cc

groups_fit : (f n d : ℕ) (rows : List LinearRow) (gs : List (List System)) → gs ≡ [] → RowsFit n d rows → GroupsFit f n d rows gs
groups_fit f n d rows [] e h = h
groups_fit f n d rows (x ∷ gs) e h = absurd (cc)

fit_all : (g : Graph) (w : List Letter) (n d : ℕ) (s : System) → IsSystemOf g w n s → PathFits g d w → DecideFits n d s
fit_all g w n d s h p = record {
  eliminations = groups_fit (group_count s) n d (map tightened (rows_of s)) (groups_of s) h.groups
      (subst (λ (m : ℕ). RowsFit m d (map tightened (rows_of s))) (sym h.columns)
      (subst (λ (rows : List LinearRow). RowsFit (length (path_of g w).column_at) d (map tightened rows)) (sym h.rows) p.eliminations));
  leaves = subst (λ (x : Decision). WhereRefuted x (λ ns. LeavesFit ns (goal_of s ∷ []))) (sym (decision_is g w n d s h))
      (subst (λ (x : Goal). WhereRefuted (path_decision g d w) (λ ns. LeavesFit ns (x ∷ []))) (sym (goal_is g w n s h)) p.leaves);
}

-- a gap of Decide comes of other rows than difference rows
is_gap : DifferencesAreDecided → (g : Graph) (w : List Letter) (n d : ℕ) (s : System) → IsSystemOf g w n s → AreRowsBelow n s → decide n d s ≡ gap → IsGap g d w
is_gap law g w n d s h r e = record {
  decided = (let a = decision_is g w n d s h in cc);
  others = λ a.
      let b = SystemBelow_open n s r.below in
      let f : decide n d s ≡ decide_rows n d (map tightened (rows_of s)) = without_groups (group_count s) n d (map tightened (rows_of s)) (groups_of s) h.groups in
      law n d (rows_of s) r.rows b.0 (subst (AllByRecursion IsDifference) (sym h.rows) a) (sym f ∙ e);
}

refutes_path : (g : Graph) (w : List Letter) (n d : ℕ) (s : System) (nodes : List PlainNode) → IsSystemOf g w n s → Refutes nodes s → RefutesPath g w nodes
refutes_path g w n d s nodes h r = subst (λ (x : Goal). Refute nodes (x ∷ [])) (goal_is g w n s h) r

whole_point : (g : Graph) (w : List Letter) (n d : ℕ) (s : System) (values : List ℤ) → IsSystemOf g w n s → decide n d s ≡ whole values → Meets (point_of values) s →
    path_decision g d w ≡ whole values × AllByRecursion (Holds (point_of values)) (path_of g w).rows
whole_point g w n d s values h e m =
    let f = decision_is g w n d s h in (
      cc,
      subst (λ (rows : List LinearRow). AllByRecursion (Holds (point_of values)) rows) h.rows (meets_open (point_of values) s m).0,
    )

-- what is answered of the word by an answer of Decide on its system
pub answered_by : DifferencesAreDecided → (g : Graph) (w : List Letter) (n d : ℕ) (s : System) (answer : Result Answer DecideFault) → IsSystemOf g w n s → AreRowsBelow n s →
    IfOk answer (λ a. OfRefuted a (RefutesWithin d s)) → IfOk answer (λ a. OfWhole a (IsDecided n d s)) →
    (answer ≡ Err faults.Gap → decide n d s ≡ gap) → (answer ≡ Err faults.Past → DecideFits n d s → ⊥) → IsAnswer g d w answer
answered_by law g w n d s (Ok (answers.Refuted tree)) h b r x gaps past = record { refutes = refutes_path g w n d s tree h r.refutes; tree = r.tree }
answered_by law g w n d s (Ok (answers.Whole values)) h b r x gaps past =
    let p = whole_point g w n d s values.items h x.decided x.meets in
    record { decided = p.0; meets = p.1; fit = x.fit }
answered_by law g w n d s (Err faults.Gap) h b r x gaps past = is_gap law g w n d s h b (gaps refl)
answered_by law g w n d s (Err faults.Past) h b r x gaps past = λ p. past refl (fit_all g w n d s h p)
answered_by law g w n d s (Err faults.Memory) h b r x gaps past = tt

-- and by Decide itself
pub answered_plainly : DifferencesAreDecided → (g : Graph) (w : List Letter) (n d : ℕ) (s : System) (answer : Result Answer DecideFault) → IsSystemOf g w n s → AreRowsBelow n s →
    IfOk answer (λ a. decision_of a ≡ decide n d s) → IfOk answer (IsWorthOf n d s) →
    (answer ≡ Err faults.Gap → decide n d s ≡ gap) → (answer ≡ Err faults.Past → DecideFits n d s → ⊥) → IsAnswer g d w answer
answered_plainly law g w n d s (Ok (answers.Refuted tree)) h b v x gaps past = record { refutes = refutes_path g w n d s tree h x.0; tree = x.1 }
answered_plainly law g w n d s (Ok (answers.Whole values)) h b v x gaps past =
    let i : whole values.items ≡ decide n d s = v in
    let p = whole_point g w n d s values.items h (sym i) x.0.meets in
    record { decided = p.0; meets = p.1; fit = x.1 }
answered_plainly law g w n d s (Err faults.Gap) h b v x gaps past = is_gap law g w n d s h b (gaps refl)
answered_plainly law g w n d s (Err faults.Past) h b v x gaps past = λ p. past refl (fit_all g w n d s h p)
answered_plainly law g w n d s (Err faults.Memory) h b v x gaps past = tt

pub own_answer : (g : Graph) (w : List Letter) (n d : ℕ) (s : System) (answer : Result Answer DecideFault) → IsSystemOf g w n s →
    IfOk answer (λ a. decision_of a ≡ decide n d s) → IsOwn g d w answer
own_answer g w n d s (Ok (answers.Refuted tree)) h v =
    let a = decision_is g w n d s h in let i : refuted tree ≡ decide n d s = v in cc
own_answer g w n d s (Ok (answers.Whole values)) h v = tt
own_answer g w n d s (Err f) h v = tt

goal_of_system : (s : System) (rows : List LinearRow) → rows_of s ≡ rows → groups_of s ≡ [] → goal_of s ≡ goal_of_rows rows
goal_of_system s rows a b = cc

-- a refutation of rows is one of their system
pub refutes_system : (d : ℕ) (s : System) (rows : List LinearRow) (nodes : List PlainNode) → rows_of s ≡ rows → groups_of s ≡ [] →
    IsRowsRefutation d rows nodes → RefutesWithin d s nodes
refutes_system d s rows nodes a b h = record {
  refutes = subst (λ (x : Goal). Refute nodes (x ∷ [])) (sym (goal_of_system s rows a b)) h.refutes;
  tree = h.tree;
}

-- and the other way round
pub refutes_rows : (d : ℕ) (s : System) (rows : List LinearRow) (nodes : List PlainNode) → rows_of s ≡ rows → groups_of s ≡ [] →
    RefutesWithin d s nodes → IsRowsRefutation d rows nodes
refutes_rows d s rows nodes a b h = record {
  refutes = subst (λ (x : Goal). Refute nodes (x ∷ [])) (goal_of_system s rows a b) h.refutes;
  tree = h.tree;
}

-- what follows from what is told of nodes
pub told_nodes : (P Q : List PlainNode → Type 0) (r : Result (List PlainNode) AllocError) → ((nodes : List PlainNode) → P nodes → Q nodes) → IfOk r P → IfOk r Q
told_nodes P Q (Ok nodes) m h = m nodes h
told_nodes P Q (Err e) m h = tt
