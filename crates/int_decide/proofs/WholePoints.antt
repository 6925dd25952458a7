-- A point all of whose values are whole meets the rows, as whole numbers; and what that says of a step.
use Rattle.std.proofs.Common.{◌≡◌, ℕ, ℤ, List, [], Option, None, Some, length, map, Vec, Global, refl, sym, ap, ◌∙◌, subst}
use Rattle.std.specs.List.{AllByRecursion}
use Rattle.std.specs.Option.{MatchOption}
use Rattle.std.proofs.lemmas.List.{length-map}
use Rattle.frac.specs.Fractions.{Fraction, IsFraction}
use Rattle.lin_rows.specs.Rows.{LinearRow, Holds}
use Rattle.lin_rows.specs.Tightening.{tightened}
use Rattle.lin_rows.specs.Points.{point_of}
use Rattle.fm_elim.specs.Elimination as outcome
use Rattle.fm_elim.specs.Worth.{MeetsAll, IsWorth}
use Rattle.farkas_check.specs.Walks.{goal_at_hand}
use Rattle.farkas_check.specs.Refutes.{Goal}
use Rattle.int_decide.specs.declared.search.Search.{Search}
use Rattle.int_decide.specs.Decide.{first_broken}
use Rattle.int_decide.specs.Ties.Searching.{Task, Standing, standing_of, values_if, whole_outcome, whole_groups, whole_at, after_values, after_outcome, after_groups, StepFits, StepIsWorth, OpensNone, Breaks, IsWholePoint, Goes, IsMet}
use Rattle.int_decide.proofs.Points.{whole_meets_all}

-- a value for each column, and they meet the rows
pub record AreMet (n : ℕ) (rows : List LinearRow) (numbers : List ℤ) : Type 0 where
  pub columns : length numbers ≡ n
  pub holds : AllByRecursion (Holds (point_of numbers)) rows

met_by : (n : ℕ) (rows : List LinearRow) (values : List Fraction) (numbers : List ℤ) (x : Option (ℕ × Fraction)) → MeetsAll n rows values → AllByRecursion IsFraction values →
    first_broken 0 values ≡ x → values_if values x ≡ Some numbers → AreMet n rows numbers
met_by n rows values numbers (Some x) m v e w = absurd (cc)
met_by n rows values numbers None m v e w =
    let same : map (λ f. f.num) values ≡ numbers = cc in
    record {
      columns = ap length (sym same) ∙ length-map values (λ f. f.num) ∙ m.columns;
      holds = subst (λ (xs : List ℤ). AllByRecursion (Holds (point_of xs)) rows) same (whole_meets_all n rows values m v e);
    }

-- ---- what a step at a point says

-- the outcome of the goal's elimination is this point
record IsStep (n : ℕ) (g : Goal) (values : List Fraction) : Type 0 where
  alone : g.groups ≡ []
  found : outcome.elimination n g.rows ≡ outcome.point values
  fits : outcome.EliminationFits n g.rows
  worth : MeetsAll n (map tightened g.rows) values

whole_is : (n : ℕ) (g : Goal) (values : List Fraction) → IsStep n g values → whole_at n g ≡ values_if values (first_broken 0 values)
whole_is n g values s = ap (whole_groups n g.rows) s.alone ∙ ap whole_outcome s.found

worth_is : (n : ℕ) (g : Goal) (values : List Fraction) → IsStep n g values → StepIsWorth n g
worth_is n g values s = λ e. subst (λ (o : outcome.EliminationOutcome). IsWorth n (map tightened g.rows) o) (sym s.found) s.worth

step_goes : (n left : ℕ) (g : Goal) (values : List Fraction) (old mid new : Search) → IsStep n g values → standing_of mid ≡ standing_of old →
    Breaks (record { left = left; goal = g }) values mid new → Goes n (record { left = left; goal = g }) old new
step_goes n left g values old mid new s e b =
    let t : Task = record { left = left; goal = g } in
    record {
      no_point = whole_is n g values s ∙ b.broken;
      worth = worth_is n g values s;
      stands =
          b.stands ∙ ap (λ (st : Standing). after_values t st (first_broken 0 values)) e ∙
          ap (after_outcome t (standing_of old)) (sym s.found) ∙ ap (after_groups n t (standing_of old)) (sym s.alone);
      paired = b.paired;
    }

step_meets : (n : ℕ) (g : Goal) (values : List Fraction) (numbers : List ℤ) → IsStep n g values → IsWholePoint values numbers → IsMet n g numbers
step_meets n g values numbers s w =
    let m : AreMet n (map tightened g.rows) numbers = met_by n (map tightened g.rows) values numbers (first_broken 0 values) s.worth w.valid refl w.whole in
    record { point = whole_is n g values s ∙ w.whole; alone = s.alone; columns = m.columns; holds = m.holds; fit = w.fit }

by_answer : (n left : ℕ) (g : Goal) (values : List Fraction) (old mid new : Search) (o : Option (Vec ℤ Global)) → IsStep n g values → standing_of mid ≡ standing_of old →
    MatchOption o (Breaks (record { left = left; goal = g }) values mid new) (λ numbers. IsWholePoint values numbers.items) →
    MatchOption o (Goes n (record { left = left; goal = g }) old new) (λ numbers. IsMet n g numbers.items)
by_answer n left g values old mid new None s e b = step_goes n left g values old mid new s e b
by_answer n left g values old mid new (Some numbers) s e b = step_meets n g values numbers.items s b

-- the step at a goal of rows alone that a rational point meets
pub point_step : (n left : ℕ) (g : Goal) (rows : List LinearRow) (values : List Fraction) (old mid new : Search) (o : Option (Vec ℤ Global)) →
    OpensNone (record { left = left; goal = g }) (goal_at_hand mid.walk) old mid → rows ≡ (goal_at_hand mid.walk).rows → outcome.point values ≡ outcome.elimination n rows →
    outcome.EliminationFits n rows → MeetsAll n (map tightened rows) values →
    MatchOption o (Breaks (record { left = left; goal = goal_at_hand mid.walk }) values mid new) (λ numbers. IsWholePoint values numbers.items) →
    StepFits n g × MatchOption o (Goes n (record { left = left; goal = g }) old new) (λ numbers. IsMet n g numbers.items)
point_step n left g rows values old mid new o h r e f m a =
    let k : rows ≡ g.rows = r ∙ ap (λ (x : Goal). x.rows) h.same_goal in
    let s : IsStep n g values = record {
      alone = h.none;
      found = ap (outcome.elimination n) (sym k) ∙ sym e;
      fits = subst (λ (rs : List LinearRow). outcome.EliminationFits n rs) k f;
      worth = subst (λ (rs : List LinearRow). MeetsAll n (map tightened rs) values) k m;
    } in (
      λ z. s.fits,
      by_answer n left g values old mid new o s h.stands
          (subst (λ (x : Goal). MatchOption o (Breaks (record { left = left; goal = x }) values mid new) (λ numbers. IsWholePoint values numbers.items)) h.same_goal a),
    )
