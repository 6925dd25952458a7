-- The code of one step gives what the step is defined to be.
use Rattle.std.proofs.Common.{◌≡◌, ℕ, ◌<◌, ℤ, pos, negsuc, ◌<ℤ◌, Bool, true, List, Result, Ok, Err, Option, None, Some, map, sym, subst, arith}
use Rattle.std.specs.Prelude.{unsigned_abs, MatchOption}
use Rattle.std.specs.List.{AllByRecursion, flat_map}
use Rattle.std.proofs.Math.Nat.{pos_of_dvd_of_pos}
use Rattle.std.proofs.lemmas.Int.{ints}
use Rattle.fm_elim.specs.declared.types.ElimFault.{ElimFault}
use Rattle.fm_elim.specs.declared.types.ElimFault.TheVariants.{Past, Memory}
use Rattle.fm_elim.specs.Answers.{Exactly}
use Rattle.fm_elim.specs.Quotients.{common}
use Rattle.fm_elim.specs.Folds.{first, others}
use Rattle.fm_elim.specs.Derivations.{DerivedRow, nothing_derived, plus_times, PlusTimesFits, at, is_upper}
use Rattle.fm_elim.specs.Columns.{forced, Eliminated, is_pivot, cleared, ClearedFits, halves, HalvesFit, share, other_share, pair, PairFits, paired_off, CombinedFits, elimination_step_by, StepByFits, elimination_step, EliminationStepFits}
use Rattle.fm_elim.proofs.Lists.{all_always, all_first}
use Rattle.fm_elim.proofs.FractionLaws.{common_is}
use Rattle.fm_elim.proofs.Points.{Anything}
use Rattle.fm_elim.proofs.Multipliers.{less_is}

pub divisor_positive : (k : ℕ) (u : DerivedRow) (b : ℕ) → is_upper k u ≡ true → 0 < common (unsigned_abs (at k u)) b
divisor_positive k u b e =
    let l : pos 0 <ℤ at k u = less_is (pos 0) (at k u) e in
    let p : 0 < unsigned_abs (at k u) = positive_abs (at k u) l in
    pos_of_dvd_of_pos (common_is (unsigned_abs (at k u)) b).0 p
  where
    positive_abs : (z : ℤ) → pos 0 <ℤ z → 0 < unsigned_abs z
    positive_abs (pos n) h = omega (arith, ints)
    positive_abs (negsuc n) h = absurd (omega (arith, ints))

-- further numbers that fit
pub exactly_with : {X : Type 0} (r : Result X ElimFault) (P : X → Type 0) (F G : Type 0) → G → Exactly r P F → Exactly r P (G × F)
exactly_with (Ok x) P F G g h = ((g, h.0), h.1)
exactly_with (Err Past) P F G g h = λ k. h k.1
exactly_with (Err Memory) P F G g h = tt

pub pair_exact : (k : ℕ) (u l none first : DerivedRow) (m n : ℤ) (result : Result DerivedRow ElimFault) → none ≡ nothing_derived → m ≡ share k u l → n ≡ other_share k u l →
    PlusTimesFits none m u × (first ≡ plus_times none m u) → Exactly result (λ r. r ≡ plus_times first n l) (PlusTimesFits first n l) →
    Exactly result (λ r. r ≡ pair k u l) (PairFits k u l)
pair_exact k u l none first m n result e f g h x =
    let h2 : PlusTimesFits nothing_derived (share k u l) u × (first ≡ plus_times nothing_derived (share k u l) u) =
    subst (λ (z : ℤ). PlusTimesFits nothing_derived z u × (first ≡ plus_times nothing_derived z u)) f
    (subst (λ (q : DerivedRow). PlusTimesFits q m u × (first ≡ plus_times q m u)) e h) in
    let x2 : Exactly result (λ r. r ≡ plus_times (plus_times nothing_derived (share k u l) u) (other_share k u l) l) (PlusTimesFits (plus_times nothing_derived (share k u l) u) (other_share k u l) l) =
    subst (λ (q : DerivedRow). Exactly result (λ r. r ≡ plus_times q (other_share k u l) l) (PlusTimesFits q (other_share k u l) l)) h2.1
    (subst (λ (z : ℤ). Exactly result (λ r. r ≡ plus_times first z l) (PlusTimesFits first z l)) g x) in
    exactly_with result (λ r. r ≡ pair k u l) (PlusTimesFits (plus_times nothing_derived (share k u l) u) (other_share k u l) l) (PlusTimesFits nothing_derived (share k u l) u) h2.0 x2

-- ---- the step

-- what is found passes
pub found_passes : (p : DerivedRow → Bool) (rows : List DerivedRow) (e : DerivedRow) → first p rows ≡ Some e → p e ≡ true
found_passes p rows e h =
    (subst (λ (o : Option DerivedRow). MatchOption o (Unit {0}) (λ x. Anything x × (p x ≡ true))) h
    (all_first Anything p rows (all_always Anything rows (λ r. tt)))).1

pub step_forced : (k : ℕ) (rows left : List DerivedRow) (e : DerivedRow) {X : Type 0} (value : X → Eliminated) (result : Result X ElimFault) → first (is_pivot k) rows ≡ Some e → left ≡ others (is_pivot k) rows →
    Exactly result (λ x. value x ≡ record { rows = map (cleared k e) left; aside = forced e }) (AllByRecursion (ClearedFits k e) left) →
    Exactly result (λ x. value x ≡ elimination_step k rows) (EliminationStepFits k rows)
step_forced k rows left e {X = X} value result h l x =
    subst (λ (o : Option DerivedRow). Exactly result (λ y. value y ≡ elimination_step_by k o rows) (StepByFits k o rows)) (sym h)
    (subst (λ (xs : List DerivedRow). Exactly result (λ y. value y ≡ record { rows = map (cleared k e) xs; aside = forced e }) (AllByRecursion (ClearedFits k e) xs)) l x)

pub step_bounded : (k : ℕ) (rows left all : List DerivedRow) {X : Type 0} (value : X → Eliminated) (result : Result X ElimFault) → first (is_pivot k) rows ≡ None → left ≡ rows →
    AllByRecursion (HalvesFit k) left × (all ≡ flat_map (halves k) left) →
    Exactly result (λ x. value x ≡ paired_off k all) (CombinedFits k all) →
    Exactly result (λ x. value x ≡ elimination_step k rows) (EliminationStepFits k rows)
step_bounded k rows left all {X = X} value result h l s x =
    let s2 : AllByRecursion (HalvesFit k) rows × (all ≡ flat_map (halves k) rows) =
    subst (λ (xs : List DerivedRow). AllByRecursion (HalvesFit k) xs × (all ≡ flat_map (halves k) xs)) l s in
    subst (λ (o : Option DerivedRow). Exactly result (λ y. value y ≡ elimination_step_by k o rows) (StepByFits k o rows)) (sym h)
    (exactly_with result (λ y. value y ≡ paired_off k (flat_map (halves k) rows)) (CombinedFits k (flat_map (halves k) rows)) (AllByRecursion (HalvesFit k) rows) s2.0
    (subst (λ (xs : List DerivedRow). Exactly result (λ y. value y ≡ paired_off k xs) (CombinedFits k xs)) s2.1 x))

pub halves_from_step : (k : ℕ) (rows left : List DerivedRow) → first (is_pivot k) rows ≡ None → left ≡ rows → EliminationStepFits k rows → AllByRecursion (HalvesFit k) left
halves_from_step k rows left h l x =
    subst (λ (xs : List DerivedRow). AllByRecursion (HalvesFit k) xs) (sym l)
    (subst (λ (o : Option DerivedRow). StepByFits k o rows) h x).0
