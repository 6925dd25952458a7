-- Decide's refutation of the rows of a word cuts at columns of the word alone.
use Rattle.std.proofs.Common.{◌≡◌, ℕ, zero, suc, ◌+◌, ◌<◌, Bool, true, false, ℤ, List, [], ◌∷◌, ◌++◌, Option, None, Some, length, nat_eq, length-append, refl, sym, subst, arith, if◌then◌else◌}
use Rattle.std.specs.Prelude.{unsigned_abs}
use Rattle.std.specs.List.{AllByRecursion}
use Rattle.frac.specs.Fractions.{Fraction}
use Rattle.lin_rows.specs.Rows.{LinearRow}
use Rattle.farkas_check.specs.Nodes.{PlainNode, cut}
use Rattle.farkas_check.specs.Refutes.{at_most, above}
use Rattle.farkas_check.specs.Trees.{Tree, prefix_of}
use Rattle.fm_elim.specs.Folds.{first}
use Rattle.fm_elim.specs.Derivations.{DerivedRow, inputs, is_false}
use Rattle.fm_elim.specs.Columns.{SetAside, elimination_step}
use Rattle.fm_elim.specs.Values.{value_of}
use Rattle.fm_elim.specs.Elimination as outcome
use Rattle.int_decide.specs.Decisions.{Decision, refuted, whole, gap, beside, under, WhereRefuted}
use Rattle.int_decide.specs.Decide.{first_broken, by_values, by_outcome, decide_rows}
use Rattle.fm_elim.specs.Quotients.{floor}
use Rattle.nwa_base.specs.declared.letters.Letter.{Letter}
use Rattle.letter_acts.specs.Invariant.{Graph}
use Rattle.letter_acts.proofs.ListLemmas.{all_append}
use Rattle.path_rows.specs.Paths.{path_of}
use Rattle.path_decide.specs.Decided.{tight_rows, path_decision}
use Rattle.nested_itp.specs.NestedPredicates.Stamps.{stamps_of}
use Rattle.nested_itp.specs.NestedRefutations.Numbers.{AreCutsAt}
use Rattle.triple_rows.specs.Cuts.{IsCutWithin}
use Rattle.nested_itp.proofs.TripleSteps.StepLaws.{total_is}
use Rattle.nested_itp.proofs.CutLaws.{tree_cuts}

-- ---- a point of the elimination has a value for each column

abbrev pub HasValues : ℕ → outcome.EliminationOutcome → Type 0
HasValues n (outcome.refuted parts) = Unit {0}
HasValues n (outcome.point values) = length values ≡ n

values_unless_false : (n : ℕ) (f : Option DerivedRow) (o : outcome.EliminationOutcome) → HasValues n o → HasValues n (outcome.unless_false f o)
values_unless_false n None o h = h
values_unless_false n (Some r) o h = tt

values_extended : (k : ℕ) (aside : SetAside) (o : outcome.EliminationOutcome) → HasValues k o → HasValues (suc k) (outcome.extended k aside o)
values_extended k aside (outcome.refuted parts) h = tt
values_extended k aside (outcome.point values) h =
    let more : List Fraction = value_of k values aside ∷ [] in
    let a : length (values ++ more) ≡ length values + length more = length-append values more in
    let b : length more ≡ 1 = refl in
    let c : length values ≡ k = h in
    omega (arith, a, b, c)

values_solved : (n : ℕ) (rows : List DerivedRow) → HasValues n (outcome.solve n rows)
values_solved zero rows = values_unless_false zero (first is_false rows) (outcome.point []) refl
values_solved (suc k) rows =
    values_unless_false (suc k) (first is_false rows) (outcome.extended k (elimination_step k rows).aside (outcome.solve k (elimination_step k rows).rows))
    (values_extended k (elimination_step k rows).aside (outcome.solve k (elimination_step k rows).rows) (values_solved k (elimination_step k rows).rows))

-- ---- so the first that is not whole is at one of them

abbrev pub IsBrokenWithin : ℕ → Option (ℕ × Fraction) → Type 0
IsBrokenWithin n None = Unit {0}
IsBrokenWithin n (Some x) = x.0 < n

either_within : (n c : ℕ) (f : Fraction) (later : Option (ℕ × Fraction)) (is_whole : Bool) → c < n → IsBrokenWithin n later →
    IsBrokenWithin n (if is_whole then later else Some (c, f))
either_within n c f later true l h = h
either_within n c f later false l h = l

broken_within : (n c : ℕ) (values : List Fraction) → c + length values ≡ n → IsBrokenWithin n (first_broken c values)
broken_within n c [] e = tt
broken_within n c (f ∷ fs) e =
    let s : length (f ∷ fs) ≡ suc (length fs) = refl in
    either_within n c f (first_broken (suc c) fs) (nat_eq (unsigned_abs f.den) 1) (omega (arith, e, s)) (broken_within n (suc c) fs (omega (arith, e, s)))

-- ---- and the decision cuts there

abbrev pub CutsWithin : ℕ → Decision → Type 0
CutsWithin n d = WhereRefuted d (AllByRecursion (IsCutWithin n))

cut_within : (n c : ℕ) (k : ℤ) (a b : Decision) → c < n → CutsWithin n a → CutsWithin n b → CutsWithin n (under (cut c k) (beside a b))
cut_within n c k (whole x) b l h i = tt
cut_within n c k gap (whole y) l h i = tt
cut_within n c k gap gap l h i = tt
cut_within n c k gap (refuted ms) l h i = tt
cut_within n c k (refuted ns) (whole y) l h i = tt
cut_within n c k (refuted ns) gap l h i = tt
cut_within n c k (refuted ns) (refuted ms) l h i = (l, all_append (IsCutWithin n) ns ms h i)

values_within : (n : ℕ) (broken : ℕ → ℤ → Decision) (values : List Fraction) (x : Option (ℕ × Fraction)) → ((c : ℕ) (k : ℤ) → c < n → CutsWithin n (broken c k)) →
    IsBrokenWithin n x → CutsWithin n (by_values broken values x)
values_within n broken values None f h = tt
values_within n broken values (Some x) f h = f x.0 (floor x.1) h

outcome_within : (n : ℕ) (broken : ℕ → ℤ → Decision) (o : outcome.EliminationOutcome) → ((c : ℕ) (k : ℤ) → c < n → CutsWithin n (broken c k)) → HasValues n o →
    CutsWithin n (by_outcome broken o)
outcome_within n broken (outcome.refuted parts) f h = (tt, tt)
outcome_within n broken (outcome.point values) f h =
    let e : length values ≡ n = h in
    values_within n broken values (first_broken 0 values) f (broken_within n 0 values (omega (arith, e)))

rows_within : (n d : ℕ) (rows : List LinearRow) → CutsWithin n (decide_rows n d rows)
rows_within n zero rows = outcome_within n (λ c k. gap) (outcome.elimination n rows) (λ c k l. tt) (values_solved n (inputs 0 rows))
rows_within n (suc d) rows =
    outcome_within n (λ c k. under (cut c k) (beside (decide_rows n d (rows ++ at_most c k ∷ [])) (decide_rows n d (rows ++ above c k ∷ []))))
    (outcome.elimination n rows)
    (λ c k l. cut_within n c k (decide_rows n d (rows ++ at_most c k ∷ [])) (decide_rows n d (rows ++ above c k ∷ [])) l
    (rows_within n d (rows ++ at_most c k ∷ [])) (rows_within n d (rows ++ above c k ∷ [])))
    (values_solved n (inputs 0 rows))

-- ---- of a word

-- each tree of Decide's own refutation of the rows of a word cuts at columns of the word
pub decided_cuts : (g : Graph) (d : ℕ) (w : List Letter) (nodes : List PlainNode) → path_decision g d w ≡ refuted nodes → (t : Tree) → prefix_of t ≡ nodes →
    AreCutsAt (length (stamps_of g w).columns) t
decided_cuts g d w nodes p t e =
    let n : ℕ = length (path_of g w).column_at in
    let within : AllByRecursion (IsCutWithin n) nodes = subst (CutsWithin n) p (rows_within n d (tight_rows g w)) in
    tree_cuts (length (stamps_of g w).columns) t
    (subst (λ (m : ℕ). AllByRecursion (IsCutWithin m) (prefix_of t)) (total_is g w (path_of g w).column_at n refl refl)
    (subst (AllByRecursion (IsCutWithin n)) (sym e) within))
