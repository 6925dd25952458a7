-- What the atoms of a leaf add: the sums of the claims that are followed, the target's with the other sign.
use Rattle.std.proofs.Common.{◌≡◌, ◌≢◌, ◌∙◌, ℕ, suc, ◌+◌, ◌<◌, ◌≤◌, ℤ, pos, negsuc, neg_ℤ, ◌+ℤ◌, ◌*ℤ◌, ◌≤ℤ◌, ◌<ℤ◌, Bool, true, false, IsTrue, List, [], ◌∷◌, length, refl, sym, ap, subst, arith, Option, None, Some}
use Rattle.std.specs.Prelude.{not, if◌then◌else◌}
use Rattle.std.proofs.lemmas.Int.{ints}
use Rattle.std.proofs.lemmas.Bool.{eqb-false}
use Rattle.math_facts.specs.Terms.{coefficient, opposite, IsBelow}
use Rattle.math_facts.proofs.TermLaws.{coefficient-opposite}
use Rattle.lin_rows.specs.declared.types.RowKind.TheVariants.{Le}
use Rattle.lin_rows.specs.Rows.{LinearRow, AscendsFrom}
use Rattle.lin_rows.specs.Sums.{is_zero}
use Rattle.lin_rows.specs.Negating.{below_opposite, negated}
use Rattle.lin_rows.specs.Tightening.{content, tightened}
use Rattle.lin_rows.specs.Combinations.{Contradicts}
use Rattle.lin_rows.proofs.Ascending.{AscendsFrom_less, HasNoZero}
use Rattle.lin_rows.proofs.SummedLaws.{AscendsFrom-summed, HasNoZero-summed}
use Rattle.lin_rows.proofs.TighteningLaw.{content_at_least, all_divisible_one}
use Rattle.letter_acts.specs.FrameRows.Rows.{renamed}
use Rattle.nested_itp.specs.NestedPredicates.Sums.{Branch, terms_from, is_not_negative, inequality, coefficients_at, bound_at}
use Rattle.nested_itp.specs.NestedPredicates.Joins.{simplified}
use Rattle.nested_itp.proofs.NestedPredicates.SpellingLaws.{column_sums_length}
use Rattle.nested_itp.specs.NestedRefutations.Refutations.{Claim, TreeSpot, truth_in, View, multiplier, multipliers, stands, is_used, Gathered, leaf_of}
use Rattle.nested_itp.specs.NestedRefutations.Numbers.{LeafNumbersFit}
use Rattle.nested_itp.proofs.NestedRefutations.TruthLaws.{HeldUnless}
use Rattle.nested_itp.proofs.NestedRefutations.RowsLaws.{pairs_counted, claim_row}
use Rattle.nested_itp.proofs.NestedRefutations.SumLaws.{leaf_contradicts}
use Rattle.nested_itp.proofs.NestedRefutations.StopLaws.{LeafReached}
use Rattle.nested_itp.proofs.NestedRefutations.WayLaws.{others, RoleFits, own_sum, Way}
use Rattle.nested_itp.proofs.NestedRefutations.ContentLaws.{DiffersBelow, moved, content_renamed, content_opposite, tightened_back, tightened_bound}
use Rattle.nested_itp.proofs.NestedRefutations.AtomLaws.{times, atom_term, atoms_sum, weights_split, all_may, multipliers_counted, claim_kind}

-- ---- the terms of a sum

is_zero_not : (a : ℤ) → is_zero a ≡ false → a ≢ pos 0
is_zero_not (pos n) e q = eqb-false n 0 e (omega (arith, ints, q))
is_zero_not (negsuc n) e q = absurd (omega (arith, ints, q))

pub terms_kept : (n : ℕ) (numbers : List ℤ) → AscendsFrom n (terms_from n numbers) × HasNoZero (terms_from n numbers) × IsBelow (n + length numbers) (terms_from n numbers)
terms_kept n [] = (tt, tt, tt)
terms_kept n (a ∷ numbers) =
    let h = terms_kept (suc n) numbers in
    let e : suc n + length numbers ≡ n + suc (length numbers) = omega arith in
    by_test (is_zero a) refl (subst (λ (k : ℕ). AscendsFrom k (terms_from (suc n) numbers)) (let q : suc n ≡ n + 1 = omega arith in q) h.0) h.1
    (subst (λ (k : ℕ). IsBelow k (terms_from (suc n) numbers)) e h.2)
  where
    by_test : (z : Bool) → is_zero a ≡ z → AscendsFrom (n + 1) (terms_from (suc n) numbers) → HasNoZero (terms_from (suc n) numbers) → IsBelow (n + suc (length numbers)) (terms_from (suc n) numbers) →
        AscendsFrom n (if z then terms_from (suc n) numbers else (n, a) ∷ terms_from (suc n) numbers) ×
        HasNoZero (if z then terms_from (suc n) numbers else (n, a) ∷ terms_from (suc n) numbers) ×
        IsBelow (n + suc (length numbers)) (if z then terms_from (suc n) numbers else (n, a) ∷ terms_from (suc n) numbers)
    by_test true q x y z = (AscendsFrom_less n (n + 1) (terms_from (suc n) numbers) (omega arith) x, y, z)
    by_test false q x y z = ((omega arith, x), (is_zero_not a q, y), (omega arith, z))

-- ---- one claim

-- the claim's sum at a leaf
abbrev pub sum_row : Claim → Branch → List (ℕ × ℤ) → LinearRow
sum_row c b parts = record { terms = terms_from 0 (coefficients_at b parts c.position); kind = Le; bound = bound_at b parts c.position }

-- what it adds to a column of the system, and to the bound
abbrev pub column_added : Claim → Branch → List (ℕ × ℤ) → ℕ → ℤ
column_added c b parts x = if c.is_denied then neg_ℤ (coefficient x (renamed c.column (sum_row c b parts)).terms) else coefficient x (renamed c.column (sum_row c b parts)).terms

abbrev pub bound_added : Claim → Branch → List (ℕ × ℤ) → ℤ
bound_added c b parts = if c.is_denied then below_opposite (bound_at b parts c.position) else bound_at b parts c.position

-- the columns of the frame are told apart in the system
abbrev pub IsTold : Claim → Type 0
IsTold c = DiffersBelow (length c.position.here) c.column

pub sum_below : (c : Claim) (b : Branch) (parts : List (ℕ × ℤ)) → IsBelow (length c.position.here) (sum_row c b parts).terms
sum_below c b parts =
    let e : 0 + length (coefficients_at b parts c.position) ≡ length c.position.here =
    (let q : 0 + length (coefficients_at b parts c.position) ≡ length (coefficients_at b parts c.position) = omega arith in q) ∙
    column_sums_length b parts c.position.scope.own c.position.upto c.position.here c.position.scope.known in
    subst (λ (n : ℕ). IsBelow n (sum_row c b parts).terms) e (terms_kept 0 (coefficients_at b parts c.position)).2

claim_columns : (c : Claim) (b : Branch) (parts : List (ℕ × ℤ)) (x : ℕ) → coefficient x (claim_row c b parts).terms ≡ column_added c b parts x
claim_columns c b parts x = by_test c.is_denied
  where
    by_test : (d : Bool) → coefficient x (if d then negated (renamed c.column (sum_row c b parts)) else renamed c.column (sum_row c b parts)).terms ≡
        (if d then neg_ℤ (coefficient x (renamed c.column (sum_row c b parts)).terms) else coefficient x (renamed c.column (sum_row c b parts)).terms)
    by_test true = coefficient-opposite x (renamed c.column (sum_row c b parts)).terms
    by_test false = refl

claim_bound : (c : Claim) (b : Branch) (parts : List (ℕ × ℤ)) → (claim_row c b parts).bound ≡ bound_added c b parts
claim_bound c b parts = by_test c.is_denied
  where
    by_test : (d : Bool) → (if d then negated (renamed c.column (sum_row c b parts)) else renamed c.column (sum_row c b parts)).bound ≡
        (if d then below_opposite (bound_at b parts c.position) else bound_at b parts c.position)
    by_test true = refl
    by_test false = refl

-- the terms of a claim's row are without 0, and have the greatest common divisor of the sum
record RowKept (c : Claim) (b : Branch) (parts : List (ℕ × ℤ)) : Type 0 where
  pub not_zero : HasNoZero (claim_row c b parts).terms
  pub divisor : content (claim_row c b parts).terms ≡ content (sum_row c b parts).terms

opposite_kept : (ts : List (ℕ × ℤ)) → HasNoZero ts → HasNoZero (opposite ts)
opposite_kept [] h = tt
opposite_kept (t ∷ ts) h = ((λ (e : neg_ℤ t.1 ≡ pos 0). h.0 (let q : t.1 ≡ pos 0 = omega (arith, ints, e) in q)), opposite_kept ts h.1)

row_kept : (c : Claim) (b : Branch) (parts : List (ℕ × ℤ)) → IsTold c → RowKept c b parts
row_kept c b parts told = record { not_zero = none c.is_denied; divisor = divisor c.is_denied }
  where
    none : (d : Bool) → HasNoZero (if d then negated (renamed c.column (sum_row c b parts)) else renamed c.column (sum_row c b parts)).terms
    none true = opposite_kept (renamed c.column (sum_row c b parts)).terms (HasNoZero-summed (moved c.column (sum_row c b parts).terms))
    none false = HasNoZero-summed (moved c.column (sum_row c b parts).terms)

    renamed_divisor : content (renamed c.column (sum_row c b parts)).terms ≡ content (sum_row c b parts).terms
    renamed_divisor =
        let h = terms_kept 0 (coefficients_at b parts c.position) in
        content_renamed (length c.position.here) c.column told (sum_row c b parts) (sum_below c b parts) h.0 h.1

    divisor : (d : Bool) → content (if d then negated (renamed c.column (sum_row c b parts)) else renamed c.column (sum_row c b parts)).terms ≡ content (sum_row c b parts).terms
    divisor true = content_opposite (renamed c.column (sum_row c b parts)).terms (AscendsFrom-summed (moved c.column (sum_row c b parts).terms)) (HasNoZero-summed (moved c.column (sum_row c b parts).terms)) ∙ renamed_divisor
    divisor false = renamed_divisor

-- where the sum is a truth value it has no term
truth_no_terms : (ts : List (ℕ × ℤ)) (bound : ℤ) (v : Bool) → truth_in (simplified (inequality ts bound)) ≡ Some v → (ts ≡ []) × (is_not_negative bound ≡ v)
truth_no_terms [] bound v e = (refl, same (is_not_negative bound) v e)
  where
    same : (x y : Bool) → Some x ≡ Some y → x ≡ y
    same x y e = cc
truth_no_terms (t ∷ ts) bound v e = absurd (cc)

no_truth_terms : (ts : List (ℕ × ℤ)) (bound : ℤ) → truth_in (simplified (inequality ts bound)) ≡ None → HasNoZero ts → 0 < content ts
no_truth_terms [] bound e h = absurd (cc)
no_truth_terms (t ∷ ts) bound e h = let l : 1 ≤ content (t ∷ ts) = content_at_least t ts 1 h.0 (all_divisible_one (t ∷ ts)) in omega (arith, l)

-- a claim adds its sum, whether its atom stands or it is a truth value that asks nothing
pub claim_adds_columns : (c : Claim) (b : Branch) (parts : List (ℕ × ℤ)) → IsTold c → (st : Bool) (x : ℕ) → (o : Option Bool) →
    truth_in (simplified (inequality (sum_row c b parts).terms (bound_at b parts c.position))) ≡ o → HeldUnless c.is_denied o (IsTrue st) →
    atom_term b parts (λ r. coefficient x r.terms) st c ≡ column_added c b parts x
claim_adds_columns c b parts told true x o e h =
    let k : RowKept c b parts = row_kept c b parts told in
    let g : times b parts c ≡ pos (content (claim_row c b parts).terms) = ap pos (sym k.divisor) in
    ap (λ (m : ℤ). m *ℤ coefficient x (tightened (claim_row c b parts)).terms) g ∙ tightened_back x (claim_row c b parts) (claim_kind c b parts) k.not_zero ∙ claim_columns c b parts x
claim_adds_columns c b parts told false x None e h = absurd (cc)
claim_adds_columns c b parts told false x (Some v) e h =
    let t : (sum_row c b parts).terms ≡ [] = (truth_no_terms (sum_row c b parts).terms (bound_at b parts c.position) v e).0 in
    let z : coefficient x (renamed c.column (sum_row c b parts)).terms ≡ pos 0 =
    ap (λ (ts : List (ℕ × ℤ)). coefficient x (renamed c.column (record { terms = ts; kind = Le; bound = bound_at b parts c.position })).terms) t in
    sym (by_test c.is_denied z)
  where
    by_test : (d : Bool) → coefficient x (renamed c.column (sum_row c b parts)).terms ≡ pos 0 →
        (if d then neg_ℤ (coefficient x (renamed c.column (sum_row c b parts)).terms) else coefficient x (renamed c.column (sum_row c b parts)).terms) ≡ pos 0
    by_test true z = omega (arith, ints, z)
    by_test false z = z

content_none : content [] ≡ 0
unfolding content
content_none = refl

no_times : (z : ℤ) → pos 0 *ℤ z ≡ pos 0
no_times z = omega (arith, ints)

-- a truth value that asks nothing has a bound that is none below 0
asks_nothing : (d : Bool) (z : ℤ) → is_not_negative z ≡ not d → pos 0 ≤ℤ (if d then below_opposite z else z)
asks_nothing true (pos n) q = absurd (cc)
asks_nothing true (negsuc n) q = omega (arith, ints)
asks_nothing false (pos n) q = omega (arith, ints)
asks_nothing false (negsuc n) q = absurd (cc)

pub claim_adds_bound : (c : Claim) (b : Branch) (parts : List (ℕ × ℤ)) → IsTold c → (st : Bool) → (o : Option Bool) →
    truth_in (simplified (inequality (sum_row c b parts).terms (bound_at b parts c.position))) ≡ o → HeldUnless c.is_denied o (IsTrue st) →
    atom_term b parts (λ r. r.bound) st c ≤ℤ bound_added c b parts
claim_adds_bound c b parts told true None e h =
    let k : RowKept c b parts = row_kept c b parts told in
    let g : times b parts c ≡ pos (content (claim_row c b parts).terms) = ap pos (sym k.divisor) in
    let n : 0 < content (sum_row c b parts).terms = no_truth_terms (sum_row c b parts).terms (bound_at b parts c.position) e (terms_kept 0 (coefficients_at b parts c.position)).1 in
    let l : (pos (content (claim_row c b parts).terms) *ℤ (tightened (claim_row c b parts)).bound) ≤ℤ (claim_row c b parts).bound =
    tightened_bound (claim_row c b parts) (claim_kind c b parts) (let d = k.divisor in omega (arith, n, d)) in
    let q : (claim_row c b parts).bound ≡ bound_added c b parts = claim_bound c b parts in
    let w : times b parts c *ℤ (tightened (claim_row c b parts)).bound ≡ pos (content (claim_row c b parts).terms) *ℤ (tightened (claim_row c b parts)).bound =
    ap (λ (m : ℤ). m *ℤ (tightened (claim_row c b parts)).bound) g in
    omega (arith, ints, l, q, w)
claim_adds_bound c b parts told true (Some v) e h =
    let t = truth_no_terms (sum_row c b parts).terms (bound_at b parts c.position) v e in
    let z : times b parts c *ℤ (tightened (claim_row c b parts)).bound ≡ pos 0 =
    ap (λ (ts : List (ℕ × ℤ)). pos (content ts) *ℤ (tightened (claim_row c b parts)).bound) t.0 ∙
    ap (λ (n : ℕ). pos n *ℤ (tightened (claim_row c b parts)).bound) content_none ∙ no_times (tightened (claim_row c b parts)).bound in
    let a : pos 0 ≤ℤ bound_added c b parts = asks_nothing c.is_denied (bound_at b parts c.position) (t.1 ∙ h) in
    omega (arith, ints, z, a)
claim_adds_bound c b parts told false None e h = absurd (cc)
claim_adds_bound c b parts told false (Some v) e h =
    let t : is_not_negative (bound_at b parts c.position) ≡ v = (truth_no_terms (sum_row c b parts).terms (bound_at b parts c.position) v e).1 in
    asks_nothing c.is_denied (bound_at b parts c.position) (t ∙ h)

-- ---- all claims

-- of the claims from number k on those that are followed
abbrev pub columns_added : View → Branch → List (ℕ × ℤ) → ℕ → ℕ → List Claim → ℤ
columns_added v b parts x k [] = pos 0
columns_added v b parts x k (c ∷ cs) = (if is_used v k then column_added c b parts x else pos 0) +ℤ columns_added v b parts x (suc k) cs

abbrev pub bounds_added : View → Branch → List (ℕ × ℤ) → ℕ → List Claim → ℤ
bounds_added v b parts k [] = pos 0
bounds_added v b parts k (c ∷ cs) = (if is_used v k then bound_added c b parts else pos 0) +ℤ bounds_added v b parts (suc k) cs

-- what stands of a leaf's atoms: none of a claim that is not followed, and of one that is followed its atom, or it is a truth value
abbrev pub StandsWell : View → (ℕ → Bool) → Branch → List (ℕ × ℤ) → ℕ → List Claim → Type 0
StandsWell v st b parts k [] = Unit {0}
StandsWell v st b parts k (c ∷ cs) = ((is_used v k ≡ false → st k ≡ false) × (is_used v k ≡ true → HeldUnless c.is_denied (truth_in (simplified (inequality (sum_row c b parts).terms (bound_at b parts c.position)))) (IsTrue (st k))) ×
    IsTold c) × StandsWell v st b parts (suc k) cs

pub atoms_add_columns : (v : View) (st : ℕ → Bool) (b : Branch) (parts : List (ℕ × ℤ)) (x k : ℕ) (cs : List Claim) → StandsWell v st b parts k cs →
    atoms_sum b parts (λ r. coefficient x r.terms) st k cs ≡ columns_added v b parts x k cs
atoms_add_columns v st b parts x k [] h = refl
atoms_add_columns v st b parts x k (c ∷ cs) h =
    let r : atoms_sum b parts (λ r. coefficient x r.terms) st (suc k) cs ≡ columns_added v b parts x (suc k) cs = atoms_add_columns v st b parts x (suc k) cs h.1 in
    let e : atom_term b parts (λ r. coefficient x r.terms) (st k) c ≡ (if is_used v k then column_added c b parts x else pos 0) = by_test (is_used v k) refl in
    omega (arith, ints, r, e)
  where
    by_test : (z : Bool) → is_used v k ≡ z → atom_term b parts (λ r. coefficient x r.terms) (st k) c ≡ (if z then column_added c b parts x else pos 0)
    by_test true q = claim_adds_columns c b parts h.0.2 (st k) x _ refl (h.0.1 q)
    by_test false q = ap (λ (z : Bool). atom_term b parts (λ r. coefficient x r.terms) z c) (h.0.0 q)

pub atoms_add_bound : (v : View) (st : ℕ → Bool) (b : Branch) (parts : List (ℕ × ℤ)) (k : ℕ) (cs : List Claim) → StandsWell v st b parts k cs →
    atoms_sum b parts (λ r. r.bound) st k cs ≤ℤ bounds_added v b parts k cs
atoms_add_bound v st b parts k [] h = omega (arith, ints)
atoms_add_bound v st b parts k (c ∷ cs) h =
    let r : atoms_sum b parts (λ r. r.bound) st (suc k) cs ≤ℤ bounds_added v b parts (suc k) cs = atoms_add_bound v st b parts (suc k) cs h.1 in
    let e : atom_term b parts (λ r. r.bound) (st k) c ≤ℤ (if is_used v k then bound_added c b parts else pos 0) = by_test (is_used v k) refl in
    omega (arith, ints, r, e)
  where
    by_test : (z : Bool) → is_used v k ≡ z → atom_term b parts (λ r. r.bound) (st k) c ≤ℤ (if z then bound_added c b parts else pos 0)
    by_test true q = claim_adds_bound c b parts h.0.2 (st k) _ refl (h.0.1 q)
    by_test false q = let e : atom_term b parts (λ r. r.bound) (st k) c ≡ pos 0 = ap (λ (z : Bool). atom_term b parts (λ r. r.bound) z c) (h.0.0 q) in omega (arith, ints, e)

-- ---- a leaf

-- The rows that are no atoms, and the sums of the claims, come to nothing in each column, and to a bound below 0.
pub record AddsUp (v : View) (root : TreeSpot) (first : Gathered) (more : List LinearRow) (late : List ℕ) (n : ℕ) (b : Branch) (parts : List (ℕ × ℤ)) : Type 0 where
  pub columns : (x : ℕ) → (others (multiplier v n b parts) (λ r. coefficient x r.terms) first.roles first.rows +ℤ
      own_sum v (multiplier v n b parts) (λ r. coefficient x r.terms) (length root.branch.rows) more late) +ℤ columns_added v b parts x 0 v.claims ≡ pos 0
  pub bound : ((others (multiplier v n b parts) (λ r. r.bound) first.roles first.rows +ℤ
      own_sum v (multiplier v n b parts) (λ r. r.bound) (length root.branch.rows) more late) +ℤ bounds_added v b parts 0 v.claims) <ℤ pos 0

-- a leaf that adds up contradicts its rows, if its numbers fit
pub leaf_refutes : (v : View) (root : TreeSpot) (first g : Gathered) (n : ℕ) (b : Branch) (parts : List (ℕ × ℤ)) → (h : LeafReached v root (Way v root first g) g n b parts) →
    StandsWell v (λ i. stands g.roles i n) b parts 0 v.claims → AddsUp v root first h.way.more h.way.late n b parts → LeafNumbersFit (leaf_of v g n b parts) →
    Contradicts g.rows (leaf_of v g n b parts).parts
leaf_refutes v root first g n b parts h st adds fits =
    let ms : List ℤ = multipliers v n b parts g.roles in
    let split = λ (number : LinearRow → ℤ). weights_split v root n b parts h.stands number g.rows b.rows g.roles h.way.pairs in
    let counted : length g.roles ≡ length g.rows = pairs_counted (RoleFits v root b.rows) g.roles g.rows h.way.pairs in
    leaf_contradicts ms g.rows (record {
      may_take = all_may v root n b parts h.contradicts g.roles g.rows h.way.pairs;
      as_many = multipliers_counted v n b parts g.roles ∙ counted;
      columns = λ x.
          (let s = split (λ r. coefficient x r.terms) in
          let w = h.way.sums (multiplier v n b parts) (λ r. coefficient x r.terms) in
          let a = atoms_add_columns v (λ i. stands g.roles i n) b parts x 0 v.claims st in
          let z = adds.columns x in
          omega (arith, ints, s, w, a, z));
      bound =
          (let s = split (λ r. r.bound) in
          let w = h.way.sums (multiplier v n b parts) (λ r. r.bound) in
          let a = atoms_add_bound v (λ i. stands g.roles i n) b parts 0 v.claims st in
          let z = adds.bound in
          omega (arith, ints, s, w, a, z));
    }) fits
