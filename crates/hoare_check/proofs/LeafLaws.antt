-- Rows that contradict one another do so wherever they stand in the same order.
use Rattle.std.proofs.Common.{◌≡◌, ◌∙◌, ℕ, zero, suc, ◌+◌, ◌<◌, ◌≤◌, ◌^◌, ℤ, pos, ◌+ℤ◌, ◌*ℤ◌, ◌<ℤ◌, List, [], ◌∷◌, ◌++◌, length, length-append, append-nil, map, Option, Some, IfSome, Result, Ok, Err, refl, sym, ap, subst, arith}
use Rattle.std.specs.List.{AllByRecursion, AllZip}
use Rattle.std.specs.Result.{OkIff, result_ok}
use Rattle.std.proofs.lemmas.List.{length-map, map-append}
use Rattle.math_facts.specs.Fits.{Fits}
use Rattle.math_facts.specs.Terms.{coefficient}
use Rattle.lin_rows.specs.Rows.{LinearRow, AscendsFrom}
use Rattle.lin_rows.specs.Combinations.{row_at, Multiplies, IsPart, combined, RunFits, Contradicts}
use Rattle.lin_rows.specs.Tightening.{tightened}
use Rattle.hoare_check.specs.Halves.{IsCarried}
use Rattle.hoare_check.proofs.FalseRowLaws.{row_at_map}

-- what holds of the value of a `Some`, where it is one
pub some_of : {T : Type 0} (o : Option T) (v : T) (P : T → Type 0) → o ≡ Some v → IfSome o P → P v
some_of o v P e h = subst (λ (x : Option _). IfSome x P) e h

-- the same of a number that is counted with another number of bits
pub fits_at : {E : Type 0} (r : Result ℕ E) (k : ℕ) (o : Option ℕ) (P : ℕ → Type 0) → o ≡ result_ok r → OkIff r (k < 2 ^ 32) k → P k → IfSome o P
fits_at (Ok v) k o P e h p = subst (λ (x : Option ℕ). IfSome x P) (sym e) (subst P (sym h.1) p)
fits_at (Err z) k o P e h p = subst (λ (x : Option ℕ). IfSome x P) (sym e) tt

-- a row of another list that is the same, taken as often
record TakesSame (rows more : List LinearRow) (p q : ℕ × ℤ) : Type 0 where
  exists : q.0 < length more
  row : row_at rows p.0 ≡ row_at more q.0
  multiplier : p.1 ≡ q.1

combined_same : (number : LinearRow → ℤ) (rows more : List LinearRow) (ps qs : List (ℕ × ℤ)) → AllZip (TakesSame rows more) ps qs → combined number rows ps ≡ combined number more qs
combined_same number rows more [] [] h = refl
combined_same number rows more [] (q ∷ qs) h = absurd h
combined_same number rows more (p ∷ ps) [] h = absurd h
combined_same number rows more (p ∷ ps) (q ∷ qs) h =
    let e : combined number rows ps ≡ combined number more qs = combined_same number rows more ps qs h.1 in
    λ i. (h.0.multiplier i *ℤ number (h.0.row i)) +ℤ e i

run_fits_same : (number : LinearRow → ℤ) (rows more : List LinearRow) (sum : ℤ) (ps qs : List (ℕ × ℤ)) → AllZip (TakesSame rows more) ps qs → RunFits number rows sum ps →
    RunFits number more sum qs
run_fits_same number rows more sum [] [] h r = tt
run_fits_same number rows more sum [] (q ∷ qs) h r = absurd h
run_fits_same number rows more sum (p ∷ ps) [] h r = absurd h
run_fits_same number rows more sum (p ∷ ps) (q ∷ qs) h r =
    let same : (p.1 *ℤ number (row_at rows p.0)) ≡ (q.1 *ℤ number (row_at more q.0)) = λ i. h.0.multiplier i *ℤ number (h.0.row i) in (
      subst Fits same r.0,
      subst (λ (z : ℤ). Fits (sum +ℤ z)) same r.1,
      run_fits_same number rows more (sum +ℤ (q.1 *ℤ number (row_at more q.0))) ps qs h.1 (subst (λ (z : ℤ). RunFits number rows (sum +ℤ z) ps) same r.2),
    )

each_same : (rows more : List LinearRow) (ps qs : List (ℕ × ℤ)) → AllZip (TakesSame rows more) ps qs → AllByRecursion (IsPart rows) ps → AllByRecursion (IsPart more) qs
each_same rows more [] [] h e = tt
each_same rows more [] (q ∷ qs) h e = absurd h
each_same rows more (p ∷ ps) [] h e = absurd h
each_same rows more (p ∷ ps) (q ∷ qs) h e = (
  record {
    exists = h.0.exists;
    multiplies = subst (λ (m : ℤ). Multiplies m (row_at more q.0).kind) h.0.multiplier (subst (λ (r : LinearRow). Multiplies p.1 r.kind) h.0.row e.0.multiplies);
  },
  each_same rows more ps qs h.1 e.1,
)

multipliers_same : (rows more : List LinearRow) (ps qs : List (ℕ × ℤ)) → AllZip (TakesSame rows more) ps qs → AllByRecursion (λ part. Fits part.1) ps → AllByRecursion (λ part. Fits part.1) qs
multipliers_same rows more [] [] h f = tt
multipliers_same rows more [] (q ∷ qs) h f = absurd h
multipliers_same rows more (p ∷ ps) [] h f = absurd h
multipliers_same rows more (p ∷ ps) (q ∷ qs) h f = (subst Fits h.0.multiplier f.0, multipliers_same rows more ps qs h.1 f.1)

contradicts_same : (rows more : List LinearRow) (ps qs : List (ℕ × ℤ)) → AscendsFrom 0 qs → AllZip (TakesSame rows more) ps qs → Contradicts rows ps → Contradicts more qs
contradicts_same rows more ps qs a h c = record {
  ascends = a;
  each = each_same rows more ps qs h c.each;
  multipliers_fit = multipliers_same rows more ps qs h c.multipliers_fit;
  columns_fit = λ k. run_fits_same (λ r. coefficient k r.terms) rows more (pos 0) ps qs h (c.columns_fit k);
  bound_fits = run_fits_same (λ r. r.bound) rows more (pos 0) ps qs h c.bound_fits;
  columns_vanish = λ k. sym (combined_same (λ r. coefficient k r.terms) rows more ps qs h) ∙ c.columns_vanish k;
  bound_negative = subst (λ (z : ℤ). z <ℤ pos 0) (combined_same (λ r. r.bound) rows more ps qs h) c.bound_negative;
}

-- ---- the rows of two lists, one behind the other

row_front : (xs ys : List LinearRow) (k : ℕ) → k < length xs → row_at (xs ++ ys) k ≡ row_at xs k
row_front [] ys k l = absurd (omega (arith, l))
row_front (x ∷ xs) ys zero l = refl
row_front (x ∷ xs) ys (suc k) l = row_front xs ys k (omega (arith, l))

row_behind : (xs ys : List LinearRow) (k : ℕ) → row_at (xs ++ ys) (length xs + k) ≡ row_at ys k
row_behind [] ys k = ap (row_at ys) (let z : 0 + k ≡ k = omega arith in z)
row_behind (x ∷ xs) ys k = ap (row_at (x ∷ (xs ++ ys))) (let z : suc (length xs) + k ≡ suc (length xs + k) = omega arith in z) ∙ row_behind xs ys k

-- ---- behind others

-- the parts of rows that stand behind so many others
abbrev pub moved_by : ℕ → List (ℕ × ℤ) → List (ℕ × ℤ)
moved_by n parts = map (λ part. (n + part.0, part.1)) parts

ascends_lower : (low high : ℕ) (ts : List (ℕ × ℤ)) → low ≤ high → AscendsFrom high ts → AscendsFrom low ts
ascends_lower low high [] l a = tt
ascends_lower low high (t ∷ ts) l a = (let h = a.0 in omega (arith, l, h), a.1)

ascends_behind : (n low : ℕ) (ts : List (ℕ × ℤ)) → AscendsFrom low ts → AscendsFrom (n + low) (moved_by n ts)
ascends_behind n low [] a = tt
ascends_behind n low (t ∷ ts) a = (
  (let h = a.0 in omega (arith, h)),
  ascends_lower ((n + t.0) + 1) (n + (t.0 + 1)) (moved_by n ts) (omega arith) (ascends_behind n (t.0 + 1) ts a.1),
)

takes_behind : (xs ys : List LinearRow) (parts : List (ℕ × ℤ)) → AllByRecursion (IsPart ys) parts → AllZip (TakesSame ys (xs ++ ys)) parts (moved_by (length xs) parts)
takes_behind xs ys [] e = tt
takes_behind xs ys (p ∷ ps) e = (
  record {
    exists = (let n = length-append xs ys in let l = e.0.exists in omega (arith, n, l));
    row = sym (row_behind xs ys p.0);
    multiplier = refl;
  },
  takes_behind xs ys ps e.1,
)

contradicts_behind : (xs ys : List LinearRow) (parts : List (ℕ × ℤ)) → Contradicts ys parts → Contradicts (xs ++ ys) (moved_by (length xs) parts)
contradicts_behind xs ys parts c =
    contradicts_same ys (xs ++ ys) parts (moved_by (length xs) parts)
    (ascends_lower 0 (length xs + 0) (moved_by (length xs) parts) (omega arith) (ascends_behind (length xs) 0 parts c.ascends))
    (takes_behind xs ys parts c.each) c

-- the same of rows that are tightened, of which none stands behind
pub leaf_behind : (xs ys others : List LinearRow) (parts : List (ℕ × ℤ)) → others ≡ [] → Contradicts (map tightened (ys ++ others)) parts →
    Contradicts (map tightened (xs ++ ys)) (moved_by (length xs) parts)
leaf_behind xs ys others parts none c =
    let alone : ys ++ others ≡ ys = ap (λ (l : List LinearRow). ys ++ l) none ∙ append-nil ys in
    let d : Contradicts (map tightened ys) parts = subst (λ (l : List LinearRow). Contradicts (map tightened l) parts) alone c in
    subst (λ (n : ℕ). Contradicts (map tightened (xs ++ ys)) (moved_by n parts)) (length-map xs tightened)
    (subst (λ (l : List LinearRow). Contradicts l (moved_by (length (map tightened xs)) parts)) (sym (map-append tightened xs ys))
    (contradicts_behind (map tightened xs) (map tightened ys) parts d))

-- ---- in place of others

pub carried_front : (count : ℕ) (from to : List LinearRow) (place : ℕ) → place < count → IsCarried count from to place place
carried_front count from to place l = λ front e. (
  (let n = length-append front to in omega (arith, n, l, e)),
  row_front front from place (omega (arith, l, e)) ∙ sym (row_front front to place (omega (arith, l, e))),
)

pub carried_behind : (count : ℕ) (from to : List LinearRow) (place i j k : ℕ) → place ≡ count + i → k ≡ count + j → j < length to → row_at from i ≡ row_at to j → IsCarried count from to place k
carried_behind count from to place i j k p q l same = λ front e. (
  (let n = length-append front to in omega (arith, n, l, e, q)),
  ap (row_at (front ++ from)) (let h : place ≡ length front + i = omega (arith, p, e) in h) ∙ row_behind front from i ∙ same ∙ sym (row_behind front to j) ∙
      ap (row_at (front ++ to)) (let h : length front + j ≡ k = omega (arith, q, e) in h),
)

-- the parts of rows that are carried
abbrev pub AreCarried : ℕ → List LinearRow → List LinearRow → List (ℕ × ℤ) → List (ℕ × ℤ) → Type 0
AreCarried count from to ps qs = AllZip (λ p q. IsCarried count from to p.0 q.0 × (p.1 ≡ q.1)) ps qs

takes_carried : (count : ℕ) (from to front : List LinearRow) (ps qs : List (ℕ × ℤ)) → length front ≡ count → AreCarried count from to ps qs →
    AllByRecursion (IsPart (map tightened (front ++ from))) ps → AllZip (TakesSame (map tightened (front ++ from)) (map tightened (front ++ to))) ps qs
takes_carried count from to front [] [] n h e = tt
takes_carried count from to front [] (q ∷ qs) n h e = absurd h
takes_carried count from to front (p ∷ ps) [] n h e = absurd h
takes_carried count from to front (p ∷ ps) (q ∷ qs) n h e =
    let c = h.0.0 front n in
    let here : p.0 < length (front ++ from) = (let l = e.0.exists in let m = length-map (front ++ from) tightened in omega (arith, l, m)) in (
      record {
        exists = (let l = c.0 in let m = length-map (front ++ to) tightened in omega (arith, l, m));
        row = row_at_map tightened (front ++ from) p.0 here ∙ ap tightened c.1 ∙ sym (row_at_map tightened (front ++ to) q.0 c.0);
        multiplier = h.0.1;
      },
      takes_carried count from to front ps qs n h.1 e.1,
    )

pub carried_contradicts : (count : ℕ) (from to : List LinearRow) (ps qs : List (ℕ × ℤ)) → AreCarried count from to ps qs → AscendsFrom 0 qs → (front : List LinearRow) → length front ≡ count →
    Contradicts (map tightened (front ++ from)) ps → Contradicts (map tightened (front ++ to)) qs
carried_contradicts count from to ps qs h a front n c =
    contradicts_same (map tightened (front ++ from)) (map tightened (front ++ to)) ps qs a (takes_carried count from to front ps qs n h c.each) c

-- ---- one part more

pub ascends_push : (low next : ℕ) (ts : List (ℕ × ℤ)) (t : ℕ × ℤ) → AscendsFrom low ts → AllByRecursion (λ x. x.0 < next) ts → low ≤ t.0 → next ≤ t.0 → AscendsFrom low (ts ++ t ∷ [])
ascends_push low next [] t a b l n = (l, tt)
ascends_push low next (x ∷ xs) t a b l n = (a.0, ascends_push (x.0 + 1) next xs t a.1 b.1 (let h = b.0 in omega (arith, h, n)) n)

pub below_push : (next after : ℕ) (ts : List (ℕ × ℤ)) (t : ℕ × ℤ) → AllByRecursion (λ x. x.0 < next) ts → next ≤ after → t.0 < after → AllByRecursion (λ x. x.0 < after) (ts ++ t ∷ [])
below_push next after [] t b l n = (n, tt)
below_push next after (x ∷ xs) t b l n = ((let h = b.0 in omega (arith, h, l)), below_push next after xs t b.1 l n)
