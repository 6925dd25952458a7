-- Leaves made of a list of multipliers, one for each row, and a row added behind these: when they combine to `0 <= c` with `c < 0`.
use Rattle.std.proofs.Common.{◌≡◌, ◌∙◌, ℕ, zero, suc, ◌+◌, Bool, true, false, ℤ, pos, negsuc, ◌+ℤ◌, ◌*ℤ◌, ◌≤ℤ◌, ◌<ℤ◌, List, [], ◌∷◌, ◌++◌, length, nat_lt, if◌then◌else◌, refl, sym, ap, subst, arith, append_assoc, length-append}
use Rattle.std.specs.Prelude.{map}
use Rattle.std.specs.List.{AllByRecursion}
use Rattle.std.proofs.lemmas.Int.{ints}
use Rattle.std.proofs.lemmas.Bool.{lt-ltb}
use Rattle.math_facts.specs.Terms.{coefficient, dot}
use Rattle.math_facts.proofs.Whole.{product_comm, product_one_left}
use Rattle.math_facts.proofs.TermLaws.{dot-append, coefficient-scaled}
use Rattle.math_facts.proofs.Division.{floor_below}
use Rattle.lin_rows.specs.declared.types.RowKind.{RowKind}
use Rattle.lin_rows.specs.declared.types.RowKind.TheVariants.{Le, Eq}
use Rattle.lin_rows.specs.Rows.{LinearRow, AscendsFrom}
use Rattle.lin_rows.specs.Sums.{is_zero, led_by, added_at, summed}
use Rattle.lin_rows.specs.Tightening.{all_divisible, content, divided, tightened_by, tightened}
use Rattle.lin_rows.specs.Combinations.{row_at, Multiplies, IsPart, combined}
use Rattle.lin_rows.proofs.Ascending.{AscendsFrom_less}
use Rattle.lin_rows.proofs.SummedLaws.{dot-summed}
use Rattle.lin_rows.proofs.TighteningLaw.{content_divides, scaled-divided}
use Rattle.fm_elim.specs.Worth.{Combines}
use Rattle.fm_elim.proofs.Lists.{all_append}
use Rattle.fm_elim.proofs.Multipliers.{combined_as_dot}
use Rattle.letter_acts.specs.FrameRows.Rows.{columns_from}
use Rattle.rank_lasso.specs.RankingSystem.RankingSystem.{weighted, taken_by}

-- ---- weighted numbers

-- the numbers with the columns from n on, without those that are 0
abbrev pub terms_from : ℕ → List ℤ → List (ℕ × ℤ)
terms_from n [] = []
terms_from n (z ∷ zs) = led_by n z (terms_from (suc n) zs)

ascends_from : (n : ℕ) (zs : List ℤ) → AscendsFrom n (terms_from n zs)
ascends_from n [] = tt
ascends_from n (z ∷ zs) = by_test (is_zero z) (ascends_from (suc n) zs)
  where
    by_test : (b : Bool) → AscendsFrom (suc n) (terms_from (suc n) zs) → AscendsFrom n (if b then terms_from (suc n) zs else (n, z) ∷ terms_from (suc n) zs)
    by_test true h = AscendsFrom_less n (suc n) (terms_from (suc n) zs) (omega arith) h
    by_test false h = (omega arith, subst (λ (k : ℕ). AscendsFrom k (terms_from (suc n) zs)) (let e : suc n ≡ n + 1 = omega arith in e) h)

-- a column before all others is added in front
in_front : (n : ℕ) (z : ℤ) (ts : List (ℕ × ℤ)) → AscendsFrom (suc n) ts → added_at n z ts ≡ led_by n z ts
in_front n z [] h = refl
in_front n z (t ∷ ts) h = let l = h.0 in let e : nat_lt n t.0 ≡ true = lt-ltb n t.0 (omega (arith, l)) in rw e

pub summed_weighted : (n : ℕ) (zs : List ℤ) → summed (weighted n zs) ≡ terms_from n zs
summed_weighted n [] = refl
summed_weighted n (z ∷ zs) = ap (added_at n z) (summed_weighted (suc n) zs) ∙ in_front n z (terms_from (suc n) zs) (ascends_from (suc n) zs)

-- the sum of the products in pairs
abbrev pub paired : List ℤ → List ℤ → ℤ
paired [] ys = pos 0
paired (x ∷ xs) [] = pos 0
paired (x ∷ xs) (y ∷ ys) = (x *ℤ y) +ℤ paired xs ys

pub paired_comm : (xs ys : List ℤ) → paired xs ys ≡ paired ys xs
paired_comm [] [] = refl
paired_comm [] (y ∷ ys) = refl
paired_comm (x ∷ xs) [] = refl
paired_comm (x ∷ xs) (y ∷ ys) =
    let e : x *ℤ y ≡ y *ℤ x = product_comm x y in
    let f : paired xs ys ≡ paired ys xs = paired_comm xs ys in
    omega (arith, ints)

pub paired_zero : (xs ys : List ℤ) → AllByRecursion (λ y. y ≡ pos 0) ys → paired xs ys ≡ pos 0
paired_zero [] ys h = refl
paired_zero (x ∷ xs) [] h = refl
paired_zero (x ∷ xs) (y ∷ ys) h =
    let e : x *ℤ y ≡ x *ℤ pos 0 = ap (λ (z : ℤ). x *ℤ z) h.0 in
    let f : paired xs ys ≡ pos 0 = paired_zero xs ys h.1 in
    omega (arith, ints)

pub dot_weighted : (point : ℕ → ℤ) (n : ℕ) (zs : List ℤ) → dot point (weighted n zs) ≡ paired zs (map point (columns_from n (length zs)))
dot_weighted point n [] = refl
dot_weighted point n (z ∷ zs) = ap (λ (y : ℤ). (z *ℤ point n) +ℤ y) (dot_weighted point (suc n) zs)

-- ---- rows by their numbers

row_behind : (front : List LinearRow) (r : LinearRow) (rest : List LinearRow) → row_at (front ++ r ∷ rest) (length front) ≡ r
row_behind [] r rest = refl
row_behind (f ∷ front) r rest = row_behind front r rest

one_longer : (front : List LinearRow) (r : LinearRow) → length (front ++ r ∷ []) ≡ suc (length front)
one_longer front r = let e = length-append front (r ∷ []) in omega (arith, e)

pub rows_listed : (f : LinearRow → ℤ) (front rows back : List LinearRow) (n : ℕ) → n ≡ length front →
    map (λ i. f (row_at (front ++ (rows ++ back)) i)) (columns_from n (length rows)) ≡ map f rows
rows_listed f front [] back n e = refl
rows_listed f front (r ∷ rows) back n e =
    let here : f (row_at (front ++ (r ∷ (rows ++ back))) n) ≡ f r =
    ap (λ (i : ℕ). f (row_at (front ++ (r ∷ (rows ++ back))) i)) e ∙ ap f (row_behind front r (rows ++ back)) in
    let l = one_longer front r in
    let same : (front ++ r ∷ []) ++ (rows ++ back) ≡ front ++ (r ∷ (rows ++ back)) = append_assoc front (r ∷ []) (rows ++ back) in
    let rest : map (λ i. f (row_at (front ++ (r ∷ (rows ++ back))) i)) (columns_from (suc n) (length rows)) ≡ map f rows =
    subst (λ (v : List LinearRow). map (λ i. f (row_at v i)) (columns_from (suc n) (length rows)) ≡ map f rows) same
    (rows_listed f (front ++ r ∷ []) rows back (suc n) (omega (arith, e, l))) in
    cc

-- the combination of a number of each row, by a leaf with these multipliers and m for the last row
pub combined_leaf : (f : LinearRow → ℤ) (rows : List LinearRow) (last : LinearRow) (zs : List ℤ) (m : ℤ) → length zs ≡ length rows →
    combined f (rows ++ last ∷ []) (summed (weighted 0 zs) ++ (length rows, m) ∷ []) ≡ paired zs (map f rows) +ℤ (m *ℤ f last)
combined_leaf f rows last zs m l =
    let all : List LinearRow = rows ++ last ∷ [] in
    let point : ℕ → ℤ = λ i. f (row_at all i) in
    let a : combined f all (summed (weighted 0 zs) ++ (length rows, m) ∷ []) ≡ dot point (summed (weighted 0 zs) ++ (length rows, m) ∷ []) =
    combined_as_dot f all (summed (weighted 0 zs) ++ (length rows, m) ∷ []) in
    let b : dot point (summed (weighted 0 zs) ++ (length rows, m) ∷ []) ≡ dot point (summed (weighted 0 zs)) +ℤ dot point ((length rows, m) ∷ []) =
    dot-append point (summed (weighted 0 zs)) ((length rows, m) ∷ []) in
    let c : dot point (summed (weighted 0 zs)) ≡ dot point (weighted 0 zs) = dot-summed point (weighted 0 zs) in
    let d : dot point (weighted 0 zs) ≡ paired zs (map point (columns_from 0 (length zs))) = dot_weighted point 0 zs in
    let e : map point (columns_from 0 (length zs)) ≡ map f rows =
    ap (λ (k : ℕ). map point (columns_from 0 k)) l ∙ rows_listed f [] rows (last ∷ []) 0 refl in
    let g : paired zs (map point (columns_from 0 (length zs))) ≡ paired zs (map f rows) = ap (paired zs) e in
    let h : m *ℤ point (length rows) ≡ m *ℤ f last = ap (λ (r : LinearRow). m *ℤ f r) (row_behind rows last []) in
    omega (arith, ints)

-- ---- the parts of such a leaf

-- the multiplier of an inequality is not negative
abbrev pub MayStand : RowKind → ℤ → Type 0
MayStand Le z = pos 0 ≤ℤ z
MayStand Eq z = Unit {0}

abbrev pub MultipliersStand : List LinearRow → List ℤ → Type 0
MultipliersStand [] zs = Unit {0}
MultipliersStand (r ∷ rows) [] = Unit {0}
MultipliersStand (r ∷ rows) (z ∷ zs) = MayStand r.kind z × MultipliersStand rows zs

multiplies : (kind : RowKind) (z : ℤ) → MayStand kind z → is_zero z ≡ false → Multiplies z kind
multiplies Le (pos zero) h e = absurd (cc)
multiplies Le (pos (suc n)) h e = omega (arith, ints)
multiplies Le (negsuc n) h e = absurd (omega (arith, ints))
multiplies Eq (pos zero) h e = absurd (cc)
multiplies Eq (pos (suc n)) h e = λ f. absurd (omega (arith, ints, f))
multiplies Eq (negsuc n) h e = λ f. absurd (omega (arith, ints, f))

parts_each : (front rows back : List LinearRow) (zs : List ℤ) (n : ℕ) → n ≡ length front → length zs ≡ length rows → MultipliersStand rows zs →
    AllByRecursion (IsPart (front ++ (rows ++ back))) (terms_from n zs)
parts_each front rows back [] n e l h = tt
parts_each front [] back (z ∷ zs) n e l h = absurd (omega (arith, l))
parts_each front (r ∷ rows) back (z ∷ zs) n e l h =
    let k = one_longer front r in
    by_test (is_zero z) refl
    (subst (λ (v : List LinearRow). AllByRecursion (IsPart v) (terms_from (suc n) zs)) (append_assoc front (r ∷ []) (rows ++ back))
    (parts_each (front ++ r ∷ []) rows back zs (suc n) (omega (arith, e, k)) (omega (arith, l)) h.1))
  where
    part : is_zero z ≡ false → IsPart (front ++ (r ∷ (rows ++ back))) (n, z)
    part f = record {
      exists = let k = length-append front (r ∷ (rows ++ back)) in omega (arith, k, e);
      multiplies = subst (λ (q : LinearRow). Multiplies z q.kind)
          (sym (ap (λ (i : ℕ). row_at (front ++ (r ∷ (rows ++ back))) i) e ∙ row_behind front r (rows ++ back))) (multiplies r.kind z h.0 f);
    }

    by_test : (b : Bool) → is_zero z ≡ b → AllByRecursion (IsPart (front ++ (r ∷ (rows ++ back)))) (terms_from (suc n) zs) →
        AllByRecursion (IsPart (front ++ (r ∷ (rows ++ back)))) (if b then terms_from (suc n) zs else (n, z) ∷ terms_from (suc n) zs)
    by_test true f rest = rest
    by_test false f rest = (part f, rest)

ascends_with : (k : ℕ) (zs : List ℤ) (n : ℕ) (m : ℤ) → n ≡ k + length zs → AscendsFrom k (terms_from k zs ++ (n, m) ∷ [])
ascends_with k [] n m e = (omega (arith, e), tt)
ascends_with k (z ∷ zs) n m e = by_test (is_zero z) (ascends_with (suc k) zs n m (omega (arith, e)))
  where
    by_test : (b : Bool) → AscendsFrom (suc k) (terms_from (suc k) zs ++ (n, m) ∷ []) →
        AscendsFrom k ((if b then terms_from (suc k) zs else (k, z) ∷ terms_from (suc k) zs) ++ (n, m) ∷ [])
    by_test true h = AscendsFrom_less k (suc k) (terms_from (suc k) zs ++ (n, m) ∷ []) (omega arith) h
    by_test false h = (omega arith, subst (λ (i : ℕ). AscendsFrom i (terms_from (suc k) zs ++ (n, m) ∷ [])) (let f : suc k ≡ k + 1 = omega arith in f) h)

-- ---- the row that is added, tightened

-- an inequality divided by g and taken so often has its own coefficients, and a bound that is not greater
record TakenTimes (g : ℕ) (ts : List (ℕ × ℤ)) (b : ℤ) : Type 0 where
  coefficients : (c : ℕ) → pos (taken_by g) *ℤ coefficient c (tightened_by g (record { terms = ts; kind = Le; bound = b })).terms ≡ coefficient c ts
  bound : (pos (taken_by g) *ℤ (tightened_by g (record { terms = ts; kind = Le; bound = b })).bound) ≤ℤ b
  kind : (tightened_by g (record { terms = ts; kind = Le; bound = b })).kind ≡ Le
  often : pos 0 <ℤ pos (taken_by g)

taken_times : (ts : List (ℕ × ℤ)) (b : ℤ) (g : ℕ) → content ts ≡ g → TakenTimes g ts b
taken_times ts b zero e = record {
  coefficients = λ c. product_one_left (coefficient c ts);
  bound = let z : pos 1 *ℤ b ≡ b = product_one_left b in omega (arith, ints);
  kind = refl;
  often = omega (arith, ints);
}
taken_times ts b (suc g) e =
    let v : all_divisible (suc g) ts ≡ true = subst (λ (n : ℕ). all_divisible n ts ≡ true) e (content_divides ts (omega arith)) in
    record {
      coefficients = λ c. sym (coefficient-scaled c (pos (suc g)) (divided (suc g) ts)) ∙ ap (coefficient c) (scaled-divided (suc g) ts (omega arith) v);
      bound = floor_below (suc g) b (omega arith);
      kind = refl;
      often = omega (arith, ints);
    }

-- ---- the leaf

pub leaf_combines : (rows : List LinearRow) (ts : List (ℕ × ℤ)) (b : ℤ) (zs : List ℤ) → length zs ≡ length rows → MultipliersStand rows zs →
    ((c : ℕ) → paired zs (map (λ r. coefficient c r.terms) rows) +ℤ coefficient c ts ≡ pos 0) → (paired zs (map (λ r. r.bound) rows) +ℤ b) <ℤ pos 0 →
    Combines (rows ++ tightened (record { terms = ts; kind = Le; bound = b }) ∷ []) (summed (weighted 0 zs) ++ (length rows, pos (taken_by (content ts))) ∷ [])
leaf_combines rows ts b zs l h v n =
    let r : LinearRow = record { terms = ts; kind = Le; bound = b } in
    let m : ℤ = pos (taken_by (content ts)) in
    let k = taken_times ts b (content ts) refl in
    let all : List LinearRow = rows ++ tightened r ∷ [] in
    let e = summed_weighted 0 zs in
    let ends = length-append rows (tightened r ∷ []) in
    record {
      ascends = subst (λ (x : List (ℕ × ℤ)). AscendsFrom 0 (x ++ (length rows, m) ∷ [])) (sym e) (ascends_with 0 zs (length rows) m (omega (arith, l)));
      each = all_append (IsPart all) (summed (weighted 0 zs)) ((length rows, m) ∷ [])
          (subst (AllByRecursion (IsPart all)) (sym e) (parts_each [] rows (tightened r ∷ []) zs 0 refl l h)) (
            record {
              exists = omega (arith, ends);
              multiplies = subst (λ (q : LinearRow). Multiplies m q.kind) (sym (row_behind rows (tightened r) [])) (subst (Multiplies m) (sym k.kind) k.often);
            },
            tt,
          );
      columns_vanish = λ c.
          (let a = combined_leaf (λ q. coefficient c q.terms) rows (tightened r) zs m l in
          let f = k.coefficients c in
          let i = v c in
          omega (arith, ints, a, f, i));
      bound_negative =
          (let a = combined_leaf (λ q. q.bound) rows (tightened r) zs m l in
          let f = k.bound in
          omega (arith, ints, a, f, n));
    }
