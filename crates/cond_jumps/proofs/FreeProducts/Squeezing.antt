-- Lists of which some places are left out, and rows over what stays.
use Rattle.std.proofs.Common.{◌≡◌, ℕ, zero, suc, ◌+◌, ◌<◌, ◌≤◌, Bool, true, false, ℤ, ◌+ℤ◌, ◌*ℤ◌, List, [], ◌∷◌, ◌++◌, map, length, drop, if◌then◌else◌, refl, ap, ◌∙◌, arith}
use Rattle.std.specs.List.{AllByRecursion}
use Rattle.math_facts.specs.Terms.{dot}
use Rattle.lin_rows.specs.Points.{point_of}
use Rattle.cond_jumps.specs.FreeProducts.Letters.{staying}

-- the members whose places, from n on, are not left out
abbrev pub squeezed : (ℕ → Bool) → ℕ → List ℤ → List ℤ
squeezed out n [] = []
squeezed out n (v ∷ vs) = if out n then squeezed out (suc n) vs else v ∷ squeezed out (suc n) vs

-- k members for the places from n on: where one is left out what the point has there, else the next of the list
abbrev pub spread : (ℕ → Bool) → (ℕ → ℤ) → ℕ → ℕ → List ℤ → List ℤ
spread out point n zero vs = []
spread out point n (suc k) vs =
    if out n then point n ∷ spread out point (suc n) k vs else point_of vs 0 ∷ spread out point (suc n) k (drop 1 vs)

-- ---- what stays

-- a member that stays stands at its renumbered place
pub point_of-squeezed : (out : ℕ → Bool) (n k m : ℕ) (vs : List ℤ) → m ≡ n + k → out m ≡ false → point_of (squeezed out n vs) (staying out n k) ≡ point_of vs k
point_of-squeezed out n k m [] e f = refl
point_of-squeezed out n zero m (v ∷ vs) e f =
    let g : n ≡ m = omega (arith, e) in
    ap (λ (b : Bool). point_of (if b then squeezed out (suc n) vs else v ∷ squeezed out (suc n) vs) 0) (ap out g ∙ f)
point_of-squeezed out n (suc k) m (v ∷ vs) e f = by_test (out n) (point_of-squeezed out (suc n) k m vs (omega (arith, e)) f)
  where
    by_test : (b : Bool) → point_of (squeezed out (suc n) vs) (staying out (suc n) k) ≡ point_of vs k →
        point_of (if b then squeezed out (suc n) vs else v ∷ squeezed out (suc n) vs) (if b then staying out (suc n) k else suc (staying out (suc n) k)) ≡ point_of vs k
    by_test true h = h
    by_test false h = h

pub squeezed-append : (out : ℕ → Bool) (n m : ℕ) (xs ys : List ℤ) → m ≡ n + length xs → squeezed out n (xs ++ ys) ≡ squeezed out n xs ++ squeezed out m ys
squeezed-append out n m [] ys e = let g : n ≡ m = omega (arith, e) in ap (λ (j : ℕ). squeezed out j ys) g
squeezed-append out n m (x ∷ xs) ys e = by_test (out n) (squeezed-append out (suc n) m xs ys (omega (arith, e)))
  where
    by_test : (b : Bool) → squeezed out (suc n) (xs ++ ys) ≡ squeezed out (suc n) xs ++ squeezed out m ys →
        (if b then squeezed out (suc n) (xs ++ ys) else x ∷ squeezed out (suc n) (xs ++ ys)) ≡ (if b then squeezed out (suc n) xs else x ∷ squeezed out (suc n) xs) ++ squeezed out m ys
    by_test true h = h
    by_test false h = ap (λ (zs : List ℤ). x ∷ zs) h

-- none of the places is left out
pub all_stay : (out : ℕ → Bool) (n : ℕ) (vs : List ℤ) → ((c : ℕ) → n ≤ c → c < n + length vs → out c ≡ false) → squeezed out n vs ≡ vs
all_stay out n [] h = refl
all_stay out n (v ∷ vs) h =
    ap (λ (b : Bool). if b then squeezed out (suc n) vs else v ∷ squeezed out (suc n) vs) (h n (omega arith) (omega arith)) ∙
    ap (λ (zs : List ℤ). v ∷ zs) (all_stay out (suc n) vs (λ c l u. h c (omega arith) (omega arith)))

-- each of the places is left out
pub none_stays : (out : ℕ → Bool) (n : ℕ) (vs : List ℤ) → ((c : ℕ) → n ≤ c → c < n + length vs → out c ≡ true) → squeezed out n vs ≡ []
none_stays out n [] h = refl
none_stays out n (v ∷ vs) h =
    ap (λ (b : Bool). if b then squeezed out (suc n) vs else v ∷ squeezed out (suc n) vs) (h n (omega arith) (omega arith)) ∙
    none_stays out (suc n) vs (λ c l u. h c (omega arith) (omega arith))

pub length-squeezed : (out : ℕ → Bool) (n : ℕ) (vs : List ℤ) → length (squeezed out n vs) ≡ staying out n (length vs)
length-squeezed out n [] = refl
length-squeezed out n (v ∷ vs) = by_test (out n) (length-squeezed out (suc n) vs)
  where
    by_test : (b : Bool) → length (squeezed out (suc n) vs) ≡ staying out (suc n) (length vs) →
        length (if b then squeezed out (suc n) vs else v ∷ squeezed out (suc n) vs) ≡ (if b then staying out (suc n) (length vs) else suc (staying out (suc n) (length vs)))
    by_test true h = h
    by_test false h = ap suc h

-- ---- and back

pub length-spread : (out : ℕ → Bool) (point : ℕ → ℤ) (n k : ℕ) (vs : List ℤ) → length (spread out point n k vs) ≡ k
length-spread out point n zero vs = refl
length-spread out point n (suc k) vs = by_test (out n) (length-spread out point (suc n) k vs) (length-spread out point (suc n) k (drop 1 vs))
  where
    by_test : (b : Bool) → length (spread out point (suc n) k vs) ≡ k → length (spread out point (suc n) k (drop 1 vs)) ≡ k →
        length (if b then point n ∷ spread out point (suc n) k vs else point_of vs 0 ∷ spread out point (suc n) k (drop 1 vs)) ≡ suc k
    by_test true g h = ap suc g
    by_test false g h = ap suc h

pub squeezed-spread : (out : ℕ → Bool) (point : ℕ → ℤ) (n k : ℕ) (vs : List ℤ) → length vs ≡ staying out n k → squeezed out n (spread out point n k vs) ≡ vs
squeezed-spread out point n zero [] l = refl
squeezed-spread out point n zero (v ∷ vs) l = absurd (omega (arith, l))
squeezed-spread out point n (suc k) vs l = by_test (out n) refl l (λ us. squeezed-spread out point (suc n) k us)
  where
    next : (us : List ℤ) → out n ≡ false → length us ≡ suc (staying out (suc n) k) → (length (drop 1 us) ≡ staying out (suc n) k → squeezed out (suc n) (spread out point (suc n) k (drop 1 us)) ≡ (drop 1 us)) →
        squeezed out n (point_of us 0 ∷ spread out point (suc n) k (drop 1 us)) ≡ us
    next [] f l h = absurd (omega (arith, l))
    next (u ∷ us) f l h =
        let zs : List ℤ = spread out point (suc n) k us in
        ap (λ (b : Bool). if b then squeezed out (suc n) zs else u ∷ squeezed out (suc n) zs) f ∙ ap (λ (zs : List ℤ). u ∷ zs) (h (omega (arith, l)))

    by_test : (b : Bool) → out n ≡ b → length vs ≡ (if b then staying out (suc n) k else suc (staying out (suc n) k)) → ((us : List ℤ) → length us ≡ staying out (suc n) k → squeezed out (suc n) (spread out point (suc n) k us) ≡ us) →
        squeezed out n (if b then point n ∷ spread out point (suc n) k vs else point_of vs 0 ∷ spread out point (suc n) k (drop 1 vs)) ≡ vs
    by_test true f l h =
        let zs : List ℤ = spread out point (suc n) k vs in
        ap (λ (b : Bool). if b then squeezed out (suc n) zs else point n ∷ squeezed out (suc n) zs) f ∙ h vs l
    by_test false f l h = next vs f l (h (drop 1 vs))

-- what is left out has the value of the point
pub point_of-spread : (out : ℕ → Bool) (point : ℕ → ℤ) (n k i m : ℕ) (vs : List ℤ) → i < k → m ≡ n + i → out m ≡ true → point_of (spread out point n k vs) i ≡ point m
point_of-spread out point n zero i m vs l e f = absurd (omega arith)
point_of-spread out point n (suc k) zero m vs l e f =
    let g : n ≡ m = omega (arith, e) in
    ap (λ (b : Bool). point_of (if b then point n ∷ spread out point (suc n) k vs else point_of vs 0 ∷ spread out point (suc n) k (drop 1 vs)) 0) (ap out g ∙ f) ∙ ap point g
point_of-spread out point n (suc k) (suc i) m vs l e f =
    by_test (out n) (point_of-spread out point (suc n) k i m vs (omega arith) (omega (arith, e)) f) (point_of-spread out point (suc n) k i m (drop 1 vs) (omega arith) (omega (arith, e)) f)
  where
    by_test : (b : Bool) → point_of (spread out point (suc n) k vs) i ≡ point m → point_of (spread out point (suc n) k (drop 1 vs)) i ≡ point m →
        point_of (if b then point n ∷ spread out point (suc n) k vs else point_of vs 0 ∷ spread out point (suc n) k (drop 1 vs)) (suc i) ≡ point m
    by_test true g h = g
    by_test false g h = h

-- ---- rows

-- terms over what stays have their value at the renumbered columns
pub dot-renumbered : (out : ℕ → Bool) (vs : List ℤ) (ts : List (ℕ × ℤ)) → AllByRecursion (λ t. out t.0 ≡ false) ts →
    dot (point_of (squeezed out 0 vs)) (map (λ t. (staying out 0 t.0, t.1)) ts) ≡ dot (point_of vs) ts
dot-renumbered out vs [] h = refl
dot-renumbered out vs (t ∷ ts) h =
    let x : point_of (squeezed out 0 vs) (staying out 0 t.0) ≡ point_of vs t.0 = point_of-squeezed out 0 t.0 t.0 vs (omega arith) h.0 in
    let y : dot (point_of (squeezed out 0 vs)) (map (λ t. (staying out 0 t.0, t.1)) ts) ≡ dot (point_of vs) ts = dot-renumbered out vs ts h.1 in
    λ i. (t.1 *ℤ x i) +ℤ y i
