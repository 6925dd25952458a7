-- Lists of columns as a point reads them.
use Rattle.std.proofs.Common.{◌≡◌, ◌↔◌, ◌∙◌, ℕ, zero, suc, ◌+◌, ◌<◌, ℤ, List, [], ◌∷◌, ◌++◌, length, refl, ap, arith}
use Rattle.std.specs.Prelude.{map, slice_index, slice_set}
use Rattle.std.specs.List.{AllByRecursion}
use Rattle.std.proofs.lemmas.List.{map-set, length-map}
use Rattle.lin_rows.specs.Points.{point_of}
use Rattle.letter_acts.specs.Values.{picked, put_all}
use Rattle.path_rows.specs.Versions.{written_over}
use Rattle.letter_acts.specs.FrameRows.Rows.{columns_from}
use Rattle.path_rows.specs.Solutions.{read}

pub all_joined : {X : Type 0} (P : X → Type 0) (xs ys : List X) → AllByRecursion P (xs ++ ys) ↔ (AllByRecursion P xs × AllByRecursion P ys)
all_joined P [] ys = (λ h. (tt, h), λ h. h.1)
all_joined P (x ∷ xs) ys =
    let r = all_joined P xs ys in
    (λ h. ((h.0, (r.0 h.1).0), (r.0 h.1).1), λ h. (h.0.0, r.1 (h.0.1, h.1)))

-- what follows member by member from two facts
pub all_from : {X : Type 0} (W P Q : X → Type 0) → ((x : X) → W x → P x → Q x) → (xs : List X) → AllByRecursion W xs → AllByRecursion P xs → AllByRecursion Q xs
all_from W P Q f [] w h = tt
all_from W P Q f (x ∷ xs) w h = (f x w.0 h.0, all_from W P Q f xs w.1 h.1)

-- ---- numbers one after the other

pub length-columns_from : (n k : ℕ) → length (columns_from n k) ≡ k
length-columns_from n zero = refl
length-columns_from n (suc k) = ap suc (length-columns_from (suc n) k)

pub columns_split : (n a b m : ℕ) → m ≡ n + a → columns_from n (a + b) ≡ columns_from n a ++ columns_from m b
columns_split n zero b m e =
    ap (columns_from n) (let z : 0 + b ≡ b = omega arith in z) ∙ ap (λ (k : ℕ). columns_from k b) (let i : n ≡ m = omega (arith, e) in i)
columns_split n (suc a) b m e =
    ap (columns_from n) (let z : suc a + b ≡ suc (a + b) = omega arith in z) ∙
    ap (λ (l : List ℕ). n ∷ l) (columns_split (suc n) a b m (omega (arith, e)))

-- ---- what a point reads

pub length-read : (point : ℕ → ℤ) (here : List ℕ) → length (read point here) ≡ length here
length-read point here = length-map here point

pub length-read_from : (point : ℕ → ℤ) (n k : ℕ) → length (read point (columns_from n k)) ≡ k
length-read_from point n k = length-map (columns_from n k) point ∙ length-columns_from n k

pub read_at : (point : ℕ → ℤ) (here : List ℕ) (c : ℕ) → c < length here → point_of (read point here) c ≡ point (slice_index here c)
read_at point [] c l = absurd (omega arith)
read_at point (x ∷ xs) zero l = refl
read_at point (x ∷ xs) (suc c) l = read_at point xs c (omega arith)

pub read_written : (point : ℕ → ℤ) (here cs news : List ℕ) → read point (written_over here cs news) ≡ put_all (read point here) cs (read point news)
read_written point here [] news = refl
read_written point here (c ∷ cs) [] = refl
read_written point here (c ∷ cs) (v ∷ vs) =
    read_written point (slice_set here c v) cs vs ∙ ap (λ (l : List ℤ). put_all l cs (read point vs)) (map-set point here c v)

pub read_picked : (point : ℕ → ℤ) (here cs : List ℕ) → AllByRecursion (λ c. c < length here) cs →
    read point (map (slice_index here) cs) ≡ picked (read point here) cs
read_picked point here [] h = refl
read_picked point here (c ∷ cs) h =
    let e : point_of (read point here) c ≡ point (slice_index here c) = read_at point here c h.0 in
    let r : read point (map (slice_index here) cs) ≡ picked (read point here) cs = read_picked point here cs h.1 in
    cc

-- lists that begin with as many members
pub split_same : {X : Type 0} (a b c d : List X) → length a ≡ length b → a ++ c ≡ b ++ d → (a ≡ b) × (c ≡ d)
split_same [] [] c d l e = (refl, e)
split_same [] (y ∷ b) c d l e = absurd (omega (arith, l))
split_same (x ∷ a) [] c d l e = absurd (omega (arith, l))
split_same (x ∷ a) (y ∷ b) c d l e =
    let h : x ≡ y = cc in
    let k : a ++ c ≡ b ++ d = cc in
    let r = split_same a b c d (omega (arith, l)) k in
    let s = r.0 in
    (cc, r.1)
