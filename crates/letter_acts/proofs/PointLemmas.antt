-- Values read as points: written, joined, taken and dropped.
use Rattle.std.proofs.Common.{◌≡◌, ◌↔◌, ◌∙◌, ℕ, zero, suc, ◌+◌, ◌<◌, ℤ, List, [], ◌∷◌, ◌++◌, length, take, drop, refl, sym, ap, subst, inl, inr, arith}
use Rattle.std.specs.Prelude.{slice_set}
use Rattle.std.specs.List.{AllByRecursion}
use Rattle.std.proofs.Math.ListN.{length-set}
use Rattle.math_facts.specs.Terms.{IsBelow}
use Rattle.math_facts.proofs.TermLaws.{dot_same_points}
use Rattle.lin_rows.specs.Rows.{LinearRow, Stands, Holds}
use Rattle.lin_rows.specs.Points.{point_of}
use Rattle.nwa_base.specs.Members.{Member}
use Rattle.letter_acts.specs.Frames.{Columns, IsState}
use Rattle.letter_acts.specs.Values.{picked, put_all, RowsHold, HoldBeyond}
use Rattle.letter_acts.specs.Invariant.{AreDistinct}
use Rattle.letter_acts.proofs.ListLemmas.{below_or_from}

pub point_of-left : (xs ys : List ℤ) (c : ℕ) → c < length xs → point_of (xs ++ ys) c ≡ point_of xs c
point_of-left [] ys c l = absurd (omega arith)
point_of-left (x ∷ xs) ys zero l = refl
point_of-left (x ∷ xs) ys (suc c) l = point_of-left xs ys c (omega arith)

pub point_of-right : (xs ys : List ℤ) (c k : ℕ) → c ≡ length xs + k → point_of (xs ++ ys) c ≡ point_of ys k
point_of-right [] ys c k e = ap (point_of ys) (let i : c ≡ k = omega (arith, e) in i)
point_of-right (x ∷ xs) ys zero k e = absurd (omega (arith, e))
point_of-right (x ∷ xs) ys (suc c) k e = point_of-right xs ys c k (omega (arith, e))

pub point_of-take : (n : ℕ) (xs : List ℤ) (c : ℕ) → c < n → point_of (take n xs) c ≡ point_of xs c
point_of-take zero xs c l = absurd (omega arith)
point_of-take (suc n) [] c l = refl
point_of-take (suc n) (x ∷ xs) zero l = refl
point_of-take (suc n) (x ∷ xs) (suc c) l = point_of-take n xs c (omega arith)

pub point_of-drop : (n : ℕ) (xs : List ℤ) (c k : ℕ) → c ≡ n + k → point_of (drop n xs) k ≡ point_of xs c
point_of-drop zero xs c k e = ap (point_of xs) (let i : k ≡ c = omega (arith, e) in i)
point_of-drop (suc n) [] c k e = refl
point_of-drop (suc n) (x ∷ xs) zero k e = absurd (omega (arith, e))
point_of-drop (suc n) (x ∷ xs) (suc c) k e = point_of-drop n xs c k (omega (arith, e))

-- lists of one length with the same values are equal
pub same_points : (s t : List ℤ) → length s ≡ length t → ((c : ℕ) → point_of s c ≡ point_of t c) → s ≡ t
same_points [] [] l h = refl
same_points [] (y ∷ t) l h = absurd (omega (arith, l))
same_points (x ∷ s) [] l h = absurd (omega (arith, l))
same_points (x ∷ s) (y ∷ t) l h =
    let e : x ≡ y = h 0 in
    let r = same_points s t (omega (arith, l)) (λ c. h (suc c)) in
    cc

pub state_length : (frame : Columns) (s : List ℤ) → IsState frame s → length s ≡ length frame
state_length [] [] h = refl
state_length [] (v ∷ vs) h = absurd h
state_length (c ∷ cs) [] h = absurd h
state_length (c ∷ cs) (v ∷ vs) h = ap suc (state_length cs vs h.1)

-- writing one column
set_other : (s : List ℤ) (d : ℕ) (v : ℤ) (c : ℕ) → (d ≡ c → ⊥) → point_of (slice_set s d v) c ≡ point_of s c
set_other [] d v c n = refl
set_other (x ∷ s) zero v zero n = absurd (n refl)
set_other (x ∷ s) zero v (suc c) n = refl
set_other (x ∷ s) (suc d) v zero n = refl
set_other (x ∷ s) (suc d) v (suc c) n = set_other s d v c (λ e. n (omega (arith, e)))

pub set_here : (s : List ℤ) (c : ℕ) (v : ℤ) → c < length s → point_of (slice_set s c v) c ≡ v
set_here [] c v l = absurd (omega arith)
set_here (x ∷ s) zero v l = refl
set_here (x ∷ s) (suc c) v l = set_here s c v (omega arith)

pub length-put_all : (s : List ℤ) (cs : List ℕ) (vs : List ℤ) → length (put_all s cs vs) ≡ length s
length-put_all s [] vs = refl
length-put_all s (c ∷ cs) [] = refl
length-put_all s (c ∷ cs) (v ∷ vs) = length-put_all (slice_set s c v) cs vs ∙ length-set s c v

pub put_all_other : (s : List ℤ) (cs : List ℕ) (vs : List ℤ) (c : ℕ) → (Member cs c → ⊥) → point_of (put_all s cs vs) c ≡ point_of s c
put_all_other s [] vs c n = refl
put_all_other s (d ∷ cs) [] c n = refl
put_all_other s (d ∷ cs) (v ∷ vs) c n =
    put_all_other (slice_set s d v) cs vs c (λ m. n (inr m)) ∙ set_other s d v c (λ e. n (inl e))

pub within_set : (s : List ℤ) (d : ℕ) (v : ℤ) (cs : List ℕ) → AllByRecursion (λ c. c < length s) cs → AllByRecursion (λ c. c < length (slice_set s d v)) cs
within_set s d v cs h = subst (λ (n : ℕ). AllByRecursion (λ c. c < n) cs) (sym (length-set s d v)) h

-- what was written is read again
pub picked_put : (s : List ℤ) (cs : List ℕ) (vs : List ℤ) → AreDistinct cs → AllByRecursion (λ c. c < length s) cs → length vs ≡ length cs →
    picked (put_all s cs vs) cs ≡ vs
picked_put s [] [] d w l = refl
picked_put s [] (v ∷ vs) d w l = absurd (omega (arith, l))
picked_put s (c ∷ cs) [] d w l = absurd (omega (arith, l))
picked_put s (c ∷ cs) (v ∷ vs) d w l =
    let e : point_of (put_all (slice_set s c v) cs vs) c ≡ v = put_all_other (slice_set s c v) cs vs c d.0 ∙ set_here s c v w.0 in
    let r = picked_put (slice_set s c v) cs vs d.1 (within_set s c v cs w.1) (omega (arith, l)) in
    cc

set_same : (s t : List ℤ) (c d : ℕ) → length s ≡ length t → ((c ≡ d → ⊥) → point_of t d ≡ point_of s d) → point_of t d ≡ point_of (slice_set s c (point_of t c)) d
set_same [] [] c d l h = refl
set_same [] (y ∷ t) c d l h = absurd (omega (arith, l))
set_same (x ∷ s) [] c d l h = absurd (omega (arith, l))
set_same (x ∷ s) (y ∷ t) zero zero l h = refl
set_same (x ∷ s) (y ∷ t) zero (suc d) l h = h (λ e. omega (arith, e))
set_same (x ∷ s) (y ∷ t) (suc c) zero l h = h (λ e. omega (arith, e))
set_same (x ∷ s) (y ∷ t) (suc c) (suc d) l h = set_same s t c d (omega (arith, l)) (λ n. h (λ e. n (omega (arith, e))))

-- what differs from s at the written columns alone is s with them written
pub put_picked : (s t : List ℤ) (cs : List ℕ) → length s ≡ length t → ((c : ℕ) → (Member cs c → ⊥) → point_of t c ≡ point_of s c) →
    t ≡ put_all s cs (picked t cs)
put_picked s t [] l h = same_points t s (sym l) (λ c. h c (λ m. m))
put_picked s t (c ∷ cs) l h =
    put_picked (slice_set s c (point_of t c)) t cs (length-set s c (point_of t c) ∙ l)
    (λ d n. set_same s t c d l (λ k. h d (λ m. elim m [ inl e ↦ k e | inr i ↦ n i ])))

-- rows below n hold at points that agree below n
pub holds_same : (p q : ℕ → ℤ) (n : ℕ) (rows : List LinearRow) → AllByRecursion (λ r. IsBelow n r.terms) rows → ((c : ℕ) → c < n → p c ≡ q c) →
    AllByRecursion (Holds p) rows → AllByRecursion (Holds q) rows
holds_same p q n [] b e h = tt
holds_same p q n (r ∷ rows) b e h =
    (subst (λ (z : ℤ). Stands r.kind z r.bound) (dot_same_points p q n r.terms b.0 e) h.0, holds_same p q n rows b.1 e h.1)

-- the values of a point at so many columns from n on
abbrev pub values_from : (ℕ → ℤ) → ℕ → ℕ → List ℤ
values_from point n zero = []
values_from point n (suc k) = point n ∷ values_from point (suc n) k

pub length-values_from : (point : ℕ → ℤ) (n k : ℕ) → length (values_from point n k) ≡ k
length-values_from point n zero = refl
length-values_from point n (suc k) = ap suc (length-values_from point (suc n) k)

pub point_of-values_from : (point : ℕ → ℤ) (n k i c : ℕ) → i < k → c ≡ n + i → point_of (values_from point n k) i ≡ point c
point_of-values_from point n zero i c l e = absurd (omega arith)
point_of-values_from point n (suc k) zero c l e = ap point (let j : n ≡ c = omega (arith, e) in j)
point_of-values_from point n (suc k) (suc i) c l e = point_of-values_from point (suc n) k i c (omega arith) (omega (arith, e))

joined_point : (values : List ℤ) (point : ℕ → ℤ) (count c : ℕ) → c < length values + count → ((k : ℕ) → k < length values → point k ≡ point_of values k) →
    point c ≡ point_of (values ++ values_from point (length values) count) c
joined_point values point count c l h = elim (below_or_from c (length values)) [
  | inl b ↦ h c b ∙ sym (point_of-left values (values_from point (length values) count) c b)
  | inr g ↦
      (let e = g.1 in
      sym (point_of-right values (values_from point (length values) count) c g.0 e ∙
      point_of-values_from point (length values) count g.0 c (omega (arith, e)) e))
]

-- helpers as a list and as another point
pub helpers_as_point : (values : List ℤ) (count : ℕ) (rows : List LinearRow) → AllByRecursion (λ r. IsBelow (length values + count) r.terms) rows →
    RowsHold values count rows ↔ HoldBeyond values rows
helpers_as_point values count rows b = (
  λ h. record { point = point_of (values ++ h.helpers); agrees = λ c l. point_of-left values h.helpers c l; hold = h.hold },
  λ h. record {
    helpers = values_from h.point (length values) count;
    as_many = length-values_from h.point (length values) count;
    hold = holds_same h.point (point_of (values ++ values_from h.point (length values) count)) (length values + count) rows b
        (λ c l. joined_point values h.point count c l h.agrees) h.hold;
  },
)
