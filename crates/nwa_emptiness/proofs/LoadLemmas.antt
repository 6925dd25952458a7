-- Each task that is performed leaves less to be written.
use Rattle.std.proofs.Common.{◌≡◌, ◌<◌, ◌≤◌, ◌+◌, ◌*◌, ℕ, zero, suc, List, [], ◌∷◌, ◌++◌, refl, ap, inl, inr, arith}
use Rattle.std.proofs.lemmas.Bool.{cases_lt}
use Rattle.nwa_base.specs.declared.letters.Letter.{Letter}
use Rattle.nwa_emptiness.specs.declared.spelling.Task.{Task}
use Rattle.nwa_emptiness.specs.declared.spelling.Task.TheVariants as tasks
use Rattle.nwa_emptiness.specs.Ties.Loads.{weight_at, load}

load_append : (ts us : List Task) → load (ts ++ us) ≡ load ts + load us
load_append [] us = omega arith
load_append (t ∷ ts) us = omega (arith, load_append ts us)

some_weight : (i : ℕ) → 4 ≤ weight_at i
unfolding weight_at
some_weight zero = omega arith
some_weight (suc i) = omega (arith, some_weight i)

next_weight : (i : ℕ) → weight_at (suc i) ≡ 4 * weight_at i
unfolding weight_at
next_weight i = refl

weight_before : (j i : ℕ) → j < i → 4 * weight_at j ≤ weight_at i
weight_before j zero l = absurd (omega arith)
weight_before j (suc i) l =
    let n = next_weight i in
    elim (cases_lt j i) [
      | inl m ↦ omega (arith, weight_before j i m)
      | inr m ↦
          let here : j ≡ i = omega arith in
          let same : weight_at j ≡ weight_at i = ap weight_at here in
          omega arith
    ]

-- a task in whose place none is put
pub segment_dropped : (ts : List Task) (i : ℕ) → load ts < load (ts ++ tasks.Segment i ∷ [])
segment_dropped ts i = omega (arith, load_append ts (tasks.Segment i ∷ []), some_weight i)

pub whole_dropped : (ts : List Task) (i : ℕ) → load ts < load (ts ++ tasks.Whole i ∷ [])
whole_dropped ts i = omega (arith, load_append ts (tasks.Whole i ∷ []), some_weight i)

pub letter_dropped : (ts : List Task) (a : Letter) → load ts < load (ts ++ tasks.Letter a ∷ [])
letter_dropped ts a = omega (arith, load_append ts (tasks.Letter a ∷ []))

-- the tasks for a pair that was found from pairs before it
pub inside_less : (ts new : List Task) (i j : ℕ) (a : Letter) → j < i → new ≡ ts ++ tasks.Segment j ∷ tasks.Letter a ∷ [] →
    load new < load (ts ++ tasks.Segment i ∷ [])
inside_less ts new i j a l e =
    let n : load new ≡ load (ts ++ tasks.Segment j ∷ tasks.Letter a ∷ []) = ap load e in
    let o = load_append ts (tasks.Segment j ∷ tasks.Letter a ∷ []) in
    let p = load_append ts (tasks.Segment i ∷ []) in
    let b = weight_before j i l in
    let s = some_weight j in
    omega arith

pub back_less : (ts new : List Task) (i j x : ℕ) (c r : Letter) → j < i → x < i →
    new ≡ ts ++ tasks.Segment j ∷ tasks.Letter c ∷ tasks.Segment x ∷ tasks.Letter r ∷ [] → load new < load (ts ++ tasks.Segment i ∷ [])
back_less ts new i j x c r l m e =
    let n : load new ≡ load (ts ++ tasks.Segment j ∷ tasks.Letter c ∷ tasks.Segment x ∷ tasks.Letter r ∷ []) = ap load e in
    let o = load_append ts (tasks.Segment j ∷ tasks.Letter c ∷ tasks.Segment x ∷ tasks.Letter r ∷ []) in
    let p = load_append ts (tasks.Segment i ∷ []) in
    let b = weight_before j i l in
    let d = weight_before x i m in
    let s = some_weight j in
    let t = some_weight x in
    omega arith

pub called_less : (ts new : List Task) (i j : ℕ) (c : Letter) → j < i → new ≡ ts ++ tasks.Whole j ∷ tasks.Letter c ∷ tasks.Segment i ∷ [] →
    load new < load (ts ++ tasks.Whole i ∷ [])
called_less ts new i j c l e =
    let n : load new ≡ load (ts ++ tasks.Whole j ∷ tasks.Letter c ∷ tasks.Segment i ∷ []) = ap load e in
    let o = load_append ts (tasks.Whole j ∷ tasks.Letter c ∷ tasks.Segment i ∷ []) in
    let p = load_append ts (tasks.Whole i ∷ []) in
    let b = weight_before j i l in
    let s = some_weight j in
    omega arith

pub uncalled_less : (ts new : List Task) (i : ℕ) → new ≡ ts ++ tasks.Segment i ∷ [] → load new < load (ts ++ tasks.Whole i ∷ [])
uncalled_less ts new i e =
    let n : load new ≡ load (ts ++ tasks.Segment i ∷ []) = ap load e in
    let o = load_append ts (tasks.Segment i ∷ []) in
    let p = load_append ts (tasks.Whole i ∷ []) in
    let s = some_weight i in
    omega arith
