-- The frame that runs is the last of the list.
use Rattle.std.proofs.Common.{◌≡◌, ◌<◌, ℕ, zero, suc, ◌+◌, ◌-◌, ℤ, List, [], ◌∷◌, ◌++◌, take, map, length, length-append, slice_index_or, slice_set, refl, ap, sym, ◌∙◌, arith}
use Rattle.std.proofs.lemmas.List.{reverse-append, length-reverse, length-map}
use Rattle.boogie_run.specs.declared.configurations.RunFrame.{RunFrame}
use Rattle.boogie_run.specs.BoogiePoints.Points.{Point}
use Rattle.boogie_run.specs.Configurations.{Frame}
use Rattle.boogie_run.specs.Steps.{moved_to}
use Rattle.boogie_run.specs.RunView.{frame_of, frames_of, config_with}

-- with another last member
set_last : (fs : List RunFrame) (n : ℕ) (g : RunFrame) → length fs ≡ n + 1 → slice_set fs n g ≡ take n fs ++ g ∷ []
set_last [] n g h = absurd (omega arith)
set_last (x ∷ []) zero g h = refl
set_last (x ∷ y ∷ ys) zero g h = absurd (omega arith)
set_last (x ∷ xs) (suc n) g h = ap (λ (ys : List RunFrame). x ∷ ys) (set_last xs n g (omega arith))

-- the last member, and those before it
last_of : (fs : List RunFrame) (n : ℕ) (f : RunFrame) → length fs ≡ n + 1 → f ≡ slice_index_or fs n f → fs ≡ take n fs ++ f ∷ []
last_of [] n f h e = absurd (omega arith)
last_of (x ∷ []) zero f h e = ap (λ (y : RunFrame). y ∷ []) (sym e)
last_of (x ∷ y ∷ ys) zero f h e = absurd (omega arith)
last_of (x ∷ xs) (suc n) f h e = ap (λ (ys : List RunFrame). x ∷ ys) (last_of xs n f (omega arith) e)

-- one more frame
pub frames_of-append : (fs : List RunFrame) (f : RunFrame) → frames_of (fs ++ f ∷ []) ≡ frame_of f ∷ frames_of fs
unfolding frames_of
frames_of-append fs f = ap (map frame_of) (reverse-append fs (f ∷ []))

pub length-frames_of : (fs : List RunFrame) → length (frames_of fs) ≡ length fs
unfolding frames_of
length-frames_of fs = simp (length-map, length-reverse)

-- the frame that runs, and those below it
pub frames_of-last : (fs : List RunFrame) (n : ℕ) (f : RunFrame) → length fs ≡ n + 1 → f ≡ slice_index_or fs n f →
    frames_of fs ≡ frame_of f ∷ frames_of (take n fs)
frames_of-last fs n f h e = ap frames_of (last_of fs n f h e) ∙ frames_of-append (take n fs) f

frames_of-set : (fs : List RunFrame) (n : ℕ) (g : RunFrame) → length fs ≡ n + 1 → frames_of (slice_set fs n g) ≡ frame_of g ∷ frames_of (take n fs)
frames_of-set fs n g h = ap frames_of (set_last fs n g h) ∙ frames_of-append (take n fs) g

pub top_is : (gs : List ℤ) (fs : List RunFrame) (n : ℕ) (f : RunFrame) → length fs ≡ n + 1 → f ≡ slice_index_or fs n f →
    (config_with gs (frames_of fs)).top ≡ frame_of f
top_is gs fs n f h e = rw (frames_of-last fs n f h e)

-- there is a last member
some_last : (fs : List RunFrame) (n : ℕ) → length fs ≡ n + 1 → (f : RunFrame) × (fs ≡ take n fs ++ f ∷ [])
some_last [] n h = absurd (omega arith)
some_last (x ∷ []) zero h = (x, refl)
some_last (x ∷ y ∷ ys) zero h = absurd (omega arith)
some_last (x ∷ xs) (suc n) h =
    let found = some_last xs n (omega arith) in (found.0, ap (λ (ys : List RunFrame). x ∷ ys) found.1)

-- with another frame that runs
pub with_top : (gs : List ℤ) (fs : List RunFrame) (n : ℕ) (g : RunFrame) → length fs ≡ n + 1 →
    config_with gs (frames_of (slice_set fs n g)) ≡ record (config_with gs (frames_of fs)) { top = frame_of g }
with_top gs fs n g h =
    let found = some_last fs n h in
    let before : frames_of fs ≡ frame_of found.0 ∷ frames_of (take n fs) = ap frames_of found.1 ∙ frames_of-append (take n fs) found.0 in
    rw (frames_of-set fs n g h, before)

-- with one more frame
pushed_on : (gs : List ℤ) (fs : List Frame) (f : Frame) → 0 < length fs →
    config_with gs (f ∷ fs) ≡ record { globals = gs; top = f; below = (config_with gs fs).top ∷ (config_with gs fs).below }
pushed_on gs [] f h = absurd (omega arith)
pushed_on gs (g ∷ fs) f h = refl

pub pushed : (gs : List ℤ) (fs : List RunFrame) (f : RunFrame) → 0 < length fs →
    config_with gs (frames_of (fs ++ f ∷ [])) ≡ record { globals = gs; top = frame_of f; below = (config_with gs (frames_of fs)).top ∷ (config_with gs (frames_of fs)).below }
pushed gs fs f h = rw (frames_of-append fs f) (pushed_on gs (frames_of fs) (frame_of f) (rw length-frames_of h))

-- with a frame that is seen as the one before
pub same_top : (gs : List ℤ) (fs : List RunFrame) (n : ℕ) (f g : RunFrame) → length fs ≡ n + 1 → f ≡ slice_index_or fs n f → frame_of g ≡ frame_of f →
    config_with gs (frames_of (slice_set fs n g)) ≡ config_with gs (frames_of fs)
same_top gs fs n f g h at e = rw (frames_of-set fs n g h, frames_of-last fs n f h at, e)

-- with the frame at another point, and nothing kept
pub moved_top : (gs : List ℤ) (fs : List RunFrame) (n : ℕ) (f g : RunFrame) (p : Point) → length fs ≡ n + 1 → f ≡ slice_index_or fs n f →
    frame_of g ≡ record (frame_of f) { point = p; kept = [] } → config_with gs (frames_of (slice_set fs n g)) ≡ moved_to (config_with gs (frames_of fs)) p
moved_top gs fs n f g p h at e = rw (frames_of-set fs n g h, frames_of-last fs n f h at, e)

-- what was there before the last was put there
pub take-front : (xs ys : List ℤ) → take (length xs) (xs ++ ys) ≡ xs
take-front [] ys = refl
take-front (x ∷ xs) ys = ap (λ (zs : List ℤ). x ∷ zs) (take-front xs ys)

pub taken_back : (xs ys zs : List ℤ) (v : ℤ) (n : ℕ) → ys ≡ xs ++ v ∷ [] → n ≡ length ys → zs ≡ take (n - 1) ys → zs ≡ xs
taken_back xs ys zs v n e l h =
    let one_less : n - 1 ≡ length xs = omega (arith, length-append xs (v ∷ []), ap length e) in
    rw (h, one_less, e) (take-front xs (v ∷ []))

-- the constants and globals
pub globals_are : (gs : List ℤ) (fs : List Frame) → (config_with gs fs).globals ≡ gs
globals_are gs [] = refl
globals_are gs (f ∷ fs) = refl

-- the first frame
only : (f : RunFrame) → frames_of (f ∷ []) ≡ frame_of f ∷ []
unfolding frames_of
only f = refl

pub first_of : (gs : List ℤ) (fs none : List RunFrame) (f : RunFrame) → none ≡ [] → fs ≡ none ++ f ∷ [] →
    config_with gs (frames_of fs) ≡ record { globals = gs; top = frame_of f; below = [] }
first_of gs fs none f e s = rw (s, e, only f)

pub some_frame : (fs rest : List RunFrame) (f : RunFrame) → fs ≡ rest ++ f ∷ [] → 0 < length fs
some_frame fs rest f e = rw e (omega (arith, length-append rest (f ∷ [])))
