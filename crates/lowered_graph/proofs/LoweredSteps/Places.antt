-- Where the columns of a program stand in its frames, and what writing them does to the state of a frame that is shown.
use Rattle.std.proofs.Common.{◌≡◌, ℕ, zero, suc, ◌+◌, ◌<◌, Bool, true, false, not, nat_eq, ℤ, List, [], ◌∷◌, ◌++◌, length, None, Some, refl, ap, ◌∙◌, arith, eq-eqb}
use Rattle.std.specs.Prelude.{slice_get, slice_set}
use Rattle.std.proofs.lemmas.Bool.Decides.{nat_tests}
use Rattle.boogie_tree.specs.declared.tree.Column.{Column}
use Rattle.boogie_tree.specs.declared.tree.Column.TheVariants as columns
use Rattle.boogie_tree.specs.declared.tree.VarInfo.{VarInfo}
use Rattle.typed_tree.specs.TypedTree.{TypedProgram}
use Rattle.typed_tree.specs.Values.{State}
use Rattle.letter_acts.specs.Frames.{Columns, added, globals_from, old_columns, locals_from}
use Rattle.letter_acts.specs.Values.{put_all}
use Rattle.cond_jumps.specs.Frames.{same_frame_column, place_from, column_place_in}
use Rattle.boogie_run.specs.Needs.{locals_at}
use Rattle.boogie_run.specs.Steps.{put}
use Rattle.lowered_graph.specs.LoweredSteps.ProgramFrames.{frame_at, variable_values, shown, column_number, column_number_if_any}
use Rattle.lowered_graph.specs.LoweredSteps.Edges.{numbers_in}
use Rattle.std.specs.List.{AllByRecursion}
use Rattle.std.proofs.lemmas.Option.{slice_get_within}

-- ---- places

same_number : (n : ℕ) → nat_eq n n ≡ true
same_number n = eq-eqb n n refl

other_number : (m n : ℕ) → m < n → nat_eq m n ≡ false
other_number m n l = grind (arith, nat_tests)

-- the first column is found where it is the one that is looked for
found_first : (k : ℕ) (d : Column × VarInfo) (ds : Columns) (c : Column) → same_frame_column d.0 c ≡ true → place_from k (d ∷ ds) c ≡ Some (k, d.1)
found_first k d ds c e = rw e refl

-- and else behind it
found_later : (k : ℕ) (d : Column × VarInfo) (ds : Columns) (c : Column) → same_frame_column d.0 c ≡ false → place_from k (d ∷ ds) c ≡ place_from (suc k) ds c
found_later k d ds c e = rw e refl

place_of_global : (k j : ℕ) (vs : List VarInfo) (rest : Columns) (n : ℕ) (v : VarInfo) → slice_get vs n ≡ Some v → place_from k (globals_from j vs ++ rest) (columns.Global (j + n)) ≡ Some (k + n, v)
place_of_global k j [] rest n v e = absurd (cc)
place_of_global k j (w ∷ ws) rest zero v e =
    let a : j + 0 ≡ j = omega arith in
    let b : k + 0 ≡ k = omega arith in
    let i : w ≡ v = cc in
    rw (a, b) (found_first k (columns.Global j, w) (globals_from (suc j) ws ++ rest) (columns.Global j) (same_number j) ∙ ap (λ (x : VarInfo). Some (k, x)) i)
place_of_global k j (w ∷ ws) rest (suc n) v e =
    let a : j + suc n ≡ suc j + n = omega arith in
    let b : k + suc n ≡ suc k + n = omega arith in
    let c : nat_eq j (suc j + n) ≡ false = other_number j (suc j + n) (omega arith) in
    rw (a, b) (found_later k (columns.Global j, w) (globals_from (suc j) ws ++ rest) (columns.Global (suc j + n)) c ∙ place_of_global (suc k) (suc j) ws rest n v e)

skip_globals : (k j : ℕ) (vs : List VarInfo) (rest : Columns) (n : ℕ) → place_from k (globals_from j vs ++ rest) (columns.Local n) ≡ place_from (k + length vs) rest (columns.Local n)
skip_globals k j [] rest n = let a : k + 0 ≡ k = omega arith in rw a refl
skip_globals k j (v ∷ vs) rest n =
    let a : k + suc (length vs) ≡ suc k + length vs = omega arith in
    rw a (skip_globals (suc k) (suc j) vs rest n)

skip_olds : (k j : ℕ) (vs : List VarInfo) (rest : Columns) (n : ℕ) → place_from k (old_columns j vs ++ rest) (columns.Local n) ≡ place_from (k + length (old_columns j vs)) rest (columns.Local n)
skip_olds k j [] rest n = let a : k + 0 ≡ k = omega arith in rw a refl
skip_olds k j (v ∷ vs) rest n = skip_added (not v.constant) k j v (old_columns (suc j) vs) rest n (λ i. skip_olds i (suc j) vs rest n)
  where
    skip_added : (b : Bool) (k j : ℕ) (v : VarInfo) (cs rest : Columns) (n : ℕ) →
        ((i : ℕ) → place_from i (cs ++ rest) (columns.Local n) ≡ place_from (i + length cs) rest (columns.Local n)) →
        place_from k (added b (columns.Old j, v) cs ++ rest) (columns.Local n) ≡ place_from (k + length (added b (columns.Old j, v) cs)) rest (columns.Local n)
    skip_added true k j v cs rest n h = let a : k + suc (length cs) ≡ suc k + length cs = omega arith in rw a (h (suc k))
    skip_added false k j v cs rest n h = h k

place_of_local : (k j : ℕ) (vs : List VarInfo) (n : ℕ) (v : VarInfo) → slice_get vs n ≡ Some v → place_from k (locals_from j vs) (columns.Local (j + n)) ≡ Some (k + n, v)
place_of_local k j [] n v e = absurd (cc)
place_of_local k j (w ∷ ws) zero v e =
    let a : j + 0 ≡ j = omega arith in
    let b : k + 0 ≡ k = omega arith in
    let i : w ≡ v = cc in
    rw (a, b) (found_first k (columns.Local j, w) (locals_from (suc j) ws) (columns.Local j) (same_number j) ∙ ap (λ (x : VarInfo). Some (k, x)) i)
place_of_local k j (w ∷ ws) (suc n) v e =
    let a : j + suc n ≡ suc j + n = omega arith in
    let b : k + suc n ≡ suc k + n = omega arith in
    let c : nat_eq j (suc j + n) ≡ false = other_number j (suc j + n) (omega arith) in
    rw (a, b) (found_later k (columns.Local j, w) (locals_from (suc j) ws) (columns.Local (suc j + n)) c ∙ place_of_local (suc k) (suc j) ws n v e)

pub global_place : (t : TypedProgram) (p n : ℕ) (v : VarInfo) → slice_get t.globals n ≡ Some v → column_place_in (frame_at t p) (columns.Global n) ≡ Some (n, v)
global_place t p n v e =
    let z : 0 + n ≡ n = omega arith in
    rw z at (place_of_global 0 0 t.globals (old_columns 0 t.globals ++ locals_from 0 (locals_at t p)) n v e)

-- a frame has no global beside those of the program
past_globals : (k j : ℕ) (vs : List VarInfo) (rest : Columns) (n : ℕ) → slice_get vs n ≡ None →
    place_from k (globals_from j vs ++ rest) (columns.Global (j + n)) ≡ place_from (k + length vs) rest (columns.Global (j + n))
past_globals k j [] rest n e = let a : k + 0 ≡ k = omega arith in rw a refl
past_globals k j (w ∷ ws) rest zero e = absurd (cc)
past_globals k j (w ∷ ws) rest (suc n) e =
    let a : j + suc n ≡ suc j + n = omega arith in
    let b : k + suc (length ws) ≡ suc k + length ws = omega arith in
    let c : nat_eq j (suc j + n) ≡ false = other_number j (suc j + n) (omega arith) in
    rw (a, b) (found_later k (columns.Global j, w) (globals_from (suc j) ws ++ rest) (columns.Global (suc j + n)) c ∙ past_globals (suc k) (suc j) ws rest n e)

none_among_locals : (k j : ℕ) (vs : List VarInfo) (n : ℕ) → place_from k (locals_from j vs) (columns.Global n) ≡ None
none_among_locals k j [] n = refl
none_among_locals k j (v ∷ vs) n = none_among_locals (suc k) (suc j) vs n

none_among_olds : (k j : ℕ) (vs : List VarInfo) (rest : Columns) (n : ℕ) → ((i : ℕ) → place_from i rest (columns.Global n) ≡ None) →
    place_from k (old_columns j vs ++ rest) (columns.Global n) ≡ None
none_among_olds k j [] rest n h = h k
none_among_olds k j (v ∷ vs) rest n h = none_added (not v.constant) k (old_columns (suc j) vs) (λ i. none_among_olds i (suc j) vs rest n h)
  where
    none_added : (b : Bool) (k : ℕ) (cs : Columns) → ((i : ℕ) → place_from i (cs ++ rest) (columns.Global n) ≡ None) →
        place_from k (added b (columns.Old j, v) cs ++ rest) (columns.Global n) ≡ None
    none_added true k cs g = g (suc k)
    none_added false k cs g = g k

pub no_global_place : (t : TypedProgram) (p n : ℕ) → slice_get t.globals n ≡ None → place_from 0 (frame_at t p) (columns.Global n) ≡ None
no_global_place t p n e =
    let z : 0 + n ≡ n = omega arith in
    rw z at (past_globals 0 0 t.globals (old_columns 0 t.globals ++ locals_from 0 (locals_at t p)) n e)
    ∙ none_among_olds (0 + length t.globals) 0 t.globals (locals_from 0 (locals_at t p)) n (λ i. none_among_locals i 0 (locals_at t p) n)

-- how many columns stand before the locals
abbrev pub before_locals : TypedProgram → ℕ
before_locals t = length t.globals + length (old_columns 0 t.globals)

pub local_place : (t : TypedProgram) (p n : ℕ) (v : VarInfo) → slice_get (locals_at t p) n ≡ Some v → column_place_in (frame_at t p) (columns.Local n) ≡ Some (before_locals t + n, v)
local_place t p n v e =
    let z : 0 + n ≡ n = omega arith in
    let y : 0 + length t.globals ≡ length t.globals = omega arith in
    skip_globals 0 0 t.globals (old_columns 0 t.globals ++ locals_from 0 (locals_at t p)) n
    ∙ rw y (skip_olds (length t.globals) 0 t.globals (locals_from 0 (locals_at t p)) n)
    ∙ rw z at (place_of_local (before_locals t) 0 (locals_at t p) n v e)

-- ---- writing

pub put_is_set : (zs : List ℤ) (n : ℕ) (v : ℤ) → slice_set zs n v ≡ put zs n v
put_is_set [] n v = refl
put_is_set (z ∷ zs) zero v = refl
put_is_set (z ∷ zs) (suc n) v = ap (λ (xs : List ℤ). z ∷ xs) (put_is_set zs n v)

pub put_in_front : (xs ys : List ℤ) (n : ℕ) (v : ℤ) → n < length xs → put (xs ++ ys) n v ≡ put xs n v ++ ys
put_in_front [] ys n v l = absurd (omega arith)
put_in_front (x ∷ xs) ys zero v l = refl
put_in_front (x ∷ xs) ys (suc n) v l = ap (λ (zs : List ℤ). x ∷ zs) (put_in_front xs ys n v (omega arith))

pub put_behind : (xs ys : List ℤ) (n : ℕ) (v : ℤ) → put (xs ++ ys) (length xs + n) v ≡ xs ++ put ys n v
put_behind [] ys n v = let a : 0 + n ≡ n = omega arith in rw a refl
put_behind (x ∷ xs) ys n v =
    let a : suc (length xs) + n ≡ suc (length xs + n) = omega arith in
    rw a (ap (λ (zs : List ℤ). x ∷ zs) (put_behind xs ys n v))

-- ---- what writing does to a frame

-- the state with a column written
abbrev pub state_written : State → Column → ℤ → State
state_written s (columns.Global n) v = record s { globals = put s.globals n v }
state_written s (columns.Old n) v = s
state_written s (columns.Local n) v = record s { locals = put s.locals n v }

abbrev pub all_state_written : State → List Column → List ℤ → State
all_state_written s [] vs = s
all_state_written s (c ∷ cs) [] = s
all_state_written s (c ∷ cs) (v ∷ vs) = all_state_written (state_written s c v) cs vs

pub put_length : (zs : List ℤ) (n : ℕ) (v : ℤ) → length (put zs n v) ≡ length zs
put_length [] n v = refl
put_length (z ∷ zs) zero v = refl
put_length (z ∷ zs) (suc n) v = ap suc (put_length zs n v)

pub olds_length : (j : ℕ) (vs : List VarInfo) (zs : List ℤ) → length zs ≡ length vs → length (variable_values vs zs) ≡ length (old_columns j vs)
olds_length j [] [] e = refl
olds_length j [] (z ∷ zs) e = absurd (omega arith)
olds_length j (v ∷ vs) [] e = absurd (omega arith)
olds_length j (v ∷ vs) (z ∷ zs) e = if_counted (not v.constant) j v z (old_columns (suc j) vs) (variable_values vs zs) (olds_length (suc j) vs zs (omega arith))
  where
    if_counted : (b : Bool) (j : ℕ) (v : VarInfo) (z : ℤ) (cs : Columns) (xs : List ℤ) → length xs ≡ length cs → length (added b z xs) ≡ length (added b (columns.Old j, v) cs)
    if_counted true j v z cs xs e = ap suc e
    if_counted false j v z cs xs e = e

-- that the state has as many constants and globals as the program, now and at the entry
pub record IsLong (t : TypedProgram) (s : State) : Type 0 where
  pub globals : length s.globals ≡ length t.globals
  pub old : length s.old ≡ length t.globals

-- a column that may be written: a global or a local that exists
abbrev pub IsThere : TypedProgram → ℕ → Column → Type 0
IsThere t p (columns.Global n) = (v : VarInfo) × (slice_get t.globals n ≡ Some v)
IsThere t p (columns.Old n) = ⊥
IsThere t p (columns.Local n) = (v : VarInfo) × (slice_get (locals_at t p) n ≡ Some v)

pub written_shown : (t : TypedProgram) (p : ℕ) (s : State) (c : Column) (v : ℤ) → IsLong t s → IsThere t p c →
    slice_set (shown t s) (column_number (frame_at t p) c) v ≡ shown t (state_written s c v)
written_shown t p s (columns.Old n) v l h = absurd h
written_shown t p s (columns.Global n) v l (x, e) =
    let rest : List ℤ = variable_values t.globals s.old ++ s.locals in
    let at : column_number (frame_at t p) (columns.Global n) ≡ n = ap column_number_if_any (global_place t p n x e) in
    let inside : n < length t.globals = slice_get_within t.globals n x e in
    rw at (put_is_set (s.globals ++ rest) n v ∙ put_in_front s.globals rest n v (let g = l.globals in omega arith))
written_shown t p s (columns.Local n) v l (x, e) =
    let olds : List ℤ = variable_values t.globals s.old in
    let at : column_number (frame_at t p) (columns.Local n) ≡ before_locals t + n = ap column_number_if_any (local_place t p n x e) in
    let counted : length olds ≡ length (old_columns 0 t.globals) = olds_length 0 t.globals s.old l.old in
    let g : length s.globals ≡ length t.globals = l.globals in
    let column_place_in : before_locals t + n ≡ length s.globals + (length olds + n) = omega arith in
    rw (at, column_place_in) (put_is_set (s.globals ++ (olds ++ s.locals)) (length s.globals + (length olds + n)) v
    ∙ put_behind s.globals (olds ++ s.locals) (length olds + n) v
    ∙ ap (λ (zs : List ℤ). s.globals ++ zs) (put_behind olds s.locals n v))

pub still_long : (t : TypedProgram) (s : State) (c : Column) (v : ℤ) → IsLong t s → IsLong t (state_written s c v)
still_long t s (columns.Global n) v l = record { globals = put_length s.globals n v ∙ l.globals; old = l.old }
still_long t s (columns.Old n) v l = l
still_long t s (columns.Local n) v l = record { globals = l.globals; old = l.old }

pub all_written_shown : (t : TypedProgram) (p : ℕ) (s : State) (cs : List Column) (vs : List ℤ) → IsLong t s → AllByRecursion (IsThere t p) cs →
    put_all (shown t s) (numbers_in (frame_at t p) cs) vs ≡ shown t (all_state_written s cs vs)
all_written_shown t p s [] vs l h = refl
all_written_shown t p s (c ∷ cs) [] l h = refl
all_written_shown t p s (c ∷ cs) (v ∷ vs) l h =
    ap (λ (zs : List ℤ). put_all zs (numbers_in (frame_at t p) cs) vs) (written_shown t p s c v l h.0)
    ∙ all_written_shown t p (state_written s c v) cs vs (still_long t s c v l) h.1
