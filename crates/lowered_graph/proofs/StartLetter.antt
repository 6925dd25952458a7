-- The letter of the start allows exactly those states whose old values are those of their globals.
use Rattle.std.proofs.Common.{◌≡◌, ◌∙◌, ℕ, zero, suc, ◌+◌, ◌<◌, Bool, true, false, not, ℤ, pos, negsuc, List, [], ◌∷◌, ◌++◌, map, length, refl, sym, ap, subst, arith, append_assoc}
use Rattle.std.proofs.lemmas.Int.{ints}
use Rattle.std.specs.Prelude.{slice_set}
use Rattle.std.specs.List.{AllByRecursion}
use Rattle.std.proofs.lemmas.List.{length-append}
use Rattle.boogie_tree.specs.declared.tree.Column.{Column}
use Rattle.boogie_tree.specs.declared.tree.Column.TheVariants.{Global, Old, Local}
use Rattle.boogie_tree.specs.declared.tree.VarInfo.{VarInfo}
use Rattle.typed_tree.specs.TypedTree.{TypedProgram}
use Rattle.math_facts.specs.Terms.{dot}
use Rattle.lin_rows.specs.Rows.{Holds}
use Rattle.lin_rows.specs.Points.{point_of}
use Rattle.lin_rows.specs.Sums.{row_of}
use Rattle.lin_rows.specs.declared.types.RowKind.TheVariants.{Eq}
use Rattle.cond_jumps.proofs.FormLemmas.{row_holds, row_held}
use Rattle.letter_acts.specs.Frames.{Columns, IsState, added, globals_from, old_columns, locals_from, old_at, olds_from, olds_of}
use Rattle.letter_acts.specs.Values.{put_all}
use Rattle.letter_acts.specs.Meaning.{InsideLeads}
use Rattle.boogie_run.specs.Needs.{locals_at}
use Rattle.lowered_graph.specs.LoweredSteps.ProgramFrames.{frame_at, width_at, variable_values, shown}
use Rattle.lowered_graph.specs.Arcs.{entering_rows}

-- ---- values of a list

read_append : (xs ys : List ℤ) (i : ℕ) → i < length xs → point_of (xs ++ ys) i ≡ point_of xs i
read_append [] ys i l = absurd (omega arith)
read_append (x ∷ xs) ys zero l = refl
read_append (x ∷ xs) ys (suc i) l = read_append xs ys i (omega arith)

read_behind : (xs ys : List ℤ) (i : ℕ) → point_of (xs ++ ys) (length xs + i) ≡ point_of ys i
read_behind [] ys i = let e : 0 + i ≡ i = omega arith in ap (point_of ys) e
read_behind (x ∷ xs) ys i = let e : suc (length xs) + i ≡ suc (length xs + i) = omega arith in ap (point_of (x ∷ (xs ++ ys))) e ∙ read_behind xs ys i

put_first : (xs : List ℤ) (y v : ℤ) (ys : List ℤ) → slice_set (xs ++ y ∷ ys) (length xs) v ≡ xs ++ v ∷ ys
put_first [] y v ys = refl
put_first (x ∷ xs) y v ys = ap (λ (l : List ℤ). x ∷ l) (put_first xs y v ys)

-- so many numbers, from n on
abbrev count_up : ℕ → ℕ → List ℕ
count_up n zero = []
count_up n (suc k) = n ∷ count_up (suc n) k

-- writing columns that stand one behind the other
put_along : (front olds rest news : List ℤ) → length olds ≡ length news → put_all (front ++ (olds ++ rest)) (count_up (length front) (length olds)) news ≡ front ++ (news ++ rest)
put_along front [] rest [] e = refl
put_along front [] rest (v ∷ news) e = absurd (omega arith)
put_along front (o ∷ olds) rest [] e = absurd (omega arith)
put_along front (o ∷ olds) rest (v ∷ news) e =
    let next : length (front ++ v ∷ []) ≡ suc (length front) = length-append front (v ∷ []) ∙ omega arith in
    let so : front ++ v ∷ (olds ++ rest) ≡ (front ++ v ∷ []) ++ (olds ++ rest) = sym (append_assoc front (v ∷ []) (olds ++ rest)) in
    let more : put_all ((front ++ v ∷ []) ++ (olds ++ rest)) (count_up (length (front ++ v ∷ [])) (length olds)) news ≡ (front ++ v ∷ []) ++ (news ++ rest) = put_along (front ++ v ∷ []) olds rest news (omega arith) in
    ap (λ (l : List ℤ). put_all l (count_up (suc (length front)) (length olds)) news) (put_first front o v (olds ++ rest) ∙ so)
    ∙ ap (λ (k : ℕ). put_all ((front ++ v ∷ []) ++ (olds ++ rest)) (count_up k (length olds)) news) (sym next)
    ∙ more ∙ append_assoc front (v ∷ []) (news ++ rest)

-- reading columns that stand one behind the other
read_along : (front news back : List ℤ) → map (point_of (front ++ (news ++ back))) (count_up (length front) (length news)) ≡ news
read_along front [] back = refl
read_along front (v ∷ news) back =
    let next : length (front ++ v ∷ []) ≡ suc (length front) = length-append front (v ∷ []) ∙ omega arith in
    let so : front ++ v ∷ (news ++ back) ≡ (front ++ v ∷ []) ++ (news ++ back) = sym (append_assoc front (v ∷ []) (news ++ back)) in
    let first : point_of (front ++ v ∷ (news ++ back)) (length front) ≡ v =
    (let e : length front ≡ length front + 0 = omega arith in ap (point_of (front ++ v ∷ (news ++ back))) e ∙ read_behind front (v ∷ (news ++ back)) 0) in
    let rest : map (point_of ((front ++ v ∷ []) ++ (news ++ back))) (count_up (length (front ++ v ∷ [])) (length news)) ≡ news = read_along (front ++ v ∷ []) news back in
    let moved : map (point_of (front ++ v ∷ (news ++ back))) (count_up (suc (length front)) (length news)) ≡ news =
    ap (λ (l : List ℤ). map (point_of l) (count_up (suc (length front)) (length news))) so
    ∙ ap (λ (k : ℕ). map (point_of ((front ++ v ∷ []) ++ (news ++ back))) (count_up k (length news))) (sym next) ∙ rest in
    let both : point_of (front ++ v ∷ (news ++ back)) (length front) ∷ map (point_of (front ++ v ∷ (news ++ back))) (count_up (suc (length front)) (length news)) ≡ v ∷ news = cc in
    both

-- ---- the rows

row_so : (p : ℕ → ℤ) (g k : ℕ) → p k ≡ p g → Holds p (row_of ((g, negsuc 0) ∷ (k, pos 1) ∷ []) Eq (pos 0))
row_so p g k e = row_holds p ((g, negsuc 0) ∷ (k, pos 1) ∷ []) Eq (pos 0) (grind (arith, ints))

row_back : (p : ℕ → ℤ) (g k : ℕ) → Holds p (row_of ((g, negsuc 0) ∷ (k, pos 1) ∷ []) Eq (pos 0)) → p k ≡ p g
row_back p g k h =
    let e : dot p ((g, negsuc 0) ∷ (k, pos 1) ∷ []) ≡ pos 0 = row_held p ((g, negsuc 0) ∷ (k, pos 1) ∷ []) Eq (pos 0) h in
    grind (arith, ints)

-- the rows hold where the written columns have the values of the globals
rows_so : (p : ℕ → ℤ) (k : ℕ) (os : List (ℕ × ℕ)) → map p (count_up k (length os)) ≡ map (λ o. p o.1) os → AllByRecursion (Holds p) (entering_rows k os)
rows_so p k [] e = tt
rows_so p k (o ∷ os) e =
    let first : p k ≡ p o.1 = cc in
    let rest : map p (count_up (suc k) (length os)) ≡ map (λ o. p o.1) os = cc in
    (row_so p o.1 k first, rows_so p (suc k) os rest)

rows_back : (p : ℕ → ℤ) (k : ℕ) (os : List (ℕ × ℕ)) → AllByRecursion (Holds p) (entering_rows k os) → map p (count_up k (length os)) ≡ map (λ o. p o.1) os
rows_back p k [] h = refl
rows_back p k (o ∷ os) h =
    let first : p k ≡ p o.1 = row_back p o.1 k h.0 in
    let rest : map p (count_up (suc k) (length os)) ≡ map (λ o. p o.1) os = rows_back p (suc k) os h.1 in
    λ i. first i ∷ rest i

-- ---- the old columns of a frame

olds_append : (xs ys : Columns) (n m : ℕ) → m ≡ n + length xs → olds_from n (xs ++ ys) ≡ olds_from n xs ++ olds_from m ys
olds_append [] ys n m e = let i : n ≡ m = omega arith in ap (λ (k : ℕ). olds_from k ys) i
olds_append (c ∷ xs) ys n m e = ap (old_at c.0 n) (olds_append xs ys (suc n) m (omega arith)) ∙ in_front c.0 n (olds_from (suc n) xs) (olds_from m ys)
  where
    in_front : (c : Column) (n : ℕ) (xs ys : List (ℕ × ℕ)) → old_at c n (xs ++ ys) ≡ old_at c n xs ++ ys
    in_front (Global g) n xs ys = refl
    in_front (Old g) n xs ys = refl
    in_front (Local l) n xs ys = refl

globals_none : (n k : ℕ) (vs : List VarInfo) → olds_from n (globals_from k vs) ≡ []
globals_none n k [] = refl
globals_none n k (v ∷ vs) = globals_none (suc n) (suc k) vs

locals_none : (n k : ℕ) (vs : List VarInfo) → olds_from n (locals_from k vs) ≡ []
locals_none n k [] = refl
locals_none n k (v ∷ vs) = locals_none (suc n) (suc k) vs

pub globals_count : (n : ℕ) (vs : List VarInfo) → length (globals_from n vs) ≡ length vs
globals_count n [] = refl
globals_count n (v ∷ vs) = ap suc (globals_count (suc n) vs)

append_none : {X : Type 0} (xs : List X) → xs ++ [] ≡ xs
append_none [] = refl
append_none {X} (x ∷ xs) = ap (λ (l : List X). x ∷ l) (append_none xs)

olds_are : (t : TypedProgram) (n : ℕ) → olds_of (frame_at t n) ≡ olds_from (length t.globals) (old_columns 0 t.globals)
olds_are t n =
    let front : Columns = globals_from 0 t.globals in
    let olds : Columns = old_columns 0 t.globals in
    let locals : Columns = locals_from 0 (locals_at t n) in
    let k : ℕ = length t.globals in
    let count : length front ≡ k = globals_count 0 t.globals in
    let at : k ≡ 0 + length front = omega arith in
    olds_append front (olds ++ locals) 0 k at
    ∙ ap (λ (l : List (ℕ × ℕ)). l ++ olds_from k (olds ++ locals)) (globals_none 0 0 t.globals)
    ∙ olds_append olds locals k (k + length olds) refl
    ∙ ap (λ (l : List (ℕ × ℕ)). olds_from k olds ++ l) (locals_none (k + length olds) 0 (locals_at t n))
    ∙ append_none (olds_from k olds)

-- they stand one behind the other
numbers_next : (b : Bool) (n k : ℕ) (v : VarInfo) (rest : Columns) →
    map (λ o. o.0) (olds_from n rest) ≡ count_up n (length rest) → map (λ o. o.0) (olds_from (suc n) rest) ≡ count_up (suc n) (length rest) →
    map (λ o. o.0) (olds_from n (added b (Old k, v) rest)) ≡ count_up n (length (added b (Old k, v) rest))
numbers_next true n k v rest h g = ap (λ (l : List ℕ). n ∷ l) g
numbers_next false n k v rest h g = h

numbers_along : (n k : ℕ) (vs : List VarInfo) → map (λ o. o.0) (olds_from n (old_columns k vs)) ≡ count_up n (length (old_columns k vs))
numbers_along n k [] = refl
numbers_along n k (v ∷ vs) = numbers_next (not v.constant) n k v (old_columns (suc k) vs) (numbers_along n (suc k) vs) (numbers_along (suc n) (suc k) vs)

count_next : (b : Bool) (n k : ℕ) (v : VarInfo) (rest : Columns) → length (olds_from n rest) ≡ length rest → length (olds_from (suc n) rest) ≡ length rest →
    length (olds_from n (added b (Old k, v) rest)) ≡ length (added b (Old k, v) rest)
count_next true n k v rest h g = ap suc g
count_next false n k v rest h g = h

olds_count : (n k : ℕ) (vs : List VarInfo) → length (olds_from n (old_columns k vs)) ≡ length (old_columns k vs)
olds_count n k [] = refl
olds_count n k (v ∷ vs) = count_next (not v.constant) n k v (old_columns (suc k) vs) (olds_count n (suc k) vs) (olds_count (suc n) (suc k) vs)

-- and have the values of their globals
values_next : (p : ℕ → ℤ) (b : Bool) (n k : ℕ) (v : VarInfo) (z : ℤ) (rest : Columns) (zs : List ℤ) → p k ≡ z →
    map (λ o. p o.1) (olds_from n rest) ≡ zs → map (λ o. p o.1) (olds_from (suc n) rest) ≡ zs → map (λ o. p o.1) (olds_from n (added b (Old k, v) rest)) ≡ added b z zs
values_next p true n k v z rest zs e h g = λ i. e i ∷ g i
values_next p false n k v z rest zs e h g = h

values_along : (p : ℕ → ℤ) (n k : ℕ) (vs : List VarInfo) (zs : List ℤ) → length zs ≡ length vs → ((i : ℕ) → i < length zs → p (k + i) ≡ point_of zs i) →
    map (λ o. p o.1) (olds_from n (old_columns k vs)) ≡ variable_values vs zs
values_along p n k [] [] e h = refl
values_along p n k [] (z ∷ zs) e h = absurd (omega arith)
values_along p n k (v ∷ vs) [] e h = absurd (omega arith)
values_along p n k (v ∷ vs) (z ∷ zs) e h =
    let here : k + 0 ≡ k = omega arith in
    let first : p k ≡ z = ap p (sym here) ∙ h 0 (omega arith) in
    let later : (i : ℕ) → i < length zs → p (suc k + i) ≡ point_of zs i = λ i l. ap p (let s : suc k + i ≡ k + suc i = omega arith in s) ∙ h (suc i) (omega arith) in
    let same : length zs ≡ length vs = omega arith in
    values_next p (not v.constant) n k v z (old_columns (suc k) vs) (variable_values vs zs) first (values_along p n (suc k) vs zs same later) (values_along p (suc n) (suc k) vs zs same later)

-- ---- the parts of a state

abbrev Parts : Columns → Columns → List ℤ → Type 0
Parts a b s = (xs : List ℤ) × (ys : List ℤ) × (s ≡ xs ++ ys) × (length xs ≡ length a) × IsState b ys

state_parts : (a b : Columns) (s : List ℤ) → IsState (a ++ b) s → Parts a b s
state_parts [] b s h = ([], s, refl, refl, h)
state_parts (c ∷ cs) b [] h = absurd h
state_parts (c ∷ cs) b (z ∷ s) h =
    let g = state_parts cs b s h.1 in
    (z ∷ g.0, g.1, ap (λ (l : List ℤ). z ∷ l) g.2, ap suc g.3, g.4)

pub state_count : (a : Columns) (s : List ℤ) → IsState a s → length s ≡ length a
state_count [] [] h = refl
state_count [] (z ∷ s) h = absurd h
state_count (c ∷ cs) [] h = absurd h
state_count (c ∷ cs) (z ∷ s) h = ap suc (state_count cs s h.1)

-- ---- the letter

-- the globals, the old values and the locals of a state
pub record StateParts (t : TypedProgram) (s : List ℤ) : Type 0 where
  pub globals : List ℤ
  pub olds : List ℤ
  pub locals : List ℤ
  pub is : s ≡ globals ++ (olds ++ locals)
  pub as_many : length globals ≡ length t.globals
  pub as_many_olds : length olds ≡ length (old_columns 0 t.globals)

parts_of : (t : TypedProgram) (n : ℕ) (s : List ℤ) → IsState (frame_at t n) s → StateParts t s
parts_of t n s h =
    let front : Columns = globals_from 0 t.globals in
    let olds : Columns = old_columns 0 t.globals in
    let locals : Columns = locals_from 0 (locals_at t n) in
    let g = state_parts front (olds ++ locals) s h in
    let k = state_parts olds locals g.1 g.4 in
    record {
      globals = g.0;
      olds = k.0;
      locals = k.1;
      is = g.2 ∙ ap (λ (l : List ℤ). g.0 ++ l) k.2;
      as_many = g.3 ∙ globals_count 0 t.globals;
      as_many_olds = k.3;
    }

-- the point with these values: what the rows of the start say of them
entered_values : (t : TypedProgram) (n : ℕ) (s news : List ℤ) (w : StateParts t s) →
    map (λ o. point_of ((s ++ news) ++ []) o.1) (olds_of (frame_at t n)) ≡ variable_values t.globals w.globals
entered_values t n s news w =
    let p : ℕ → ℤ = point_of ((s ++ news) ++ []) in
    let whole : (s ++ news) ++ [] ≡ w.globals ++ ((w.olds ++ w.locals) ++ news) =
    append_none (s ++ news) ∙ ap (λ (l : List ℤ). l ++ news) w.is ∙ append_assoc w.globals (w.olds ++ w.locals) news in
    let at : (i : ℕ) → i < length w.globals → p (0 + i) ≡ point_of w.globals i =
    λ i l. ap p (let z : 0 + i ≡ i = omega arith in z) ∙ ap (λ (xs : List ℤ). point_of xs i) whole ∙ read_append w.globals ((w.olds ++ w.locals) ++ news) i l in
    ap (λ (os : List (ℕ × ℕ)). map (λ o. p o.1) os) (olds_are t n) ∙ values_along p (length t.globals) 0 t.globals w.globals w.as_many at

written_values : (t : TypedProgram) (n : ℕ) (s news : List ℤ) → length s ≡ width_at t n → length news ≡ length (olds_of (frame_at t n)) →
    map (point_of ((s ++ news) ++ [])) (count_up (width_at t n) (length (olds_of (frame_at t n)))) ≡ news
written_values t n s news e k =
    ap (λ (xs : List ℤ). map (point_of xs) (count_up (width_at t n) (length (olds_of (frame_at t n))))) (append_assoc s news [])
    ∙ ap (λ (m : ℕ). map (point_of (s ++ (news ++ []))) (count_up m (length (olds_of (frame_at t n))))) (sym e)
    ∙ ap (λ (m : ℕ). map (point_of (s ++ (news ++ []))) (count_up (length s) m)) (sym k)
    ∙ read_along s news []

-- writing the old columns puts the new values in the place of the old ones
put_olds : (t : TypedProgram) (n : ℕ) (s news : List ℤ) (w : StateParts t s) → length news ≡ length (old_columns 0 t.globals) →
    put_all s (map (λ o. o.0) (olds_of (frame_at t n))) news ≡ w.globals ++ (news ++ w.locals)
put_olds t n s news w e =
    let numbers : map (λ o. o.0) (olds_of (frame_at t n)) ≡ count_up (length w.globals) (length w.olds) =
    ap (λ (os : List (ℕ × ℕ)). map (λ o. o.0) os) (olds_are t n) ∙ numbers_along (length t.globals) 0 t.globals
    ∙ ap (λ (k : ℕ). count_up k (length (old_columns 0 t.globals))) (sym w.as_many) ∙ ap (λ (k : ℕ). count_up (length w.globals) k) (sym w.as_many_olds) in
    ap (λ (l : List ℕ). put_all s l news) numbers ∙ ap (λ (l : List ℤ). put_all l (count_up (length w.globals) (length w.olds)) news) w.is
    ∙ put_along w.globals w.olds w.locals news (w.as_many_olds ∙ sym e)

olds_many : (t : TypedProgram) (n : ℕ) → length (olds_of (frame_at t n)) ≡ length (old_columns 0 t.globals)
olds_many t n = ap length (olds_are t n) ∙ olds_count (length t.globals) 0 t.globals

-- behind the letter of the start the old values are those of the globals
pub record IsEntered (t : TypedProgram) (s : List ℤ) : Type 0 where
  pub globals : List ℤ
  pub as_many : length globals ≡ length t.globals
  pub locals : List ℤ
  pub is : s ≡ shown t (record { globals = globals; old = globals; locals = locals })

pub start_led : (t : TypedProgram) (n : ℕ) (s u : List ℤ) →
    InsideLeads (frame_at t n) (map (λ o. o.0) (olds_of (frame_at t n))) 0 (entering_rows (width_at t n) (olds_of (frame_at t n))) s u → IsEntered t u
start_led t n s u h =
    let w : StateParts t s = parts_of t n s h.before in
    let as_many : length h.news ≡ length (olds_of (frame_at t n)) = h.as_many ∙ length_map (olds_of (frame_at t n)) in
    let none : h.rows_hold.helpers ≡ [] = empty h.rows_hold.helpers h.rows_hold.as_many in
    let hold : AllByRecursion (Holds (point_of ((s ++ h.news) ++ []))) (entering_rows (width_at t n) (olds_of (frame_at t n))) =
    subst (λ (hs : List ℤ). AllByRecursion (Holds (point_of ((s ++ h.news) ++ hs))) (entering_rows (width_at t n) (olds_of (frame_at t n)))) none h.rows_hold.hold in
    let same : h.news ≡ variable_values t.globals w.globals =
    sym (written_values t n s h.news (state_count (frame_at t n) s h.before) as_many)
    ∙ rows_back (point_of ((s ++ h.news) ++ [])) (width_at t n) (olds_of (frame_at t n)) hold ∙ entered_values t n s h.news w in
    record {
      globals = w.globals;
      as_many = w.as_many;
      locals = w.locals;
      is = h.put ∙ put_olds t n s h.news w (as_many ∙ olds_many t n) ∙ ap (λ (l : List ℤ). w.globals ++ (l ++ w.locals)) same;
    }
  where
    length_map : (os : List (ℕ × ℕ)) → length (map (λ o. o.0) os) ≡ length os
    length_map [] = refl
    length_map (o ∷ os) = ap suc (length_map os)

    empty : (xs : List ℤ) → length xs ≡ 0 → xs ≡ []
    empty [] e = refl
    empty (x ∷ xs) e = absurd (omega arith)

variables_count : (vs : List VarInfo) (k : ℕ) (zs : List ℤ) → length zs ≡ length vs → length (variable_values vs zs) ≡ length (old_columns k vs)
variables_count [] k [] e = refl
variables_count [] k (z ∷ zs) e = absurd (omega arith)
variables_count (v ∷ vs) k [] e = absurd (omega arith)
variables_count (v ∷ vs) k (z ∷ zs) e = by_test (not v.constant) (variables_count vs (suc k) zs (omega arith))
  where
    by_test : (b : Bool) → length (variable_values vs zs) ≡ length (old_columns (suc k) vs) → length (added b z (variable_values vs zs)) ≡ length (added b (Old k, v) (old_columns (suc k) vs))
    by_test true h = ap suc h
    by_test false h = h

same_fronts : {X : Type 0} (xs ys us vs : List X) → xs ++ us ≡ ys ++ vs → length xs ≡ length ys → (xs ≡ ys) × (us ≡ vs)
same_fronts [] [] us vs e l = (refl, e)
same_fronts [] (y ∷ ys) us vs e l = absurd (omega arith)
same_fronts (x ∷ xs) [] us vs e l = absurd (omega arith)
same_fronts (x ∷ xs) (y ∷ ys) us vs e l =
    let first : x ≡ y = cc in
    let more : xs ++ us ≡ ys ++ vs = cc in
    let h = same_fronts xs ys us vs more (omega arith) in
    (let k : xs ≡ ys = h.0 in cc, h.1)

-- a state whose old values are those of its globals is led to itself
pub start_leads : (t : TypedProgram) (n : ℕ) (s : List ℤ) → IsState (frame_at t n) s → IsEntered t s →
    InsideLeads (frame_at t n) (map (λ o. o.0) (olds_of (frame_at t n))) 0 (entering_rows (width_at t n) (olds_of (frame_at t n))) s s
start_leads t n s state e =
    let w : StateParts t s = parts_of t n s state in
    let news : List ℤ = variable_values t.globals w.globals in
    let olds_is : w.olds ≡ news = olds_are_values t s e w in
    let count : length news ≡ length (old_columns 0 t.globals) = variables_count t.globals 0 w.globals w.as_many in
    let as_many : length news ≡ length (olds_of (frame_at t n)) = count ∙ sym (olds_many t n) in
    record {
      before = state;
      after = state;
      news = news;
      as_many = as_many ∙ sym (length_map (olds_of (frame_at t n)));
      put = w.is ∙ ap (λ (l : List ℤ). w.globals ++ (l ++ w.locals)) olds_is ∙ sym (put_olds t n s news w count);
      rows_hold = record {
        helpers = [];
        as_many = refl;
        hold = rows_so (point_of ((s ++ news) ++ [])) (width_at t n) (olds_of (frame_at t n))
            (written_values t n s news (state_count (frame_at t n) s state) as_many ∙ sym (entered_values t n s news w));
      };
    }
  where
    length_map : (os : List (ℕ × ℕ)) → length (map (λ o. o.0) os) ≡ length os
    length_map [] = refl
    length_map (o ∷ os) = ap suc (length_map os)

    olds_are_values : (t : TypedProgram) (s : List ℤ) → (e : IsEntered t s) (w : StateParts t s) → w.olds ≡ variable_values t.globals w.globals
    olds_are_values t s e w =
        let apart : w.globals ++ (w.olds ++ w.locals) ≡ e.globals ++ (variable_values t.globals e.globals ++ e.locals) = sym w.is ∙ e.is in
        let h = same_fronts w.globals e.globals (w.olds ++ w.locals) (variable_values t.globals e.globals ++ e.locals) apart (w.as_many ∙ sym e.as_many) in
        let k = same_fronts w.olds (variable_values t.globals e.globals) w.locals e.locals h.1 (w.as_many_olds ∙ sym (variables_count t.globals 0 e.globals e.as_many)) in
        k.0 ∙ ap (variable_values t.globals) (sym h.0)
