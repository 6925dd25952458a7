-- Columns one after another, and the columns of frames by their class.
use Rattle.std.proofs.Common.{◌≡◌, ◌∙◌, ℕ, zero, suc, ◌+◌, ◌-◌, ◌<◌, ◌≤◌, Bool, true, false, cond, List, [], ◌∷◌, ◌++◌, length, map, take, drop, get_or, append_assoc, refl, sym, ap, subst, arith}
use Rattle.std.specs.Prelude.{unwrap_or, slice_get, nat_lt, filter, nat_eq, ◌||◌}
use Rattle.std.specs.List.{AllByRecursion}
use Rattle.std.proofs.lemmas.List.{append-nil, take_all, drop_more, drop_all}
use Rattle.boogie_tree.specs.declared.tree.VarInfo.{VarInfo}
use Rattle.boogie_tree.specs.declared.tree.Column.{Column}
use Rattle.boogie_tree.specs.declared.tree.Column.TheVariants.{Global, Old, Local}
use Rattle.letter_acts.specs.Frames.{Columns, added, places, old_at, olds_from, olds_of}
use Rattle.letter_acts.specs.FrameRows.Rows.{columns_from}
use Rattle.letter_acts.specs.FrameRows.Frames.{is_old}
use Rattle.letter_acts.specs.Reading.{is_listed}

-- ---- columns in order

pub columns_next : (first i : ℕ) → columns_from first (i + 1) ≡ columns_from first i ++ (first + i) ∷ []
columns_next first zero = ap (λ (n : ℕ). n ∷ []) (let e : first ≡ first + 0 = omega arith in e)
columns_next first (suc i) =
    ap (columns_from first) (let e : suc i + 1 ≡ suc (i + 1) = omega arith in e) ∙
    ap (λ (l : List ℕ). first ∷ l) (columns_next (suc first) i) ∙
    ap (λ (n : ℕ). first ∷ (columns_from (suc first) i ++ n ∷ [])) (let e : suc first + i ≡ first + suc i = omega arith in e)

pub columns_added : (old now new : List ℕ) (first i c : ℕ) → now ≡ old ++ columns_from first i → new ≡ now ++ c ∷ [] → c ≡ first + i → new ≡ old ++ columns_from first (i + 1)
columns_added old now new first i c e f h =
    f ∙ ap (λ (l : List ℕ). l ++ c ∷ []) e ∙ append_assoc old (columns_from first i) (c ∷ []) ∙
    ap (λ (n : ℕ). old ++ (columns_from first i ++ n ∷ [])) h ∙ ap (λ (l : List ℕ). old ++ l) (sym (columns_next first i))

-- ---- a list of what a function makes of each member

map_next : {X Y : Type 0} (f : X → Y) (xs : List X) (i : ℕ) (d : X) → i < length xs → map f (take (i + 1) xs) ≡ map f (take i xs) ++ f (get_or xs i d) ∷ []
map_next f [] i d l = absurd (omega (arith, l))
map_next f (x ∷ xs) zero d l = refl
map_next {X} {Y} f (x ∷ xs) (suc i) d l =
    ap (λ (n : ℕ). map f (take n (x ∷ xs))) (let e : suc i + 1 ≡ suc (i + 1) = omega arith in e) ∙
    ap (λ (l : List Y). f x ∷ l) (map_next f xs i d (omega (arith, l)))

pub mapped_next : {X Y : Type 0} (f : X → Y) (xs : List X) (i : ℕ) (d : X) (old now new : List Y) (y : Y) → i < length xs → now ≡ old ++ map f (take i xs) → new ≡ now ++ y ∷ [] → y ≡ f (get_or xs i d) →
    new ≡ old ++ map f (take (i + 1) xs)
mapped_next {X} {Y} f xs i d old now new y l e h k =
    h ∙ ap (λ (z : List Y). z ++ y ∷ []) e ∙ append_assoc old (map f (take i xs)) (y ∷ []) ∙
    ap (λ (z : Y). old ++ (map f (take i xs) ++ z ∷ [])) k ∙ ap (λ (z : List Y). old ++ z) (sym (map_next f xs i d l))

pub mapped_done : {X Y : Type 0} (f : X → Y) (xs : List X) (i : ℕ) (old now : List Y) → length xs ≤ i → now ≡ old ++ map f (take i xs) → now ≡ old ++ map f xs
mapped_done {X} {Y} f xs i old now l e = e ∙ ap (λ (z : List X). old ++ map f z) (take_all i xs l)

pub mapped_twice : {X Y Z : Type 0} (f : X → Y) (h : Y → Z) (xs : List X) → map h (map f xs) ≡ map (λ (x : X). h (f x)) xs
mapped_twice f h [] = refl
mapped_twice {X} {Y} {Z} f h (x ∷ xs) = ap (λ (l : List Z). h (f x) ∷ l) (mapped_twice f h xs)

-- ---- places

added_front : {X : Type 0} (b : Bool) (x : X) (rest : List X) → added b x [] ++ rest ≡ added b x rest
added_front true x rest = refl
added_front false x rest = refl

pub places_next : {X : Type 0} (test : X → Bool) (xs : List X) (i place : ℕ) (d : X) (front new : List ℕ) (b : Bool) → i < length xs → place ≡ i → b ≡ test (get_or xs i d) → new ≡ front ++ added b place [] →
    front ++ places test i (drop i xs) ≡ places test 0 xs → new ++ places test (i + 1) (drop (i + 1) xs) ≡ places test 0 xs
places_next {X} test xs i place d front new b l p t e h =
    let x : X = get_or xs i d in
    let rest : List ℕ = places test (i + 1) (drop (i + 1) xs) in
    ap (λ (z : List ℕ). z ++ rest) e ∙ append_assoc front (added b place []) rest ∙ ap (λ (z : List ℕ). front ++ z) (added_front b place rest) ∙
    ap (λ (n : ℕ). front ++ added b n rest) p ∙ ap (λ (c : Bool). front ++ added c i rest) t ∙
    subst (λ (m : ℕ). front ++ added (test x) i (places test m (drop (i + 1) xs)) ≡ places test 0 xs) (let n : suc i ≡ i + 1 = omega arith in n)
    (subst (λ (ys : List X). front ++ places test i ys ≡ places test 0 xs) (drop_more xs i d l) h)

pub places_done : {X : Type 0} (test : X → Bool) (xs : List X) (i : ℕ) (front : List ℕ) → length xs ≤ i → front ++ places test i (drop i xs) ≡ places test 0 xs → front ≡ places test 0 xs
places_done {X} test xs i front l e =
    sym (append-nil front) ∙ subst (λ (ys : List X). front ++ places test i ys ≡ places test 0 xs) (drop_all i xs l) e

-- ---- old columns

old_front : (c : Column) (n : ℕ) (rest : List (ℕ × ℕ)) → old_at c n [] ++ rest ≡ old_at c n rest
old_front (Global g) n rest = refl
old_front (Old g) n rest = refl
old_front (Local l) n rest = refl

pub olds_next : (frame : Columns) (i place : ℕ) (d c : Column × VarInfo) (front new : List (ℕ × ℕ)) → i < length frame → place ≡ i → c ≡ get_or frame i d → new ≡ front ++ old_at c.0 place [] →
    front ++ olds_from i (drop i frame) ≡ olds_of frame → new ++ olds_from (i + 1) (drop (i + 1) frame) ≡ olds_of frame
olds_next frame i place d c front new l p k e h =
    let rest : List (ℕ × ℕ) = olds_from (i + 1) (drop (i + 1) frame) in
    ap (λ (z : List (ℕ × ℕ)). z ++ rest) e ∙ append_assoc front (old_at c.0 place []) rest ∙ ap (λ (z : List (ℕ × ℕ)). front ++ z) (old_front c.0 place rest) ∙
    ap (λ (n : ℕ). front ++ old_at c.0 n rest) p ∙ ap (λ (x : Column × VarInfo). front ++ old_at x.0 i rest) k ∙
    subst (λ (m : ℕ). front ++ old_at (get_or frame i d).0 i (olds_from m (drop (i + 1) frame)) ≡ olds_of frame) (let n : suc i ≡ i + 1 = omega arith in n)
    (subst (λ (ys : Columns). front ++ olds_from i ys ≡ olds_of frame) (drop_more frame i d l) h)

pub olds_done : (frame : Columns) (i : ℕ) (front : List (ℕ × ℕ)) → length frame ≤ i → front ++ olds_from i (drop i frame) ≡ olds_of frame → front ≡ olds_of frame
olds_done frame i front l e = sym (append-nil front) ∙ subst (λ (ys : Columns). front ++ olds_from i ys ≡ olds_of frame) (drop_all i frame l) e

olds_placed_from : (n : ℕ) (frame : Columns) → map (λ (o : ℕ × ℕ). o.0) (olds_from n frame) ≡ places is_old n frame
olds_placed_from n [] = refl
olds_placed_from n (c ∷ cs) = by_column c.0 (olds_placed_from (suc n) cs)
  where
    by_column : (k : Column) → map (λ (o : ℕ × ℕ). o.0) (olds_from (suc n) cs) ≡ places is_old (suc n) cs →
        map (λ (o : ℕ × ℕ). o.0) (old_at k n (olds_from (suc n) cs)) ≡ added (is_old (k, c.1)) n (places is_old (suc n) cs)
    by_column (Global g) h = h
    by_column (Old g) h = ap (λ (l : List ℕ). n ∷ l) h
    by_column (Local m) h = h

-- the places of old columns
pub olds_placed : (frame : Columns) → map (λ (o : ℕ × ℕ). o.0) (olds_of frame) ≡ places is_old 0 frame
olds_placed frame = olds_placed_from 0 frame

-- ---- columns that are listed

pub listed_next : (xs : List ℕ) (i c : ℕ) → i < length xs → is_listed (take (i + 1) xs) c ≡ cond (nat_eq (get_or xs i 0) c) true (is_listed (take i xs) c)
listed_next [] i c l = absurd (omega (arith, l))
listed_next (x ∷ xs) zero c l = by_test (nat_eq x c)
  where
    by_test : (b : Bool) → (b || false) ≡ cond b true false
    by_test true = refl
    by_test false = refl
listed_next (x ∷ xs) (suc i) c l =
    ap (λ (n : ℕ). is_listed (take n (x ∷ xs)) c) (let e : suc i + 1 ≡ suc (i + 1) = omega arith in e) ∙
    ap (λ (b : Bool). nat_eq x c || b) (listed_next xs i c (omega (arith, l))) ∙ by_test (nat_eq x c) (nat_eq (get_or xs i 0) c)
  where
    by_test : (a b : Bool) → (a || cond b true (is_listed (take i xs) c)) ≡ cond b true (a || is_listed (take i xs) c)
    by_test true true = refl
    by_test true false = refl
    by_test false true = refl
    by_test false false = refl

-- ---- the columns of a system

place_found : (made : List ℕ) (k : ℕ) (d n : ℕ) → AllByRecursion (λ c. c < n) made → d < n → unwrap_or (slice_get made k) d < n
place_found [] k d n h l = l
place_found (c ∷ cs) zero d n h l = h.0
place_found (c ∷ cs) (suc k) d n h l = place_found cs k d n h.1 l

pub all_below : (n : ℕ) (xs : List ℕ) → ((i : ℕ) → i < length xs → get_or xs i 0 < n) → AllByRecursion (λ x. x < n) xs
all_below n [] h = tt
all_below n (x ∷ xs) h = (h 0 (omega arith), all_below n xs (λ i l. h (suc i) (omega (arith, l))))

pub place_fits : (at first c n : ℕ) (made : List ℕ) → AllByRecursion (λ x. x < n) made → at + c < n → cond (nat_lt c first) (at + c) (unwrap_or (slice_get made (c - first)) (at + c)) < n
place_fits at first c n made h l = by_test (nat_lt c first)
  where
    by_test : (b : Bool) → cond b (at + c) (unwrap_or (slice_get made (c - first)) (at + c)) < n
    by_test true = l
    by_test false = place_found made (c - first) (at + c) n h l

-- columns that are added behind others
pub filtered_behind : (p : ℕ → Bool) (xs : List ℕ) (i x : ℕ) (first front new : List ℕ) (b : Bool) → i < length xs → x ≡ get_or xs i 0 → b ≡ p x → new ≡ front ++ added b x [] →
    front ++ filter p (drop i xs) ≡ first ++ filter p xs → new ++ filter p (drop (i + 1) xs) ≡ first ++ filter p xs
filtered_behind p xs i x first front new b l k t e h =
    let rest : List ℕ = filter p (drop (i + 1) xs) in
    ap (λ (z : List ℕ). z ++ rest) e ∙ append_assoc front (added b x []) rest ∙ ap (λ (z : List ℕ). front ++ z) (added_front b x rest) ∙
    ap (λ (c : Bool). front ++ added c x rest) t ∙ ap (λ (z : List ℕ). front ++ z) (by_test (p x)) ∙
    ap (λ (y : ℕ). front ++ cond (p y) (y ∷ rest) rest) k ∙
    subst (λ (ys : List ℕ). front ++ filter p ys ≡ first ++ filter p xs) (drop_more xs i 0 l) h
  where
    by_test : (c : Bool) → added c x (filter p (drop (i + 1) xs)) ≡ cond c (x ∷ filter p (drop (i + 1) xs)) (filter p (drop (i + 1) xs))
    by_test true = refl
    by_test false = refl

pub filtered_all : (p : ℕ → Bool) (xs : List ℕ) (i : ℕ) (first front : List ℕ) → length xs ≤ i → front ++ filter p (drop i xs) ≡ first ++ filter p xs → front ≡ first ++ filter p xs
filtered_all p xs i first front l e = sym (append-nil front) ∙ subst (λ (ys : List ℕ). front ++ filter p ys ≡ first ++ filter p xs) (drop_all i xs l) e
