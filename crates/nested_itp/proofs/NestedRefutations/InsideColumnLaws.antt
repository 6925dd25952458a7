-- The columns of an inside letter's system and those of the word, and at which of them its own cuts are.
use Rattle.std.proofs.Common.{◌≡◌, ◌∙◌, ◌⊎◌, inl, inr, ℕ, zero, suc, ◌+◌, ◌-◌, ◌*◌, ◌<◌, ◌≤◌, Bool, true, false, List, [], ◌∷◌, ◌++◌, length, refl, sym, ap, subst, arith, length-append, Option}
use Rattle.std.specs.Prelude.{slice_get, slice_index, unwrap_or, if◌then◌else◌}
use Rattle.std.specs.List.{AllByRecursion}
use Rattle.std.proofs.lemmas.Bool.{lt-ltb, le-ltb}
use Rattle.lin_rows.specs.Rows.{LinearRow}
use Rattle.farkas_check.specs.Trees.{Tree}
use Rattle.nwa_base.specs.declared.letters.Letter.{Letter}
use Rattle.letter_acts.specs.Frames.{Columns}
use Rattle.letter_acts.specs.Acts.{PlainAct, frame_of, act_of}
use Rattle.letter_acts.specs.Invariant.{Graph, alphabet_of}
use Rattle.path_rows.specs.Versions.{PathStage, Part, part_of}
use Rattle.letter_acts.specs.FrameRows.Rows.{columns_from}
use Rattle.path_rows.specs.Paths.{repeated, start_frame, first_stage}
use Rattle.triple_rows.specs.Systems.{after_column}
use Rattle.nested_itp.specs.NestedPredicates.Stamps.{column_stamps, stamps_along, stamps_of, column_stamp}
use Rattle.nested_itp.specs.NestedPredicates.Positions.{CallScope, innermost}
use Rattle.nested_itp.specs.NestedPredicates.Sums.{root_of}
use Rattle.nested_itp.specs.NestedRefutations.Refutations.{TreeSpot, View, Gathered}
use Rattle.nested_itp.specs.NestedRefutations.Numbers.{column_in, Step, Reading, position_here, source, target, begins}
use Rattle.nested_itp.proofs.NestedRefutations.WayLaws.{is_own}
use Rattle.nested_itp.proofs.NestedRefutations.OwnLaws.{IsColumnOf}
use Rattle.nested_itp.proofs.NestedRefutations.ViewLaws.{TwoClaims, two_own}
use Rattle.nested_itp.proofs.NestedRefutations.ReadLaws.{IsEarly, stamps_from}
use Rattle.nested_itp.proofs.NestedRefutations.VersionLaws.{index_left, index_right, columns_at, columns_count, split_at}
use Rattle.nested_itp.proofs.NestedRefutations.GoneLaws.{below_at}
use Rattle.nested_itp.proofs.NestedRefutations.AlongLaws.{first_reading}
use Rattle.nested_itp.proofs.NestedRefutations.InsideAtLaws.{InsideAt, inside_to, inside_part_is, step_at}

-- an inside letter of an accepted word, and a tree that refutes the word's rows
pub record InsideLetter : Type 0 where
  pub g : Graph
  pub globals : ℕ
  pub w : List Letter
  pub t : Tree
  pub r : Reading
  pub a : Letter
  pub rest : List Letter
  pub q : ℕ
  pub written : List ℕ
  pub helpers : ℕ
  pub rows : List LinearRow
  pub at : InsideAt g globals w r a rest q written helpers rows

abbrev pub frame_in : InsideLetter → Columns
frame_in c = frame_of (alphabet_of c.g) c.q

-- how many columns the letter makes
abbrev pub count_in : InsideLetter → ℕ
count_in c = length c.written + c.helpers

-- the versions of the columns of its system
abbrev pub names_in : InsideLetter → List ℕ
names_in c = c.r.stage.here ++ columns_from c.r.stage.made (count_in c)

abbrev pub step_in : InsideLetter → Step
step_in c = step_at c.g c.w c.t c.r c.a c.q c.written c.helpers c.rows

abbrev pub view_in : InsideLetter → View
view_in c = (step_in c).view

abbrev pub root_in : InsideLetter → TreeSpot
root_in c = record { node = 0; branch = root_of c.g c.w; tree = c.t }

abbrev pub first_in : InsideLetter → Gathered
first_in c = begins c.g c.w c.t (step_in c)

-- ---- the stamps of columns

pub stamp_left : (P : ℕ → Type 0) (xs l : List ℕ) (c : ℕ) → c < length xs → AllByRecursion P xs → P (column_stamp (xs ++ l) c)
stamp_left P [] l c b h = absurd (omega (arith, b))
stamp_left P (x ∷ xs) l zero b h = h.0
stamp_left P (x ∷ xs) l (suc c) b h = stamp_left P xs l c (omega (arith, b)) h.1

pub stamp_right : (P : ℕ → Type 0) (xs l : List ℕ) (i : ℕ) → P (column_stamp l i) → P (column_stamp (xs ++ l) (length xs + i))
stamp_right P [] l i h = subst (λ (n : ℕ). P (column_stamp l n)) (let e : i ≡ 0 + i = omega arith in e) h
stamp_right P (x ∷ xs) l i h = subst (λ (n : ℕ). P (column_stamp (x ∷ (xs ++ l)) n)) (let e : suc (length xs + i) ≡ suc (length xs) + i = omega arith in e) (stamp_right P xs l i h)

stamp_in : (P : ℕ → Type 0) (xs : List ℕ) (c : ℕ) → c < length xs → AllByRecursion P xs → P (column_stamp xs c)
stamp_in P [] c b h = absurd (omega (arith, b))
stamp_in P (x ∷ xs) zero b h = h.0
stamp_in P (x ∷ xs) (suc c) b h = stamp_in P xs c (omega (arith, b)) h.1

-- a column of three lists in a row stands in one of them
pub data StampIs (P Q R : ℕ → Type 0) (first second stamp c : ℕ) : Type 0 where
  in_first : c < first → P stamp → StampIs P Q R first second stamp c
  in_second : (i : ℕ) → i < second → c ≡ first + i → Q stamp → StampIs P Q R first second stamp c
  in_third : first + second ≤ c → R stamp → StampIs P Q R first second stamp c

pub stamp_is : (P Q R : ℕ → Type 0) (xs ys zs : List ℕ) → AllByRecursion P xs → AllByRecursion Q ys → AllByRecursion R zs → (c : ℕ) → c < length (xs ++ (ys ++ zs)) →
    StampIs P Q R (length xs) (length ys) (column_stamp (xs ++ (ys ++ zs)) c) c
stamp_is P Q R xs ys zs p q r c l = by_first (split_at (length xs) c)
  where
    total : length (xs ++ (ys ++ zs)) ≡ length xs + (length ys + length zs)
    total = length-append xs (ys ++ zs) ∙ ap (λ (n : ℕ). length xs + n) (length-append ys zs)

    by_second : (i : ℕ) → c ≡ length xs + i → (i < length ys) ⊎ ((j : ℕ) × (i ≡ length ys + j)) → StampIs P Q R (length xs) (length ys) (column_stamp (xs ++ (ys ++ zs)) c) c
    by_second i e (inl b) = in_second i b e (subst (λ (n : ℕ). Q (column_stamp (xs ++ (ys ++ zs)) n)) (sym e) (stamp_right Q xs (ys ++ zs) i (stamp_left Q ys zs i b q)))
    by_second i e (inr h) =
        let j = h.1 in
        let t = total in
        in_third (omega (arith, e, j))
        (subst (λ (n : ℕ). R (column_stamp (xs ++ (ys ++ zs)) n)) (sym (e ∙ ap (λ (n : ℕ). length xs + n) h.1))
        (stamp_right R xs (ys ++ zs) (length ys + h.0) (stamp_right R ys zs h.0 (stamp_in R zs h.0 (omega (arith, e, j, t, l)) r))))

    by_first : (c < length xs) ⊎ ((i : ℕ) × (c ≡ length xs + i)) → StampIs P Q R (length xs) (length ys) (column_stamp (xs ++ (ys ++ zs)) c) c
    by_first (inl b) = in_first b (stamp_left P xs (ys ++ zs) c b p)
    by_first (inr h) = by_second h.0 h.1 (split_at (length ys) h.0)

pub all_repeated : (P : ℕ → Type 0) (x n : ℕ) → P x → AllByRecursion P (repeated x n)
all_repeated P x zero h = tt
all_repeated P x (suc n) h = (h, all_repeated P x n h)

pub length-repeated : (x n : ℕ) → length (repeated x n) ≡ n
length-repeated x zero = refl
length-repeated x (suc n) = ap suc (length-repeated x n)

-- the stamp of each column of the word: made before the letter, by it, or later
pub column_stamp_is : (c : InsideLetter) (col : ℕ) → col < length (view_in c).columns →
    StampIs (IsEarly c.r.letters) (λ s. s ≡ 2 * suc c.r.letters) (λ s. 2 * suc (suc c.r.letters) ≤ s) c.r.stage.made (count_in c) (column_stamp (view_in c).columns col) col
column_stamp_is c col l =
    let al = alphabet_of c.g in
    let k : ℕ = suc c.r.letters in
    let part : Part = part_of al c.a c.r.stage in
    let later : List ℕ = (stamps_along al (suc k) part.after c.rest).columns in
    let own : column_stamps al k (act_of al c.a) part ≡ repeated (2 * k) (count_in c) =
    ap (λ (o : Option PlainAct). column_stamps al k o part) c.at.act_is ∙
    ap (λ (x : Part). repeated (2 * k) x.columns) (inside_part_is c.g c.globals c.w c.r c.a c.rest c.q c.written c.helpers c.rows c.at) in
    let e : (stamps_of c.g c.w).columns ≡ c.at.along.read.columns ++ (repeated (2 * k) (count_in c) ++ later) =
    c.at.along.read.column_stamps ∙ ap (λ (l : List ℕ). c.at.along.read.columns ++ (l ++ later)) own in
    subst (λ (n : ℕ). StampIs (IsEarly c.r.letters) (λ s. s ≡ 2 * k) (λ s. 2 * suc k ≤ s) n (count_in c) (column_stamp (view_in c).columns col) col) c.at.along.read.made
    (subst (λ (n : ℕ). StampIs (IsEarly c.r.letters) (λ s. s ≡ 2 * k) (λ s. 2 * suc k ≤ s) (length c.at.along.read.columns) n (column_stamp (view_in c).columns col) col) (length-repeated (2 * k) (count_in c))
    (subst (λ (cs : List ℕ). StampIs (IsEarly c.r.letters) (λ s. s ≡ 2 * k) (λ s. 2 * suc k ≤ s) (length c.at.along.read.columns) (length (repeated (2 * k) (count_in c))) (column_stamp cs col) col) (sym e)
    (stamp_is (IsEarly c.r.letters) (λ s. s ≡ 2 * k) (λ s. 2 * suc k ≤ s) c.at.along.read.columns (repeated (2 * k) (count_in c)) later c.at.along.read.columns_within
    (all_repeated (λ s. s ≡ 2 * k) (2 * k) (count_in c) refl) (stamps_from al (suc k) part.after c.rest).1 col (subst (λ (cs : List ℕ). col < length cs) e l))))

-- ---- what is own

pub owns_innermost : (n : ℕ) (scopes : List CallScope) → AllByRecursion (λ s. s.own ≤ 2 * n) scopes → (innermost scopes).own ≤ 2 * n
owns_innermost n [] h = omega arith
owns_innermost n (s ∷ scopes) h = h.0

pub two_in : (c : InsideLetter) → TwoClaims (view_in c)
two_in c = record {
  before = source (position_here c.r) (λ x. x);
  after = target (inside_to c.r c.written) (after_column 0 (length (frame_in c)) c.written);
  claims = refl;
  returns = refl;
  holds = refl;
  fails = refl;
  own = refl;
  upto = omega arith;
  counts = (let l = owns_innermost c.r.letters c.r.scopes c.at.along.placed.owns in omega (arith, l));
}

pub own_low : (c : InsideLetter) (s : ℕ) → s < suc (suc (2 * c.r.letters)) → is_own (view_in c) s ≡ false
unfolding two_in
own_low c s l = (two_own (view_in c) (two_in c) s).0 l

pub own_here : (c : InsideLetter) (s : ℕ) → suc (2 * c.r.letters) < s → s < suc (suc (2 * suc c.r.letters)) → is_own (view_in c) s ≡ true
unfolding two_in
own_here c s l m = (two_own (view_in c) (two_in c) s).1 l m

pub own_high : (c : InsideLetter) (s : ℕ) → suc (2 * suc c.r.letters) < s → is_own (view_in c) s ≡ false
unfolding two_in
own_high c s l = (two_own (view_in c) (two_in c) s).2 l

-- ---- at which columns own cuts are

not_both : (x : Bool) → x ≡ true → x ≡ false → ⊥
not_both true e f = absurd (cc)
not_both false e f = absurd (cc)

-- at those that the letter made, and of the first letter at those of the start
pub own_columns : (c : InsideLetter) (col : ℕ) → col < length (view_in c).columns → is_own (view_in c) (column_stamp (view_in c).columns col) ≡ true →
    ((i : ℕ) × (i < count_in c) × (col ≡ c.r.stage.made + i)) ⊎ ((c.r ≡ first_reading c.g) × (col < c.r.stage.made))
own_columns c col l own = by_stamp (column_stamp_is c col l)
  where
    by_begun : col < c.r.stage.made → IsEarly c.r.letters (column_stamp (view_in c).columns col) → ((c.r ≡ first_reading c.g) × (frame_in c ≡ start_frame c.g)) ⊎ (0 < c.r.letters) →
        ((i : ℕ) × (i < count_in c) × (col ≡ c.r.stage.made + i)) ⊎ ((c.r ≡ first_reading c.g) × (col < c.r.stage.made))
    by_begun b e (inl f) = inr (f.0, b)
    by_begun b (two, inl e) (inr n) = absurd (not_both (is_own (view_in c) (column_stamp (view_in c).columns col)) own (own_low c (column_stamp (view_in c).columns col) (omega (arith, e, n))))
    by_begun b (two, inr e) (inr n) = absurd (not_both (is_own (view_in c) (column_stamp (view_in c).columns col)) own (own_low c (column_stamp (view_in c).columns col) (omega (arith, e, n))))

    by_stamp : StampIs (IsEarly c.r.letters) (λ s. s ≡ 2 * suc c.r.letters) (λ s. 2 * suc (suc c.r.letters) ≤ s) c.r.stage.made (count_in c) (column_stamp (view_in c).columns col) col →
        ((i : ℕ) × (i < count_in c) × (col ≡ c.r.stage.made + i)) ⊎ ((c.r ≡ first_reading c.g) × (col < c.r.stage.made))
    by_stamp (in_first b e) = by_begun b e c.at.begun
    by_stamp (in_second i b e s) = inl (i, b, e)
    by_stamp (in_third b e) = absurd (not_both (is_own (view_in c) (column_stamp (view_in c).columns col)) own (own_high c (column_stamp (view_in c).columns col) (omega (arith, e))))

-- a cut that is counted before the letter is at a column that was made before it
pub early_column : (c : InsideLetter) (col : ℕ) → col < length (view_in c).columns → column_stamp (view_in c).columns col < suc (suc (2 * c.r.letters)) → col < c.r.stage.made
early_column c col l s = by_stamp (column_stamp_is c col l)
  where
    by_stamp : StampIs (IsEarly c.r.letters) (λ s. s ≡ 2 * suc c.r.letters) (λ s. 2 * suc (suc c.r.letters) ≤ s) c.r.stage.made (count_in c) (column_stamp (view_in c).columns col) col → col < c.r.stage.made
    by_stamp (in_first b e) = b
    by_stamp (in_second i b e f) = absurd (omega (arith, s, f))
    by_stamp (in_third b e) = absurd (omega (arith, s, e))

-- and one that is counted later is at a column that was made later
pub late_column : (c : InsideLetter) (col : ℕ) → col < length (view_in c).columns → suc (2 * suc c.r.letters) < column_stamp (view_in c).columns col → c.r.stage.made + count_in c ≤ col
late_column c col l s = by_stamp (column_stamp_is c col l)
  where
    by_early : IsEarly c.r.letters (column_stamp (view_in c).columns col) → ⊥
    by_early (two, inl e) = omega (arith, s, e)
    by_early (two, inr e) = omega (arith, s, e)

    by_stamp : StampIs (IsEarly c.r.letters) (λ s. s ≡ 2 * suc c.r.letters) (λ s. 2 * suc (suc c.r.letters) ≤ s) c.r.stage.made (count_in c) (column_stamp (view_in c).columns col) col →
        c.r.stage.made + count_in c ≤ col
    by_stamp (in_first b e) = absurd (by_early e)
    by_stamp (in_second i b e f) = absurd (omega (arith, s, f))
    by_stamp (in_third b e) = b

-- ---- the column in the system

column_new : (first n count i : ℕ) → i < count → column_in 0 first (columns_from n count) (first + i) ≡ n + i
column_new first n count i l =
    ap (λ (z : Bool). if z then 0 + (first + i) else unwrap_or (slice_get (columns_from n count) (first + i - first)) (0 + (first + i))) (le-ltb (first + i) first (omega arith)) ∙
    ap (λ (k : ℕ). unwrap_or (slice_get (columns_from n count) k) (0 + (first + i))) (let e : first + i - first ≡ i = omega arith in e) ∙ got (0 + (first + i)) n count i l
  where
    got : (d n count i : ℕ) → i < count → unwrap_or (slice_get (columns_from n count) i) d ≡ n + i
    got d n zero i l = absurd (omega (arith, l))
    got d n (suc count) zero l = omega arith
    got d n (suc count) (suc i) l = got d (suc n) count i (omega (arith, l)) ∙ (let e : suc n + i ≡ n + suc i = omega arith in e)

pub column_old : (first col : ℕ) (made : List ℕ) → col < first → column_in 0 first made col ≡ col
column_old first col made l =
    ap (λ (z : Bool). if z then 0 + col else unwrap_or (slice_get made (col - first)) (0 + col)) (lt-ltb col first l) ∙ (let e : 0 + col ≡ col = omega arith in e)

-- ---- the versions of the system's columns

pub long_in : (c : InsideLetter) → length c.r.stage.here ≡ length (frame_in c)
long_in c = c.at.versions.long

pub names_count : (c : InsideLetter) → length (names_in c) ≡ length c.r.stage.here + count_in c
names_count c = length-append c.r.stage.here (columns_from c.r.stage.made (count_in c)) ∙ ap (λ (n : ℕ). length c.r.stage.here + n) (columns_count c.r.stage.made (count_in c))

pub name_old : (c : InsideLetter) (x : ℕ) → x < length c.r.stage.here → slice_index (names_in c) x ≡ slice_index c.r.stage.here x
name_old c x l = index_left c.r.stage.here (columns_from c.r.stage.made (count_in c)) x l

pub name_new : (c : InsideLetter) (x i : ℕ) → x ≡ length c.r.stage.here + i → i < count_in c → slice_index (names_in c) x ≡ c.r.stage.made + i
name_new c x i e l =
    ap (slice_index (names_in c)) e ∙ index_right c.r.stage.here (columns_from c.r.stage.made (count_in c)) i ∙ columns_at c.r.stage.made (count_in c) i l

-- before the first letter each column of the frame is its own version
pub name_first : (c : InsideLetter) → c.r ≡ first_reading c.g → (x : ℕ) → x < length (names_in c) → (slice_index (names_in c) x ≡ x) × (c.r.stage.made ≡ length c.r.stage.here)
name_first c e x l =
    let stage : c.r.stage ≡ first_stage (start_frame c.g) = ap (λ (y : Reading). y.stage) e in
    let made : c.r.stage.made ≡ length (start_frame c.g) = ap (λ (p : PathStage). p.made) stage in
    let long : length c.r.stage.here ≡ length (start_frame c.g) = ap (λ (p : PathStage). length p.here) stage ∙ columns_count 0 (length (start_frame c.g)) in
    let count = names_count c in
    (by_part made long stage (split_at (length c.r.stage.here) x), made ∙ sym long)
  where
    by_part : c.r.stage.made ≡ length (start_frame c.g) → length c.r.stage.here ≡ length (start_frame c.g) → c.r.stage ≡ first_stage (start_frame c.g) →
        (x < length c.r.stage.here) ⊎ ((i : ℕ) × (x ≡ length c.r.stage.here + i)) → slice_index (names_in c) x ≡ x
    by_part made long stage (inl b) =
        name_old c x b ∙ ap (λ (p : PathStage). slice_index p.here x) stage ∙ columns_at 0 (length (start_frame c.g)) x (omega (arith, b, long)) ∙ (let e : 0 + x ≡ x = omega arith in e)
    by_part made long stage (inr h) =
        let i = h.1 in
        let count = names_count c in
        let m = name_new c x h.0 h.1 (omega (arith, i, l, count)) in
        omega (arith, m, made, long, i)

-- own cuts at a column of the system are those at its version
pub column_of : (c : InsideLetter) (x : ℕ) → x < length (names_in c) → IsColumnOf (view_in c) x (slice_index (names_in c) x)
column_of c x l col within own = by_own (own_columns c col within own)
  where
    new_to : (i : ℕ) → i < count_in c → col ≡ c.r.stage.made + i → (x < length c.r.stage.here) ⊎ ((j : ℕ) × (x ≡ length c.r.stage.here + j)) → col ≡ slice_index (names_in c) x → length (frame_in c) + i ≡ x
    new_to i b e (inl k) f =
        let o = name_old c x k in
        let m = below_at c.r.stage.made c.r.stage.here x c.at.versions.below k in
        absurd (omega (arith, e, f, o, m))
    new_to i b e (inr h) f =
        let j = h.1 in
        let count = names_count c in
        let m = name_new c x h.0 h.1 (omega (arith, j, l, count)) in
        let long = long_in c in
        omega (arith, e, f, m, j, long)

    by_own : ((i : ℕ) × (i < count_in c) × (col ≡ c.r.stage.made + i)) ⊎ ((c.r ≡ first_reading c.g) × (col < c.r.stage.made)) →
        (col ≡ slice_index (names_in c) x → (view_in c).column col ≡ x) × ((view_in c).column col ≡ x → col ≡ slice_index (names_in c) x)
    by_own (inl h) =
        let place : (view_in c).column col ≡ length (frame_in c) + h.0 =
        ap (view_in c).column h.2 ∙ column_new c.r.stage.made (length (frame_in c)) (count_in c) h.0 h.1 in (
          λ f. place ∙ new_to h.0 h.1 h.2 (split_at (length c.r.stage.here) x) f,
          λ f. (let long = long_in c in let m = name_new c x h.0 (omega (arith, place, f, long)) h.1 in let e = h.2 in omega (arith, m, e)),
        )
    by_own (inr h) =
        let place : (view_in c).column col ≡ col = column_old c.r.stage.made col (columns_from (length (frame_in c)) (count_in c)) h.1 in
        let same : slice_index (names_in c) x ≡ x = (name_first c h.0 x l).0 in (
          λ f. place ∙ f ∙ same,
          λ f. sym place ∙ f ∙ sym same,
        )

-- no own cut is at a column that the system does not have
pub column_past : (c : InsideLetter) (x : ℕ) → length (names_in c) ≤ x → (col : ℕ) → col < length (view_in c).columns → is_own (view_in c) (column_stamp (view_in c).columns col) ≡ true →
    (view_in c).column col ≡ x → ⊥
column_past c x l col within own f = by_own (own_columns c col within own)
  where
    by_own : ((i : ℕ) × (i < count_in c) × (col ≡ c.r.stage.made + i)) ⊎ ((c.r ≡ first_reading c.g) × (col < c.r.stage.made)) → ⊥
    by_own (inl h) =
        let place : (view_in c).column col ≡ length (frame_in c) + h.0 =
        ap (view_in c).column h.2 ∙ column_new c.r.stage.made (length (frame_in c)) (count_in c) h.0 h.1 in
        let count = names_count c in
        let long = long_in c in
        let b = h.1 in
        omega (arith, place, f, l, count, long, b)
    by_own (inr h) =
        let place : (view_in c).column col ≡ col = column_old c.r.stage.made col (columns_from (length (frame_in c)) (count_in c)) h.1 in
        let stage : c.r.stage ≡ first_stage (start_frame c.g) = ap (λ (y : Reading). y.stage) h.0 in
        let made : c.r.stage.made ≡ length (start_frame c.g) = ap (λ (p : PathStage). p.made) stage in
        let long : length c.r.stage.here ≡ length (start_frame c.g) = ap (λ (p : PathStage). length p.here) stage ∙ columns_count 0 (length (start_frame c.g)) in
        let count = names_count c in
        let b = h.1 in
        omega (arith, place, f, l, count, made, long, b)
