-- At which columns the own cuts of a call's triple are, and at which of its system's columns.
use Rattle.std.proofs.Common.{◌≡◌, ◌∙◌, ◌⊎◌, inl, inr, ℕ, zero, suc, ◌+◌, ◌-◌, ◌*◌, ◌<◌, ◌≤◌, Bool, true, false, List, [], ◌∷◌, ◌++◌, length, map, refl, sym, ap, subst, arith, length-append, Option}
use Rattle.std.specs.Prelude.{not, ◌&&◌, nat_lt, slice_get, slice_index, unwrap_or, if◌then◌else◌}
use Rattle.std.specs.List.{AllByRecursion}
use Rattle.std.proofs.lemmas.Bool.{lt-ltb, le-ltb}
use Rattle.nwa_base.specs.declared.letters.Kind.{Kind}
use Rattle.nwa_base.specs.declared.letters.Kind.TheVariants as kinds
use Rattle.letter_acts.specs.Frames.{places}
use Rattle.letter_acts.specs.Acts.{PlainAct}
use Rattle.letter_acts.specs.Invariant.{alphabet_of}
use Rattle.path_rows.specs.Versions.{Part, part_of}
use Rattle.letter_acts.specs.FrameRows.Rows.{columns_from}
use Rattle.letter_acts.specs.FrameRows.Frames.{is_old}
use Rattle.path_rows.specs.Paths.{repeated}
use Rattle.nested_itp.specs.NestedPredicates.Stamps.{column_stamps, stamps_along, column_stamp}
use Rattle.nested_itp.specs.NestedPredicates.Positions.{returned_by, has_return, innermost}
use Rattle.nested_itp.specs.NestedRefutations.Refutations.{Claim, own_cut, told_by}
use Rattle.nested_itp.specs.NestedRefutations.Numbers.{made_by_call, column_in}
use Rattle.nested_itp.proofs.NestedRefutations.WayLaws.{is_own_meeting, is_own}
use Rattle.nested_itp.proofs.NestedRefutations.ReadLaws.{IsEarly, stamps_from}
use Rattle.nested_itp.proofs.NestedRefutations.VersionLaws.{index_left, index_right, columns_at, columns_count, split_at}
use Rattle.nested_itp.proofs.NestedRefutations.AlongLaws.{ReturnWhere, no_own}
use Rattle.nested_itp.proofs.NestedRefutations.InsideColumnLaws.{stamp_right, all_repeated, length-repeated, StampIs, in_first, in_second, in_third, stamp_is}
use Rattle.nested_itp.proofs.NestedRefutations.CallColumnLaws.{CallLetter, caller_in, callee_in, width, heads, olds, locals, made, made_count, call_view, lay, caller_long, callee_long}

-- ---- what is own

meeting_if : (x y : Bool) (a b : Claim) → is_own_meeting (if x then told_by 0 a else (if y then own_cut else told_by 1 b)) ≡ (not x && y)
meeting_if true y a b = refl
meeting_if false true a b = refl
meeting_if false false a b = refl

-- the stamp up to which the rows and cuts of the call's triple are the caller's
abbrev pub low_of : Bool → ℕ → ℕ
low_of true letters = 2 * suc letters
low_of false letters = suc (2 * letters)

abbrev test_with : Bool → ℕ → ℕ → ℕ → Bool
test_with ret letters own s =
    not (not ret && (nat_lt own s && nat_lt s (suc (suc (2 * letters))))) && (nat_lt (if ret then 2 * suc letters else 0) s && nat_lt s (suc (suc (2 * suc letters))))

and_false : (x : Bool) → (x && false) ≡ false
and_false true = refl
and_false false = refl

test_own : (ret : Bool) (letters own s : ℕ) → (ret ≡ false → own ≡ 0) → (s < suc (low_of ret letters) → test_with ret letters own s ≡ false) ×
    (low_of ret letters < s → s < suc (suc (2 * suc letters)) → test_with ret letters own s ≡ true) × (suc (2 * suc letters) < s → test_with ret letters own s ≡ false)
test_own true letters own s f = (
  λ l. rw (le-ltb (2 * suc letters) s (omega (arith, l))) refl,
  λ l m. rw (lt-ltb (2 * suc letters) s l) (rw (lt-ltb s (suc (suc (2 * suc letters))) m) refl),
  λ l. rw (le-ltb s (suc (suc (2 * suc letters))) (omega (arith, l))) (and_false (nat_lt (2 * suc letters) s)),
)
test_own false letters own s f =
    let e : own ≡ 0 = f refl in
    subst (λ (o : ℕ). (s < suc (suc (2 * letters)) → test_with false letters o s ≡ false) × (suc (2 * letters) < s → s < suc (suc (2 * suc letters)) → test_with false letters o s ≡ true) ×
    (suc (2 * suc letters) < s → test_with false letters o s ≡ false)) (sym e) (
      λ l. rw (lt-ltb s (suc (suc (2 * letters))) l) (low (nat_lt 0 s) (nat_lt s (suc (suc (2 * suc letters))))),
      λ l m. rw (le-ltb s (suc (suc (2 * letters))) (omega (arith, l))) (rw (lt-ltb 0 s (omega (arith, l))) (rw (lt-ltb s (suc (suc (2 * suc letters))) m) refl)),
      λ l. rw (le-ltb s (suc (suc (2 * suc letters))) (omega (arith, l))) (high (nat_lt 0 s) (nat_lt s (suc (suc (2 * letters))))),
    )
  where
    low : (x y : Bool) → (not (x && true) && (x && y)) ≡ false
    low true y = refl
    low false true = refl
    low false false = refl

    high : (x y : Bool) → (not (x && y) && (x && false)) ≡ false
    high true true = refl
    high true false = refl
    high false y = refl

-- own cuts are those above that stamp and up to the callee's
pub call_own : (c : CallLetter) (s : ℕ) → (s < suc (low_of (has_return 0 c.rest) c.r.letters) → is_own (call_view c) s ≡ false) ×
    (low_of (has_return 0 c.rest) c.r.letters < s → s < suc (suc (2 * suc c.r.letters)) → is_own (call_view c) s ≡ true) × (suc (2 * suc c.r.letters) < s → is_own (call_view c) s ≡ false)
call_own c s =
    let h = test_own (has_return 0 c.rest) c.r.letters (innermost c.r.scopes).own s (no_own c.rest c.r.scopes (returning c)) in
    (λ l. own_is ∙ h.0 l, λ l m. own_is ∙ h.1 l m, λ l. own_is ∙ h.2 l)
  where
    own_is : is_own (call_view c) s ≡ test_with (has_return 0 c.rest) c.r.letters (innermost c.r.scopes).own s
    own_is = meeting_if (not (has_return 0 c.rest) && (nat_lt (innermost c.r.scopes).own s && nat_lt s (suc (suc (2 * c.r.letters)))))
        (nat_lt (if has_return 0 c.rest then 2 * suc c.r.letters else 0) s && nat_lt s (suc (suc (2 * suc c.r.letters)))) _ _

    returning : (c : CallLetter) → ReturnWhere (λ k. returned_by kinds.Call k (λ m. has_return m c.rest)) 0 c.r.scopes
    returning c = subst (λ (d : Kind). ReturnWhere (λ k. returned_by d k (λ m. has_return m c.rest)) 0 c.r.scopes) c.at.kind c.at.along.placed.returns

-- ---- the stamps of columns

stamp_keeps : (ys zs : List ℕ) (i : ℕ) → i < length ys → column_stamp (ys ++ zs) i ≡ column_stamp ys i
stamp_keeps [] zs i l = absurd (omega (arith, l))
stamp_keeps (y ∷ ys) zs zero l = refl
stamp_keeps (y ∷ ys) zs (suc i) l = stamp_keeps ys zs i (omega (arith, l))

-- those of the columns that the call makes
abbrev pub stamps_made : CallLetter → List ℕ
stamps_made c = repeated (suc (2 * suc c.r.letters)) (locals c) ++ (repeated (2 * suc c.r.letters) c.helpers ++ repeated (suc (2 * suc c.r.letters)) (olds c))

made_counted : (c : CallLetter) → length (stamps_made c) ≡ made_count c
made_counted c =
    let k : ℕ = suc c.r.letters in
    let a = length-append (repeated (suc (2 * k)) (locals c)) (repeated (2 * k) c.helpers ++ repeated (suc (2 * k)) (olds c)) in
    let b = length-append (repeated (2 * k) c.helpers) (repeated (suc (2 * k)) (olds c)) in
    let d = length-repeated (suc (2 * k)) (locals c) in
    let e = length-repeated (2 * k) c.helpers in
    let f = length-repeated (suc (2 * k)) (olds c) in
    omega (arith, a, b, d, e, f)

pub later_call_columns : CallLetter → List ℕ
later_call_columns c = (stamps_along (alphabet_of c.g) (suc (suc c.r.letters)) (part_of (alphabet_of c.g) c.a c.r.stage).after c.rest).columns

call_columns_are : (c : CallLetter) → (call_view c).columns ≡ c.at.along.read.columns ++ (stamps_made c ++ later_call_columns c)
unfolding later_call_columns
call_columns_are c =
    let al = alphabet_of c.g in
    let part : Part = part_of al c.a c.r.stage in
    c.at.along.read.column_stamps ∙ ap (λ (l : List ℕ). c.at.along.read.columns ++ (l ++ later_call_columns c)) (ap (λ (o : Option PlainAct). column_stamps al (suc c.r.letters) o part) c.at.act_is)

later_columns_within : (c : CallLetter) → AllByRecursion (λ s. 2 * suc (suc c.r.letters) ≤ s) (later_call_columns c)
unfolding later_call_columns
later_columns_within c = (stamps_from (alphabet_of c.g) (suc (suc c.r.letters)) (part_of (alphabet_of c.g) c.a c.r.stage).after c.rest).1

-- where a column of the word was made
pub data MadeAt (c : CallLetter) (col stamp : ℕ) : Type 0 where
  before_it : col < made c → IsEarly c.r.letters stamp → MadeAt c col stamp
  as_local : (i : ℕ) → i < locals c → col ≡ made c + i → stamp ≡ suc (2 * suc c.r.letters) → MadeAt c col stamp
  as_helper : (i : ℕ) → i < c.helpers → col ≡ made c + (locals c + i) → stamp ≡ 2 * suc c.r.letters → MadeAt c col stamp
  as_old : (i : ℕ) → i < olds c → col ≡ made c + (locals c + c.helpers + i) → stamp ≡ suc (2 * suc c.r.letters) → MadeAt c col stamp
  behind_it : made c + made_count c ≤ col → 2 * suc (suc c.r.letters) ≤ stamp → MadeAt c col stamp

all_true : (ss : List ℕ) → AllByRecursion (λ s. Unit {0}) ss
all_true [] = tt
all_true (s ∷ ss) = (tt, all_true ss)

pub made_at : (c : CallLetter) (col : ℕ) → col < length (call_view c).columns → MadeAt c col (column_stamp (call_view c).columns col)
made_at c col l = subst (λ (cs : List ℕ). MadeAt c col (column_stamp cs col)) (sym (call_columns_are c)) (by_stamp (stamp_is (IsEarly c.r.letters) (λ s. Unit {0}) (λ s. 2 * suc (suc c.r.letters) ≤ s)
    c.at.along.read.columns (stamps_made c) (later_call_columns c) c.at.along.read.columns_within (all_true (stamps_made c)) (later_columns_within c) col (subst (λ (cs : List ℕ). col < length cs) (call_columns_are c) l)))
  where
    by_own : (i : ℕ) → i < length (stamps_made c) → col ≡ length c.at.along.read.columns + i → column_stamp (c.at.along.read.columns ++ (stamps_made c ++ later_call_columns c)) col ≡ column_stamp (stamps_made c) i →
        StampIs (λ s. s ≡ suc (2 * suc c.r.letters)) (λ s. s ≡ 2 * suc c.r.letters) (λ s. s ≡ suc (2 * suc c.r.letters)) (length (repeated (suc (2 * suc c.r.letters)) (locals c)))
        (length (repeated (2 * suc c.r.letters) c.helpers)) (column_stamp (stamps_made c) i) i → MadeAt c col (column_stamp (c.at.along.read.columns ++ (stamps_made c ++ later_call_columns c)) col)
    by_own i b e q (in_first k s) = let m = c.at.along.read.made in let d = length-repeated (suc (2 * suc c.r.letters)) (locals c) in as_local i (omega (arith, k, d)) (omega (arith, e, m)) (q ∙ s)
    by_own i b e q (in_second j k f s) =
        let m = c.at.along.read.made in
        let d = length-repeated (suc (2 * suc c.r.letters)) (locals c) in
        let h = length-repeated (2 * suc c.r.letters) c.helpers in
        as_helper j (omega (arith, k, h)) (omega (arith, e, m, f, d)) (q ∙ s)
    by_own i b e q (in_third k s) =
        by_rest (split_at (locals c + c.helpers) i)
      where
        by_rest : (i < locals c + c.helpers) ⊎ ((j : ℕ) × (i ≡ locals c + c.helpers + j)) → MadeAt c col (column_stamp (c.at.along.read.columns ++ (stamps_made c ++ later_call_columns c)) col)
        by_rest (inl p) =
            let d = length-repeated (suc (2 * suc c.r.letters)) (locals c) in
            let h = length-repeated (2 * suc c.r.letters) c.helpers in
            absurd (omega (arith, p, k, d, h))
        by_rest (inr j) =
            let m = c.at.along.read.made in
            let n = made_counted c in
            let f = j.1 in
            as_old j.0 (omega (arith, b, n, f)) (omega (arith, e, m, f)) (q ∙ s)

    by_stamp : StampIs (IsEarly c.r.letters) (λ s. Unit {0}) (λ s. 2 * suc (suc c.r.letters) ≤ s) (length c.at.along.read.columns) (length (stamps_made c))
        (column_stamp (c.at.along.read.columns ++ (stamps_made c ++ later_call_columns c)) col) col → MadeAt c col (column_stamp (c.at.along.read.columns ++ (stamps_made c ++ later_call_columns c)) col)
    by_stamp (in_first b e) = let m = c.at.along.read.made in before_it (omega (arith, b, m)) e
    by_stamp (in_second i b e u) =
        let k : ℕ = suc c.r.letters in
        let q : column_stamp (c.at.along.read.columns ++ (stamps_made c ++ later_call_columns c)) col ≡ column_stamp (stamps_made c) i =
        ap (column_stamp (c.at.along.read.columns ++ (stamps_made c ++ later_call_columns c))) e ∙
        stamp_right (λ s. s ≡ column_stamp (stamps_made c) i) c.at.along.read.columns (stamps_made c ++ later_call_columns c) i (stamp_keeps (stamps_made c) (later_call_columns c) i b) in
        by_own i b e q (stamp_is (λ s. s ≡ suc (2 * k)) (λ s. s ≡ 2 * k) (λ s. s ≡ suc (2 * k)) (repeated (suc (2 * k)) (locals c)) (repeated (2 * k) c.helpers) (repeated (suc (2 * k)) (olds c))
        (all_repeated (λ s. s ≡ suc (2 * k)) (suc (2 * k)) (locals c) refl) (all_repeated (λ s. s ≡ 2 * k) (2 * k) c.helpers refl) (all_repeated (λ s. s ≡ suc (2 * k)) (suc (2 * k)) (olds c) refl) i b)
    by_stamp (in_third b e) = let m = c.at.along.read.made in let n = made_counted c in behind_it (omega (arith, b, m, n)) e

-- ---- the column in the system

pub map_columns : (n a k : ℕ) → map (λ x. n + x) (columns_from a k) ≡ columns_from (n + a) k
map_columns n a zero = refl
map_columns n a (suc k) = ap (λ (l : List ℕ). (n + a) ∷ l) (map_columns n (suc a) k ∙ ap (λ (m : ℕ). columns_from m k) (let e : n + suc a ≡ suc (n + a) = omega arith in e))

-- the columns of the callee's locals, the helpers and the old columns
abbrev system_columns : CallLetter → List ℕ
system_columns c =
    columns_from (length (caller_in c) + (heads c + olds c)) (locals c) ++ (columns_from (length (caller_in c) + length (callee_in c)) c.helpers ++ columns_from (length (caller_in c) + heads c) (olds c))

system_columns_are : (c : CallLetter) → made_by_call (length (caller_in c)) (length (caller_in c) + length (callee_in c)) c.helpers (callee_in c) ≡ system_columns c
system_columns_are c =
    let n : ℕ = length (caller_in c) in
    ap (λ (l : List ℕ). map (λ x. n + x) l ++ (columns_from (n + length (callee_in c)) c.helpers ++ map (λ x. n + x) (places is_old 0 (callee_in c)))) (lay c).local_places ∙
    ap (λ (l : List ℕ). l ++ (columns_from (n + length (callee_in c)) c.helpers ++ map (λ x. n + x) (places is_old 0 (callee_in c)))) (map_columns n (heads c + olds c) (locals c)) ∙
    ap (λ (l : List ℕ). columns_from (n + (heads c + olds c)) (locals c) ++ (columns_from (n + length (callee_in c)) c.helpers ++ l))
    (ap (map (λ x. n + x)) (lay c).old_places ∙ map_columns n (heads c) (olds c))

got_index : (d : ℕ) (xs : List ℕ) (i : ℕ) → i < length xs → unwrap_or (slice_get xs i) d ≡ slice_index xs i
got_index d [] i l = absurd (omega (arith, l))
got_index d (x ∷ xs) zero l = refl
got_index d (x ∷ xs) (suc i) l = got_index d xs i (omega (arith, l))

column_at : (first i : ℕ) (xs : List ℕ) → i < length xs → column_in 0 first xs (first + i) ≡ slice_index xs i
column_at first i xs l =
    ap (λ (z : Bool). if z then 0 + (first + i) else unwrap_or (slice_get xs (first + i - first)) (0 + (first + i))) (le-ltb (first + i) first (omega arith)) ∙
    ap (λ (k : ℕ). unwrap_or (slice_get xs k) (0 + (first + i))) (let e : first + i - first ≡ i = omega arith in e) ∙ got_index (0 + (first + i)) xs i l

system_counted : (c : CallLetter) → length (system_columns c) ≡ made_count c
system_counted c =
    let n : ℕ = length (caller_in c) in
    let a = length-append (columns_from (n + (heads c + olds c)) (locals c)) (columns_from (n + length (callee_in c)) c.helpers ++ columns_from (n + heads c) (olds c)) in
    let b = length-append (columns_from (n + length (callee_in c)) c.helpers) (columns_from (n + heads c) (olds c)) in
    let d = columns_count (n + (heads c + olds c)) (locals c) in
    let e = columns_count (n + length (callee_in c)) c.helpers in
    let f = columns_count (n + heads c) (olds c) in
    omega (arith, a, b, d, e, f)

column_made : (c : CallLetter) (col i : ℕ) → col ≡ made c + i → i < made_count c → (call_view c).column col ≡ slice_index (system_columns c) i
column_made c col i e l =
    let k = system_counted c in
    ap (call_view c).column e ∙
    ap (λ (xs : List ℕ). column_in 0 (made c) xs (made c + i)) (system_columns_are c) ∙ column_at (made c) i (system_columns c) (omega (arith, l, k))

pub column_local : (c : CallLetter) (col i : ℕ) → col ≡ made c + i → i < locals c → (call_view c).column col ≡ width c + (heads c + (olds c + i))
column_local c col i e l =
    let n : ℕ = length (caller_in c) in
    let d = columns_count (n + (heads c + olds c)) (locals c) in
    let w = caller_long c in
    let p = columns_at (n + (heads c + olds c)) (locals c) i l in
    column_made c col i e (omega (arith, l)) ∙
    index_left (columns_from (n + (heads c + olds c)) (locals c)) (columns_from (n + length (callee_in c)) c.helpers ++ columns_from (n + heads c) (olds c)) i (omega (arith, l, d)) ∙
    (let q : slice_index (columns_from (n + (heads c + olds c)) (locals c)) i ≡ width c + (heads c + (olds c + i)) = omega (arith, p, w) in q)

pub column_helper : (c : CallLetter) (col i : ℕ) → col ≡ made c + (locals c + i) → i < c.helpers → (call_view c).column col ≡ width c + (heads c + (olds c + locals c) + i)
column_helper c col i e l =
    let n : ℕ = length (caller_in c) in
    let d = columns_count (n + (heads c + olds c)) (locals c) in
    let h = columns_count (n + length (callee_in c)) c.helpers in
    let w = caller_long c in
    let m = callee_long c in
    let p = columns_at (n + length (callee_in c)) c.helpers i l in
    column_made c col (locals c + i) e (omega (arith, l)) ∙
    ap (λ (k : ℕ). slice_index (system_columns c) (k + i)) (sym d) ∙
    index_right (columns_from (n + (heads c + olds c)) (locals c)) (columns_from (n + length (callee_in c)) c.helpers ++ columns_from (n + heads c) (olds c)) i ∙
    index_left (columns_from (n + length (callee_in c)) c.helpers) (columns_from (n + heads c) (olds c)) i (omega (arith, l, h)) ∙
    (let q : slice_index (columns_from (n + length (callee_in c)) c.helpers) i ≡ width c + (heads c + (olds c + locals c) + i) = omega (arith, p, w, m) in q)

pub column_old_in : (c : CallLetter) (col i : ℕ) → col ≡ made c + (locals c + c.helpers + i) → i < olds c → (call_view c).column col ≡ width c + (heads c + i)
column_old_in c col i e l =
    let n : ℕ = length (caller_in c) in
    let d = columns_count (n + (heads c + olds c)) (locals c) in
    let h = columns_count (n + length (callee_in c)) c.helpers in
    let w = caller_long c in
    let p = columns_at (n + heads c) (olds c) i l in
    column_made c col (locals c + c.helpers + i) e (omega (arith, l)) ∙
    ap (slice_index (system_columns c)) (let k : locals c + c.helpers + i ≡ length (columns_from (n + (heads c + olds c)) (locals c)) + (c.helpers + i) = omega (arith, d) in k) ∙
    index_right (columns_from (n + (heads c + olds c)) (locals c)) (columns_from (n + length (callee_in c)) c.helpers ++ columns_from (n + heads c) (olds c)) (c.helpers + i) ∙
    ap (λ (k : ℕ). slice_index (columns_from (n + length (callee_in c)) c.helpers ++ columns_from (n + heads c) (olds c)) (k + i)) (sym h) ∙
    index_right (columns_from (n + length (callee_in c)) c.helpers) (columns_from (n + heads c) (olds c)) i ∙
    (let q : slice_index (columns_from (n + heads c) (olds c)) i ≡ width c + (heads c + i) = omega (arith, p, w) in q)
