-- At which columns the own cuts of a return's triple are: those on the helpers of its call, and of the first letter those of the start.
use Rattle.std.proofs.Common.{◌≡◌, ◌∙◌, ◌⊎◌, inl, inr, ℕ, zero, suc, ◌+◌, ◌-◌, ◌*◌, ◌<◌, ◌≤◌, Bool, true, false, List, [], ◌∷◌, ◌++◌, length, map, refl, sym, ap, subst, arith, length-append, Option}
use Rattle.std.specs.Prelude.{not, ◌&&◌, nat_lt, slice_get, slice_index, unwrap_or, if◌then◌else◌}
use Rattle.std.specs.List.{AllByRecursion}
use Rattle.std.proofs.lemmas.Bool.{lt-ltb, le-ltb}
use Rattle.std.proofs.lemmas.List.{length-map}
use Rattle.letter_acts.specs.Frames.{is_local, places}
use Rattle.letter_acts.specs.Acts.{PlainAct, act_of}
use Rattle.letter_acts.specs.Invariant.{alphabet_of}
use Rattle.path_rows.specs.Versions.{Part, part_rows, part_of}
use Rattle.letter_acts.specs.FrameRows.Rows.{columns_from}
use Rattle.letter_acts.specs.FrameRows.Frames.{is_old}
use Rattle.path_rows.specs.Paths.{repeated, start_frame}
use Rattle.nested_itp.specs.NestedPredicates.Stamps.{row_stamps, column_stamps, stamps_along, stamps_of, column_stamp}
use Rattle.nested_itp.specs.NestedPredicates.Positions.{innermost}
use Rattle.nested_itp.specs.NestedPredicates.Sums.{root_of}
use Rattle.nested_itp.specs.NestedRefutations.Refutations.{Claim, own_cut, told_by}
use Rattle.nested_itp.specs.NestedRefutations.Numbers.{column_in, Reading}
use Rattle.nested_itp.proofs.NestedRefutations.WayLaws.{is_own_meeting, is_own}
use Rattle.nested_itp.proofs.NestedRefutations.OwnLaws.{IsColumnOf}
use Rattle.nested_itp.proofs.NestedRefutations.NamesLaws.{all_joined}
use Rattle.nested_itp.proofs.NestedRefutations.ReadLaws.{IsEarly, stamps_from}
use Rattle.nested_itp.proofs.NestedRefutations.VersionLaws.{index_left, index_right, columns_at, columns_count}
use Rattle.nested_itp.proofs.NestedRefutations.AlongLaws.{first_reading}
use Rattle.nested_itp.proofs.NestedRefutations.InsideColumnLaws.{StampIs, in_first, in_second, in_third, stamp_is}
use Rattle.nested_itp.proofs.NestedRefutations.InsideLeafLaws.{all_weaker}
use Rattle.nested_itp.proofs.NestedRefutations.CallColumnLaws.{caller_in, callee_in, width, heads, olds, locals, made, call_names, lay, caller_long}
use Rattle.nested_itp.proofs.NestedRefutations.CallCutLaws.{MadeAt, before_it, as_local, as_helper, as_old, behind_it, made_at}
use Rattle.nested_itp.proofs.NestedRefutations.CallAddLaws.{caller_first}
use Rattle.nested_itp.proofs.NestedRefutations.BackColumnLaws.{BackLetter, m_of, n_of, w_of, back_view, call_earlier, caller_own}

-- ---- what is own

meeting_if : (x y z : Bool) (a b d : Claim) → is_own_meeting (if x then told_by 0 a else (if y then told_by 1 b else (if z then own_cut else told_by 2 d))) ≡ (not x && (not y && z))
meeting_if true y z a b d = refl
meeting_if false true z a b d = refl
meeting_if false false true a b d = refl
meeting_if false false false a b d = refl

-- where the exit counts from one stamp on, up to which the predicate before counts, and the target as far
abbrev test_with : ℕ → ℕ → ℕ → ℕ → ℕ → ℕ → Bool
test_with exit last own before after s =
    not (nat_lt exit s && nat_lt s (suc last)) && (not (nat_lt own s && nat_lt s (suc before)) && (nat_lt own s && nat_lt s (suc after)))

test_own : (exit last own before after s : ℕ) → exit ≡ suc before → own ≤ before → exit ≤ last → last ≤ after →
    (s < suc before → test_with exit last own before after s ≡ false) × (s ≡ exit → test_with exit last own before after s ≡ true) ×
    (exit < s → s < suc last → test_with exit last own before after s ≡ false) × (after < s → test_with exit last own before after s ≡ false)
test_own exit last own before after s e f h k = (
  λ l. rw (le-ltb exit s (omega (arith, l, e))) (rw (lt-ltb s (suc before) l) (low (nat_lt own s) (nat_lt s (suc last)) (nat_lt s (suc after)))),
  λ q. rw (le-ltb exit s (omega (arith, q))) (rw (le-ltb s (suc before) (omega (arith, q, e))) (rw (lt-ltb own s (omega (arith, q, e, f))) (rw (lt-ltb s (suc after) (omega (arith, q, h, k))) refl))),
  λ l b. rw (lt-ltb exit s l) (rw (lt-ltb s (suc last) b) refl),
  λ l. rw (le-ltb s (suc after) (omega (arith, l))) (high (not (nat_lt exit s && nat_lt s (suc last))) (not (nat_lt own s && nat_lt s (suc before))) (nat_lt own s)),
)
  where
    low : (x y z : Bool) → (not (false && y) && (not (x && true) && (x && z))) ≡ false
    low true y z = refl
    low false y z = refl

    high : (x y z : Bool) → (x && (y && (z && false))) ≡ false
    high true true true = refl
    high true true false = refl
    high true false z = refl
    high false y z = refl

-- own cuts have the stamp of what the call makes in its caller
pub back_own : (c : BackLetter) (s : ℕ) → (s < 2 * suc c.call.r.letters → is_own (back_view c) s ≡ false) × (s ≡ 2 * suc c.call.r.letters → is_own (back_view c) s ≡ true) ×
    (2 * suc c.call.r.letters < s → s < 2 * suc c.r.letters → is_own (back_view c) s ≡ false) × (suc (2 * suc c.r.letters) < s → is_own (back_view c) s ≡ false)
back_own c s =
    let o = caller_own c in
    let b = call_earlier c in
    let h = test_own (2 * suc c.call.r.letters) (suc (2 * c.r.letters)) (innermost c.call.r.scopes).own (suc (2 * c.call.r.letters)) (suc (2 * suc c.r.letters)) s
    (omega arith) (omega (arith, o)) (omega (arith, b)) (omega arith) in
    (λ l. own_is ∙ h.0 (omega (arith, l)), λ q. own_is ∙ h.1 q, λ l m. own_is ∙ h.2 l (omega (arith, m)), λ l. own_is ∙ h.3 l)
  where
    own_is : is_own (back_view c) s ≡ test_with (2 * suc c.call.r.letters) (suc (2 * c.r.letters)) (innermost c.call.r.scopes).own (suc (2 * c.call.r.letters)) (suc (2 * suc c.r.letters)) s
    own_is = meeting_if (nat_lt (2 * suc c.call.r.letters) s && nat_lt s (suc (suc (2 * c.r.letters)))) (nat_lt (innermost c.call.r.scopes).own s && nat_lt s (suc (suc (2 * c.call.r.letters))))
        (nat_lt (innermost c.call.r.scopes).own s && nat_lt s (suc (suc (2 * suc c.r.letters)))) _ _ _

-- ---- stamps that are not there: the return makes nothing

-- before the return, or behind it
abbrev pub IsApart : ℕ → ℕ → Type 0
IsApart letters s = (s < 2 * suc letters) ⊎ (suc (2 * suc letters) < s)

pub early_apart : (c : BackLetter) (s : ℕ) → IsEarly c.r.letters s → s < 2 * suc c.r.letters
early_apart c s (two, inl e) = let b = call_earlier c in omega (arith, e, b)
early_apart c s (two, inr l) = omega (arith, l)

pub root_apart : (c : BackLetter) → AllByRecursion (IsApart c.r.letters) (root_of c.call.g c.call.w).stamps
root_apart c =
    let al = alphabet_of c.call.g in
    let k : ℕ = suc c.r.letters in
    let part : Part = part_of al c.a c.r.stage in
    let later : List ℕ = (stamps_along al (suc k) part.after c.rest).rows in
    let none : row_stamps k (act_of al c.a) part ≡ [] =
    ap (λ (o : Option PlainAct). row_stamps k o part) c.act_is ∙ ap (λ (x : Part). repeated (2 * k) (length (part_rows x))) c.part_is in
    let e : (stamps_of c.call.g c.call.w).rows ≡ c.along.read.early ++ later = c.along.read.stamps ∙ ap (λ (l : List ℕ). c.along.read.early ++ (l ++ later)) none in
    subst (AllByRecursion (IsApart c.r.letters)) (sym e)
    (all_joined (IsApart c.r.letters) c.along.read.early later
    (all_weaker (IsEarly c.r.letters) (IsApart c.r.letters) (λ s h. inl (early_apart c s h)) c.along.read.early c.along.read.early_within)
    (all_weaker (λ s. 2 * suc k ≤ s) (IsApart c.r.letters) (λ s l. inr (omega (arith, l))) later (stamps_from al (suc k) part.after c.rest).0))

pub column_apart : (c : BackLetter) (col : ℕ) → col < length (back_view c).columns → IsApart c.r.letters (column_stamp (back_view c).columns col)
column_apart c col l =
    let al = alphabet_of c.call.g in
    let k : ℕ = suc c.r.letters in
    let part : Part = part_of al c.a c.r.stage in
    let later : List ℕ = (stamps_along al (suc k) part.after c.rest).columns in
    let none : column_stamps al k (act_of al c.a) part ≡ [] =
    ap (λ (o : Option PlainAct). column_stamps al k o part) c.act_is ∙ ap (λ (x : Part). repeated (2 * k) x.columns) c.part_is in
    let e : (stamps_of c.call.g c.call.w).columns ≡ c.along.read.columns ++ ([] ++ later) = c.along.read.column_stamps ∙ ap (λ (l : List ℕ). c.along.read.columns ++ (l ++ later)) none in
    subst (λ (cs : List ℕ). IsApart c.r.letters (column_stamp cs col)) (sym e)
    (by_part (stamp_is (IsEarly c.r.letters) (λ s. Unit {0}) (λ s. 2 * suc k ≤ s) c.along.read.columns [] later c.along.read.columns_within tt (stamps_from al (suc k) part.after c.rest).1 col
    (subst (λ (cs : List ℕ). col < length cs) e l)))
  where
    by_part : {stamp first : ℕ} → StampIs (IsEarly c.r.letters) (λ s. Unit {0}) (λ s. 2 * suc (suc c.r.letters) ≤ s) first 0 stamp col → IsApart c.r.letters stamp
    by_part {stamp = stamp} (in_first b e) = inl (early_apart c stamp e)
    by_part (in_second i b e u) = absurd (omega (arith, b))
    by_part (in_third b e) = inr (omega (arith, e))

-- ---- the columns of own cuts

pub data OwnAt (c : BackLetter) (col : ℕ) : Type 0 where
  at_helper : (i : ℕ) → i < c.call.helpers → col ≡ made c.call + (locals c.call + i) → OwnAt c col
  at_start : c.call.r ≡ first_reading c.call.g → col < made c.call → OwnAt c col

not_both : (x : Bool) → x ≡ true → x ≡ false → ⊥
not_both true e f = absurd (cc)
not_both false e f = absurd (cc)

own_at : (c : BackLetter) (col : ℕ) → col < length (back_view c).columns → is_own (back_view c) (column_stamp (back_view c).columns col) ≡ true → OwnAt c col
own_at c col l own = by_made (made_at c.call col l)
  where
    low : column_stamp (back_view c).columns col < 2 * suc c.call.r.letters → ⊥
    low h = not_both (is_own (back_view c) (column_stamp (back_view c).columns col)) own ((back_own c (column_stamp (back_view c).columns col)).0 h)

    high : IsApart c.r.letters (column_stamp (back_view c).columns col) → 2 * suc c.call.r.letters < column_stamp (back_view c).columns col → ⊥
    high (inl b) h = not_both (is_own (back_view c) (column_stamp (back_view c).columns col)) own ((back_own c (column_stamp (back_view c).columns col)).2 h b)
    high (inr b) h = not_both (is_own (back_view c) (column_stamp (back_view c).columns col)) own ((back_own c (column_stamp (back_view c).columns col)).3 b)

    by_begun : col < made c.call → IsEarly c.call.r.letters (column_stamp (back_view c).columns col) → ((c.call.r ≡ first_reading c.call.g) × (caller_in c.call ≡ start_frame c.call.g)) ⊎ (0 < c.call.r.letters) → OwnAt c col
    by_begun b e (inl f) = at_start f.0 b
    by_begun b (two, inl e) (inr n) = absurd (low (omega (arith, e, n)))
    by_begun b (two, inr e) (inr n) = absurd (low (omega (arith, e)))

    by_made : MadeAt c.call col (column_stamp (back_view c).columns col) → OwnAt c col
    by_made (before_it b e) = by_begun b e c.call.at.begun
    by_made (as_local i b e s) = absurd (high (column_apart c col l) (omega (arith, s)))
    by_made (as_helper i b e s) = at_helper i b e
    by_made (as_old i b e s) = absurd (high (column_apart c col l) (omega (arith, s)))
    by_made (behind_it b s) = absurd (high (column_apart c col l) (omega (arith, s)))

-- ---- and where these stand in the system

got_index : (d : ℕ) (xs : List ℕ) (i : ℕ) → i < length xs → unwrap_or (slice_get xs i) d ≡ slice_index xs i
got_index d [] i l = absurd (omega (arith, l))
got_index d (x ∷ xs) zero l = refl
got_index d (x ∷ xs) (suc i) l = got_index d xs i (omega (arith, l))

column_at : (at first i : ℕ) (xs : List ℕ) → i < length xs → column_in at first xs (first + i) ≡ slice_index xs i
column_at at first i xs l =
    ap (λ (z : Bool). if z then at + (first + i) else unwrap_or (slice_get xs (first + i - first)) (at + (first + i))) (le-ltb (first + i) first (omega arith)) ∙
    ap (λ (k : ℕ). unwrap_or (slice_get xs k) (at + (first + i))) (let e : first + i - first ≡ i = omega arith in e) ∙ got_index (at + (first + i)) xs i l

column_before : (at first : ℕ) (made : List ℕ) (c : ℕ) → c < first → column_in at first made c ≡ at + c
column_before at first made c l = rw (lt-ltb c first l) refl

column_start : (c : BackLetter) (col : ℕ) → col < made c.call → (back_view c).column col ≡ m_of c + col
column_start c col l = column_before (m_of c) (made c.call) _ col l

column_helper : (c : BackLetter) (col i : ℕ) → col ≡ made c.call + (locals c.call + i) → i < c.call.helpers → (back_view c).column col ≡ m_of c + n_of c + w_of c + i
column_helper c col i e l =
    let at : ℕ = m_of c + n_of c + w_of c in
    let one : List ℕ = map (λ x. 0 + x) (places is_local 0 (callee_in c.call)) in
    let two : List ℕ = columns_from at c.call.helpers in
    let three : List ℕ = map (λ x. 0 + x) (places is_old 0 (callee_in c.call)) in
    let count : length one ≡ locals c.call =
    length-map (places is_local 0 (callee_in c.call)) (λ x. 0 + x) ∙ ap (λ (l : List ℕ). length l) (lay c.call).local_places ∙ columns_count (heads c.call + olds c.call) (locals c.call) in
    let n = columns_count at c.call.helpers in
    let whole = length-append one (two ++ three) in
    let rest = length-append two three in
    ap (back_view c).column e ∙ column_at (m_of c) (made c.call) (locals c.call + i) (one ++ (two ++ three)) (omega (arith, whole, rest, count, n, l)) ∙
    ap (λ (k : ℕ). slice_index (one ++ (two ++ three)) (k + i)) (sym count) ∙ index_right one (two ++ three) i ∙ index_left two three i (omega (arith, n, l)) ∙ columns_at at c.call.helpers i l

-- the caller's column j stands at m + j, and has the version j where the call is the first letter
start_version : (c : BackLetter) → c.call.r ≡ first_reading c.call.g → (j : ℕ) → j < width c.call → slice_index (call_names c.call) j ≡ j
start_version c e j l = caller_first c.call e j l

pub start_wide : (c : BackLetter) → c.call.r ≡ first_reading c.call.g → made c.call ≡ width c.call
start_wide c e = ap (λ (y : Reading). y.stage.made) e ∙ sym (ap (λ (y : Reading). length y.stage.here) e ∙ columns_count 0 (length (start_frame c.call.g)))

-- of the columns of the caller, of the callee's locals and of the helpers the system's and the word's are one
pub column_of_caller : (c : BackLetter) (j : ℕ) → j < width c.call → slice_index (call_names c.call) j < made c.call → IsColumnOf (back_view c) (m_of c + j) (slice_index (call_names c.call) j)
column_of_caller c j l below col within own = by_own (own_at c col within own)
  where
    by_own : OwnAt c col → (col ≡ slice_index (call_names c.call) j → (back_view c).column col ≡ m_of c + j) × ((back_view c).column col ≡ m_of c + j → col ≡ slice_index (call_names c.call) j)
    by_own (at_helper i b e) =
        let n = caller_long c.call in
        let p = column_helper c col i e b in
        (λ q. absurd (omega (arith, q, e, below)), λ q. absurd (omega (arith, q, p, l, n)))
    by_own (at_start f b) =
        let p = column_start c col b in
        let v = start_version c f j l in
        (λ q. omega (arith, p, q, v), λ q. omega (arith, p, q, v))

pub column_of_local : (c : BackLetter) (x y : ℕ) → x < m_of c → made c.call ≤ y → y < made c.call + locals c.call → IsColumnOf (back_view c) x y
column_of_local c x y l a u col within own = by_own (own_at c col within own)
  where
    by_own : OwnAt c col → (col ≡ y → (back_view c).column col ≡ x) × ((back_view c).column col ≡ x → col ≡ y)
    by_own (at_helper i b e) =
        let p = column_helper c col i e b in
        (λ q. absurd (omega (arith, q, e, u)), λ q. absurd (omega (arith, q, p, l)))
    by_own (at_start f b) =
        let p = column_start c col b in
        (λ q. absurd (omega (arith, q, b, a)), λ q. absurd (omega (arith, q, p, l)))

pub column_of_helper : (c : BackLetter) (i : ℕ) → i < c.call.helpers → IsColumnOf (back_view c) (m_of c + n_of c + w_of c + i) (made c.call + locals c.call + i)
column_of_helper c i l col within own = by_own (own_at c col within own)
  where
    by_own : OwnAt c col → (col ≡ made c.call + locals c.call + i → (back_view c).column col ≡ m_of c + n_of c + w_of c + i) × ((back_view c).column col ≡ m_of c + n_of c + w_of c + i → col ≡ made c.call + locals c.call + i)
    by_own (at_helper j b e) =
        let p = column_helper c col j e b in
        (λ q. omega (arith, q, e, p), λ q. omega (arith, q, e, p))
    by_own (at_start f b) =
        let p = column_start c col b in
        let v = start_wide c f in
        let n = caller_long c.call in
        (λ q. absurd (omega (arith, q, b)), λ q. absurd (omega (arith, q, p, b, v, n)))

-- no own cut is at another column
pub no_column : (c : BackLetter) (x : ℕ) → (x < m_of c) ⊎ ((m_of c + n_of c ≤ x) × ((x < m_of c + n_of c + w_of c) ⊎ (m_of c + n_of c + w_of c + c.call.helpers ≤ x))) →
    (col : ℕ) → col < length (back_view c).columns → is_own (back_view c) (column_stamp (back_view c).columns col) ≡ true → (back_view c).column col ≡ x → ⊥
no_column c x h col within own e = by_own (own_at c col within own) h
  where
    by_own : OwnAt c col → (x < m_of c) ⊎ ((m_of c + n_of c ≤ x) × ((x < m_of c + n_of c + w_of c) ⊎ (m_of c + n_of c + w_of c + c.call.helpers ≤ x))) → ⊥
    by_own (at_helper i b q) (inl l) = let p = column_helper c col i q b in omega (arith, p, e, l)
    by_own (at_helper i b q) (inr (a, inl l)) = let p = column_helper c col i q b in omega (arith, p, e, l)
    by_own (at_helper i b q) (inr (a, inr l)) = let p = column_helper c col i q b in omega (arith, p, e, l, b)
    by_own (at_start f b) (inl l) = let p = column_start c col b in omega (arith, p, e, l)
    by_own (at_start f b) (inr (a, k)) =
        let p = column_start c col b in
        let v = start_wide c f in
        let n = caller_long c.call in
        omega (arith, p, e, a, b, v, n)
