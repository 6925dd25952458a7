-- Numbers of columns in lists: where they stand, and what is written at them.
use Rattle.std.proofs.Common.{◌≡◌, ◌⊎◌, inl, inr, ℕ, zero, suc, ◌+◌, ◌<◌, Bool, true, false, not, ◌||◌, nat_eq, cond, ℤ, List, [], ◌∷◌, ◌++◌, map, length, Option, None, Some, refl, sym, ◌∙◌, ap, subst, arith, if◌then◌else◌, eq-eqb}
use Rattle.std.specs.Prelude.{slice_get, slice_set}
use Rattle.std.specs.List.{filter, AllByRecursion}
use Rattle.std.proofs.lemmas.Bool.{true≢false}
use Rattle.std.proofs.lemmas.Bool.Decides.{nat_tests}
use Rattle.std.proofs.lemmas.Option.{slice_get_within}
use Rattle.nwa_base.specs.Members.{Member}
use Rattle.boogie_tree.specs.declared.tree.Column.{Column}
use Rattle.boogie_tree.specs.declared.tree.Column.TheVariants as columns
use Rattle.boogie_tree.specs.declared.tree.VarInfo.{VarInfo}
use Rattle.typed_tree.specs.TypedTree.{TypedProgram}
use Rattle.lin_rows.specs.Points.{point_of}
use Rattle.letter_acts.specs.Values.{picked, put_all}
use Rattle.letter_acts.specs.Invariant.{AreDistinct}
use Rattle.letter_acts.proofs.PointLemmas.{set_here, length-put_all, put_all_other, put_picked}
use Rattle.boogie_run.specs.Needs.{locals_at}
use Rattle.lowered_graph.specs.LoweredSteps.ProgramFrames.{frame_at, column_number, column_number_if_any}
use Rattle.lowered_graph.specs.LoweredSteps.Edges.{those_in, those_not_in, found_from, import_written, numbers_in}
use Rattle.letter_acts.specs.Reading.{is_listed}
use Rattle.lowered_graph.specs.LoweredSteps.Moves.{AreTargets}
use Rattle.lowered_graph.proofs.LoweredSteps.Places.{IsThere, global_place, local_place, before_locals}
use Rattle.lowered_graph.proofs.LoweredSteps.Writes.{target_there}

number_is : (m n : ℕ) → nat_eq m n ≡ true → m ≡ n
number_is m n e = grind (arith, nat_tests)

or_false : (a b : Bool) → (a || b) ≡ false → (a ≡ false) × (b ≡ false)
or_false true b e = absurd (true≢false e)
or_false false b e = (refl, e)

-- ---- members

pub is_in_member : (ms : List ℕ) (n : ℕ) → is_listed ms n ≡ true → Member ms n
is_in_member [] n e = absurd (true≢false (sym e))
is_in_member (m ∷ ms) n e = by_test (nat_eq m n) refl e (λ f. is_in_member ms n f)
  where
    by_test : (b : Bool) → nat_eq m n ≡ b → (b || is_listed ms n) ≡ true → (is_listed ms n ≡ true → Member ms n) → (m ≡ n) ⊎ Member ms n
    by_test true f e later = inl (number_is m n f)
    by_test false f e later = inr (later e)

pub no_member : (ms : List ℕ) (n : ℕ) → is_listed ms n ≡ false → Member ms n → ⊥
no_member [] n e k = k
no_member (m ∷ ms) n e (inl f) =
    let g : nat_eq m n ≡ true = subst (λ (x : ℕ). nat_eq m x ≡ true) f (eq-eqb m m refl) in
    true≢false (sym g ∙ (or_false (nat_eq m n) (is_listed ms n) e).0)
no_member (m ∷ ms) n e (inr k) = no_member ms n (or_false (nat_eq m n) (is_listed ms n) e).1 k

-- a number is in the list or not
pub in_or_not : (ms : List ℕ) (n : ℕ) → Member ms n ⊎ (is_listed ms n ≡ false)
in_or_not ms n = by_test (is_listed ms n) refl
  where
    by_test : (b : Bool) → is_listed ms n ≡ b → Member ms n ⊎ (is_listed ms n ≡ false)
    by_test true e = inl (is_in_member ms n e)
    by_test false e = inr e

member_is_in : (ms : List ℕ) (n : ℕ) → Member ms n → is_listed ms n ≡ true
member_is_in ms n k = by_test (is_listed ms n) refl
  where
    by_test : (b : Bool) → is_listed ms n ≡ b → is_listed ms n ≡ true
    by_test true e = e
    by_test false e = absurd (no_member ms n e k)

pub member_left : (a b : List ℕ) (n : ℕ) → Member a n → Member (a ++ b) n
member_left [] b n k = absurd k
member_left (x ∷ xs) b n (inl e) = inl e
member_left (x ∷ xs) b n (inr k) = inr (member_left xs b n k)

pub member_right : (a b : List ℕ) (n : ℕ) → Member b n → Member (a ++ b) n
member_right [] b n k = k
member_right (x ∷ xs) b n k = inr (member_right xs b n k)

pub member_either : (a b : List ℕ) (n : ℕ) → Member (a ++ b) n → Member a n ⊎ Member b n
member_either [] b n k = inr k
member_either (x ∷ xs) b n (inl e) = inl (inl e)
member_either (x ∷ xs) b n (inr k) = elim (member_either xs b n k) [ inl h ↦ inl (inr h) | inr h ↦ inr h ]

filter_member : (test : ℕ → Bool) (ns : List ℕ) (c : ℕ) → test c ≡ true → Member ns c → Member (filter test ns) c
filter_member test [] c e k = k
filter_member test (n ∷ ns) c e k = by_test (test n) refl k (λ h. filter_member test ns c e h)
  where
    by_test : (b : Bool) → test n ≡ b → (n ≡ c) ⊎ Member ns c → (Member ns c → Member (filter test ns) c) → Member (cond b (n ∷ filter test ns) (filter test ns)) c
    by_test true f (inl i) later = inl i
    by_test true f (inr h) later = inr (later h)
    by_test false f (inl i) later = absurd (true≢false (sym e ∙ ap test (sym i) ∙ f))
    by_test false f (inr h) later = later h

filter_members : (test : ℕ → Bool) (ns : List ℕ) (c : ℕ) → Member (filter test ns) c → (test c ≡ true) × Member ns c
filter_members test [] c k = absurd k
filter_members test (n ∷ ns) c k = by_test (test n) refl k (λ h. filter_members test ns c h)
  where
    by_test : (b : Bool) → test n ≡ b → Member (cond b (n ∷ filter test ns) (filter test ns)) c → (Member (filter test ns) c → (test c ≡ true) × Member ns c) →
        (test c ≡ true) × ((n ≡ c) ⊎ Member ns c)
    by_test true f (inl i) later = (ap test (sym i) ∙ f, inl i)
    by_test true f (inr h) later = let r = later h in (r.0, inr r.1)
    by_test false f h later = let r = later h in (r.0, inr r.1)

filter_distinct : (test : ℕ → Bool) (ns : List ℕ) → AreDistinct ns → AreDistinct (filter test ns)
filter_distinct test [] d = tt
filter_distinct test (n ∷ ns) d = by_test (test n) (λ k. d.0 (filter_members test ns n k).1) (filter_distinct test ns d.1)
  where
    by_test : (b : Bool) → (Member (filter test ns) n → ⊥) → AreDistinct (filter test ns) → AreDistinct (cond b (n ∷ filter test ns) (filter test ns))
    by_test true k h = (k, h)
    by_test false k h = h

append_distinct : (a b : List ℕ) → AreDistinct a → AreDistinct b → ((c : ℕ) → Member a c → Member b c → ⊥) → AreDistinct (a ++ b)
append_distinct [] b d e apart = e
append_distinct (x ∷ xs) b d e apart = (
  λ k. elim (member_either xs b x k) [ inl h ↦ d.0 h | inr h ↦ apart x (inl refl) h ],
  append_distinct xs b d.1 e (λ c h k. apart c (inr h) k),
)

-- ---- the written columns of a call without body

pub modified_written : (ms ts : List ℕ) (c : ℕ) → Member ms c → Member (import_written ms ts) c
modified_written ms ts c k = member_left ms (those_not_in ms ts) c k

pub target_written : (ms ts : List ℕ) (c : ℕ) → Member ts c → Member (import_written ms ts) c
target_written ms ts c k = elim (in_or_not ms c) [
  | inl h ↦ member_left ms (those_not_in ms ts) c h
  | inr e ↦ member_right ms (those_not_in ms ts) c (filter_member (λ n. not (is_listed ms n)) ts c (ap not e) k)
]

pub written_either : (ms ts : List ℕ) (c : ℕ) → Member (import_written ms ts) c → Member ms c ⊎ Member ts c
written_either ms ts c k = elim (member_either ms (those_not_in ms ts) c k) [ inl h ↦ inl h | inr h ↦ inr (filter_members (λ n. not (is_listed ms n)) ts c h).1 ]

pub written_distinct : (ms ts : List ℕ) → AreDistinct ms → AreDistinct ts → AreDistinct (import_written ms ts)
written_distinct ms ts d e = append_distinct ms (those_not_in ms ts) d (filter_distinct (λ n. not (is_listed ms n)) ts e)
    (λ c h k. let r : not (is_listed ms c) ≡ true = (filter_members (λ n. not (is_listed ms n)) ts c k).0 in
    true≢false (sym r ∙ ap not (member_is_in ms c h)))

-- a modified global that is a target, too
pub both_member : (ts ms : List ℕ) (c : ℕ) → Member ts c → Member ms c → Member (those_in ts ms) c
both_member ts ms c h k = filter_member (is_listed ts) ms c (member_is_in ts c h) k

pub both_members : (ts ms : List ℕ) (c : ℕ) → Member (those_in ts ms) c → Member ts c × Member ms c
both_members ts ms c k = let r = filter_members (is_listed ts) ms c k in (is_in_member ts c r.0, r.1)

-- ---- places of numbers

pub record IsFoundAt (k : ℕ) (ns : List ℕ) (n j : ℕ) : Type 0 where
  pub index : ℕ
  pub at_index : j ≡ k + index
  pub is : slice_get ns index ≡ Some n

pub found_at : (k : ℕ) (ns : List ℕ) (n j : ℕ) → found_from k ns n ≡ Some j → IsFoundAt k ns n j
found_at k [] n j e = absurd (cc)
found_at k (m ∷ ms) n j e = by_test (nat_eq m n) refl e (λ f. found_at (suc k) ms n j f)
  where
    by_test : (b : Bool) → nat_eq m n ≡ b → (if b then Some k else found_from (suc k) ms n) ≡ Some j → (found_from (suc k) ms n ≡ Some j → IsFoundAt (suc k) ms n j) → IsFoundAt k (m ∷ ms) n j
    by_test true f e later =
        let i : k ≡ j = cc in
        record { index = 0; at_index = omega arith; is = ap Some (number_is m n f) }
    by_test false f e later =
        let r = later e in
        record { index = suc r.index; at_index = (let i : j ≡ suc k + r.index = r.at_index in omega arith); is = r.is }

pub not_found : (k : ℕ) (ns : List ℕ) (n : ℕ) → found_from k ns n ≡ None → is_listed ns n ≡ false
not_found k [] n e = refl
not_found k (m ∷ ms) n e = by_test (nat_eq m n) refl e (λ f. not_found (suc k) ms n f)
  where
    by_test : (b : Bool) → nat_eq m n ≡ b → (if b then Some k else found_from (suc k) ms n) ≡ None → (found_from (suc k) ms n ≡ None → is_listed ms n ≡ false) → (nat_eq m n || is_listed ms n) ≡ false
    by_test true f e later = absurd (cc)
    by_test false f e later = ap (λ (b : Bool). b || is_listed ms n) f ∙ later e

pub record IsFound (k : ℕ) (ns : List ℕ) (n : ℕ) : Type 0 where
  pub place : ℕ
  pub found : found_from k ns n ≡ Some place

pub found_in : (k : ℕ) (ns : List ℕ) (n : ℕ) → Member ns n → IsFound k ns n
found_in k ns n h = by_option (found_from k ns n) refl
  where
    by_option : (o : Option ℕ) → found_from k ns n ≡ o → IsFound k ns n
    by_option None e = absurd (no_member ns n (not_found k ns n e) h)
    by_option (Some j) e = record { place = j; found = e }

-- found from k on, and from j on
pub found_shift : (k j : ℕ) (ns : List ℕ) (n : ℕ) → found_from k ns n ≡ None → found_from j ns n ≡ None
found_shift k j [] n e = refl
found_shift k j (m ∷ ms) n e = by_test (nat_eq m n) e (λ f. found_shift (suc k) (suc j) ms n f)
  where
    by_test : (b : Bool) → (if b then Some k else found_from (suc k) ms n) ≡ None → (found_from (suc k) ms n ≡ None → found_from (suc j) ms n ≡ None) → (if b then Some j else found_from (suc j) ms n) ≡ None
    by_test true e later = absurd (cc)
    by_test false e later = later e

pub found_more : (k j i : ℕ) (ns : List ℕ) (n : ℕ) → found_from (k + j) ns n ≡ Some (k + i) → found_from j ns n ≡ Some i
found_more k j i [] n e = absurd (cc)
found_more k j i (m ∷ ms) n e = by_test (nat_eq m n) e (λ f. found_more k (suc j) i ms n (ap (λ (x : ℕ). found_from x ms n) moved ∙ f))
  where
    moved : k + suc j ≡ suc (k + j)
    moved = omega arith

    by_test : (b : Bool) → (if b then Some (k + j) else found_from (suc (k + j)) ms n) ≡ Some (k + i) → (found_from (suc (k + j)) ms n ≡ Some (k + i) → found_from (suc j) ms n ≡ Some i) →
        (if b then Some j else found_from (suc j) ms n) ≡ Some i
    by_test true e later =
        let f : k + j ≡ k + i = cc in
        let g : j ≡ i = omega arith in
        ap Some g
    by_test false e later = later e

-- ---- values at them

pub value_of_map : (f : ℕ → ℤ) (ns : List ℕ) (i n : ℕ) → slice_get ns i ≡ Some n → point_of (map f ns) i ≡ f n
value_of_map f [] i n e = absurd (cc)
value_of_map f (m ∷ ms) zero n e = let h : m ≡ n = cc in ap f h
value_of_map f (m ∷ ms) (suc i) n e = value_of_map f ms i n e

pub slice_left : {X : Type 0} (xs ys : List X) (i : ℕ) (x : X) → slice_get xs i ≡ Some x → slice_get (xs ++ ys) i ≡ Some x
slice_left [] ys i x e = absurd (cc)
slice_left (z ∷ zs) ys zero x e = e
slice_left (z ∷ zs) ys (suc i) x e = slice_left zs ys i x e

length_set : (s : List ℤ) (c : ℕ) (v : ℤ) → length (slice_set s c v) ≡ length s
length_set s c v = length-put_all s (c ∷ []) (v ∷ [])

-- values of a function, written at their numbers
pub put_map : (f : ℕ → ℤ) (ns : List ℕ) (s : List ℤ) (c : ℕ) → Member ns c → c < length s → point_of (put_all s ns (map f ns)) c ≡ f c
put_map f [] s c k l = absurd k
put_map f (n ∷ ns) s c k l =
    let more : c < length (slice_set s n (f n)) = (let e = length_set s n (f n) in omega arith) in
    by_test (in_or_not ns c) k (λ h. put_map f ns (slice_set s n (f n)) c h more)
  where
    by_test : Member ns c ⊎ (is_listed ns c ≡ false) → (n ≡ c) ⊎ Member ns c → (Member ns c → point_of (put_all (slice_set s n (f n)) ns (map f ns)) c ≡ f c) →
        point_of (put_all (slice_set s n (f n)) ns (map f ns)) c ≡ f c
    by_test (inl h) k later = later h
    by_test (inr e) (inl i) later =
        put_all_other (slice_set s n (f n)) ns (map f ns) c (no_member ns c e)
        ∙ ap (λ (x : ℕ). point_of (slice_set s x (f x)) c) i ∙ set_here s c (f c) l
    by_test (inr e) (inr h) later = absurd (no_member ns c e h)

-- What writes the written columns of a call writes the modified globals and then the targets, where a modified global that is no target has its value
-- behind the call.
pub one_writing : (s news : List ℤ) (ms ts : List ℕ) (held : ℕ → ℤ) → AllByRecursion (λ c. c < length s) ms →
    ((c : ℕ) → is_listed ts c ≡ false → held c ≡ point_of (put_all s (import_written ms ts) news) c) →
    put_all s (import_written ms ts) news ≡ put_all (put_all s ms (map held ms)) ts (picked (put_all s (import_written ms ts) news) ts)
one_writing s news ms ts held inside same =
    let after : List ℤ = put_all s (import_written ms ts) news in
    let first : List ℤ = put_all s ms (map held ms) in
    put_picked first after ts (length-put_all s ms (map held ms) ∙ sym (length-put_all s (import_written ms ts) news)) (λ c apart. at_column c apart (in_or_not ms c) (in_or_not ts c))
  where
    member_inside : (xs : List ℕ) (c : ℕ) → AllByRecursion (λ x. x < length s) xs → Member xs c → c < length s
    member_inside [] c h k = absurd k
    member_inside (x ∷ xs) c h (inl e) = subst (λ (y : ℕ). y < length s) e h.0
    member_inside (x ∷ xs) c h (inr k) = member_inside xs c h.1 k

    at_column : (c : ℕ) → (Member ts c → ⊥) → Member ms c ⊎ (is_listed ms c ≡ false) → Member ts c ⊎ (is_listed ts c ≡ false) →
        point_of (put_all s (import_written ms ts) news) c ≡ point_of (put_all s ms (map held ms)) c
    at_column c apart h (inl k) = absurd (apart k)
    at_column c apart (inl h) (inr k) = sym (put_map held ms s c h (member_inside ms c inside h) ∙ same c k)
    at_column c apart (inr h) (inr k) =
        put_all_other s (import_written ms ts) news c (λ m. elim (written_either ms ts c m) [ inl x ↦ no_member ms c h x | inr x ↦ apart x ])
        ∙ sym (put_all_other s ms (map held ms) c (no_member ms c h))

-- and the other way round
pub two_writings : (s held results : List ℤ) (ms ts : List ℕ) →
    put_all (put_all s ms held) ts results ≡ put_all s (import_written ms ts) (picked (put_all (put_all s ms held) ts results) (import_written ms ts))
two_writings s held results ms ts =
    let after : List ℤ = put_all (put_all s ms held) ts results in
    put_picked s after (import_written ms ts) (sym (length-put_all (put_all s ms held) ts results ∙ length-put_all s ms held))
    (λ c apart. put_all_other (put_all s ms held) ts results c (λ k. apart (target_written ms ts c k)) ∙ put_all_other s ms held c (λ k. apart (modified_written ms ts c k)))

-- ---- numbers of columns

pub number_of_global : (t : TypedProgram) (n g : ℕ) (v : VarInfo) → slice_get t.globals g ≡ Some v → column_number (frame_at t n) (columns.Global g) ≡ g
number_of_global t n g v e = ap column_number_if_any (global_place t n g v e)

number_of_local : (t : TypedProgram) (n l : ℕ) (v : VarInfo) → slice_get (locals_at t n) l ≡ Some v → column_number (frame_at t n) (columns.Local l) ≡ before_locals t + l
number_of_local t n l v e = ap column_number_if_any (local_place t n l v e)

same_column_of : (t : TypedProgram) (n : ℕ) (x y : Column) → IsThere t n x → IsThere t n y → column_number (frame_at t n) x ≡ column_number (frame_at t n) y → x ≡ y
same_column_of t n (columns.Old g) y h k e = absurd h
same_column_of t n (columns.Global g) (columns.Old m) h k e = absurd k
same_column_of t n (columns.Local l) (columns.Old m) h k e = absurd k
same_column_of t n (columns.Global g) (columns.Global m) h k e = ap columns.Global (sym (number_of_global t n g h.0 h.1) ∙ e ∙ number_of_global t n m k.0 k.1)
same_column_of t n (columns.Global g) (columns.Local l) h k e =
    let a : g ≡ before_locals t + l = sym (number_of_global t n g h.0 h.1) ∙ e ∙ number_of_local t n l k.0 k.1 in
    let b : g < length t.globals = slice_get_within t.globals g h.0 h.1 in
    absurd (omega arith)
same_column_of t n (columns.Local l) (columns.Global g) h k e =
    let a : before_locals t + l ≡ g = sym (number_of_local t n l h.0 h.1) ∙ e ∙ number_of_global t n g k.0 k.1 in
    let b : g < length t.globals = slice_get_within t.globals g k.0 k.1 in
    absurd (omega arith)
same_column_of t n (columns.Local l) (columns.Local m) h k e =
    let a : before_locals t + l ≡ before_locals t + m = sym (number_of_local t n l h.0 h.1) ∙ e ∙ number_of_local t n m k.0 k.1 in
    let b : l ≡ m = omega arith in
    ap columns.Local b

pub targets_there : (t : TypedProgram) (n : ℕ) (vs : List VarInfo) (cs : List Column) → AreTargets t n vs cs → AllByRecursion (IsThere t n) cs
targets_there t n [] [] a = tt
targets_there t n [] (c ∷ cs) a = absurd a
targets_there t n (v ∷ vs) [] a = absurd a
targets_there t n (v ∷ vs) (c ∷ cs) a = (target_there t n v.ty c a.0, targets_there t n vs cs a.1)

pub numbers_distinct : (t : TypedProgram) (n : ℕ) (cs : List Column) → AllByRecursion (IsThere t n) cs → AreDistinct cs → AreDistinct (numbers_in (frame_at t n) cs)
numbers_distinct t n [] h d = tt
numbers_distinct t n (c ∷ cs) h d = (λ k. d.0 (from_number cs h.1 k), numbers_distinct t n cs h.1 d.1)
  where
    from_number : (xs : List Column) → AllByRecursion (IsThere t n) xs → Member (numbers_in (frame_at t n) xs) (column_number (frame_at t n) c) → Member xs c
    from_number [] a k = absurd k
    from_number (x ∷ xs) a (inl e) = inl (same_column_of t n x c a.0 h.0 e)
    from_number (x ∷ xs) a (inr k) = inr (from_number xs a.1 k)
