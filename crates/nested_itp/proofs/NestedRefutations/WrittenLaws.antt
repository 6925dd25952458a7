-- Which columns of the caller a return writes, and where the columns of the frame after it stand.
use Rattle.std.proofs.Common.{◌≡◌, ◌∙◌, ◌⊎◌, inl, inr, ℕ, zero, suc, ◌+◌, ◌<◌, ◌≤◌, Bool, true, false, cond, List, [], ◌∷◌, ◌++◌, length, map, refl, sym, ap, subst, arith, Option, None, Some}
use Rattle.std.specs.Prelude.{not, ◌&&◌, ◌||◌, filter, nat_eq, slice_get, slice_index, IsSomeAnd}
use Rattle.std.specs.List.{AllByRecursion}
use Rattle.std.proofs.lemmas.Bool.{eq-eqb, ne_eqb, cases_eq, eqb-true}
use Rattle.boogie_tree.specs.declared.tree.Column.{Column}
use Rattle.boogie_tree.specs.declared.tree.VarInfo.{VarInfo}
use Rattle.nwa_base.specs.Members.{Member}
use Rattle.letter_acts.specs.Frames.{Columns, is_old_column, is_global, is_variable, added, places, variables_of}
use Rattle.letter_acts.specs.Reading.{taken, is_listed}
use Rattle.letter_acts.specs.Invariant.{AreDistinct, MayTarget, Take, is_global_at, written_by}
use Rattle.letter_acts.proofs.ListLemmas.{member_or_not, all_member}
use Rattle.path_rows.proofs.OpenLemmas.{at_place}
use Rattle.path_rows.proofs.DifferLemmas.{distinct_joined, places_distinct}
use Rattle.triple_rows.specs.Systems.{after_column}
use Rattle.nested_itp.proofs.NestedRefutations.ContentLaws.{DiffersBelow}
use Rattle.nested_itp.proofs.NestedRefutations.NamesLaws.{index_member, member_joined}
use Rattle.nested_itp.proofs.NestedRefutations.VersionLaws.{places_differ, after_absent}

clash : (z : Bool) → z ≡ true → z ≡ false → ⊥
clash true e f = absurd (cc)
clash false e f = absurd (cc)

-- ---- members of lists

member_left : {X : Type 0} (xs ys : List X) (x : X) → Member xs x → Member (xs ++ ys) x
member_left [] ys x h = absurd h
member_left (z ∷ zs) ys x (inl e) = inl e
member_left (z ∷ zs) ys x (inr m) = inr (member_left zs ys x m)

member_right : {X : Type 0} (xs ys : List X) (x : X) → Member ys x → Member (xs ++ ys) x
member_right [] ys x h = h
member_right (z ∷ zs) ys x h = inr (member_right zs ys x h)

pub passed : {X : Type 0} (test : X → Bool) (xs : List X) (x : X) → Member (filter test xs) x → Member xs x × (test x ≡ true)
passed test [] x m = absurd m
passed {X = X} test (y ∷ xs) x m = by_test (test y) refl (λ k. passed test xs x k) m
  where
    by_test : (z : Bool) → test y ≡ z → (Member (filter test xs) x → Member xs x × (test x ≡ true)) → Member (cond z (y ∷ filter test xs) (filter test xs)) x → Member (y ∷ xs) x × (test x ≡ true)
    by_test true e f (inl q) = (inl q, subst (λ (u : X). test u ≡ true) q e)
    by_test true e f (inr k) = let r = f k in (inr r.0, r.1)
    by_test false e f k = let r = f k in (inr r.0, r.1)

pub passes : {X : Type 0} (test : X → Bool) (xs : List X) (x : X) → Member xs x → test x ≡ true → Member (filter test xs) x
passes test [] x m t = absurd m
passes {X = X} test (y ∷ xs) x m t = by_test (test y) refl (λ k. passes test xs x k t) m
  where
    by_test : (z : Bool) → test y ≡ z → (Member xs x → Member (filter test xs) x) → Member (y ∷ xs) x → Member (cond z (y ∷ filter test xs) (filter test xs)) x
    by_test true e f (inl q) = inl q
    by_test true e f (inr k) = inr (f k)
    by_test false e f (inl q) = absurd (clash (test x) t (ap test (sym q) ∙ e))
    by_test false e f (inr k) = f k

pub passed_apart : {X : Type 0} (test : X → Bool) (xs : List X) → AreDistinct xs → AreDistinct (filter test xs)
passed_apart test [] d = tt
passed_apart test (x ∷ xs) d = by_test (test x) (passed_apart test xs d.1)
  where
    by_test : (z : Bool) → AreDistinct (filter test xs) → AreDistinct (cond z (x ∷ filter test xs) (filter test xs))
    by_test true h = ((λ m. d.0 (passed test xs x m).0), h)
    by_test false h = h

pub map_in : {X : Type 0} (f : X → ℕ) (xs : List X) (x : X) → Member xs x → Member (map f xs) (f x)
map_in f [] x m = absurd m
map_in f (y ∷ xs) x (inl e) = inl (ap f e)
map_in f (y ∷ xs) x (inr m) = inr (map_in f xs x m)

map_out : {X : Type 0} (f : X → ℕ) (xs : List X) (y : ℕ) → Member (map f xs) y → (x : X) × Member xs x × (f x ≡ y)
map_out f [] y m = absurd m
map_out f (x ∷ xs) y (inl e) = (x, inl refl, e)
map_out f (x ∷ xs) y (inr m) = let r = map_out f xs y m in (r.0, inr r.1, r.2)

-- numbers of members that are told apart by others are told apart
pub map_apart : {X : Type 0} (f g : X → ℕ) (xs : List X) → AreDistinct (map f xs) → ((x y : X) → Member xs x → Member xs y → g x ≡ g y → f x ≡ f y) → AreDistinct (map g xs)
map_apart f g [] d h = tt
map_apart f g (x ∷ xs) d h = (
  λ m. (let r = map_out g xs (g x) m in d.0 (subst (Member (map f xs)) (h r.0 x (inr r.1) (inl refl) r.2) (map_in f xs r.0 r.1))),
  map_apart f g xs d.1 (λ y z m k e. h y z (inr m) (inr k) e),
)

pub map_id : (xs : List ℕ) → map (λ x. x) xs ≡ xs
map_id [] = refl
map_id (x ∷ xs) = ap (λ (l : List ℕ). x ∷ l) (map_id xs)

-- ---- what is written

global_at : (frame : Columns) (c : ℕ) (v : Column × VarInfo) → slice_get frame c ≡ Some v → is_global_at frame c ≡ is_global v
global_at [] c v e = absurd (cc)
global_at (w ∷ frame) zero v e = ap is_global (let k : w ≡ v = cc in k)
global_at (w ∷ frame) (suc c) v e = global_at frame c v e

first_true : (a b : Bool) → (a && b) ≡ true → a ≡ true
first_true true b e = refl
first_true false b e = e

variable_global : (caller : Columns) (c : ℕ) → Member (variables_of caller) c → is_global_at caller c ≡ true
variable_global caller c m =
    let p = at_place is_variable 0 caller c m in
    let e : c ≡ p.0 = (let k = p.2 in omega (arith, k)) in
    global_at caller c p.1 (ap (slice_get caller) e ∙ p.3) ∙ first_true (is_global p.1) (not p.1.1.constant) p.4

pub place_in : (test : Column × VarInfo → Bool) (n : ℕ) (xs : Columns) (i : ℕ) (v : Column × VarInfo) → slice_get xs i ≡ Some v → test v ≡ true → Member (places test n xs) (n + i)
place_in test n [] i v e t = absurd (cc)
place_in test n (x ∷ xs) zero v e t = by_test (test x) (let q : x ≡ v = cc in ap test q ∙ t)
  where
    by_test : (z : Bool) → z ≡ true → Member (added z n (places test (suc n) xs)) (n + 0)
    by_test true q = inl (omega arith)
    by_test false q = absurd (cc)
place_in test n (x ∷ xs) (suc i) v e t =
    by_test (test x) (subst (Member (places test (suc n) xs)) (let q : suc n + i ≡ n + suc i = omega arith in q) (place_in test (suc n) xs i v e t))
  where
    by_test : (z : Bool) → Member (places test (suc n) xs) (n + suc i) → Member (added z n (places test (suc n) xs)) (n + suc i)
    by_test true m = inr m
    by_test false m = m

some_of : (o : Option (Column × VarInfo)) → IsSomeAnd o (λ v. (v.1.constant ≡ false) × (is_old_column v.0 ≡ false)) → (v : Column × VarInfo) × (o ≡ Some v) × (v.1.constant ≡ false)
some_of None h = absurd h
some_of (Some v) h = (v, refl, h.0)

-- a global that may be a target is one that may change
target_variable : (caller : Columns) (c : ℕ) → MayTarget caller c → is_global_at caller c ≡ true → Member (variables_of caller) c
target_variable caller c may g =
    let s = some_of (slice_get caller c) may in
    let is : is_variable s.0 ≡ true = ap (λ (z : Bool). z && not s.0.1.constant) (sym (global_at caller c s.0 s.1) ∙ g) ∙ ap (λ (z : Bool). true && not z) s.2 in
    subst (Member (variables_of caller)) (let q : 0 + c ≡ c = omega arith in q) (place_in is_variable 0 caller c s.0 s.1 is)

abbrev local_targets : Columns → List ℕ → List ℕ
local_targets caller targets = filter (λ t. not (is_global_at caller t)) targets

pub written_apart : (caller : Columns) (targets : List ℕ) → AreDistinct targets → AreDistinct (written_by caller targets)
written_apart caller targets d =
    distinct_joined (variables_of caller) (local_targets caller targets) (places_distinct is_variable 0 caller) (passed_apart (λ t. not (is_global_at caller t)) targets d)
    (λ c v m. clash (not (is_global_at caller c)) (passed (λ t. not (is_global_at caller t)) targets c m).1 (ap not (variable_global caller c v)))

pub variable_written : (caller : Columns) (targets : List ℕ) (c : ℕ) → Member (variables_of caller) c → Member (written_by caller targets) c
variable_written caller targets c m = member_left (variables_of caller) (local_targets caller targets) c m

pub target_written : (caller : Columns) (targets : List ℕ) (c : ℕ) → AllByRecursion (MayTarget caller) targets → Member targets c → Member (written_by caller targets) c
target_written caller targets c all m = by_test (is_global_at caller c) refl
  where
    by_test : (z : Bool) → is_global_at caller c ≡ z → Member (written_by caller targets) c
    by_test true e = variable_written caller targets c (target_variable caller c (all_member (MayTarget caller) targets c m all) e)
    by_test false e = member_right (variables_of caller) (local_targets caller targets) c (passes (λ t. not (is_global_at caller t)) targets c m (ap not e))

pub written_are : (caller : Columns) (targets : List ℕ) (c : ℕ) → Member (written_by caller targets) c → Member (variables_of caller) c ⊎ Member targets c
written_are caller targets c m = by_part (member_joined (variables_of caller) (local_targets caller targets) c m)
  where
    by_part : Member (variables_of caller) c ⊎ Member (local_targets caller targets) c → Member (variables_of caller) c ⊎ Member targets c
    by_part (inl h) = inl h
    by_part (inr h) = inr (passed (λ t. not (is_global_at caller t)) targets c h).0

-- ---- targets and results

pub listed_member : (xs : List ℕ) (c : ℕ) → is_listed xs c ≡ true → Member xs c
listed_member [] c e = absurd (cc)
listed_member (x ∷ xs) c e = by_test (nat_eq x c) refl (λ h. listed_member xs c h) e
  where
    by_test : (z : Bool) → nat_eq x c ≡ z → (is_listed xs c ≡ true → Member xs c) → (z || is_listed xs c) ≡ true → Member (x ∷ xs) c
    by_test true q f h = inl (eqb-true x c q)
    by_test false q f h = inr (f h)

pub member_listed : (xs : List ℕ) (c : ℕ) → Member xs c → is_listed xs c ≡ true
member_listed [] c m = absurd m
member_listed (x ∷ xs) c (inl e) = ap (λ (z : Bool). z || is_listed xs c) (eq-eqb x c e)
member_listed (x ∷ xs) c (inr m) = by_test (nat_eq x c) (member_listed xs c m)
  where
    by_test : (z : Bool) → is_listed xs c ≡ true → (z || is_listed xs c) ≡ true
    by_test true h = refl
    by_test false h = h

pub taken_of : (caller callee : Columns) (targets results : List ℕ) → Take caller callee targets results → (t : ℕ) → Member targets t → (r : ℕ) × Member (taken targets results) (t, r)
taken_of caller callee [] results k t m = absurd m
taken_of caller callee (x ∷ targets) [] k t m = absurd k
taken_of caller callee (x ∷ targets) (y ∷ results) k t (inl e) = (y, inl (ap (λ (z : ℕ). (z, y)) e))
taken_of caller callee (x ∷ targets) (y ∷ results) k t (inr m) = let r = taken_of caller callee targets results k.1 t m in (r.0, inr r.1)

pub taken_parts : (targets results : List ℕ) (p : ℕ × ℕ) → Member (taken targets results) p → Member targets p.0 × Member results p.1
taken_parts [] results p m = absurd m
taken_parts (x ∷ targets) [] p m = absurd m
taken_parts (x ∷ targets) (y ∷ results) p (inl e) = (inl (ap (λ (z : ℕ × ℕ). z.0) e), inl (ap (λ (z : ℕ × ℕ). z.1) e))
taken_parts (x ∷ targets) (y ∷ results) p (inr m) = let r = taken_parts targets results p m in (inr r.0, inr r.1)

pub firsts_apart : (targets results : List ℕ) → AreDistinct targets → AreDistinct (map (λ p. p.0) (taken targets results))
firsts_apart [] results d = tt
firsts_apart (x ∷ targets) [] d = tt
firsts_apart (x ∷ targets) (y ∷ results) d = (
  λ m. (let r = map_out (λ (p : ℕ × ℕ). p.0) (taken targets results) x m in d.0 (subst (Member targets) r.2 (taken_parts targets results r.0 r.1).0)),
  firsts_apart targets results d.1,
)

pub seconds_apart : (targets results : List ℕ) → AreDistinct results → AreDistinct (map (λ p. p.1) (taken targets results))
seconds_apart [] results d = tt
seconds_apart (x ∷ targets) [] d = tt
seconds_apart (x ∷ targets) (y ∷ results) d = (
  λ m. (let r = map_out (λ (p : ℕ × ℕ). p.1) (taken targets results) y m in d.0 (subst (Member results) r.2 (taken_parts targets results r.0 r.1).1)),
  seconds_apart targets results d.1,
)

-- whether a result is taken
pub taken_or_not : (targets results : List ℕ) (r : ℕ) → ((t : ℕ) × Member (taken targets results) (t, r)) ⊎ ((t : ℕ) → Member (taken targets results) (t, r) → ⊥)
taken_or_not [] results r = inr (λ t m. m)
taken_or_not (x ∷ targets) [] r = inr (λ t m. m)
taken_or_not (x ∷ targets) (y ∷ results) r = by_first (cases_eq y r) (taken_or_not targets results r)
  where
    by_first : (y ≡ r) ⊎ (y ≡ r → ⊥) → ((t : ℕ) × Member (taken targets results) (t, r)) ⊎ ((t : ℕ) → Member (taken targets results) (t, r) → ⊥) →
        ((t : ℕ) × Member (taken (x ∷ targets) (y ∷ results)) (t, r)) ⊎ ((t : ℕ) → Member (taken (x ∷ targets) (y ∷ results)) (t, r) → ⊥)
    by_first (inl e) k = inl (x, inl (ap (λ (z : ℕ). (x, z)) e))
    by_first (inr n) (inl k) = inl (k.0, inr k.1)
    by_first (inr n) (inr k) = inr (λ t m. either t m)
      where
        either : (t : ℕ) → Member (taken (x ∷ targets) (y ∷ results)) (t, r) → ⊥
        either t (inl e) = n (ap (λ (z : ℕ × ℕ). z.1) e)
        either t (inr m) = k t m

-- ---- where the columns of the frame after it stand

-- a written one stands among these, in its place
pub after_place : (base first : ℕ) (written : List ℕ) (c : ℕ) → Member written c →
    (i : ℕ) × (i < length written) × (after_column base first written c ≡ first + i) × (slice_index written i ≡ c)
after_place base first [] c m = absurd m
after_place base first (d ∷ ds) c m = by_column (cases_eq d c) (λ k. after_place base (suc first) ds c k) m
  where
    by_column : (d ≡ c) ⊎ (d ≡ c → ⊥) → (Member ds c → (i : ℕ) × (i < length ds) × (after_column base (suc first) ds c ≡ suc first + i) × (slice_index ds i ≡ c)) → Member (d ∷ ds) c → (i : ℕ) × (i < length (d ∷ ds)) × (after_column base first (d ∷ ds) c ≡ first + i) × (slice_index (d ∷ ds) i ≡ c)
    by_column (inl e) f k = (0, omega arith, rw (eq-eqb d c e) (omega arith), e)
    by_column (inr n) f (inl e) = absurd (n e)
    by_column (inr n) f (inr k) =
        let r = f k in
        let l = r.1 in
        (suc r.0, omega (arith, l), rw (ne_eqb d c n) (r.2 ∙ (let q : suc first + r.0 ≡ first + suc r.0 = omega arith in q)), r.3)

pub after_at : (base first : ℕ) (written : List ℕ) → AreDistinct written → (i : ℕ) → i < length written → after_column base first written (slice_index written i) ≡ first + i
after_at base first written d i l =
    let r = after_place base first written (slice_index written i) (index_member written i l) in
    r.2 ∙ ap (λ (k : ℕ). first + k) (places_differ written d r.0 i r.1 l r.3)

-- the columns of the frame stand in different ones
pub after_apart : (n base first : ℕ) (written : List ℕ) → base + n ≤ first → DiffersBelow n (after_column base first written)
after_apart n base first written low i j l m e = by_both (member_or_not written i) (member_or_not written j)
  where
    by_both : Member written i ⊎ (Member written i → ⊥) → Member written j ⊎ (Member written j → ⊥) → i ≡ j
    by_both (inl h) (inl k) =
        let p = after_place base first written i h in
        let q = after_place base first written j k in
        let a = p.2 in
        let b = q.2 in
        let same : p.0 ≡ q.0 = omega (arith, a, b, e) in
        sym p.3 ∙ ap (slice_index written) same ∙ q.3
    by_both (inl h) (inr k) =
        let a = (after_place base first written i h).2 in
        let b = after_absent base first written j k in
        absurd (omega (arith, a, b, e, m, low))
    by_both (inr h) (inl k) =
        let a = after_absent base first written i h in
        let b = (after_place base first written j k).2 in
        absurd (omega (arith, a, b, e, l, low))
    by_both (inr h) (inr k) =
        let a = after_absent base first written i h in
        let b = after_absent base first written j k in
        omega (arith, a, b, e)
