-- Joining conjunctions, and what it means: "one or the other", "one with the other".
use Rattle.std.proofs.Common.{◌≡◌, ◌⊎◌, inl, inr, ⊎_elim, ℕ, ◌+◌, ◌≤◌, ℤ, List, [], ◌∷◌, ◌++◌, map, refl, sym, ◌∙◌, subst, arith}
use Rattle.std.specs.List.{AllByRecursion}
use Rattle.math_facts.specs.Terms.{dot, IsBelow}
use Rattle.math_facts.proofs.TermLaws.{IsBelow_more, dot_same_points}
use Rattle.lin_rows.specs.Rows.{LinearRow, Stands, Holds, RowsBelow}
use Rattle.cond_jumps.specs.Conjunctions.{Conjunction, Jumps, joined, each_with}
use Rattle.cond_jumps.specs.Meaning.{Agrees, AllHold, Extends, Meets, Sole, Single, Narrow, IsPath}

-- ---- points that agree

pub agrees_refl : (n : ℕ) (p : ℕ → ℤ) → Agrees n p p
agrees_refl n p = record { same = λ c l. refl }

pub agrees_less : (n m : ℕ) (p q : ℕ → ℤ) → n ≤ m → Agrees m p q → Agrees n p q
agrees_less n m p q l a = record { same = λ c k. a.same c (omega arith) }

pub agrees_trans : (n : ℕ) (p q r : ℕ → ℤ) → Agrees n p q → Agrees n q r → Agrees n p r
agrees_trans n p q r a b = record { same = λ c k. b.same c k ∙ a.same c k }

-- from points that agree below w to one that agrees with the second below n
pub agrees_on : (w n : ℕ) (p q r : ℕ → ℤ) → w ≤ n → Agrees w p q → Agrees n q r → Agrees w p r
agrees_on w n p q r l a b = agrees_trans w p q r a (agrees_less w n q r l b)

-- ---- rows at points that agree

holds_same : (n : ℕ) (p q : ℕ → ℤ) (r : LinearRow) → Agrees n p q → IsBelow n r.terms → Holds p r → Holds q r
holds_same n p q r a b h =
    let e : dot p r.terms ≡ dot q r.terms = dot_same_points p q n r.terms b (λ c l. sym (a.same c l)) in
    let P : ℤ → Type 0 = λ z. Stands r.kind z r.bound in
    subst P e h

pub all_hold_same : (n : ℕ) (p q : ℕ → ℤ) (rows : List LinearRow) → Agrees n p q → RowsBelow n rows → AllHold p rows → AllHold q rows
all_hold_same n p q [] a b h = tt
all_hold_same n p q (r ∷ rows) a b h = (holds_same n p q r a b.0 h.0, all_hold_same n p q rows a b.1 h.1)

pub all_below_more : (n m : ℕ) (rows : List LinearRow) → n ≤ m → RowsBelow n rows → RowsBelow m rows
all_below_more n m [] l b = tt
all_below_more n m (r ∷ rows) l b = (IsBelow_more n m r.terms l b.0, all_below_more n m rows l b.1)

-- ---- lists of which each member has a property, joined

pub all_append : {X : Type 0} (P : X → Type 0) (xs ys : List X) → AllByRecursion P xs → AllByRecursion P ys → AllByRecursion P (xs ++ ys)
all_append P [] ys h k = k
all_append P (x ∷ xs) ys h k = (h.0, all_append P xs ys h.1 k)

pub all_left : {X : Type 0} (P : X → Type 0) (xs ys : List X) → AllByRecursion P (xs ++ ys) → AllByRecursion P xs
all_left P [] ys h = tt
all_left P (x ∷ xs) ys h = (h.0, all_left P xs ys h.1)

pub all_right : {X : Type 0} (P : X → Type 0) (xs ys : List X) → AllByRecursion P (xs ++ ys) → AllByRecursion P ys
all_right P [] ys h = h
all_right P (x ∷ xs) ys h = all_right P xs ys h.1

pub hold_append : (p : ℕ → ℤ) (a b : List LinearRow) → AllHold p a → AllHold p b → AllHold p (a ++ b)
hold_append p a b = all_append (Holds p) a b

pub hold_left : (p : ℕ → ℤ) (a b : List LinearRow) → AllHold p (a ++ b) → AllHold p a
hold_left p a b = all_left (Holds p) a b

pub hold_right : (p : ℕ → ℤ) (a b : List LinearRow) → AllHold p (a ++ b) → AllHold p b
hold_right p a b = all_right (Holds p) a b

pub below_append : (n : ℕ) (a b : List LinearRow) → RowsBelow n a → RowsBelow n b → RowsBelow n (a ++ b)
below_append n a b = all_append (λ r. IsBelow n r.terms) a b

-- ---- rows with helpers, one part after the other

-- helpers of the first rows, and then, at whatever point they make, helpers of the second
pub extends_append : (n m : ℕ) (p : ℕ → ℤ) (a b : List LinearRow) → n ≤ m → RowsBelow m a →
    (q : ℕ → ℤ) → Agrees n p q → AllHold q a → Extends m q b → Extends n p (a ++ b)
extends_append n m p a b l narrow q s h e =
    (e.0, agrees_on n m p q e.0 l s e.1, hold_append e.0 a b (all_hold_same m q e.0 a e.1 narrow h) e.2)

-- unique helpers of the first, and unique helpers of the second at whatever point these make
pub sole_append : (n m k : ℕ) (p : ℕ → ℤ) (a b : List LinearRow) → Sole n m p a →
    ((q : ℕ → ℤ) → Agrees n p q → AllHold q a → Sole m k q b) → Sole n k p (a ++ b)
sole_append n m k p a b s t q r x y h i =
    t q x (hold_left q a b h) q r (agrees_refl m q) (s q r x y (hold_left q a b h) (hold_left r a b i))
    (hold_right q a b h) (hold_right r a b i)

-- ---- one list, then the other

pub narrow_append : (n : ℕ) (a b : List Conjunction) → Narrow n a → Narrow n b → Narrow n (a ++ b)
narrow_append n [] b h k = k
narrow_append n (c ∷ a) b h k = (h.0, narrow_append n a b h.1 k)

pub meets_left : (n : ℕ) (p : ℕ → ℤ) (a b : List Conjunction) → Meets n p a → Meets n p (a ++ b)
meets_left n p [] b h = absurd h
meets_left n p (c ∷ a) b (inl e) = inl e
meets_left n p (c ∷ a) b (inr h) = inr (meets_left n p a b h)

pub meets_right : (n : ℕ) (p : ℕ → ℤ) (a b : List Conjunction) → Meets n p b → Meets n p (a ++ b)
meets_right n p [] b h = h
meets_right n p (c ∷ a) b h = inr (meets_right n p a b h)

pub meets_append : (n : ℕ) (p : ℕ → ℤ) (a b : List Conjunction) → Meets n p (a ++ b) → Meets n p a ⊎ Meets n p b
meets_append n p [] b h = inr h
meets_append n p (c ∷ a) b (inl e) = inl (inl e)
meets_append n p (c ∷ a) b (inr h) =
    ⊎_elim (λ (k : Meets n p a). inl (inr k)) (λ (k : Meets n p b). inr k) (meets_append n p a b h)

pub single_append : (n : ℕ) (p : ℕ → ℤ) (a b : List Conjunction) → Single n p a → Single n p b → (Meets n p a → Meets n p b → ⊥) → Single n p (a ++ b)
single_append n p [] b s t h = t
single_append n p (c ∷ a) b s t h = (
  s.0,
  λ e k. ⊎_elim (λ (i : Meets n p a). s.1 e i) (λ (i : Meets n p b). h (inl e) i) (meets_append n p a b k),
  single_append n p a b s.2 t (λ i k. h (inr i) k),
)

-- ---- one conjunction joined to each of a list

narrow_joined : (n : ℕ) (c : Conjunction) (ds : List Conjunction) → RowsBelow (n + c.helpers) c.rows → Narrow (n + c.helpers) ds → Narrow n (map (joined c) ds)
narrow_joined n c [] b h = tt
narrow_joined n c (d ∷ ds) b h =
    let k : n + c.helpers + d.helpers ≡ n + (c.helpers + d.helpers) = omega arith in
    let P : ℕ → Type 0 = λ m. RowsBelow m (c.rows ++ d.rows) in (
      subst P k (below_append (n + c.helpers + d.helpers) c.rows d.rows
          (all_below_more (n + c.helpers) (n + c.helpers + d.helpers) c.rows (omega arith) b) h.0),
      narrow_joined n c ds b h.1,
    )

-- a point with the first conjunction's helpers, at which a member of the list is met
pub record Both (n : ℕ) (p : ℕ → ℤ) (c : Conjunction) (ds : List Conjunction) : Type 0 where
  pub point : ℕ → ℤ
  pub agrees : Agrees n p point
  pub hold : AllHold point c.rows
  pub meets : Meets (n + c.helpers) point ds

both_more : (n : ℕ) (p : ℕ → ℤ) (c d : Conjunction) (ds : List Conjunction) → Both n p c ds → Both n p c (d ∷ ds)
both_more n p c d ds b = record { point = b.point; agrees = b.agrees; hold = b.hold; meets = inr b.meets }

meets_joined : (n : ℕ) (p : ℕ → ℤ) (c : Conjunction) (ds : List Conjunction) → Meets n p (map (joined c) ds) → Both n p c ds
meets_joined n p c [] h = absurd h
meets_joined n p c (d ∷ ds) (inl e) =
    record {
      point = e.0;
      agrees = e.1;
      hold = hold_left e.0 c.rows d.rows e.2;
      meets = inl (e.0, agrees_refl (n + c.helpers) e.0, hold_right e.0 c.rows d.rows e.2);
    }
meets_joined n p c (d ∷ ds) (inr h) = both_more n p c d ds (meets_joined n p c ds h)

joined_meets : (n : ℕ) (p q : ℕ → ℤ) (c : Conjunction) (ds : List Conjunction) → RowsBelow (n + c.helpers) c.rows →
    Agrees n p q → AllHold q c.rows → Meets (n + c.helpers) q ds → Meets n p (map (joined c) ds)
joined_meets n p q c [] b s h k = absurd k
joined_meets n p q c (d ∷ ds) b s h (inl e) = inl (extends_append n (n + c.helpers) p c.rows d.rows (omega arith) b q s h e)
joined_meets n p q c (d ∷ ds) b s h (inr k) = inr (joined_meets n p q c ds b s h k)

-- a member met at one point is met at each that agrees with it
pub meets_same : (n : ℕ) (p q : ℕ → ℤ) (ds : List Conjunction) → Agrees n p q → Meets n q ds → Meets n p ds
meets_same n p q [] a h = absurd h
meets_same n p q (d ∷ ds) a (inl e) = inl (e.0, agrees_trans n p q e.0 a e.1, e.2)
meets_same n p q (d ∷ ds) a (inr h) = inr (meets_same n p q ds a h)

single_joined : (n : ℕ) (p : ℕ → ℤ) (c : Conjunction) (ds : List Conjunction) → Sole n (n + c.helpers) p c.rows →
    ((q : ℕ → ℤ) → Agrees n p q → Single (n + c.helpers) q ds) → Single n p (map (joined c) ds)
single_joined n p c [] s t = tt
single_joined n p c (d ∷ ds) s t =
    let k : n + c.helpers + d.helpers ≡ n + (c.helpers + d.helpers) = omega arith in
    let P : ℕ → Type 0 = λ m. Sole n m p (c.rows ++ d.rows) in (
      subst P k (sole_append n (n + c.helpers) (n + c.helpers + d.helpers) p c.rows d.rows s (λ q a h. (t q a).0)),
      λ e h.
          let b : Both n p c ds = meets_joined n p c ds h in
          let a : Agrees (n + c.helpers) e.0 b.point = s e.0 b.point e.1 b.agrees (hold_left e.0 c.rows d.rows e.2) b.hold in
          (t e.0 e.1).1 (e.0, agrees_refl (n + c.helpers) e.0, hold_right e.0 c.rows d.rows e.2)
          (meets_same (n + c.helpers) e.0 b.point ds a b.meets),
      single_joined n p c ds s (λ q a. (t q a).2),
    )

-- ---- each of one list with each of the other

narrow_each : (n : ℕ) (cs : List Conjunction) (b : Jumps) → Narrow n cs → ((m : ℕ) → n ≤ m → Narrow m (b m)) → Narrow n (each_with cs b n)
narrow_each n [] b h k = tt
narrow_each n (c ∷ cs) b h k =
    narrow_append n (map (joined c) (b (n + c.helpers))) (each_with cs b n)
    (narrow_joined n c (b (n + c.helpers)) h.0 (k (n + c.helpers) (omega arith))) (narrow_each n cs b h.1 k)

meets_each : (n : ℕ) (p : ℕ → ℤ) (cs : List Conjunction) (b : Jumps) (Q : Type 0) →
    ((m : ℕ) (q : ℕ → ℤ) → n ≤ m → Agrees n p q → Meets m q (b m) → Q) → Meets n p (each_with cs b n) → Meets n p cs × Q
meets_each n p [] b Q k h = absurd h
meets_each n p (c ∷ cs) b Q k h =
    ⊎_elim
    (λ (i : Meets n p (map (joined c) (b (n + c.helpers)))).
    let w : Both n p c (b (n + c.helpers)) = meets_joined n p c (b (n + c.helpers)) i in
    (inl (w.point, w.agrees, w.hold), k (n + c.helpers) w.point (omega arith) w.agrees w.meets))
    (λ (i : Meets n p (each_with cs b n)).
    let w : Meets n p cs × Q = meets_each n p cs b Q k i in
    (inr w.0, w.1))
    (meets_append n p (map (joined c) (b (n + c.helpers))) (each_with cs b n) h)

each_meets : (n : ℕ) (p : ℕ → ℤ) (cs : List Conjunction) (b : Jumps) → Narrow n cs →
    ((m : ℕ) (q : ℕ → ℤ) → n ≤ m → Agrees n p q → Meets m q (b m)) → Meets n p cs → Meets n p (each_with cs b n)
each_meets n p [] b s k h = absurd h
each_meets n p (c ∷ cs) b s k (inl e) =
    meets_left n p (map (joined c) (b (n + c.helpers))) (each_with cs b n)
    (joined_meets n p e.0 c (b (n + c.helpers)) s.0 e.1 e.2 (k (n + c.helpers) e.0 (omega arith) e.1))
each_meets n p (c ∷ cs) b s k (inr h) =
    meets_right n p (map (joined c) (b (n + c.helpers))) (each_with cs b n) (each_meets n p cs b s.1 k h)

-- what a member of the joined list meets, the member of the first list meets
meets_first : (n : ℕ) (p : ℕ → ℤ) (c : Conjunction) (ds : List Conjunction) → Meets n p (map (joined c) ds) → Extends n p c.rows
meets_first n p c ds h = let b : Both n p c ds = meets_joined n p c ds h in (b.point, b.agrees, b.hold)

single_each : (n : ℕ) (p : ℕ → ℤ) (cs : List Conjunction) (b : Jumps) → Single n p cs →
    ((m : ℕ) (q : ℕ → ℤ) → n ≤ m → Agrees n p q → Single m q (b m)) → Single n p (each_with cs b n)
single_each n p [] b s k = tt
single_each n p (c ∷ cs) b s k =
    single_append n p (map (joined c) (b (n + c.helpers))) (each_with cs b n)
    (single_joined n p c (b (n + c.helpers)) s.0 (λ q a. k (n + c.helpers) q (omega arith) a))
    (single_each n p cs b s.2 k)
    (λ h i. s.1 (meets_first n p c (b (n + c.helpers)) h) (meets_each n p cs b (Unit {0}) (λ m q l a j. tt) i).0)

-- ---- lists that mean something

-- the same list for a fact that is the same
pub path_as : (w : ℕ) (p : ℕ → ℤ) (a : Jumps) (P Q : Type 0) → (P → Q) → (Q → P) → IsPath w p a P → IsPath w p a Q
path_as w p a P Q f g h =
    record {
      narrow = h.narrow;
      so = λ n q l s m. f (h.so n q l s m);
      back = λ n q l s x. h.back n q l s (g x);
      single = h.single;
    }

-- one list, then another: one fact or the other, of which at most one holds
pub path_either : (w : ℕ) (p : ℕ → ℤ) (a b : Jumps) (P Q : Type 0) → (P → Q → ⊥) → IsPath w p a P → IsPath w p b Q →
    IsPath w p (λ n. a n ++ b n) (P ⊎ Q)
path_either w p a b P Q apart h k =
    record {
      narrow = λ n l. narrow_append n (a n) (b n) (h.narrow n l) (k.narrow n l);
      so = λ n q l s m.
          ⊎_elim (λ (i : Meets n q (a n)). inl (h.so n q l s i)) (λ (i : Meets n q (b n)). inr (k.so n q l s i)) (meets_append n q (a n) (b n) m);
      back = λ n q l s x.
          ⊎_elim (λ (y : P). meets_left n q (a n) (b n) (h.back n q l s y)) (λ (y : Q). meets_right n q (a n) (b n) (k.back n q l s y)) x;
      single = λ n q l s.
          single_append n q (a n) (b n) (h.single n q l s) (k.single n q l s) (λ i j. apart (h.so n q l s i) (k.so n q l s j));
    }

-- one list with another: both facts
pub path_both : (w : ℕ) (p : ℕ → ℤ) (a b : Jumps) (P Q : Type 0) → IsPath w p a P → IsPath w p b Q →
    IsPath w p (λ n. each_with (a n) b n) (P × Q)
path_both w p a b P Q h k =
    record {
      narrow = λ n l. narrow_each n (a n) b (h.narrow n l) (λ m j. k.narrow m (omega arith));
      so = λ n q l s m.
          let x : Meets n q (a n) × Q = meets_each n q (a n) b Q (λ m r j t i. k.so m r (omega arith) (agrees_on w n p q r l s t) i) m in
          (h.so n q l s x.0, x.1);
      back = λ n q l s x.
          each_meets n q (a n) b (h.narrow n l) (λ m r j t. k.back m r (omega arith) (agrees_on w n p q r l s t) x.1) (h.back n q l s x.0);
      single = λ n q l s.
          single_each n q (a n) b (h.single n q l s) (λ m r j t. k.single m r (omega arith) (agrees_on w n p q r l s t));
    }
