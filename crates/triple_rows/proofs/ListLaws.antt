-- Small facts about lists: all members, places, and what stands at a number.
use Rattle.std.proofs.Common.{◌≡◌, ◌↔◌, ◌∙◌, ℕ, zero, suc, ◌+◌, ◌<◌, ◌≤◌, Bool, true, false, cond, List, [], ◌∷◌, ◌++◌, length, Some, refl, sym, ap, subst, inl, inr, arith}
use Rattle.std.specs.Prelude.{map, filter, slice_get}
use Rattle.std.specs.List.{AllByRecursion}
use Rattle.std.proofs.lemmas.Bool.{false≢true}
use Rattle.nwa_base.specs.Members.{Member}
use Rattle.letter_acts.specs.Frames.{Columns, added, places, olds_from, old_at}
use Rattle.boogie_tree.specs.declared.tree.Column.{Column}
use Rattle.boogie_tree.specs.declared.tree.Column.TheVariants.{Global, Old, Local}

pub all_joined : {X : Type 0} (P : X → Type 0) (xs ys : List X) → AllByRecursion P (xs ++ ys) ↔ (AllByRecursion P xs × AllByRecursion P ys)
all_joined P [] ys = (λ h. (tt, h), λ h. h.1)
all_joined P (x ∷ xs) ys =
    let r = all_joined P xs ys in
    (λ h. ((h.0, (r.0 h.1).0), (r.0 h.1).1), λ h. (h.0.0, r.1 (h.0.1, h.1)))

-- what follows member by member from two facts
pub all_from : {X : Type 0} (W P Q : X → Type 0) → ((x : X) → W x → P x → Q x) → (xs : List X) → AllByRecursion W xs → AllByRecursion P xs → AllByRecursion Q xs
all_from W P Q f [] w h = tt
all_from W P Q f (x ∷ xs) w h = (f x w.0 h.0, all_from W P Q f xs w.1 h.1)

pub all_same : {X : Type 0} (P Q : X → Type 0) → ((x : X) → P x ↔ Q x) → (xs : List X) → AllByRecursion P xs ↔ AllByRecursion Q xs
all_same P Q f [] = (λ h. tt, λ h. tt)
all_same P Q f (x ∷ xs) = let r = all_same P Q f xs in (λ h. ((f x).0 h.0, r.0 h.1), λ h. ((f x).1 h.0, r.1 h.1))

pub all_mapped : {X Y : Type 0} (P : Y → Type 0) (f : X → Y) (xs : List X) → AllByRecursion P (map f xs) ↔ AllByRecursion (λ x. P (f x)) xs
all_mapped P f [] = (λ h. tt, λ h. tt)
all_mapped P f (x ∷ xs) = let r = all_mapped P f xs in (λ h. (h.0, r.0 h.1), λ h. (h.0, r.1 h.1))

-- all that pass a test
pub all_passed : (P : ℕ → Type 0) (test : ℕ → Bool) (xs : List ℕ) → AllByRecursion P (filter test xs) ↔ AllByRecursion (λ x. test x ≡ true → P x) xs
all_passed P test [] = (λ h. tt, λ h. tt)
all_passed P test (x ∷ xs) = by_test (test x) refl (all_passed P test xs)
  where
    by_test : (b : Bool) → test x ≡ b → AllByRecursion P (filter test xs) ↔ AllByRecursion (λ y. test y ≡ true → P y) xs →
        AllByRecursion P (cond b (x ∷ filter test xs) (filter test xs)) ↔ ((test x ≡ true → P x) × AllByRecursion (λ y. test y ≡ true → P y) xs)
    by_test true e r = (λ h. (λ t. h.0, r.0 h.1), λ h. (h.0 e, r.1 h.1))
    by_test false e r = (λ h. (λ t. absurd (false≢true (sym e ∙ t)), r.0 h), λ h. r.1 h.1)

pub within : {X : Type 0} (xs : List X) (i : ℕ) (x : X) → slice_get xs i ≡ Some x → i < length xs
within [] i x e = absurd (cc)
within (y ∷ xs) zero x e = omega arith
within (y ∷ xs) (suc i) x e = let k = within xs i x e in omega (arith, k)

pub something_at : {X : Type 0} (xs : List X) (i : ℕ) → i < length xs → (x : X) × (slice_get xs i ≡ Some x)
something_at [] i l = absurd (omega arith)
something_at (y ∷ xs) zero l = (y, refl)
something_at (y ∷ xs) (suc i) l = something_at xs i (omega arith)

pub got_map : {X Y : Type 0} (f : X → Y) (xs : List X) (i : ℕ) (x : X) → slice_get xs i ≡ Some x → slice_get (map f xs) i ≡ Some (f x)
got_map f [] i x e = absurd (cc)
got_map f (y ∷ xs) zero x e = let k : y ≡ x = cc in ap (λ z. Some (f z)) k
got_map f (y ∷ xs) (suc i) x e = got_map f xs i x e

-- what stands at a number of a list of images
pub record Image {X Y : Type 0} (f : X → Y) (xs : List X) (i : ℕ) (y : Y) : Type 0 where
  pub of : X
  pub there : slice_get xs i ≡ Some of
  pub image : f of ≡ y

pub map_got : {X Y : Type 0} (f : X → Y) (xs : List X) (i : ℕ) (y : Y) → slice_get (map f xs) i ≡ Some y → Image f xs i y
map_got f [] i y e = absurd (cc)
map_got f (x ∷ xs) zero y e = let k : f x ≡ y = cc in record { of = x; there = refl; image = k }
map_got f (x ∷ xs) (suc i) y e = let r = map_got f xs i y e in record { of = r.of; there = r.there; image = r.image }

pub all_at : {X : Type 0} (P : X → Type 0) (xs : List X) (i : ℕ) (x : X) → slice_get xs i ≡ Some x → AllByRecursion P xs → P x
all_at P [] i x e h = absurd (cc)
all_at P (y ∷ xs) zero x e h = let k : y ≡ x = cc in subst P k h.0
all_at P (y ∷ xs) (suc i) x e h = all_at P xs i x e h.1

pub member_at : (xs : List ℕ) (i x : ℕ) → slice_get xs i ≡ Some x → Member xs x
member_at [] i x e = absurd (cc)
member_at (y ∷ xs) zero x e = let k : y ≡ x = cc in inl k
member_at (y ∷ xs) (suc i) x e = inr (member_at xs i x e)

pub place_of_member : (xs : List ℕ) (x : ℕ) → Member xs x → (i : ℕ) × (slice_get xs i ≡ Some x)
place_of_member [] x m = absurd m
place_of_member (y ∷ xs) x (inl e) = (0, ap Some e)
place_of_member (y ∷ xs) x (inr m) = let r = place_of_member xs x m in (suc r.0, r.1)

-- the places that pass a test are numbers of the list
pub places_below : {X : Type 0} (test : X → Bool) (n m : ℕ) (xs : List X) → n + length xs ≤ m → AllByRecursion (λ c. c < m) (places test n xs)
places_below test n m [] l = tt
places_below test n m (x ∷ xs) l = by_test (test x) (places_below test (suc n) m xs (omega arith))
  where
    by_test : (b : Bool) → AllByRecursion (λ c. c < m) (places test (suc n) xs) → AllByRecursion (λ c. c < m) (added b n (places test (suc n) xs))
    by_test true h = (omega arith, h)
    by_test false h = h

-- and so are those of old columns
pub olds_below : (n m : ℕ) (frame : Columns) → n + length frame ≤ m → AllByRecursion (λ o. o.0 < m) (olds_from n frame)
olds_below n m [] l = tt
olds_below n m (v ∷ frame) l = by_column v.0 (olds_below (suc n) m frame (omega arith))
  where
    by_column : (c : Column) → AllByRecursion (λ o. o.0 < m) (olds_from (suc n) frame) → AllByRecursion (λ o. o.0 < m) (old_at c n (olds_from (suc n) frame))
    by_column (Global g) h = h
    by_column (Old g) h = (omega arith, h)
    by_column (Local k) h = h
