-- Lists made member by member, and lists in which no two are the same.
use Rattle.std.proofs.Common.{◌≡◌, ℕ, zero, suc, Bool, true, false, not, ◌&&◌, ◌||◌, List, [], ◌∷◌, ◌++◌, map, Option, None, Some, slice_get, option_map, option_and_then, refl, ap, ap₂, sym, ◌∙◌, subst}
use Rattle.std.specs.List.{list_all, list_any}
use Rattle.std.proofs.lemmas.Bool.{and_parts, and_from, or_parts, or_from, not_from_false}
use Rattle.std.proofs.lemmas.List.Folds.{list_all-append, list_any-append}
use Rattle.std.proofs.lemmas.Option.{same_Some}
use Rattle.typed_tree.specs.TypingRules.Rules.{all_differ}
use Rattle.boogie_types.specs.Naming.{each, from_both}
use Rattle.boogie_types.proofs.Differ.{all_differ-head}

-- ---- what a result says of the parts that it was made from

pub option_map_some : {X Y : Type 0} (f : X → Y) (o : Option X) (y : Y) → option_map f o ≡ Some y → (x : X) × (o ≡ Some x) × (f x ≡ y)
option_map_some f None y e = cc
option_map_some f (Some x) y e = (x, refl, same_Some (f x) y e)

pub option_and_then_some : {X Y : Type 0} (f : X → Option Y) (o : Option X) (y : Y) → option_and_then f o ≡ Some y → (x : X) × (o ≡ Some x) × (f x ≡ Some y)
option_and_then_some f None y e = cc
option_and_then_some f (Some x) y e = (x, refl, e)

pub both_some : {X Y Z : Type 0} (f : X → Y → Z) (x : Option X) (y : Option Y) (z : Z) → from_both f x y ≡ Some z →
    (a : X) × (b : Y) × (x ≡ Some a) × (y ≡ Some b) × (f a b ≡ z)
both_some f None y z e = cc
both_some f (Some a) None z e = cc
both_some f (Some a) (Some b) z e = (a, b, refl, refl, same_Some (f a b) z e)

-- ---- each, where there is one for each

pub each_parts : {X Y : Type 0} (f : X → Option Y) (x : X) (xs : List X) (zs : List Y) → each f (x ∷ xs) ≡ Some zs →
    (y : Y) × (ys : List Y) × (f x ≡ Some y) × (each f xs ≡ Some ys) × (zs ≡ y ∷ ys)
each_parts {X} {Y} f x xs zs e =
    let p : (y : Y) × (f x ≡ Some y) × (option_map (λ ys. y ∷ ys) (each f xs) ≡ Some zs) =
    option_and_then_some (λ y. option_map (λ ys. y ∷ ys) (each f xs)) (f x) zs e in
    let q : (ys : List Y) × (each f xs ≡ Some ys) × (p.0 ∷ ys ≡ zs) = option_map_some (λ ys. p.0 ∷ ys) (each f xs) zs p.2 in
    (p.0, q.0, p.1, q.1, sym q.2)

each_cons_by : {X Y : Type 0} (f : X → Option Y) (x : X) (xs : List X) (o : Option Y) (r : Option (List Y)) (y : Y) (ys : List Y) → f x ≡ o → each f xs ≡ r →
    o ≡ Some y → r ≡ Some ys → option_and_then (λ y. option_map (λ ys. y ∷ ys) r) o ≡ Some (y ∷ ys)
each_cons_by f x xs None r y ys p q g h = cc
each_cons_by f x xs (Some z) None y ys p q g h = cc
each_cons_by f x xs (Some z) (Some zs) y ys p q g h = cc

pub each_cons : {X Y : Type 0} (f : X → Option Y) (x : X) (xs : List X) (y : Y) (ys : List Y) → f x ≡ Some y → each f xs ≡ Some ys → each f (x ∷ xs) ≡ Some (y ∷ ys)
each_cons f x xs y ys g h = each_cons_by f x xs (f x) (each f xs) y ys refl refl g h

-- what holds of each result where the members pass a test
pub each_all : {X Y : Type 0} (f : X → Option Y) (q : X → Bool) (t : Y → Bool) → ((x : X) (y : Y) → q x ≡ true → f x ≡ Some y → t y ≡ true) →
    (xs : List X) (ys : List Y) → list_all q xs ≡ true → each f xs ≡ Some ys → list_all t ys ≡ true
each_all f q t h [] ys a e = let n : ys ≡ [] = cc in rw n refl
each_all {X} {Y} f q t h (x ∷ xs) ys a e =
    let p = each_parts f x xs ys e in
    let b = and_parts (q x) (list_all q xs) a in
    let n : list_all t (p.0 ∷ p.1) ≡ true = and_from (t p.0) (list_all t p.1) (h x p.0 b.0 p.2) (each_all f q t h xs p.1 b.1 p.3) in
    subst (λ (zs : List Y). list_all t zs ≡ true) (sym p.4) n

-- what each result keeps of its member
pub each_map : {X Y Z : Type 0} (f : X → Option Y) (g : X → Z) (h : Y → Z) → ((x : X) (y : Y) → f x ≡ Some y → h y ≡ g x) →
    (xs : List X) (ys : List Y) → each f xs ≡ Some ys → map h ys ≡ map g xs
each_map f g h k [] ys e = let n : ys ≡ [] = cc in rw n refl
each_map {X} {Y} {Z} f g h k (x ∷ xs) ys e =
    let p = each_parts f x xs ys e in
    let n : map h (p.0 ∷ p.1) ≡ map g (x ∷ xs) = ap₂ (λ (z : Z) (zs : List Z). z ∷ zs) (k x p.0 p.2) (each_map f g h k xs p.1 p.3) in
    subst (λ (zs : List Y). map h zs ≡ map g (x ∷ xs)) (sym p.4) n

-- what stands at a number
pub each_at : {X Y Z : Type 0} (f : X → Option Y) (g : Option X → Z) (h : Option Y → Z) → h None ≡ g None → ((x : X) (y : Y) → f x ≡ Some y → h (Some y) ≡ g (Some x)) →
    (xs : List X) (ys : List Y) → each f xs ≡ Some ys → (n : ℕ) → h (slice_get ys n) ≡ g (slice_get xs n)
each_at f g h none k [] ys e n = let m : ys ≡ [] = cc in rw m none
each_at {X} {Y} {Z} f g h none k (x ∷ xs) ys e n =
    let p = each_parts f x xs ys e in
    subst (λ (zs : List Y). h (slice_get zs n) ≡ g (slice_get (x ∷ xs) n)) (sym p.4) (at n p.0 p.1 p.2 (each_at f g h none k xs p.1 p.3))
  where
    at : (n : ℕ) (y : Y) (ys : List Y) → f x ≡ Some y → ((m : ℕ) → h (slice_get ys m) ≡ g (slice_get xs m)) → h (slice_get (y ∷ ys) n) ≡ g (slice_get (x ∷ xs) n)
    at zero y ys e rest = k x y e
    at (suc m) y ys e rest = rest m

pub each_append : {X Y : Type 0} (f : X → Option Y) (xs vs : List X) (ys ws : List Y) → each f xs ≡ Some ys → each f vs ≡ Some ws → each f (xs ++ vs) ≡ Some (ys ++ ws)
each_append f [] vs ys ws e d = let n : ys ≡ [] = cc in rw n d
each_append {X} {Y} f (x ∷ xs) vs ys ws e d =
    let p = each_parts f x xs ys e in
    subst (λ (zs : List Y). each f (x ∷ (xs ++ vs)) ≡ Some (zs ++ ws)) (sym p.4)
    (each_cons f x (xs ++ vs) p.0 (p.1 ++ ws) p.2 (each_append f xs vs p.1 ws p.3 d))

-- the same of each that the test tells from x
pub each_apart : {X Y : Type 0} (f g : X → Option Y) (t : X → Bool) → ((x : X) → t x ≡ false → f x ≡ g x) → (xs : List X) → list_any t xs ≡ false → each f xs ≡ each g xs
each_apart f g t h [] n = refl
each_apart {X} {Y} f g t h (x ∷ xs) n =
    let p = or_parts (t x) (list_any t xs) n in
    ap₂ (λ (o : Option Y) (r : Option (List Y)). option_and_then (λ y. option_map (λ ys. y ∷ ys) r) o) (h x p.0) (each_apart f g t h xs p.1)

-- ---- all that pass a test

pub all_weaker : {X : Type 0} (q t : X → Bool) → ((x : X) → q x ≡ true → t x ≡ true) → (xs : List X) → list_all q xs ≡ true → list_all t xs ≡ true
all_weaker q t h [] a = refl
all_weaker q t h (x ∷ xs) a =
    let b = and_parts (q x) (list_all q xs) a in
    and_from (t x) (list_all t xs) (h x b.0) (all_weaker q t h xs b.1)

pub all_both : {X : Type 0} (q t : X → Bool) (xs : List X) → list_all q xs ≡ true → list_all t xs ≡ true → list_all (λ x. q x && t x) xs ≡ true
all_both q t [] a b = refl
all_both q t (x ∷ xs) a b =
    let c = and_parts (q x) (list_all q xs) a in
    let d = and_parts (t x) (list_all t xs) b in
    and_from (q x && t x) (list_all (λ y. q y && t y) xs) (and_from (q x) (t x) c.0 d.0) (all_both q t xs c.1 d.1)

pub all_append_parts : {X : Type 0} (t : X → Bool) (xs ys : List X) → list_all t (xs ++ ys) ≡ true → (list_all t xs ≡ true) × (list_all t ys ≡ true)
all_append_parts t xs ys a = and_parts (list_all t xs) (list_all t ys) (sym (list_all-append t xs ys) ∙ a)

pub all_append : {X : Type 0} (t : X → Bool) (xs ys : List X) → list_all t xs ≡ true → list_all t ys ≡ true → list_all t (xs ++ ys) ≡ true
all_append t xs ys a b = list_all-append t xs ys ∙ and_from (list_all t xs) (list_all t ys) a b

-- ---- lists in which no two are the same

pub list_any-map : {X Y : Type 0} (t : Y → Bool) (g : X → Y) (xs : List X) → list_any t (map g xs) ≡ list_any (λ x. t (g x)) xs
list_any-map t g [] = refl
list_any-map t g (x ∷ xs) = ap (λ (b : Bool). t (g x) || b) (list_any-map t g xs)

pub all_differ-map : {X Y : Type 0} (same : Y → Y → Bool) (g : X → Y) (xs : List X) → all_differ same (map g xs) ≡ all_differ (λ x y. same (g x) (g y)) xs
all_differ-map same g [] = refl
all_differ-map same g (x ∷ xs) =
    ap₂ (λ (a b : Bool). not a && b) (list_any-map (same (g x)) g xs) (all_differ-map same g xs)

pub all_differ_cons : {X : Type 0} (same : X → X → Bool) (x : X) (xs : List X) → list_any (same x) xs ≡ false → all_differ same xs ≡ true → all_differ same (x ∷ xs) ≡ true
all_differ_cons same x xs n h = and_from (not (list_any (same x) xs)) (all_differ same xs) (not_from_false (list_any (same x) xs) n) h

-- two such lists, no member of the one like a member of the other
pub all_differ_append : {X : Type 0} (same : X → X → Bool) (q : X → Bool) (xs ys : List X) → ((x : X) → q x ≡ true → list_any (same x) ys ≡ false) → list_all q xs ≡ true →
    all_differ same xs ≡ true → all_differ same ys ≡ true → all_differ same (xs ++ ys) ≡ true
all_differ_append same q [] ys apart a d e = e
all_differ_append same q (x ∷ xs) ys apart a d e =
    let b = and_parts (q x) (list_all q xs) a in
    let p = all_differ-head same x xs d in
    all_differ_cons same x (xs ++ ys)
    (list_any-append (same x) xs ys ∙ or_from (list_any (same x) xs) (list_any (same x) ys) p.0 (apart x b.0))
    (all_differ_append same q xs ys apart b.1 p.1 e)

-- ---- two changes, one after the other

pub map-map : {X Y Z : Type 0} (g : Y → Z) (f : X → Y) (xs : List X) → map g (map f xs) ≡ map (λ x. g (f x)) xs
map-map g f [] = refl
map-map {X} {Y} {Z} g f (x ∷ xs) = ap (λ (zs : List Z). g (f x) ∷ zs) (map-map g f xs)
