-- Systems, opened by one level: when a point meets one, and when one is a copy of another.
use Rattle.std.proofs.Common.{◌≡◌, ◌↔◌, ℕ, ◌+◌, ◌<◌, ℤ, List, [], ◌∷◌, ◌++◌, length, map, take, get_or, ap, refl, sym, ◌∙◌, subst, inl, inr, ◌⊎◌}
use Rattle.std.specs.declared.vec.Vec.{Vec}
use Rattle.std.specs.declared.alloc.Global.{Global}
use Rattle.std.specs.List.{AllByRecursion}
use Rattle.std.specs.formers.vec.Vec.{mapped}
use Rattle.std.proofs.lemmas.List.{take_more}
use mathlib.Core.Former.{this}
use Rattle.lin_rows.specs.declared.systems.System.{System, System-F, out-System, roll-System, roll-out-System, out-roll-System, rec-roll-System}
use Rattle.lin_rows.specs.Rows.{Holds}
use Rattle.lin_rows.specs.Systems.{SomeMember, EachHasMember, members_of, HoldsAll, Meets, rows_of, groups_of, RelatedInPairs, SaysSame, IsCopy}

-- ---- when a point meets a system

SomeMember-map : {X Y : Type 0} (P : Y → Type 0) (f : X → Y) (xs : List X) → SomeMember (λ x. P (f x)) xs ≡ SomeMember P (map f xs)
SomeMember-map P f [] = refl
SomeMember-map P f (x ∷ xs) = λ i. P (f x) ⊎ SomeMember-map P f xs i

EachHasMember-mapped : {X : Type 0} (P : System → Type 0) (f : X → System) (gs : List (Vec X Global)) →
    EachHasMember (λ x. P (f x)) (members_of gs) ≡ EachHasMember P (members_of (map (mapped {H = Global} ((this {0}).map X System f)) gs))
EachHasMember-mapped P f [] = refl
EachHasMember-mapped P f (g ∷ gs) = λ i. SomeMember-map P f g.items i × EachHasMember-mapped P f gs i

-- a point meets a system where its rows hold, and each group has a member that the point meets
pub opened : (point : ℕ → ℤ) (s : System) → Meets point s ≡ HoldsAll (Meets point) point (rows_of s) (groups_of s)
opened point s =
    ap (Meets point) (sym (roll-out-System s)) ∙
    rec-roll-System (Type 0) (λ X is meets s. HoldsAll meets point s.rows.items (members_of s.groups.items))
    (λ X f P s i. AllByRecursion (Holds point) s.rows.items × EachHasMember-mapped P f s.groups.items i) (out-System s)

pub meets_open : (point : ℕ → ℤ) (s : System) → Meets point s → HoldsAll (Meets point) point (rows_of s) (groups_of s)
meets_open point s m = subst (λ (T : Type 0). T) (opened point s) m

pub meets_close : (point : ℕ → ℤ) (s : System) → HoldsAll (Meets point) point (rows_of s) (groups_of s) → Meets point s
meets_close point s m = subst (λ (T : Type 0). T) (sym (opened point s)) m

-- ---- when two systems say the same

RelatedInPairs-map : {X Y Z : Type 0} (R : Y → Z → Type 0) (f : X → Y) (xs : List X) (zs : List Z) →
    RelatedInPairs (λ x z. R (f x) z) xs zs ≡ RelatedInPairs R (map f xs) zs
RelatedInPairs-map R f [] [] = refl
RelatedInPairs-map R f [] (z ∷ zs) = refl
RelatedInPairs-map R f (x ∷ xs) [] = refl
RelatedInPairs-map R f (x ∷ xs) (z ∷ zs) = λ i. R (f x) z × RelatedInPairs-map R f xs zs i

RelatedInPairs-mapped : {X : Type 0} (R : System → System → Type 0) (f : X → System) (gs : List (Vec X Global)) (hs : List (List System)) →
    RelatedInPairs (RelatedInPairs (λ x s. R (f x) s)) (members_of gs) hs ≡
    RelatedInPairs (RelatedInPairs R) (members_of (map (mapped {H = Global} ((this {0}).map X System f)) gs)) hs
RelatedInPairs-mapped R f [] [] = refl
RelatedInPairs-mapped R f [] (h ∷ hs) = refl
RelatedInPairs-mapped R f (g ∷ gs) [] = refl
RelatedInPairs-mapped R f (g ∷ gs) (h ∷ hs) = λ i. RelatedInPairs-map R f g.items h i × RelatedInPairs-mapped R f gs hs i

same_opened : (a b : System) → SaysSame a b ≡ ((rows_of a ≡ rows_of b) × RelatedInPairs (RelatedInPairs SaysSame) (groups_of a) (groups_of b))
same_opened a b =
    ap (λ (s : System). SaysSame s b) (sym (roll-out-System a)) ∙
    ap (λ (f : System → Type 0). f b) (rec-roll-System (System → Type 0)
    (λ X is same a b. (a.rows.items ≡ rows_of b) × RelatedInPairs (RelatedInPairs same) (members_of a.groups.items) (groups_of b))
    (λ X f R a i b. (a.rows.items ≡ rows_of b) × RelatedInPairs-mapped R f a.groups.items (groups_of b) i) (out-System a))

pub same_open : (a b : System) → SaysSame a b → (rows_of a ≡ rows_of b) × RelatedInPairs (RelatedInPairs SaysSame) (groups_of a) (groups_of b)
same_open a b h = subst (λ (T : Type 0). T) (same_opened a b) h

-- ---- copies

-- a relation that follows from another
RelatedInPairs-weaker : {X Y : Type 0} (R S : X → Y → Type 0) (xs : List X) (ys : List Y) → ((x : X) (y : Y) → R x y → S x y) → RelatedInPairs R xs ys → RelatedInPairs S xs ys
RelatedInPairs-weaker R S [] [] f h = tt
RelatedInPairs-weaker R S [] (y ∷ ys) f h = h
RelatedInPairs-weaker R S (x ∷ xs) [] f h = h
RelatedInPairs-weaker R S (x ∷ xs) (y ∷ ys) f h = (f x y h.0, RelatedInPairs-weaker R S xs ys f h.1)

some_of_copies : (point : ℕ → ℤ) (xs ys : List System) → RelatedInPairs IsCopy xs ys → SomeMember (Meets point) ys ↔ SomeMember (Meets point) xs
some_of_copies point [] [] h = (λ k. k, λ k. k)
some_of_copies point [] (y ∷ ys) h = absurd h
some_of_copies point (x ∷ xs) [] h = absurd h
some_of_copies point (x ∷ xs) (y ∷ ys) h = (to h (some_of_copies point xs ys h.1), from h (some_of_copies point xs ys h.1))
  where
    to : RelatedInPairs IsCopy (x ∷ xs) (y ∷ ys) → SomeMember (Meets point) ys ↔ SomeMember (Meets point) xs → SomeMember (Meets point) (y ∷ ys) → SomeMember (Meets point) (x ∷ xs)
    to h r (inl m) = inl ((h.0.same_points point).0 m)
    to h r (inr m) = inr (r.0 m)

    from : RelatedInPairs IsCopy (x ∷ xs) (y ∷ ys) → SomeMember (Meets point) ys ↔ SomeMember (Meets point) xs → SomeMember (Meets point) (x ∷ xs) → SomeMember (Meets point) (y ∷ ys)
    from h r (inl m) = inl ((h.0.same_points point).1 m)
    from h r (inr m) = inr (r.1 m)

each_of_copies : (point : ℕ → ℤ) (gs hs : List (List System)) → RelatedInPairs (RelatedInPairs IsCopy) gs hs → EachHasMember (Meets point) hs ↔ EachHasMember (Meets point) gs
each_of_copies point [] [] h = (λ k. k, λ k. k)
each_of_copies point [] (k ∷ ks) h = absurd h
each_of_copies point (g ∷ gs) [] h = absurd h
each_of_copies point (g ∷ gs) (k ∷ ks) h =
    let s = some_of_copies point g k h.0 in
    let r = each_of_copies point gs ks h.1 in
    (λ m. (s.0 m.0, r.0 m.1), λ m. (s.1 m.0, r.1 m.1))

-- equal rows, and copies of the members, make a copy
pub copy_is : (a b : System) → rows_of b ≡ rows_of a → RelatedInPairs (RelatedInPairs IsCopy) (groups_of a) (groups_of b) → IsCopy a b
copy_is a b e h = record {
  says_same = subst (λ (T : Type 0). T) (sym (same_opened a b)) (
    sym e,
    RelatedInPairs-weaker (RelatedInPairs IsCopy) (RelatedInPairs SaysSame) (groups_of a) (groups_of b)
        (λ xs ys k. RelatedInPairs-weaker IsCopy SaysSame xs ys (λ x y c. c.says_same) k) h,
  );
  same_points = λ point.
      let r = each_of_copies point (groups_of a) (groups_of b) h in (
        λ m. let o = meets_open point b m in meets_close point a (subst (AllByRecursion (Holds point)) e o.0, r.0 o.1),
        λ m. let o = meets_open point a m in meets_close point b (subst (AllByRecursion (Holds point)) (sym e) o.0, r.1 o.1),
      );
}

-- ---- one more

pub members_of-append : {X : Type 0} (gs hs : List (Vec X Global)) → members_of (gs ++ hs) ≡ members_of gs ++ members_of hs
members_of-append [] hs = refl
members_of-append (g ∷ gs) hs = ap (λ (ls : List (List _)). g.items ∷ ls) (members_of-append gs hs)

RelatedInPairs-append : {X Y : Type 0} (R : X → Y → Type 0) (xs : List X) (ys : List Y) (x : X) (y : Y) → RelatedInPairs R xs ys → R x y → RelatedInPairs R (xs ++ x ∷ []) (ys ++ y ∷ [])
RelatedInPairs-append R [] [] x y h r = (r, tt)
RelatedInPairs-append R [] (v ∷ vs) x y h r = absurd h
RelatedInPairs-append R (u ∷ us) [] x y h r = absurd h
RelatedInPairs-append R (u ∷ us) (v ∷ vs) x y h r = (h.0, RelatedInPairs-append R us vs x y h.1 r)

-- one pair more, at the place i
pub pairs_more : {X Y : Type 0} (R : X → Y → Type 0) (xs : List X) (ys : List Y) (i : ℕ) (d : X) (y : Y) → i < length xs →
    RelatedInPairs R (take i xs) ys → R (get_or xs i d) y → RelatedInPairs R (take (i + 1) xs) (ys ++ y ∷ [])
pairs_more R xs ys i d y l h r =
    subst (λ (zs : List _). RelatedInPairs R zs (ys ++ y ∷ [])) (sym (take_more xs i d l)) (RelatedInPairs-append R (take i xs) ys (get_or xs i d) y h r)

-- the same for groups
pub group_pairs_more : (R : System → System → Type 0) (gs hs : List (Vec System Global)) (i : ℕ) (d h : Vec System Global) → i < length gs →
    RelatedInPairs (RelatedInPairs R) (members_of (take i gs)) (members_of hs) → RelatedInPairs R (get_or gs i d).items h.items →
    RelatedInPairs (RelatedInPairs R) (members_of (take (i + 1) gs)) (members_of (hs ++ h ∷ []))
group_pairs_more R gs hs i d h l p r =
    rw (take_more gs i d l, members_of-append (take i gs) (get_or gs i d ∷ []), members_of-append hs (h ∷ []))
    (RelatedInPairs-append (RelatedInPairs R) (members_of (take i gs)) (members_of hs) (get_or gs i d).items h.items p r)

-- the system of these rows and groups is a copy
pub copy_of_parts : (a : System) (f : System-F System) → f.rows.items ≡ rows_of a → RelatedInPairs (RelatedInPairs IsCopy) (groups_of a) (members_of f.groups.items) → IsCopy a (roll-System f)
copy_of_parts a f e h =
    copy_is a (roll-System f) (ap (λ (g : System-F System). g.rows.items) (out-roll-System f) ∙ e)
    (subst (λ (g : System-F System). RelatedInPairs (RelatedInPairs IsCopy) (groups_of a) (members_of g.groups.items)) (sym (out-roll-System f)) h)
