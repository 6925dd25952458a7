-- Sites: numbered in order, at places that ascend or differ.
use Rattle.std.proofs.Common.{◌≡◌, ◌↔◌, ℕ, zero, suc, ◌+◌, ◌-◌, ◌<◌, ◌≤◌, List, [], ◌∷◌, map, length, drop, get_or, refl, sym, ap, subst, inl, inr, arith}
use Rattle.std.specs.List.{AllByRecursion}
use Rattle.std.proofs.lemmas.List.{drop_more}
use Rattle.nwa_base.specs.Members.{Member, SameMembers}
use Rattle.letter_acts.specs.declared.sites.Site.{Site}
use Rattle.letter_acts.specs.Invariant.{AreDistinct, AreNumbered, site_places}
use Rattle.letter_acts.proofs.ListLemmas.{below_or_from, all_member, all_from_members}

pub numbered_step : (Q : Type 0) (sites : List Site) (i : ℕ) (d : Site) → i < length sites → (get_or sites i d).id.number ≡ i + 1 →
    (AreNumbered (i + 1) (drop i sites) ↔ Q) → AreNumbered (i + 1 + 1) (drop (i + 1) sites) ↔ Q
numbered_step Q sites i d l e h =
    let k = rw (drop_more sites i d l) at h in
    let next : i + 1 + 1 ≡ suc (i + 1) = omega arith in
    let Left : ℕ → Type 0 = λ n. AreNumbered n (drop (i + 1) sites) in
    (λ a. k.0 (e, subst Left next a), λ q. subst Left (sym next) (k.1 q).1)

-- where each number is above the one before it, those after a number are above it
above : (x y : ℕ) (xs : List ℕ) → ((k j : ℕ) → j ≡ suc k → j < suc (length xs) → get_or (x ∷ xs) k 0 < get_or (x ∷ xs) j 0) → Member xs y → x < y
above x y [] a m = absurd m
above x y (z ∷ zs) a (inl e) = let l : x < z = a zero 1 refl (omega arith) in omega (arith, l, e)
above x y (z ∷ zs) a (inr m) =
    let l : x < z = a zero 1 refl (omega arith) in
    let r : z < y = above z y zs (λ k j e b. a (suc k) (suc j) (ap suc e) (omega arith)) m in
    omega (arith, l, r)

distinct_ascending : (xs : List ℕ) → ((k j : ℕ) → j ≡ suc k → j < length xs → get_or xs k 0 < get_or xs j 0) → AreDistinct xs
distinct_ascending [] a = tt
distinct_ascending (x ∷ xs) a =
    (λ m. let l : x < x = above x x xs a m in omega (arith, l), distinct_ascending xs (λ k j e b. a (suc k) (suc j) (ap suc e) (omega arith)))

-- numbers that ascend differ
pub ascending_differ : (xs : List ℕ) → ((k : ℕ) → k + 1 < length xs → get_or xs k 0 < get_or xs (k + 1) 0) → AreDistinct xs
ascending_differ xs a =
    distinct_ascending xs (λ k j e b.
    let next : k + 1 ≡ j = omega arith in
    let l : k + 1 < length xs = omega arith in
    subst (λ (n : ℕ). get_or xs k 0 < get_or xs n 0) next (a k l))

-- lists of one length, member by member
pub same_places : (sites : List Site) (places : List ℕ) (d : Site) → length sites ≡ length places →
    ((k : ℕ) → k < length sites → (get_or sites k d).place ≡ get_or places k 0) → site_places sites ≡ places
same_places [] [] d e h = refl
same_places [] (p ∷ ps) d e h = absurd (omega arith)
same_places (s ∷ ss) [] d e h = absurd (omega arith)
same_places (s ∷ ss) (p ∷ ps) d e h =
    let l : length ss ≡ length ps = omega arith in
    let tail : map (λ s. s.place) ss ≡ ps = same_places ss ps d l (λ k b. h (suc k) (omega arith)) in
    let head : s.place ≡ p = h zero (omega arith) in
    cc (head, tail)

pub place_here : (sites : List Site) (places : List ℕ) (d : Site) (i : ℕ) → i < length sites → site_places sites ≡ places → (get_or sites i d).place ≡ get_or places i 0
place_here [] places d i l e = absurd (omega (arith, l))
place_here (s ∷ ss) places d zero l e = ap (λ ps. get_or ps zero 0) e
place_here (s ∷ ss) [] d (suc i) l e = absurd (cc e)
place_here (s ∷ ss) (p ∷ ps) d (suc i) l e = place_here ss ps d i (omega arith) (cc e)

pub place_count : (sites : List Site) → length (site_places sites) ≡ length sites
place_count [] = refl
place_count (s ∷ ss) = ap suc (place_count ss)

-- the same places are equal as sets
pub same_sets : (xs ys : List ℕ) → xs ≡ ys → SameMembers xs ys
same_sets xs ys e = record {
  there = λ x m. subst (λ (zs : List ℕ). Member zs x) e m;
  back = λ x m. subst (λ (zs : List ℕ). Member zs x) (sym e) m;
}

pub member_images : (sites : List Site) (p : ℕ) → Member (site_places sites) p → (s : Site) × Member sites s × (s.place ≡ p)
member_images [] p m = absurd m
member_images (s ∷ ss) p (inl e) = (s, inl refl, e)
member_images (s ∷ ss) p (inr m) = let r = member_images ss p m in (r.0, inr r.1, r.2)

pub image_member : (sites : List Site) (s : Site) → Member sites s → Member (site_places sites) s.place
image_member [] s m = absurd m
image_member (z ∷ zs) s (inl e) = inl (ap (λ k. k.place) e)
image_member (z ∷ zs) s (inr m) = inr (image_member zs s m)

pub sets_from_all : (sites : List Site) (finals : List ℕ) → AllByRecursion (λ s. Member finals s.place) sites → AllByRecursion (λ q. Member (site_places sites) q) finals →
    SameMembers (site_places sites) finals
sets_from_all sites finals a b = record {
  there = λ x m. let r = member_images sites x m in subst (Member finals) r.2 (all_member (λ s. Member finals s.place) sites r.0 r.1 a);
  back = λ x m. all_member (λ q. Member (site_places sites) q) finals x m b;
}

pub all_from_sets : (sites : List Site) (finals : List ℕ) → SameMembers (site_places sites) finals →
    AllByRecursion (λ s. Member finals s.place) sites × AllByRecursion (λ q. Member (site_places sites) q) finals
all_from_sets sites finals h =
    (all_from_members (λ s. Member finals s.place) sites (λ s m. h.there s.place (image_member sites s m)), all_from_members (λ q. Member (site_places sites) q) finals (λ q m. h.back q m))

-- one number more is above the one before it
pub ascend_step : (xs : List ℕ) (i : ℕ) → 1 ≤ i → get_or xs (i - 1) 0 < get_or xs i 0 → ((k : ℕ) → k + 1 < i → get_or xs k 0 < get_or xs (k + 1) 0) →
    (k : ℕ) → k + 1 < i + 1 → get_or xs k 0 < get_or xs (k + 1) 0
ascend_step xs i b l h k m =
    elim (below_or_from (k + 1) i) [
      | inl n ↦ h k n
      | inr n ↦
          let here : i ≡ k + 1 = omega (arith, n.1) in
          let before : i - 1 ≡ k = omega arith in
          subst (λ (j : ℕ). get_or xs j 0 < get_or xs (k + 1) 0) before (subst (λ (j : ℕ). get_or xs (i - 1) 0 < get_or xs j 0) here l)
    ]
