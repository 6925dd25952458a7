-- Lists that are made member by member, each member related to the one at its place.
use Rattle.std.proofs.Common.{◌≡◌, ◌∙◌, ◌⊎◌, ℕ, zero, suc, ◌+◌, ◌<◌, List, [], ◌∷◌, ◌++◌, length, get_or, length-append, Option, None, Some, refl, sym, ap, subst, inl, inr, arith}
use Rattle.std.specs.Prelude.{map, slice_get}
use Rattle.std.specs.Option.{option_map, option_and_then}
use Rattle.triple_rows.proofs.ListLaws.{within, something_at, got_map}
use Rattle.proof_names.specs.Pairs.{ArePaired, IsFirstWithout, IsAt}

-- the member at a place that exists
pub is_got : {X : Type 0} (xs : List X) (i : ℕ) (x : X) → i < length xs → x ≡ get_or xs i x → slice_get xs i ≡ Some x
is_got [] i x l e = absurd (omega arith)
is_got (y ∷ ys) zero x l e = ap Some (sym e)
is_got (y ∷ ys) (suc i) x l e = is_got ys i x (omega arith) e

got_last : {X : Type 0} (xs : List X) (x : X) (k : ℕ) (z : X) → slice_get (xs ++ x ∷ []) k ≡ Some z → (slice_get xs k ≡ Some z) ⊎ ((k ≡ length xs) × (x ≡ z))
got_last [] x zero z e = inr (refl, cc)
got_last [] x (suc k) z e = absurd (cc)
got_last (y ∷ ys) x zero z e = inl e
got_last (y ∷ ys) x (suc k) z e = elim (got_last ys x k z e) [ inl h ↦ inl h | inr h ↦ inr (ap suc h.0, h.1) ]

-- the first members of the other list are made
pub record SoFar {X Y : Type 0} (R : ℕ → X → Y → Type 0) (xs : List X) (i : ℕ) (ys : List Y) : Type 0 where
  pub count : length ys ≡ i
  pub related : (k : ℕ) (x : X) (y : Y) → slice_get xs k ≡ Some x → slice_get ys k ≡ Some y → R k x y

pub so_far_on : {X Y : Type 0} (R : ℕ → X → Y → Type 0) (xs : List X) (i : ℕ) (ys more : List Y) (x : X) (y : Y) → SoFar R xs i ys →
    slice_get xs i ≡ Some x → R i x y → more ≡ ys ++ y ∷ [] → SoFar R xs (i + 1) more
so_far_on {X} {Y} R xs i ys more x y h g r e = record {
  count = ap length e ∙ length-append ys (y ∷ []) ∙ ap (λ (n : ℕ). n + 1) h.count;
  related = λ k a b p q. elim (got_last ys y k b (subst (λ (l : List Y). slice_get l k ≡ Some b) e q)) [
    | inl s ↦ h.related k a b p s
    | inr s ↦ last k a b p s.0 s.1
  ];
}
  where
    last : (k : ℕ) (a : X) (b : Y) → slice_get xs k ≡ Some a → k ≡ length ys → y ≡ b → R k a b
    last k a b p s t =
        let j : i ≡ k = sym h.count ∙ sym s in
        let c : x ≡ a = let w : slice_get xs i ≡ Some a = subst (λ (n : ℕ). slice_get xs n ≡ Some a) (sym j) p in cc in
        subst (λ (n : ℕ). R n a b) j (subst (λ (z : Y). R i a z) t (subst (λ (z : X). R i z y) c r))

pub so_far_stops : {X Y : Type 0} (R : ℕ → X → Y → Type 0) (xs : List X) (i : ℕ) (ys : List Y) (x : X) → SoFar R xs i ys → slice_get xs i ≡ Some x →
    ((y : Y) → R i x y → ⊥) → IsFirstWithout R xs i
so_far_stops R xs i ys x h g none = record {
  member = x;
  stands = g;
  none = none;
  before = λ j a l e. let c = h.count in let w = something_at ys j (omega (arith, l, c)) in (w.0, h.related j a w.0 e w.1);
}

pub stops_at : {X Y : Type 0} (R : ℕ → X → Y → Type 0) (xs : List X) (first item i : ℕ) → item ≡ first + i → IsFirstWithout R xs i → IsAt R xs first item
stops_at R xs first item i e h = record { place = i; counted = e; is_first = h }

-- ---- the same where the members are seen by a view

pub so_far_mapped : {W X Y : Type 0} (f : W → X) (R : ℕ → X → Y → Type 0) (ws : List W) (i : ℕ) (ys more : List Y) (w : W) (y : Y) → SoFar R (map f ws) i ys →
    i < length ws → w ≡ get_or ws i w → R i (f w) y → more ≡ ys ++ y ∷ [] → SoFar R (map f ws) (i + 1) more
so_far_mapped f R ws i ys more w y h l e r m = so_far_on R (map f ws) i ys more (f w) y h (got_map f ws i w (is_got ws i w l e)) r m

pub stops_mapped : {W X Y : Type 0} (f : W → X) (R : ℕ → X → Y → Type 0) (ws : List W) (first item i : ℕ) (ys : List Y) (w : W) → SoFar R (map f ws) i ys →
    i < length ws → w ≡ get_or ws i w → ((y : Y) → R i (f w) y → ⊥) → item ≡ first + i → IsAt R (map f ws) first item
stops_mapped f R ws first item i ys w h l e n c = stops_at R (map f ws) first item i c (so_far_stops R (map f ws) i ys (f w) h (got_map f ws i w (is_got ws i w l e)) n)

-- ---- what stands at a place of the other list

by_values : {X Y Z : Type 0} (f : X → Option Z) (h : Y → Z) (R : ℕ → X → Y → Type 0) (xs : List X) (ys : List Y) (k : ℕ) →
    ((x : X) (y : Y) → R k x y → f x ≡ Some (h y)) → ArePaired R xs ys → (o : Option X) (p : Option Y) → slice_get xs k ≡ o → slice_get ys k ≡ p →
    option_map h p ≡ option_and_then f o
by_values f h R xs ys k s a None None e g = refl
by_values f h R xs ys k s a None (Some y) e g =
    let l = within ys k y g in let c = a.count in let w = something_at xs k (omega (arith, l, c)) in
    let no : ⊥ = let v = w.1 in cc in absurd no
by_values f h R xs ys k s a (Some x) None e g =
    let l = within xs k x e in let c = a.count in let w = something_at ys k (omega (arith, l, c)) in
    let no : ⊥ = let v = w.1 in cc in absurd no
by_values f h R xs ys k s a (Some x) (Some y) e g = sym (s x y (a.related k x y e g))

-- what is related to a member is what the member gives
pub same_at : {X Y Z : Type 0} (f : X → Option Z) (h : Y → Z) (R : ℕ → X → Y → Type 0) (xs : List X) (ys : List Y) →
    ((k : ℕ) (x : X) (y : Y) → R k x y → f x ≡ Some (h y)) → ArePaired R xs ys → (k : ℕ) → option_map h (slice_get ys k) ≡ option_and_then f (slice_get xs k)
same_at f h R xs ys s a k = by_values f h R xs ys k (s k) a (slice_get xs k) (slice_get ys k) refl refl

pub map_same : {X : Type 0} (o : Option X) → option_map (λ x. x) o ≡ o
map_same None = refl
map_same (Some x) = refl

pub got_of_map : {X Y : Type 0} (f : X → Y) (xs : List X) (k : ℕ) → slice_get (map f xs) k ≡ option_map f (slice_get xs k)
got_of_map f [] k = refl
got_of_map f (x ∷ xs) zero = refl
got_of_map f (x ∷ xs) (suc k) = got_of_map f xs k
