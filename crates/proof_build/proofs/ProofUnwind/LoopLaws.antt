-- Loops, each turn of which goes on from what the turns before have made.
use Rattle.std.proofs.Common.{◌≡◌, ℕ, ◌+◌, ◌<◌, ◌≤◌, ◌&&◌, eqb, eq-eqb, List, [], ◌∷◌, ◌++◌, length, take, get_or, refl, sym, subst, inl, inr}
use Rattle.std.proofs.lemmas.Bool.{eqb-true}
use Rattle.std.proofs.lemmas.List.{take_more, take_all}
use Rattle.std.specs.List.{AllByRecursion}
use Rattle.nwa_base.specs.declared.letters.Letter.{Letter}
use Rattle.nwa_base.specs.Members.{Member}
use Rattle.nwa_base.specs.Edges.{leaving, entering, backs_leaving, backs_between}
use Rattle.nwa_base.proofs.LetterLemmas.{and_left, and_right, and_both}
use Rattle.nwa_base.proofs.MemberLemmas.{member_at, member_split, member_filter, filter_member}

-- what holds of each element of a list
abbrev pub Each : {X : Type 0} → List X → (X → Type 0) → Type 0
Each {X} xs P = (x : X) → Member xs x → P x

-- how far a loop went on along the first elements of a list
pub record Followed {S X : Type 0} (R : S → S → Type 0) (P : S → X → Type 0) (old new : S) (front : List X) : Type 0 where
  pub goes : R old new
  pub each : Each front (P new)

pub followed_none : {S X : Type 0} (R : S → S → Type 0) (P : S → X → Type 0) (s : S) (xs : List X) → R s s → Followed R P s s (take 0 xs)
followed_none R P s xs v = record { goes = v; each = λ x h. absurd h }

each_more : {X : Type 0} (xs : List X) (y : X) (P Q : X → Type 0) → Each xs P → ((x : X) → P x → Q x) → Q y → Each (xs ++ y ∷ []) Q
each_more xs y P Q h f g x m = elim (member_split xs (y ∷ []) x m) [ inl a ↦ f x (h x a) | inr b ↦ elim b [ inl e ↦ subst Q e g | inr n ↦ absurd n ] ]

pub followed_more : {S X : Type 0} (R : S → S → Type 0) (P : S → X → Type 0) (a b c : S) (xs : List X) (i : ℕ) (d : X) →
    ((s t u : S) → R s t → R t u → R s u) → ((s t : S) (x : X) → R a s → R s t → P s x → P t x) → i < length xs →
    Followed R P a b (take i xs) → R b c → P c (get_or xs i d) → Followed R P a c (take (i + 1) xs)
followed_more {S} {X} R P a b c xs i d on stays l f g h = record {
  goes = on a b c f.goes g;
  each =
      subst (λ (front : List X). Each front (P c)) (sym (take_more xs i d l))
      (each_more (take i xs) (get_or xs i d) (P b) (P c) f.each (λ x p. stays b c x f.goes g p) h);
}

pub followed_all : {S X : Type 0} (R : S → S → Type 0) (P : S → X → Type 0) (a b : S) (xs : List X) (i : ℕ) → length xs ≤ i → Followed R P a b (take i xs) → Each xs (P b)
followed_all {S} {X} R P a b xs i l f = subst (λ (front : List X). Each front (P b)) (take_all i xs l) f.each

-- ---- edges by their states

leaves : (q : ℕ) (edges : List (ℕ × Letter × ℕ)) (e : ℕ × Letter × ℕ) → Member (leaving q edges) e → Member edges (q, e.1, e.2)
leaves q edges e h =
    let r = filter_member (λ (x : ℕ × Letter × ℕ). eqb x.0 q) edges e h in
    subst (λ (z : ℕ). Member edges (z, e.1, e.2)) (eqb-true e.0 q r.1) r.0

pub does_leave : (q : ℕ) (edges : List (ℕ × Letter × ℕ)) (a : Letter) (e : ℕ) → Member edges (q, a, e) → Member (leaving q edges) (q, a, e)
does_leave q edges a e h = member_filter (λ (x : ℕ × Letter × ℕ). eqb x.0 q) edges (q, a, e) h (eq-eqb q q refl)

enters : (q : ℕ) (edges : List (ℕ × Letter × ℕ)) (e : ℕ × Letter × ℕ) → Member (entering q edges) e → Member edges (e.0, e.1, q)
enters q edges e h =
    let r = filter_member (λ (x : ℕ × Letter × ℕ). eqb x.2 q) edges e h in
    subst (λ (z : ℕ). Member edges (e.0, e.1, z)) (eqb-true e.2 q r.1) r.0

pub does_enter : (q : ℕ) (edges : List (ℕ × Letter × ℕ)) (p : ℕ) (a : Letter) → Member edges (p, a, q) → Member (entering q edges) (p, a, q)
does_enter q edges p a h = member_filter (λ (x : ℕ × Letter × ℕ). eqb x.2 q) edges (p, a, q) h (eq-eqb q q refl)

goes_between : (q p : ℕ) (edges : List (ℕ × ℕ × Letter × ℕ)) (e : ℕ × ℕ × Letter × ℕ) → Member (backs_between q p edges) e → Member edges (q, p, e.2, e.3)
goes_between q p edges e h =
    let r = filter_member (λ (x : ℕ × ℕ × Letter × ℕ). eqb x.0 q && eqb x.1 p) edges e h in
    subst (λ (z : ℕ). Member edges (z, p, e.2, e.3)) (eqb-true e.0 q (and_left _ _ r.1))
    (subst (λ (z : ℕ). Member edges (e.0, z, e.2, e.3)) (eqb-true e.1 p (and_right _ _ r.1)) r.0)

pub does_go_between : (q p : ℕ) (edges : List (ℕ × ℕ × Letter × ℕ)) (a : Letter) (e : ℕ) → Member edges (q, p, a, e) → Member (backs_between q p edges) (q, p, a, e)
does_go_between q p edges a e h =
    member_filter (λ (x : ℕ × ℕ × Letter × ℕ). eqb x.0 q && eqb x.1 p) edges (q, p, a, e) h (and_both _ _ (eq-eqb q q refl) (eq-eqb p p refl))

-- no return leaves a state that none is found for
pub none_leave : (q : ℕ) (edges : List (ℕ × ℕ × Letter × ℕ)) (c : ℕ) (a : Letter) (e : ℕ) → backs_leaving q edges ≡ [] → Member edges (q, c, a, e) → ⊥
none_leave q edges c a e n h =
    subst (λ (l : List (ℕ × ℕ × Letter × ℕ)). Member l (q, c, a, e)) n (member_filter (λ (x : ℕ × ℕ × Letter × ℕ). eqb x.0 q) edges (q, c, a, e) h (eq-eqb q q refl))

-- an item of a list of those that leave or enter a state, or are between two states
pub item : {X : Type 0} (items ys : List X) (i : ℕ) (d : X) → items ≡ ys → i < length items → Member ys (get_or items i d)
item {X} items ys i d e l = subst (λ (z : List X). Member z (get_or items i d)) e (member_at items i d l)

pub item_leaving : (items edges : List (ℕ × Letter × ℕ)) (q i : ℕ) (d : ℕ × Letter × ℕ) → items ≡ leaving q edges → i < length items → Member edges (q, (get_or items i d).1, (get_or items i d).2)
item_leaving items edges q i d e l = leaves q edges (get_or items i d) (item items (leaving q edges) i d e l)

pub item_entering : (items edges : List (ℕ × Letter × ℕ)) (q i : ℕ) (d : ℕ × Letter × ℕ) → items ≡ entering q edges → i < length items → Member edges ((get_or items i d).0, (get_or items i d).1, q)
item_entering items edges q i d e l = enters q edges (get_or items i d) (item items (entering q edges) i d e l)

pub item_between : (items edges : List (ℕ × ℕ × Letter × ℕ)) (q p i : ℕ) (d : ℕ × ℕ × Letter × ℕ) → items ≡ backs_between q p edges → i < length items →
    Member edges (q, p, (get_or items i d).2, (get_or items i d).3)
item_between items edges q p i d e l = goes_between q p edges (get_or items i d) (item items (backs_between q p edges) i d e l)

pub of_all : {X : Type 0} (P : X → Type 0) (xs : List X) (x : X) → AllByRecursion P xs → Member xs x → P x
of_all P [] x h m = absurd m
of_all P (y ∷ xs) x h (inl e) = subst P e h.0
of_all P (y ∷ xs) x h (inr m) = of_all P xs x h.1 m
