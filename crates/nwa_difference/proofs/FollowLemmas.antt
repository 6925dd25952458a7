-- Loops, each turn of which goes on from what the turns before have made.
use Rattle.std.proofs.Common.{◌≡◌, ◌∙◌, ◌<◌, ◌≤◌, ◌+◌, ℕ, List, [], ◌∷◌, ◌++◌, length, take, get_or, sym, ap, subst, inl, inr, refl}
use Rattle.std.proofs.lemmas.List.{take_more, take_all}
use Rattle.nwa_base.specs.declared.letters.Letter.{Letter}
use Rattle.nwa_base.specs.Members.{Member}
use Rattle.nwa_base.specs.Edges.{leaving, entering, backs_between}
use Rattle.nwa_base.proofs.MemberLemmas.{member_at, member_split, filter_member, member_filter}
use Rattle.nwa_base.proofs.LetterLemmas.{and_left, and_right, and_both}
use Rattle.std.proofs.Common.{eqb, eq-eqb, ◌&&◌}
use Rattle.std.proofs.lemmas.Bool.{eqb-true}

-- what holds of each element of a list
abbrev pub Each : {X : Type 0} → List X → (X → Type 0) → Type 0
Each {X} xs P = (x : X) → Member xs x → P x

-- how far a loop went on along the first elements of a list
pub record Followed {S X : Type 0} (R : S → S → Type 0) (P : S → X → Type 0) (old new : S) (front : List X) : Type 0 where
  pub goes : R old new
  pub each : Each front (P new)

pub followed_none : {S X : Type 0} (R : S → S → Type 0) (P : S → X → Type 0) (s : S) (xs : List X) → R s s → Followed R P s s (take 0 xs)
followed_none R P s xs v = record { goes = v; each = λ x h. absurd h }

pub each_more : {X : Type 0} (xs : List X) (y : X) (P Q : X → Type 0) → Each xs P → ((x : X) → P x → Q x) → Q y → Each (xs ++ y ∷ []) Q
each_more xs y P Q h f g x m = elim (member_split xs (y ∷ []) x m) [ inl a ↦ f x (h x a) | inr b ↦ elim b [ inl e ↦ subst Q e g | inr n ↦ absurd n ] ]

pub followed_more : {S X : Type 0} (R : S → S → Type 0) (P : S → X → Type 0) (a b c : S) (xs : List X) (i : ℕ) (d : X) →
    ((s t u : S) → R s t → R t u → R s u) → ((s t : S) (x : X) → R a s → R s t → P s x → P t x) → i < length xs →
    Followed R P a b (take i xs) → R b c → P c (get_or xs i d) → Followed R P a c (take (i + 1) xs)
followed_more {S} {X} R P a b c xs i d on stays l f g h = record {
  goes = on a b c f.goes g;
  each =
      subst (λ (front : List X). Each front (P c)) (sym (take_more xs i d l))
      (each_more (take i xs) (get_or xs i d) (P b) (P c) f.each (λ x p. stays b c x f.goes g p) h);
}

pub followed_all : {S X : Type 0} (R : S → S → Type 0) (P : S → X → Type 0) (a b : S) (xs : List X) (i : ℕ) → length xs ≤ i →
    Followed R P a b (take i xs) → Each xs (P b)
followed_all {S} {X} R P a b xs i l f = subst (λ (front : List X). Each front (P b)) (take_all i xs l) f.each

-- an element of a list
pub at_item : {X : Type 0} (xs ys : List X) (i : ℕ) (d : X) → xs ≡ ys → i < length xs → Member ys (get_or xs i d)
at_item {X} xs ys i d e l = subst (λ (z : List X). Member z (get_or xs i d)) e (member_at xs i d l)

-- edges that leave a state
leaves : (q : ℕ) (edges : List (ℕ × Letter × ℕ)) (e : ℕ × Letter × ℕ) → Member (leaving q edges) e → Member edges (q, e.1, e.2)
leaves q edges e h =
    let r = filter_member (λ (x : ℕ × Letter × ℕ). eqb x.0 q) edges e h in
    subst (λ (z : ℕ). Member edges (z, e.1, e.2)) (eqb-true e.0 q r.1) r.0

pub does_leave : (q : ℕ) (edges : List (ℕ × Letter × ℕ)) (a : Letter) (e : ℕ) → Member edges (q, a, e) → Member (leaving q edges) (q, a, e)
does_leave q edges a e h = member_filter (λ (x : ℕ × Letter × ℕ). eqb x.0 q) edges (q, a, e) h (eq-eqb q q refl)

does_enter : (n : ℕ) (edges : List (ℕ × Letter × ℕ)) (p : ℕ) (a : Letter) → Member edges (p, a, n) → Member (entering n edges) (p, a, n)
does_enter n edges p a h = member_filter (λ (x : ℕ × Letter × ℕ). eqb x.2 n) edges (p, a, n) h (eq-eqb n n refl)

goes_between : (q p : ℕ) (edges : List (ℕ × ℕ × Letter × ℕ)) (e : ℕ × ℕ × Letter × ℕ) → Member (backs_between q p edges) e → Member edges (q, p, e.2, e.3)
goes_between q p edges e h =
    let r = filter_member (λ (x : ℕ × ℕ × Letter × ℕ). eqb x.0 q && eqb x.1 p) edges e h in
    subst (λ (z : ℕ). Member edges (z, p, e.2, e.3)) (eqb-true e.0 q (and_left _ _ r.1))
    (subst (λ (z : ℕ). Member edges (e.0, z, e.2, e.3)) (eqb-true e.1 p (and_right _ _ r.1)) r.0)

does_go_between : (q p : ℕ) (edges : List (ℕ × ℕ × Letter × ℕ)) (a : Letter) (e : ℕ) → Member edges (q, p, a, e) → Member (backs_between q p edges) (q, p, a, e)
does_go_between q p edges a e h =
    member_filter (λ (x : ℕ × ℕ × Letter × ℕ). eqb x.0 q && eqb x.1 p) edges (q, p, a, e) h (and_both _ _ (eq-eqb q q refl) (eq-eqb p p refl))

-- an edge of a list of those that leave a state, or that are between two states
pub item_leaving : (items edges now : List (ℕ × Letter × ℕ)) (q i : ℕ) (d : ℕ × Letter × ℕ) → items ≡ leaving q edges → edges ≡ now → i < length items →
    Member now (q, (get_or items i d).1, (get_or items i d).2)
item_leaving items edges now q i d e f l =
    leaves q now (get_or items i d) (at_item items (leaving q now) i d (e ∙ ap (leaving q) f) l)

pub item_between : (items edges now : List (ℕ × ℕ × Letter × ℕ)) (q p i : ℕ) (d : ℕ × ℕ × Letter × ℕ) → items ≡ backs_between q p edges → edges ≡ now →
    i < length items → Member now (q, p, (get_or items i d).2, (get_or items i d).3)
item_between items edges now q p i d e f l =
    goes_between q p now (get_or items i d) (at_item items (backs_between q p now) i d (e ∙ ap (backs_between q p) f) l)

-- what holds of each edge of such a list
pub each_leaving : (items edges now : List (ℕ × Letter × ℕ)) (q : ℕ) (P : ℕ × Letter × ℕ → Type 0) → items ≡ leaving q edges → edges ≡ now → Each items P →
    (a : Letter) (e : ℕ) → Member now (q, a, e) → P (q, a, e)
each_leaving items edges now q P f g h a e m =
    h (q, a, e) (subst (λ (l : List (ℕ × Letter × ℕ)). Member l (q, a, e)) (sym (f ∙ ap (leaving q) g)) (does_leave q now a e m))

pub each_entering : (items edges now : List (ℕ × Letter × ℕ)) (n : ℕ) (P : ℕ × Letter × ℕ → Type 0) → items ≡ entering n edges → edges ≡ now → Each items P →
    (p : ℕ) (a : Letter) → Member now (p, a, n) → P (p, a, n)
each_entering items edges now n P f g h p a m =
    h (p, a, n) (subst (λ (l : List (ℕ × Letter × ℕ)). Member l (p, a, n)) (sym (f ∙ ap (entering n) g)) (does_enter n now p a m))

pub each_between : (items edges now : List (ℕ × ℕ × Letter × ℕ)) (q p : ℕ) (P : ℕ × ℕ × Letter × ℕ → Type 0) → items ≡ backs_between q p edges → edges ≡ now →
    Each items P → (a : Letter) (e : ℕ) → Member now (q, p, a, e) → P (q, p, a, e)
each_between items edges now q p P f g h a e m =
    h (q, p, a, e) (subst (λ (l : List (ℕ × ℕ × Letter × ℕ)). Member l (q, p, a, e)) (sym (f ∙ ap (backs_between q p) g)) (does_go_between q p now a e m))
