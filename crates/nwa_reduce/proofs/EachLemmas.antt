-- What holds of each member of a list, found one after another.
use Rattle.std.proofs.Common.{◌≡◌, ◌==◌, ◌<◌, ◌≤◌, ◌+◌, ℕ, true, false, List, [], ◌∷◌, length, take, get_or, refl, sym, subst, inl, inr, arith, eq-eqb}
use Rattle.std.proofs.lemmas.Bool.{eqb-true}
use Rattle.std.proofs.lemmas.List.{take_more, take_all}
use Rattle.nwa_base.specs.declared.letters.Letter.{Letter}
use Rattle.nwa_base.specs.Members.{Member}
use Rattle.nwa_base.specs.Edges.{leaving, entering, backs_leaving, backs_between}
use Rattle.nwa_base.proofs.LetterLemmas.{and_both}
use Rattle.nwa_base.proofs.MemberLemmas.{member_split, member_filter}
use Rattle.nwa_reduce.proofs.ListLemmas.{only_member}
use Rattle.std.proofs.Common.{eqb, ◌&&◌}

-- it holds of each member of the list
abbrev pub Each : {X : Type 0} → List X → (X → Type 0) → Type 0
Each {X} xs P = (x : X) → Member xs x → P x

pub each_none : {X : Type 0} (xs : List X) (P : X → Type 0) → Each (take 0 xs) P
each_none xs P x m = absurd m

pub each_on : {X : Type 0} (xs : List X) (i : ℕ) (d : X) (P : X → Type 0) → i < length xs → Each (take i xs) P → P (get_or xs i d) → Each (take (i + 1) xs) P
each_on {X} xs i d P l h p =
    subst (λ (front : List X). Each front P) (sym (take_more xs i d l))
    (λ x m. elim (member_split (take i xs) (get_or xs i d ∷ []) x m) [ inl a ↦ h x a | inr b ↦ subst P (only_member (get_or xs i d) x b) p ])

pub each_all : {X : Type 0} (xs : List X) (i : ℕ) (P : X → Type 0) → length xs ≤ i → Each (take i xs) P → Each xs P
each_all {X} xs i P l h = subst (λ (front : List X). Each front P) (take_all i xs l) h

-- an empty list has no member
pub is_none : {X : Type 0} (xs : List X) → length xs == 0 ≡ true → (x : X) → Member xs x → ⊥
is_none [] e x m = m
is_none (y ∷ xs) e x m = absurd (let f : length (y ∷ xs) ≡ 0 = eqb-true (length (y ∷ xs)) 0 e in omega arith)

-- another one has a member
pub has_one : {X : Type 0} (xs : List X) → length xs == 0 ≡ false → (x : X) × Member xs x
has_one [] e = let f : true ≡ false = e in cc
has_one (y ∷ xs) e = (y, inl refl)

-- edges found by their states
pub leaves : (q : ℕ) (edges : List (ℕ × Letter × ℕ)) (a : Letter) (e : ℕ) → Member edges (q, a, e) → Member (leaving q edges) (q, a, e)
leaves q edges a e h = member_filter (λ (x : ℕ × Letter × ℕ). eqb x.0 q) edges (q, a, e) h (eq-eqb q q refl)

pub enters : (n : ℕ) (edges : List (ℕ × Letter × ℕ)) (p : ℕ) (a : Letter) → Member edges (p, a, n) → Member (entering n edges) (p, a, n)
enters n edges p a h = member_filter (λ (x : ℕ × Letter × ℕ). eqb x.2 n) edges (p, a, n) h (eq-eqb n n refl)

pub leaves_back : (q : ℕ) (edges : List (ℕ × ℕ × Letter × ℕ)) (p : ℕ) (a : Letter) (e : ℕ) → Member edges (q, p, a, e) → Member (backs_leaving q edges) (q, p, a, e)
leaves_back q edges p a e h = member_filter (λ (x : ℕ × ℕ × Letter × ℕ). eqb x.0 q) edges (q, p, a, e) h (eq-eqb q q refl)

pub stands_between : (q : ℕ) (edges : List (ℕ × ℕ × Letter × ℕ)) (p : ℕ) (a : Letter) (e : ℕ) → Member edges (q, p, a, e) →
    Member (backs_between q p edges) (q, p, a, e)
stands_between q edges p a e h =
    member_filter (λ (x : ℕ × ℕ × Letter × ℕ). eqb x.0 q && eqb x.1 p) edges (q, p, a, e) h (and_both _ _ (eq-eqb q q refl) (eq-eqb p p refl))
