-- Whole points that meet systems.
use Rattle.std.proofs.Common.{◌≡◌, ◌∙◌, ℕ, zero, suc, ◌+◌, ◌<◌, ◌≤◌, ℤ, List, [], ◌∷◌, ◌++◌, length, take, get_or, Vec, Global, sym, ap, subst, inl, inr, arith}
use Rattle.std.specs.List.{AllByRecursion}
use Rattle.std.proofs.lemmas.List.{take_more, take_all}
use Rattle.lin_rows.specs.declared.systems.System.{System}
use Rattle.lin_rows.specs.Rows.{Holds}
use Rattle.lin_rows.specs.Systems.{Meets, SomeMember, EachHasMember, members_of, rows_of, groups_of}
use Rattle.lin_rows.proofs.SystemLaws.{meets_close, members_of-append}

-- ---- what terms add up to

-- ---- members and groups

-- a member with the property
pub some_at : {X : Type 0} (P : X → Type 0) (xs : List X) (i : ℕ) (x : X) → i < length xs → x ≡ get_or xs i x → P x → SomeMember P xs
some_at P [] i x l e h = absurd (omega arith)
some_at P (y ∷ ys) zero x l e h = inl (subst P e h)
some_at P (y ∷ ys) (suc i) x l e h = inr (some_at P ys i x (omega arith) e h)

each_append : {X : Type 0} (P : X → Type 0) (gs hs : List (List X)) → EachHasMember P gs → EachHasMember P hs → EachHasMember P (gs ++ hs)
each_append P [] hs h k = k
each_append P (g ∷ gs) hs h k = (h.0, each_append P gs hs h.1 k)

-- one group more
pub group_more : (P : System → Type 0) (gs : List (Vec System Global)) (i : ℕ) (g : Vec System Global) → i < length gs → g ≡ get_or gs i g →
    EachHasMember P (members_of (take i gs)) → SomeMember P g.items → EachHasMember P (members_of (take (i + 1) gs))
group_more P gs i g l e h k =
    let t : take (i + 1) gs ≡ take i gs ++ g ∷ [] = take_more gs i g l ∙ ap (λ (v : Vec System Global). take i gs ++ v ∷ []) (sym e) in
    let u : members_of (take (i + 1) gs) ≡ members_of (take i gs) ++ g.items ∷ [] = ap members_of t ∙ members_of-append (take i gs) (g ∷ []) in
    subst (EachHasMember P) (sym u) (each_append P (members_of (take i gs)) (g.items ∷ []) h (k, tt))

-- all rows and groups
pub all_met : (point : ℕ → ℤ) (s : System) (gs : List (Vec System Global)) (i : ℕ) → members_of gs ≡ groups_of s → length gs ≤ i → AllByRecursion (Holds point) (rows_of s) →
    EachHasMember (Meets point) (members_of (take i gs)) → Meets point s
all_met point s gs i e l r h = meets_close point s (
  r,
  subst (EachHasMember (Meets point)) e (subst (λ (vs : List (Vec System Global)). EachHasMember (Meets point) (members_of vs)) (take_all i gs l) h),
)
