-- Systems: rows that all hold, and groups of systems of which one member each holds.
use Rattle.std.specs.Prelude.{◌≡◌, ◌⊎◌, ◌↔◌, ℕ, ℤ, List, [], ◌∷◌}
use Rattle.std.specs.List.{AllByRecursion}
use Rattle.std.specs.declared.vec.Vec.{Vec}
use Rattle.std.specs.declared.alloc.Global.{Global}
use Rattle.lin_rows.specs.declared.systems.System.{System, rec-System, out-System}
use Rattle.lin_rows.specs.Rows.{LinearRow, Holds}

-- some member has the property
abbrev pub SomeMember : {X : Type 0} → (X → Type 0) → List X → Type 0
SomeMember P [] = ⊥
SomeMember P (x ∷ xs) = P x ⊎ SomeMember P xs

-- each group has a member with the property
abbrev pub EachHasMember : {X : Type 0} → (X → Type 0) → List (List X) → Type 0
EachHasMember P [] = Unit {0}
EachHasMember P (g ∷ gs) = SomeMember P g × EachHasMember P gs

-- the members of each group
abbrev pub members_of : {X : Type 0} → List (Vec X Global) → List (List X)
members_of [] = []
members_of (g ∷ gs) = g.items ∷ members_of gs

-- all rows hold at the point, and each group has a member with the property
abbrev pub HoldsAll : {X : Type 0} → (X → Type 0) → (ℕ → ℤ) → List LinearRow → List (List X) → Type 0
HoldsAll P point rows groups = AllByRecursion (Holds point) rows × EachHasMember P groups

-- a whole point meets a system: its rows hold there, and each group has a member that the point meets
abbrev pub Meets : (ℕ → ℤ) → System → Type 0
Meets point = rec-System (Type 0) (λ X is meets s. HoldsAll meets point s.rows.items (members_of s.groups.items))

-- the rows of a system
abbrev pub rows_of : System → List LinearRow
rows_of s = (out-System s).rows.items

-- the members of each of its groups
abbrev pub groups_of : System → List (List System)
groups_of s = members_of (out-System s).groups.items

-- two lists are as long, and their members are related in pairs
abbrev pub RelatedInPairs : {X Y : Type 0} → (X → Y → Type 0) → List X → List Y → Type 0
RelatedInPairs R [] [] = Unit {0}
RelatedInPairs R [] (y ∷ ys) = ⊥
RelatedInPairs R (x ∷ xs) [] = ⊥
RelatedInPairs R (x ∷ xs) (y ∷ ys) = R x y × RelatedInPairs R xs ys

-- two systems say the same: they have the same rows, and the members of their groups say the same, in order
abbrev pub SaysSame : System → System → Type 0
SaysSame = rec-System (System → Type 0) (λ X is same a b.
    (a.rows.items ≡ rows_of b) × RelatedInPairs (RelatedInPairs same) (members_of a.groups.items) (groups_of b))

-- b is a copy of a: it says the same, and the same whole points meet it
pub record IsCopy (a b : System) : Type 0 where
  pub says_same : SaysSame a b
  pub same_points : (point : ℕ → ℤ) → Meets point b ↔ Meets point a
