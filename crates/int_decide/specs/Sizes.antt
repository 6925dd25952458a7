-- How large systems are.
use Rattle.std.specs.Prelude.{ℕ, suc, ◌+◌, List, [], ◌∷◌, length}
use Rattle.std.specs.List.{AllByRecursion}
use Rattle.lin_rows.specs.declared.systems.System.{System, fold-System, rec-System}
use Rattle.lin_rows.specs.Systems.{members_of}
use Rattle.lin_rows.specs.Rows.{LinearRow, RowsBelow}

-- the sum of a number of each member
abbrev pub total : {X : Type 0} → (X → ℕ) → List X → ℕ
total number [] = 0
total number (x ∷ xs) = number x + total number xs

-- a number of each member of each group, and one for each group
abbrev pub over_groups : {X : Type 0} → (X → ℕ) → List (List X) → ℕ
over_groups number groups = total (λ members. suc (total number members)) groups

-- how many groups a system has, those of its members counted
abbrev pub group_count : System → ℕ
group_count = fold-System ℕ (λ s. over_groups (λ count. count) (members_of s.groups.items))

-- how many rows and members a system has, those of its members counted
abbrev pub extent : System → ℕ
extent = fold-System ℕ (λ s. length s.rows.items + total (λ members. total (λ count. suc count) members) (members_of s.groups.items))

-- each member of each group has the property
abbrev pub AllMembers : {X : Type 0} → (X → Type 0) → List (List X) → Type 0
AllMembers P [] = Unit {0}
AllMembers P (g ∷ gs) = AllByRecursion P g × AllMembers P gs

-- each row of the system has the property, those of its members too
abbrev pub AllRows : (LinearRow → Type 0) → System → Type 0
AllRows P = rec-System (Type 0) (λ X is all s. AllByRecursion P s.rows.items × AllMembers all (members_of s.groups.items))

-- all columns of the system are below n, those of its members too
abbrev pub SystemBelow : ℕ → System → Type 0
SystemBelow n = rec-System (Type 0) (λ X is below s. RowsBelow n s.rows.items × AllMembers below (members_of s.groups.items))
