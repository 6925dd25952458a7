-- Sizes and conditions of systems, opened by one level.
use Rattle.std.proofs.Common.{◌≡◌, ℕ, suc, ◌+◌, List, [], ◌∷◌, length, map, refl, sym, ap, ◌∙◌, subst}
use Rattle.std.specs.declared.vec.Vec.{Vec}
use Rattle.std.specs.declared.alloc.Global.{Global}
use Rattle.std.specs.List.{AllByRecursion}
use Rattle.std.specs.formers.vec.Vec.{mapped}
use mathlib.Core.Former.{this}
use Rattle.lin_rows.specs.declared.systems.System.{System, out-System, roll-out-System, fold-roll-System, rec-roll-System}
use Rattle.lin_rows.specs.Rows.{LinearRow, RowsBelow}
use Rattle.lin_rows.specs.Systems.{members_of, rows_of, groups_of}
use Rattle.int_decide.specs.Sizes.{total, over_groups, group_count, extent, AllMembers, AllRows, SystemBelow}

-- ---- lists of members, each replaced by its image

AllByRecursion-map : {X Y : Type 0} (P : Y → Type 0) (f : X → Y) (xs : List X) → AllByRecursion (λ x. P (f x)) xs ≡ AllByRecursion P (map f xs)
AllByRecursion-map P f [] = refl
AllByRecursion-map P f (x ∷ xs) = λ i. P (f x) × AllByRecursion-map P f xs i

AllMembers-mapped : {X : Type 0} (P : System → Type 0) (f : X → System) (gs : List (Vec X Global)) →
    AllMembers (λ x. P (f x)) (members_of gs) ≡ AllMembers P (members_of (map (mapped {H = Global} ((this {0}).map X System f)) gs))
AllMembers-mapped P f [] = refl
AllMembers-mapped P f (g ∷ gs) = λ i. AllByRecursion-map P f g.items i × AllMembers-mapped P f gs i

total-map : {X Y : Type 0} (number : Y → ℕ) (f : X → Y) (xs : List X) → total (λ x. number (f x)) xs ≡ total number (map f xs)
total-map number f [] = refl
total-map number f (x ∷ xs) = ap (λ (n : ℕ). number (f x) + n) (total-map number f xs)

over_groups-mapped : {X Y : Type 0} (number : Y → ℕ) (f : X → Y) (gs : List (Vec X Global)) →
    over_groups (λ x. number (f x)) (members_of gs) ≡ over_groups number (members_of (map (mapped {H = Global} ((this {0}).map X Y f)) gs))
over_groups-mapped number f [] = refl
over_groups-mapped number f (g ∷ gs) = λ i. suc (total-map number f g.items i) + over_groups-mapped number f gs i

totals-mapped : {X Y : Type 0} (number : Y → ℕ) (f : X → Y) (gs : List (Vec X Global)) →
    total (λ members. total (λ m. number (f m)) members) (members_of gs) ≡
    total (λ members. total number members) (members_of (map (mapped {H = Global} ((this {0}).map X Y f)) gs))
totals-mapped number f [] = refl
totals-mapped number f (g ∷ gs) = λ i. total-map number f g.items i + totals-mapped number f gs i

-- ---- sizes

pub group_count_opened : (s : System) → group_count s ≡ over_groups group_count (groups_of s)
group_count_opened s =
    ap group_count (sym (roll-out-System s)) ∙ fold-roll-System ℕ (λ s. over_groups (λ count. count) (members_of s.groups.items)) (out-System s) ∙
    sym (over_groups-mapped (λ count. count) group_count (out-System s).groups.items)

pub extent_opened : (s : System) → extent s ≡ length (rows_of s) + total (λ members. total (λ m. suc (extent m)) members) (groups_of s)
extent_opened s =
    ap extent (sym (roll-out-System s)) ∙
    fold-roll-System ℕ (λ s. length s.rows.items + total (λ members. total (λ count. suc count) members) (members_of s.groups.items)) (out-System s) ∙
    ap (λ (n : ℕ). length (rows_of s) + n) (sym (totals-mapped (λ count. suc count) extent (out-System s).groups.items))

-- ---- conditions

rows_opened : (P : LinearRow → Type 0) (s : System) → AllRows P s ≡ (AllByRecursion P (rows_of s) × AllMembers (AllRows P) (groups_of s))
rows_opened P s =
    ap (AllRows P) (sym (roll-out-System s)) ∙
    rec-roll-System (Type 0) (λ X is all s. AllByRecursion P s.rows.items × AllMembers all (members_of s.groups.items))
    (λ X f all s i. AllByRecursion P s.rows.items × AllMembers-mapped all f s.groups.items i) (out-System s)

pub AllRows_open : (P : LinearRow → Type 0) (s : System) → AllRows P s → AllByRecursion P (rows_of s) × AllMembers (AllRows P) (groups_of s)
AllRows_open P s h = subst (λ (T : Type 0). T) (rows_opened P s) h

pub AllRows_close : (P : LinearRow → Type 0) (s : System) → AllByRecursion P (rows_of s) × AllMembers (AllRows P) (groups_of s) → AllRows P s
AllRows_close P s h = subst (λ (T : Type 0). T) (sym (rows_opened P s)) h

below_opened : (n : ℕ) (s : System) → SystemBelow n s ≡ (RowsBelow n (rows_of s) × AllMembers (SystemBelow n) (groups_of s))
below_opened n s =
    ap (SystemBelow n) (sym (roll-out-System s)) ∙
    rec-roll-System (Type 0) (λ X is below s. RowsBelow n s.rows.items × AllMembers below (members_of s.groups.items))
    (λ X f below s i. RowsBelow n s.rows.items × AllMembers-mapped below f s.groups.items i) (out-System s)

pub SystemBelow_open : (n : ℕ) (s : System) → SystemBelow n s → RowsBelow n (rows_of s) × AllMembers (SystemBelow n) (groups_of s)
SystemBelow_open n s h = subst (λ (T : Type 0). T) (below_opened n s) h

pub SystemBelow_close : (n : ℕ) (s : System) → RowsBelow n (rows_of s) × AllMembers (SystemBelow n) (groups_of s) → SystemBelow n s
SystemBelow_close n s h = subst (λ (T : Type 0). T) (sym (below_opened n s)) h
