-- The size of a system and its columns, found by going along its rows, groups and members.
use Rattle.std.proofs.Common.{◌≡◌, ℕ, zero, suc, ◌+◌, ◌<◌, ◌≤◌, ℤ, List, [], ◌∷◌, ◌++◌, length, take, drop, get_or, Vec, Global, sym, ap, ◌∙◌, subst, arith}
use Rattle.std.specs.List.{AllByRecursion}
use Rattle.std.proofs.lemmas.List.{take_more, drop_more, take-append-drop}
use Rattle.math_facts.specs.Terms.{IsBelow}
use Rattle.math_facts.proofs.TermLaws.{IsBelow-append}
use Rattle.lin_rows.specs.declared.systems.System.{System}
use Rattle.lin_rows.specs.Rows.{LinearRow, RowsBelow}
use Rattle.lin_rows.specs.Systems.{members_of, rows_of, groups_of}
use Rattle.lin_rows.proofs.SystemLaws.{members_of-append}
use Rattle.fm_elim.proofs.Lists.{all_append, all_middle}
use Rattle.int_decide.specs.Sizes.{total, extent, AllMembers, SystemBelow}
use Rattle.int_decide.proofs.Opening.{extent_opened, SystemBelow_open, SystemBelow_close}
use Rattle.int_decide.proofs.StepsLeft.{total-append}
use Rattle.int_decide.proofs.Worths.{members_append}

-- ---- terms and rows

-- one term more
pub term_below_more : (n : ℕ) (ts : List (ℕ × ℤ)) (i : ℕ) (d : ℕ × ℤ) → i < length ts → IsBelow n (take i ts) → (get_or ts i d).0 < n → IsBelow n (take (i + 1) ts)
term_below_more n ts i d l h k =
    subst (IsBelow n) (sym (take_more ts i d l)) (IsBelow-append n (take i ts) (get_or ts i d ∷ []) h (k, tt))

-- a term that is not below
pub term_not_below : (n : ℕ) (ts : List (ℕ × ℤ)) (i : ℕ) (d : ℕ × ℤ) → i < length ts → n ≤ (get_or ts i d).0 → IsBelow n ts → ⊥
term_not_below n [] i d l k h = absurd (omega arith)
term_not_below n (t ∷ ts) zero d l k h = let b : t.0 < n = h.0 in absurd (omega arith)
term_not_below n (t ∷ ts) (suc i) d l k h = term_not_below n ts i d (omega arith) k h.1

-- a list about one of its members
around : {X : Type 0} (xs : List X) (i : ℕ) (x : X) → i < length xs → x ≡ get_or xs i x → take i xs ++ x ∷ drop (i + 1) xs ≡ xs
around {X = X} xs i x l e =
    ap (λ (y : X). take i xs ++ y ∷ drop (i + 1) xs) e ∙ ap (λ (ys : List X). take i xs ++ ys) (sym (drop_more xs i x l)) ∙ take-append-drop i xs

-- a row with a term that is not below
pub row_not_below : (n : ℕ) (rows : List LinearRow) (i : ℕ) (r : LinearRow) → i < length rows → r ≡ get_or rows i r → (IsBelow n r.terms → ⊥) → RowsBelow n rows → ⊥
row_not_below n rows i r l e f h = f (all_middle (λ r. IsBelow n r.terms) (take i rows) r (drop (i + 1) rows) rows (around rows i r l e) h)

-- ---- members

-- the numbers of the members so far
abbrev pub member_total : List System → ℕ
member_total ms = total (λ m. suc (extent m)) ms

abbrev pub group_total : List (List System) → ℕ
group_total gs = total (λ members. total (λ m. suc (extent m)) members) gs

-- the members so far are below n, and their numbers are the sum
pub record AreMeasured (n sum : ℕ) (ms : List System) : Type 0 where
  pub below : AllByRecursion (SystemBelow n) ms
  pub size : member_total ms ≡ sum

-- one member more
pub member_more : (n sum more size : ℕ) (ms : List System) (i : ℕ) (m : System) → i < length ms → m ≡ get_or ms i m → AreMeasured n sum (take i ms) → SystemBelow n m → extent m ≡ size →
    sum + size + 1 ≡ more → AreMeasured n more (take (i + 1) ms)
member_more n sum more size ms i m l e h b z k =
    let t : take (i + 1) ms ≡ take i ms ++ m ∷ [] = take_more ms i m l ∙ ap (λ (s : System). take i ms ++ s ∷ []) (sym e) in
    let a : member_total (take i ms ++ m ∷ []) ≡ member_total (take i ms) + member_total (m ∷ []) = total-append (λ s. suc (extent s)) (take i ms) (m ∷ []) in
    let s : member_total (take i ms) ≡ sum = h.size in
    subst (AreMeasured n more) (sym t) (record { below = all_append (SystemBelow n) (take i ms) (m ∷ []) h.below (b, tt); size = omega arith })

-- the members as many as those so far, one more and the rest
members_around : (ms : List System) (i : ℕ) (m : System) → i < length ms → m ≡ get_or ms i m → member_total (take i ms) + suc (extent m) ≤ member_total ms
members_around ms i m l e =
    let a : member_total (take i ms ++ m ∷ drop (i + 1) ms) ≡ member_total (take i ms) + (suc (extent m) + member_total (drop (i + 1) ms)) =
    total-append (λ s. suc (extent s)) (take i ms) (m ∷ drop (i + 1) ms) in
    let b : member_total (take i ms ++ m ∷ drop (i + 1) ms) ≡ member_total ms = ap member_total (around ms i m l e) in
    omega arith

-- a member that is too large
pub member_too_large : (most n : ℕ) (ms : List System) (i : ℕ) (m : System) → i < length ms → m ≡ get_or ms i m → (SystemBelow n m → most ≤ extent m) →
    AllByRecursion (SystemBelow n) ms → most ≤ member_total ms
member_too_large most n ms i m l e f h =
    let k : most ≤ extent m = f (all_middle (SystemBelow n) (take i ms) m (drop (i + 1) ms) ms (around ms i m l e) h) in
    let a : member_total (take i ms) + suc (extent m) ≤ member_total ms = members_around ms i m l e in
    omega arith

-- members that are too large with one more
pub members_too_large : (most n sum size : ℕ) (ms : List System) (i : ℕ) (m : System) → i < length ms → m ≡ get_or ms i m → AreMeasured n sum (take i ms) → extent m ≡ size →
    most ≤ sum + size + 1 → most ≤ member_total ms
members_too_large most n sum size ms i m l e h z k =
    let a : member_total (take i ms) + suc (extent m) ≤ member_total ms = members_around ms i m l e in
    let s : member_total (take i ms) ≡ sum = h.size in
    omega arith

-- ---- groups

-- the groups so far, beside so many rows
pub record GroupsMeasured (n rows sum : ℕ) (gs : List (List System)) : Type 0 where
  pub below : AllMembers (SystemBelow n) gs
  pub size : rows + group_total gs ≡ sum

pub group_more : (n rows sum more size : ℕ) (gs : List (Vec System Global)) (i : ℕ) (g : Vec System Global) → i < length gs → g ≡ get_or gs i g → GroupsMeasured n rows sum (members_of (take i gs)) →
    AllByRecursion (SystemBelow n) g.items → member_total g.items ≡ size → sum + size ≡ more → GroupsMeasured n rows more (members_of (take (i + 1) gs))
group_more n rows sum more size gs i g l e h b z k =
    let t : take (i + 1) gs ≡ take i gs ++ g ∷ [] = take_more gs i g l ∙ ap (λ (v : Vec System Global). take i gs ++ v ∷ []) (sym e) in
    let u : members_of (take (i + 1) gs) ≡ members_of (take i gs) ++ g.items ∷ [] = ap members_of t ∙ members_of-append (take i gs) (g ∷ []) in
    let a : group_total (members_of (take i gs) ++ g.items ∷ []) ≡ group_total (members_of (take i gs)) + group_total (g.items ∷ []) =
    total-append (λ ms. total (λ m. suc (extent m)) ms) (members_of (take i gs)) (g.items ∷ []) in
    let s : rows + group_total (members_of (take i gs)) ≡ sum = h.size in
    subst (GroupsMeasured n rows more) (sym u) (record { below = members_append (SystemBelow n) (members_of (take i gs)) (g.items ∷ []) h.below (b, tt); size = omega arith })

-- the groups about one of them
groups_around : (gs : List (Vec System Global)) (i : ℕ) (g : Vec System Global) → i < length gs → g ≡ get_or gs i g →
    members_of (take i gs) ++ g.items ∷ members_of (drop (i + 1) gs) ≡ members_of gs
groups_around gs i g l e = sym (members_of-append (take i gs) (g ∷ drop (i + 1) gs)) ∙ ap members_of (around gs i g l e)

-- the groups as many as those so far, one more and the rest
group_totals_around : (gs : List (Vec System Global)) (i : ℕ) (g : Vec System Global) → i < length gs → g ≡ get_or gs i g →
    group_total (members_of (take i gs)) + member_total g.items ≤ group_total (members_of gs)
group_totals_around gs i g l e =
    let a : group_total (members_of (take i gs) ++ g.items ∷ members_of (drop (i + 1) gs)) ≡
    group_total (members_of (take i gs)) + (member_total g.items + group_total (members_of (drop (i + 1) gs))) =
    total-append (λ ms. total (λ m. suc (extent m)) ms) (members_of (take i gs)) (g.items ∷ members_of (drop (i + 1) gs)) in
    let b : group_total (members_of (take i gs) ++ g.items ∷ members_of (drop (i + 1) gs)) ≡ group_total (members_of gs) = ap group_total (groups_around gs i g l e) in
    omega arith

-- what holds of the members of all groups holds of those of one
group_of_all : (P : System → Type 0) (before : List (List System)) (g : List System) (rest : List (List System)) → AllMembers P (before ++ g ∷ rest) → AllByRecursion P g
group_of_all P [] g rest h = h.0
group_of_all P (b ∷ before) g rest h = group_of_all P before g rest h.1

-- ---- systems

-- all groups
pub all_measured : (n sum : ℕ) (s : System) (gs : List (Vec System Global)) → members_of gs ≡ groups_of s → RowsBelow n (rows_of s) →
    GroupsMeasured n (length (rows_of s)) sum (members_of gs) → SystemBelow n s × (extent s ≡ sum)
all_measured n sum s gs e r h =
    let x : extent s ≡ length (rows_of s) + group_total (groups_of s) = extent_opened s in
    let y : group_total (members_of gs) ≡ group_total (groups_of s) = ap group_total e in
    let z : length (rows_of s) + group_total (members_of gs) ≡ sum = h.size in
    (SystemBelow_close n s (r, subst (AllMembers (SystemBelow n)) e h.below), omega arith)

-- a system with a column that is not below
pub columns_past : (most n : ℕ) (s : System) → (RowsBelow n (rows_of s) → ⊥) → SystemBelow n s → most ≤ extent s
columns_past most n s f h = absurd (f (SystemBelow_open n s h).0)

-- a system with a group that is too large
pub group_too_large : (most n : ℕ) (s : System) (gs : List (Vec System Global)) (i : ℕ) (g : Vec System Global) → members_of gs ≡ groups_of s → i < length gs → g ≡ get_or gs i g →
    (AllByRecursion (SystemBelow n) g.items → most ≤ member_total g.items) → SystemBelow n s → most ≤ extent s
group_too_large most n s gs i g d l e f h =
    let x : extent s ≡ length (rows_of s) + group_total (groups_of s) = extent_opened s in
    let y : group_total (members_of gs) ≡ group_total (groups_of s) = ap group_total d in
    let a : group_total (members_of (take i gs)) + member_total g.items ≤ group_total (members_of gs) = group_totals_around gs i g l e in
    let all : AllMembers (SystemBelow n) (members_of (take i gs) ++ g.items ∷ members_of (drop (i + 1) gs)) =
    subst (AllMembers (SystemBelow n)) (sym (groups_around gs i g l e ∙ d)) (SystemBelow_open n s h).1 in
    let k : most ≤ member_total g.items = f (group_of_all (SystemBelow n) (members_of (take i gs)) g.items (members_of (drop (i + 1) gs)) all) in
    omega arith

-- a system whose groups are too large with one more
pub groups_too_large : (most n sum size : ℕ) (s : System) (gs : List (Vec System Global)) (i : ℕ) (g : Vec System Global) → members_of gs ≡ groups_of s → i < length gs → g ≡ get_or gs i g →
    GroupsMeasured n (length (rows_of s)) sum (members_of (take i gs)) → member_total g.items ≡ size → most ≤ sum + size → most ≤ extent s
groups_too_large most n sum size s gs i g d l e h z k =
    let x : extent s ≡ length (rows_of s) + group_total (groups_of s) = extent_opened s in
    let y : group_total (members_of gs) ≡ group_total (groups_of s) = ap group_total d in
    let a : group_total (members_of (take i gs)) + member_total g.items ≤ group_total (members_of gs) = group_totals_around gs i g l e in
    let t : length (rows_of s) + group_total (members_of (take i gs)) ≡ sum = h.size in
    omega arith
