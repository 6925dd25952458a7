-- Why a system that a tree refutes is met by no whole point: no goal of the tree is met, by the same recursion.
use Rattle.std.proofs.Common.{ℕ, ℤ, List, [], ◌∷◌, ◌++◌, map, refl, inl, inr}
use Rattle.std.specs.List.{AllByRecursion}
use Rattle.lin_rows.specs.declared.systems.System.{System}
use Rattle.lin_rows.specs.Rows.{LinearRow, Holds}
use Rattle.lin_rows.specs.Tightening.{content, tightened}
use Rattle.lin_rows.specs.Systems.{SomeMember, EachHasMember, Meets, rows_of, groups_of}
use Rattle.lin_rows.proofs.Contradiction.{contradicted}
use Rattle.lin_rows.proofs.TighteningLaw.{holds_tightened_by}
use Rattle.lin_rows.proofs.NegatingLemmas.{negated_holds}
use Rattle.lin_rows.proofs.SystemLaws.{meets_open}
use Rattle.farkas_check.specs.Nodes.{PlainNode, leaf, cut, cases}
use Rattle.farkas_check.specs.Refutes.{Goal, at_most, above, with_row, goal_with_member, goal_of, CasesRefute, Refute, Refutes}

-- a point meets a goal
pub record MeetsGoal (point : ℕ → ℤ) (g : Goal) : Type 0 where
  pub rows : AllByRecursion (Holds point) g.rows
  pub groups : EachHasMember (Meets point) g.groups

-- a point meets none of these goals
abbrev pub NoneMet : (ℕ → ℤ) → List Goal → Type 0
NoneMet point [] = Unit {0}
NoneMet point (g ∷ gs) = (MeetsGoal point g → ⊥) × NoneMet point gs

-- ---- lists joined

all_append : (P : LinearRow → Type 0) (xs ys : List LinearRow) → AllByRecursion P xs → AllByRecursion P ys → AllByRecursion P (xs ++ ys)
all_append P [] ys h k = k
all_append P (x ∷ xs) ys h k = (h.0, all_append P xs ys h.1 k)

each_append : (P : System → Type 0) (gs hs : List (List System)) → EachHasMember P gs → EachHasMember P hs → EachHasMember P (gs ++ hs)
each_append P [] hs h k = k
each_append P (g ∷ gs) hs h k = (h.0, each_append P gs hs h.1 k)

none_of_append : (point : ℕ → ℤ) (gs hs : List Goal) → NoneMet point (gs ++ hs) → NoneMet point gs
none_of_append point [] hs n = tt
none_of_append point (g ∷ gs) hs n = (n.0, none_of_append point gs hs n.1)

none_behind : (point : ℕ → ℤ) (gs hs : List Goal) → NoneMet point (gs ++ hs) → NoneMet point hs
none_behind point [] hs n = n
none_behind point (g ∷ gs) hs n = none_behind point gs hs n.1

-- ---- what is added to a goal

tightened_hold : (point : ℕ → ℤ) (rows : List LinearRow) → AllByRecursion (Holds point) rows → AllByRecursion (Holds point) (map tightened rows)
tightened_hold point [] h = tt
tightened_hold point (r ∷ rs) h = ((holds_tightened_by point r (content r.terms) refl).0 h.0, tightened_hold point rs h.1)

row_met : (point : ℕ → ℤ) (g : Goal) (r : LinearRow) → MeetsGoal point g → Holds point r → MeetsGoal point (with_row g r)
row_met point g r m h = record { rows = all_append (Holds point) g.rows (r ∷ []) m.rows (h, tt); groups = m.groups }

member_met : (point : ℕ → ℤ) (g : Goal) (s : System) → MeetsGoal point g → Meets point s → MeetsGoal point (goal_with_member g s)
member_met point g s m h =
    let o = meets_open point s h in
    record {
      rows = all_append (Holds point) g.rows (map tightened (rows_of s)) m.rows (tightened_hold point (rows_of s) o.0);
      groups = each_append (Meets point) g.groups (groups_of s) m.groups o.1;
    }

-- where a point meets the goal but none of the goals with a member, it meets no member
no_member : (point : ℕ → ℤ) (g : Goal) (members : List System) → MeetsGoal point g → NoneMet point (map (goal_with_member g) members) → SomeMember (Meets point) members → ⊥
no_member point g [] m n h = h
no_member point g (s ∷ ss) m n (inl h) = n.0 (member_met point g s m h)
no_member point g (s ∷ ss) m n (inr h) = no_member point g ss m n.1 h

-- where a point meets the goal, it meets one side of a cut
cut_sound : (point : ℕ → ℤ) (g : Goal) (c : ℕ) (k : ℤ) → (MeetsGoal point (with_row g (at_most c k)) → ⊥) → (MeetsGoal point (with_row g (above c k)) → ⊥) → MeetsGoal point g → ⊥
cut_sound point g c k n p m =
    p (row_met point g (above c k) m ((negated_holds point (at_most c k) refl).1 (λ h. n (row_met point g (at_most c k) m h))))

-- one case for each member of the first group
cases_sound : (point : ℕ → ℤ) (gs : List Goal) (refute : List Goal → Type 0) (n : ℕ) (rows : List LinearRow) (groups : List (List System)) →
    ((goals : List Goal) → refute goals → NoneMet point (goals ++ gs)) → CasesRefute refute n rows groups →
    (MeetsGoal point (record { rows = rows; groups = groups }) → ⊥) × NoneMet point gs
cases_sound point gs refute n rows [] f r = absurd r
cases_sound point gs refute n rows (members ∷ groups) f r =
    let g : Goal = record { rows = rows; groups = groups } in
    let none : NoneMet point (map (goal_with_member g) members ++ gs) = f (map (goal_with_member g) members) r.1 in (
      λ m. no_member point g members (record { rows = m.rows; groups = m.groups.1 }) (none_of_append point (map (goal_with_member g) members) gs none) m.groups.0,
      none_behind point (map (goal_with_member g) members) gs none,
    )

-- ---- the theorem

-- no point meets a goal that is refuted
pub none_met : (point : ℕ → ℤ) (ns : List PlainNode) (gs : List Goal) → Refute ns gs → NoneMet point gs
none_met point [] [] r = tt
none_met point [] (g ∷ gs) r = absurd r
none_met point (n ∷ ns) [] r = tt
none_met point (leaf parts ∷ ns) (g ∷ gs) r = (λ m. contradicted g.rows parts point r.0 m.rows, none_met point ns gs r.1)
none_met point (cut c k ∷ ns) (g ∷ gs) r =
    let h = none_met point ns (with_row g (at_most c k) ∷ with_row g (above c k) ∷ gs) r.2 in
    (cut_sound point g c k h.0 h.1.0, h.1.1)
none_met point (cases n ∷ ns) (g ∷ gs) r =
    cases_sound point gs (λ goals. Refute ns (goals ++ gs)) n g.rows g.groups (λ goals h. none_met point ns (goals ++ gs) h) r

-- no whole point meets a system that a tree refutes
pub refuted : (nodes : List PlainNode) (s : System) (point : ℕ → ℤ) → Refutes nodes s → Meets point s → ⊥
refuted nodes s point r m =
    let o = meets_open point s m in
    (none_met point nodes (goal_of s ∷ []) r).0 (record { rows = tightened_hold point (rows_of s) o.0; groups = o.1 })
