-- Systems as plain trees, and the systems of triples, row by row.
use Rattle.std.specs.Prelude.{◌≡◌, ◌⊎◌, ℕ, suc, ◌+◌, ◌-◌, ℤ, true, false, List, [], ◌∷◌, ◌++◌, map, filter, length, nat_eq, nat_lt, not, ◌||◌, if◌then◌else◌}
use Rattle.std.specs.List.{AllByRecursion}
use Rattle.boogie_tree.specs.declared.tree.Ty.TheVariants as types
use Rattle.lin_rows.specs.declared.systems.System.{System}
use Rattle.lin_rows.specs.Rows.{LinearRow, IsRow, Holds}
use Rattle.lin_rows.specs.Negating.{negated}
use Rattle.lin_rows.specs.Tightening.{never}
use Rattle.lin_rows.specs.Systems.{rows_of, groups_of}
use Rattle.letter_acts.specs.Frames.{Columns, globals_of, constants_of, variables_of, result_columns, olds_of}
use Rattle.letter_acts.specs.Reading.{taken, is_listed}
use Rattle.letter_acts.specs.Invariant.{written_by}
use Rattle.letter_acts.specs.FrameRows.Rows.{renamed, equal_row, bounds, types_of, types_at}
use Rattle.triple_rows.specs.Predicates.{Formula, Formulas, truth, atom, and_of, or_of, no_formula, one_more}

-- ---- systems

-- a system as a plain tree: its rows, and its groups of members
mutual
  pub data PlainSystem : Type 0 where
    plain_system : List LinearRow → Groups → PlainSystem

  pub data Groups : Type 0 where
    no_group : Groups
    one_group : Members → Groups → Groups

  pub data Members : Type 0 where
    no_member : Members
    one_member : PlainSystem → Members → Members

-- a point meets it: all rows hold there, and each group has a member that the point meets
abbrev mutual
  pub PlainMeets : (ℕ → ℤ) → PlainSystem → Type 0
  PlainMeets point (plain_system rows groups) = AllByRecursion (Holds point) rows × GroupsMet point groups

  pub GroupsMet : (ℕ → ℤ) → Groups → Type 0
  GroupsMet point no_group = Unit {0}
  GroupsMet point (one_group members groups) = SomeMet point members × GroupsMet point groups

  pub SomeMet : (ℕ → ℤ) → Members → Type 0
  SomeMet point no_member = ⊥
  SomeMet point (one_member system members) = PlainMeets point system ⊎ SomeMet point members

-- each number of the system fits
abbrev mutual
  pub PlainFits : PlainSystem → Type 0
  PlainFits (plain_system rows groups) = AllByRecursion IsRow rows × GroupsFit groups

  pub GroupsFit : Groups → Type 0
  GroupsFit no_group = Unit {0}
  GroupsFit (one_group members groups) = MembersFit members × GroupsFit groups

  pub MembersFit : Members → Type 0
  MembersFit no_member = Unit {0}
  MembersFit (one_member system members) = PlainFits system × MembersFit members

-- the system has these rows and these groups, in order
abbrev mutual
  pub IsSystem : PlainSystem → System → Type 0
  IsSystem (plain_system rows groups) s = (rows_of s ≡ rows) × AreGroups groups (groups_of s)

  pub AreGroups : Groups → List (List System) → Type 0
  AreGroups no_group [] = Unit {0}
  AreGroups no_group (g ∷ gs) = ⊥
  AreGroups (one_group members groups) [] = ⊥
  AreGroups (one_group members groups) (g ∷ gs) = AreMembers members g × AreGroups groups gs

  pub AreMembers : Members → List System → Type 0
  AreMembers no_member [] = Unit {0}
  AreMembers no_member (s ∷ ss) = ⊥
  AreMembers (one_member system members) [] = ⊥
  AreMembers (one_member system members) (s ∷ ss) = IsSystem system s × AreMembers members ss

abbrev pub groups_joined : Groups → Groups → Groups
groups_joined no_group more = more
groups_joined (one_group members groups) more = one_group members (groups_joined groups more)

-- both systems at once: the rows of the first and then those of the second, and their groups likewise
abbrev pub both_systems : PlainSystem → PlainSystem → PlainSystem
both_systems (plain_system rows groups) (plain_system more_rows more_groups) =
    plain_system (rows ++ more_rows) (groups_joined groups more_groups)

-- rows alone
abbrev pub only_rows : List LinearRow → PlainSystem
only_rows rows = plain_system rows no_group

-- all of the systems at once, in order
abbrev pub all_systems : List PlainSystem → PlainSystem
all_systems [] = only_rows []
all_systems (s ∷ ss) = both_systems s (all_systems ss)

-- one of the members
abbrev pub one_of : Members → PlainSystem
one_of members = plain_system [] (one_group members no_group)

-- ---- what a predicate says

-- that a predicate holds, over columns renamed: an atom gives its row, `and` its parts, `or` a group, false the row `0 <= -1`
abbrev mutual
  pub said : (ℕ → ℕ) → Formula → PlainSystem
  said to (truth true) = only_rows []
  said to (truth false) = only_rows (never ∷ [])
  said to (atom r) = only_rows (renamed to r ∷ [])
  said to (and_of fs) = all_said to fs
  said to (or_of fs) = one_of (members_said to fs)

  pub all_said : (ℕ → ℕ) → Formulas → PlainSystem
  all_said to no_formula = only_rows []
  all_said to (one_more f fs) = both_systems (said to f) (all_said to fs)

  pub members_said : (ℕ → ℕ) → Formulas → Members
  members_said to no_formula = no_member
  members_said to (one_more f fs) = one_member (said to f) (members_said to fs)

-- that it does not hold: an atom gives `-a.x <= -b-1`, `and` a group, `or` its parts, true the row `0 <= -1`
abbrev mutual
  pub denied : (ℕ → ℕ) → Formula → PlainSystem
  denied to (truth true) = only_rows (never ∷ [])
  denied to (truth false) = only_rows []
  denied to (atom r) = only_rows (negated (renamed to r) ∷ [])
  denied to (and_of fs) = one_of (members_denied to fs)
  denied to (or_of fs) = all_denied to fs

  pub all_denied : (ℕ → ℕ) → Formulas → PlainSystem
  all_denied to no_formula = only_rows []
  all_denied to (one_more f fs) = both_systems (denied to f) (all_denied to fs)

  pub members_denied : (ℕ → ℕ) → Formulas → Members
  members_denied to no_formula = no_member
  members_denied to (one_more f fs) = one_member (denied to f) (members_denied to fs)

-- ---- the other rows

-- ---- the systems of triples

-- The column of the state after that column c of the frame has: the written ones stand in order from `first` on, the
-- others are those of the state before, from `base` on.
abbrev pub after_column : ℕ → ℕ → List ℕ → ℕ → ℕ
after_column base first [] c = base + c
after_column base first (d ∷ ds) c = if nat_eq d c then first else after_column base (suc first) ds c

-- of an inside triple: the source, the letter's rows, the negated target, the bounds
abbrev pub inside_system : Columns → List ℕ → List LinearRow → Formula → Formula → PlainSystem
inside_system frame written rows from to =
    let n = length frame in
    all_systems (
    said (λ c. c) from ∷
    only_rows rows ∷
    denied (after_column 0 n written) to ∷
    only_rows (bounds 0 (types_of frame)) ∷
    only_rows (bounds n (types_at frame written)) ∷
    [])

-- Of a call triple: the source, the callee's constants and globals as the caller's, its old columns as the caller's globals,
-- the letter's rows, the negated target, the bounds. The callee's columns stand after the caller's.
abbrev pub call_system : Columns → Columns → List LinearRow → Formula → Formula → PlainSystem
call_system caller callee rows from to =
    let n = length caller in
    all_systems (
    said (λ c. c) from ∷
    only_rows (map (λ c. equal_row (n + c) c) (globals_of callee)) ∷
    only_rows (map (λ o. equal_row (n + o.0) o.1) (olds_of callee)) ∷
    only_rows rows ∷
    denied (λ c. n + c) to ∷
    only_rows (bounds 0 (types_of caller)) ∷
    only_rows (bounds n (types_of callee)) ∷
    [])

-- the column of a call letter's row in the system of a return, where the callee's m columns stand before the caller's n, and
-- w written ones before the helpers
abbrev pub call_column : ℕ → ℕ → ℕ → ℕ → ℕ
call_column m n w c = if nat_lt c n then m + c else (if nat_lt c (n + m) then c - n else c + w)

-- Of a return triple: the exit, the predicate before, the callee's constants as those before, its old columns as the globals
-- before, the call letter's rows, each global that is no target as the callee's, each target as its result, the negated
-- target, the bounds. The callee's columns stand first, then the caller's before the call, then the written ones.
abbrev pub back_system : Columns → Columns → List LinearRow → List ℕ → Formula → Formula → Formula → PlainSystem
back_system caller callee rows targets exit before to =
    let m = length callee in
    let n = length caller in
    let written = written_by caller targets in
    let after = after_column m (m + n) written in
    all_systems (
    said (λ c. c) exit ∷
    said (λ c. m + c) before ∷
    only_rows (map (λ c. equal_row c (m + c)) (constants_of callee)) ∷
    only_rows (map (λ o. equal_row o.0 (m + o.1)) (olds_of callee)) ∷
    only_rows (map (renamed (call_column m n (length written))) rows) ∷
    only_rows (map (λ g. equal_row (after g) g) (filter (λ g. not (is_listed targets g)) (variables_of caller))) ∷
    only_rows (map (λ p. equal_row (after p.0) p.1) (taken targets (result_columns callee))) ∷
    denied after to ∷
    only_rows (bounds 0 (types_of callee)) ∷
    only_rows (bounds m (types_of caller)) ∷
    only_rows (bounds (m + n) (types_at caller written)) ∷
    [])
