-- The goal at hand on the walk of a triple: what each of its rows is, the groups, and the members that were taken.
use Rattle.std.specs.Prelude.{◌≡◌, ℕ, suc, ◌+◌, ◌≤◌, Bool, List, [], ◌∷◌, ◌++◌, map, reverse, take, drop, length, Option, None, Some}
use Rattle.nested_itp.specs.NestedRefutations.Refutations.{Role, spare, atom_at, branch_row, atom_roles, Gathered}
use Rattle.nested_itp.specs.TripleSteps.Sections.{tie_role}
use Rattle.nested_itp.specs.TripleWalks.Stops.{taken_of}
use Rattle.nested_itp.specs.declared.triple_walks.goals.Role as row
use Rattle.nested_itp.specs.declared.triple_walks.goals.Role.TheVariants as rows
use Rattle.nested_itp.specs.declared.triple_walks.goals.Group as group
use Rattle.nested_itp.specs.declared.triple_walks.goals.Mark as mark
use Rattle.nested_itp.specs.declared.triple_walks.goals.Goal as code

abbrev pub role_of : row.Role → Role
role_of rows.Spare = spare
role_of (rows.Atom claim leaf) = atom_at claim leaf
role_of (rows.Word r) = branch_row r
role_of (rows.Tied tie) = tie_role tie

abbrev pub group_of : group.Group → ℕ × ℕ
group_of g = (g.claim, g.node)

-- the rows, the groups and how many of them were opened, and the members that were taken, the last one last
pub record PlainGoal : Type 0 where
  pub roles : List Role
  pub groups : List (ℕ × ℕ)
  pub first : ℕ
  pub taken : List (ℕ × ℕ × Bool)

abbrev pub plain_goal : code.Goal → PlainGoal
plain_goal x = record { roles = map role_of x.roles.items; groups = map group_of x.groups.items; first = x.first; taken = map taken_of x.taken.items }

-- ---- steps

abbrev pub with_roles : List Role → PlainGoal → PlainGoal
with_roles roles g = record g { roles = g.roles ++ roles }

abbrev pub with_groups : List (ℕ × ℕ) → PlainGoal → PlainGoal
with_groups groups g = record g { groups = g.groups ++ groups }

-- with the rows of the atoms of a claim at these leaves, and with the groups of the claim at these cuts
abbrev pub with_exposed : ℕ → Bool → List ℕ → List ℕ → PlainGoal → PlainGoal
with_exposed i used leaves groups g = record g { roles = g.roles ++ atom_roles used i leaves; groups = g.groups ++ map (λ n. (i, n)) groups }

abbrev pub with_taken : ℕ × ℕ × Bool → PlainGoal → PlainGoal
with_taken t g = record g { taken = g.taken ++ t ∷ [] }

-- a group is opened, if there is one
abbrev pub without_first : Option (ℕ × ℕ) → PlainGoal → PlainGoal
without_first None g = g
without_first (Some group) g = record g { first = suc g.first }

-- how much there is
abbrev pub mark_of : PlainGoal → mark.Mark
mark_of g = record { roles = length g.roles; groups = length g.groups; first = g.first; taken = length g.taken }

-- as much as there was
abbrev pub gone_back : mark.Mark → PlainGoal → PlainGoal
gone_back m g = record { roles = take m.roles g.roles; groups = take m.groups g.groups; first = m.first; taken = take m.taken g.taken }

-- ---- the goal of the definition

-- the goal at hand is this one
pub record IsGoal (h : Gathered) (g : PlainGoal) : Type 0 where
  pub roles : g.roles ≡ h.roles
  pub groups : drop g.first g.groups ≡ map (λ p. (p.0, p.1.node)) h.groups
  pub opened : g.first ≤ length g.groups
  pub taken : reverse g.taken ≡ h.taken
