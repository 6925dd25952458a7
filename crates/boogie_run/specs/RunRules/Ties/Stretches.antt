-- Stretches of steps of the machine that one rule makes at once: conditions one after another, and values chosen one after another.
use Rattle.std.specs.Prelude.{◌≡◌, ℕ, ◌+◌, ◌≤◌, ℤ, true, List, [], ◌∷◌, ◌++◌, take, length, Option, None, Some, slice_get, if◌then◌else◌}
use Rattle.boogie_tree.specs.declared.tree.Ty.{Ty}
use Rattle.typed_tree.specs.TypedTree.{TypedInvariant, TypedProgram}
use Rattle.typed_tree.specs.Values.{State, value}
use Rattle.typed_tree.specs.TypingRules.Counts.{plain_invariants}
use Rattle.boogie_run.specs.Configurations.{Config}
use Rattle.boogie_run.specs.Needs.{need, is_taken, need_of_type}
use Rattle.boogie_run.specs.Steps.{Outcome, Went, Blocked, Failed, step, is_true}
use Rattle.boogie_run.specs.Runs.{run}

-- what becomes of a condition: it is met, or it is free and blocks, or it is assertion n and fails
abbrev pub outcome_of : State → TypedInvariant → ℕ → Config → Outcome
outcome_of s i n next = if is_true (value s i.cond) then Went next else (if i.free then Blocked else Failed n)

-- At configuration number k the condition number k is next, read in s; those that are not free are numbered on from id. None takes a choice.
abbrev pub ConditionsFollow : TypedProgram → (ℕ → Config) → State → List TypedInvariant → ℕ → Type 0
ConditionsFollow t at s is id =
    (k : ℕ) (i : TypedInvariant) → slice_get is k ≡ Some i →
    (step t (at k) None ≡ outcome_of s i (id + plain_invariants (take k is)) (at (k + 1))) × ((choice : Option ℤ) → is_taken (need t (at k)) choice ≡ true → choice ≡ None)

-- With the values vs chosen a value of the next type is chosen next.
abbrev pub ChoicesFollow : TypedProgram → (List ℤ → Config) → List Ty → Type 0
ChoicesFollow t at tys =
    (vs : List ℤ) (ty : Ty) → slice_get tys (length vs) ≡ Some ty →
    (need t (at vs) ≡ need_of_type ty) × ((v : ℤ) → is_taken (need_of_type ty) (Some v) ≡ true → step t (at vs) (Some v) ≡ Went (at (vs ++ v ∷ [])))

-- the machine goes from c, by no more steps than this, to the failure of assertion n
pub record FailsFrom (t : TypedProgram) (c : Config) (n bound : ℕ) : Type 0 where
  pub choices : List (Option ℤ)
  pub most : length choices ≤ bound
  pub fails : run t c choices ≡ Failed n

-- the machine goes from c to d
abbrev pub Reaches : TypedProgram → Config → Config → Type 0
Reaches t c d = (choices : List (Option ℤ)) × (run t c choices ≡ Went d)

-- the machine goes from c to the failure of assertion n
abbrev pub ReachesFailure : TypedProgram → Config → ℕ → Type 0
ReachesFailure t c n = (choices : List (Option ℤ)) × (run t c choices ≡ Failed n)
