-- That the machine and the rules agree about a statement, about a return, and about the start.
use Rattle.std.specs.Prelude.{◌≡◌, ◌⊎◌, ℕ, suc, ◌≤◌, ℤ, Bool, List, [], ◌∷◌, length, Option}
use Rattle.boogie_tree.specs.declared.tree.Column.{Column}
use Rattle.typed_tree.specs.TypedTree.{TypedStatement, TypedBlock, Then, TypedProgram}
use Rattle.boogie_run.specs.BoogiePoints.Points.{Todo, at_exit, before}
use Rattle.boogie_run.specs.Configurations.{Config}
use Rattle.boogie_run.specs.Steps.{Failed, moved_to, start}
use Rattle.boogie_run.specs.Runs.{run}
use Rattle.boogie_run.specs.RunRules.Moments.{OpenBlock, Activation, Moment, behind_statement}
use Rattle.boogie_run.specs.RunRules.Steps.{StatementLeads, StatementFails, BlocksLead, FailsBy}
use Rattle.boogie_run.specs.RunRules.Runs.{Begins}
use Rattle.boogie_run.specs.RunRules.Ties.Mirrors.{pending_of, pendings, moment_of, IsFull, WaitAll, Mirrors}
use Rattle.boogie_run.specs.RunRules.Ties.Stretches.{FailsFrom, Reaches, ReachesFailure}

-- the machine reaches a configuration that mirrors this moment
abbrev pub ReachesMirror : TypedProgram → Config → Moment → Type 0
ReachesMirror t c m = (d : Config) × Reaches t c d × Mirrors t d m

-- Some moment of which P holds is mirrored where the machine goes on to the failure of assertion n.
pub record GoesOnWhere (t : TypedProgram) (P : Moment → Type 0) (n bound : ℕ) : Type 0 where
  pub moment : Moment
  pub config : Config
  pub leads : P moment
  pub mirrors : Mirrors t config moment
  pub fails : FailsFrom t config n bound

-- Where the machine stands in a body, but for the statement: the values, what is to do under the block and what is said of the block.
pub record Scene : Type 0 where
  pub values : Config
  pub of_loop : Bool
  pub id : ℕ
  pub place : ℕ
  pub under : List Todo
  pub targets : List Column
  pub below : List Activation

pub record SceneHolds (t : TypedProgram) (sc : Scene) : Type 0 where
  pub waits : WaitAll t sc.values.below sc.targets sc.below
  pub full : IsFull t sc.values

abbrev pub todo_at : Scene → TypedStatement → TypedBlock → Todo
todo_at sc s b = record { rest = Then s b; of_loop = sc.of_loop; id = sc.id; at = sc.place }

abbrev pub config_at : Scene → TypedStatement → TypedBlock → Config
config_at sc s b = moved_to sc.values (before (todo_at sc s b ∷ sc.under))

abbrev pub here_at : Scene → TypedStatement → TypedBlock → List OpenBlock
here_at sc s b = pendings (todo_at sc s b ∷ sc.under)

abbrev pub moment_at : Scene → TypedStatement → TypedBlock → Moment
moment_at sc s b = moment_of sc.values sc.targets sc.below (here_at sc s b)

abbrev pub after_at : TypedProgram → Scene → TypedStatement → TypedBlock → List OpenBlock
after_at t sc s b = behind_statement t.procs s b (pending_of (todo_at sc s b)) ∷ pendings sc.under

abbrev pub StatementGoes : TypedProgram → Scene → TypedStatement → TypedBlock → Moment → Type 0
StatementGoes t sc s b d = StatementLeads t (moment_at sc s b) s (here_at sc s b) (after_at t sc s b) sc.id d

-- What the machine does of a statement the rules do, and the other way round.
pub record StatementAgrees (t : TypedProgram) (sc : Scene) (s : TypedStatement) (b : TypedBlock) : Type 0 where
  pub sound : (n bound : ℕ) (choices : List (Option ℤ)) → length choices ≤ suc bound → run t (config_at sc s b) choices ≡ Failed n →
      StatementFails t (moment_at sc s b) s sc.id n ⊎ GoesOnWhere t (StatementGoes t sc s b) n bound
  pub leads : (d : Moment) → StatementGoes t sc s b d → ReachesMirror t (config_at sc s b) d
  pub fails : (n : ℕ) → StatementFails t (moment_at sc s b) s sc.id n → ReachesFailure t (config_at sc s b) n

-- the same of a return
pub record ReturnAgrees (t : TypedProgram) (v : Config) (targets : List Column) (below : List Activation) : Type 0 where
  pub sound : (n bound : ℕ) (choices : List (Option ℤ)) → length choices ≤ suc bound → run t (moved_to v at_exit) choices ≡ Failed n →
      FailsBy t (moment_of v targets below []) [] n ⊎ GoesOnWhere t (BlocksLead t (moment_of v targets below []) []) n bound
  pub leads : (d : Moment) → BlocksLead t (moment_of v targets below []) [] d → ReachesMirror t (moved_to v at_exit) d
  pub fails : (n : ℕ) → FailsBy t (moment_of v targets below []) [] n → ReachesFailure t (moved_to v at_exit) n

-- the same of the start of a run
pub record StartAgrees (t : TypedProgram) : Type 0 where
  pub sound : (n : ℕ) (choices : List (Option ℤ)) → run t (start t) choices ≡ Failed n → GoesOnWhere t (Begins t) n (length choices)
  pub leads : (m : Moment) → Begins t m → ReachesMirror t (start t) m
