-- When the next step of a configuration takes no default.
use Rattle.std.specs.Prelude.{◌≡◌, nat_lt, length, Some, IsSome, MatchBool, slice_get}
use Rattle.typed_tree.specs.TypedTree.{TypedBlock, TypedProcedure, TypedProgram}
use Rattle.boogie_run.specs.BoogiePoints.Actions.{action_at}
use Rattle.boogie_run.specs.Configurations.{Config}
use Rattle.boogie_run.specs.Needs.{locals_at}
use Rattle.boogie_run.specs.RunDefaults.Standing.{PointStands}
use Rattle.boogie_run.specs.RunDefaults.Acting.{ActsOnWhatIs}

-- each constant and global has a value now and at the entry, and each local has one
pub record AreComplete (t : TypedProgram) (c : Config) : Type 0 where
  pub globals : length c.globals ≡ length t.globals
  pub entry : length c.top.entry ≡ length t.globals
  pub locals : length c.top.locals ≡ length (locals_at t c.top.proc)

-- The next step chooses a constant or a global, or else a local, that there is; or else the lists are complete, and the action acts on what is there.
abbrev pub NextIsThere : TypedProgram → Config → Type 0
NextIsThere t c =
    MatchBool (nat_lt (length c.globals) (length t.globals)) (IsSome (slice_get t.globals (length c.globals)))
    (MatchBool (nat_lt (length c.top.locals) (length (locals_at t c.top.proc))) (IsSome (slice_get (locals_at t c.top.proc) (length c.top.locals)))
    (AreComplete t c × ActsOnWhatIs t c (action_at t c.top.proc c.top.point)))

-- The frame that runs is one of a procedure with a body, it stands at a point where something is to be done, and all that is there.
pub record TakesNoDefault (t : TypedProgram) (c : Config) : Type 0 where
  pub procedure : TypedProcedure
  pub body : TypedBlock
  pub found : slice_get t.procs c.top.proc ≡ Some procedure
  pub has : procedure.body ≡ Some body
  pub stands : PointStands t c.top.proc procedure body c.top.point
  pub next : NextIsThere t c
