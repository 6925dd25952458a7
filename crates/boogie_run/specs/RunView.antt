-- Configurations of the code as contracts see them.
use Rattle.std.specs.Prelude.{◌≡◌, ◌<◌, ℤ, List, [], ◌∷◌, map, reverse, length}
use Rattle.std.specs.List.{AllByRecursion}
use Rattle.typed_tree.specs.TypedTree.{TypedProgram}
use Rattle.typed_tree.specs.TypingRules.TypedParts.{TypedParts, typed_program}
use Rattle.boogie_run.specs.BoogiePoints.Points.{at_exit}
use Rattle.boogie_run.specs.BoogiePoints.View.{point_of}
use Rattle.boogie_run.specs.BoogiePoints.Room.{PointHasRoom}
use Rattle.boogie_run.specs.BoogiePoints.Numbered.{numbers_of}
use Rattle.boogie_run.specs.declared.configurations.RunFrame.{RunFrame}
use Rattle.boogie_run.specs.declared.configurations.Config.{Config}
use Rattle.boogie_run.specs.Configurations as spec

abbrev pub frame_of : RunFrame → spec.Frame
frame_of f = record { proc = f.proc; locals = f.locals.items; entry = f.entry.items; point = point_of f.point; kept = f.kept.items }

-- the frames, the innermost first, where it is the last of the list
unfoldable pub frames_of : List RunFrame → List spec.Frame
frames_of fs = map frame_of (reverse fs)

-- where no procedure runs
abbrev pub no_frame : spec.Frame
no_frame = record { proc = 0; locals = []; entry = []; point = at_exit; kept = [] }

abbrev pub config_with : List ℤ → List spec.Frame → spec.Config
config_with globals [] = record { globals = globals; top = no_frame; below = [] }
config_with globals (f ∷ fs) = record { globals = globals; top = f; below = fs }

abbrev pub config_of : Config → spec.Config
config_of c = config_with c.globals.items (frames_of c.frames.items)

-- the points of all frames have room
abbrev pub HaveRoom : TypedProgram → spec.Config → Type 0
HaveRoom t c = PointHasRoom t.procs c.top.point × AllByRecursion (λ (f : spec.Frame). PointHasRoom t.procs f.point) c.below

-- The configuration is one of that program: numbers are those of the program, a procedure runs, and points have room.
pub record FitsProgram (t : TypedParts) (c : Config) : Type 0 where
  pub program : c.program.now ≡ t
  pub numbers : c.numbers ≡ numbers_of (typed_program t)
  pub runs : 0 < length c.frames.items
  pub room : HaveRoom (typed_program t) (config_of c)
