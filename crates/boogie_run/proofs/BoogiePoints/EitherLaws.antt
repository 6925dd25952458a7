-- Where a step is refused the point stays, and so has room.
use Rattle.std.proofs.Common.{◌≡◌, List, Result, Ok, Err, sym, subst, refl}
use Rattle.std.specs.Result.{IsOk, IsErr}
use Rattle.typed_tree.specs.TypedTree.{TypedProcedure}
use Rattle.boogie_run.specs.BoogiePoints.Points.{Point}
use Rattle.boogie_run.specs.BoogiePoints.Room.{PointHasRoom}

pub room_either : {T E : Type 0} (procs : List TypedProcedure) (r : Result T E) (before after : Point) → PointHasRoom procs before → (IsErr r → after ≡ before) →
    (IsOk r → PointHasRoom procs after) → PointHasRoom procs after
room_either procs (Ok x) before after h kept went = went refl
room_either procs (Err e) before after h kept went = subst (PointHasRoom procs) (sym (kept refl)) h
