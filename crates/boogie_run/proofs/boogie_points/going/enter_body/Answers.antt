use Rattle.std.proofs.Common.{◌≡◌, ◌∙◌, ◌∷◌, [], subst, false, true, not, List, ap, sym, refl, map}
use Rattle.std.specs.Prelude.{slice_get}
use Rattle.std.specs.List.{AllByRecursion}
use Rattle.std.specs.Option.{is_some}
use Rattle.typed_tree.specs.TypedView as view
use Rattle.boogie_run.specs.BoogiePoints.Points.{Todo, Entry, Point, settled}
use Rattle.boogie_run.specs.BoogiePoints.Actions.{free_conditions}
use Rattle.boogie_run.specs.BoogiePoints.Room.{HasRoom}
use Rattle.boogie_run.specs.BoogiePoints.View.{todo_of, stack_of, point_of}
use Rattle.boogie_run.proofs.BoogiePoints.RoomLaws.{settled_at}
use Rattle.boogie_run.proofs.BoogiePoints.StackLaws.{stack_none}
use Rattle.boogie_run.proofs.BoogiePoints.WayLaws.{entry_first, entry_none, seen_some}
use Rattle.boogie_run.proofs.boogie_points.going.enter_body.Goals as goal

pub returns-then-is_none-clause-ok : goal.returns-then-is_none-clause-ok
returns-then-is_none-clause-ok c =
    let stack : stack_of c.push.new.todo.items ≡ todo_of c.args.body ∷ [] =
    c.in_ok-push.ensures.ok refl ∙ ap (λ (ts : List Todo). todo_of c.args.body ∷ ts) (ap stack_of c.new-todo.ensures.items ∙ stack_none) in
    let none : is_some (slice_get (free_conditions (map view.specification c.args.specs.now)) 0) ≡ false =
    sym (seen_some _ _ _ c.free_condition.ensures) ∙ c.is_none.ensures ∙ ap not c.if-is_none.true in
    λ _. c.settle.ensures ∙ ap settled stack ∙ sym (entry_none (free_conditions (map view.specification c.args.specs.now)) (todo_of c.args.body) none)

pub returns-then-is_none-clause-room : goal.returns-then-is_none-clause-room
returns-then-is_none-clause-room c =
    let stack : stack_of c.push.new.todo.items ≡ todo_of c.args.body ∷ [] =
    c.in_ok-push.ensures.ok refl ∙ ap (λ (ts : List Todo). todo_of c.args.body ∷ ts) (ap stack_of c.new-todo.ensures.items ∙ stack_none) in
    λ procs h k. settled_at procs (todo_of c.args.body ∷ []) (point_of c.settle.new.point) (c.settle.ensures ∙ ap settled stack) (h, tt)

pub returns-clause-ok : goal.returns-clause-ok
returns-clause-ok c =
    let stack : stack_of c.push.new.todo.items ≡ todo_of c.args.body ∷ [] =
    c.in_ok-push.ensures.ok refl ∙ ap (λ (ts : List Todo). todo_of c.args.body ∷ ts) (ap stack_of c.new-todo.ensures.items ∙ stack_none) in
    let some : is_some (slice_get (free_conditions (map view.specification c.args.specs.now)) 0) ≡ true =
    sym (seen_some _ _ _ c.free_condition.ensures) ∙ c.is_none.ensures ∙ ap not c.if-is_none.false in
    λ _. ap (λ (ts : List Todo). let p : Point = record { stage = Entry; todo = ts; part = 0 } in p) stack
    ∙ sym (entry_first (free_conditions (map view.specification c.args.specs.now)) (todo_of c.args.body) some)

pub returns-clause-room : goal.returns-clause-room
returns-clause-room c =
    let stack : stack_of c.push.new.todo.items ≡ todo_of c.args.body ∷ [] =
    c.in_ok-push.ensures.ok refl ∙ ap (λ (ts : List Todo). todo_of c.args.body ∷ ts) (ap stack_of c.new-todo.ensures.items ∙ stack_none) in
    λ procs h k. subst (λ (ts : List Todo). AllByRecursion (HasRoom procs) ts) (sym stack) (h, tt)
