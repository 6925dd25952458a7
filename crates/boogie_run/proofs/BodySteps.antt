-- The body of a procedure as a block, from the numbers that were found.
use Rattle.std.proofs.Common.{◌≡◌, ◌∙◌, ℕ, false, ap, sym, subst, arith, Option, Some}
use Rattle.std.specs.Prelude.{slice_get}
use Rattle.typed_tree.specs.TypedTree.{TypedBlock, TypedProcedure, TypedProgram}
use Rattle.boogie_run.specs.declared.boogie_points.numbers.First.{First}
use Rattle.boogie_run.specs.BoogiePoints.Points.{Todo}
use Rattle.boogie_run.specs.BoogiePoints.Numbered.{body_block, block_of, IsFirstOf, IsFirst}
use Rattle.boogie_run.specs.BoogiePoints.Room.{HasRoom}

-- the numbers are those of the body
is_of : (t : TypedProgram) (n : ℕ) (q : TypedProcedure) (b : TypedBlock) (f : First) → slice_get t.procs n ≡ Some q → q.body ≡ Some b →
    IsFirst t n (slice_get t.procs n) (Some f) → IsFirstOf t n q (Some b) (Some f)
is_of t n q b f e g h =
    subst (λ (o : Option TypedBlock). IsFirstOf t n q o (Some f)) g (subst (λ (p : Option TypedProcedure). IsFirst t n p (Some f)) e h)

abbrev block_at : TypedBlock → First → Todo
block_at b f = record { rest = b; of_loop = false; id = f.id; at = f.at }

pub block_found : (t : TypedProgram) (n : ℕ) (q : TypedProcedure) (b r : TypedBlock) (f : First) → slice_get t.procs n ≡ Some q → q.body ≡ Some b → r ≡ b →
    IsFirst t n (slice_get t.procs n) (Some f) → Some (record { rest = r; of_loop = false; id = f.id; at = f.at }) ≡ block_of t n (slice_get t.procs n)
block_found t n q b r f e g s h =
    let numbers = is_of t n q b f e g h in
    ap (λ (x : TypedBlock). Some (block_at x f)) s ∙ ap (λ (x : First). Some (block_at b x)) numbers.0 ∙ ap (body_block t n q) (sym g) ∙ ap (block_of t n) (sym e)

pub block_room : (t : TypedProgram) (n : ℕ) (q : TypedProcedure) (b r : TypedBlock) (f : First) → slice_get t.procs n ≡ Some q → q.body ≡ Some b → r ≡ b →
    IsFirst t n (slice_get t.procs n) (Some f) → HasRoom t.procs (record { rest = r; of_loop = false; id = f.id; at = f.at })
block_room t n q b r f e g s h =
    let numbers = is_of t n q b f e g h in
    let id = ap (λ (x : First). x.id) numbers.0 in
    let at = ap (λ (x : First). x.at) numbers.0 in
    subst (λ (x : TypedBlock). HasRoom t.procs (block_at x f)) (sym s) (record { assertions = omega (arith, id, numbers.1); places = omega (arith, at, numbers.2) })
