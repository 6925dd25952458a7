-- The places of a body have numbers that fit.
use Rattle.std.proofs.Common.{◌≡◌, ℕ, zero, suc, ◌+◌, ◌<◌, ◌≤◌, ◌^◌, List, [], ◌∷◌, length, Some, ap, sym, subst, arith}
use Rattle.std.specs.Prelude.{slice_get}
use Rattle.std.proofs.lemmas.Option.{same_Some}
use Rattle.typed_tree.specs.TypedTree.{TypedBlock, TypedProcedure, TypedProgram}
use Rattle.typed_tree.specs.TypingRules.Counts.{free_requires, all_ensures, block_points, body_points, all_places, places}
use Rattle.boogie_run.specs.BoogiePoints.Actions.{free_conditions}
use Rattle.boogie_run.proofs.BoogiePoints.ConditionLaws.{free_requires_counted}
use Rattle.explained_proof.specs.Ties.Fitting.{HasPlaces}
use Rattle.explained_proof.specs.Statements.{left}

points_within : (procs ps : List TypedProcedure) (n : ℕ) (q : TypedProcedure) → slice_get ps n ≡ Some q → body_points procs q.specs q.body ≤ all_places procs ps
points_within procs [] n q e = cc
points_within procs (p ∷ ps) zero q e =
    let same : body_points procs p.specs p.body ≡ body_points procs q.specs q.body = ap (λ (x : TypedProcedure). body_points procs x.specs x.body) (same_Some p q e) in
    omega arith
points_within procs (p ∷ ps) (suc n) q e = omega (arith, points_within procs ps n q e)

-- the statements of a body, behind the free requires, from its entry place on
pub statements_fit : (t : TypedProgram) (n : ℕ) (q : TypedProcedure) (b : TypedBlock) (place : ℕ) → places t < 2 ^ 32 → place < 2 ^ 32 → slice_get t.procs n ≡ Some q → q.body ≡ Some b →
    HasPlaces t.procs (left b (place + length (free_conditions q.specs)))
statements_fit t n q b place fit below s h =
    let within = points_within t.procs t.procs n q s in
    let whole : body_points t.procs q.specs q.body ≡ free_requires q.specs + (block_points t.procs b + (all_ensures q.specs + 1)) = ap (body_points t.procs q.specs) h in
    let free = free_requires_counted q.specs in
    record { count = omega arith; numbers = omega arith }

-- the same of the procedures and from the number that the code has
pub statements_there : (procs : List TypedProcedure) (at : ℕ) (t : TypedProgram) (n : ℕ) (q : TypedProcedure) (b : TypedBlock) (place : ℕ) → procs ≡ t.procs → at ≡ place + length (free_conditions q.specs) →
    places t < 2 ^ 32 → place < 2 ^ 32 → slice_get t.procs n ≡ Some q → q.body ≡ Some b → HasPlaces procs (left b at)
statements_there procs at t n q b place e a fit below s h =
    subst (λ (ps : List TypedProcedure). HasPlaces ps (left b at)) (sym e) (subst (λ (k : ℕ). HasPlaces t.procs (left b k)) (sym a) (statements_fit t n q b place fit below s h))
