-- The numbers of procedures, and the room behind them.
use Rattle.std.proofs.Common.{◌≡◌, ℕ, zero, suc, ◌+◌, ◌<◌, ◌≤◌, ◌^◌, true, List, [], ◌∷◌, length, refl, ap, sym, ◌∙◌, subst, arith, Option, None, Some}
use Rattle.std.specs.Prelude.{slice_get, IsTrue, IfSome}
use Rattle.std.specs.List.{Contains}
use Rattle.std.specs.Option.{is_some}
use Rattle.std.proofs.lemmas.Option.{same_Some, slice_get_within, get_or_from_slice_get}
use Rattle.typed_tree.specs.TypedTree.{TypedBlock, TypedProcedure, TypedProgram}
use Rattle.typed_tree.specs.TypingRules.Counts.{plain_ensures, block_assertions, body_assertions, body_points, all_places, checked_at_call, places}
use Rattle.typed_tree.specs.TypingRules.ValidProgram.{is_valid}
use Rattle.typed_tree.specs.TypingRules.Laws as law
use Rattle.boogie_run.specs.declared.boogie_points.numbers.First.{First}
use Rattle.boogie_run.specs.BoogiePoints.Actions.{assertions_before, points_before, first_assertion, first_place}
use Rattle.boogie_run.specs.BoogiePoints.Numbered.{first_numbers, numbered, numbers_of, IsFirstOf, IsFirst}
use Rattle.boogie_run.proofs.BoogiePoints.ConditionLaws.{free_requires_counted}

-- the numbers of the procedure of that number
numbered_at : (procs : List TypedProcedure) (id at : ℕ) (ps : List TypedProcedure) (n : ℕ) (q : TypedProcedure) → slice_get ps n ≡ Some q →
    slice_get (numbered procs id at ps) n ≡ Some (first_numbers procs (id + assertions_before procs ps n) (at + points_before procs ps n) q q.body)
numbered_at procs id at [] n q e = cc
numbered_at procs id at (p ∷ ps) zero q e =
    let same : p ≡ q = same_Some p q e in
    let i : id ≡ id + 0 = omega arith in
    let j : at ≡ at + 0 = omega arith in
    ap (λ (x : TypedProcedure). Some (first_numbers procs id at x x.body)) same
    ∙ ap (λ (m : ℕ). Some (first_numbers procs m at q q.body)) i ∙ ap (λ (m : ℕ). Some (first_numbers procs (id + 0) m q q.body)) j
numbered_at procs id at (p ∷ ps) (suc n) q e =
    let i : (id + body_assertions procs p.specs p.body) + assertions_before procs ps n ≡ id + (body_assertions procs p.specs p.body + assertions_before procs ps n) = omega arith in
    let j : (at + body_points procs p.specs p.body) + points_before procs ps n ≡ at + (body_points procs p.specs p.body + points_before procs ps n) = omega arith in
    numbered_at procs (id + body_assertions procs p.specs p.body) (at + body_points procs p.specs p.body) ps n q e
    ∙ ap (λ (m : ℕ). Some (first_numbers procs m ((at + body_points procs p.specs p.body) + points_before procs ps n) q q.body)) i
    ∙ ap (λ (m : ℕ). Some (first_numbers procs (id + (body_assertions procs p.specs p.body + assertions_before procs ps n)) m q q.body)) j

-- what stands before a procedure and in it is at most the whole
assertions_within : (procs ps : List TypedProcedure) (n : ℕ) (q : TypedProcedure) → slice_get ps n ≡ Some q →
    assertions_before procs ps n + body_assertions procs q.specs q.body ≤ all_places procs ps
assertions_within procs [] n q e = cc
assertions_within procs (p ∷ ps) zero q e =
    let same : body_assertions procs p.specs p.body ≡ body_assertions procs q.specs q.body = ap (λ (x : TypedProcedure). body_assertions procs x.specs x.body) (same_Some p q e) in
    omega arith
assertions_within procs (p ∷ ps) (suc n) q e = omega (arith, assertions_within procs ps n q e)

points_within : (procs ps : List TypedProcedure) (n : ℕ) (q : TypedProcedure) → slice_get ps n ≡ Some q →
    points_before procs ps n + body_points procs q.specs q.body ≤ all_places procs ps
points_within procs [] n q e = cc
points_within procs (p ∷ ps) zero q e =
    let same : body_points procs p.specs p.body ≡ body_points procs q.specs q.body = ap (λ (x : TypedProcedure). body_points procs x.specs x.body) (same_Some p q e) in
    omega arith
points_within procs (p ∷ ps) (suc n) q e = omega (arith, points_within procs ps n q e)

pub number_of : (t : TypedProgram) (n : ℕ) (q : TypedProcedure) → slice_get t.procs n ≡ Some q →
    slice_get (numbers_of t) n ≡ Some (first_numbers t.procs (first_assertion t.procs n) (first_place t n) q q.body)
number_of t n q e =
    let place : (1 + (length t.axioms + checked_at_call (slice_get t.procs t.entry))) + points_before t.procs t.procs n
    ≡ 1 + (length t.axioms + (checked_at_call (slice_get t.procs t.entry) + points_before t.procs t.procs n)) = omega arith in
    numbered_at t.procs 1 (1 + (length t.axioms + checked_at_call (slice_get t.procs t.entry))) t.procs n q e
    ∙ ap (λ (m : ℕ). Some (first_numbers t.procs (first_assertion t.procs n) m q q.body)) place

-- of a procedure with a body: the numbers found are its own, and they leave room
pub first_is : (t : TypedProgram) (n : ℕ) (q : TypedProcedure) (b : TypedBlock) (o : Option First) → places t < 2 ^ 32 → slice_get t.procs n ≡ Some q → q.body ≡ Some b →
    o ≡ slice_get (numbers_of t) n → IsFirstOf t n q (Some b) o
first_is t n q b o fit e f g =
    let found : o ≡ Some (first_numbers t.procs (first_assertion t.procs n) (first_place t n) q (Some b)) =
    g ∙ number_of t n q e ∙ ap (λ (x : Option TypedBlock). Some (first_numbers t.procs (first_assertion t.procs n) (first_place t n) q x)) f in
    let asserted : body_assertions t.procs q.specs q.body ≡ block_assertions t.procs b + plain_ensures q.specs = ap (body_assertions t.procs q.specs) f in
    let pointed : body_points t.procs q.specs q.body ≡ body_points t.procs q.specs (Some b) = ap (body_points t.procs q.specs) f in
    subst (IsFirstOf t n q (Some b)) (sym found) (
      refl,
      omega (arith, assertions_within t.procs t.procs n q e),
      omega (arith, points_within t.procs t.procs n q e, free_requires_counted q.specs),
    )

body_found : (t : TypedProgram) (n : ℕ) (q : TypedProcedure) (b : Option TypedBlock) (o : Option First) → places t < 2 ^ 32 → slice_get t.procs n ≡ Some q →
    q.body ≡ b → is_some b ≡ true → o ≡ slice_get (numbers_of t) n → IsFirstOf t n q b o
body_found t n q None o fit e f s g = cc
body_found t n q (Some b) o fit e f s g = first_is t n q b o fit e f g

pub first_found : (t : TypedProgram) (n : ℕ) (q : TypedProcedure) (o : Option First) → places t < 2 ^ 32 → Some q ≡ slice_get t.procs n →
    is_some q.body ≡ true → o ≡ slice_get (numbers_of t) n → IsFirst t n (slice_get t.procs n) o
first_found t n q o fit e s g =
    subst (λ (p : Option TypedProcedure). IsFirst t n p o) e (body_found t n q q.body o fit (sym e) refl s g)

-- ---- the locals of procedures

locals_of : law.LocalsAreEnough → law.NumbersFit → (t : TypedProgram) → IsTrue (is_valid t) → (f : ℕ) (o : Option TypedProcedure) → slice_get t.procs f ≡ o →
    IfSome o (λ q. q.params + q.results < 2 ^ 32)
locals_of enough fit t v f None e = tt
locals_of enough fit t v f (Some q) e =
    let held : Contains t.procs q = (f, slice_get_within t.procs f q e, get_or_from_slice_get t.procs f q q e) in
    omega (arith, enough t q v held, (fit t v).2 q held)

pub locals_fit : law.LocalsAreEnough → law.NumbersFit → (t : TypedProgram) → IsTrue (is_valid t) → (f : ℕ) →
    IfSome (slice_get t.procs f) (λ q. q.params + q.results < 2 ^ 32)
locals_fit enough fit t v f = locals_of enough fit t v f (slice_get t.procs f) refl
