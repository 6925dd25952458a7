-- At each point of a body the statement that stands first keeps the typing rules, and at a call no more parts are done than it has requires.
use Rattle.std.proofs.Common.{◌≡◌, inl, inr, ℕ, ◌+◌, ◌≤◌, Bool, true, false, List, [], ◌∷◌, ◌++◌, length, slice_get, subst, arith}
use Rattle.std.specs.List.{AllByRecursion}
use Rattle.std.proofs.lemmas.Bool.{and_parts}
use Rattle.typed_tree.specs.TypedTree.{TypedStatement, Assert, Assume, Havoc, Assign, Call, If, While, Break, Goto, Return, Label, TypedBlock, Empty, Then, TypedProcedure, TypedProgram}
use Rattle.typed_tree.specs.TypingRules.Counts.{plain_invariants, assertions, points, block_assertions, block_points, checked_at_call}
use Rattle.typed_tree.specs.TypingRules.Shape.{is_shaped, is_shaped_block}
use Rattle.boogie_run.specs.BoogiePoints.Points.{Todo, Stage, Start, Entry, Body, Exit, Point, at_exit, before, past}
use Rattle.boogie_run.specs.BoogiePoints.Actions.{free_conditions, ensured_conditions, first_assertion, first_place}
use Rattle.boogie_run.specs.BoogiePlaces.Places.{parts_from, at_statement, points_in, points_of, points_of_body, IsOneOf}
use Rattle.boogie_run.proofs.BoogiePlaces.Closed.{all_append, each_part}
use Rattle.boogie_run.proofs.TypedPoints.{IsKept, rest_kept, branches_kept, loop_kept}

module _ (t : TypedProgram) (q : TypedProcedure) where
  -- a block of the body that keeps the typing rules, of which the boolean arguments are simple
  pub record IsRight (b : TypedBlock) : Type 0 where
    pub kept : IsKept t q b
    pub shaped : is_shaped_block t.procs b ≡ true

  abbrev pub PartRight : TypedBlock → ℕ → Type 0
  PartRight Empty m = Unit {0}
  PartRight (Then (Call at cs f es) b) m = m ≤ checked_at_call (slice_get t.procs f)
  PartRight (Then s b) m = Unit {0}

  abbrev pub FirstRight : List Todo → ℕ → Type 0
  FirstRight [] m = Unit {0}
  FirstRight (d ∷ ds) m = IsRight d.rest × PartRight d.rest m

  abbrev pub StageRight : Stage → List Todo → ℕ → Type 0
  StageRight Start ds m = Unit {0}
  StageRight Entry ds m = Unit {0}
  StageRight Body ds m = FirstRight ds m
  StageRight Exit ds m = Unit {0}

  abbrev pub PointRight : Point → Type 0
  PointRight p = StageRight p.stage p.todo p.part

  rest_right : (s : TypedStatement) (b : TypedBlock) → IsRight (Then s b) → IsRight b
  rest_right s b h = record { kept = rest_kept t q s b h.kept; shaped = (and_parts (is_shaped t.procs s) (is_shaped_block t.procs b) h.shaped).1 }

  mutual
    points_in_right : (s : TypedStatement) (b : TypedBlock) (loop : Bool) (id at : ℕ) (under : List Todo) → IsRight (Then s b) → AllByRecursion PointRight (points_in t.procs s b loop id at under)
    points_in_right (Assert span e) b loop id at under h = ((h, tt), tt)
    points_in_right (Assume span e) b loop id at under h = ((h, tt), tt)
    points_in_right (Havoc span cs) b loop id at under h = each_part PointRight (at_statement (Havoc span cs) b loop id at under) 0 (length cs) (λ i l. (h, tt))
    points_in_right (Assign span cs es) b loop id at under h = ((h, tt), tt)
    points_in_right (Call span cs f es) b loop id at under h =
        each_part PointRight (at_statement (Call span cs f es) b loop id at under) 0 (checked_at_call (slice_get t.procs f) + 1) (λ i l. (h, omega arith))
    points_in_right (If span g x y) b loop id at under h =
        let both = branches_kept t q span g x y b h.kept in
        let shaped = and_parts (is_shaped_block t.procs x) (is_shaped_block t.procs y) (and_parts (is_shaped t.procs (If span g x y)) (is_shaped_block t.procs b) h.shaped).0 in
        let after : List Todo = past t.procs (If span g x y) b loop id at ∷ under in (
          (h, tt),
          all_append PointRight (points_of t.procs x false id (at + 1) after) (points_of t.procs y false (id + block_assertions t.procs x) (at + 1 + block_points t.procs x) after)
              (points_right x false id (at + 1) after (record { kept = both.0; shaped = shaped.0 }))
              (points_right y false (id + block_assertions t.procs x) (at + 1 + block_points t.procs x) after (record { kept = both.1; shaped = shaped.1 })),
        )
    points_in_right (While span g is x) b loop id at under h =
        let here : Todo = record { rest = Then (While span g is x) b; of_loop = loop; id = id; at = at } in
        let shaped = (and_parts (is_shaped t.procs (While span g is x)) (is_shaped_block t.procs b) h.shaped).0 in
        all_append PointRight (parts_from (before (here ∷ under)) 0 (length is + 1)) (points_of t.procs x true (id + plain_invariants is) (at + length is + 1) (here ∷ under))
        (each_part PointRight (before (here ∷ under)) 0 (length is + 1) (λ i l. (h, tt)))
        (points_right x true (id + plain_invariants is) (at + length is + 1) (here ∷ under) (record { kept = loop_kept t q span g is x b h.kept; shaped = shaped }))
    points_in_right (Break span n) b loop id at under h = ((h, tt), tt)
    points_in_right (Goto span ks) b loop id at under h = ((h, tt), tt)
    points_in_right (Return span) b loop id at under h = ((h, tt), tt)
    points_in_right (Label k) b loop id at under h = tt

    points_right : (b : TypedBlock) (loop : Bool) (id at : ℕ) (under : List Todo) → IsRight b → AllByRecursion PointRight (points_of t.procs b loop id at under)
    points_right Empty loop id at under h = tt
    points_right (Then s b) loop id at under h =
        all_append PointRight (points_in t.procs s b loop id at under) (points_of t.procs b loop (id + assertions t.procs s) (at + points t.procs s) under)
        (points_in_right s b loop id at under h) (points_right b loop (id + assertions t.procs s) (at + points t.procs s) under (rest_right s b h))

  pub body_right : (n : ℕ) (b : TypedBlock) → IsRight b → AllByRecursion PointRight (points_of_body t n q b)
  body_right n b h =
      let free : ℕ = length (free_conditions q.specs) in
      let whole : Todo = record { rest = b; of_loop = false; id = first_assertion t.procs n; at = first_place t n + free } in
      let entry : Point = record { stage = Entry; todo = whole ∷ []; part = 0 } in
      let middle : List Point = points_of t.procs b false (first_assertion t.procs n) (first_place t n + free) [] in
      all_append PointRight (parts_from entry 0 free) (middle ++ parts_from at_exit 0 (length (ensured_conditions q.specs) + 1))
      (each_part PointRight entry 0 free (λ i l. tt))
      (all_append PointRight middle (parts_from at_exit 0 (length (ensured_conditions q.specs) + 1))
      (points_right b false (first_assertion t.procs n) (first_place t n + free) [] h)
      (each_part PointRight at_exit 0 (length (ensured_conditions q.specs) + 1) (λ i l. tt)))

pub one_of_all : (P : Point → Type 0) (ps : List Point) (p : Point) → AllByRecursion P ps → IsOneOf ps p → P p
one_of_all P [] p h i = absurd i
one_of_all P (x ∷ xs) p h (inl e) = subst P e h.0
one_of_all P (x ∷ xs) p h (inr i) = one_of_all P xs p h.1 i
