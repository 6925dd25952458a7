-- The places of a program: its points in the order of the text, and their numbers.
use Rattle.std.specs.Prelude.{◌≡◌, ◌⊎◌, ℕ, zero, suc, ◌+◌, Bool, true, false, List, [], ◌∷◌, ◌++◌, map, length, Option, None, Some, slice_get}
use Rattle.typed_tree.specs.TypedTree.{TypedStatement, Assert, Assume, Havoc, Assign, Call, If, While, Break, Goto, Return, Label, TypedBlock, Empty, Then, TypedProcedure, TypedProgram}
use Rattle.typed_tree.specs.TypingRules.Counts.{plain_invariants, assertions, points, block_assertions, block_points, checked_at_call}
use Rattle.boogie_run.specs.BoogiePoints.Points.{Todo, Start, Entry, Body, Exit, Stage, Point, at_exit, before, settled, past, past_first}
use Rattle.boogie_run.specs.BoogiePoints.Actions.{Action, Check, Suppose, Demand, Write, Guess, Test, Pick, Jump, Enter, Keep, Grant, Finish, Leave, first_place, first_assertion, free_conditions, ensured_conditions, start_conditions}

-- the point with its parts from number k on, so many
abbrev pub parts_from : Point → ℕ → ℕ → List Point
parts_from p k zero = []
parts_from p k (suc n) = record p { part = k } ∷ parts_from p (k + 1) n

-- the point at the first item of a statement, which stands first in what is left of a block
abbrev pub at_statement : TypedStatement → TypedBlock → Bool → ℕ → ℕ → List Todo → Point
at_statement s b loop id at under = before (record { rest = Then s b; of_loop = loop; id = id; at = at } ∷ under)

abbrev mutual
  -- The points of a statement, in order: one for each variable of a havoc, for each invariant and the guard of a loop, for each requires that a
  -- call asserts and the call, none for a label, and one for any other statement.
  pub points_in : List TypedProcedure → TypedStatement → TypedBlock → Bool → ℕ → ℕ → List Todo → List Point
  points_in procs (Assert span e) b loop id at under = at_statement (Assert span e) b loop id at under ∷ []
  points_in procs (Assume span e) b loop id at under = at_statement (Assume span e) b loop id at under ∷ []
  points_in procs (Havoc span cs) b loop id at under = parts_from (at_statement (Havoc span cs) b loop id at under) 0 (length cs)
  points_in procs (Assign span cs es) b loop id at under = at_statement (Assign span cs es) b loop id at under ∷ []
  points_in procs (Call span cs f es) b loop id at under =
      parts_from (at_statement (Call span cs f es) b loop id at under) 0 (checked_at_call (slice_get procs f) + 1)
  points_in procs (If span g x y) b loop id at under =
      let after : List Todo = past procs (If span g x y) b loop id at ∷ under in
      at_statement (If span g x y) b loop id at under
      ∷ (points_of procs x false id (at + 1) after
      ++ points_of procs y false (id + block_assertions procs x) (at + 1 + block_points procs x) after)
  points_in procs (While span g is x) b loop id at under =
      let here : Todo = record { rest = Then (While span g is x) b; of_loop = loop; id = id; at = at } in
      parts_from (before (here ∷ under)) 0 (length is + 1)
      ++ points_of procs x true (id + plain_invariants is) (at + length is + 1) (here ∷ under)
  points_in procs (Break span k) b loop id at under = at_statement (Break span k) b loop id at under ∷ []
  points_in procs (Goto span ks) b loop id at under = at_statement (Goto span ks) b loop id at under ∷ []
  points_in procs (Return span) b loop id at under = at_statement (Return span) b loop id at under ∷ []
  points_in procs (Label k) b loop id at under = []

  -- those of what is left of a block
  pub points_of : List TypedProcedure → TypedBlock → Bool → ℕ → ℕ → List Todo → List Point
  points_of procs Empty loop id at under = []
  points_of procs (Then s b) loop id at under =
      points_in procs s b loop id at under ++ points_of procs b loop (id + assertions procs s) (at + points procs s) under

-- The points of a procedure's body: its free requires, its statements, its ensures and the return.
abbrev pub points_of_body : TypedProgram → ℕ → TypedProcedure → TypedBlock → List Point
points_of_body t n q b =
    let free : ℕ = length (free_conditions q.specs) in
    let whole : Todo = record { rest = b; of_loop = false; id = first_assertion t.procs n; at = first_place t n + free } in
    parts_from (record { stage = Entry; todo = whole ∷ []; part = 0 }) 0 free
    ++ (points_of t.procs b false (first_assertion t.procs n) (first_place t n + free) []
    ++ parts_from at_exit 0 (length (ensured_conditions q.specs) + 1))

-- the conditions that are assumed at the start of a run
abbrev pub start_points : TypedProgram → TypedProcedure → List Point
start_points t q = parts_from (record { stage = Start; todo = []; part = 0 }) 0 (length (start_conditions t q))

-- the point is one of these
abbrev pub IsOneOf : List Point → Point → Type 0
IsOneOf [] p = ⊥
IsOneOf (q ∷ qs) p = (q ≡ p) ⊎ IsOneOf qs p

-- ---- numbers

-- so many numbers, from n on
abbrev pub count_from : ℕ → ℕ → List ℕ
count_from n zero = []
count_from n (suc k) = n ∷ count_from (n + 1) k

abbrev pub first_at : List Todo → ℕ
first_at [] = 0
first_at (t ∷ ts) = t.at

-- The number of a point of procedure n with this body: the start has 0, and the conditions that are assumed there follow.
abbrev pub stage_place : TypedProgram → ℕ → TypedProcedure → TypedBlock → Stage → ℕ → List Todo → ℕ
stage_place t n q b Start part todo = 1 + part
stage_place t n q b Entry part todo = first_place t n + part
stage_place t n q b Body part todo = first_at todo + part
stage_place t n q b Exit part todo = first_place t n + length (free_conditions q.specs) + block_points t.procs b + part

abbrev pub place_of : TypedProgram → ℕ → TypedProcedure → TypedBlock → Point → ℕ
place_of t n q b p = stage_place t n q b p.stage p.part p.todo

-- a point of a procedure
pub record Place : Type 0 where
  pub proc : ℕ
  pub point : Point

abbrev pub number_with : TypedProgram → ℕ → TypedProcedure → Option TypedBlock → Point → ℕ
number_with t n q None p = 0
number_with t n q (Some b) p = place_of t n q b p

abbrev pub number_if_any : TypedProgram → ℕ → Option TypedProcedure → Point → ℕ
number_if_any t n None p = 0
number_if_any t n (Some q) p = number_with t n q q.body p

-- the number of a place; 0 where its procedure has no body
abbrev pub number_of : TypedProgram → Place → ℕ
number_of t place = number_if_any t place.proc (slice_get t.procs place.proc) place.point

abbrev pub located : ℕ → List Point → List Place
located n ps = map (λ p. record { proc = n; point = p }) ps

abbrev pub points_with : TypedProgram → ℕ → TypedProcedure → Option TypedBlock → List Point
points_with t n q None = []
points_with t n q (Some b) = points_of_body t n q b

-- the places of these procedures, the first of which has number n
abbrev pub places_from : TypedProgram → ℕ → List TypedProcedure → List Place
places_from t n [] = []
places_from t n (q ∷ qs) = located n (points_with t n q q.body) ++ places_from t (n + 1) qs

abbrev pub starts_if_any : TypedProgram → Option TypedProcedure → List Point
starts_if_any t None = []
starts_if_any t (Some q) = start_points t q

-- The places of a program behind its start: those of the conditions that are assumed there, and those of its procedures.
abbrev pub program_places : TypedProgram → List Place
program_places t = located t.entry (starts_if_any t (slice_get t.procs t.entry)) ++ places_from t 0 t.procs

-- the place is one of these
abbrev pub IsPlaceIn : List Place → Place → Type 0
IsPlaceIn [] p = ⊥
IsPlaceIn (q ∷ qs) p = (q ≡ p) ⊎ IsPlaceIn qs p

-- ---- where an action leads

-- The points of its own frame that an action leads to. A call leads behind itself: into the callee it leads by another frame, and what a call
-- without body chooses and assumes is done at the call.
abbrev pub onward : List TypedProcedure → Point → Action → List Point
onward procs here (Check id at e next) = next ∷ []
onward procs here (Suppose e next) = next ∷ []
onward procs here (Demand id at e args next) = next ∷ []
onward procs here (Write cs es next) = next ∷ []
onward procs here (Guess c next) = next ∷ []
onward procs here (Test e hit miss) = hit ∷ miss ∷ []
onward procs here (Pick ways) = ways
onward procs here (Jump next) = next ∷ []
onward procs here (Enter f args) = settled (past_first procs here.todo) ∷ []
onward procs here (Keep f args c next) = settled (past_first procs here.todo) ∷ []
onward procs here (Grant f args e next) = settled (past_first procs here.todo) ∷ []
onward procs here (Finish f args targets next) = settled (past_first procs here.todo) ∷ []
onward procs here Leave = []

abbrev mutual
  -- each havoc of the statement writes a variable
  pub HavocsWrite : TypedStatement → Type 0
  HavocsWrite (Havoc span []) = ⊥
  HavocsWrite (Havoc span (c ∷ cs)) = Unit {0}
  HavocsWrite (If span g x y) = BlockWrites x × BlockWrites y
  HavocsWrite (While span g is x) = BlockWrites x
  HavocsWrite s = Unit {0}

  -- so does each of a block
  pub BlockWrites : TypedBlock → Type 0
  BlockWrites Empty = Unit {0}
  BlockWrites (Then s b) = HavocsWrite s × BlockWrites b
