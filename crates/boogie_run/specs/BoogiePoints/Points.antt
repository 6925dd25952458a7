-- Where a frame stands: the blocks that are still to do, and the point before the next step.
use Rattle.std.specs.Prelude.{ℕ, zero, suc, ◌+◌, Bool, true, false, nat_eq, List, [], ◌∷◌, Option, None, Some, length, if◌then◌else◌}
use Rattle.std.specs.Option.{option_or}
use Rattle.typed_tree.specs.TypedTree.{TypedStatement, If, While, Label, TypedBlock, Empty, Then, TypedProcedure}
use Rattle.typed_tree.specs.TypingRules.Counts.{assertions, points, block_assertions, block_points, plain_invariants}

-- A block still to do: what is left of it, whether it is the body of a loop, and the numbers of its next assertion and place.
pub record Todo : Type 0 where
  pub rest : TypedBlock
  pub of_loop : Bool
  pub id : ℕ
  pub at : ℕ

-- The stages of a procedure: the start of a run, the free requires, the statements, the ensures and the return.
pub data Stage : Type 0 where
  Start : Stage
  Entry : Stage
  Body : Stage
  Exit : Stage

-- A point: the stage, the blocks still to do, innermost first, and how many items of what stands first are done. A loop's body
-- stands before the block in which the loop is still the first statement.
pub record Point : Type 0 where
  pub stage : Stage
  pub todo : List Todo
  pub part : ℕ

-- behind all statements
abbrev pub at_exit : Point
at_exit = record { stage = Exit; todo = []; part = 0 }

-- before the first item of the first statement
abbrev pub before : List Todo → Point
before todo = record { stage = Body; todo = todo; part = 0 }

-- The point at what is left of a block, or else after it. Labels take no step, and neither does the end of a block.
abbrev pub unless_ended : TypedBlock → Bool → ℕ → ℕ → List Todo → Point → Point
unless_ended Empty of_loop id at under after = after
unless_ended (Then (Label n) b) of_loop id at under after = unless_ended b of_loop id at under after
unless_ended (Then s b) of_loop id at under after =
    before (record { rest = Then s b; of_loop = of_loop; id = id; at = at } ∷ under)

-- the point at the first statement that is still to do
abbrev pub settled : List Todo → Point
settled [] = at_exit
settled (t ∷ ts) = unless_ended t.rest t.of_loop t.id t.at ts (settled ts)

-- past the first statement of a block
abbrev pub past : List TypedProcedure → TypedStatement → TypedBlock → Bool → ℕ → ℕ → Todo
past procs s b of_loop id at =
    record { rest = b; of_loop = of_loop; id = id + assertions procs s; at = at + points procs s }

abbrev pub past_block : List TypedProcedure → TypedBlock → Bool → ℕ → ℕ → List Todo → List Todo
past_block procs Empty of_loop id at under = under
past_block procs (Then s b) of_loop id at under = past procs s b of_loop id at ∷ under

-- past the first statement of what is still to do
abbrev pub past_first : List TypedProcedure → List Todo → List Todo
past_first procs [] = []
past_first procs (t ∷ ts) = past_block procs t.rest t.of_loop t.id t.at ts

-- Past the loop that a break leaves which leaves n loops beyond the innermost: the blocks up to the n+1st body of a loop are dropped.
abbrev pub broken : List TypedProcedure → ℕ → List Todo → List Todo
broken procs n [] = []
broken procs zero (t ∷ ts) = if t.of_loop then past_first procs ts else broken procs zero ts
broken procs (suc n) (t ∷ ts) = if t.of_loop then broken procs n ts else broken procs (suc n) ts

abbrev mutual
  -- what is still to do after the label number k, looked for in a statement, with the rest of its block behind it
  pub found_in : List TypedProcedure → ℕ → TypedStatement → TypedBlock → Bool → ℕ → ℕ → List Todo → Option (List Todo)
  found_in procs k (Label n) b of_loop id at under =
      if nat_eq n k then Some (record { rest = b; of_loop = of_loop; id = id; at = at } ∷ under) else None
  found_in procs k (If span g x y) b of_loop id at under =
      let after : List Todo = past procs (If span g x y) b of_loop id at ∷ under in
      option_or (found_block procs k x false id (at + 1) after)
      (found_block procs k y false (id + block_assertions procs x) (at + 1 + block_points procs x) after)
  found_in procs k (While span g is x) b of_loop id at under =
      let here : Todo = record { rest = Then (While span g is x) b; of_loop = of_loop; id = id; at = at } in
      found_block procs k x true (id + plain_invariants is) (at + length is + 1) (here ∷ under)
  found_in procs k s b of_loop id at under = None

  -- the same in a block
  pub found_block : List TypedProcedure → ℕ → TypedBlock → Bool → ℕ → ℕ → List Todo → Option (List Todo)
  found_block procs k Empty of_loop id at under = None
  found_block procs k (Then s b) of_loop id at under =
      option_or (found_in procs k s b of_loop id at under) (found_block procs k b of_loop (id + assertions procs s) (at + points procs s) under)
