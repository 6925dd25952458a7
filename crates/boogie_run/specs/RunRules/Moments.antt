-- Where a run stands: the values, and what each procedure that has begun has still to do.
use Rattle.std.specs.Prelude.{ℕ, zero, suc, ◌+◌, ℤ, Bool, true, false, nat_eq, List, [], ◌∷◌, Option, None, Some, slice_set, if◌then◌else◌}
use Rattle.std.specs.Option.{option_or}
use Rattle.boogie_tree.specs.declared.tree.Column.{Column}
use Rattle.boogie_tree.specs.declared.tree.Column.TheVariants as columns
use Rattle.typed_tree.specs.TypedTree.{TypedStatement, If, While, Label, TypedBlock, Empty, Then, TypedProcedure}
use Rattle.typed_tree.specs.Values.{State}
use Rattle.typed_tree.specs.TypingRules.Counts.{assertions, block_assertions, plain_invariants}

-- A block that is not done: what is left of it, whether it is the body of a loop, and the number of its next assertion. Below the body of a loop stands
-- the block that the loop is in, with the loop still first.
pub record OpenBlock : Type 0 where
  pub rest : TypedBlock
  pub of_loop : Bool
  pub id : ℕ

-- A procedure that has begun: its locals, the constants and globals at its entry, the blocks that are not done, innermost first, and the columns of its
-- caller that its results go to.
pub record Activation : Type 0 where
  pub proc : ℕ
  pub locals : List ℤ
  pub entry : List ℤ
  pub pending : List OpenBlock
  pub targets : List Column

-- the constants and globals, the procedure that runs, and its callers, innermost first
pub record Moment : Type 0 where
  pub globals : List ℤ
  pub top : Activation
  pub below : List Activation

-- what the procedure that runs reads
abbrev pub seen : Moment → State
seen m = record { globals = m.globals; old = m.top.entry; locals = m.top.locals }

-- with these blocks not done
abbrev pub going_on : Moment → List OpenBlock → Moment
going_on m ps = record m { top = record m.top { pending = ps } }

-- with the value of a column that can be written
abbrev pub with_value : Moment → Column → ℤ → Moment
with_value m (columns.Global n) v = record m { globals = slice_set m.globals n v }
with_value m (columns.Old n) v = m
with_value m (columns.Local n) v = record m { top = record m.top { locals = slice_set m.top.locals n v } }

abbrev pub with_values : Moment → List Column → List ℤ → Moment
with_values m (c ∷ cs) (v ∷ vs) = with_values (with_value m c v) cs vs
with_values m cs vs = m

-- ---- blocks

-- a block that begins
abbrev pub begun : TypedBlock → Bool → ℕ → OpenBlock
begun b of_loop id = record { rest = b; of_loop = of_loop; id = id }

-- behind the first statement s of a block, of which b is the rest
abbrev pub behind_statement : List TypedProcedure → TypedStatement → TypedBlock → OpenBlock → OpenBlock
behind_statement procs s b p = record p { rest = b; id = p.id + assertions procs s }

abbrev pub behind_first : List TypedProcedure → TypedBlock → OpenBlock → List OpenBlock → List OpenBlock
behind_first procs Empty p under = under
behind_first procs (Then s b) p under = behind_statement procs s b p ∷ under

-- behind the loop that is the first statement of the innermost block
abbrev pub behind_loop : List TypedProcedure → List OpenBlock → List OpenBlock
behind_loop procs [] = []
behind_loop procs (p ∷ under) = behind_first procs p.rest p under

-- Behind the loop that a break leaves which leaves n loops more.
abbrev pub broken_out : List TypedProcedure → ℕ → List OpenBlock → List OpenBlock
broken_out procs n [] = []
broken_out procs zero (p ∷ under) = if p.of_loop then behind_loop procs under else broken_out procs zero under
broken_out procs (suc n) (p ∷ under) = if p.of_loop then broken_out procs n under else broken_out procs (suc n) under

abbrev mutual
  -- what is not done behind the label number k, if it is in the statement s that stands first in the block p, before the rest b
  pub label_in : List TypedProcedure → ℕ → TypedStatement → TypedBlock → OpenBlock → List OpenBlock → Option (List OpenBlock)
  label_in procs k (Label n) b p under = if nat_eq n k then Some (record p { rest = b } ∷ under) else None
  label_in procs k (If at g x y) b p under =
      let after : List OpenBlock = behind_statement procs (If at g x y) b p ∷ under in
      option_or (label_in_block procs k x (begun x false p.id) after) (label_in_block procs k y (begun y false (p.id + block_assertions procs x)) after)
  label_in procs k (While at g is x) b p under = label_in_block procs k x (begun x true (p.id + plain_invariants is)) (p ∷ under)
  label_in procs k s b p under = None

  -- the same, if it is in what is left of the block p
  pub label_in_block : List TypedProcedure → ℕ → TypedBlock → OpenBlock → List OpenBlock → Option (List OpenBlock)
  label_in_block procs k Empty p under = None
  label_in_block procs k (Then s b) p under = option_or (label_in procs k s b p under) (label_in_block procs k b (behind_statement procs s b p) under)
