-- The machine's blocks and those of the rules are changed alike: past a statement, by a break and by a goto.
use Rattle.std.proofs.Common.{◌≡◌, ℕ, zero, suc, ◌+◌, Bool, true, false, nat_eq, List, [], ◌∷◌, length, Option, None, Some, option_map, unwrap_or, refl, if◌then◌else◌}
use Rattle.std.specs.Option.{option_or}
use Rattle.typed_tree.specs.TypedTree.{TypedStatement, Assert, Assume, Havoc, Assign, Call, If, While, Break, Goto, Return, Label, TypedBlock, Empty, Then, TypedProcedure}
use Rattle.typed_tree.specs.TypingRules.Counts.{block_assertions, block_points, plain_invariants, assertions, points}
use Rattle.boogie_run.specs.BoogiePoints.Points.{Todo, past, past_block, past_first, broken, found_in, found_block}
use Rattle.boogie_run.specs.RunRules.Moments.{OpenBlock, begun, behind_first, behind_loop, broken_out, label_in, label_in_block}
use Rattle.boogie_run.specs.RunRules.Ties.Mirrors.{pendings}

-- past the first statement of a block
pendings_past_block : (procs : List TypedProcedure) (r q : TypedBlock) (l : Bool) (id place : ℕ) (under : List Todo) →
    pendings (past_block procs r l id place under) ≡ behind_first procs r (begun q l id) (pendings under)
pendings_past_block procs Empty q l id place under = refl
pendings_past_block procs (Then s b) q l id place under = refl

-- past the first statement of what is to do
pub pendings_past_first : (procs : List TypedProcedure) (todo : List Todo) → pendings (past_first procs todo) ≡ behind_loop procs (pendings todo)
pendings_past_first procs [] = refl
pendings_past_first procs (t ∷ ts) = pendings_past_block procs t.rest t.rest t.of_loop t.id t.at ts

pendings_if : (b : Bool) (x y : List Todo) (p q : List OpenBlock) → pendings x ≡ p → pendings y ≡ q → pendings (if b then x else y) ≡ (if b then p else q)
pendings_if true x y p q h k = h
pendings_if false x y p q h k = k

-- behind a break
pub pendings_broken : (procs : List TypedProcedure) (n : ℕ) (todo : List Todo) → pendings (broken procs n todo) ≡ broken_out procs n (pendings todo)
pendings_broken procs n [] = refl
pendings_broken procs zero (t ∷ ts) =
    pendings_if t.of_loop (past_first procs ts) (broken procs zero ts) (behind_loop procs (pendings ts)) (broken_out procs zero (pendings ts)) (pendings_past_first procs ts)
    (pendings_broken procs zero ts)
pendings_broken procs (suc n) (t ∷ ts) =
    pendings_if t.of_loop (broken procs n ts) (broken procs (suc n) ts) (broken_out procs n (pendings ts)) (broken_out procs (suc n) (pendings ts)) (pendings_broken procs n ts)
    (pendings_broken procs (suc n) ts)

pendings_or : (a b : Option (List Todo)) (p q : Option (List OpenBlock)) → option_map pendings a ≡ p → option_map pendings b ≡ q → option_map pendings (option_or a b) ≡ option_or p q
pendings_or None b p q h k = rw (← h, ← k)
pendings_or (Some x) b p q h k = rw (← h)

pendings_some_if : (b : Bool) (x : List Todo) → option_map pendings (if b then Some x else None) ≡ (if b then Some (pendings x) else None)
pendings_some_if true x = refl
pendings_some_if false x = refl

mutual
  -- behind a label in a statement
  pendings_found_in : (procs : List TypedProcedure) (k : ℕ) (s : TypedStatement) (b : TypedBlock) (l : Bool) (id place : ℕ) (under : List Todo) →
      option_map pendings (found_in procs k s b l id place under) ≡ label_in procs k s b (begun (Then s b) l id) (pendings under)
  pendings_found_in procs k (Label n) b l id place under = pendings_some_if (nat_eq n k) (record { rest = b; of_loop = l; id = id; at = place } ∷ under)
  pendings_found_in procs k (If span g x y) b l id place under =
      let after : List Todo = past procs (If span g x y) b l id place ∷ under in
      pendings_or (found_block procs k x false id (place + 1) after) (found_block procs k y false (id + block_assertions procs x) (place + 1 + block_points procs x) after)
      (label_in_block procs k x (begun x false id) (pendings after)) (label_in_block procs k y (begun y false (id + block_assertions procs x)) (pendings after))
      (pendings_found procs k x false id (place + 1) after)
      (pendings_found procs k y false (id + block_assertions procs x) (place + 1 + block_points procs x) after)
  pendings_found_in procs k (While span g is x) b l id place under =
      pendings_found procs k x true (id + plain_invariants is) (place + length is + 1) (record { rest = Then (While span g is x) b; of_loop = l; id = id; at = place } ∷ under)
  pendings_found_in procs k (Assert span e) b l id place under = refl
  pendings_found_in procs k (Assume span e) b l id place under = refl
  pendings_found_in procs k (Havoc span cs) b l id place under = refl
  pendings_found_in procs k (Assign span cs es) b l id place under = refl
  pendings_found_in procs k (Call span cs f es) b l id place under = refl
  pendings_found_in procs k (Break span n) b l id place under = refl
  pendings_found_in procs k (Goto span ks) b l id place under = refl
  pendings_found_in procs k (Return span) b l id place under = refl

  -- behind a label in a block
  pub pendings_found : (procs : List TypedProcedure) (k : ℕ) (b : TypedBlock) (of_loop : Bool) (id place : ℕ) (under : List Todo) →
      option_map pendings (found_block procs k b of_loop id place under) ≡ label_in_block procs k b (begun b of_loop id) (pendings under)
  pendings_found procs k Empty l id place under = refl
  pendings_found procs k (Then s b) l id place under =
      pendings_or (found_in procs k s b l id place under) (found_block procs k b l (id + assertions procs s) (place + points procs s) under)
      (label_in procs k s b (begun (Then s b) l id) (pendings under)) (label_in_block procs k b (begun b l (id + assertions procs s)) (pendings under))
      (pendings_found_in procs k s b l id place under) (pendings_found procs k b l (id + assertions procs s) (place + points procs s) under)

-- behind the label, or nothing where it is not there
pub pendings_or_none : (o : Option (List Todo)) → pendings (unwrap_or o []) ≡ unwrap_or (option_map pendings o) []
pendings_or_none None = refl
pendings_or_none (Some ts) = refl
