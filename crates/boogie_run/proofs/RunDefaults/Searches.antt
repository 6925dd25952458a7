-- A search for a label of a block finds it, and leads behind it.
use Rattle.std.proofs.Common.{◌≡◌, ⊎_elim, ℕ, ◌+◌, Bool, true, false, cond, nat_eq, List, [], ◌∷◌, length, Option, None, Some, IsSome, IfSome, IsSomeAnd, refl, sym, subst}
use Rattle.std.proofs.lemmas.Bool.{or_cases, false≢true}
use Rattle.typed_tree.specs.TypedTree.{TypedStatement, Assert, Assume, Havoc, Assign, Call, If, While, Break, Goto, Return, Label, TypedBlock, Empty, Then, TypedProcedure}
use Rattle.typed_tree.specs.TypingRules.Counts.{assertions, points, block_assertions, block_points, plain_invariants}
use Rattle.typed_tree.specs.TypingRules.Rules.{is_member}
use Rattle.typed_tree.specs.TypingRules.Shape.{statement_labels, block_labels}
use Rattle.boogie_run.specs.BoogiePoints.Points.{Todo, past, found_in, found_block}
use Rattle.boogie_run.specs.RunDefaults.Standing.{FollowsLabel, at_label, further, in_then, in_else, in_loop, IsBehind}
use Rattle.boogie_run.proofs.RunDefaults.Parts.{or_if, or_first, or_second, more_if, both_some, same_of, equal_test, in_either}

-- what follows the label in one block follows it in another
still_behind : (k : ℕ) (c d : TypedBlock) → ((r : TypedBlock) → FollowsLabel k c r → FollowsLabel k d r) → (ts : List Todo) → IsBehind c k ts → IsBehind d k ts
still_behind k c d f [] h = h
still_behind k c d f (t ∷ ts) h = f t.rest h

label_behind : (k m : ℕ) (b : TypedBlock) (c : Bool) (t : Todo) (under : List Todo) → (c ≡ true → FollowsLabel k (Then (Label m) b) t.rest) →
    IfSome (cond c (Some (t ∷ under)) None) (IsBehind (Then (Label m) b) k)
label_behind k m b true t under f = f refl
label_behind k m b false t under f = tt

module _ (procs : List TypedProcedure) (k : ℕ) where
  mutual
    in_behind : (s : TypedStatement) (b : TypedBlock) (l : Bool) (id at : ℕ) (under : List Todo) →
        IfSome (found_in procs k s b l id at under) (IsBehind (Then s b) k)
    in_behind (Label m) b l id at under =
        label_behind k m b (nat_eq m k) (record { rest = b; of_loop = l; id = id; at = at }) under
        (λ e. subst (λ (j : ℕ). FollowsLabel k (Then (Label j) b) b) (sym (same_of m k e)) (at_label b))
    in_behind (If s g x y) b l id at under =
        let after : List Todo = past procs (If s g x y) b l id at ∷ under in
        let one : Option (List Todo) = found_block procs k x false id (at + 1) after in
        let other : Option (List Todo) = found_block procs k y false (id + block_assertions procs x) (at + 1 + block_points procs x) after in
        or_if (IsBehind (Then (If s g x y) b) k) one other
        (more_if (IsBehind x k) (IsBehind (Then (If s g x y) b) k) one (still_behind k x (Then (If s g x y) b) (λ r f. in_then s g x y b r f))
        (block_behind x false id (at + 1) after))
        (more_if (IsBehind y k) (IsBehind (Then (If s g x y) b) k) other (still_behind k y (Then (If s g x y) b) (λ r f. in_else s g x y b r f))
        (block_behind y false (id + block_assertions procs x) (at + 1 + block_points procs x) after))
    in_behind (While s g is x) b l id at under =
        let inner : List Todo = record { rest = Then (While s g is x) b; of_loop = l; id = id; at = at } ∷ under in
        more_if (IsBehind x k) (IsBehind (Then (While s g is x) b) k) (found_block procs k x true (id + plain_invariants is) (at + length is + 1) inner)
        (still_behind k x (Then (While s g is x) b) (λ r f. in_loop s g is x b r f)) (block_behind x true (id + plain_invariants is) (at + length is + 1) inner)
    in_behind (Assert s e) b l id at under = tt
    in_behind (Assume s e) b l id at under = tt
    in_behind (Havoc s cs) b l id at under = tt
    in_behind (Assign s cs es) b l id at under = tt
    in_behind (Call s cs f es) b l id at under = tt
    in_behind (Break s n) b l id at under = tt
    in_behind (Goto s ks) b l id at under = tt
    in_behind (Return s) b l id at under = tt

    block_behind : (b : TypedBlock) (l : Bool) (id at : ℕ) (under : List Todo) → IfSome (found_block procs k b l id at under) (IsBehind b k)
    block_behind Empty l id at under = tt
    block_behind (Then s b) l id at under =
        let rest : Option (List Todo) = found_block procs k b l (id + assertions procs s) (at + points procs s) under in
        or_if (IsBehind (Then s b) k) (found_in procs k s b l id at under) rest (in_behind s b l id at under)
        (more_if (IsBehind b k) (IsBehind (Then s b) k) rest (still_behind k b (Then s b) (λ r f. further s b r f))
        (block_behind b l (id + assertions procs s) (at + points procs s) under))

  mutual
    in_there : (s : TypedStatement) (b : TypedBlock) (l : Bool) (id at : ℕ) (under : List Todo) → is_member k (statement_labels s) ≡ true →
        IsSome (found_in procs k s b l id at under)
    in_there (Label m) b l id at under h =
        let same : k ≡ m = ⊎_elim (λ e. same_of k m e) (λ e. absurd (false≢true e)) (or_cases (nat_eq k m) false h) in
        rw (equal_test m k (sym same)) refl
    in_there (If s g x y) b l id at under h =
        let after : List Todo = past procs (If s g x y) b l id at ∷ under in
        let one : Option (List Todo) = found_block procs k x false id (at + 1) after in
        let other : Option (List Todo) = found_block procs k y false (id + block_assertions procs x) (at + 1 + block_points procs x) after in
        ⊎_elim (λ e. or_first one other (block_there x false id (at + 1) after e))
        (λ e.
        or_second one other
        (block_there y false (id + block_assertions procs x) (at + 1 + block_points procs x) after e))
        (in_either k (block_labels x) (block_labels y) h)
    in_there (While s g is x) b l id at under h =
        block_there x true (id + plain_invariants is) (at + length is + 1) (record { rest = Then (While s g is x) b; of_loop = l; id = id; at = at } ∷ under) h
    in_there (Assert s e) b l id at under h = absurd (false≢true h)
    in_there (Assume s e) b l id at under h = absurd (false≢true h)
    in_there (Havoc s cs) b l id at under h = absurd (false≢true h)
    in_there (Assign s cs es) b l id at under h = absurd (false≢true h)
    in_there (Call s cs f es) b l id at under h = absurd (false≢true h)
    in_there (Break s n) b l id at under h = absurd (false≢true h)
    in_there (Goto s ks) b l id at under h = absurd (false≢true h)
    in_there (Return s) b l id at under h = absurd (false≢true h)

    block_there : (b : TypedBlock) (l : Bool) (id at : ℕ) (under : List Todo) → is_member k (block_labels b) ≡ true → IsSome (found_block procs k b l id at under)
    block_there Empty l id at under h = absurd (false≢true h)
    block_there (Then s b) l id at under h =
        let one : Option (List Todo) = found_in procs k s b l id at under in
        let rest : Option (List Todo) = found_block procs k b l (id + assertions procs s) (at + points procs s) under in
        ⊎_elim (λ e. or_first one rest (in_there s b l id at under e))
        (λ e. or_second one rest (block_there b l (id + assertions procs s) (at + points procs s) under e))
        (in_either k (statement_labels s) (block_labels b) h)

  pub label_found : (b : TypedBlock) (l : Bool) (id at : ℕ) (under : List Todo) → is_member k (block_labels b) ≡ true →
      IsSomeAnd (found_block procs k b l id at under) (IsBehind b k)
  label_found b l id at under h = both_some (IsBehind b k) (found_block procs k b l id at under) (block_there b l id at under h) (block_behind b l id at under)
