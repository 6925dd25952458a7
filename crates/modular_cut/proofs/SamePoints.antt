-- Points that are the same but for the numbers of calls, assertions and places lead to points that are the same.
use Rattle.std.proofs.Common.{◌≡◌, ℕ, zero, suc, ◌+◌, Bool, true, false, nat_eq, List, [], ◌∷◌, length, Option, None, Some, refl, sym, subst, if◌then◌else◌}
use Rattle.std.specs.Option.{option_or}
use Rattle.typed_tree.specs.TypedTree.{TypedStatement, Assert, Assume, Havoc, Assign, Call, If, While, Break, Goto, Return, Label, TypedBlock, Empty, Then, TypedProcedure}
use Rattle.typed_tree.specs.TypingRules.Counts.{assertions, points, block_assertions, block_points, plain_invariants}
use Rattle.boogie_run.specs.BoogiePoints.Points.{Todo, Stage, Body, Point, at_exit, unless_ended, settled, past, past_block, past_first, broken, found_in, found_block}
use Rattle.boogie_run.specs.BoogiePoints.Actions.{point_behind, ways_to}
use Rattle.modular_cut.specs.Parts.{recalled, recalled_block}

-- the block still to do is the same, with its calls renumbered
pub record SameTodo (r : ℕ → ℕ) (d e : Todo) : Type 0 where
  pub id : ℕ
  pub at : ℕ
  pub is : e ≡ record { rest = recalled_block r d.rest; of_loop = d.of_loop; id = id; at = at }

abbrev pub SameTodos : (ℕ → ℕ) → List Todo → List Todo → Type 0
SameTodos r [] [] = Unit {0}
SameTodos r [] (e ∷ es) = ⊥
SameTodos r (d ∷ ds) [] = ⊥
SameTodos r (d ∷ ds) (e ∷ es) = SameTodo r d e × SameTodos r ds es

-- the same stage, as many parts done, and the same blocks still to do
pub record SamePoint (r : ℕ → ℕ) (p q : Point) : Type 0 where
  pub todo : List Todo
  pub is : q ≡ record { stage = p.stage; todo = todo; part = p.part }
  pub same : SameTodos r p.todo todo

abbrev pub SamePoints : (ℕ → ℕ) → List Point → List Point → Type 0
SamePoints r [] [] = Unit {0}
SamePoints r [] (q ∷ qs) = ⊥
SamePoints r (p ∷ ps) [] = ⊥
SamePoints r (p ∷ ps) (q ∷ qs) = SamePoint r p q × SamePoints r ps qs

module _ (r : ℕ → ℕ) where
  pub exits_same : SamePoint r at_exit at_exit
  exits_same = record { todo = []; is = refl; same = tt }

  pub same_at : (stage : Stage) (part : ℕ) (ds es : List Todo) → SameTodos r ds es → SamePoint r (record { stage = stage; todo = ds; part = part }) (record { stage = stage; todo = es; part = part })
  same_at stage part ds es h = record { todo = es; is = refl; same = h }

  pub first_same : (b : TypedBlock) (l : Bool) (id at id2 at2 : ℕ) (ds es : List Todo) → SameTodos r ds es →
      SameTodos r (record { rest = b; of_loop = l; id = id; at = at } ∷ ds) (record { rest = recalled_block r b; of_loop = l; id = id2; at = at2 } ∷ es)
  first_same b l id at id2 at2 ds es h = (record { id = id2; at = at2; is = refl }, h)

  ended_same : (b : TypedBlock) (l : Bool) (id at id2 at2 : ℕ) (ds es : List Todo) (p q : Point) → SameTodos r ds es → SamePoint r p q →
      SamePoint r (unless_ended b l id at ds p) (unless_ended (recalled_block r b) l id2 at2 es q)
  ended_same Empty l id at id2 at2 ds es p q h k = k
  ended_same (Then (Label n) b) l id at id2 at2 ds es p q h k = ended_same b l id at id2 at2 ds es p q h k
  ended_same (Then (Assert s e) b) l id at id2 at2 ds es p q h k = same_at Body 0 _ _ (first_same (Then (Assert s e) b) l id at id2 at2 ds es h)
  ended_same (Then (Assume s e) b) l id at id2 at2 ds es p q h k = same_at Body 0 _ _ (first_same (Then (Assume s e) b) l id at id2 at2 ds es h)
  ended_same (Then (Havoc s cs) b) l id at id2 at2 ds es p q h k = same_at Body 0 _ _ (first_same (Then (Havoc s cs) b) l id at id2 at2 ds es h)
  ended_same (Then (Assign s cs xs) b) l id at id2 at2 ds es p q h k = same_at Body 0 _ _ (first_same (Then (Assign s cs xs) b) l id at id2 at2 ds es h)
  ended_same (Then (Call s cs f xs) b) l id at id2 at2 ds es p q h k = same_at Body 0 _ _ (first_same (Then (Call s cs f xs) b) l id at id2 at2 ds es h)
  ended_same (Then (If s g x y) b) l id at id2 at2 ds es p q h k = same_at Body 0 _ _ (first_same (Then (If s g x y) b) l id at id2 at2 ds es h)
  ended_same (Then (While s g is x) b) l id at id2 at2 ds es p q h k = same_at Body 0 _ _ (first_same (Then (While s g is x) b) l id at id2 at2 ds es h)
  ended_same (Then (Break s n) b) l id at id2 at2 ds es p q h k = same_at Body 0 _ _ (first_same (Then (Break s n) b) l id at id2 at2 ds es h)
  ended_same (Then (Goto s ks) b) l id at id2 at2 ds es p q h k = same_at Body 0 _ _ (first_same (Then (Goto s ks) b) l id at id2 at2 ds es h)
  ended_same (Then (Return s) b) l id at id2 at2 ds es p q h k = same_at Body 0 _ _ (first_same (Then (Return s) b) l id at id2 at2 ds es h)

  pub settled_same : (ds es : List Todo) → SameTodos r ds es → SamePoint r (settled ds) (settled es)
  settled_same [] [] h = exits_same
  settled_same [] (e ∷ es) h = absurd h
  settled_same (d ∷ ds) [] h = absurd h
  settled_same (d ∷ ds) (e ∷ es) h =
      subst (λ (x : Todo). SamePoint r (settled (d ∷ ds)) (settled (x ∷ es))) (sym h.0.is)
      (ended_same d.rest d.of_loop d.id d.at h.0.id h.0.at ds es (settled ds) (settled es) h.1 (settled_same ds es h.1))

  -- at a block
  pub settled_first : (b : TypedBlock) (l : Bool) (id at id2 at2 : ℕ) (ds es : List Todo) → SameTodos r ds es →
      SamePoint r (settled (record { rest = b; of_loop = l; id = id; at = at } ∷ ds)) (settled (record { rest = recalled_block r b; of_loop = l; id = id2; at = at2 } ∷ es))
  settled_first b l id at id2 at2 ds es h =
      settled_same (record { rest = b; of_loop = l; id = id; at = at } ∷ ds) (record { rest = recalled_block r b; of_loop = l; id = id2; at = at2 } ∷ es) (first_same b l id at id2 at2 ds es h)

  module _ (procs parts : List TypedProcedure) where
    past_same : (b : TypedBlock) (l : Bool) (id at id2 at2 : ℕ) (ds es : List Todo) → SameTodos r ds es → SameTodos r (past_block procs b l id at ds) (past_block parts (recalled_block r b) l id2 at2 es)
    past_same Empty l id at id2 at2 ds es h = h
    past_same (Then s b) l id at id2 at2 ds es h = first_same b l (id + assertions procs s) (at + points procs s) (id2 + assertions parts (recalled r s)) (at2 + points parts (recalled r s)) ds es h

    pub past_first_same : (ds es : List Todo) → SameTodos r ds es → SameTodos r (past_first procs ds) (past_first parts es)
    past_first_same [] [] h = tt
    past_first_same [] (e ∷ es) h = absurd h
    past_first_same (d ∷ ds) [] h = absurd h
    past_first_same (d ∷ ds) (e ∷ es) h =
        subst (λ (x : Todo). SameTodos r (past_first procs (d ∷ ds)) (past_first parts (x ∷ es))) (sym h.0.is)
        (past_same d.rest d.of_loop d.id d.at h.0.id h.0.at ds es h.1)

    either_same : (b : Bool) (xs ys us vs : List Todo) → SameTodos r xs us → SameTodos r ys vs → SameTodos r (if b then xs else ys) (if b then us else vs)
    either_same true xs ys us vs h k = h
    either_same false xs ys us vs h k = k

    pub broken_same : (n : ℕ) (ds es : List Todo) → SameTodos r ds es → SameTodos r (broken procs n ds) (broken parts n es)
    broken_same zero [] [] h = tt
    broken_same (suc n) [] [] h = tt
    broken_same n [] (e ∷ es) h = absurd h
    broken_same n (d ∷ ds) [] h = absurd h
    broken_same zero (d ∷ ds) (e ∷ es) h =
        subst (λ (x : Todo). SameTodos r (broken procs zero (d ∷ ds)) (broken parts zero (x ∷ es))) (sym h.0.is)
        (either_same d.of_loop (past_first procs ds) (broken procs zero ds) (past_first parts es) (broken parts zero es) (past_first_same ds es h.1) (broken_same zero ds es h.1))
    broken_same (suc n) (d ∷ ds) (e ∷ es) h =
        subst (λ (x : Todo). SameTodos r (broken procs (suc n) (d ∷ ds)) (broken parts (suc n) (x ∷ es))) (sym h.0.is)
        (either_same d.of_loop (broken procs n ds) (broken procs (suc n) ds) (broken parts n es) (broken parts (suc n) es) (broken_same n ds es h.1) (broken_same (suc n) ds es h.1))

    -- ---- labels

    abbrev SameFound : Option (List Todo) → Option (List Todo) → Type 0
    SameFound None None = Unit {0}
    SameFound None (Some es) = ⊥
    SameFound (Some ds) None = ⊥
    SameFound (Some ds) (Some es) = SameTodos r ds es

    or_same : (a b c d : Option (List Todo)) → SameFound a c → SameFound b d → SameFound (option_or a b) (option_or c d)
    or_same None b None d h k = k
    or_same None b (Some es) d h k = absurd h
    or_same (Some ds) b None d h k = absurd h
    or_same (Some ds) b (Some es) d h k = h

    label_same : (b : Bool) (xs us : List Todo) → SameTodos r xs us → SameFound (if b then Some xs else None) (if b then Some us else None)
    label_same true xs us h = h
    label_same false xs us h = tt

    mutual
      found_in_same : (k : ℕ) (s : TypedStatement) (b : TypedBlock) (l : Bool) (id at id2 at2 : ℕ) (ds es : List Todo) → SameTodos r ds es →
          SameFound (found_in procs k s b l id at ds) (found_in parts k (recalled r s) (recalled_block r b) l id2 at2 es)
      found_in_same k (Label n) b l id at id2 at2 ds es h = label_same (nat_eq n k) _ _ (first_same b l id at id2 at2 ds es h)
      found_in_same k (If s g x y) b l id at id2 at2 ds es h =
          let after : List Todo = past procs (If s g x y) b l id at ∷ ds in
          let after2 : List Todo = past parts (If s g (recalled_block r x) (recalled_block r y)) (recalled_block r b) l id2 at2 ∷ es in
          let past_it : SameTodos r after after2 = first_same b l _ _ _ _ ds es h in
          or_same _ _ _ _
          (found_block_same k x false id (at + 1) id2 (at2 + 1) after after2 past_it)
          (found_block_same k y false (id + block_assertions procs x) (at + 1 + block_points procs x) (id2 + block_assertions parts (recalled_block r x)) (at2 + 1 + block_points parts (recalled_block r x)) after after2 past_it)
      found_in_same k (While s g is x) b l id at id2 at2 ds es h =
          found_block_same k x true (id + plain_invariants is) (at + length is + 1) (id2 + plain_invariants is) (at2 + length is + 1)
          (record { rest = Then (While s g is x) b; of_loop = l; id = id; at = at } ∷ ds) (record { rest = recalled_block r (Then (While s g is x) b); of_loop = l; id = id2; at = at2 } ∷ es)
          (first_same (Then (While s g is x) b) l id at id2 at2 ds es h)
      found_in_same k (Assert s e) b l id at id2 at2 ds es h = tt
      found_in_same k (Assume s e) b l id at id2 at2 ds es h = tt
      found_in_same k (Havoc s cs) b l id at id2 at2 ds es h = tt
      found_in_same k (Assign s cs xs) b l id at id2 at2 ds es h = tt
      found_in_same k (Call s cs f xs) b l id at id2 at2 ds es h = tt
      found_in_same k (Break s n) b l id at id2 at2 ds es h = tt
      found_in_same k (Goto s ks) b l id at id2 at2 ds es h = tt
      found_in_same k (Return s) b l id at id2 at2 ds es h = tt

      found_block_same : (k : ℕ) (b : TypedBlock) (l : Bool) (id at id2 at2 : ℕ) (ds es : List Todo) → SameTodos r ds es →
          SameFound (found_block procs k b l id at ds) (found_block parts k (recalled_block r b) l id2 at2 es)
      found_block_same k Empty l id at id2 at2 ds es h = tt
      found_block_same k (Then s b) l id at id2 at2 ds es h =
          or_same _ _ _ _ (found_in_same k s b l id at id2 at2 ds es h)
          (found_block_same k b l (id + assertions procs s) (at + points procs s) (id2 + assertions parts (recalled r s)) (at2 + points parts (recalled r s)) ds es h)

    behind_same : (o u : Option (List Todo)) → SameFound o u → SamePoint r (point_behind o) (point_behind u)
    behind_same None None h = exits_same
    behind_same None (Some es) h = absurd h
    behind_same (Some ds) None h = absurd h
    behind_same (Some ds) (Some es) h = settled_same ds es h

    pub ways_same : (b : TypedBlock) (id at id2 at2 : ℕ) (ks : List ℕ) → SamePoints r (ways_to procs b id at ks) (ways_to parts (recalled_block r b) id2 at2 ks)
    ways_same b id at id2 at2 [] = tt
    ways_same b id at id2 at2 (k ∷ ks) =
        (behind_same (found_block procs k b false id at []) (found_block parts k (recalled_block r b) false id2 at2 []) (found_block_same k b false id at id2 at2 [] [] tt), ways_same b id at id2 at2 ks)

-- ---- of which no part is done

ended_part : (b : TypedBlock) (l : Bool) (id at : ℕ) (ds : List Todo) (p : Point) → p.part ≡ 0 → (unless_ended b l id at ds p).part ≡ 0
ended_part Empty l id at ds p h = h
ended_part (Then (Label n) b) l id at ds p h = ended_part b l id at ds p h
ended_part (Then (Assert s e) b) l id at ds p h = refl
ended_part (Then (Assume s e) b) l id at ds p h = refl
ended_part (Then (Havoc s cs) b) l id at ds p h = refl
ended_part (Then (Assign s cs xs) b) l id at ds p h = refl
ended_part (Then (Call s cs f xs) b) l id at ds p h = refl
ended_part (Then (If s g x y) b) l id at ds p h = refl
ended_part (Then (While s g is x) b) l id at ds p h = refl
ended_part (Then (Break s n) b) l id at ds p h = refl
ended_part (Then (Goto s ks) b) l id at ds p h = refl
ended_part (Then (Return s) b) l id at ds p h = refl

pub settled_part : (ds : List Todo) → (settled ds).part ≡ 0
settled_part [] = refl
settled_part (d ∷ ds) = ended_part d.rest d.of_loop d.id d.at ds (settled ds) (settled_part ds)

-- none of these points
abbrev pub AreAtStart : List Point → Type 0
AreAtStart [] = Unit {0}
AreAtStart (p ∷ ps) = (p.part ≡ 0) × AreAtStart ps

pub ways_start : (procs : List TypedProcedure) (b : TypedBlock) (id at : ℕ) (ks : List ℕ) → AreAtStart (ways_to procs b id at ks)
ways_start procs b id at [] = tt
ways_start procs b id at (k ∷ ks) = (by_found (found_block procs k b false id at []), ways_start procs b id at ks)
  where
    by_found : (o : Option (List Todo)) → (point_behind o).part ≡ 0
    by_found None = refl
    by_found (Some ds) = settled_part ds
