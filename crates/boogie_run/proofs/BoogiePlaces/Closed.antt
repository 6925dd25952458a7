-- The points of a body lead to points of the body: whatever holds of all of them holds of each point that one of them leads to.
use Rattle.std.proofs.Common.{◌≡◌, ℕ, zero, suc, ◌+◌, ◌-◌, ◌<◌, ◌≤◌, Bool, true, false, not, nat_eq, List, [], ◌∷◌, ◌++◌, length, take, Option, None, Some, slice_get, if◌then◌else◌, refl, subst, arith}
use Rattle.std.specs.List.{AllByRecursion}
use Rattle.std.proofs.Common.{inl, inr}
use Rattle.std.proofs.Math.Nat.{eq-or-lt_of_le}
use Rattle.std.proofs.lemmas.Option.{slice_get_within}
use Rattle.std.specs.Option.{option_or}
use Rattle.typed_tree.specs.TypedTree.{TypedExpression, TypedGuard, Any, Cond, TypedInvariant, TypedStatement, Assert, Assume, Havoc, Assign, Call, If, While, Break, Goto, Return, Label, TypedBlock, Empty, Then, TypedSpecification, Requires, Ensures, TypedProcedure}
use Rattle.typed_tree.specs.TypingRules.Counts.{plain_invariants, assertions, points, block_assertions, block_points, checked_at_call, plain_requires, one_if}
use Rattle.boogie_tree.specs.declared.span.Span.{Span}
use Rattle.boogie_tree.specs.declared.tree.Column.{Column}
use Rattle.boogie_run.specs.BoogiePoints.Points.{Todo, Point, at_exit, before, unless_ended, settled, past, past_first, broken, found_in, found_block}
use Rattle.boogie_run.specs.BoogiePoints.Actions.{Action, guarded, checked, next_part, plain_conditions, ensured_conditions, chosen_columns, call_action, call_if_any, called_action, unseen_action, head_action, point_behind, ways_to, one_of, havoc_action, body_action}
use Rattle.boogie_run.specs.BoogiePlaces.Places.{parts_from, at_statement, points_in, points_of, onward, HavocsWrite, BlockWrites}

-- ---- the parts of a point

pub all_append : {X : Type 0} (P : X → Type 0) (xs ys : List X) → AllByRecursion P xs → AllByRecursion P ys → AllByRecursion P (xs ++ ys)
all_append P [] ys h k = k
all_append P (x ∷ xs) ys h k = (h.0, all_append P xs ys h.1 k)

pub front_all : {X : Type 0} (P : X → Type 0) (xs ys : List X) → AllByRecursion P (xs ++ ys) → AllByRecursion P xs
front_all P [] ys h = tt
front_all P (x ∷ xs) ys h = (h.0, front_all P xs ys h.1)

pub rest_all : {X : Type 0} (P : X → Type 0) (xs ys : List X) → AllByRecursion P (xs ++ ys) → AllByRecursion P ys
rest_all P [] ys h = h
rest_all P (x ∷ xs) ys h = rest_all P xs ys h.1

-- what holds of each part holds of all
pub each_part : (Q : Point → Type 0) (p : Point) (k n : ℕ) → ((i : ℕ) → i < k + n → Q (record p { part = i })) → AllByRecursion Q (parts_from p k n)
each_part Q p k zero h = tt
each_part Q p k (suc n) h = (h k (omega arith), each_part Q p (k + 1) n (λ i l. h i (omega arith)))

-- and the other way round
pub part_of_all : (Q : Point → Type 0) (p : Point) (k n i : ℕ) → AllByRecursion Q (parts_from p k n) → k ≤ i → i < k + n → Q (record p { part = i })
part_of_all Q p k zero i h l m = absurd (omega arith)
part_of_all Q p k (suc n) i h l m = elim (eq-or-lt_of_le l) [
  | inl e ↦ subst (λ (j : ℕ). Q (record p { part = j })) e h.0
  | inr more ↦ part_of_all Q p (k + 1) n i h.1 (omega arith) (omega arith)
]

-- the first part of several
first_part : (Q : Point → Type 0) (p : Point) (n : ℕ) (rest : List Point) → 0 < n → AllByRecursion Q (parts_from p 0 n ++ rest) → Q (record p { part = 0 })
first_part Q p zero rest l h = absurd (omega arith)
first_part Q p (suc n) rest l h = h.0

counted : (b : Bool) (i : TypedInvariant) (is : List TypedInvariant) (n : ℕ) → length is ≡ n → length (if b then is else (i ∷ is)) ≡ one_if (not b) + n
counted true i is n e = omega arith
counted false i is n e = omega arith

pub plain_count : (ss : List TypedSpecification) → length (plain_conditions ss) ≡ plain_requires ss
plain_count [] = refl
plain_count (Requires i ∷ ss) = counted i.free i (plain_conditions ss) (plain_requires ss) (plain_count ss)
plain_count (Ensures i ∷ ss) = plain_count ss

-- ---- the points of a block

module _ (P : Point → Type 0) (procs : List TypedProcedure) where
  -- the point at what is left of a block: its first one, or the one behind it
  pub begins : (b : TypedBlock) (loop : Bool) (id at : ℕ) (under : List Todo) → BlockWrites b → AllByRecursion P (points_of procs b loop id at under) → P (settled under) →
      P (unless_ended b loop id at under (settled under))
  begins Empty loop id at under w h k = k
  begins (Then (Label n) b) loop id at under w h k =
      let e : id + 0 ≡ id = omega arith in
      let f : at + 0 ≡ at = omega arith in
      begins b loop id at under w.1 (rw (e, f) at h) k
  begins (Then (Havoc span []) b) loop id at under w h k = absurd w.0
  begins (Then (Havoc span (c ∷ cs)) b) loop id at under w h k = h.0
  begins (Then (Call span cs f es) b) loop id at under w h k =
      first_part P (at_statement (Call span cs f es) b loop id at under) (checked_at_call (slice_get procs f) + 1) _ (omega arith) h
  begins (Then (While span g is x) b) loop id at under w h k =
      let here : Todo = record { rest = Then (While span g is x) b; of_loop = loop; id = id; at = at } in
      let inner : List Point = points_of procs x true (id + plain_invariants is) (at + length is + 1) (here ∷ under) in
      first_part P (before (here ∷ under)) (length is + 1) inner (omega arith)
      (front_all P (parts_from (before (here ∷ under)) 0 (length is + 1) ++ inner) (points_of procs b loop (id + assertions procs (While span g is x)) (at + points procs (While span g is x)) under) h)
  begins (Then (If span g x y) b) loop id at under w h k = h.0
  begins (Then (Assert span e) b) loop id at under w h k = h.0
  begins (Then (Assume span e) b) loop id at under w h k = h.0
  begins (Then (Assign span cs es) b) loop id at under w h k = h.0
  begins (Then (Break span n) b) loop id at under w h k = h.0
  begins (Then (Goto span ks) b) loop id at under w h k = h.0
  begins (Then (Return span) b) loop id at under w h k = h.0

  -- ---- where the actions lead

  -- behind the statement that stands first
  abbrev pub Leads : Point → Action → Type 0
  Leads here a = AllByRecursion P (onward procs here a)

  pub checked_leads : (free : Bool) (id : ℕ) (span : Span) (e : TypedExpression) (here next : Point) → P next → Leads here (checked free id span e next)
  checked_leads true id span e here next h = (h, tt)
  checked_leads false id span e here next h = (h, tt)

  guarded_leads : (g : TypedGuard) (here hit miss : Point) → P hit → P miss → Leads here (guarded g hit miss)
  guarded_leads Any here hit miss h k = (h, (k, tt))
  guarded_leads (Cond e) here hit miss h k = (h, (k, tt))

  havoc_leads : (o more : Option Column) (here after : Point) → ((d : Column) → more ≡ Some d → P (next_part here)) → P after → Leads here (havoc_action o more here after)
  havoc_leads None more here after h k = (k, tt)
  havoc_leads (Some c) None here after h k = (k, tt)
  havoc_leads (Some c) (Some d) here after h k = (h d refl, tt)

  unseen_leads : (o : Option Column) (i : Option TypedInvariant) (f : ℕ) (targets : List Column) (args : List TypedExpression) (here next : Point) →
      P (settled (past_first procs here.todo)) → Leads here (unseen_action o i f targets args here next)
  unseen_leads (Some c) i f targets args here next h = (h, tt)
  unseen_leads None (Some i) f targets args here next h = (h, tt)
  unseen_leads None None f targets args here next h = (h, tt)

  called_leads : (f : ℕ) (q : TypedProcedure) (body : Option TypedBlock) (targets : List Column) (args : List TypedExpression) (done : ℕ) (here next : Point) →
      P (settled (past_first procs here.todo)) → Leads here (called_action f q body targets args done here next)
  called_leads f q None targets args done here next h =
      unseen_leads (slice_get (chosen_columns q) done) (slice_get (ensured_conditions q.specs) (done - length (chosen_columns q))) f targets args here next h
  called_leads f q (Some b) targets args done here next h = (h, tt)

  call_leads : (o : Option TypedInvariant) (id f : ℕ) (q : TypedProcedure) (span : Span) (targets : List Column) (args : List TypedExpression) (done : ℕ) (here next : Point) →
      ((i : TypedInvariant) → o ≡ Some i → P (next_part here)) → P (settled (past_first procs here.todo)) → Leads here (call_action o id f q span targets args done here next)
  call_leads (Some i) id f q span targets args done here next h k = (h i refl, tt)
  call_leads None id f q span targets args done here next h k = called_leads f q q.body targets args done here next k

  head_leads : (o : Option TypedInvariant) (id : ℕ) (here : Point) (guard : Action) → ((i : TypedInvariant) → o ≡ Some i → P (next_part here)) → Leads here guard →
      Leads here (head_action o id here guard)
  head_leads (Some i) id here guard h k = checked_leads i.free id i.span i.cond here (next_part here) (h i refl)
  head_leads None id here guard h k = k

  one_leads : (ways : List Point) (here : Point) → P at_exit → AllByRecursion P ways → Leads here (one_of ways)
  one_leads [] here exit h = (exit, tt)
  one_leads (p ∷ []) here exit h = (h.0, tt)
  one_leads (p ∷ q ∷ ps) here exit h = h

  -- ---- the points of a body lead to such points

  module _ (body : TypedBlock) (first start : ℕ) (exit : P at_exit) (gotos : (k : ℕ) → P (point_behind (found_block procs k body false first start []))) where
    -- each point that the action at this one leads to
    abbrev pub Stays : Point → Type 0
    Stays p = Leads p (body_action procs body first start p.todo p)

    -- behind the loops that a break leaves, from inside a block
    abbrev pub Outs : Bool → List Todo → Type 0
    Outs loop under = (r : TypedBlock) (i j k : ℕ) → P (settled (broken procs k (record { rest = r; of_loop = loop; id = i; at = j } ∷ under)))

    ways_stay : (ks : List ℕ) → AllByRecursion P (ways_to procs body first start ks)
    ways_stay [] = tt
    ways_stay (k ∷ ks) = (gotos k, ways_stay ks)

    outs_of_branch : (s : TypedStatement) (b : TypedBlock) (loop : Bool) (id at : ℕ) (under : List Todo) → Outs loop under → Outs false (past procs s b loop id at ∷ under)
    outs_of_branch s b loop id at under outs r i j zero = outs b (id + assertions procs s) (at + points procs s) zero
    outs_of_branch s b loop id at under outs r i j (suc k) = outs b (id + assertions procs s) (at + points procs s) (suc k)

    outs_of_body : (span : Span) (g : TypedGuard) (is : List TypedInvariant) (x b : TypedBlock) (loop : Bool) (id at : ℕ) (under : List Todo) → Outs loop under →
        P (settled (past procs (While span g is x) b loop id at ∷ under)) → Outs true (record { rest = Then (While span g is x) b; of_loop = loop; id = id; at = at } ∷ under)
    outs_of_body span g is x b loop id at under outs after r i j zero = after
    outs_of_body span g is x b loop id at under outs after r i j (suc k) = outs (Then (While span g is x) b) id at k

    call_stays : (span : Span) (cs : List Column) (f : ℕ) (es : List TypedExpression) (b : TypedBlock) (loop : Bool) (id at : ℕ) (under : List Todo) (o : Option TypedProcedure) (part : ℕ) →
        ((i : ℕ) → i < checked_at_call o + 1 → P (record (at_statement (Call span cs f es) b loop id at under) { part = i })) → P (settled (past procs (Call span cs f es) b loop id at ∷ under)) →
        Leads (record (at_statement (Call span cs f es) b loop id at under) { part = part })
        (call_if_any o id f span cs es (record (at_statement (Call span cs f es) b loop id at under) { part = part }) (settled (past procs (Call span cs f es) b loop id at ∷ under)))
    call_stays span cs f es b loop id at under None part listed after = (after, tt)
    call_stays span cs f es b loop id at under (Some q) part listed after =
        let here : Point = record (at_statement (Call span cs f es) b loop id at under) { part = part } in
        call_leads (slice_get (plain_conditions q.specs) part) (id + part) f q span cs es (part - length (plain_conditions q.specs)) here
        (settled (past procs (Call span cs f es) b loop id at ∷ under))
        (λ i e. listed (part + 1) (let l : part < length (plain_conditions q.specs) = slice_get_within (plain_conditions q.specs) part i e in omega (arith, plain_count q.specs)))
        after

    mutual
      pub closed_in : (s : TypedStatement) (b : TypedBlock) (loop : Bool) (id at : ℕ) (under : List Todo) → HavocsWrite s → AllByRecursion P (points_in procs s b loop id at under) →
          P (settled (past procs s b loop id at ∷ under)) → Outs loop under → AllByRecursion Stays (points_in procs s b loop id at under)
      closed_in (Assert span e) b loop id at under w h after outs = ((after, tt), tt)
      closed_in (Assume span e) b loop id at under w h after outs = ((after, tt), tt)
      closed_in (Havoc span cs) b loop id at under w h after outs =
          let p : Point = at_statement (Havoc span cs) b loop id at under in
          each_part Stays p 0 (length cs)
          (λ i l. havoc_leads (slice_get cs i) (slice_get cs (i + 1)) (record p { part = i }) (settled (past procs (Havoc span cs) b loop id at ∷ under))
          (λ d e. part_of_all P p 0 (length cs) (i + 1) h (omega arith) (let m : i + 1 < length cs = slice_get_within cs (i + 1) d e in omega arith)) after)
      closed_in (Assign span cs es) b loop id at under w h after outs = ((after, tt), tt)
      closed_in (Call span cs f es) b loop id at under w h after outs =
          let p : Point = at_statement (Call span cs f es) b loop id at under in
          let n : ℕ = checked_at_call (slice_get procs f) + 1 in
          each_part Stays p 0 n
          (λ i l. call_stays span cs f es b loop id at under (slice_get procs f) i (λ j m. part_of_all P p 0 n j h (omega arith) (omega arith)) after)
      closed_in (If span g x y) b loop id at under w h after outs =
          let behind : Todo = past procs (If span g x y) b loop id at in
          let xs : List Point = points_of procs x false id (at + 1) (behind ∷ under) in
          let ys : List Point = points_of procs y false (id + block_assertions procs x) (at + 1 + block_points procs x) (behind ∷ under) in
          let hx : AllByRecursion P xs = front_all P xs ys h.1 in
          let hy : AllByRecursion P ys = rest_all P xs ys h.1 in (
            guarded_leads g (at_statement (If span g x y) b loop id at under) _ _ (begins x false id (at + 1) (behind ∷ under) w.0 hx after)
                (begins y false (id + block_assertions procs x) (at + 1 + block_points procs x) (behind ∷ under) w.1 hy after),
            all_append Stays xs ys
                (closed_of x false id (at + 1) (behind ∷ under) w.0 hx after (outs_of_branch (If span g x y) b loop id at under outs))
                (closed_of y false (id + block_assertions procs x) (at + 1 + block_points procs x) (behind ∷ under) w.1 hy after (outs_of_branch (If span g x y) b loop id at under outs)),
          )
      closed_in (While span g is x) b loop id at under w h after outs =
          let here : Todo = record { rest = Then (While span g is x) b; of_loop = loop; id = id; at = at } in
          let p : Point = before (here ∷ under) in
          let head : List Point = parts_from p 0 (length is + 1) in
          let inner : List Point = points_of procs x true (id + plain_invariants is) (at + length is + 1) (here ∷ under) in
          let hp : AllByRecursion P head = front_all P head inner h in
          let hx : AllByRecursion P inner = rest_all P head inner h in
          let again : P p = part_of_all P p 0 (length is + 1) 0 hp (omega arith) (omega arith) in
          all_append Stays head inner
          (each_part Stays p 0 (length is + 1)
          (λ i l. head_leads (slice_get is i) (id + plain_invariants (take i is)) (record p { part = i }) _
          (λ inv e. part_of_all P p 0 (length is + 1) (i + 1) hp (omega arith) (let m : i < length is = slice_get_within is i inv e in omega arith))
          (guarded_leads g (record p { part = i }) _ _ (begins x true (id + plain_invariants is) (at + length is + 1) (here ∷ under) w hx again) after)))
          (closed_of x true (id + plain_invariants is) (at + length is + 1) (here ∷ under) w hx again (outs_of_body span g is x b loop id at under outs after))
      closed_in (Break span n) b loop id at under w h after outs = ((outs (Then (Break span n) b) id at n, tt), tt)
      closed_in (Goto span ks) b loop id at under w h after outs =
          (one_leads (ways_to procs body first start ks) (at_statement (Goto span ks) b loop id at under) exit (ways_stay ks), tt)
      closed_in (Return span) b loop id at under w h after outs = ((exit, tt), tt)
      closed_in (Label k) b loop id at under w h after outs = tt

      pub closed_of : (b : TypedBlock) (loop : Bool) (id at : ℕ) (under : List Todo) → BlockWrites b → AllByRecursion P (points_of procs b loop id at under) →
          P (settled under) → Outs loop under → AllByRecursion Stays (points_of procs b loop id at under)
      closed_of Empty loop id at under w h after outs = tt
      closed_of (Then s b) loop id at under w h after outs =
          let xs : List Point = points_in procs s b loop id at under in
          let ys : List Point = points_of procs b loop (id + assertions procs s) (at + points procs s) under in
          let hx : AllByRecursion P xs = front_all P xs ys h in
          let hy : AllByRecursion P ys = rest_all P xs ys h in
          all_append Stays xs ys
          (closed_in s b loop id at under w.0 hx (begins b loop (id + assertions procs s) (at + points procs s) under w.1 hy after) outs)
          (closed_of b loop (id + assertions procs s) (at + points procs s) under w.1 hy after outs)

  -- ---- labels

  either_way : (o more : Option (List Todo)) → P (point_behind o) → P (point_behind more) → P (point_behind (option_or o more))
  either_way None more h k = k
  either_way (Some todo) more h k = h

  if_label : (found : Bool) (todo : List Todo) → P at_exit → P (settled todo) → P (point_behind (if found then Some todo else None))
  if_label true todo exit h = h
  if_label false todo exit h = exit

  module _ (k : ℕ) (exit : P at_exit) where
    mutual
      -- the way to a label in a statement
      pub way_in : (s : TypedStatement) (b : TypedBlock) (loop : Bool) (id at : ℕ) (under : List Todo) → HavocsWrite s → AllByRecursion P (points_in procs s b loop id at under) →
          P (settled (past procs s b loop id at ∷ under)) → P (point_behind (found_in procs k s b loop id at under))
      way_in (Label n) b loop id at under w h after =
          let e : id + 0 ≡ id = omega arith in
          let f : at + 0 ≡ at = omega arith in
          if_label (nat_eq n k) (record { rest = b; of_loop = loop; id = id; at = at } ∷ under) exit (rw (e, f) at after)
      way_in (If span g x y) b loop id at under w h after =
          let behind : Todo = past procs (If span g x y) b loop id at in
          let xs : List Point = points_of procs x false id (at + 1) (behind ∷ under) in
          let ys : List Point = points_of procs y false (id + block_assertions procs x) (at + 1 + block_points procs x) (behind ∷ under) in
          either_way (found_block procs k x false id (at + 1) (behind ∷ under))
          (found_block procs k y false (id + block_assertions procs x) (at + 1 + block_points procs x) (behind ∷ under))
          (way_of x false id (at + 1) (behind ∷ under) w.0 (front_all P xs ys h.1) after)
          (way_of y false (id + block_assertions procs x) (at + 1 + block_points procs x) (behind ∷ under) w.1 (rest_all P xs ys h.1) after)
      way_in (While span g is x) b loop id at under w h after =
          let here : Todo = record { rest = Then (While span g is x) b; of_loop = loop; id = id; at = at } in
          let p : Point = before (here ∷ under) in
          let head : List Point = parts_from p 0 (length is + 1) in
          let inner : List Point = points_of procs x true (id + plain_invariants is) (at + length is + 1) (here ∷ under) in
          way_of x true (id + plain_invariants is) (at + length is + 1) (here ∷ under) w (rest_all P head inner h)
          (part_of_all P p 0 (length is + 1) 0 (front_all P head inner h) (omega arith) (omega arith))
      way_in (Assert span e) b loop id at under w h after = exit
      way_in (Assume span e) b loop id at under w h after = exit
      way_in (Havoc span cs) b loop id at under w h after = exit
      way_in (Assign span cs es) b loop id at under w h after = exit
      way_in (Call span cs f es) b loop id at under w h after = exit
      way_in (Break span n) b loop id at under w h after = exit
      way_in (Goto span ks) b loop id at under w h after = exit
      way_in (Return span) b loop id at under w h after = exit

      -- and in a block
      pub way_of : (b : TypedBlock) (loop : Bool) (id at : ℕ) (under : List Todo) → BlockWrites b → AllByRecursion P (points_of procs b loop id at under) → P (settled under) →
          P (point_behind (found_block procs k b loop id at under))
      way_of Empty loop id at under w h after = exit
      way_of (Then s b) loop id at under w h after =
          let xs : List Point = points_in procs s b loop id at under in
          let ys : List Point = points_of procs b loop (id + assertions procs s) (at + points procs s) under in
          either_way (found_in procs k s b loop id at under) (found_block procs k b loop (id + assertions procs s) (at + points procs s) under)
          (way_in s b loop id at under w.0 (front_all P xs ys h) (begins b loop (id + assertions procs s) (at + points procs s) under w.1 (rest_all P xs ys h) after))
          (way_of b loop (id + assertions procs s) (at + points procs s) under w.1 (rest_all P xs ys h) after)
