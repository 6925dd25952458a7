-- How many assertions the points of a body have.
use Rattle.std.proofs.Common.{◌≡◌, ◌∙◌, ℕ, zero, suc, ◌+◌, ◌-◌, Bool, true, false, not, List, [], ◌∷◌, ◌++◌, take, length, Option, None, Some, slice_get, refl, sym, ap, arith}
use Rattle.boogie_tree.specs.declared.span.Span.{Span}
use Rattle.boogie_tree.specs.declared.tree.Column.{Column}
use Rattle.typed_tree.specs.TypedTree.{TypedExpression, TypedGuard, Any, Cond, TypedInvariant, TypedStatement, Assert, Assume, Havoc, Assign, Call, If, While, Break, Goto, Return, Label, TypedBlock, Empty, Then, TypedSpecification, Requires, Ensures, TypedProcedure, TypedProgram}
use Rattle.typed_tree.specs.TypingRules.Counts.{one_if, one_if_plain, plain_invariants, plain_ensures, checked_at_call, assertions, points, block_assertions, block_points, body_assertions}
use Rattle.boogie_run.specs.BoogiePoints.Points.{Todo, Start, Entry, Point, at_exit, before, settled, past}
use Rattle.boogie_run.specs.BoogiePoints.Actions as actions
use Rattle.boogie_run.specs.BoogiePoints.Actions.{Action, next_part, stage_action, start_action, entry_action, exit_action, checked, guarded, head_action, havoc_action, one_of, ways_to, call_if_any, call_action, called_action, unseen_action, free_conditions, ensured_conditions, start_conditions, plain_conditions, chosen_columns, first_assertion, first_place, first_point}
use Rattle.boogie_run.proofs.BoogiePoints.ConditionLaws.{plain_requires_counted}
use Rattle.boogie_run.specs.BoogiePlaces.Places.{parts_from, at_statement, points_in, points_of, points_of_body, start_points}

-- how many assertions an action makes
abbrev pub asserted : Action → ℕ
asserted (actions.Check id at e next) = 1
asserted (actions.Suppose e next) = 0
asserted (actions.Demand id at e args next) = 1
asserted (actions.Write cs es next) = 0
asserted (actions.Guess c next) = 0
asserted (actions.Test e hit miss) = 0
asserted (actions.Pick ways) = 0
asserted (actions.Jump next) = 0
asserted (actions.Enter f args) = 0
asserted (actions.Keep f args c next) = 0
asserted (actions.Grant f args e next) = 0
asserted (actions.Finish f args targets next) = 0
asserted actions.Leave = 0

-- those of several points, by the action at each
abbrev pub asserted_at : (Point → Action) → List Point → ℕ
asserted_at f [] = 0
asserted_at f (p ∷ ps) = asserted (f p) + asserted_at f ps

asserted_at-append : (f : Point → Action) (ps qs : List Point) → asserted_at f (ps ++ qs) ≡ asserted_at f ps + asserted_at f qs
asserted_at-append f [] qs = omega arith
asserted_at-append f (p ∷ ps) qs = omega (arith, asserted_at-append f ps qs)

both_asserted : (f : Point → Action) (ps qs : List Point) (k l : ℕ) → asserted_at f ps ≡ k → asserted_at f qs ≡ l → asserted_at f (ps ++ qs) ≡ k + l
both_asserted f ps qs k l d e = omega (arith, asserted_at-append f ps qs)

-- ---- parts

no_part : (f : Point → Action) (p : Point) (k n : ℕ) → ((i : ℕ) → asserted (f (record p { part = i })) ≡ 0) → asserted_at f (parts_from p k n) ≡ 0
no_part f p k zero h = refl
no_part f p k (suc n) h = omega (arith, h k, no_part f p (k + 1) n h)

-- the sum of these numbers, from number k on
abbrev sum_from : (ℕ → ℕ) → ℕ → ℕ → ℕ
sum_from g k zero = 0
sum_from g k (suc n) = g k + sum_from g (k + 1) n

parts_sum : (f : Point → Action) (p : Point) (g : ℕ → ℕ) (k n : ℕ) → ((i : ℕ) → asserted (f (record p { part = i })) ≡ g i) → asserted_at f (parts_from p k n) ≡ sum_from g k n
parts_sum f p g k zero h = refl
parts_sum f p g k (suc n) h = omega (arith, h k, parts_sum f p g (k + 1) n h)

one_further : {X : Type 0} (h : Option X → ℕ) (x : X) (xs : List X) (k n : ℕ) → sum_from (λ i. h (slice_get (x ∷ xs) i)) (k + 1) n ≡ sum_from (λ i. h (slice_get xs i)) k n
one_further h x xs k zero = refl
one_further h x xs k (suc n) =
    let next : k + 1 ≡ suc k = omega arith in
    let here : h (slice_get (x ∷ xs) (k + 1)) ≡ h (slice_get xs k) = ap (λ (i : ℕ). h (slice_get (x ∷ xs) i)) next in
    omega (arith, here, one_further h x xs (k + 1) n)

-- the sum over the members of a list
abbrev sum_of : {X : Type 0} → (X → ℕ) → List X → ℕ
sum_of f [] = 0
sum_of f (x ∷ xs) = f x + sum_of f xs

-- what a list has at each place, and nothing behind it
all_parts : {X : Type 0} (h : Option X → ℕ) (xs : List X) → h None ≡ 0 → sum_from (λ i. h (slice_get xs i)) 0 (length xs + 1) ≡ sum_of (λ x. h (Some x)) xs
all_parts h [] e = omega arith
all_parts h (x ∷ xs) e =
    let more : suc (length xs) + 1 ≡ suc (length xs + 1) = omega arith in
    let rest : sum_from (λ i. h (slice_get (x ∷ xs) i)) (0 + 1) (length xs + 1) ≡ sum_of (λ y. h (Some y)) xs = one_further h x xs 0 (length xs + 1) ∙ all_parts h xs e in
    ap (λ (n : ℕ). sum_from (λ i. h (slice_get (x ∷ xs) i)) 0 n) more ∙ ap (λ (n : ℕ). h (Some x) + n) rest

-- a condition that is checked unless it is free
abbrev plain_if_any : Option TypedInvariant → ℕ
plain_if_any None = 0
plain_if_any (Some i) = one_if_plain i

plain_sum : (is : List TypedInvariant) → sum_of (λ i. plain_if_any (Some i)) is ≡ plain_invariants is
plain_sum [] = refl
plain_sum (i ∷ is) = omega (arith, plain_sum is)

checked_parts : (f : Point → Action) (p : Point) (is : List TypedInvariant) → ((i : ℕ) → asserted (f (record p { part = i })) ≡ plain_if_any (slice_get is i)) →
    asserted_at f (parts_from p 0 (length is + 1)) ≡ plain_invariants is
checked_parts f p is h = parts_sum f p (λ i. plain_if_any (slice_get is i)) 0 (length is + 1) h ∙ all_parts plain_if_any is refl ∙ plain_sum is

-- a condition that is always checked
abbrev one_if_any : Option TypedInvariant → ℕ
one_if_any None = 0
one_if_any (Some i) = 1

one_sum : (is : List TypedInvariant) → sum_of (λ i. one_if_any (Some i)) is ≡ length is
one_sum [] = refl
one_sum (i ∷ is) = omega (arith, one_sum is)

demanded_parts : (f : Point → Action) (p : Point) (is : List TypedInvariant) → ((i : ℕ) → asserted (f (record p { part = i })) ≡ one_if_any (slice_get is i)) →
    asserted_at f (parts_from p 0 (length is + 1)) ≡ length is
demanded_parts f p is h = parts_sum f p (λ i. one_if_any (slice_get is i)) 0 (length is + 1) h ∙ all_parts one_if_any is refl ∙ one_sum is

-- ---- actions

checked_once : (free : Bool) (id : ℕ) (at : Span) (e : TypedExpression) (next : Point) → asserted (checked free id at e next) ≡ one_if (not free)
checked_once true id at e next = refl
checked_once false id at e next = refl

guarded_never : (g : TypedGuard) (hit miss : Point) → asserted (guarded g hit miss) ≡ 0
guarded_never Any hit miss = refl
guarded_never (Cond e) hit miss = refl

head_plain : (o : Option TypedInvariant) (id : ℕ) (here : Point) (guard : Action) → asserted guard ≡ 0 → asserted (head_action o id here guard) ≡ plain_if_any o
head_plain None id here guard e = e
head_plain (Some i) id here guard e = checked_once i.free id i.span i.cond (next_part here)

havoc_never : (o more : Option Column) (here after : Point) → asserted (havoc_action o more here after) ≡ 0
havoc_never None more here after = refl
havoc_never (Some c) None here after = refl
havoc_never (Some c) (Some d) here after = refl

one_of_never : (ways : List Point) → asserted (one_of ways) ≡ 0
one_of_never [] = refl
one_of_never (p ∷ []) = refl
one_of_never (p ∷ q ∷ ps) = refl

unseen_never : (c : Option Column) (i : Option TypedInvariant) (f : ℕ) (targets : List Column) (args : List TypedExpression) (here next : Point) → asserted (unseen_action c i f targets args here next) ≡ 0
unseen_never (Some c) i f targets args here next = refl
unseen_never None (Some i) f targets args here next = refl
unseen_never None None f targets args here next = refl

called_never : (f : ℕ) (q : TypedProcedure) (o : Option TypedBlock) (targets : List Column) (args : List TypedExpression) (done : ℕ) (here next : Point) → asserted (called_action f q o targets args done here next) ≡ 0
called_never f q None targets args done here next = unseen_never (slice_get (chosen_columns q) done) (slice_get (ensured_conditions q.specs) (done - length (chosen_columns q))) f targets args here next
called_never f q (Some b) targets args done here next = refl

call_demands : (i : Option TypedInvariant) (id f : ℕ) (q : TypedProcedure) (at : Span) (targets : List Column) (args : List TypedExpression) (done : ℕ) (here next : Point) →
    asserted (call_action i id f q at targets args done here next) ≡ one_if_any i
call_demands (Some i) id f q at targets args done here next = refl
call_demands None id f q at targets args done here next = called_never f q q.body targets args done here next

ensured_plain : (ss : List TypedSpecification) → plain_invariants (ensured_conditions ss) ≡ plain_ensures ss
ensured_plain [] = refl
ensured_plain (Requires i ∷ ss) = ensured_plain ss
ensured_plain (Ensures i ∷ ss) = omega (arith, ensured_plain ss)

-- ---- statements

-- the action at a point of a body, by its stage
abbrev pub at_stage : TypedProgram → ℕ → TypedProcedure → TypedBlock → Point → Action
at_stage t n q w p = stage_action t n q w p.stage p

module _ (t : TypedProgram) (n : ℕ) (q : TypedProcedure) (w : TypedBlock) where
  call_asserted : (span : Span) (cs : List Column) (f : ℕ) (es : List TypedExpression) (b : TypedBlock) (loop : Bool) (id at : ℕ) (under : List Todo) (o : Option TypedProcedure) → slice_get t.procs f ≡ o →
      asserted_at (at_stage t n q w) (parts_from (at_statement (Call span cs f es) b loop id at under) 0 (checked_at_call o + 1)) ≡ checked_at_call o
  call_asserted span cs f es b loop id at under None e =
      let here : Point = at_statement (Call span cs f es) b loop id at under in
      no_part (at_stage t n q w) here 0 1 (λ i. ap (λ (o : Option TypedProcedure). asserted (call_if_any o id f span cs es (record here { part = i }) (settled (past t.procs (Call span cs f es) b loop id at ∷ under)))) e)
  call_asserted span cs f es b loop id at under (Some r) e =
      let here : Point = at_statement (Call span cs f es) b loop id at under in
      let next : Point = settled (past t.procs (Call span cs f es) b loop id at ∷ under) in
      let is : List TypedInvariant = plain_conditions r.specs in
      let each : (i : ℕ) → asserted (at_stage t n q w (record here { part = i })) ≡ one_if_any (slice_get is i) =
      λ i. ap (λ (o : Option TypedProcedure). asserted (call_if_any o id f span cs es (record here { part = i }) next)) e
      ∙ call_demands (slice_get is i) (id + i) f r span cs es (i - length is) (record here { part = i }) next in
      ap (λ (k : ℕ). asserted_at (at_stage t n q w) (parts_from here 0 (k + 1))) (sym (plain_requires_counted r.specs)) ∙ demanded_parts (at_stage t n q w) here is each ∙ plain_requires_counted r.specs

  mutual
    statement_asserted : (s : TypedStatement) (b : TypedBlock) (loop : Bool) (id at : ℕ) (under : List Todo) → asserted_at (at_stage t n q w) (points_in t.procs s b loop id at under) ≡ assertions t.procs s
    statement_asserted (Assert span e) b loop id at under = refl
    statement_asserted (Assume span e) b loop id at under = refl
    statement_asserted (Havoc span cs) b loop id at under =
        let here : Point = at_statement (Havoc span cs) b loop id at under in
        no_part (at_stage t n q w) here 0 (length cs) (λ i. havoc_never (slice_get cs i) (slice_get cs (i + 1)) (record here { part = i }) (settled (past t.procs (Havoc span cs) b loop id at ∷ under)))
    statement_asserted (Assign span cs es) b loop id at under = refl
    statement_asserted (Call span cs f es) b loop id at under = call_asserted span cs f es b loop id at under (slice_get t.procs f) refl
    statement_asserted (If span g x y) b loop id at under =
        let after : List Todo = past t.procs (If span g x y) b loop id at ∷ under in
        let hit : Point = settled (record { rest = x; of_loop = false; id = id; at = at + 1 } ∷ after) in
        let miss : Point = settled (record { rest = y; of_loop = false; id = id + block_assertions t.procs x; at = at + 1 + block_points t.procs x } ∷ after) in
        ap (λ (k : ℕ). k + asserted_at (at_stage t n q w) (points_of t.procs x false id (at + 1) after ++ points_of t.procs y false (id + block_assertions t.procs x) (at + 1 + block_points t.procs x) after)) (guarded_never g hit miss)
        ∙ (let both : asserted_at (at_stage t n q w) (points_of t.procs x false id (at + 1) after ++ points_of t.procs y false (id + block_assertions t.procs x) (at + 1 + block_points t.procs x) after) ≡ block_assertions t.procs x + block_assertions t.procs y =
        both_asserted (at_stage t n q w) (points_of t.procs x false id (at + 1) after) (points_of t.procs y false (id + block_assertions t.procs x) (at + 1 + block_points t.procs x) after)
        (block_assertions t.procs x) (block_assertions t.procs y) (block_asserted x false id (at + 1) after) (block_asserted y false (id + block_assertions t.procs x) (at + 1 + block_points t.procs x) after) in omega arith)
    statement_asserted (While span g is x) b loop id at under =
        let here : Todo = record { rest = Then (While span g is x) b; of_loop = loop; id = id; at = at } in
        let heads : List Point = parts_from (before (here ∷ under)) 0 (length is + 1) in
        let hit : Point = settled (record { rest = x; of_loop = true; id = id + plain_invariants is; at = at + length is + 1 } ∷ (here ∷ under)) in
        let miss : Point = settled (past t.procs (While span g is x) b loop id at ∷ under) in
        let each : (i : ℕ) → asserted (at_stage t n q w (record (before (here ∷ under)) { part = i })) ≡ plain_if_any (slice_get is i) =
        λ i. head_plain (slice_get is i) (id + plain_invariants (take i is)) (record (before (here ∷ under)) { part = i }) (guarded g hit miss) (guarded_never g hit miss) in
        both_asserted (at_stage t n q w) heads (points_of t.procs x true (id + plain_invariants is) (at + length is + 1) (here ∷ under)) (plain_invariants is) (block_assertions t.procs x)
        (checked_parts (at_stage t n q w) (before (here ∷ under)) is each) (block_asserted x true (id + plain_invariants is) (at + length is + 1) (here ∷ under))
    statement_asserted (Break span k) b loop id at under = refl
    statement_asserted (Goto span ks) b loop id at under = ap (λ (k : ℕ). k + 0) (one_of_never (ways_to t.procs w (first_assertion t.procs n) (first_place t n + length (free_conditions q.specs)) ks))
    statement_asserted (Return span) b loop id at under = refl
    statement_asserted (Label k) b loop id at under = refl

    block_asserted : (b : TypedBlock) (loop : Bool) (id at : ℕ) (under : List Todo) → asserted_at (at_stage t n q w) (points_of t.procs b loop id at under) ≡ block_assertions t.procs b
    block_asserted Empty loop id at under = refl
    block_asserted (Then s b) loop id at under =
        both_asserted (at_stage t n q w) (points_in t.procs s b loop id at under) (points_of t.procs b loop (id + assertions t.procs s) (at + points t.procs s) under) (assertions t.procs s) (block_assertions t.procs b)
        (statement_asserted s b loop id at under) (block_asserted b loop (id + assertions t.procs s) (at + points t.procs s) under)

-- ---- a procedure

entry_never : (i more : Option TypedInvariant) (here : Point) → asserted (entry_action i more here) ≡ 0
entry_never None more here = refl
entry_never (Some i) None here = refl
entry_never (Some i) (Some j) here = refl

start_never : (e more : Option TypedExpression) (here first : Point) → asserted (start_action e more here first) ≡ 0
start_never None more here first = refl
start_never (Some e) None here first = refl
start_never (Some e) (Some d) here first = refl

exit_plain : (o : Option TypedInvariant) (id : ℕ) (here : Point) → asserted (exit_action o id here) ≡ plain_if_any o
exit_plain None id here = refl
exit_plain (Some i) id here = checked_once i.free id i.span i.cond (next_part here)

-- the points of a body
pub body_asserted : (t : TypedProgram) (n : ℕ) (q : TypedProcedure) (b : TypedBlock) → asserted_at (at_stage t n q b) (points_of_body t n q b) ≡ body_assertions t.procs q.specs (Some b)
body_asserted t n q b =
    let free : ℕ = length (free_conditions q.specs) in
    let first : ℕ = first_assertion t.procs n in
    let whole : Todo = record { rest = b; of_loop = false; id = first; at = first_place t n + free } in
    let entry : Point = record { stage = Entry; todo = whole ∷ []; part = 0 } in
    let entries : List Point = parts_from entry 0 free in
    let inner : List Point = points_of t.procs b false first (first_place t n + free) [] in
    let ensured : List TypedInvariant = ensured_conditions q.specs in
    let exits : List Point = parts_from at_exit 0 (length ensured + 1) in
    let f : Point → Action = at_stage t n q b in
    let none : asserted_at f entries ≡ 0 =
    no_part f entry 0 free (λ i. entry_never (slice_get (free_conditions q.specs) i) (slice_get (free_conditions q.specs) (i + 1)) (record entry { part = i })) in
    let of_exits : asserted_at f exits ≡ plain_ensures q.specs =
    checked_parts f at_exit ensured (λ i. exit_plain (slice_get ensured i) (first + (block_assertions t.procs b + plain_invariants (take i ensured))) (record at_exit { part = i })) ∙ ensured_plain q.specs in
    let behind : asserted_at f (inner ++ exits) ≡ block_assertions t.procs b + plain_ensures q.specs =
    both_asserted f inner exits (block_assertions t.procs b) (plain_ensures q.specs) (block_asserted t n q b b false first (first_place t n + free) []) of_exits in
    let all : asserted_at f (entries ++ (inner ++ exits)) ≡ 0 + (block_assertions t.procs b + plain_ensures q.specs) = both_asserted f entries (inner ++ exits) 0 (block_assertions t.procs b + plain_ensures q.specs) none behind in
    omega arith

-- the points of the start
pub start_asserted : (t : TypedProgram) (n : ℕ) (q : TypedProcedure) (b : TypedBlock) → asserted_at (at_stage t n q b) (start_points t q) ≡ 0
start_asserted t n q b =
    let point : Point = record { stage = Start; todo = []; part = 0 } in
    let conditions : List TypedExpression = start_conditions t q in
    no_part (at_stage t n q b) point 0 (length conditions)
    (λ i. start_never (slice_get conditions i) (slice_get conditions (i + 1)) (record point { part = i }) (first_point q b (first_assertion t.procs n) (first_place t n)))
