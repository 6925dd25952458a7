-- The assertions of a program have the numbers from 1 on, in the order of its places.
use Rattle.std.proofs.Common.{◌≡◌, ◌∙◌, ℕ, zero, suc, ◌+◌, ◌-◌, ◌≤◌, Bool, true, false, not, List, [], ◌∷◌, ◌++◌, map, length, Option, None, Some, inl, inr, refl, sym, ap, subst, arith, append_assoc, if◌then◌else◌, IsTrue}
use Rattle.std.specs.Prelude.{slice_get, take}
use Rattle.std.proofs.lemmas.List.{length-append, map-append}
use Rattle.boogie_tree.specs.declared.span.Span.{Span}
use Rattle.boogie_tree.specs.declared.tree.Column.{Column}
use Rattle.typed_tree.specs.TypedTree.{TypedExpression, TypedGuard, Any, Cond, TypedInvariant, TypedStatement, Assert, Assume, Havoc, Assign, Call, If, While, Break, Goto, Return, Label, TypedBlock, Empty, Then, TypedSpecification, Requires, Ensures, TypedProcedure, TypedProgram}
use Rattle.typed_tree.specs.TypingRules.ValidProgram.{is_valid}
use Rattle.typed_tree.specs.TypingRules.Counts.{one_if, one_if_plain, plain_invariants, plain_requires, plain_ensures, checked_at_call, assertions, points, block_assertions, block_points, body_assertions}
use Rattle.typed_tree.proofs.TypingRules.ValidLaws as valid
use Rattle.nwa_base.specs.Members.{Member}
use Rattle.letter_acts.specs.declared.sites.Site.{Site}
use Rattle.boogie_run.specs.BoogiePoints.Points.{Todo, Start, Entry, Point, at_exit, before, settled, past}
use Rattle.boogie_run.specs.BoogiePoints.Actions as actions
use Rattle.boogie_run.specs.BoogiePoints.Actions.{Action, next_part, action_at, stage_action, start_action, entry_action, exit_action, checked, guarded, head_action, havoc_action, one_of, ways_to, call_if_any, call_action, called_action, unseen_action, free_conditions, ensured_conditions, start_conditions, plain_conditions, chosen_columns, first_assertion, first_place, first_point, assertions_before}
use Rattle.boogie_run.specs.BoogiePlaces.Places.{parts_from, at_statement, points_in, points_of, points_of_body, start_points, count_from, Place, located, points_with, places_from, starts_if_any, program_places}
use Rattle.lowered_graph.specs.Arcs.{error_place}
use Rattle.lowered_graph.specs.Lowered.{action_sites, sites_of, program_sites}
use Rattle.lowered_graph.proofs.CallPlaces.{action_is}
use Rattle.lowered_graph.proofs.Lists.{member_either}

-- ---- the numbers of the assertions of actions

abbrev pub number_of_site : ℕ × Site → ℕ
number_of_site s = s.1.id.number

abbrev ids_of : Action → List ℕ
ids_of (actions.Check id at e next) = id ∷ []
ids_of (actions.Suppose e next) = []
ids_of (actions.Demand id at e args next) = id ∷ []
ids_of (actions.Write cs es next) = []
ids_of (actions.Guess c next) = []
ids_of (actions.Test e hit miss) = []
ids_of (actions.Pick ways) = []
ids_of (actions.Jump next) = []
ids_of (actions.Enter f args) = []
ids_of (actions.Keep f args c next) = []
ids_of (actions.Grant f args e next) = []
ids_of (actions.Finish f args targets next) = []
ids_of actions.Leave = []

numbers_of_action : (t : TypedProgram) (n : ℕ) (a : Action) → map number_of_site (action_sites t n a) ≡ ids_of a
numbers_of_action t n (actions.Check id at e next) = refl
numbers_of_action t n (actions.Suppose e next) = refl
numbers_of_action t n (actions.Demand id at e args next) = refl
numbers_of_action t n (actions.Write cs es next) = refl
numbers_of_action t n (actions.Guess c next) = refl
numbers_of_action t n (actions.Test e hit miss) = refl
numbers_of_action t n (actions.Pick ways) = refl
numbers_of_action t n (actions.Jump next) = refl
numbers_of_action t n (actions.Enter f args) = refl
numbers_of_action t n (actions.Keep f args c next) = refl
numbers_of_action t n (actions.Grant f args e next) = refl
numbers_of_action t n (actions.Finish f args targets next) = refl
numbers_of_action t n actions.Leave = refl

-- those of several points, by the action at each
abbrev all_ids : (Point → Action) → List Point → List ℕ
all_ids f [] = []
all_ids f (p ∷ ps) = ids_of (f p) ++ all_ids f ps

all_ids-append : (f : Point → Action) (ps qs : List Point) → all_ids f (ps ++ qs) ≡ all_ids f ps ++ all_ids f qs
all_ids-append f [] qs = refl
all_ids-append f (p ∷ ps) qs = ap (λ (xs : List ℕ). ids_of (f p) ++ xs) (all_ids-append f ps qs) ∙ sym (append_assoc (ids_of (f p)) (all_ids f ps) (all_ids f qs))

count_append : (n k l : ℕ) → count_from n (k + l) ≡ count_from n k ++ count_from (n + k) l
count_append n zero l =
    let e : 0 + l ≡ l = omega arith in
    let f : n + 0 ≡ n = omega arith in
    rw (e, f) refl
count_append n (suc k) l =
    let e : suc k + l ≡ suc (k + l) = omega arith in
    let f : n + suc k ≡ n + 1 + k = omega arith in
    rw (e, f) (ap (λ (xs : List ℕ). n ∷ xs) (count_append (n + 1) k l))

-- numbers of two lists of points, one behind the other
both_ids : (f : Point → Action) (ps qs : List Point) (n k l : ℕ) → all_ids f ps ≡ count_from n k → all_ids f qs ≡ count_from (n + k) l → all_ids f (ps ++ qs) ≡ count_from n (k + l)
both_ids f ps qs n k l d e =
    let g : all_ids f (ps ++ qs) ≡ all_ids f ps ++ all_ids f qs = all_ids-append f ps qs in
    let h : count_from n (k + l) ≡ count_from n k ++ count_from (n + k) l = count_append n k l in
    cc

-- ---- parts

no_part : (f : Point → Action) (p : Point) (k n : ℕ) → ((i : ℕ) → ids_of (f (record p { part = i })) ≡ []) → all_ids f (parts_from p k n) ≡ []
no_part f p k zero h = refl
no_part f p k (suc n) h = ap (λ (xs : List ℕ). xs ++ all_ids f (parts_from p (k + 1) n)) (h k) ∙ no_part f p (k + 1) n h

-- the number of a condition, unless it is free
abbrev id_if_free : Bool → ℕ → List ℕ
id_if_free true n = []
id_if_free false n = n ∷ []

abbrev id_if_any : Option TypedInvariant → ℕ → List ℕ
id_if_any None n = []
id_if_any (Some i) n = id_if_free i.free n

at_front : {X : Type 0} (front : List X) (x : X) (xs : List X) → slice_get (front ++ x ∷ xs) (length front) ≡ Some x
at_front [] x xs = refl
at_front (y ∷ front) x xs = at_front front x xs

take_front : {X : Type 0} (front xs : List X) → take (length front) (front ++ xs) ≡ front
take_front [] xs = refl
take_front {X} (y ∷ front) xs = ap (λ (l : List X). y ∷ l) (take_front front xs)

past_all : {X : Type 0} (front : List X) → slice_get (front ++ []) (length front) ≡ None
past_all [] = refl
past_all (x ∷ front) = past_all front

plain_last : (front : List TypedInvariant) (i : TypedInvariant) → plain_invariants (front ++ i ∷ []) ≡ plain_invariants front + one_if_plain i
plain_last [] i = omega arith
plain_last (j ∷ front) i = let h = plain_last front i in omega arith

first_then : (free : Bool) (n k : ℕ) (rest : List ℕ) → rest ≡ count_from (n + one_if (not free)) k → id_if_free free n ++ rest ≡ count_from n (one_if (not free) + k)
first_then true n k rest e = e ∙ (let a : n + 0 ≡ n = omega arith in let b : 0 + k ≡ k = omega arith in rw (a, b) refl)
first_then false n k rest e = ap (λ (xs : List ℕ). n ∷ xs) e ∙ (let b : 1 + k ≡ suc k = omega arith in rw b refl)

-- the parts of conditions, from those behind the front on, and one part more
checked_from : (f : Point → Action) (p : Point) (id : ℕ) (all front is : List TypedInvariant) → all ≡ front ++ is →
    ((i : ℕ) → ids_of (f (record p { part = i })) ≡ id_if_any (slice_get all i) (id + plain_invariants (take i all))) →
    all_ids f (parts_from p (length front) (length is + 1)) ≡ count_from (id + plain_invariants front) (plain_invariants is)
checked_from f p id all front [] e h =
    let none : slice_get all (length front) ≡ None = ap (λ (l : List TypedInvariant). slice_get l (length front)) e ∙ past_all front in
    let ids : ids_of (f (record p { part = length front })) ≡ [] = h (length front) ∙ ap (λ (o : Option TypedInvariant). id_if_any o (id + plain_invariants (take (length front) all))) none in
    ap (λ (xs : List ℕ). xs ++ []) ids
checked_from f p id all front (i ∷ is) e h =
    let some : slice_get all (length front) ≡ Some i = ap (λ (l : List TypedInvariant). slice_get l (length front)) e ∙ at_front front i is in
    let taken : take (length front) all ≡ front = ap (λ (l : List TypedInvariant). take (length front) l) e ∙ take_front front (i ∷ is) in
    let ids : ids_of (f (record p { part = length front })) ≡ id_if_free i.free (id + plain_invariants front) =
    h (length front) ∙ ap (λ (o : Option TypedInvariant). id_if_any o (id + plain_invariants (take (length front) all))) some
    ∙ ap (λ (l : List TypedInvariant). id_if_free i.free (id + plain_invariants l)) taken in
    let later : all ≡ (front ++ i ∷ []) ++ is = e ∙ sym (append_assoc front (i ∷ []) is) in
    let count : length (front ++ i ∷ []) ≡ length front + 1 = length-append front (i ∷ []) in
    let rest : all_ids f (parts_from p (length (front ++ i ∷ [])) (length is + 1)) ≡ count_from (id + plain_invariants (front ++ i ∷ [])) (plain_invariants is) = checked_from f p id all (front ++ i ∷ []) is later h in
    let sum : id + plain_invariants (front ++ i ∷ []) ≡ id + plain_invariants front + one_if (not i.free) = (let l = plain_last front i in omega arith) in
    let behind : all_ids f (parts_from p (length front + 1) (length is + 1)) ≡ count_from (id + plain_invariants front + one_if (not i.free)) (plain_invariants is) =
    ap (λ (k : ℕ). all_ids f (parts_from p k (length is + 1))) (sym count) ∙ rest ∙ ap (λ (k : ℕ). count_from k (plain_invariants is)) sum in
    let more : suc (length is) + 1 ≡ suc (length is + 1) = omega arith in
    ap (λ (k : ℕ). all_ids f (parts_from p (length front) k)) more
    ∙ ap (λ (xs : List ℕ). xs ++ all_ids f (parts_from p (length front + 1) (length is + 1))) ids
    ∙ first_then i.free (id + plain_invariants front) (plain_invariants is) (all_ids f (parts_from p (length front + 1) (length is + 1))) behind

checked_parts : (f : Point → Action) (p : Point) (id : ℕ) (is : List TypedInvariant) →
    ((i : ℕ) → ids_of (f (record p { part = i })) ≡ id_if_any (slice_get is i) (id + plain_invariants (take i is))) →
    all_ids f (parts_from p 0 (length is + 1)) ≡ count_from id (plain_invariants is)
checked_parts f p id is h = checked_from f p id is [] is refl h ∙ ap (λ (k : ℕ). count_from k (plain_invariants is)) (let e : id + 0 ≡ id = omega arith in e)

-- the parts of conditions that are all checked
abbrev one_if_any : Option TypedInvariant → ℕ → List ℕ
one_if_any None n = []
one_if_any (Some i) n = n ∷ []

demanded_from : (f : Point → Action) (p : Point) (id : ℕ) (all front is : List TypedInvariant) → all ≡ front ++ is →
    ((i : ℕ) → ids_of (f (record p { part = i })) ≡ one_if_any (slice_get all i) (id + i)) →
    all_ids f (parts_from p (length front) (length is + 1)) ≡ count_from (id + length front) (length is)
demanded_from f p id all front [] e h =
    let none : slice_get all (length front) ≡ None = ap (λ (l : List TypedInvariant). slice_get l (length front)) e ∙ past_all front in
    ap (λ (xs : List ℕ). xs ++ []) (h (length front) ∙ ap (λ (o : Option TypedInvariant). one_if_any o (id + length front)) none)
demanded_from f p id all front (i ∷ is) e h =
    let some : slice_get all (length front) ≡ Some i = ap (λ (l : List TypedInvariant). slice_get l (length front)) e ∙ at_front front i is in
    let ids : ids_of (f (record p { part = length front })) ≡ (id + length front) ∷ [] = h (length front) ∙ ap (λ (o : Option TypedInvariant). one_if_any o (id + length front)) some in
    let later : all ≡ (front ++ i ∷ []) ++ is = e ∙ sym (append_assoc front (i ∷ []) is) in
    let count : length (front ++ i ∷ []) ≡ length front + 1 = length-append front (i ∷ []) in
    let rest : all_ids f (parts_from p (length (front ++ i ∷ [])) (length is + 1)) ≡ count_from (id + length (front ++ i ∷ [])) (length is) = demanded_from f p id all (front ++ i ∷ []) is later h in
    let sum : id + length (front ++ i ∷ []) ≡ id + length front + 1 = omega arith in
    let behind : all_ids f (parts_from p (length front + 1) (length is + 1)) ≡ count_from (id + length front + 1) (length is) =
    ap (λ (k : ℕ). all_ids f (parts_from p k (length is + 1))) (sym count) ∙ rest ∙ ap (λ (k : ℕ). count_from k (length is)) sum in
    let more : suc (length is) + 1 ≡ suc (length is + 1) = omega arith in
    ap (λ (k : ℕ). all_ids f (parts_from p (length front) k)) more
    ∙ ap (λ (xs : List ℕ). xs ++ all_ids f (parts_from p (length front + 1) (length is + 1))) ids
    ∙ ap (λ (xs : List ℕ). (id + length front) ∷ xs) behind

demanded_parts : (f : Point → Action) (p : Point) (id : ℕ) (is : List TypedInvariant) → ((i : ℕ) → ids_of (f (record p { part = i })) ≡ one_if_any (slice_get is i) (id + i)) →
    all_ids f (parts_from p 0 (length is + 1)) ≡ count_from id (length is)
demanded_parts f p id is h = demanded_from f p id is [] is refl h ∙ ap (λ (k : ℕ). count_from k (length is)) (let e : id + 0 ≡ id = omega arith in e)

-- ---- actions

checked_ids : (free : Bool) (id : ℕ) (at : Span) (e : TypedExpression) (next : Point) → ids_of (checked free id at e next) ≡ id_if_free free id
checked_ids true id at e next = refl
checked_ids false id at e next = refl

guarded_ids : (g : TypedGuard) (hit miss : Point) → ids_of (guarded g hit miss) ≡ []
guarded_ids Any hit miss = refl
guarded_ids (Cond e) hit miss = refl

head_ids : (o : Option TypedInvariant) (id : ℕ) (here : Point) (guard : Action) → ids_of guard ≡ [] → ids_of (head_action o id here guard) ≡ id_if_any o id
head_ids None id here guard e = e
head_ids (Some i) id here guard e = checked_ids i.free id i.span i.cond (next_part here)

havoc_ids : (o more : Option Column) (here after : Point) → ids_of (havoc_action o more here after) ≡ []
havoc_ids None more here after = refl
havoc_ids (Some c) None here after = refl
havoc_ids (Some c) (Some d) here after = refl

one_ids : (ways : List Point) → ids_of (one_of ways) ≡ []
one_ids [] = refl
one_ids (p ∷ []) = refl
one_ids (p ∷ q ∷ ps) = refl

unseen_ids : (c : Option Column) (i : Option TypedInvariant) (f : ℕ) (targets : List Column) (args : List TypedExpression) (here next : Point) → ids_of (unseen_action c i f targets args here next) ≡ []
unseen_ids (Some c) i f targets args here next = refl
unseen_ids None (Some i) f targets args here next = refl
unseen_ids None None f targets args here next = refl

called_ids : (f : ℕ) (q : TypedProcedure) (o : Option TypedBlock) (targets : List Column) (args : List TypedExpression) (done : ℕ) (here next : Point) → ids_of (called_action f q o targets args done here next) ≡ []
called_ids f q None targets args done here next = unseen_ids (slice_get (chosen_columns q) done) (slice_get (ensured_conditions q.specs) (done - length (chosen_columns q))) f targets args here next
called_ids f q (Some b) targets args done here next = refl

call_ids : (i : Option TypedInvariant) (id f : ℕ) (q : TypedProcedure) (at : Span) (targets : List Column) (args : List TypedExpression) (done : ℕ) (here next : Point) →
    ids_of (call_action i id f q at targets args done here next) ≡ one_if_any i id
call_ids (Some i) id f q at targets args done here next = refl
call_ids None id f q at targets args done here next = called_ids f q q.body targets args done here next

if_plain : (b : Bool) (i : TypedInvariant) (is : List TypedInvariant) (n : ℕ) → length is ≡ n → length (if b then is else (i ∷ is)) ≡ one_if (not b) + n
if_plain true i is n e = omega arith
if_plain false i is n e = omega arith

plain_count : (ss : List TypedSpecification) → length (plain_conditions ss) ≡ plain_requires ss
plain_count [] = refl
plain_count (Requires i ∷ ss) = if_plain i.free i (plain_conditions ss) (plain_requires ss) (plain_count ss)
plain_count (Ensures i ∷ ss) = plain_count ss

ensured_plain : (ss : List TypedSpecification) → plain_invariants (ensured_conditions ss) ≡ plain_ensures ss
ensured_plain [] = refl
ensured_plain (Requires i ∷ ss) = ensured_plain ss
ensured_plain (Ensures i ∷ ss) = ap (λ (k : ℕ). one_if_plain i + k) (ensured_plain ss)

-- ---- statements

-- the action at a point, by its stage
abbrev at_stage : TypedProgram → ℕ → TypedProcedure → TypedBlock → Point → Action
at_stage t n q body p = stage_action t n q body p.stage p

call_parts : (t : TypedProgram) (n : ℕ) (q : TypedProcedure) (body : TypedBlock) (span : Span) (cs : List Column) (f : ℕ) (es : List TypedExpression) (b : TypedBlock) (loop : Bool) (id at : ℕ) (under : List Todo) (o : Option TypedProcedure) →
    slice_get t.procs f ≡ o → all_ids (at_stage t n q body) (parts_from (at_statement (Call span cs f es) b loop id at under) 0 (checked_at_call o + 1)) ≡ count_from id (checked_at_call o)
call_parts t n q body span cs f es b loop id at under None e =
    let here : Point = at_statement (Call span cs f es) b loop id at under in
    no_part (at_stage t n q body) here 0 1 (λ i. ap (λ (o : Option TypedProcedure). ids_of (call_if_any o id f span cs es (record here { part = i }) (settled (past t.procs (Call span cs f es) b loop id at ∷ under)))) e)
call_parts t n q body span cs f es b loop id at under (Some r) e =
    let here : Point = at_statement (Call span cs f es) b loop id at under in
    let next : Point = settled (past t.procs (Call span cs f es) b loop id at ∷ under) in
    let is : List TypedInvariant = plain_conditions r.specs in
    let each : (i : ℕ) → ids_of (at_stage t n q body (record here { part = i })) ≡ one_if_any (slice_get is i) (id + i) =
    λ i. ap (λ (o : Option TypedProcedure). ids_of (call_if_any o id f span cs es (record here { part = i }) next)) e
    ∙ call_ids (slice_get is i) (id + i) f r span cs es (i - length is) (record here { part = i }) next in
    ap (λ (k : ℕ). all_ids (at_stage t n q body) (parts_from here 0 (k + 1))) (sym (plain_count r.specs)) ∙ demanded_parts (at_stage t n q body) here id is each ∙ ap (count_from id) (plain_count r.specs)

mutual
  ids_in : (t : TypedProgram) (n : ℕ) (q : TypedProcedure) (body : TypedBlock) (s : TypedStatement) (b : TypedBlock) (loop : Bool) (id at : ℕ) (under : List Todo) →
      all_ids (at_stage t n q body) (points_in t.procs s b loop id at under) ≡ count_from id (assertions t.procs s)
  ids_in t n q body (Assert span e) b loop id at under = refl
  ids_in t n q body (Assume span e) b loop id at under = refl
  ids_in t n q body (Havoc span cs) b loop id at under =
      let here : Point = at_statement (Havoc span cs) b loop id at under in
      no_part (at_stage t n q body) here 0 (length cs) (λ i. havoc_ids (slice_get cs i) (slice_get cs (i + 1)) (record here { part = i }) (settled (past t.procs (Havoc span cs) b loop id at ∷ under)))
  ids_in t n q body (Assign span cs es) b loop id at under = refl
  ids_in t n q body (Call span cs f es) b loop id at under = call_parts t n q body span cs f es b loop id at under (slice_get t.procs f) refl
  ids_in t n q body (If span g x y) b loop id at under =
      let after : List Todo = past t.procs (If span g x y) b loop id at ∷ under in
      let xs : List Point = points_of t.procs x false id (at + 1) after in
      let ys : List Point = points_of t.procs y false (id + block_assertions t.procs x) (at + 1 + block_points t.procs x) after in
      let hit : Point = settled (record { rest = x; of_loop = false; id = id; at = at + 1 } ∷ after) in
      let miss : Point = settled (record { rest = y; of_loop = false; id = id + block_assertions t.procs x; at = at + 1 + block_points t.procs x } ∷ after) in
      ap (λ (l : List ℕ). l ++ all_ids (at_stage t n q body) (xs ++ ys)) (guarded_ids g hit miss)
      ∙ both_ids (at_stage t n q body) xs ys id (block_assertions t.procs x) (block_assertions t.procs y) (ids_in_block t n q body x false id (at + 1) after)
      (ids_in_block t n q body y false (id + block_assertions t.procs x) (at + 1 + block_points t.procs x) after)
  ids_in t n q body (While span g is x) b loop id at under =
      let here : Todo = record { rest = Then (While span g is x) b; of_loop = loop; id = id; at = at } in
      let heads : List Point = parts_from (before (here ∷ under)) 0 (length is + 1) in
      let xs : List Point = points_of t.procs x true (id + plain_invariants is) (at + length is + 1) (here ∷ under) in
      let hit : Point = settled (record { rest = x; of_loop = true; id = id + plain_invariants is; at = at + length is + 1 } ∷ (here ∷ under)) in
      let miss : Point = settled (past t.procs (While span g is x) b loop id at ∷ under) in
      let each : (i : ℕ) → ids_of (at_stage t n q body (record (before (here ∷ under)) { part = i })) ≡ id_if_any (slice_get is i) (id + plain_invariants (take i is)) =
      λ i. head_ids (slice_get is i) (id + plain_invariants (take i is)) (record (before (here ∷ under)) { part = i }) (guarded g hit miss) (guarded_ids g hit miss) in
      both_ids (at_stage t n q body) heads xs id (plain_invariants is) (block_assertions t.procs x) (checked_parts (at_stage t n q body) (before (here ∷ under)) id is each)
      (ids_in_block t n q body x true (id + plain_invariants is) (at + length is + 1) (here ∷ under))
  ids_in t n q body (Break span k) b loop id at under = refl
  ids_in t n q body (Goto span ks) b loop id at under = ap (λ (l : List ℕ). l ++ []) (one_ids (ways_to t.procs body (first_assertion t.procs n) (first_place t n + length (free_conditions q.specs)) ks))
  ids_in t n q body (Return span) b loop id at under = refl
  ids_in t n q body (Label k) b loop id at under = refl

  ids_in_block : (t : TypedProgram) (n : ℕ) (q : TypedProcedure) (body : TypedBlock) (b : TypedBlock) (loop : Bool) (id at : ℕ) (under : List Todo) →
      all_ids (at_stage t n q body) (points_of t.procs b loop id at under) ≡ count_from id (block_assertions t.procs b)
  ids_in_block t n q body Empty loop id at under = refl
  ids_in_block t n q body (Then s b) loop id at under =
      both_ids (at_stage t n q body) (points_in t.procs s b loop id at under) (points_of t.procs b loop (id + assertions t.procs s) (at + points t.procs s) under) id (assertions t.procs s) (block_assertions t.procs b)
      (ids_in t n q body s b loop id at under) (ids_in_block t n q body b loop (id + assertions t.procs s) (at + points t.procs s) under)

-- ---- a procedure

entry_ids : (i more : Option TypedInvariant) (here : Point) → ids_of (entry_action i more here) ≡ []
entry_ids None more here = refl
entry_ids (Some i) None here = refl
entry_ids (Some i) (Some j) here = refl

start_ids : (e more : Option TypedExpression) (here first : Point) → ids_of (start_action e more here first) ≡ []
start_ids None more here first = refl
start_ids (Some e) None here first = refl
start_ids (Some e) (Some d) here first = refl

exit_ids : (o : Option TypedInvariant) (id : ℕ) (here : Point) → ids_of (exit_action o id here) ≡ id_if_any o id
exit_ids None id here = refl
exit_ids (Some i) id here = checked_ids i.free id i.span i.cond (next_part here)

body_ids : (t : TypedProgram) (n : ℕ) (q : TypedProcedure) (b : TypedBlock) → all_ids (at_stage t n q b) (points_of_body t n q b) ≡ count_from (first_assertion t.procs n) (body_assertions t.procs q.specs (Some b))
body_ids t n q b =
    let free : ℕ = length (free_conditions q.specs) in
    let first : ℕ = first_assertion t.procs n in
    let whole : Todo = record { rest = b; of_loop = false; id = first; at = first_place t n + free } in
    let entry : Point = record { stage = Entry; todo = whole ∷ []; part = 0 } in
    let entries : List Point = parts_from entry 0 free in
    let inner : List Point = points_of t.procs b false first (first_place t n + free) [] in
    let ensured : List TypedInvariant = ensured_conditions q.specs in
    let exits : List Point = parts_from at_exit 0 (length ensured + 1) in
    let f : Point → Action = at_stage t n q b in
    let inside : ℕ = block_assertions t.procs b in
    let none : all_ids f entries ≡ [] = no_part f entry 0 free (λ i. entry_ids (slice_get (free_conditions q.specs) i) (slice_get (free_conditions q.specs) (i + 1)) (record entry { part = i })) in
    let each : (i : ℕ) → ids_of (f (record at_exit { part = i })) ≡ id_if_any (slice_get ensured i) (first + inside + plain_invariants (take i ensured)) =
    λ i. exit_ids (slice_get ensured i) (first + (inside + plain_invariants (take i ensured))) (record at_exit { part = i })
    ∙ ap (id_if_any (slice_get ensured i)) (let e : first + (inside + plain_invariants (take i ensured)) ≡ first + inside + plain_invariants (take i ensured) = omega arith in e) in
    let of_exits : all_ids f exits ≡ count_from (first + inside) (plain_ensures q.specs) = checked_parts f at_exit (first + inside) ensured each ∙ ap (count_from (first + inside)) (ensured_plain q.specs) in
    all_ids-append f entries (inner ++ exits) ∙ ap (λ (l : List ℕ). l ++ all_ids f (inner ++ exits)) none
    ∙ both_ids f inner exits first inside (plain_ensures q.specs) (ids_in_block t n q b b false first (first_place t n + free) []) of_exits

-- ---- all procedures

-- the numbers of the assertions at places
abbrev place_ids : TypedProgram → List Place → List ℕ
place_ids t ps = map number_of_site (sites_of t ps)

place_ids-append : (t : TypedProgram) (ps rs : List Place) → place_ids t (ps ++ rs) ≡ place_ids t ps ++ place_ids t rs
place_ids-append t [] rs = refl
place_ids-append t (p ∷ ps) rs =
    let here : List (ℕ × Site) = action_sites t p.proc (action_at t p.proc p.point) in
    map-append number_of_site here (sites_of t (ps ++ rs)) ∙ ap (λ (l : List ℕ). map number_of_site here ++ l) (place_ids-append t ps rs)
    ∙ sym (append_assoc (map number_of_site here) (place_ids t ps) (place_ids t rs)) ∙ ap (λ (l : List ℕ). l ++ place_ids t rs) (sym (map-append number_of_site here (sites_of t ps)))

located_ids : (t : TypedProgram) (n : ℕ) (q : TypedProcedure) (b : TypedBlock) (ps : List Point) → slice_get t.procs n ≡ Some q → q.body ≡ Some b → place_ids t (located n ps) ≡ all_ids (at_stage t n q b) ps
located_ids t n q b [] e k = refl
located_ids t n q b (p ∷ ps) e k =
    let here : List (ℕ × Site) = action_sites t n (action_at t n p) in
    map-append number_of_site here (sites_of t (located n ps))
    ∙ ap (λ (l : List ℕ). l ++ place_ids t (located n ps)) (numbers_of_action t n (action_at t n p) ∙ ap ids_of (action_is t n q b p e k))
    ∙ ap (λ (l : List ℕ). ids_of (at_stage t n q b p) ++ l) (located_ids t n q b ps e k)

with_body : (t : TypedProgram) (n : ℕ) (q : TypedProcedure) (o : Option TypedBlock) → slice_get t.procs n ≡ Some q → q.body ≡ o →
    place_ids t (located n (points_with t n q o)) ≡ count_from (first_assertion t.procs n) (body_assertions t.procs q.specs o)
with_body t n q None e k = refl
with_body t n q (Some b) e k = located_ids t n q b (points_of_body t n q b) e k ∙ body_ids t n q b

none_before : (procs ps : List TypedProcedure) → assertions_before procs ps 0 ≡ 0
none_before procs [] = refl
none_before procs (p ∷ ps) = refl

before_next : (procs front : List TypedProcedure) (q : TypedProcedure) (qs : List TypedProcedure) →
    assertions_before procs (front ++ q ∷ qs) (length front + 1) ≡ assertions_before procs (front ++ q ∷ qs) (length front) + body_assertions procs q.specs q.body
before_next procs [] q qs = omega (arith, none_before procs qs)
before_next procs (p ∷ ps) q qs =
    let e : suc (length ps) + 1 ≡ suc (length ps + 1) = omega arith in
    rw e (let h = before_next procs ps q qs in omega arith)

-- how many assertions these procedures have
abbrev pub assertions_of_all : List TypedProcedure → List TypedProcedure → ℕ
assertions_of_all procs [] = 0
assertions_of_all procs (q ∷ qs) = body_assertions procs q.specs q.body + assertions_of_all procs qs

from_ids : (t : TypedProgram) (front qs : List TypedProcedure) → t.procs ≡ front ++ qs →
    place_ids t (places_from t (length front) qs) ≡ count_from (first_assertion t.procs (length front)) (assertions_of_all t.procs qs)
from_ids t front [] e = refl
from_ids t front (q ∷ qs) e =
    let n : ℕ = length front in
    let found : slice_get t.procs n ≡ Some q = ap (λ (ps : List TypedProcedure). slice_get ps n) e ∙ at_front front q qs in
    let later : t.procs ≡ (front ++ q ∷ []) ++ qs = e ∙ sym (append_assoc front (q ∷ []) qs) in
    let count : length (front ++ q ∷ []) ≡ n + 1 = length-append front (q ∷ []) in
    let rest : place_ids t (places_from t (n + 1) qs) ≡ count_from (first_assertion t.procs (n + 1)) (assertions_of_all t.procs qs) = rw count at (from_ids t (front ++ q ∷ []) qs later) in
    let P : List TypedProcedure → Type 0 = λ ps. assertions_before t.procs ps (n + 1) ≡ assertions_before t.procs ps n + body_assertions t.procs q.specs q.body in
    let before : assertions_before t.procs t.procs (n + 1) ≡ assertions_before t.procs t.procs n + body_assertions t.procs q.specs q.body = subst P (sym e) (before_next t.procs front q qs) in
    let next : first_assertion t.procs (n + 1) ≡ first_assertion t.procs n + body_assertions t.procs q.specs q.body = omega arith in
    let here : place_ids t (located n (points_with t n q q.body)) ≡ count_from (first_assertion t.procs n) (body_assertions t.procs q.specs q.body) = with_body t n q q.body found refl in
    let behind : place_ids t (places_from t (n + 1) qs) ≡ count_from (first_assertion t.procs n + body_assertions t.procs q.specs q.body) (assertions_of_all t.procs qs) =
    rest ∙ ap (λ (i : ℕ). count_from i (assertions_of_all t.procs qs)) next in
    let apart : place_ids t (located n (points_with t n q q.body) ++ places_from t (n + 1) qs) ≡ place_ids t (located n (points_with t n q q.body)) ++ place_ids t (places_from t (n + 1) qs) =
    place_ids-append t (located n (points_with t n q q.body)) (places_from t (n + 1) qs) in
    let whole : count_from (first_assertion t.procs n) (body_assertions t.procs q.specs q.body + assertions_of_all t.procs qs)
    ≡ count_from (first_assertion t.procs n) (body_assertions t.procs q.specs q.body) ++ count_from (first_assertion t.procs n + body_assertions t.procs q.specs q.body) (assertions_of_all t.procs qs) =
    count_append (first_assertion t.procs n) (body_assertions t.procs q.specs q.body) (assertions_of_all t.procs qs) in
    cc

-- ---- the program

counted_by : {X : Type 0} (f : X → ℕ) (xs : List X) (n k : ℕ) → map f xs ≡ count_from n k → map f xs ≡ count_from n (length xs)
counted_by f [] n zero e = refl
counted_by f [] n (suc k) e = cc
counted_by f (x ∷ xs) n zero e = cc
counted_by f (x ∷ xs) n (suc k) e =
    let first : f x ≡ n = cc in
    let rest : map f xs ≡ count_from (n + 1) k = cc in
    let more : map f xs ≡ count_from (n + 1) (length xs) = counted_by f xs (n + 1) k rest in
    let both : f x ∷ map f xs ≡ n ∷ count_from (n + 1) (length xs) = cc in
    both

-- their numbers, as many as the procedures have assertions
pub sites_counted : (t : TypedProgram) → IsTrue (is_valid t) → map number_of_site (program_sites t) ≡ count_from 1 (assertions_of_all t.procs t.procs)
sites_counted t v =
    let entry = valid.entry t v in
    let q : TypedProcedure = entry.0 in
    let b : TypedBlock = entry.1 in
    let starts : List Place = located t.entry (starts_if_any t (slice_get t.procs t.entry)) in
    let all : List Place = places_from t 0 t.procs in
    let point : Point = record { stage = Start; todo = []; part = 0 } in
    let conditions : List TypedExpression = start_conditions t q in
    let none : place_ids t (located t.entry (start_points t q)) ≡ [] =
    located_ids t t.entry q b (start_points t q) entry.2 entry.3
    ∙ no_part (at_stage t t.entry q b) point 0 (length conditions)
    (λ i. start_ids (slice_get conditions i) (slice_get conditions (i + 1)) (record point { part = i }) (first_point q b (first_assertion t.procs t.entry) (first_place t t.entry))) in
    let of_starts : place_ids t starts ≡ [] = ap (λ (o : Option TypedProcedure). place_ids t (located t.entry (starts_if_any t o))) entry.2 ∙ none in
    let first : first_assertion t.procs 0 ≡ 1 = (let e = none_before t.procs t.procs in omega arith) in
    let of_all : place_ids t all ≡ count_from 1 (assertions_of_all t.procs t.procs) = from_ids t [] t.procs refl ∙ ap (λ (i : ℕ). count_from i (assertions_of_all t.procs t.procs)) first in
    place_ids-append t starts all ∙ ap (λ (l : List ℕ). l ++ place_ids t all) of_starts ∙ of_all

pub sites_numbered : (t : TypedProgram) → IsTrue (is_valid t) → map number_of_site (program_sites t) ≡ count_from 1 (length (program_sites t))
sites_numbered t v = counted_by number_of_site (program_sites t) 1 (assertions_of_all t.procs t.procs) (sites_counted t v)

-- ---- each site is that of an assertion

member_number : {X : Type 0} (f : X → ℕ) (xs : List X) (n k : ℕ) (x : X) → map f xs ≡ count_from n k → Member xs x → n ≤ f x
member_number f [] n k x e m = absurd m
member_number f (y ∷ xs) n zero x e m = cc
member_number f (y ∷ xs) n (suc k) x e (inl is) =
    let first : f y ≡ n = cc in
    let same : f y ≡ f x = ap f is in
    omega arith
member_number f (y ∷ xs) n (suc k) x e (inr m) =
    let rest : map f xs ≡ count_from (n + 1) k = cc in
    let l : n + 1 ≤ f x = member_number f xs (n + 1) k x rest m in
    omega arith

pub site_positive : (t : TypedProgram) → IsTrue (is_valid t) → (s : ℕ × Site) → Member (program_sites t) s → 1 ≤ s.1.id.number
site_positive t v s m = member_number number_of_site (program_sites t) 1 (length (program_sites t)) s (sites_numbered t v) m

action_site : (t : TypedProgram) (n : ℕ) (a : Action) (s : ℕ × Site) → Member (action_sites t n a) s → s.1.place ≡ error_place t s.1.id.number
action_site t n (actions.Check id at e next) s (inl is) = subst (λ (x : ℕ × Site). x.1.place ≡ error_place t x.1.id.number) is refl
action_site t n (actions.Check id at e next) s (inr m) = absurd m
action_site t n (actions.Suppose e next) s m = absurd m
action_site t n (actions.Demand id at e args next) s (inl is) = subst (λ (x : ℕ × Site). x.1.place ≡ error_place t x.1.id.number) is refl
action_site t n (actions.Demand id at e args next) s (inr m) = absurd m
action_site t n (actions.Write cs es next) s m = absurd m
action_site t n (actions.Guess c next) s m = absurd m
action_site t n (actions.Test e hit miss) s m = absurd m
action_site t n (actions.Pick ways) s m = absurd m
action_site t n (actions.Jump next) s m = absurd m
action_site t n (actions.Enter f args) s m = absurd m
action_site t n (actions.Keep f args c next) s m = absurd m
action_site t n (actions.Grant f args e next) s m = absurd m
action_site t n (actions.Finish f args targets next) s m = absurd m
action_site t n actions.Leave s m = absurd m

places_site : (t : TypedProgram) (ps : List Place) (s : ℕ × Site) → Member (sites_of t ps) s → s.1.place ≡ error_place t s.1.id.number
places_site t [] s m = absurd m
places_site t (p ∷ ps) s m = elim (member_either (action_sites t p.proc (action_at t p.proc p.point)) (sites_of t ps) s m) [
  | inl h ↦ action_site t p.proc (action_at t p.proc p.point) s h
  | inr h ↦ places_site t ps s h
]

-- its place is that where the assertion fails
pub site_place : (t : TypedProgram) (s : ℕ × Site) → Member (program_sites t) s → s.1.place ≡ error_place t s.1.id.number
site_place t s m = places_site t (program_places t) s m
