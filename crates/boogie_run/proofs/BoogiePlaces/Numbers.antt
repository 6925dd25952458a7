-- The points of a block have consecutive numbers, in the order of the text.
use Rattle.std.proofs.Common.{◌≡◌, ℕ, zero, suc, ◌+◌, Bool, true, false, List, [], ◌∷◌, ◌++◌, map, length, refl, ap, ◌∙◌, arith, slice_get}
use Rattle.std.proofs.lemmas.List.{map-append}
use Rattle.typed_tree.specs.TypedTree.{TypedStatement, Assert, Assume, Havoc, Assign, Call, If, While, Break, Goto, Return, Label, TypedBlock, Empty, Then, TypedProcedure}
use Rattle.typed_tree.specs.TypingRules.Counts.{plain_invariants, assertions, points, block_assertions, block_points, checked_at_call}
use Rattle.boogie_run.specs.BoogiePoints.Points.{Todo, Point, before, past}
use Rattle.boogie_run.specs.BoogiePlaces.Places.{parts_from, at_statement, points_in, points_of, count_from, first_at}

-- the number of a point of a body
abbrev pub number : Point → ℕ
number p = first_at p.todo + p.part

pub count_from-append : (n k l : ℕ) → count_from n (k + l) ≡ count_from n k ++ count_from (n + k) l
count_from-append n zero l =
    let e : 0 + l ≡ l = omega arith in
    let f : n + 0 ≡ n = omega arith in
    rw (e, f) refl
count_from-append n (suc k) l =
    let e : suc k + l ≡ suc (k + l) = omega arith in
    let f : n + suc k ≡ n + 1 + k = omega arith in
    rw (e, f) (ap (λ (xs : List ℕ). n ∷ xs) (count_from-append (n + 1) k l))

-- parts of a point, numbered by a function that counts them from a base
pub counted_parts : (f : Point → ℕ) (p : Point) (base k n : ℕ) → ((i : ℕ) → f (record p { part = i }) ≡ base + i) → map f (parts_from p k n) ≡ count_from (base + k) n
counted_parts f p base k zero h = refl
counted_parts f p base k (suc n) h =
    let e : base + (k + 1) ≡ base + k + 1 = omega arith in
    let g : map f (parts_from p (k + 1) n) ≡ count_from (base + k + 1) n = rw (← e) (counted_parts f p base (k + 1) n h) in
    let first : f (record p { part = k }) ≡ base + k = h k in
    let both : f (record p { part = k }) ∷ map f (parts_from p (k + 1) n) ≡ (base + k) ∷ count_from (base + k + 1) n = cc in
    both

pub numbers_of_parts : (p : Point) (k n : ℕ) → map number (parts_from p k n) ≡ count_from (first_at p.todo + k) n
numbers_of_parts p k n = counted_parts number p (first_at p.todo) k n (λ i. refl)

-- so many parts from the first one on
all_parts : (p : Point) (n : ℕ) → map number (parts_from p 0 n) ≡ count_from (first_at p.todo) n
all_parts p n =
    let e : first_at p.todo + 0 ≡ first_at p.todo = omega arith in
    numbers_of_parts p 0 n ∙ ap (λ (i : ℕ). count_from i n) e

one_point : (at : ℕ) → (at + 0) ∷ [] ≡ count_from at 1
one_point at = ap (λ (i : ℕ). i ∷ []) (let e : at + 0 ≡ at = omega arith in e)

-- what has consecutive numbers, and then what follows on
pub both_counted : {X : Type 0} (f : X → ℕ) (xs ys : List X) (n k l : ℕ) → map f xs ≡ count_from n k → map f ys ≡ count_from (n + k) l → map f (xs ++ ys) ≡ count_from n (k + l)
both_counted f xs ys n k l d e =
    let g : map f (xs ++ ys) ≡ map f xs ++ map f ys = map-append f xs ys in
    let h : count_from n (k + l) ≡ count_from n k ++ count_from (n + k) l = count_from-append n k l in
    cc

-- a point, and then others that follow on
one_more : (p : Point) (ys : List Point) (n l : ℕ) → number p ≡ n → map number ys ≡ count_from (n + 1) l → map number (p ∷ ys) ≡ count_from n (1 + l)
one_more p ys n l e f =
    let g : 1 + l ≡ suc l = omega arith in
    rw g (let h : number p ∷ map number ys ≡ n ∷ count_from (n + 1) l = cc in h)

mutual
  pub numbers_in : (procs : List TypedProcedure) (s : TypedStatement) (b : TypedBlock) (loop : Bool) (id at : ℕ) (under : List Todo) →
      map number (points_in procs s b loop id at under) ≡ count_from at (points procs s)
  numbers_in procs (Assert span e) b loop id at under = one_point at
  numbers_in procs (Assume span e) b loop id at under = one_point at
  numbers_in procs (Havoc span cs) b loop id at under = all_parts (at_statement (Havoc span cs) b loop id at under) (length cs)
  numbers_in procs (Assign span cs es) b loop id at under = one_point at
  numbers_in procs (Call span cs f es) b loop id at under =
      all_parts (at_statement (Call span cs f es) b loop id at under) (checked_at_call (slice_get procs f) + 1)
  numbers_in procs (If span g x y) b loop id at under =
      let after : List Todo = past procs (If span g x y) b loop id at ∷ under in
      let xs : List Point = points_of procs x false id (at + 1) after in
      let ys : List Point = points_of procs y false (id + block_assertions procs x) (at + 1 + block_points procs x) after in
      one_more (at_statement (If span g x y) b loop id at under) (xs ++ ys) at (block_points procs x + block_points procs y) (omega arith)
      (both_counted number xs ys (at + 1) (block_points procs x) (block_points procs y) (numbers_of procs x false id (at + 1) after)
      (numbers_of procs y false (id + block_assertions procs x) (at + 1 + block_points procs x) after))
  numbers_in procs (While span g is x) b loop id at under =
      let here : Todo = record { rest = Then (While span g is x) b; of_loop = loop; id = id; at = at } in
      let xs : List Point = points_of procs x true (id + plain_invariants is) (at + length is + 1) (here ∷ under) in
      let e : at + (length is + 1) ≡ at + length is + 1 = omega arith in
      let f : length is + (1 + block_points procs x) ≡ length is + 1 + block_points procs x = omega arith in
      let g : map number xs ≡ count_from (at + (length is + 1)) (block_points procs x) =
      rw e (numbers_of procs x true (id + plain_invariants is) (at + length is + 1) (here ∷ under)) in
      rw f (both_counted number (parts_from (before (here ∷ under)) 0 (length is + 1)) xs at (length is + 1) (block_points procs x)
      (all_parts (before (here ∷ under)) (length is + 1)) g)
  numbers_in procs (Break span k) b loop id at under = one_point at
  numbers_in procs (Goto span ks) b loop id at under = one_point at
  numbers_in procs (Return span) b loop id at under = one_point at
  numbers_in procs (Label k) b loop id at under = refl

  pub numbers_of : (procs : List TypedProcedure) (b : TypedBlock) (loop : Bool) (id at : ℕ) (under : List Todo) →
      map number (points_of procs b loop id at under) ≡ count_from at (block_points procs b)
  numbers_of procs Empty loop id at under = refl
  numbers_of procs (Then s b) loop id at under =
      both_counted number (points_in procs s b loop id at under) (points_of procs b loop (id + assertions procs s) (at + points procs s) under)
      at (points procs s) (block_points procs b) (numbers_in procs s b loop id at under)
      (numbers_of procs b loop (id + assertions procs s) (at + points procs s) under)
