-- The places of a program have the numbers from 1 on, in order; so a number is that of one place.
use Rattle.std.proofs.Common.{◌≡◌, ℕ, zero, suc, ◌+◌, ◌≤◌, Bool, true, false, List, [], ◌∷◌, ◌++◌, map, length, Option, None, Some, slice_get, inl, inr, refl, sym, ap, subst, ◌∙◌, arith, append_assoc, if◌then◌else◌}
use Rattle.std.specs.List.{AllByRecursion}
use Rattle.std.proofs.lemmas.List.{length-append, length-map}
use Rattle.typed_tree.specs.TypedTree.{TypedInvariant, TypedBlock, TypedSpecification, Requires, Ensures, TypedProcedure, TypedProgram}
use Rattle.typed_tree.specs.TypingRules.Counts.{one_if, free_requires, all_ensures, plain_requires, checked_at_call, block_points, body_points}
use Rattle.boogie_run.specs.BoogiePoints.Points.{Todo, Stage, Start, Entry, Point, at_exit}
use Rattle.boogie_run.specs.BoogiePoints.Actions.{free_conditions, ensured_conditions, start_conditions, first_assertion, first_place, points_before}
use Rattle.boogie_run.specs.BoogiePlaces.Places.{parts_from, points_of, points_of_body, start_points, count_from, stage_place, place_of, Place, number_with, number_if_any, number_of, located, points_with, places_from, starts_if_any, program_places, IsPlaceIn}
use Rattle.boogie_run.proofs.BoogiePlaces.Numbers.{number, counted_parts, both_counted, numbers_of}
use Rattle.boogie_run.proofs.BoogiePlaces.Closed.{plain_count}
use Rattle.boogie_run.proofs.BoogiePlaces.Bodies.{IsInBody, all_in_body}

-- ---- counts of specifications

if_free : (b : Bool) (i : TypedInvariant) (is : List TypedInvariant) (n : ℕ) → length is ≡ n → length (if b then (i ∷ is) else is) ≡ one_if b + n
if_free true i is n e = omega arith
if_free false i is n e = omega arith

free_count : (ss : List TypedSpecification) → length (free_conditions ss) ≡ free_requires ss
free_count [] = refl
free_count (Requires i ∷ ss) = if_free i.free i (free_conditions ss) (free_requires ss) (free_count ss)
free_count (Ensures i ∷ ss) = free_count ss

ensured_count : (ss : List TypedSpecification) → length (ensured_conditions ss) ≡ all_ensures ss
ensured_count [] = refl
ensured_count (Requires i ∷ ss) = ensured_count ss
ensured_count (Ensures i ∷ ss) = omega (arith, ensured_count ss)

-- ---- a procedure

same_numbers : {X : Type 0} (f g : X → ℕ) (xs : List X) → AllByRecursion (λ x. f x ≡ g x) xs → map f xs ≡ map g xs
same_numbers f g [] h = refl
same_numbers f g (x ∷ xs) h =
    let first : f x ≡ g x = h.0 in
    let rest : map f xs ≡ map g xs = same_numbers f g xs h.1 in
    let both : f x ∷ map f xs ≡ g x ∷ map g xs = cc in
    both

all_mapped : {X : Type 0} (A B : X → Type 0) (xs : List X) → ((x : X) → A x → B x) → AllByRecursion A xs → AllByRecursion B xs
all_mapped A B [] f h = tt
all_mapped A B (x ∷ xs) f h = (f x h.0, all_mapped A B xs f h.1)

pub body_numbered : (t : TypedProgram) (n : ℕ) (q : TypedProcedure) (b : TypedBlock) →
    map (place_of t n q b) (points_of_body t n q b) ≡ count_from (first_place t n) (body_points t.procs q.specs (Some b))
body_numbered t n q b =
    let free : ℕ = length (free_conditions q.specs) in
    let ensured : ℕ = length (ensured_conditions q.specs) in
    let base : ℕ = first_place t n in
    let inside : ℕ = block_points t.procs b in
    let whole : Todo = record { rest = b; of_loop = false; id = first_assertion t.procs n; at = base + free } in
    let entry : Point = record { stage = Entry; todo = whole ∷ []; part = 0 } in
    let entries : List Point = parts_from entry 0 free in
    let inner : List Point = points_of t.procs b false (first_assertion t.procs n) (base + free) [] in
    let exits : List Point = parts_from at_exit 0 (ensured + 1) in
    let f : Point → ℕ = place_of t n q b in
    let e0 : base + 0 ≡ base = omega arith in
    let e1 : base + free + inside + 0 ≡ base + free + inside = omega arith in
    let of_entries : map f entries ≡ count_from base free = counted_parts f entry base 0 free (λ i. refl) ∙ ap (λ (i : ℕ). count_from i free) e0 in
    let same : map f inner ≡ map number inner =
    same_numbers f number inner (all_mapped IsInBody (λ p. f p ≡ number p) inner (λ p s. ap (λ (st : Stage). stage_place t n q b st p.part p.todo) s) (all_in_body t.procs b false (first_assertion t.procs n) (base + free) [])) in
    let of_inner : map f inner ≡ count_from (base + free) inside = same ∙ numbers_of t.procs b false (first_assertion t.procs n) (base + free) [] in
    let of_exits : map f exits ≡ count_from (base + free + inside) (ensured + 1) =
    counted_parts f at_exit (base + free + inside) 0 (ensured + 1) (λ i. refl) ∙ ap (λ (i : ℕ). count_from i (ensured + 1)) e1 in
    let count : free + (inside + (ensured + 1)) ≡ body_points t.procs q.specs (Some b) = omega (arith, free_count q.specs, ensured_count q.specs) in
    both_counted f entries (inner ++ exits) base free (inside + (ensured + 1)) of_entries (both_counted f inner exits (base + free) inside (ensured + 1) of_inner of_exits)
    ∙ ap (λ (i : ℕ). count_from base i) count

-- ---- all procedures

located_numbers : (t : TypedProgram) (n : ℕ) (q : TypedProcedure) (b : TypedBlock) (ps : List Point) → slice_get t.procs n ≡ Some q → q.body ≡ Some b →
    map (number_of t) (located n ps) ≡ map (place_of t n q b) ps
located_numbers t n q b [] e k = refl
located_numbers t n q b (p ∷ ps) e k =
    let one : number_of t (record { proc = n; point = p }) ≡ place_of t n q b p = ap (λ (o : Option TypedProcedure). number_if_any t n o p) e ∙ ap (λ (o : Option TypedBlock). number_with t n q o p) k in
    let rest : map (number_of t) (located n ps) ≡ map (place_of t n q b) ps = located_numbers t n q b ps e k in
    let both : number_of t (record { proc = n; point = p }) ∷ map (number_of t) (located n ps) ≡ place_of t n q b p ∷ map (place_of t n q b) ps = cc in
    both

none_before : (procs ps : List TypedProcedure) → points_before procs ps 0 ≡ 0
none_before procs [] = refl
none_before procs (p ∷ ps) = refl

before_next : (procs front : List TypedProcedure) (q : TypedProcedure) (qs : List TypedProcedure) →
    points_before procs (front ++ q ∷ qs) (length front + 1) ≡ points_before procs (front ++ q ∷ qs) (length front) + body_points procs q.specs q.body
before_next procs [] q qs = omega (arith, none_before procs qs)
before_next procs (p ∷ ps) q qs =
    let e : suc (length ps) + 1 ≡ suc (length ps + 1) = omega arith in
    rw e (let h = before_next procs ps q qs in omega arith)

at_front : (front : List TypedProcedure) (q : TypedProcedure) (qs : List TypedProcedure) → slice_get (front ++ q ∷ qs) (length front) ≡ Some q
at_front [] q qs = refl
at_front (p ∷ ps) q qs = at_front ps q qs

-- how many points these procedures have
abbrev points_of_all : List TypedProcedure → List TypedProcedure → ℕ
points_of_all procs [] = 0
points_of_all procs (q ∷ qs) = body_points procs q.specs q.body + points_of_all procs qs

with_body : (t : TypedProgram) (n : ℕ) (q : TypedProcedure) (o : Option TypedBlock) → slice_get t.procs n ≡ Some q → q.body ≡ o →
    map (number_of t) (located n (points_with t n q o)) ≡ count_from (first_place t n) (body_points t.procs q.specs o)
with_body t n q None e k = refl
with_body t n q (Some b) e k = located_numbers t n q b (points_of_body t n q b) e k ∙ body_numbered t n q b

from_numbered : (t : TypedProgram) (front qs : List TypedProcedure) → t.procs ≡ front ++ qs →
    map (number_of t) (places_from t (length front) qs) ≡ count_from (first_place t (length front)) (points_of_all t.procs qs)
from_numbered t front [] e = refl
from_numbered t front (q ∷ qs) e =
    let n : ℕ = length front in
    let found : slice_get t.procs n ≡ Some q = ap (λ (ps : List TypedProcedure). slice_get ps n) e ∙ at_front front q qs in
    let later : t.procs ≡ (front ++ q ∷ []) ++ qs = e ∙ sym (append_assoc front (q ∷ []) qs) in
    let count : length (front ++ q ∷ []) ≡ n + 1 = length-append front (q ∷ []) in
    let rest : map (number_of t) (places_from t (n + 1) qs) ≡ count_from (first_place t (n + 1)) (points_of_all t.procs qs) = rw count at (from_numbered t (front ++ q ∷ []) qs later) in
    let P : List TypedProcedure → Type 0 = λ ps. points_before t.procs ps (n + 1) ≡ points_before t.procs ps n + body_points t.procs q.specs q.body in
    let before : points_before t.procs t.procs (n + 1) ≡ points_before t.procs t.procs n + body_points t.procs q.specs q.body = subst P (sym e) (before_next t.procs front q qs) in
    let next : first_place t (n + 1) ≡ first_place t n + body_points t.procs q.specs q.body = omega arith in
    both_counted (number_of t) (located n (points_with t n q q.body)) (places_from t (n + 1) qs) (first_place t n) (body_points t.procs q.specs q.body) (points_of_all t.procs qs)
    (with_body t n q q.body found refl) (rest ∙ ap (λ (i : ℕ). count_from i (points_of_all t.procs qs)) next)

-- ---- the program

start_count : (t : TypedProgram) (q : TypedProcedure) → length (start_conditions t q) ≡ length t.axioms + plain_requires q.specs
start_count t q = simp (length-append, length-map) (omega (arith, plain_count q.specs))

starts_numbered : (t : TypedProgram) (q : TypedProcedure) (b : TypedBlock) → slice_get t.procs t.entry ≡ Some q → q.body ≡ Some b →
    map (number_of t) (located t.entry (start_points t q)) ≡ count_from 1 (length (start_conditions t q))
starts_numbered t q b e k =
    located_numbers t t.entry q b (start_points t q) e k
    ∙ counted_parts (place_of t t.entry q b) (record { stage = Start; todo = []; part = 0 }) 1 0 (length (start_conditions t q)) (λ i. refl)

counted_by : {X : Type 0} (f : X → ℕ) (xs : List X) (n k : ℕ) → map f xs ≡ count_from n k → map f xs ≡ count_from n (length xs)
counted_by f [] n zero e = refl
counted_by f [] n (suc k) e = cc
counted_by f (x ∷ xs) n zero e = cc
counted_by f (x ∷ xs) n (suc k) e =
    let first : f x ≡ n = cc in
    let rest : map f xs ≡ count_from (n + 1) k = cc in
    let more : map f xs ≡ count_from (n + 1) (length xs) = counted_by f xs (n + 1) k rest in
    let both : f x ∷ map f xs ≡ n ∷ count_from (n + 1) (length xs) = cc in
    both

-- where the entry has a body
pub program_numbered : (t : TypedProgram) (q : TypedProcedure) (b : TypedBlock) → slice_get t.procs t.entry ≡ Some q → q.body ≡ Some b →
    map (number_of t) (program_places t) ≡ count_from 1 (length (program_places t))
program_numbered t q b e k =
    let starts : List Place = located t.entry (starts_if_any t (slice_get t.procs t.entry)) in
    let all : List Place = places_from t 0 t.procs in
    let count : ℕ = length (start_conditions t q) in
    let P : Option TypedProcedure → Type 0 = λ o. map (number_of t) (located t.entry (starts_if_any t o)) ≡ count_from 1 count in
    let of_starts : map (number_of t) starts ≡ count_from 1 count = subst P (sym e) (starts_numbered t q b e k) in
    let checked : checked_at_call (slice_get t.procs t.entry) ≡ plain_requires q.specs = ap checked_at_call e in
    let next : first_place t 0 ≡ 1 + count = omega (arith, start_count t q, none_before t.procs t.procs) in
    let of_all : map (number_of t) all ≡ count_from (1 + count) (points_of_all t.procs t.procs) = from_numbered t [] t.procs refl ∙ ap (λ (i : ℕ). count_from i (points_of_all t.procs t.procs)) next in
    counted_by (number_of t) (starts ++ all) 1 (count + points_of_all t.procs t.procs)
    (both_counted (number_of t) starts all 1 count (points_of_all t.procs t.procs) of_starts of_all)

-- ---- a number is that of one place

at_least : (f : Place → ℕ) (xs : List Place) (n k : ℕ) (p : Place) → map f xs ≡ count_from n k → IsPlaceIn xs p → n ≤ f p
at_least f [] n k p e h = absurd h
at_least f (x ∷ xs) n zero p e h = cc
at_least f (x ∷ xs) n (suc k) p e (inl is) =
    let first : f x ≡ n = cc in
    let same : f x ≡ f p = ap f is in
    omega arith
at_least f (x ∷ xs) n (suc k) p e (inr more) =
    let rest : map f xs ≡ count_from (n + 1) k = cc in
    let l : n + 1 ≤ f p = at_least f xs (n + 1) k p rest more in
    omega arith

pub numbered_once : (f : Place → ℕ) (xs : List Place) (n k : ℕ) (p r : Place) → map f xs ≡ count_from n k → IsPlaceIn xs p → IsPlaceIn xs r → f p ≡ f r → p ≡ r
numbered_once f [] n k p r e h i same = absurd h
numbered_once f (x ∷ xs) n zero p r e h i same = cc
numbered_once f (x ∷ xs) n (suc k) p r e (inl here) (inl there) same = sym here ∙ there
numbered_once f (x ∷ xs) n (suc k) p r e (inl here) (inr more) same =
    let first : f x ≡ n = cc in
    let rest : map f xs ≡ count_from (n + 1) k = cc in
    let l : n + 1 ≤ f r = at_least f xs (n + 1) k r rest more in
    let is : f x ≡ f p = ap f here in
    absurd (omega arith)
numbered_once f (x ∷ xs) n (suc k) p r e (inr more) (inl there) same =
    let first : f x ≡ n = cc in
    let rest : map f xs ≡ count_from (n + 1) k = cc in
    let l : n + 1 ≤ f p = at_least f xs (n + 1) k p rest more in
    let is : f x ≡ f r = ap f there in
    absurd (omega arith)
numbered_once f (x ∷ xs) n (suc k) p r e (inr more) (inr others) same =
    let rest : map f xs ≡ count_from (n + 1) k = cc in
    numbered_once f xs (n + 1) k p r rest more others same
