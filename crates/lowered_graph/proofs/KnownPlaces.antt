-- The places of a program: which points they are, where they lead, and at which of them a procedure returns.
use Rattle.std.proofs.Common.{◌≡◌, ◌∙◌, ◌⊎◌, ℕ, zero, suc, ◌+◌, ◌<◌, ◌≤◌, List, [], ◌∷◌, ◌++◌, map, length, Option, None, Some, inl, inr, refl, sym, ap, subst, arith, IsTrue}
use Rattle.std.specs.Prelude.{slice_get}
use Rattle.typed_tree.specs.TypedTree.{TypedExpression, TypedBlock, TypedProcedure, TypedProgram}
use Rattle.typed_tree.specs.TypingRules.ValidProgram.{is_valid}
use Rattle.typed_tree.proofs.TypingRules.ValidLaws as valid
use Rattle.boogie_run.specs.BoogiePoints.Points.{Start, Point}
use Rattle.boogie_run.specs.BoogiePoints.Actions.{action_at, first_point, first_assertion, first_place, start_conditions}
use Rattle.boogie_run.specs.BoogiePoints.Starts.{point_of_procedure, point_of_call, unless_none, start_point_of}
use Rattle.boogie_run.specs.BoogiePlaces.Laws as law
use Rattle.boogie_run.specs.BoogiePlaces.Places.{parts_from, points_of_body, start_points, IsOneOf, count_from, Place, number_of, located, points_with, places_from, starts_if_any, program_places, IsPlaceIn, onward}

-- the laws of the places of typed programs
pub record PlaceLaws : Type 0 where
  pub numbered : law.PlacesAreNumbered
  pub differ : law.NumbersDiffer
  pub begin : law.BodiesBegin
  pub lead : law.PointsLeadToPoints
  pub starts : law.StartsLeadToPoints

-- a point of procedure n, which has a body: of its body, or of the start
pub record IsKnown (t : TypedProgram) (n : ℕ) (p : Point) : Type 0 where
  pub procedure : TypedProcedure
  pub body : TypedBlock
  pub is : slice_get t.procs n ≡ Some procedure
  pub has_body : procedure.body ≡ Some body
  pub stands : ((n ≡ t.entry) × IsOneOf (start_points t procedure) p) ⊎ IsOneOf (points_of_body t n procedure body) p

-- ---- members

pub point_front : (ps qs : List Point) (p : Point) → IsOneOf ps p → IsOneOf (ps ++ qs) p
point_front [] qs p i = absurd i
point_front (x ∷ xs) qs p (inl e) = inl e
point_front (x ∷ xs) qs p (inr i) = inr (point_front xs qs p i)

pub point_rest : (ps qs : List Point) (p : Point) → IsOneOf qs p → IsOneOf (ps ++ qs) p
point_rest [] qs p i = i
point_rest (x ∷ xs) qs p i = inr (point_rest xs qs p i)

pub point_either : (ps qs : List Point) (p : Point) → IsOneOf (ps ++ qs) p → IsOneOf ps p ⊎ IsOneOf qs p
point_either [] qs p i = inr i
point_either (x ∷ xs) qs p (inl e) = inl (inl e)
point_either (x ∷ xs) qs p (inr i) = elim (point_either xs qs p i) [ inl h ↦ inl (inr h) | inr h ↦ inr h ]

place_front : (ps qs : List Place) (p : Place) → IsPlaceIn ps p → IsPlaceIn (ps ++ qs) p
place_front [] qs p i = absurd i
place_front (x ∷ xs) qs p (inl e) = inl e
place_front (x ∷ xs) qs p (inr i) = inr (place_front xs qs p i)

place_rest : (ps qs : List Place) (p : Place) → IsPlaceIn qs p → IsPlaceIn (ps ++ qs) p
place_rest [] qs p i = i
place_rest (x ∷ xs) qs p i = inr (place_rest xs qs p i)

place_either : (ps qs : List Place) (p : Place) → IsPlaceIn (ps ++ qs) p → IsPlaceIn ps p ⊎ IsPlaceIn qs p
place_either [] qs p i = inr i
place_either (x ∷ xs) qs p (inl e) = inl (inl e)
place_either (x ∷ xs) qs p (inr i) = elim (place_either xs qs p i) [ inl h ↦ inl (inr h) | inr h ↦ inr h ]

located_so : (n : ℕ) (ps : List Point) (p : Point) → IsOneOf ps p → IsPlaceIn (located n ps) (record { proc = n; point = p })
located_so n [] p i = absurd i
located_so n (x ∷ xs) p (inl e) = inl (ap (λ (y : Point). record { proc = n; point = y }) e)
located_so n (x ∷ xs) p (inr i) = inr (located_so n xs p i)

located_back : (n m : ℕ) (ps : List Point) (p : Point) → IsPlaceIn (located n ps) (record { proc = m; point = p }) → (n ≡ m) × IsOneOf ps p
located_back n m [] p i = absurd i
located_back n m (x ∷ xs) p (inl e) = (ap (λ (y : Place). y.proc) e, inl (ap (λ (y : Place). y.point) e))
located_back n m (x ∷ xs) p (inr i) = let h = located_back n m xs p i in (h.0, inr h.1)

-- ---- the places of procedures

with_body : (t : TypedProgram) (n : ℕ) (q : TypedProcedure) (o : Option TypedBlock) (p : Point) → IsOneOf (points_with t n q o) p → (b : TypedBlock) × (o ≡ Some b) × IsOneOf (points_of_body t n q b) p
with_body t n q None p i = absurd i
with_body t n q (Some b) p i = (b, refl, i)

from_back : (t : TypedProgram) (k : ℕ) (qs : List TypedProcedure) (n : ℕ) (p : Point) → IsPlaceIn (places_from t k qs) (record { proc = n; point = p }) →
    (i : ℕ) × (n ≡ k + i) × (q : TypedProcedure) × (slice_get qs i ≡ Some q) × IsOneOf (points_with t n q q.body) p
from_back t k [] n p i = absurd i
from_back t k (q ∷ qs) n p i = elim (place_either (located k (points_with t k q q.body)) (places_from t (k + 1) qs) (record { proc = n; point = p }) i) [
  | inl h ↦ (let g = located_back k n (points_with t k q q.body) p h in
      let same : k ≡ n = g.0 in
      (0, (let e : n ≡ k + 0 = omega arith in e), q, refl, subst (λ (m : ℕ). IsOneOf (points_with t m q q.body) p) same g.1))
  | inr h ↦ (let g = from_back t (k + 1) qs n p h in
      let at : n ≡ k + 1 + g.0 = g.1 in
      (suc g.0, (let e : n ≡ k + suc g.0 = omega arith in e), g.2, g.3, g.4))
]

from_so : (t : TypedProgram) (k : ℕ) (qs : List TypedProcedure) (i : ℕ) (q : TypedProcedure) (p : Point) → slice_get qs i ≡ Some q → IsOneOf (points_with t (k + i) q q.body) p →
    IsPlaceIn (places_from t k qs) (record { proc = k + i; point = p })
from_so t k [] i q p e h = absurd (cc)
from_so t k (r ∷ qs) zero q p e h =
    let same : r ≡ q = cc in
    let here : k + 0 ≡ k = omega arith in
    let in_r : IsOneOf (points_with t (k + 0) r r.body) p = subst (λ (x : TypedProcedure). IsOneOf (points_with t (k + 0) x x.body) p) (sym same) h in
    let at_k : IsOneOf (points_with t k r r.body) p = subst (λ (m : ℕ). IsOneOf (points_with t m r r.body) p) here in_r in
    place_front (located k (points_with t k r r.body)) (places_from t (k + 1) qs) (record { proc = k + 0; point = p })
    (subst (λ (m : ℕ). IsPlaceIn (located k (points_with t k r r.body)) (record { proc = m; point = p })) (sym here) (located_so k (points_with t k r r.body) p at_k))
from_so t k (r ∷ qs) (suc i) q p e h =
    let next : k + suc i ≡ k + 1 + i = omega arith in
    let later : IsOneOf (points_with t (k + 1 + i) q q.body) p = subst (λ (m : ℕ). IsOneOf (points_with t m q q.body) p) next h in
    place_rest (located k (points_with t k r r.body)) (places_from t (k + 1) qs) (record { proc = k + suc i; point = p })
    (subst (λ (m : ℕ). IsPlaceIn (places_from t (k + 1) qs) (record { proc = m; point = p })) (sym next) (from_so t (k + 1) qs i q p e later))

-- ---- places are known points

starts_back : (t : TypedProgram) (o : Option TypedProcedure) (p : Point) → IsOneOf (starts_if_any t o) p → (q : TypedProcedure) × (o ≡ Some q) × IsOneOf (start_points t q) p
starts_back t None p i = absurd i
starts_back t (Some q) p i = (q, refl, i)

pub place_known : (t : TypedProgram) → IsTrue (is_valid t) → (n : ℕ) (p : Point) → IsPlaceIn (program_places t) (record { proc = n; point = p }) → IsKnown t n p
place_known t v n p i = elim (place_either (located t.entry (starts_if_any t (slice_get t.procs t.entry))) (places_from t 0 t.procs) (record { proc = n; point = p }) i) [
  | inl h ↦ (let g = located_back t.entry n (starts_if_any t (slice_get t.procs t.entry)) p h in
      let s = starts_back t (slice_get t.procs t.entry) p g.1 in
      let entry = valid.entry t v in
      let same : entry.0 ≡ s.0 = (let e : Some entry.0 ≡ Some s.0 = sym entry.2 ∙ s.1 in cc) in
      record {
        procedure = entry.0;
        body = entry.1;
        is = subst (λ (m : ℕ). slice_get t.procs m ≡ Some entry.0) g.0 entry.2;
        has_body = entry.3;
        stands = inl (sym g.0, subst (λ (q : TypedProcedure). IsOneOf (start_points t q) p) (sym same) s.2);
      })
  | inr h ↦ (let g = from_back t 0 t.procs n p h in
      let b = with_body t n g.2 g.2.body p g.4 in
      let at : n ≡ 0 + g.0 = g.1 in
      let same : g.0 ≡ n = omega arith in
      record {
        procedure = g.2;
        body = b.0;
        is = subst (λ (m : ℕ). slice_get t.procs m ≡ Some g.2) same g.3;
        has_body = b.1;
        stands = inr b.2;
      })
]

pub known_place : (t : TypedProgram) (n : ℕ) (p : Point) → IsKnown t n p → IsPlaceIn (program_places t) (record { proc = n; point = p })
known_place t n p k = elim k.stands [
  | inl h ↦ (let is : slice_get t.procs t.entry ≡ Some k.procedure = subst (λ (m : ℕ). slice_get t.procs m ≡ Some k.procedure) h.0 k.is in
      let starts : IsOneOf (starts_if_any t (slice_get t.procs t.entry)) p = subst (λ (o : Option TypedProcedure). IsOneOf (starts_if_any t o) p) (sym is) h.1 in
      place_front (located t.entry (starts_if_any t (slice_get t.procs t.entry))) (places_from t 0 t.procs) (record { proc = n; point = p })
      (subst (λ (m : ℕ). IsPlaceIn (located t.entry (starts_if_any t (slice_get t.procs t.entry))) (record { proc = m; point = p })) (sym h.0)
      (located_so t.entry (starts_if_any t (slice_get t.procs t.entry)) p starts)))
  | inr h ↦ (let here : 0 + n ≡ n = omega arith in
      let with : IsOneOf (points_with t n k.procedure k.procedure.body) p = subst (λ (o : Option TypedBlock). IsOneOf (points_with t n k.procedure o) p) (sym k.has_body) h in
      let at : IsOneOf (points_with t (0 + n) k.procedure k.procedure.body) p = subst (λ (m : ℕ). IsOneOf (points_with t m k.procedure k.procedure.body) p) (sym here) with in
      place_rest (located t.entry (starts_if_any t (slice_get t.procs t.entry))) (places_from t 0 t.procs) (record { proc = n; point = p })
      (subst (λ (m : ℕ). IsPlaceIn (places_from t 0 t.procs) (record { proc = m; point = p })) here (from_so t 0 t.procs n k.procedure p k.is at)))
]

-- ---- where they lead

pub known_onward : (l : PlaceLaws) (t : TypedProgram) → IsTrue (is_valid t) → (n : ℕ) (p r : Point) → IsKnown t n p → IsOneOf (onward t.procs p (action_at t n p)) r → IsKnown t n r
known_onward l t v n p r k led = elim k.stands [
  | inl h ↦ (let is : slice_get t.procs t.entry ≡ Some k.procedure = subst (λ (m : ℕ). slice_get t.procs m ≡ Some k.procedure) h.0 k.is in
      let led_on : IsOneOf (onward t.procs p (action_at t t.entry p)) r = subst (λ (m : ℕ). IsOneOf (onward t.procs p (action_at t m p)) r) h.0 led in
      let reached : IsOneOf (start_points t k.procedure ++ points_of_body t t.entry k.procedure k.body) r = l.starts t k.procedure k.body v is k.has_body p r h.1 led_on in
      record {
        procedure = k.procedure;
        body = k.body;
        is = k.is;
        has_body = k.has_body;
        stands = elim (point_either (start_points t k.procedure) (points_of_body t t.entry k.procedure k.body) r reached) [
          | inl s ↦ inl (h.0, s)
          | inr s ↦ inr (subst (λ (m : ℕ). IsOneOf (points_of_body t m k.procedure k.body) r) (sym h.0) s)
        ];
      })
  | inr h ↦ record { procedure = k.procedure; body = k.body; is = k.is; has_body = k.has_body; stands = inr (l.lead t n k.procedure k.body v k.is k.has_body p r h led) }
]

-- a procedure with a body is entered at a known point
pub known_entry : (l : PlaceLaws) (t : TypedProgram) → IsTrue (is_valid t) → (f : ℕ) (q : TypedProcedure) (b : TypedBlock) → slice_get t.procs f ≡ Some q → q.body ≡ Some b →
    IsKnown t f (point_of_call t f (slice_get t.procs f))
known_entry l t v f q b e k =
    let first : IsOneOf (points_of_body t f q b) (first_point q b (first_assertion t.procs f) (first_place t f)) = l.begin t f q b v e k in
    let to_procedure : point_of_call t f (slice_get t.procs f) ≡ point_of_procedure t f q q.body = ap (point_of_call t f) e in
    let to_body : point_of_procedure t f q q.body ≡ first_point q b (first_assertion t.procs f) (first_place t f) = ap (point_of_procedure t f q) k in
    record { procedure = q; body = b; is = e; has_body = k; stands = inr (subst (IsOneOf (points_of_body t f q b)) (sym (to_procedure ∙ to_body)) first) }

-- ---- the start

first_part : (es : List TypedExpression) (first : Point) → ((es ≡ []) × (unless_none es first ≡ first)) ⊎ IsOneOf (parts_from (record { stage = Start; todo = []; part = 0 }) 0 (length es)) (unless_none es first)
first_part [] first = inl (refl, refl)
first_part (e ∷ es) first = inr (inl refl)

pub known_start : (l : PlaceLaws) (t : TypedProgram) → IsTrue (is_valid t) → IsKnown t t.entry (start_point_of t (slice_get t.procs t.entry))
known_start l t v =
    let entry = valid.entry t v in
    let q : TypedProcedure = entry.0 in
    let b : TypedBlock = entry.1 in
    let first : Point = point_of_procedure t t.entry q q.body in
    let to_start : start_point_of t (slice_get t.procs t.entry) ≡ unless_none (start_conditions t q) first = ap (start_point_of t) entry.2 in
    let to_body : first ≡ first_point q b (first_assertion t.procs t.entry) (first_place t t.entry) = ap (point_of_procedure t t.entry q) entry.3 in
    record {
      procedure = q;
      body = b;
      is = entry.2;
      has_body = entry.3;
      stands = elim (first_part (start_conditions t q) first) [
        | inl h ↦ inr (subst (IsOneOf (points_of_body t t.entry q b)) (sym (to_start ∙ h.1 ∙ to_body)) (l.begin t t.entry q b v entry.2 entry.3))
        | inr h ↦ inl (refl, subst (IsOneOf (start_points t q)) (sym to_start) h)
      ];
    }

-- ---- numbers

number_bounds : (f : Place → ℕ) (xs : List Place) (n k : ℕ) (p : Place) → map f xs ≡ count_from n k → IsPlaceIn xs p → (n ≤ f p) × (f p < n + length xs)
number_bounds f [] n k p e h = absurd h
number_bounds f (x ∷ xs) n zero p e h = cc
number_bounds f (x ∷ xs) n (suc k) p e (inl is) =
    let first : f x ≡ n = cc in
    let same : f x ≡ f p = ap f is in
    (omega arith, omega arith)
number_bounds f (x ∷ xs) n (suc k) p e (inr more) =
    let rest : map f xs ≡ count_from (n + 1) k = cc in
    let h = number_bounds f xs (n + 1) k p rest more in
    let lower : n + 1 ≤ f p = h.0 in
    let upper : f p < n + 1 + length xs = h.1 in
    (omega arith, omega arith)

-- the places of a program have the numbers from 1 on
pub known_number : (l : PlaceLaws) (t : TypedProgram) → IsTrue (is_valid t) → (n : ℕ) (p : Point) → IsKnown t n p →
    (1 ≤ number_of t (record { proc = n; point = p })) × (number_of t (record { proc = n; point = p }) < 1 + length (program_places t))
known_number l t v n p k = number_bounds (number_of t) (program_places t) 1 (length (program_places t)) (record { proc = n; point = p }) (l.numbered t v) (known_place t n p k)

-- so a number is that of one point
pub known_once : (l : PlaceLaws) (t : TypedProgram) → IsTrue (is_valid t) → (n m : ℕ) (p r : Point) → IsKnown t n p → IsKnown t m r →
    number_of t (record { proc = n; point = p }) ≡ number_of t (record { proc = m; point = r }) → (n ≡ m) × (p ≡ r)
known_once l t v n m p r k h e =
    let same = l.differ t v (record { proc = n; point = p }) (record { proc = m; point = r }) (known_place t n p k) (known_place t m r h) e in
    (ap (λ (x : Place). x.proc) same, ap (λ (x : Place). x.point) same)
