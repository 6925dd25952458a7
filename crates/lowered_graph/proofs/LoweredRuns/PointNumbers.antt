-- The points of a typed program's procedures are among its places, so their numbers differ.
use Rattle.std.proofs.Common.{◌≡◌, ◌⊎◌, inl, inr, ℕ, zero, suc, ◌+◌, List, [], ◌∷◌, ◌++◌, Option, Some, IsTrue, sym, ◌∙◌, ap, subst, arith}
use Rattle.std.specs.Prelude.{slice_get}
use Rattle.typed_tree.specs.TypedTree.{TypedBlock, TypedProcedure, TypedProgram}
use Rattle.typed_tree.specs.TypingRules.ValidProgram.{is_valid}
use Rattle.boogie_run.specs.BoogiePoints.Points.{Point}
use Rattle.boogie_run.specs.BoogiePlaces.Places.{points_of_body, start_points, IsOneOf, Place, number_of, located, points_with, places_from, starts_if_any, program_places, IsPlaceIn}
use Rattle.boogie_run.proofs.BoogiePlaces.PlaceLaws.{numbers_differ}
use Rattle.lowered_graph.specs.LoweredImports.KnownPoints.{IsPointOf}

place_left : (a b : List Place) (p : Place) → IsPlaceIn a p → IsPlaceIn (a ++ b) p
place_left [] b p k = absurd k
place_left (x ∷ xs) b p (inl e) = inl e
place_left (x ∷ xs) b p (inr k) = inr (place_left xs b p k)

place_right : (a b : List Place) (p : Place) → IsPlaceIn b p → IsPlaceIn (a ++ b) p
place_right [] b p k = k
place_right (x ∷ xs) b p k = inr (place_right xs b p k)

place_located : (n : ℕ) (ps : List Point) (p : Point) → IsOneOf ps p → IsPlaceIn (located n ps) (record { proc = n; point = p })
place_located n [] p k = absurd k
place_located n (q ∷ qs) p (inl e) = inl (ap (λ (x : Point). let y : Place = record { proc = n; point = x } in y) e)
place_located n (q ∷ qs) p (inr k) = inr (place_located n qs p k)

place_of_procedure : (t : TypedProgram) (i k : ℕ) (qs : List TypedProcedure) (q : TypedProcedure) (x : Place) → slice_get qs k ≡ Some q → IsPlaceIn (located (i + k) (points_with t (i + k) q q.body)) x →
    IsPlaceIn (places_from t i qs) x
place_of_procedure t i k [] q x e h = absurd (cc)
place_of_procedure t i zero (r ∷ rs) q x e h =
    let z : i + 0 ≡ i = omega arith in
    let same : r ≡ q = cc in
    place_left (located i (points_with t i r r.body)) (places_from t (i + 1) rs) x
    (subst (λ (y : TypedProcedure). IsPlaceIn (located i (points_with t i y y.body)) x) (sym same) (subst (λ (m : ℕ). IsPlaceIn (located m (points_with t m q q.body)) x) z h))
place_of_procedure t i (suc k) (r ∷ rs) q x e h =
    let z : i + suc k ≡ (i + 1) + k = omega arith in
    place_right (located i (points_with t i r r.body)) (places_from t (i + 1) rs) x
    (place_of_procedure t (i + 1) k rs q x e (subst (λ (m : ℕ). IsPlaceIn (located m (points_with t m q q.body)) x) z h))

point_placed : (t : TypedProgram) (n : ℕ) (p : Point) → IsPointOf t n p → IsPlaceIn (program_places t) (record { proc = n; point = p })
point_placed t n p k = by_part k.among
  where
    starts : List Place
    starts = located t.entry (starts_if_any t (slice_get t.procs t.entry))

    by_part : IsOneOf (points_of_body t n k.procedure k.body) p ⊎ ((n ≡ t.entry) × IsOneOf (start_points t k.procedure) p) → IsPlaceIn (program_places t) (record { proc = n; point = p })
    by_part (inl h) =
        let z : 0 + n ≡ n = omega arith in
        let at_body : IsPlaceIn (located n (points_with t n k.procedure k.procedure.body)) (record { proc = n; point = p }) =
        subst (λ (b : Option TypedBlock). IsPlaceIn (located n (points_with t n k.procedure b)) (record { proc = n; point = p })) (sym k.has) (place_located n (points_of_body t n k.procedure k.body) p h) in
        place_right (located t.entry (starts_if_any t (slice_get t.procs t.entry))) (places_from t 0 t.procs) (record { proc = n; point = p })
        (place_of_procedure t 0 n t.procs k.procedure (record { proc = n; point = p }) k.is
        (subst (λ (m : ℕ). IsPlaceIn (located m (points_with t m k.procedure k.procedure.body)) (record { proc = n; point = p })) (sym z) at_body))
    by_part (inr h) =
        let at_entry : slice_get t.procs t.entry ≡ Some k.procedure = ap (slice_get t.procs) (sym h.0) ∙ k.is in
        let at_start : IsPlaceIn (located n (start_points t k.procedure)) (record { proc = n; point = p }) = place_located n (start_points t k.procedure) p h.1 in
        place_left (located t.entry (starts_if_any t (slice_get t.procs t.entry))) (places_from t 0 t.procs) (record { proc = n; point = p })
        (subst (λ (o : Option TypedProcedure). IsPlaceIn (located t.entry (starts_if_any t o)) (record { proc = n; point = p })) (sym at_entry)
        (subst (λ (m : ℕ). IsPlaceIn (located m (start_points t k.procedure)) (record { proc = n; point = p })) h.0 at_start))

pub points_differ : (t : TypedProgram) → IsTrue (is_valid t) → (n : ℕ) (p q : Point) → IsPointOf t n p → IsPointOf t n q →
    number_of t (record { proc = n; point = p }) ≡ number_of t (record { proc = n; point = q }) → p ≡ q
points_differ t valid n p q h k e =
    ap (λ (x : Place). x.point) (numbers_differ t valid (record { proc = n; point = p }) (record { proc = n; point = q }) (point_placed t n p h) (point_placed t n q k) e)
