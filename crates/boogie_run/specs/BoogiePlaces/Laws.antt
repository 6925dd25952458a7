-- What holds of the places of every typed program.
use Rattle.std.specs.Prelude.{◌≡◌, ℕ, IsTrue, ◌++◌, map, length, Some, slice_get}
use Rattle.typed_tree.specs.TypedTree.{TypedBlock, TypedProcedure, TypedProgram}
use Rattle.typed_tree.specs.TypingRules.ValidProgram.{is_valid}
use Rattle.boogie_run.specs.BoogiePoints.Points.{Point}
use Rattle.boogie_run.specs.BoogiePoints.Actions.{action_at, first_point, first_assertion, first_place}
use Rattle.boogie_run.specs.BoogiePlaces.Places.{points_of_body, start_points, onward, IsOneOf, Place, number_of, program_places, count_from, IsPlaceIn}

-- The places behind the start have the numbers from 1 on, in the order of the text.
abbrev pub PlacesAreNumbered : Type 0
PlacesAreNumbered = (t : TypedProgram) → IsTrue (is_valid t) → map (number_of t) (program_places t) ≡ count_from 1 (length (program_places t))

-- So a number is that of one place.
abbrev pub NumbersDiffer : Type 0
NumbersDiffer = (t : TypedProgram) → IsTrue (is_valid t) → (p r : Place) → IsPlaceIn (program_places t) p → IsPlaceIn (program_places t) r → number_of t p ≡ number_of t r → p ≡ r

-- A body begins at one of its points.
abbrev pub BodiesBegin : Type 0
BodiesBegin = (t : TypedProgram) (n : ℕ) (q : TypedProcedure) (b : TypedBlock) → IsTrue (is_valid t) → slice_get t.procs n ≡ Some q → q.body ≡ Some b →
    IsOneOf (points_of_body t n q b) (first_point q b (first_assertion t.procs n) (first_place t n))

-- Each point of a body leads to points of the body alone.
abbrev pub PointsLeadToPoints : Type 0
PointsLeadToPoints = (t : TypedProgram) (n : ℕ) (q : TypedProcedure) (b : TypedBlock) → IsTrue (is_valid t) → slice_get t.procs n ≡ Some q → q.body ≡ Some b →
    (p r : Point) → IsOneOf (points_of_body t n q b) p → IsOneOf (onward t.procs p (action_at t n p)) r → IsOneOf (points_of_body t n q b) r

-- Each point of the start leads to points of the start, and to points of the entry procedure.
abbrev pub StartsLeadToPoints : Type 0
StartsLeadToPoints = (t : TypedProgram) (q : TypedProcedure) (b : TypedBlock) → IsTrue (is_valid t) → slice_get t.procs t.entry ≡ Some q → q.body ≡ Some b →
    (p r : Point) → IsOneOf (start_points t q) p → IsOneOf (onward t.procs p (action_at t t.entry p)) r → IsOneOf (start_points t q ++ points_of_body t t.entry q b) r
