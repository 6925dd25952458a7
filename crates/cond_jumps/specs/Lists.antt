-- The lists of a frame, and what they mean for its states.
use Rattle.std.specs.Prelude.{◌≡◌, ◌⊎◌, ◌↔◌, ℕ, ◌+◌, ℤ, Bool, true, false, List, [], ◌∷◌, ◌++◌, map, length, Some}
use Rattle.std.specs.List.{AllByRecursion}
use Rattle.boogie_tree.specs.declared.tree.Ty.TheVariants as types
use Rattle.typed_tree.specs.TypedTree.{TypedExpression}
use Rattle.typed_tree.specs.Values.{State, value, truth}
use Rattle.typed_tree.specs.AffineForm.{is_linear}
use Rattle.typed_tree.specs.Laws.{IsTruth}
use Rattle.lin_rows.specs.Rows.{Holds}
use Rattle.lin_rows.specs.Points.{point_of}
use Rattle.letter_acts.specs.Frames.{Columns}
use Rattle.letter_acts.specs.Values.{RowsHold}
use Rattle.cond_jumps.specs.Conjunctions.{Conjunction, Plan, listed_plan}
use Rattle.cond_jumps.specs.Environments.{type_in}
use Rattle.cond_jumps.specs.Paths.{paths, assigns}
use Rattle.cond_jumps.specs.Worth.{IsSound}
use Rattle.cond_jumps.specs.Frames.{frame_environment, fixed_in, IsShown}

-- how the list of a condition with the wanted value is put together
abbrev pub path_plan : Columns → TypedExpression → Bool → Plan
path_plan frame e want = paths (frame_environment frame) false e want

-- the list: over the frame, then the helpers
abbrev pub path_list : Columns → TypedExpression → Bool → List Conjunction
path_list frame e want = listed_plan (path_plan frame e want) (length frame)

abbrev pub assign_plan : Columns → List TypedExpression → Plan
assign_plan frame es = assigns (frame_environment frame) (length frame) es

-- over the frame, then so many written columns, then the helpers
abbrev pub assign_width : Columns → ℕ → ℕ
assign_width frame count = length frame + count

-- the list of an assignment of these values to so many columns
abbrev pub assign_list : Columns → ℕ → List TypedExpression → List Conjunction
assign_list frame count es = listed_plan (assign_plan frame es) (assign_width frame count)

-- a condition over the frame: typed, and its operators keep their rules
pub record IsCondition (frame : Columns) (e : TypedExpression) : Type 0 where
  pub typed : type_in (frame_environment frame) false e ≡ Some types.Bool
  pub linear : is_linear (fixed_in frame) false e ≡ true

-- values over the frame, each typed
abbrev pub AreValues : Columns → List TypedExpression → Type 0
AreValues frame es = AllByRecursion (IsSound (frame_environment frame)) es

-- with some helpers the rows of a conjunction hold over the values
abbrev pub IsMet : List ℤ → Conjunction → Type 0
IsMet values c = RowsHold values c.helpers c.rows

abbrev pub SomeIsMet : List ℤ → List Conjunction → Type 0
SomeIsMet values [] = ⊥
SomeIsMet values (c ∷ cs) = IsMet values c ⊎ SomeIsMet values cs

-- no two members are met
abbrev pub AtMostOneIsMet : List ℤ → List Conjunction → Type 0
AtMostOneIsMet values [] = Unit {0}
AtMostOneIsMet values (c ∷ cs) = (IsMet values c → SomeIsMet values cs → ⊥) × AtMostOneIsMet values cs

-- two lists of helpers with which the rows hold over the values are equal
abbrev pub HelpersAreUnique : List ℤ → Conjunction → Type 0
HelpersAreUnique values c =
    (g h : List ℤ) → length g ≡ c.helpers → length h ≡ c.helpers →
    AllByRecursion (Holds (point_of (values ++ g))) c.rows → AllByRecursion (Holds (point_of (values ++ h))) c.rows → g ≡ h

-- The values meet a member exactly where P holds; they meet at most one; and by one number for each helper.
pub record Decide (values : List ℤ) (cs : List Conjunction) (P : Type 0) : Type 0 where
  pub exactly : SomeIsMet values cs ↔ P
  pub once : AtMostOneIsMet values cs
  pub unique : AllByRecursion (HelpersAreUnique values) cs

-- A state makes a condition have the wanted value exactly where it meets a member of the list. It meets at most one.
abbrev pub PathsMean : Type 0
PathsMean = (frame : Columns) (s : State) (values : List ℤ) (e : TypedExpression) (want : Bool) → IsShown frame s values → IsCondition frame e →
    Decide values (path_list frame e want) (value s e ≡ truth want)

-- A condition is 0 or 1.
abbrev pub ConditionsAreTruths : Type 0
ConditionsAreTruths = (frame : Columns) (s : State) (values : List ℤ) (e : TypedExpression) → IsShown frame s values → IsCondition frame e → IsTruth (value s e)

-- New values are those of a parallel assignment exactly where a member of the list is met. At most one is met.
abbrev pub AssignsMean : Type 0
AssignsMean = (frame : Columns) (s : State) (values news : List ℤ) (es : List TypedExpression) → IsShown frame s values → AreValues frame es →
    length news ≡ length es → Decide (values ++ news) (assign_list frame (length es) es) (news ≡ map (value s) es)
