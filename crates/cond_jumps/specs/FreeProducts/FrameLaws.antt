-- What the letters of a frame mean for its states.
use Rattle.std.specs.Prelude.{◌≡◌, ℕ, ◌<◌, ℤ, Bool, true, false, List, ◌++◌, map, length, Some, slice_get}
use Rattle.std.specs.List.{AllByRecursion}
use Rattle.boogie_tree.specs.declared.tree.Ty.{Ty}
use Rattle.boogie_tree.specs.declared.tree.Ty.TheVariants as types
use Rattle.boogie_tree.specs.declared.tree.Column.TheVariants as columns
use Rattle.boogie_tree.specs.declared.tree.VarInfo.{VarInfo}
use Rattle.typed_tree.specs.TypedTree.{TypedExpression}
use Rattle.typed_tree.specs.Divided.{is_divided}
use Rattle.typed_tree.specs.Values.{State, value, truth}
use Rattle.letter_acts.specs.Frames.{Columns}
use Rattle.cond_jumps.specs.Environments.{Environment, type_in}
use Rattle.cond_jumps.specs.Frames.{frame_environment, IsShown}
use Rattle.cond_jumps.specs.Passing.{passed, passed_state, standing_environment}
use Rattle.cond_jumps.specs.FreeProducts.FrameLetters.{path_letters, assign_letters, passed_letters}
use Rattle.cond_jumps.specs.FreeProducts.Letters.{MarkedConjunction}
use Rattle.cond_jumps.specs.FreeProducts.LetterLaws.{SomeLetterIsMet, SomeExactLetterIsMet}

-- the locals of a frame have numbers below m
abbrev pub LocalsBelow : ℕ → Columns → Type 0
LocalsBelow m frame = (i n : ℕ) (v : VarInfo) → slice_get frame i ≡ Some (columns.Local n, v) → n < m

-- the values are a state of the frame, whose locals have numbers below those of the products
pub record IsWholeState (frame : Columns) (s : State) (values : List ℤ) : Type 0 where
  pub shown : IsShown frame s values
  pub locals : LocalsBelow (length s.locals) frame

-- a condition: typed, and its divisors are literals other than 0
pub record IsDividedCondition (v : Environment) (e : TypedExpression) : Type 0 where
  pub typed : type_in v false e ≡ Some types.Bool
  pub divided : is_divided e ≡ true

-- a value: typed, and its divisors are literals other than 0
pub record IsDividedValue (v : Environment) (e : TypedExpression) : Type 0 where
  pub type : Ty
  pub typed : type_in v false e ≡ Some type
  pub divided : is_divided e ≡ true

-- A fact of values and letters: where it holds they meet a letter, and it holds where they meet a letter that is not coarse.
pub record Marks (values : List ℤ) (letters : List MarkedConjunction) (P : Type 0) : Type 0 where
  pub follow : P → SomeLetterIsMet values letters
  pub lead : SomeExactLetterIsMet values letters → P

-- Where a condition has the wanted value its state meets a letter; it has the value where the state meets one that is not coarse.
abbrev pub ConditionsMean : Type 0
ConditionsMean = (frame : Columns) (s : State) (values : List ℤ) (e : TypedExpression) (want : Bool) → IsWholeState frame s values → IsDividedCondition (frame_environment frame) e →
    Marks values (path_letters frame (length s.locals) e want) (value s e ≡ truth want)

-- The same of new values, which are those of a parallel assignment.
abbrev pub AssignmentsMean : Type 0
AssignmentsMean = (frame : Columns) (s : State) (values news : List ℤ) (es : List TypedExpression) → IsWholeState frame s values →
    AllByRecursion (IsDividedValue (frame_environment frame)) es → length news ≡ length es →
    Marks (values ++ news) (assign_letters frame (length s.locals) (length es) es) (news ≡ map (value s) es)

-- The same of a condition of a called procedure, whose parameters have the values of the arguments.
abbrev pub CalledConditionsMean : Type 0
CalledConditionsMean = (frame : Columns) (s : State) (values : List ℤ) (args : List TypedExpression) (e : TypedExpression) (want : Bool) → IsWholeState frame s values →
    AllByRecursion (IsDividedValue (frame_environment frame)) args → IsDividedCondition (standing_environment (frame_environment frame) (passed args)) e →
    Marks values (passed_letters frame (length s.locals) args e want) (value (passed_state s args) e ≡ truth want)
