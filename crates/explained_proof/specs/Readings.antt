-- What expressions of the tree are worth in a state of a procedure, by what its names stand for.
use Rattle.std.specs.Prelude.{◌≡◌, ◌⊎◌, ℕ, ℤ, pos, neg_ℤ, Bool, true, false, not, List, Option, None, Some, slice_get}
use Rattle.std.specs.List.{list_all, AllByRecursion}
use Rattle.boogie_tree.specs.declared.tree.Column.{Column}
use Rattle.boogie_tree.specs.declared.tree.Column.TheVariants.{Global}
use Rattle.boogie_tree.specs.declared.tree.VarInfo.{VarInfo}
use Rattle.boogie_tree.specs.Tree.{Expression, Lit, Truth, Var, Old, Not, Neg, Bin}
use Rattle.typed_tree.specs.Values.{State, column_value, at_entry, truth, value_is_zero, operation_value}
use Rattle.letter_acts.specs.Frames.{Columns, IsFrame}
use Rattle.explained_proof.specs.declared.row_expressions.scopes.Position.{Position}
use Rattle.explained_proof.specs.declared.row_expressions.scopes.Voice.{Voice}
use Rattle.explained_proof.specs.declared.row_expressions.scopes.Voice.TheVariants.{Plain}
use Rattle.explained_proof.specs.RowExpressions.Scopes.{is_requires, voice, has_truth, number_text}
use Rattle.explained_proof.specs.RowExpressions.Worth.{IsReading}
use Rattle.explained_proof.specs.Clauses.{KnownProcedure, scope, holding}
use Rattle.explained_proof.specs.Worth.{IsShallow, IsEntryOf, IsFollowed}

-- truth values are 0 and 1, as in expressions whose names are replaced; `old` reads the state at the entry
abbrev pub tree_value : (State → List ℕ → ℤ) → State → Expression → ℤ
tree_value look s (Lit at n) = n
tree_value look s (Truth at b) = truth b
tree_value look s (Var at x) = look s x.text
tree_value look s (Old at e) = tree_value look (at_entry s) e
tree_value look s (Not at e) = truth (value_is_zero (tree_value look s e))
tree_value look s (Neg at e) = neg_ℤ (tree_value look s e)
tree_value look s (Bin at op a b) = operation_value op (tree_value look s a) (tree_value look s b)

abbrev pub tree_holds : (State → List ℕ → ℤ) → State → Expression → Bool
tree_holds look s e = not (value_is_zero (tree_value look s e))

-- These are readings, whatever names stand for.
abbrev pub ValuesAreReadings : Type 0
ValuesAreReadings = (look : State → List ℕ → ℤ) (s : State) → IsReading (tree_value look s) (tree_holds look s)

-- Where clauses stand, each column that is called by its name is what the name stands for, and the text of the number of a boolean column stands for its value.
pub record LooksUp (look : State → List ℕ → ℤ) (q : KnownProcedure) (position : Position) : Type 0 where
  pub names : (s : State) (n : ℕ) (c : Column × VarInfo) → slice_get q.frame n ≡ Some c → voice (scope q position false) c ≡ Some Plain → look s c.1.name ≡ column_value s c.0
  pub numbers : (s : State) (n : ℕ) (c : Column × VarInfo) (v : Voice) → slice_get q.frame n ≡ Some c → has_truth c ≡ true → voice (scope q position false) c ≡ Some v →
      look s (number_text c.1.name v) ≡ column_value s c.0

-- the values of the columns of a frame in a state
abbrev pub column_in : State → Option (Column × VarInfo) → ℤ
column_in s None = pos 0
column_in s (Some c) = column_value s c.0

abbrev pub frame_point : Columns → State → ℕ → ℤ
frame_point frame s n = column_in s (slice_get frame n)

-- boolean columns are 0 or 1
abbrev pub HasTruths : Columns → (ℕ → ℤ) → Type 0
HasTruths frame point = (n : ℕ) (c : Column × VarInfo) → slice_get frame n ≡ Some c → has_truth c ≡ true → (point n ≡ pos 0) ⊎ (point n ≡ pos 1)

-- constants are what they were at the entry
abbrev pub ConstantsStay : Columns → State → Type 0
ConstantsStay frame s = (n g : ℕ) (v : VarInfo) → slice_get frame n ≡ Some (Global g, v) → v.constant ≡ true → column_value (at_entry s) (Global g) ≡ column_value s (Global g)

-- In a state of a frame that is followed by the nodes at a place, each clause that is told there has the value true.
abbrev pub ClausesAreTrue : Type 0
ClausesAreTrue = (look : State → List ℕ → ℤ) (globals : List VarInfo) (q : KnownProcedure) (position : Position) (place : ℕ) (s : State) (was : ℕ → ℤ) → IsFrame globals q.frame →
    IsShallow q.known → is_requires position ≡ false → LooksUp look q position → HasTruths q.frame (frame_point q.frame s) → HasTruths q.frame was → ConstantsStay q.frame s →
    IsEntryOf q (frame_point q.frame s) was → AllByRecursion (IsFollowed q.known place (frame_point q.frame s) was) q.entries → list_all (tree_holds look s) (holding q position place) ≡ true
