-- The environment of a frame: each column stands for itself, by its place in the frame.
use Rattle.std.specs.Prelude.{◌≡◌, ℕ, suc, ℤ, pos, Bool, true, false, nat_eq, List, [], ◌∷◌, Option, None, Some, if◌then◌else◌, slice_get}
use Rattle.std.specs.Option.{option_map}
use Rattle.boogie_tree.specs.declared.tree.Column.{Column}
use Rattle.boogie_tree.specs.declared.tree.Column.TheVariants as columns
use Rattle.boogie_tree.specs.declared.tree.VarInfo.{VarInfo}
use Rattle.typed_tree.specs.Values.{State, column_value, member}
use Rattle.lin_rows.specs.Points.{point_of}
use Rattle.letter_acts.specs.Frames.{Columns, IsState}
use Rattle.cond_jumps.specs.Conjunctions.{Plan, Just}
use Rattle.cond_jumps.specs.Forms.{Linears, linear_number, column}
use Rattle.cond_jumps.specs.Comparisons.{no_jumps, truth_of_column}
use Rattle.cond_jumps.specs.Environments.{Environment}

abbrev pub same_frame_column : Column → Column → Bool
same_frame_column (columns.Global m) (columns.Global n) = nat_eq m n
same_frame_column (columns.Global m) other = false
same_frame_column (columns.Old m) (columns.Old n) = nat_eq m n
same_frame_column (columns.Old m) other = false
same_frame_column (columns.Local m) (columns.Local n) = nat_eq m n
same_frame_column (columns.Local m) other = false

-- the first place of a column, from number n on, with what is known of it
abbrev pub place_from : ℕ → Columns → Column → Option (ℕ × VarInfo)
place_from n [] c = None
place_from n (d ∷ ds) c = if same_frame_column d.0 c then Some (n, d.1) else place_from (suc n) ds c

-- the first, or else the second
abbrev pub or_else : {X : Type 0} → Option X → Option X → Option X
or_else (Some x) y = Some x
or_else None y = y

abbrev pub if_constant : Option (ℕ × VarInfo) → Option (ℕ × VarInfo)
if_constant None = None
if_constant (Some x) = if x.1.constant then Some x else None

-- The place of a column. Constants have no old columns: the old value of one is its value.
abbrev pub column_place_in : Columns → Column → Option (ℕ × VarInfo)
column_place_in frame (columns.Global n) = place_from 0 frame (columns.Global n)
column_place_in frame (columns.Old n) = or_else (place_from 0 frame (columns.Old n)) (if_constant (place_from 0 frame (columns.Global n)))
column_place_in frame (columns.Local n) = place_from 0 frame (columns.Local n)

abbrev pub is_constant_place : Option (ℕ × VarInfo) → Bool
is_constant_place None = false
is_constant_place (Some x) = x.1.constant

-- the columns of constants
abbrev pub fixed_in : Columns → Column → Bool
fixed_in frame (columns.Global n) = is_constant_place (place_from 0 frame (columns.Global n))
fixed_in frame c = false

-- what stands for a column with that place; 0 and nothing where it has none
abbrev pub linear_at : Option (ℕ × VarInfo) → Linears
linear_at None = linear_number (pos 0)
linear_at (Some x) = column x.0

abbrev pub plan_at : Option (ℕ × VarInfo) → Bool → Plan
plan_at None want = Just no_jumps
plan_at (Some x) want = Just (truth_of_column x.0 want)

abbrev pub frame_environment : Columns → Environment
frame_environment frame =
    record {
      type = λ c. option_map (λ x. x.1.ty) (column_place_in frame c);
      fixed = fixed_in frame;
      sum = λ c. linear_at (column_place_in frame c);
      plan = λ c. plan_at (column_place_in frame c);
    }

-- The values are a state of the frame, by place: each column has its value, and the constants have the values that they
-- had at the procedure's entry.
pub record IsShown (frame : Columns) (s : State) (values : List ℤ) : Type 0 where
  pub state : IsState frame values
  pub present : (n : ℕ) (d : Column × VarInfo) → slice_get frame n ≡ Some d → point_of values n ≡ column_value s d.0
  pub constants : (n g : ℕ) (v : VarInfo) → slice_get frame n ≡ Some (columns.Global g, v) → v.constant ≡ true →
      member s.old g ≡ member s.globals g
