-- What an expression over numbered columns says of one that is read elsewhere.
use Rattle.std.specs.Prelude.{◌≡◌, ℕ, ◌<◌, Bool, false, Option}
use Rattle.boogie_tree.specs.declared.tree.Ty.{Ty}
use Rattle.boogie_tree.specs.declared.tree.Column.{Column}
use Rattle.boogie_tree.specs.declared.tree.Column.TheVariants as columns
use Rattle.typed_tree.specs.TypedTree.{TypedExpression}
use Rattle.cond_jumps.specs.Conjunctions.{Plan, Just}
use Rattle.cond_jumps.specs.Forms.{Linears, column}
use Rattle.cond_jumps.specs.Comparisons.{truth_of_column}
use Rattle.cond_jumps.specs.Environments.{Environment}
use Rattle.cond_jumps.specs.Paths.{linear, paths}
use Rattle.icfg_lower.specs.CallJumps.Ties.Sums.{IsSame}
use Rattle.icfg_lower.specs.CallJumps.Ties.Reading.{Stand}

-- the local with number i stands for column i, below w
pub record IsNumbered (w : ℕ) (u : Environment) : Type 0 where
  pub sums : (i : ℕ) → i < w → u.sum (columns.Local i) ≡ column i
  pub plans : (i : ℕ) → i < w → (want : Bool) → u.plan (columns.Local i) want ≡ Just (truth_of_column i want)

-- an expression that is read in u, and its type, stand for this sum, these plans and this type
pub record StandsFor (u : Environment) (sum : Linears) (plan : Bool → Plan) (type : Option Ty) (s : Stand) : Type 0 where
  pub sum_is : (n : ℕ) → IsSame (linear u false s.expression n) (sum n)
  pub plan_is : (want : Bool) → paths u false s.expression want ≡ plan want
  pub type_is : s.type ≡ type

-- each column of v has what stands for it
abbrev pub AllStand : Environment → Environment → (Column → Stand) → Type 0
AllStand u v stands = (c : Column) → StandsFor u (v.sum c) (v.plan c) (v.type c) (stands c)

-- the expression e, read in u, has the sum and the plans that d has in v, read at the procedure's entry or now
pub record Reads (u v : Environment) (old : Bool) (d e : TypedExpression) : Type 0 where
  pub sum_is : (n : ℕ) → IsSame (linear u false e n) (linear v old d n)
  pub plan_is : (want : Bool) → paths u false e want ≡ paths v old d want
