-- When a sum with helpers has a value, and when what stands for the columns has the values of a state.
use Rattle.std.specs.Prelude.{◌≡◌, ℕ, suc, ◌+◌, ◌≤◌, ℤ, Bool, true, false, List, [], ◌∷◌, Some}
use Rattle.math_facts.specs.Terms.{IsBelow}
use Rattle.lin_rows.specs.Rows.{RowsBelow}
use Rattle.boogie_tree.specs.declared.tree.Ty.{Ty}
use Rattle.boogie_tree.specs.declared.tree.Ty.TheVariants as types
use Rattle.boogie_tree.specs.declared.tree.Column.{Column}
use Rattle.typed_tree.specs.TypedTree.{TypedExpression}
use Rattle.typed_tree.specs.Values.{State, column_value, truth}
use Rattle.typed_tree.specs.AffineForm.{is_linear}
use Rattle.typed_tree.specs.Laws.{IsTruth, FixedStay}
use Rattle.cond_jumps.specs.Conjunctions.{Plan, listed_plan}
use Rattle.cond_jumps.specs.Forms.{Linear, Linears, amount}
use Rattle.cond_jumps.specs.Meaning.{Agrees, AllHold, Sole, IsPath}
use Rattle.cond_jumps.specs.Environments.{Environment, type_in}

-- At points that are q below n: helpers exist with which the sum is worth v, it is worth v with whatever helpers meet the
-- rows, and these are unique.
pub record IsWorth (n : ℕ) (q : ℕ → ℤ) (x : Linear) (v : ℤ) : Type 0 where
  pub some : (r : ℕ → ℤ) × Agrees n q r × AllHold r x.rows × (amount r x ≡ v)
  pub each : (r : ℕ → ℤ) → Agrees n q r → AllHold r x.rows → amount r x ≡ v
  pub sole : Sole n (n + x.helpers) q x.rows

-- the sum and its rows name columns below n and its helpers alone
pub record IsNarrow (n : ℕ) (x : Linear) : Type 0 where
  pub terms : IsBelow (n + x.helpers) x.terms
  pub rows : RowsBelow (n + x.helpers) x.rows

-- wherever the helpers begin, from column w on, and at whatever point that is p below w, the sum has the value v
pub record IsSum (w : ℕ) (p : ℕ → ℤ) (a : Linears) (v : ℤ) : Type 0 where
  pub narrow : (n : ℕ) → w ≤ n → IsNarrow n (a n)
  pub worth : (n : ℕ) (q : ℕ → ℤ) → w ≤ n → Agrees w p q → IsWorth n q (a n) v

-- v is a truth value, and the plans say when it is the wanted one
pub record IsChoice (w : ℕ) (p : ℕ → ℤ) (a : Bool → Plan) (v : ℤ) : Type 0 where
  pub truth_value : IsTruth v
  pub path : (want : Bool) → IsPath w p (listed_plan (a want)) (v ≡ truth want)

-- what stands for the columns has their values in the state, in which the constants have the values that they had at the procedure's entry
pub record Shows (w : ℕ) (p : ℕ → ℤ) (v : Environment) (s : State) : Type 0 where
  pub constants : FixedStay v.fixed s
  pub sums : (c : Column) → v.type c ≡ Some types.Int → IsSum w p (v.sum c) (column_value s c)
  pub choices : (c : Column) → v.type c ≡ Some types.Bool → IsChoice w p (v.plan c) (column_value s c)

-- an expression that has a type, and whose operators keep their rules
pub record IsSound (v : Environment) (e : TypedExpression) : Type 0 where
  pub type : Ty
  pub typed : type_in v false e ≡ Some type
  pub linear : is_linear v.fixed false e ≡ true

-- the columns from j on have these values
abbrev pub Read : (ℕ → ℤ) → ℕ → List ℤ → Type 0
Read p j [] = Unit {0}
Read p j (z ∷ zs) = (p j ≡ z) × Read p (suc j) zs
