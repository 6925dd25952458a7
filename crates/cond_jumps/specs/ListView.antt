-- Lists of plans that the code makes, as contracts see them.
use Rattle.std.specs.Prelude.{◌≡◌, ℕ, ℤ, Bool, true, false, not, Result, MatchResult, Vec}
use Rattle.std.specs.Global.{Global}
use Rattle.lin_rows.specs.declared.types.RowKind.{RowKind}
use Rattle.lin_rows.specs.Rows.{LinearRow}
use Rattle.boogie_tree.specs.declared.tree.Op.{Op}
use Rattle.boogie_tree.specs.declared.tree.Op.TheVariants as ops
use Rattle.cond_jumps.specs.declared.conj.Conj.{Conj}
use Rattle.cond_jumps.specs.declared.refusal.Refusal.{Refusal}
use Rattle.cond_jumps.specs.declared.refusal.Refusal.TheVariants.{TooBig}
use Rattle.cond_jumps.specs.declared.shapes.Shape.{Shape}
use Rattle.cond_jumps.specs.declared.shapes.Shape.TheVariants as shapes
use Rattle.cond_jumps.specs.Conjunctions.{Plan, Just, Then, With, listed_plan, all_fit}
use Rattle.cond_jumps.specs.Comparisons.{no_jumps, alike, operation_plan}
use Rattle.cond_jumps.specs.Conjs.{conjunctions}
use Rattle.cond_jumps.specs.Forms.{Linear, Linears}
use Rattle.cond_jumps.specs.CompareView.{compared_row}

-- the list of a plan, all of whose numbers fit
pub record IsPlanList (p : Plan) (n : ℕ) (v : Vec Conj Global) : Type 0 where
  pub seen : conjunctions v.items ≡ listed_plan p n
  pub fit : all_fit p n ≡ true

-- that list, or the refusal that a number does not fit
abbrev pub IsPlanAnswer : Plan → ℕ → Result (Vec Conj Global) Refusal → Type 0
IsPlanAnswer p n r = MatchResult r (IsPlanList p n) (λ f. f ≡ TooBig → all_fit p n ≡ false)

-- the row of a comparison, or with its sides exchanged
abbrev pub row_by : RowKind → ℤ → Bool → Linear → Linear → LinearRow
row_by kind k false x y = compared_row kind k x y
row_by kind k true x y = compared_row kind k y x

-- no list, whatever is wanted
abbrev pub nothing : Bool → Plan
nothing want = Just no_jumps

-- an operation of two sums
abbrev pub sums_plan : Op → Linears → Linears → Bool → Plan
sums_plan op x y want = operation_plan op false nothing nothing x y want

-- how the list of an operation is put together from those of its operands
abbrev pub shape_of : Op → Bool → Bool → Shape
shape_of ops.Iff kind want = shapes.Alike want
shape_of ops.Implies kind true = shapes.Over false true
shape_of ops.Implies kind false = shapes.Both true false
shape_of ops.And kind true = shapes.Both true true
shape_of ops.And kind false = shapes.Over false false
shape_of ops.Or kind true = shapes.Over true true
shape_of ops.Or kind false = shapes.Both false false
shape_of ops.Eq true want = shapes.Alike want
shape_of ops.Ne true want = shapes.Alike (not want)
shape_of op kind want = shapes.Sums

abbrev pub plan_of : Shape → (Bool → Plan) → (Bool → Plan) → Plan → Plan
plan_of (shapes.Both x y) a b s = With (a x) (b y)
plan_of (shapes.Over x y) a b s = Then (a x) (With (a (not x)) (b y))
plan_of (shapes.Alike want) a b s = alike a b want
plan_of shapes.Sums a b s = s

-- how the list is put together where the operation has the other value
abbrev pub other_plan_of : Shape → (Bool → Plan) → (Bool → Plan) → Plan → Plan
other_plan_of (shapes.Both x y) a b s = Then (a (not x)) (With (a x) (b (not y)))
other_plan_of (shapes.Over x y) a b s = With (a (not x)) (b (not y))
other_plan_of (shapes.Alike want) a b s = Then (With (a true) (b (not want))) (With (a false) (b want))
other_plan_of shapes.Sums a b s = s

-- the plan of a list that is asked for, or of none
abbrev pub asked : Bool → Plan → Plan
asked true p = p
asked false p = Just no_jumps
