-- What the sums of a leaf are read against: the caller's sum at the call, for each frame that is open.
use Rattle.std.specs.Prelude.{◌≡◌, ℕ, zero, suc, ◌<◌, ℤ, pos, Bool, true, false, List, [], ◌∷◌, map, length, Option, None, Some}
use Rattle.std.specs.List.{AllByRecursion}
use Rattle.nwa_base.specs.declared.letters.Kind.{Kind}
use Rattle.nwa_base.specs.declared.letters.Kind.TheVariants.{Inside, Call, Back}
use Rattle.triple_rows.specs.declared.predicates.PredNode.{PredNode}
use Rattle.triple_rows.specs.declared.predicates.PredNode.TheVariants.{Truth, Atom, And, Or}
use Rattle.triple_rows.specs.Predicates.{Formula, truth, atom, and_of, or_of}
use Rattle.nested_itp.specs.declared.nested_predicates.wide.Wide.{Wide}
use Rattle.nested_itp.specs.declared.nested_predicates.running.Running.{Running}
use Rattle.nested_itp.specs.declared.nested_predicates.bases.Base.{Base}
use Rattle.nested_itp.specs.NestedPredicates.Wides.{value_of, HasRoom}
use Rattle.nested_itp.specs.NestedPredicates.Positions.{CallScope}
use Rattle.nested_itp.specs.NestedPredicates.Sums.{Branch, column_upto, bound_upto, known_sum}
use Rattle.nested_itp.specs.NestedPredicates.Runnings.{value_at, AreCounted}

-- the number of a version, 0 of none
abbrev pub known_value : List Wide → Option ℕ → ℤ
known_value columns None = pos 0
known_value columns (Some version) = value_at columns version

-- a frame's versions have numbers
abbrev pub AreMade : List Wide → List ℕ → Type 0
AreMade columns versions = AllByRecursion (λ v. v < length columns) versions

-- numbers can be subtracted
pub record CanRead (base : Base) : Type 0 where
  pub columns : AllByRecursion HasRoom base.columns.items
  pub bound : HasRoom base.bound

-- the numbers of these versions, and the bound so far
pub record IsTaken (known : List (Option ℕ)) (running : Running) (base : Base) : Type 0 where
  pub columns : map value_of base.columns.items ≡ map (known_value running.columns.items) known
  pub bound : base.bound ≡ running.bound
  pub room : CanRead base

-- nothing
pub record IsNothing (base : Base) : Type 0 where
  pub columns : base.columns.items ≡ []
  pub bound : value_of base.bound ≡ pos 0
  pub room : CanRead base

-- of a frame whose call returns, or does not
abbrev pub IsEntered : Bool → List (Option ℕ) → Running → Base → Type 0
IsEntered true known running base = IsTaken known running base
IsEntered false known running base = IsNothing base

abbrev pub bases_left : List Base → List Base
bases_left [] = []
bases_left (b ∷ bases) = bases

-- a letter of this kind leads from the bases of the open frames, innermost first, to those after it
abbrev pub Enters : Kind → Bool → List (Option ℕ) → Running → List Base → List Base → Type 0
Enters Inside returns known running old new = new ≡ old
Enters Call returns known running old new = (base : Base) × (new ≡ base ∷ old) × IsEntered returns known running base
Enters Back returns known running old new = new ≡ bases_left old

-- of the innermost open frame, which stands first
abbrev pub first_columns : List Base → List Wide
first_columns [] = []
first_columns (b ∷ bases) = b.columns.items

abbrev pub first_bound : List Base → ℤ
first_bound [] = pos 0
first_bound (b ∷ bases) = value_of b.bound

-- the node of a formula that is a truth value or an atom
abbrev pub node_of : Formula → PredNode
node_of (truth b) = Truth b
node_of (atom r) = Atom r
node_of (and_of fs) = And 0
node_of (or_of fs) = Or 0

-- the sum of a leaf up to a stamp
pub record IsSummed (b : Branch) (parts : List (ℕ × ℤ)) (stamp : ℕ) (running : Running) : Type 0 where
  pub columns : (v : ℕ) → v < length running.columns.items → value_at running.columns.items v ≡ column_upto b parts stamp v
  pub bound : value_of running.bound ≡ bound_upto b parts stamp
  pub counted : AreCounted running

-- the number at place j, 0 past the end
abbrev pub known_sum_at : Branch → List (ℕ × ℤ) → ℕ → List (Option ℕ) → ℕ → ℤ
known_sum_at b parts own [] j = pos 0
known_sum_at b parts own (k ∷ ks) zero = known_sum b parts own k
known_sum_at b parts own (k ∷ ks) (suc j) = known_sum_at b parts own ks j

-- what the caller's sum at the call has at each column of a frame, and its bound
pub record IsBase (b : Branch) (parts : List (ℕ × ℤ)) (s : CallScope) (base : Base) : Type 0 where
  pub columns : (j : ℕ) → value_at base.columns.items j ≡ known_sum_at b parts s.own s.known j
  pub bound : value_of base.bound ≡ bound_upto b parts s.own
  pub room : CanRead base

abbrev pub AreBases : Branch → List (ℕ × ℤ) → List CallScope → List Base → Type 0
AreBases b parts [] [] = Unit {0}
AreBases b parts [] (x ∷ bases) = ⊥
AreBases b parts (s ∷ scopes) [] = ⊥
AreBases b parts (s ∷ scopes) (x ∷ bases) = IsBase b parts s x × AreBases b parts scopes bases
