-- Halves of systems, and what is found out about the system of two of them at once.
use Rattle.std.specs.Prelude.{◌≡◌, ◌++◌, ℕ, ℤ, ◌<◌, ◌^◌, List, [], length, map, true, Option, None, Some, IfSome}
use Rattle.lin_rows.specs.declared.systems.System.{System, out-System}
use Rattle.lin_rows.specs.Rows.{LinearRow}
use Rattle.lin_rows.specs.Combinations.{row_at, Contradicts}
use Rattle.lin_rows.specs.Systems.{rows_of, groups_of, Meets}
use Rattle.lin_rows.specs.Tightening.{never, tightened}
use Rattle.letter_acts.specs.Acts.{Alphabet}
use Rattle.farkas_check.specs.Nodes.{PlainNode}
use Rattle.farkas_check.specs.Refutes.{Refutes}
use Rattle.int_decide.specs.Sizes.{SystemBelow}
use Rattle.int_decide.specs.Answers.{RefutesWithin}
use Rattle.int_decide.specs.WithoutCuts.{IsNotRefuted}
use Rattle.int_decide.specs.Worth.{IsTreeOf}
use Rattle.triple_rows.specs.declared.triples.Triple.{Triple}
use Rattle.triple_rows.specs.Cuts.{columns_of}
use Rattle.triple_rows.specs.Halves.{said_before, said_after}
use Rattle.triple_rows.specs.Triples.{IsRefuted}
use Rattle.triple_rows.specs.Systems.{PlainSystem, PlainFits, IsSystem}
use Rattle.hoare_check.specs.declared.halves.Half.{Half}
use Rattle.hoare_check.specs.declared.leaves.Leaf.{Leaf}
use Rattle.hoare_check.specs.Decided.{IsRefutedByDecide, RefutesUncut, IsProofFor}

-- the row at this place is `0 <= -1`
abbrev pub IsFalseRow : List LinearRow → ℕ → Type 0
IsFalseRow rows k = (k < length rows) × (row_at rows k ≡ never)

-- the system's columns are below n, and it has fewer than 2^32 rows and groups
pub record IsSmall (n : ℕ) (s : System) : Type 0 where
  pub below : SystemBelow n s
  pub rows : length (rows_of s) < 2 ^ 32
  pub groups : length (out-System s).groups.items < 2 ^ 32

-- the rows of the system and those behind them contradict one another as the leaf says
abbrev pub IsLeafOf : System → Leaf → Type 0
IsLeafOf s l = Contradicts (map tightened (rows_of s ++ l.others.items)) l.parts.items

-- Half of a system over n columns: it has the rows and groups of this plain system, whose numbers fit, and its columns are below n. What is
-- known of it alone is true.
pub record IsHalf (n : ℕ) (p : PlainSystem) (half : Half) : Type 0 where
  pub fits : PlainFits p
  pub is_system : IsSystem p half.system
  pub small : IsSmall n half.system
  pub columns : half.columns ≡ n
  pub false_row : IfSome half.false_row (IsFalseRow (rows_of half.system))
  pub leaf : IfSome half.leaf (IsLeafOf half.system)
  pub is_open : half.is_open ≡ true → IsNotRefuted n half.system

-- half of a system, or none where a number of the plain system does not fit
abbrev pub MayBeHalf : ℕ → PlainSystem → Option Half → Type 0
MayBeHalf n p None = PlainFits p → ⊥
MayBeHalf n p (Some half) = IsHalf n p half

-- the system has neither rows nor groups
abbrev pub IsBare : System → Type 0
IsBare s = (rows_of s ≡ []) × (groups_of s ≡ [])

-- the row at a place of a list is that at another, where others stand behind the first ones, of which there are so many
abbrev pub IsCarried : ℕ → List LinearRow → List LinearRow → ℕ → ℕ → Type 0
IsCarried count from to place k = (front : List LinearRow) → length front ≡ count →
    (k < length (front ++ to)) × (row_at (front ++ from) place ≡ row_at (front ++ to) k)

-- the system has the rows and groups of the first, and then those of the second
pub record IsJoint (a b s : System) : Type 0 where
  pub rows : rows_of s ≡ rows_of a ++ rows_of b
  pub groups : groups_of s ≡ groups_of a ++ groups_of b

-- Decide without cuts refutes the plain system over n columns, and all numbers of it and of Decide fit
pub record IsDecidedUncut (n : ℕ) (p : PlainSystem) : Type 0 where
  pub fits : PlainFits p
  pub refuted : (s : System) → IsSystem p s → IsRefutedByDecide n s

-- all numbers of the plain system fit, and the nodes, which are a tree without cuts, refute it
pub record IsUncutRefutation (p : PlainSystem) (nodes : List PlainNode) : Type 0 where
  pub fits : PlainFits p
  pub system : System
  pub is_system : IsSystem p system
  pub refutes : Refutes nodes system
  pub tree : IsTreeOf 0 nodes

-- what may be found of a system over n columns: a refutation without cuts, or none where Decide without cuts does not refute it
abbrev pub MayDecide : ℕ → System → Option (List PlainNode) → Type 0
MayDecide n s None = IsNotRefuted n s
MayDecide n s (Some nodes) = RefutesWithin 0 s nodes

-- what may be found of a plain system over n columns: a refutation without cuts, or none where Decide without cuts does not refute it
abbrev pub MayRefute : ℕ → PlainSystem → Option (List PlainNode) → Type 0
MayRefute n p None = IsDecidedUncut n p → ⊥
MayRefute n p (Some nodes) = IsUncutRefutation p nodes

-- what the sources of the triple say
abbrev pub IsSourceHalf : Alphabet → Triple → Option Half → Type 0
IsSourceHalf al triple half = MayBeHalf (columns_of al triple) (said_before al triple) half

-- what its letter, its denied target and the bounds say
abbrev pub IsTargetHalf : Alphabet → Triple → Option Half → Type 0
IsTargetHalf al triple half = MayBeHalf (columns_of al triple) (said_after al triple) half

-- What may be found of a triple: a refutation that is a proof of it, or none where Decide without cuts does not refute its system within the
-- numbers that fit.
abbrev pub MayFind : Alphabet → Triple → Option (List PlainNode) → Type 0
MayFind al triple None = RefutesUncut al triple → ⊥
MayFind al triple (Some nodes) = IsRefuted al triple nodes × IsProofFor al (record { triple = triple; refutation = nodes })

-- a whole point meets both
abbrev pub IsMetInBoth : System → System → Type 0
IsMetInBoth a b = (point : ℕ → ℤ) × Meets point a × Meets point b
