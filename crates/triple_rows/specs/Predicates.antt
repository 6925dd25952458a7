-- Predicates: trees of rows, what they say of a state, and the prefix lists that spell them.
use Rattle.std.specs.Prelude.{◌≡◌, ◌≢◌, ◌⊎◌, ℕ, suc, ◌≤◌, ℤ, Bool, true, false, List, [], ◌∷◌, ◌++◌, take, drop, max}
use Rattle.math_facts.specs.Terms.{IsBelow}
use Rattle.lin_rows.specs.declared.types.RowKind.TheVariants.{Le}
use Rattle.lin_rows.specs.Rows.{LinearRow, Holds}
use Rattle.triple_rows.specs.declared.predicates.PredNode.{PredNode}
use Rattle.triple_rows.specs.declared.predicates.PredNode.TheVariants.{Truth, Atom, And, Or}

-- true or false, a row, or parts of which all hold or of which one holds
mutual
  pub data Formula : Type 0 where
    truth : Bool → Formula
    atom : LinearRow → Formula
    and_of : Formulas → Formula
    or_of : Formulas → Formula

  pub data Formulas : Type 0 where
    no_formula : Formulas
    one_more : Formula → Formulas → Formulas

-- the predicate holds at a point, which gives each column a whole number
abbrev mutual
  pub FormulaHolds : (ℕ → ℤ) → Formula → Type 0
  FormulaHolds point (truth true) = Unit {0}
  FormulaHolds point (truth false) = ⊥
  FormulaHolds point (atom r) = Holds point r
  FormulaHolds point (and_of fs) = AllHold point fs
  FormulaHolds point (or_of fs) = SomeHolds point fs

  pub AllHold : (ℕ → ℤ) → Formulas → Type 0
  AllHold point no_formula = Unit {0}
  AllHold point (one_more f fs) = FormulaHolds point f × AllHold point fs

  pub SomeHolds : (ℕ → ℤ) → Formulas → Type 0
  SomeHolds point no_formula = ⊥
  SomeHolds point (one_more f fs) = FormulaHolds point f ⊎ SomeHolds point fs

-- its atoms name columns below n alone
abbrev mutual
  pub IsOver : ℕ → Formula → Type 0
  IsOver n (truth b) = Unit {0}
  IsOver n (atom r) = IsBelow n r.terms
  IsOver n (and_of fs) = AreOver n fs
  IsOver n (or_of fs) = AreOver n fs

  pub AreOver : ℕ → Formulas → Type 0
  AreOver n no_formula = Unit {0}
  AreOver n (one_more f fs) = IsOver n f × AreOver n fs

-- how many parts there are
abbrev pub formula_count : Formulas → ℕ
formula_count no_formula = 0
formula_count (one_more f fs) = suc (formula_count fs)

-- each node before the trees of its parts, in order
abbrev mutual
  pub prefix_of : Formula → List PredNode
  prefix_of (truth b) = Truth b ∷ []
  prefix_of (atom r) = Atom r ∷ []
  prefix_of (and_of fs) = And (formula_count fs) ∷ prefixes_of fs
  prefix_of (or_of fs) = Or (formula_count fs) ∷ prefixes_of fs

  pub prefixes_of : Formulas → List PredNode
  prefixes_of no_formula = []
  prefixes_of (one_more f fs) = prefix_of f ++ prefixes_of fs

-- a list of trees as parts
abbrev pub bundled : List Formula → Formulas
bundled [] = no_formula
bundled (f ∷ fs) = one_more f (bundled fs)

-- the trees that a list spells, read from its end: a node takes as many of those behind it as it has parts
abbrev pub formulas : List PredNode → List Formula
formulas [] = []
formulas (Truth b ∷ ns) = truth b ∷ formulas ns
formulas (Atom r ∷ ns) = atom r ∷ formulas ns
formulas (And k ∷ ns) = and_of (bundled (take k (formulas ns))) ∷ drop k (formulas ns)
formulas (Or k ∷ ns) = or_of (bundled (take k (formulas ns))) ∷ drop k (formulas ns)

abbrev pub first_formula : List Formula → Formula
first_formula [] = truth true
first_formula (f ∷ fs) = f

-- the tree that a list spells
abbrev pub formula_of : List PredNode → Formula
formula_of ns = first_formula (formulas ns)

-- an inequality with a term
pub record IsAtom (r : LinearRow) : Type 0 where
  pub inequality : r.kind ≡ Le
  pub has_term : r.terms ≢ []

-- no truth value stands in it, its atoms are inequalities with a term, and each `and` and `or` has two parts or more
abbrev mutual
  pub IsTree : Formula → Type 0
  IsTree (truth b) = ⊥
  IsTree (atom r) = IsAtom r
  IsTree (and_of fs) = (2 ≤ formula_count fs) × AreTrees fs
  IsTree (or_of fs) = (2 ≤ formula_count fs) × AreTrees fs

  pub AreTrees : Formulas → Type 0
  AreTrees no_formula = Unit {0}
  AreTrees (one_more f fs) = IsTree f × AreTrees fs

-- the atoms are inequalities
abbrev mutual
  pub HasInequalities : Formula → Type 0
  HasInequalities (truth b) = Unit {0}
  HasInequalities (atom r) = r.kind ≡ Le
  HasInequalities (and_of fs) = HaveInequalities fs
  HasInequalities (or_of fs) = HaveInequalities fs

  pub HaveInequalities : Formulas → Type 0
  HaveInequalities no_formula = Unit {0}
  HaveInequalities (one_more f fs) = HasInequalities f × HaveInequalities fs

-- how deep `and` and `or` are nested
abbrev mutual
  pub nesting : Formula → ℕ
  nesting (truth b) = 0
  nesting (atom r) = 0
  nesting (and_of fs) = suc (deepest fs)
  nesting (or_of fs) = suc (deepest fs)

  pub deepest : Formulas → ℕ
  deepest no_formula = 0
  deepest (one_more f fs) = max (nesting f) (deepest fs)

-- a single truth value
abbrev pub IsTruth : Formula → Type 0
IsTruth (truth b) = Unit {0}
IsTruth (atom r) = ⊥
IsTruth (and_of fs) = ⊥
IsTruth (or_of fs) = ⊥

-- a predicate: a single truth value, or a tree that is nested at most 200 deep
abbrev pub IsPredicate : Formula → Type 0
IsPredicate f = IsTruth f ⊎ (IsTree f × (nesting f ≤ 200))

-- the list is the prefix list of a predicate
abbrev pub SpellsPredicate : List PredNode → Type 0
SpellsPredicate nodes = (f : Formula) × (prefix_of f ≡ nodes) × IsPredicate f
