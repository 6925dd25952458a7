-- What a triple's system says of its predicates, as it is kept: by node what is left of a predicate.
use Rattle.std.specs.Prelude.{◌≡◌, ℕ, Bool, true, false, not, List, [], ◌∷◌, drop, Option, None, Some, unwrap_or, slice_get, if◌then◌else◌}
use Rattle.farkas_check.specs.Trees.{Tree}
use Rattle.triple_rows.specs.declared.predicates.PredNode.{PredNode}
use Rattle.triple_rows.specs.declared.predicates.PredNode.TheVariants.{Truth, Atom, And, Or}
use Rattle.nested_itp.specs.NestedPredicates.Positions.{Position}
use Rattle.nested_itp.specs.NestedPredicates.Sums.{Branch}
use Rattle.nested_itp.specs.NestedPredicates.Simplifying.{is_same}
use Rattle.nested_itp.specs.NestedRefutations.Refutations.{Claim, truth_in, formula_at, Asked, one_part, both_parts, some_part, each_asked, some_asked}
use Rattle.nested_itp.specs.TripleWalks.Spots.{listed, node_in, is_counted_in}
use Rattle.nested_itp.specs.declared.triple_walks.trees.Tree as code_trees
use Rattle.nested_itp.specs.declared.triple_walks.claims.Claim as code
use Rattle.nested_itp.specs.declared.triple_walks.claims.Asked as code_asked
use Rattle.nested_itp.specs.declared.triple_walks.claims.Asked.TheVariants.{OnePart, BothParts, SomePart}

-- ---- what is left

-- what is left of a claim's predicate at each node, if it is a truth value
abbrev pub lefts_of : List ℕ → Claim → Branch → Tree → List (Option Bool)
lefts_of columns c b t = listed (λ s. truth_in (formula_at columns c s.branch s.tree)) columns 0 b t

-- of two parts at a cut, which a part that has this truth value decides
abbrev pub decided : Bool → Option Bool → Option Bool → Option Bool
decided counted (Some v) second = if is_same v counted then Some counted else second
decided counted None (Some v) = if is_same v counted then Some counted else None
decided counted None None = None

-- the first truth value of a list, if one stands there
abbrev pub first_left : List (Option Bool) → Option Bool
first_left lefts = unwrap_or (slice_get lefts 0) None

-- what is left of a node, and what stands behind it and its parts, where this is left of the trees behind it
abbrev pub left_here : PredNode → List (Option Bool) → Option Bool
left_here (Truth v) behind = Some v
left_here (Atom r) behind = None
left_here (And k) behind = decided false (first_left behind) (first_left (drop 1 behind))
left_here (Or k) behind = decided true (first_left behind) (first_left (drop 1 behind))

abbrev pub behind_here : PredNode → List (Option Bool) → List (Option Bool)
behind_here (Truth v) behind = behind
behind_here (Atom r) behind = behind
behind_here (And k) behind = drop 2 behind
behind_here (Or k) behind = drop 2 behind

abbrev pub left_in : Option PredNode → List (Option Bool) → Option Bool
left_in None behind = None
left_in (Some n) behind = left_here n behind

abbrev pub behind_in : Option PredNode → List (Option Bool) → List (Option Bool)
behind_in None behind = behind
behind_in (Some n) behind = behind_here n behind

-- ---- claims

-- it is this claim, at one of these positions, on the tree that stands at number 0
pub record IsClaim (columns : List ℕ) (qs : List Position) (b : Branch) (t : Tree) (c : Claim) (x : code.Claim) : Type 0 where
  pub position : slice_get qs x.position ≡ Some c.position
  pub is_denied : x.denied ≡ c.is_denied
  pub lefts : x.left.items ≡ lefts_of columns c b t

-- each claim is this one
abbrev pub AreClaims : List ℕ → List Position → Branch → Tree → List Claim → List code.Claim → Type 0
AreClaims columns qs b t [] [] = Unit {0}
AreClaims columns qs b t [] (y ∷ ys) = ⊥
AreClaims columns qs b t (c ∷ cs) [] = ⊥
AreClaims columns qs b t (c ∷ cs) (y ∷ ys) = IsClaim columns qs b t c y × AreClaims columns qs b t cs ys

-- what is left at a node
abbrev pub left_of : code.Claim → ℕ → Option Bool
left_of x node = unwrap_or (slice_get x.left.items node) None

-- the truth value that the claim says is not left
abbrev pub is_refuted : Bool → Option Bool → Bool
is_refuted denied None = false
is_refuted denied (Some v) = is_same v denied

abbrev pub asked_of : code_asked.Asked → Asked
asked_of (OnePart side) = one_part side
asked_of BothParts = both_parts
asked_of SomePart = some_part

-- what a claim asks at a cut that is counted or not, where this is left of the parts
abbrev pub asked_where : Bool → Bool → Option Bool → Option Bool → Asked
asked_where counted denied first second = if is_same counted denied then each_asked first second else some_asked (not denied) first second

-- what a claim asks at a cut of the tree, whose parts begin there
abbrev pub asked_in : code_trees.Tree → code.Claim → ℕ → ℕ × ℕ → Asked
asked_in x y node sides = asked_where (is_counted_in (node_in x node y.position)) y.denied (left_of y sides.0) (left_of y sides.1)
