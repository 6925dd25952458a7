-- What is read at a leaf: of the sums of claims, and of the rows' roles.
use Rattle.std.specs.Prelude.{◌≡◌, ℕ, ◌<◌, ℤ, pos, neg_ℤ, Bool, true, false, ◌&&◌, List, [], length, nat_eq, Option, None, Some, unwrap_or, slice_get, slice_set, if◌then◌else◌}
use Rattle.math_facts.specs.Terms.{coefficient}
use Rattle.lin_rows.specs.Rows.{AscendsFrom}
use Rattle.farkas_check.specs.Nodes.{PlainNode, leaf, cut, cases}
use Rattle.farkas_check.specs.Trees.{leaf_tree}
use Rattle.triple_rows.specs.declared.predicates.PredNode.{PredNode}
use Rattle.triple_rows.specs.declared.predicates.PredNode.TheVariants.{Truth, Atom, And, Or}
use Rattle.nested_itp.specs.NestedPredicates.Sums.{Branch}
use Rattle.nested_itp.specs.NestedRefutations.Refutations.{Role, View, stands}
use Rattle.nested_itp.specs.declared.triple_steps.sections.Tie.{Tie}
use Rattle.nested_itp.specs.declared.triple_steps.sections.Tie.TheVariants as ties
use Rattle.nested_itp.specs.TripleWalks.Spots.{node_in}
use Rattle.nested_itp.specs.TripleWalks.Telling.{AllTell}
use Rattle.nested_itp.specs.declared.triple_walks.trees.Tree as code
use Rattle.nested_itp.specs.declared.triple_walks.claims.Claim as claims
use Rattle.nested_itp.specs.declared.triple_walks.goals.Role as row
use Rattle.nested_itp.specs.declared.triple_walks.goals.Role.TheVariants as rows

-- the parts of a leaf ascend by row
abbrev pub Ascends : PlainNode → Type 0
Ascends (leaf parts) = AscendsFrom 0 parts
Ascends (cut c k) = Unit {0}
Ascends (cases n) = Unit {0}

-- ---- sums

-- the number of a pair, if it has this key
abbrev pub number_of_pair : ℕ → Option (ℕ × ℤ) → ℤ
number_of_pair key None = pos 0
number_of_pair key (Some t) = if nat_eq t.0 key then t.1 else pos 0

-- the terms of a node, if it is an inequality
abbrev pub terms_here : PredNode → List (ℕ × ℤ)
terms_here (Truth v) = []
terms_here (Atom r) = r.terms
terms_here (And k) = []
terms_here (Or k) = []

abbrev pub terms_in : Option PredNode → List (ℕ × ℤ)
terms_in None = []
terms_in (Some n) = terms_here n

-- the terms of a claim's sum at a leaf
abbrev pub claim_terms : code.Tree → ℕ → Option claims.Claim → List (ℕ × ℤ)
claim_terms x node None = []
claim_terms x node (Some c) = terms_in (node_in x node c.position)

-- the multiplier of a row that ties two frames, by the terms of the first claim's sum and those of the last one's
abbrev pub tie_number : List (ℕ × ℤ) → List (ℕ × ℤ) → Tie → ℤ
tie_number first last (ties.Target c) = coefficient c last
tie_number first last (ties.Opposite c) = neg_ℤ (coefficient c last)
tie_number first last (ties.Source c) = neg_ℤ (coefficient c first)

-- each claim is that of the view, at a leaf
abbrev pub TellAt : View → code.Tree → List claims.Claim → ℕ → Branch → List (ℕ × ℤ) → Type 0
TellAt v x ys n b parts = AllTell v.columns x (record { node = n; branch = b; tree = leaf_tree parts }) v.claims ys

-- ---- atoms

-- for each of so many claims whether its atom at a leaf stands among these roles
pub record IsSeen (count node : ℕ) (rs : List Role) (seen : List Bool) : Type 0 where
  pub as_many : length seen ≡ count
  pub each : (i : ℕ) → i < count → slice_get seen i ≡ Some (stands rs i node)

-- a row is an atom at the leaf that was seen
abbrev pub is_met : ℕ → List Bool → row.Role → Bool
is_met node seen rows.Spare = false
is_met node seen (rows.Atom i n) = nat_eq n node && unwrap_or (slice_get seen i) false
is_met node seen (rows.Word r) = false
is_met node seen (rows.Tied tie) = false

-- with the row seen, if it is an atom at the leaf
abbrev pub with_met : ℕ → List Bool → row.Role → List Bool
with_met node seen rows.Spare = seen
with_met node seen (rows.Atom i n) = if nat_eq n node then slice_set seen i true else seen
with_met node seen (rows.Word r) = seen
with_met node seen (rows.Tied tie) = seen
