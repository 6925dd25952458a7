-- The refutation of a triple's system under a refutation of the word's rows: how it goes along the word's tree, and what each of
-- its leaves adds. A leaf is named by the sides that are taken on the way to it, at its own cuts and at the groups that it opens.
use Rattle.std.specs.Prelude.{ℕ, suc, ◌+◌, ℤ, pos, neg_ℤ, Bool, true, false, not, ◌&&◌, ◌||◌, List, [], ◌∷◌, ◌++◌, map, length, nat_eq, Option, None, Some, unwrap_or, slice_get, if◌then◌else◌}
use Rattle.math_facts.specs.Terms.{coefficient}
use Rattle.lin_rows.specs.Rows.{LinearRow}
use Rattle.lin_rows.specs.Tightening.{content, tightened}
use Rattle.farkas_check.specs.Refutes.{at_most, above}
use Rattle.farkas_check.specs.Trees.{Tree, leaf_tree, cut_tree, cases_tree, prefix_of}
use Rattle.triple_rows.specs.Predicates.{Formula, truth, atom, and_of, or_of}
use Rattle.triple_rows.specs.Systems.{PlainSystem, plain_system, said, denied}
use Rattle.nested_itp.specs.NestedPredicates.Stamps.{column_stamp}
use Rattle.nested_itp.specs.NestedPredicates.Positions.{Position, is_counted}
use Rattle.nested_itp.specs.NestedPredicates.Sums.{Branch, with_cut, terms_from, coefficients_at}
use Rattle.nested_itp.specs.NestedPredicates.Joins.{joined_at, simplified}
use Rattle.nested_itp.specs.NestedPredicates.Simplifying.{is_same}

-- ---- what a triple's system says of its predicates

-- of one of them: that it holds at a position, or that it does not, over the columns of the frame as the system numbers them
pub record Claim : Type 0 where
  pub position : Position
  pub is_denied : Bool
  pub column : ℕ → ℕ

-- a node of the word's tree: its number in the prefix list, the rows of its branch, and the tree below it
pub record TreeSpot : Type 0 where
  pub node : ℕ
  pub branch : Branch
  pub tree : Tree

-- the side of a cut, or of a group, with this number: false is the first
abbrev pub side_of : {X : Type 0} → Bool → X → X → X
side_of false x y = x
side_of true x y = y

-- the sides of a cut, where the word's columns have these stamps
abbrev pub low_side : List ℕ → ℕ → Branch → ℕ → ℤ → Tree → TreeSpot
low_side columns n b c k t = record { node = suc n; branch = with_cut b (column_stamp columns c) (at_most c k); tree = t }

abbrev pub high_side : List ℕ → ℕ → Branch → ℕ → ℤ → Tree → Tree → TreeSpot
high_side columns n b c k t u = record { node = suc n + length (prefix_of t); branch = with_cut b (column_stamp columns c) (above c k); tree = u }

-- the truth value, if the formula is one
abbrev pub truth_in : Formula → Option Bool
truth_in (truth v) = Some v
truth_in (atom r) = None
truth_in (and_of fs) = None
truth_in (or_of fs) = None

-- what is left of a claim's predicate at a node
abbrev pub formula_at : List ℕ → Claim → Branch → Tree → Formula
formula_at columns c b t = simplified (joined_at columns c.position b t)

-- what a claim asks at a cut: one part alone, both parts, or one of them
pub data Asked : Type 0 where
  one_part : Bool → Asked
  both_parts : Asked
  some_part : Asked

-- where both parts are asked, and a truth value is simplified away
abbrev pub each_asked : Option Bool → Option Bool → Asked
each_asked (Some v) b = one_part true
each_asked None (Some v) = one_part false
each_asked None None = both_parts

-- Where one of them is, which may be this truth value: a part that is so decides it, one that is not is simplified away.
abbrev pub some_asked : Bool → Option Bool → Option Bool → Asked
some_asked wanted (Some v) b = one_part (not (is_same v wanted))
some_asked wanted None (Some v) = one_part (is_same v wanted)
some_asked wanted None None = some_part

-- A predicate is an `or` at a cut that is counted, which asks one part, and what is denied of it then asks both; else an `and`.
abbrev pub asked_at : Claim → ℕ → Option Bool → Option Bool → Asked
asked_at c stamp a b = if is_same (is_counted c.position stamp) c.is_denied then each_asked a b else some_asked (not c.is_denied) a b

-- the rows and groups that a claim gives: the numbers of the leaves whose atoms are the rows, and the cuts that are groups
pub record Exposed : Type 0 where
  pub leaves : List ℕ
  pub groups : List TreeSpot

abbrev pub nothing : Exposed
nothing = record { leaves = []; groups = [] }

abbrev pub atom_exposed : ℕ → Option Bool → Exposed
atom_exposed n None = record { leaves = n ∷ []; groups = [] }
atom_exposed n (Some v) = nothing

abbrev pub parts_exposed : Asked → TreeSpot → Exposed → Exposed → Exposed
parts_exposed (one_part side) s x y = side_of side x y
parts_exposed both_parts s x y = record { leaves = x.leaves ++ y.leaves; groups = x.groups ++ y.groups }
parts_exposed some_part s x y = record { leaves = []; groups = s ∷ [] }

-- nothing where all that is left is a truth value
abbrev pub unless_truth : Option Bool → Exposed → Exposed
unless_truth None x = x
unless_truth (Some v) x = nothing

abbrev pub exposed : List ℕ → Claim → ℕ → Branch → Tree → Exposed
exposed columns c n b (leaf_tree parts) = atom_exposed n (truth_in (formula_at columns c b (leaf_tree parts)))
exposed columns c n b (cut_tree col k t u) =
    let low = low_side columns n b col k t in
    let high = high_side columns n b col k t u in
    unless_truth (truth_in (formula_at columns c b (cut_tree col k t u)))
    (parts_exposed (asked_at c (column_stamp columns col) (truth_in (formula_at columns c low.branch t)) (truth_in (formula_at columns c high.branch u)))
    (record { node = n; branch = b; tree = cut_tree col k t u })
    (exposed columns c low.node low.branch t)
    (exposed columns c high.node high.branch u))
exposed columns c n b (cases_tree ts) = nothing

-- ---- the rows of the system

-- what the multiplier of a row is at a leaf
pub data Role : Type 0 where
  -- no leaf uses the row
  spare : Role
  -- the atom of a claim at the leaf with this number: there the greatest common divisor of its coefficients, else 0
  atom_at : ℕ → ℕ → Role
  -- the multiplier of this row of the branch
  branch_row : ℕ → Role
  -- the coefficient of this column in the last claim's sum
  target_tie : ℕ → Role
  -- the opposite of that in the first claim's
  source_tie : ℕ → Role
  -- the opposite of the coefficient of this column in the last claim's sum
  opposite_tie : ℕ → Role

-- one triple: what its system says of its predicates, the target last; whether only the target is followed; and the system's
-- column of a column of the word
pub record View : Type 0 where
  pub columns : List ℕ
  pub claims : List Claim
  pub returns : Bool
  pub column : ℕ → ℕ

abbrev pub last_of : List Claim → Option Claim
last_of [] = None
last_of (c ∷ []) = Some c
last_of (c ∷ d ∷ cs) = last_of (d ∷ cs)

-- the coefficients of a claim's sum at a leaf
abbrev pub sums_of : Branch → List (ℕ × ℤ) → Option Claim → List ℤ
sums_of b parts None = []
sums_of b parts (Some c) = coefficients_at b parts c.position

abbrev pub coefficient_of : List ℤ → ℕ → ℤ
coefficient_of sums c = unwrap_or (slice_get sums c) (pos 0)

-- at the leaf with this number, branch and parts
abbrev pub multiplier : View → ℕ → Branch → List (ℕ × ℤ) → Role → ℤ
multiplier v n b parts spare = pos 0
multiplier v n b parts (atom_at i m) =
    if nat_eq m n then pos (content (terms_from 0 (sums_of b parts (slice_get v.claims i)))) else pos 0
multiplier v n b parts (branch_row r) = coefficient r parts
multiplier v n b parts (target_tie c) = coefficient_of (sums_of b parts (last_of v.claims)) c
multiplier v n b parts (source_tie c) = neg_ℤ (coefficient_of (sums_of b parts (slice_get v.claims 0)) c)
multiplier v n b parts (opposite_tie c) = neg_ℤ (coefficient_of (sums_of b parts (last_of v.claims)) c)

-- the role is that of the atom of a claim at a leaf
abbrev pub is_atom : Role → ℕ → ℕ → Bool
is_atom spare i n = false
is_atom (atom_at j m) i n = nat_eq j i && nat_eq m n
is_atom (branch_row r) i n = false
is_atom (target_tie c) i n = false
is_atom (source_tie c) i n = false
is_atom (opposite_tie c) i n = false

-- the atom stands among these
abbrev pub stands : List Role → ℕ → ℕ → Bool
stands [] i n = false
stands (r ∷ rs) i n = is_atom r i n || stands rs i n

-- an atom that stands again further on
abbrev pub is_again : Role → List Role → Bool
is_again spare rs = false
is_again (atom_at i n) rs = stands rs i n
is_again (branch_row r) rs = false
is_again (target_tie c) rs = false
is_again (source_tie c) rs = false
is_again (opposite_tie c) rs = false

-- the multipliers of rows with these roles; that of an atom which stands again is left to the last
abbrev pub multipliers : View → ℕ → Branch → List (ℕ × ℤ) → List Role → List ℤ
multipliers v n b parts [] = []
multipliers v n b parts (r ∷ rs) = (if is_again r rs then pos 0 else multiplier v n b parts r) ∷ multipliers v n b parts rs

-- ---- the way to a leaf

-- Where the refutation has come to: the rows of the goal and what each is, the groups that are not opened, each of a claim at a
-- cut, and the members that were taken.
pub record Gathered : Type 0 where
  pub rows : List LinearRow
  pub roles : List Role
  pub groups : List (ℕ × TreeSpot)
  pub taken : List (ℕ × ℕ × Bool)

-- the member that was taken of the group of a claim at a cut
abbrev pub taken_at : ℕ → ℕ → List (ℕ × ℕ × Bool) → Option Bool
taken_at i n [] = None
taken_at i n (t ∷ ts) = if nat_eq t.0 i && nat_eq t.1 n then Some t.2 else taken_at i n ts

-- a cut is one of the refutation's own, or one part is followed, which this claim tells
pub data Meeting : Type 0 where
  own_cut : Meeting
  told_by : ℕ → Claim → Meeting

-- by the first source that counts it; where it is first counted at the target it is an own cut; else by the target
abbrev pub meeting_of : Bool → ℕ → List Claim → ℕ → Meeting
meeting_of returns i [] stamp = own_cut
meeting_of returns i (c ∷ []) stamp = if is_counted c.position stamp then own_cut else told_by i c
meeting_of returns i (c ∷ d ∷ cs) stamp =
    if not returns && is_counted c.position stamp then told_by i c else meeting_of returns (suc i) (d ∷ cs) stamp

-- where the refutation cannot go on alone: at a leaf, at a cut of its own, at a group of which no member was taken
pub data Stop : Type 0 where
  at_leaf : ℕ → Branch → List (ℕ × ℤ) → Stop
  at_cut : ℕ → ℕ → ℤ → TreeSpot → TreeSpot → Stop
  at_group : TreeSpot → Stop
  nowhere : Stop

abbrev pub by_member : Option Bool → TreeSpot → Stop → Stop → Stop
by_member None s low high = at_group s
by_member (Some side) s low high = side_of side low high

abbrev pub followed : Asked → Option Bool → TreeSpot → Stop → Stop → Stop
followed (one_part side) member s low high = side_of side low high
followed both_parts member s low high = low
followed some_part member s low high = by_member member s low high

abbrev pub stop_at : Meeting → (ℕ → Claim → Stop) → Stop → Stop
stop_at own_cut follow cut = cut
stop_at (told_by i c) follow cut = follow i c

abbrev pub stops : View → List (ℕ × ℕ × Bool) → ℕ → Branch → Tree → Stop
stops v taken n b (leaf_tree parts) = at_leaf n b parts
stops v taken n b (cut_tree col k t u) =
    let s = column_stamp v.columns col in
    let low = low_side v.columns n b col k t in
    let high = high_side v.columns n b col k t u in
    let to_low = stops v taken low.node low.branch t in
    let to_high = stops v taken high.node high.branch u in
    stop_at (meeting_of v.returns 0 v.claims s)
    (λ i c. followed (asked_at c s (truth_in (formula_at v.columns c low.branch t)) (truth_in (formula_at v.columns c high.branch u)))
    (taken_at i n taken) (record { node = n; branch = b; tree = cut_tree col k t u }) to_low to_high)
    (at_cut (length b.rows) col k low high)
stops v taken n b (cases_tree ts) = nowhere

abbrev pub stops_at : View → List (ℕ × ℕ × Bool) → TreeSpot → Stop
stops_at v taken s = stops v taken s.node s.branch s.tree

-- ---- own cuts and groups

-- with the row of the side of an own cut, which has this number on the branch
abbrev pub with_own : View → ℕ → ℕ → ℤ → Bool → Gathered → Gathered
with_own v r col k side g = record g {
  rows = g.rows ++ side_of side (at_most (v.column col) k) (above (v.column col) k) ∷ [];
  roles = g.roles ++ branch_row r ∷ [];
}

abbrev pub rows_in : PlainSystem → List LinearRow
rows_in (plain_system rows groups) = rows

abbrev pub said_at : List ℕ → Claim → TreeSpot → PlainSystem
said_at columns c s =
    if c.is_denied then denied c.column (formula_at columns c s.branch s.tree) else said c.column (formula_at columns c s.branch s.tree)

-- of a call that returns the sources give no row that a leaf uses
abbrev pub atom_roles : Bool → ℕ → List ℕ → List Role
atom_roles used i leaves = map (λ m. if used then atom_at i m else spare) leaves

-- the claim with this number is followed: the target, or one of a letter that is no call that returns
abbrev pub is_used : View → ℕ → Bool
is_used v i = not (v.returns && nat_eq i 0)

abbrev pub of_claim : ℕ → List TreeSpot → List (ℕ × TreeSpot)
of_claim i groups = map (λ s. (i, s)) groups

-- with a member of a group of a claim, which is its predicate at this side
abbrev pub with_member : View → ℕ → Claim → ℕ → Bool → TreeSpot → Gathered → Gathered
with_member v i c n side s g =
    let x = exposed v.columns c s.node s.branch s.tree in
    record {
      rows = g.rows ++ map tightened (rows_in (said_at v.columns c s));
      roles = g.roles ++ atom_roles (is_used v i) i x.leaves;
      groups = g.groups ++ of_claim i x.groups;
      taken = (i, n, side) ∷ g.taken;
    }

-- the side of a cut
abbrev pub side_at : List ℕ → ℕ → Branch → Tree → Bool → Option TreeSpot
side_at columns n b (leaf_tree parts) side = None
side_at columns n b (cut_tree col k t u) side = Some (side_of side (low_side columns n b col k t) (high_side columns n b col k t u))
side_at columns n b (cases_tree ts) side = None

abbrev pub member_taken : View → ℕ → Option Claim → ℕ → Bool → Option TreeSpot → Gathered → Gathered
member_taken v i None n side s g = g
member_taken v i (Some c) n side None g = g
member_taken v i (Some c) n side (Some s) g = with_member v i c n side s g

-- the first group is opened, whosever it is, and this member taken
abbrev pub opened : View → Bool → Gathered → List (ℕ × TreeSpot) → Option Gathered
opened v side g [] = None
opened v side g (first ∷ groups) =
    Some (member_taken v first.0 (slice_get v.claims first.0) first.1.node side (side_at v.columns first.1.node first.1.branch first.1.tree side)
    (record g { groups = groups }))

-- ---- leaves

-- a leaf: the rows that hold there, and its parts
pub record Leaf : Type 0 where
  pub rows : List LinearRow
  pub parts : List (ℕ × ℤ)

abbrev pub leaf_of : View → Gathered → ℕ → Branch → List (ℕ × ℤ) → Leaf
leaf_of v g n b parts = record { rows = g.rows; parts = terms_from 0 (multipliers v n b parts g.roles) }

-- on from a group that is opened, if there is one
abbrev pub on_opened : Option Gathered → (Gathered → Option Leaf) → Option Leaf
on_opened None go = None
on_opened (Some g) go = go g

-- the leaf to which these sides lead from where the refutation stops, if they lead to one
abbrev pub leaf_from : View → List Bool → Gathered → Stop → Option Leaf
leaf_from v [] g (at_leaf n b parts) = Some (leaf_of v g n b parts)
leaf_from v [] g (at_cut r col k low high) = None
leaf_from v [] g (at_group s) = None
leaf_from v [] g nowhere = None
leaf_from v (side ∷ sides) g (at_leaf n b parts) = None
leaf_from v (side ∷ sides) g (at_cut r col k low high) =
    leaf_from v sides (with_own v r col k side g) (stops_at v g.taken (side_of side low high))
leaf_from v (side ∷ sides) g (at_group s) =
    on_opened (opened v side g g.groups) (λ h. leaf_from v sides h (stops_at v h.taken s))
leaf_from v (side ∷ sides) g nowhere = None
