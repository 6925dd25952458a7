-- The walk of a triple: the goal at hand, the parts that wait, and the nodes that were put down.
use Rattle.std.specs.Prelude.{◌≡◌, ℕ, ◌≤◌, ℤ, Bool, List, [], ◌∷◌, length, reverse, Option, None, Some, slice_get}
use Rattle.std.specs.List.{AllByRecursion}
use Rattle.farkas_check.specs.Nodes.{PlainNode, leaf, cut, cases, plain_nodes}
use Rattle.farkas_check.specs.Trees.{Tree, leaf_tree, cut_tree, cases_tree}
use Rattle.nested_itp.specs.NestedRefutations.Refutations.{Claim, TreeSpot, side_of, View, Gathered, Stop, stops_at, with_own, with_member}
use Rattle.nested_itp.specs.NestedRefutations.Walked.{ComesTo}
use Rattle.nested_itp.specs.NestedRefutations.Waiting.{GroupsWait}
use Rattle.nested_itp.specs.TripleSteps.Steps.{column_place}
use Rattle.nested_itp.specs.TripleWalks.Spots.{sides_in}
use Rattle.nested_itp.specs.TripleWalks.Telling.{IsKnown}
use Rattle.nested_itp.specs.TripleWalks.Stops.{IsPlace, IsStop}
use Rattle.nested_itp.specs.TripleWalks.Goals.{PlainGoal, plain_goal, gone_back, IsGoal}
use Rattle.nested_itp.specs.declared.triple_walks.stops.Spot as place
use Rattle.nested_itp.specs.declared.triple_walks.stops.Taken as member
use Rattle.nested_itp.specs.declared.triple_walks.stops.Stop as found
use Rattle.nested_itp.specs.declared.triple_walks.goals.Mark as mark
use Rattle.nested_itp.specs.declared.triple_walks.walks.Guide as code
use Rattle.nested_itp.specs.declared.triple_walks.walks.Begin as start
use Rattle.nested_itp.specs.declared.triple_walks.walks.Begin.TheVariants.{Root, Side, Member}
use Rattle.nested_itp.specs.declared.triple_walks.walks.Waiting as part
use Rattle.nested_itp.specs.declared.triple_walks.walks.Walk as walks

-- ---- what is read of the word's refutation

-- the parts of a leaf, and the column and number of a cut
abbrev pub parts_here : PlainNode → Option (List (ℕ × ℤ))
parts_here (leaf parts) = Some parts
parts_here (cut c k) = None
parts_here (cases n) = None

abbrev pub parts_in : Option PlainNode → Option (List (ℕ × ℤ))
parts_in None = None
parts_in (Some n) = parts_here n

abbrev pub cut_here : PlainNode → Option (ℕ × ℤ)
cut_here (leaf parts) = None
cut_here (cut c k) = Some (c, k)
cut_here (cases n) = None

abbrev pub cut_in : Option PlainNode → Option (ℕ × ℤ)
cut_in None = None
cut_in (Some n) = cut_here n

-- ---- what the walk is led by

-- it is led along the view of the triple
pub record IsLed (v : View) (x : code.Guide) : Type 0 where
  pub returns : v.returns ≡ x.returns
  pub column : (c : ℕ) → v.column c ≡ column_place x.columns.now c

abbrev pub Known : View → code.Guide → TreeSpot → Type 0
Known v x s = IsKnown v.columns (plain_nodes x.nodes.now) x.tree.now v.claims x.claims.now s

abbrev pub IsThere : View → code.Guide → TreeSpot → place.Spot → Type 0
IsThere v x s p = IsPlace v.columns (plain_nodes x.nodes.now) x.tree.now v.claims x.claims.now x.rows s p

abbrev pub StopsThere : View → code.Guide → Stop → found.Stop → Type 0
StopsThere v x stop p = IsStop v.columns (plain_nodes x.nodes.now) x.tree.now v.claims x.claims.now x.rows stop p

-- ---- the goal at hand

abbrev pub IsCutTree : Tree → Type 0
IsCutTree (leaf_tree parts) = ⊥
IsCutTree (cut_tree c k t u) = Unit {0}
IsCutTree (cases_tree ts) = ⊥

-- a group is a claim's at a cut
pub record IsGroup (v : View) (x : code.Guide) (p : ℕ × TreeSpot) : Type 0 where
  pub claim : Claim
  pub found : slice_get v.claims p.0 ≡ Some claim
  pub is_cut : IsCutTree p.1.tree
  pub known : Known v x p.1

-- where the refutation has come to is the goal at hand
pub record IsAtHand (v : View) (x : code.Guide) (h : Gathered) (g : PlainGoal) : Type 0 where
  pub goal : IsGoal h g
  pub groups : AllByRecursion (IsGroup v x) h.groups

-- the mark was made where there was no more
pub record IsWithin (m : mark.Mark) (g : PlainGoal) : Type 0 where
  pub roles : m.roles ≤ length g.roles
  pub groups : m.groups ≤ length g.groups
  pub taken : m.taken ≤ length g.taken

-- what there was is still there
abbrev pub Keeps : PlainGoal → PlainGoal → Type 0
Keeps old new = (m : mark.Mark) → IsWithin m old → IsWithin m new × (gone_back m new ≡ gone_back m old)

-- ---- parts that wait

-- with a member of a group
pub record TakesMember (v : View) (x : code.Guide) (t : member.Taken) (g h : Gathered) : Type 0 where
  pub claim : Claim
  pub found : slice_get v.claims t.claim ≡ Some claim
  pub side : TreeSpot
  pub first : ℕ
  pub second : ℕ
  pub sides : sides_in x.tree.now t.node ≡ Some (first, second)
  pub node : side.node ≡ side_of t.second first second
  pub known : Known v x side
  pub goes : h ≡ with_member v t.claim claim t.node t.second side g

-- with the row of a side of an own cut
pub record TakesRow (v : View) (row : ℕ) (g h : Gathered) : Type 0 where
  pub column : ℕ
  pub number : ℤ
  pub side : Bool
  pub goes : h ≡ with_own v row column number side g

abbrev pub IsBegun : View → code.Guide → start.Begin → Gathered → Gathered → Type 0
IsBegun v x Root g h = h ≡ g
IsBegun v x (Side row) g h = TakesRow v row g h
IsBegun v x (Member t) g h = TakesMember v x t g h

-- it goes on there, where the goal was this one
pub record IsWaiting (v : View) (x : code.Guide) (g : PlainGoal) (w : part.Waiting) (h : Gathered) (stop : Stop) : Type 0 where
  pub before : Gathered
  pub goal : IsAtHand v x before g
  pub begun : IsBegun v x w.begin before h
  pub spot : TreeSpot
  pub there : IsThere v x spot w.spot
  pub stops : stop ≡ stops_at v h.taken spot
  pub groups : GroupsWait v h stop

-- those are the parts that wait, the next one first, where this is the goal at hand
abbrev pub AreWaiting : View → code.Guide → PlainGoal → List part.Waiting → List (Gathered × Stop) → Type 0
AreWaiting v x g [] [] = Unit {0}
AreWaiting v x g [] (p ∷ ps) = ⊥
AreWaiting v x g (w ∷ ws) [] = ⊥
AreWaiting v x g (w ∷ ws) (p ∷ ps) = IsWithin w.mark g × IsWaiting v x (gone_back w.mark g) w p.0 p.1 × AreWaiting v x (gone_back w.mark g) ws ps

-- ---- the walk

-- the walk has come to the parts that wait
pub record HasCome (v : View) (x : code.Guide) (first : Gathered) (from : Stop) (w : walks.Walk) : Type 0 where
  pub left : List (Gathered × Stop)
  pub comes : ComesTo v first from (plain_nodes w.nodes.items) left
  pub waiting : AreWaiting v x (plain_goal w.goal) (reverse w.waiting.items) left

-- it has come to this part, and then to those that wait
pub record IsComing (v : View) (x : code.Guide) (first : Gathered) (from : Stop) (h : Gathered) (stop : Stop) (w : walks.Walk) : Type 0 where
  pub left : List (Gathered × Stop)
  pub comes : ComesTo v first from (plain_nodes w.nodes.items) ((h, stop) ∷ left)
  pub waiting : AreWaiting v x (plain_goal w.goal) (reverse w.waiting.items) left
  pub goal : IsAtHand v x h (plain_goal w.goal)
  pub groups : GroupsWait v h stop

-- the walk has come to this part that waited, and then to those that wait
pub record ComesNext (v : View) (x : code.Guide) (first : Gathered) (from : Stop) (next : part.Waiting) (w : walks.Walk) : Type 0 where
  pub here : Gathered × Stop
  pub left : List (Gathered × Stop)
  pub comes : ComesTo v first from (plain_nodes w.nodes.items) (here ∷ left)
  pub waiting : AreWaiting v x (plain_goal w.goal) (next ∷ reverse w.waiting.items) (here ∷ left)
