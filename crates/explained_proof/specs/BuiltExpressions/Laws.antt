-- What chains of operands are worth, and when conjunctions hold.
use Rattle.std.specs.Prelude.{◌≡◌, ℤ, Bool, false, ◌&&◌, ◌||◌, List, if◌then◌else◌}
use Rattle.std.specs.List.{list_any, list_all}
use Rattle.std.specs.Option.{option_map}
use Rattle.boogie_tree.specs.declared.tree.Op.{Op}
use Rattle.boogie_tree.specs.declared.tree.Op.TheVariants as ops
use Rattle.boogie_tree.specs.Tree.{Expression}
use Rattle.explained_proof.specs.BuiltExpressions.Building.{truth, operation, row_of, chained}
use Rattle.explained_proof.specs.BuiltExpressions.Members.{Conjuncts, with_members, joined, clauses_of, one_of}

-- Where an operation is worth what an associative function makes of the worths of its operands, a chain that is cut into groups is worth what all its
-- operands are in one row.
abbrev pub ChainsAreRows : Type 0
ChainsAreRows = (worth : Expression → ℤ) (op : Op) (made : ℤ → ℤ → ℤ) → ((a b : Expression) → worth (operation op a b) ≡ made (worth a) (worth b)) →
    ((x y z : ℤ) → made (made x y) z ≡ made x (made y z)) → (es : List Expression) → option_map worth (chained op es) ≡ option_map worth (row_of op es)

-- a test of expressions that takes truth values, `&&` and `||` for what they are
pub record IsTruthTest (holds : Expression → Bool) : Type 0 where
  pub truths : (b : Bool) → holds (truth b) ≡ b
  pub ands : (a b : Expression) → holds (operation ops.And a b) ≡ (holds a && holds b)
  pub ors : (a b : Expression) → holds (operation ops.Or a b) ≡ (holds a || holds b)

-- all members of a conjunction hold
abbrev pub all_hold : (Expression → Bool) → Conjuncts → Bool
all_hold holds m = if m.never then false else list_all holds m.said

-- the expression of a conjunction holds exactly where all its members do
abbrev pub JoinedHolds : Type 0
JoinedHolds = (holds : Expression → Bool) → IsTruthTest holds → (m : Conjuncts) → holds (joined m) ≡ all_hold holds m

-- so do its clauses
abbrev pub ClausesHold : Type 0
ClausesHold = (holds : Expression → Bool) → IsTruthTest holds → (m : Conjuncts) → list_all holds (clauses_of m) ≡ all_hold holds m

-- the members of two conjunctions hold exactly where both do
abbrev pub BothHold : Type 0
BothHold = (holds : Expression → Bool) (a b : Conjuncts) → all_hold holds (with_members a b) ≡ (all_hold holds a && all_hold holds b)

-- what several conjunctions say as alternatives holds exactly where one of them does
abbrev pub OneHolds : Type 0
OneHolds = (holds : Expression → Bool) → IsTruthTest holds → (ms : List Conjuncts) → all_hold holds (one_of ms) ≡ list_any (all_hold holds) ms
