-- When the clauses of a procedure hold in a state of its frame.
use Rattle.std.specs.Prelude.{◌≡◌, ◌↔◌, ℕ, zero, suc, ◌≤◌, ℤ, Bool, true, false, nat_lt, List, Option, None, Some, slice_get}
use Rattle.std.specs.List.{list_any, list_all, AllByRecursion}
use Rattle.boogie_tree.specs.declared.tree.Column.{Column}
use Rattle.boogie_tree.specs.declared.tree.Column.TheVariants.{Global, Old, Local}
use Rattle.boogie_tree.specs.declared.tree.VarInfo.{VarInfo}
use Rattle.boogie_tree.specs.Tree.{Expression}
use Rattle.letter_acts.specs.Frames.{IsFrame}
use Rattle.letter_acts.specs.Invariant.{Graph}
use Rattle.triple_rows.specs.declared.triples.Scoped.{Scoped}
use Rattle.triple_rows.specs.Predicates.{Formula, formula_of, FormulaHolds, nesting}
use Rattle.proof_form.specs.Annotations.{Content, is_annotation}
use Rattle.proof_names.specs.Outlines.{OutlineNode}
use Rattle.proof_names.specs.Items.{pred_at}
use Rattle.explained_proof.specs.BuiltExpressions.Building.{old_of}
use Rattle.explained_proof.specs.declared.row_expressions.scopes.Position.{Position}
use Rattle.explained_proof.specs.declared.row_expressions.scopes.Position.TheVariants.{Requires}
use Rattle.explained_proof.specs.RowExpressions.Scopes.{is_requires}
use Rattle.explained_proof.specs.RowExpressions.Worth.{IsReading, HasColumns}
use Rattle.explained_proof.specs.FactExpressions.Worth.{facts_hold, IsAt}
use Rattle.explained_proof.specs.declared.clauses.Entered.{Entered}
use Rattle.explained_proof.specs.Tightened.{tight}
use Rattle.explained_proof.specs.Known.{Known, known_of, known_at}
use Rattle.explained_proof.specs.Clauses.{KnownProcedure, scope, required, holding}

-- a tightened predicate holds at the same whole points
abbrev pub TightHolds : Type 0
TightHolds = (point : ℕ → ℤ) (f : Formula) → FormulaHolds point (tight f) ↔ FormulaHolds point f

-- what is known at a node holds at a point
abbrev pub is_known : Known → (ℕ → ℤ) → ℕ → Bool
is_known k point n = facts_hold point (known_at k n)

-- the predicate of a line holds; a line that names none is true
abbrev pub LineHolds : (ℕ → ℤ) → Option Scoped → Type 0
LineHolds point None = Unit {0}
LineHolds point (Some s) = FormulaHolds point (formula_of s.pred)

-- the predicate with this number holds: true, false, or that of a line
abbrev pub PredicateHolds : Graph → Content → (ℕ → ℤ) → ℕ → Type 0
PredicateHolds g a point zero = Unit {0}
PredicateHolds g a point (suc zero) = ⊥
PredicateHolds g a point (suc (suc k)) = LineHolds point (pred_at g a k)

-- What an annotation knows at a node holds exactly where each of the node's predicates does.
abbrev pub NodesAreKnown : Type 0
NodesAreKnown = (g : Graph) (a : Content) (xs : List OutlineNode) (n : ℕ) (x : OutlineNode) (point : ℕ → ℤ) → is_annotation a ≡ true → slice_get xs n ≡ Some x →
    (is_known (known_of g a xs) point n ≡ true) ↔ AllByRecursion (PredicateHolds g a point) x.preds

-- no predicate is nested more than 200 deep
abbrev pub IsShallow : Known → Type 0
IsShallow k = (p : ℕ) → nesting (k.predicate p) ≤ 200

-- none of an annotation is
abbrev pub KnownIsShallow : Type 0
KnownIsShallow = (g : Graph) (a : Content) (xs : List OutlineNode) → is_annotation a ≡ true → IsShallow (known_of g a xs)

-- Where a frame is entered in a state in which what is known at one of its entry nodes holds, each clause that is required holds.
abbrev pub RequirementsHold : Type 0
RequirementsHold = (worth : Expression → ℤ) (holds : Expression → Bool) (q : KnownProcedure) (point : ℕ → ℤ) → IsAt worth holds (scope q Requires false) point →
    list_any (λ e. is_known q.known point e.node) q.entries ≡ true → list_all holds (required q) ≡ true

-- a column that keeps its value in a frame: a constant, what a global had at the entry, or a parameter
abbrev pub is_kept : ℕ → Column × VarInfo → Bool
is_kept params (Global n, v) = v.constant
is_kept params (Old n, v) = true
is_kept params (Local n, v) = nat_lt n params

-- The point tells of the entry of a frame what a later one tells: what is kept, and for each global what its old column says. The other columns may be worth anything.
pub record IsEntryOf (q : KnownProcedure) (now was : ℕ → ℤ) : Type 0 where
  pub kept : (n : ℕ) (c : Column × VarInfo) → slice_get q.frame n ≡ Some c → is_kept q.params c ≡ true → was n ≡ now n
  pub globals : (n g : ℕ) (v : VarInfo) → slice_get q.frame n ≡ Some (Old g, v) → was g ≡ now n

-- What expressions are worth in a state of a frame, and which of them hold there; `old` reads another state, in which they are worth what they were at the entry. At a
-- clause of that position the columns have these values now, and had those at the entry.
pub record IsState (worth : Expression → ℤ) (holds : Expression → Bool) (old_worth : Expression → ℤ) (old_holds : Expression → Bool) (q : KnownProcedure) (position : Position)
    (now was : ℕ → ℤ) : Type 0 where
  pub reading : IsReading worth holds
  pub old_reading : IsReading old_worth old_holds
  pub olds : (e : Expression) → holds (old_of e) ≡ old_holds e
  pub columns : HasColumns worth holds (scope q position false) now
  pub old_columns : HasColumns old_worth old_holds (scope q position true) was
  pub entered : IsEntryOf q now was

-- One of the nodes that stand at the place in frames entered at the node knows what is now; where that node is a premise, only if it knows what was at the entry.
abbrev pub IsFollowed : Known → ℕ → (ℕ → ℤ) → (ℕ → ℤ) → Entered → Type 0
IsFollowed k place now was e = (e.is_premise ≡ true → is_known k was e.node ≡ true) → list_any (is_known k now) (k.standing place e.node) ≡ true

-- In a state of a frame that is followed by the nodes at a place, each clause that is told there holds.
abbrev pub ClausesHold : Type 0
ClausesHold = (worth : Expression → ℤ) (holds : Expression → Bool) (old_worth : Expression → ℤ) (old_holds : Expression → Bool) (globals : List VarInfo) (q : KnownProcedure) (position : Position)
    (place : ℕ) (now was : ℕ → ℤ) → IsFrame globals q.frame → IsShallow q.known → is_requires position ≡ false → IsState worth holds old_worth old_holds q position now was →
    AllByRecursion (IsFollowed q.known place now was) q.entries → list_all holds (holding q position place) ≡ true
