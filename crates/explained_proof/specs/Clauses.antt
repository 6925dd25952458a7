-- The clauses of a procedure at a place.
use Rattle.std.specs.Prelude.{ℕ, Bool, true, false, ◌||◌, nat_lt, List, [], ◌∷◌, map, length, if◌then◌else◌}
use Rattle.std.specs.List.{list_any, flat_map}
use Rattle.boogie_tree.specs.declared.tree.Column.{Column}
use Rattle.boogie_tree.specs.declared.tree.VarInfo.{VarInfo}
use Rattle.boogie_tree.specs.declared.tree.Op.TheVariants as ops
use Rattle.boogie_tree.specs.Tree.{Expression}
use Rattle.lin_rows.specs.Rows.{LinearRow}
use Rattle.explained_proof.specs.BuiltExpressions.Building.{operation, old_of}
use Rattle.explained_proof.specs.BuiltExpressions.Members.{Conjuncts, joined, clauses_of, is_always}
use Rattle.explained_proof.specs.declared.row_expressions.scopes.Position.{Position}
use Rattle.explained_proof.specs.declared.row_expressions.scopes.Position.TheVariants.{Requires}
use Rattle.explained_proof.specs.RowExpressions.Scopes.{ClauseScope, may_change}
use Rattle.explained_proof.specs.FactExpressions.Facts.{Facts}
use Rattle.explained_proof.specs.FactExpressions.Disjunctions.{either_of_all}
use Rattle.explained_proof.specs.FactExpressions.Conclusions.{facts_said, alternatives_said}
use Rattle.explained_proof.specs.declared.clauses.Entered.{Entered}
use Rattle.explained_proof.specs.Known.{Known, known_at}

-- a procedure of which clauses are made: its columns, how many of its locals are parameters and results, and its entry nodes
pub record KnownProcedure : Type 0 where
  pub known : Known
  pub frame : List (Column × VarInfo)
  pub params : ℕ
  pub results : ℕ
  pub entries : List Entered

abbrev pub scope : KnownProcedure → Position → Bool → ClauseScope
scope q position premise = record { frame = q.frame; params = q.params; results = q.results; position = position; premise = premise }

-- what is known at one of the nodes
abbrev pub known_at_one : Known → ClauseScope → List ℕ → Conjuncts
known_at_one k s ns = alternatives_said s (either_of_all (map (known_at k) ns))

-- what is required where the procedure is called
abbrev pub required : KnownProcedure → List Expression
required q = clauses_of (known_at_one q.known (scope q Requires false) (map (λ e. e.node) q.entries))

abbrev pub row_names_changing : ClauseScope → LinearRow → Bool
row_names_changing s r = list_any (λ t. may_change s t.0) r.terms

-- the facts name a global that may change; those with cases may
abbrev pub names_changing : ClauseScope → Facts → Bool
names_changing s c = list_any (row_names_changing s) c.rows || nat_lt 0 (length c.cases)

-- a premise, which speaks of the entry
abbrev pub premise_said : ClauseScope → Facts → Conjuncts → Expression
premise_said s c m = if names_changing s c then old_of (joined m) else joined m

-- the conclusion under a premise: nothing where the premise is false
abbrev pub under : ClauseScope → Facts → Conjuncts → Conjuncts → List Expression
under s c premise conclusion =
    if premise.never then []
    else (if is_always premise then clauses_of conclusion
    else operation ops.Implies (premise_said s c premise) (joined conclusion) ∷ [])

abbrev pub under_facts : ClauseScope → Facts → Conjuncts → List Expression
under_facts s c conclusion = under s c (facts_said s c) conclusion

abbrev pub clauses_for : KnownProcedure → Position → Entered → Conjuncts → List Expression
clauses_for q position e conclusion =
    if is_always conclusion then []
    else (if e.is_premise then under_facts (scope q position true) (known_at q.known e.node) conclusion else clauses_of conclusion)

-- what holds at a place in frames that were entered at a node: under what is known there, what one of the nodes at the place knows
abbrev pub holding_for : KnownProcedure → Position → ℕ → Entered → List Expression
holding_for q position place e = clauses_for q position e (known_at_one q.known (scope q position false) (q.known.standing place e.node))

-- what holds at a place
abbrev pub holding : KnownProcedure → Position → ℕ → List Expression
holding q position place = flat_map (holding_for q position place) q.entries
