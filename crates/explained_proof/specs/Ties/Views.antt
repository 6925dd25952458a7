-- The code's values as contracts see them.
use Rattle.std.specs.Prelude.{ℕ, zero, suc, Bool, true, false, ◌&&◌, nat_eq, List, map, Option, None, Some, slice_get}
use Rattle.std.specs.HashMap.{get}
use Rattle.std.specs.HashSet.{contains}
use Rattle.nwa_base.specs.Groups.{grouped}
use Rattle.triple_rows.specs.Predicates.{Formula, formula_of, truth}
use Rattle.typed_tree.specs.TypedView as typed
use Rattle.typed_tree.specs.TypingRules.TypedParts.{typed_program}
use Rattle.proof_names.specs.Outlines.{node}
use Rattle.explained_proof.specs.declared.tightening.Tightened.{Tightened}
use Rattle.explained_proof.specs.declared.knowledge.Knowledge.{Knowledge}
use Rattle.explained_proof.specs.declared.clauses.Procedure.{Procedure}
use Rattle.explained_proof.specs.declared.backwards.Numbers.{Numbers}
use Rattle.explained_proof.specs.declared.backwards.JumpLabels.{JumpLabels}
use Rattle.explained_proof.specs.declared.statements.Place.{Place}
use Rattle.explained_proof.specs.declared.statements.Walk.{Walk}
use Rattle.explained_proof.specs.declared.procedures.Telling.{Telling}
use Rattle.explained_proof.specs.Known.{Known, preds_in}
use Rattle.explained_proof.specs.Clauses.{KnownProcedure}
use Rattle.explained_proof.specs.Backwards.{Labels}
use Rattle.explained_proof.specs.Statements.{Setting, Left}
use Rattle.explained_proof.specs.Explained.{Told}

abbrev pub tightened : Option Tightened → Formula
tightened None = truth true
tightened (Some t) = formula_of t.nodes.items

abbrev pub line_said : Option (Option Tightened) → Formula
line_said None = truth true
line_said (Some o) = tightened o

abbrev pub predicate_said : List (Option Tightened) → ℕ → Formula
predicate_said ts zero = truth true
predicate_said ts (suc zero) = truth false
predicate_said ts (suc (suc k)) = line_said (slice_get ts k)

abbrev pub same_pair : ℕ × ℕ → ℕ × ℕ → Bool
same_pair k l = nat_eq k.0 l.0 && nat_eq k.1 l.1

abbrev pub known : Knowledge → Known
known k = record {
  predicate = predicate_said k.predicates.items;
  preds = λ n. preds_in (slice_get (map node k.nodes.now) n);
  entered = λ place. grouped (get nat_eq k.entered.by_key place);
  standing = λ place entry. grouped (get same_pair k.standing.by_key (place, entry));
}

abbrev pub procedure : Procedure → KnownProcedure
procedure p = record { known = known p.knowledge.now; frame = p.frame.now; params = p.params; results = p.results; entries = p.entries.items }

abbrev pub numbers : Numbers → ℕ → Bool
numbers n = contains nat_eq n.found

abbrev pub labels : JumpLabels → Labels
labels l = record { passed = numbers l.passed; backwards = numbers l.backwards }

abbrev pub left : Place → Left
left p = record { rest = typed.statements p.rest.now; at = p.at }

abbrev pub setting : Walk → Setting
setting w = record { procs = map typed.procedure w.procs.now; procedure = procedure w.procedure.now; backwards = numbers w.backwards.now }

abbrev pub told : Telling → Told
told t = record { program = typed_program t.program.now; graph = t.icfg.now; known = known t.knowledge.now }
