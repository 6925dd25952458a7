-- Unwindings that are built from certificates.
use Rattle.std.specs.Prelude.{List, map, length}
use Rattle.nwa_base.specs.Automata.{Automaton, IsAutomaton}
use Rattle.letter_acts.specs.Invariant.{Graph}
use Rattle.letter_acts.specs.Kept.{Keeps}
use Rattle.triple_rows.specs.declared.triples.Scoped.{Scoped}
use Rattle.proof_names.specs.declared.proof_spell.drafts.Shown.{Shown}
use Rattle.proof_names.specs.ProofSpell.Drafts.{plain}
use Rattle.proof_build.specs.declared.proof_unwind.unwinding.Unwound.{Unwound}
use Rattle.proof_build.specs.ProofUnwind.Spots.{nodes_of}
use Rattle.proof_build.specs.ProofUnwind.Exploring.{IsExploring, AreOpened}
use Rattle.proof_build.specs.ProofUnwind.Renumbering.{PlacesAscend}
use Rattle.proof_build.specs.Unwindings.{Unwinding}

-- nodes and steps, with the predicates that are named and the triples that are shown
abbrev pub unwinding_of : List Scoped → List Shown → Unwound → Unwinding
unwinding_of preds triples u = record { preds = preds; triples = map plain triples; nodes = nodes_of u.nodes.items; steps = u.steps }

-- the graph is unwound by the union, and the places of the nodes ascend
pub record IsUnwoundBy (g : Graph) (union : Automaton) (u : Unwound) : Type 0 where
  pub graph : Keeps g
  pub automaton : IsAutomaton g.automaton
  pub exploring : IsExploring g.automaton union (nodes_of u.nodes.items) u.steps
  pub opened : AreOpened g.automaton (nodes_of u.nodes.items) u.steps (length (nodes_of u.nodes.items))
  pub ascend : PlacesAscend (nodes_of u.nodes.items)
