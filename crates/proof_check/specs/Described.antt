-- When a node describes a place with a situation.
use Rattle.std.specs.Prelude.{◌≡◌, ℕ, Option, Some}
use Rattle.nwa_base.specs.Members.{Member}
use Rattle.letter_acts.specs.Meaning.{Situation}
use Rattle.triple_rows.specs.declared.triples.Scoped.{Scoped}
use Rattle.triple_rows.specs.Triples.{ScopedHolds}
use Rattle.proof_names.specs.Naming.{scoped_at}
use Rattle.proof_names.specs.Outlines.{OutlineNode}

-- the predicate with this number holds of the situation
abbrev pub HoldsAt : (ℕ → Option Scoped) → ℕ → Situation → Type 0
HoldsAt preds k s = (sc : Scoped) × (scoped_at preds s.proc k ≡ Some sc) × ScopedHolds sc s

-- the node is at the place, and each of its predicates holds of the situation
pub record Describes (preds : ℕ → Option Scoped) (x : OutlineNode) (c : ℕ × Situation) : Type 0 where
  pub at : c.0 ≡ x.place
  pub holds : (k : ℕ) → Member x.preds k → HoldsAt preds k c.1
