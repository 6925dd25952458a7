-- What an annotation knows at the places of a graph.
use Rattle.std.specs.Prelude.{ℕ, zero, suc, ◌+◌, Bool, true, false, ◌&&◌, not, nat_eq, List, [], ◌∷◌, map, Option, None, Some, slice_get, if◌then◌else◌}
use Rattle.std.specs.List.{list_any}
use Rattle.letter_acts.specs.Invariant.{Graph}
use Rattle.triple_rows.specs.declared.triples.Scoped.{Scoped}
use Rattle.triple_rows.specs.Predicates.{Formula, formula_of, truth}
use Rattle.proof_form.specs.Annotations.{Content}
use Rattle.proof_names.specs.Outlines.{OutlineNode}
use Rattle.proof_names.specs.Items.{pred_at}
use Rattle.explained_proof.specs.FactExpressions.Facts.{Facts, no_facts, facts_from}
use Rattle.explained_proof.specs.Tightened.{tight}

-- What is known, by the numbers of predicates, nodes and places.
pub record Known : Type 0 where
  -- a predicate
  pub predicate : ℕ → Formula
  -- the predicates of a node
  pub preds : ℕ → List ℕ
  -- the entry nodes at a place
  pub entered : ℕ → List ℕ
  -- the nodes at a place, in frames that were entered at a node
  pub standing : ℕ → ℕ → List ℕ

-- the predicate of a line, tightened; a line that names none is true
abbrev pub formula_in : Option Scoped → Formula
formula_in None = truth true
formula_in (Some s) = tight (formula_of s.pred)

-- predicate 0 is true and 1 is false; the lines have the numbers from 2 on
abbrev pub predicate : Graph → Content → ℕ → Formula
predicate g a zero = truth true
predicate g a (suc zero) = truth false
predicate g a (suc (suc k)) = formula_in (pred_at g a k)

abbrev pub preds_in : Option OutlineNode → List ℕ
preds_in None = []
preds_in (Some x) = x.preds

-- false is known at the node, so that no run comes there
abbrev pub is_false : OutlineNode → Bool
is_false x = list_any (λ k. nat_eq k 1) x.preds

-- the numbers of the nodes that pass a test, counted from n on; those where false is known are left out
abbrev pub nodes_from : ℕ → (ℕ → OutlineNode → Bool) → List OutlineNode → List ℕ
nodes_from n test [] = []
nodes_from n test (x ∷ xs) = if test n x && not (is_false x) then n ∷ nodes_from (n + 1) test xs else nodes_from (n + 1) test xs

abbrev pub is_entered_at : ℕ → ℕ → OutlineNode → Bool
is_entered_at place n x = nat_eq x.entry n && nat_eq x.place place

abbrev pub is_standing_at : ℕ → ℕ → ℕ → OutlineNode → Bool
is_standing_at place entry n x = nat_eq x.place place && nat_eq x.entry entry

-- what an annotation of a graph knows, the nodes of which are these
abbrev pub known_of : Graph → Content → List OutlineNode → Known
known_of g a xs = record {
  predicate = predicate g a;
  preds = λ n. preds_in (slice_get xs n);
  entered = λ place. nodes_from 0 (is_entered_at place) xs;
  standing = λ place entry. nodes_from 0 (is_standing_at place entry) xs;
}

-- what is known at a node
abbrev pub known_at : Known → ℕ → Facts
known_at k n = facts_from (map k.predicate (k.preds n)) no_facts
