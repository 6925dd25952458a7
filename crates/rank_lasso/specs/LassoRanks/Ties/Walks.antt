-- Where inside letters lead from a set of pairs, each of a place that it began at and the place that it has come to.
use Rattle.std.specs.Prelude.{ℕ, List}
use Rattle.nwa_base.specs.Members.{Member}
use Rattle.nwa_base.specs.Automata.{Automaton}
use Rattle.rank_lasso.specs.LassoRanks.Lassos.{LeadsBy}

-- t are the pairs to which the letters with these numbers lead from s
pub record IsWalkOf (m : Automaton) (ns : List ℕ) (s t : List (ℕ × ℕ)) : Type 0 where
  pub sound : (k e : ℕ) → Member t (k, e) → (q : ℕ) × Member s (k, q) × LeadsBy m q ns e
  pub complete : (k q e : ℕ) → Member s (k, q) → LeadsBy m q ns e → Member t (k, e)

-- the letters lead from the second place of some pair back to it
abbrev pub ComesBack : Automaton → List ℕ → List (ℕ × ℕ) → Type 0
ComesBack m ns s = (k : ℕ) × (q : ℕ) × Member s (k, q) × LeadsBy m q ns q
