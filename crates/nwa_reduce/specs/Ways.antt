-- Ways along edges, whatever their letters.
use Rattle.std.specs.Prelude.{◌≡◌, ℕ, ◌⊎◌, List, [], ◌∷◌}
use Rattle.nwa_base.specs.declared.letters.Letter.{Letter}
use Rattle.nwa_base.specs.Members.{Member}
use Rattle.nwa_base.specs.Automata.{Automaton}

-- an edge leads from q to e
abbrev pub Leads : Automaton → ℕ → ℕ → Type 0
Leads m q e =
    ((a : Letter) × Member m.insides (q, a, e)) ⊎ (((a : Letter) × Member m.calls (q, a, e)) ⊎ ((p : ℕ) × (a : Letter) × Member m.backs (q, p, a, e)))

-- the steps lead from q through these states, of which e is the last
abbrev pub IsWay : (ℕ → ℕ → Type 0) → ℕ → List ℕ → ℕ → Type 0
IsWay step q [] e = q ≡ e
IsWay step q (r ∷ more) e = step q r × IsWay step r more e

-- a way leads from the start to q
pub record IsReached (m : Automaton) (q : ℕ) : Type 0 where
  pub states : List ℕ
  pub way : IsWay (Leads m) m.start states q

-- a way leads from q to a final state
pub record CanEnd (m : Automaton) (q : ℕ) : Type 0 where
  pub states : List ℕ
  pub end : ℕ
  pub way : IsWay (Leads m) q states end
  pub final : Member m.finals end

-- q lies on a way from the start to a final state
pub record IsUseful (m : Automaton) (q : ℕ) : Type 0 where
  pub reached : IsReached m q
  pub ends : CanEnd m q
