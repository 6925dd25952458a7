-- Searches along steps.
use Rattle.std.specs.Prelude.{◌≡◌, ◌⊎◌, ◌↔◌, ℕ, List, ◌++◌}
use Rattle.nwa_base.specs.Members.{Member}
use Rattle.nwa_reduce.specs.Ways.{IsWay}

-- the found states are those to which ways lead from the roots, where each state steps to the next ones
pub record IsSearched (next : ℕ → List ℕ) (from_states found : List ℕ) : Type 0 where
  pub roots : (r : ℕ) → Member from_states r → Member found r
  pub closed : (q e : ℕ) → Member found q → Member (next q) e → Member found e
  pub reached : (q : ℕ) → Member found q → (r : ℕ) × (way : List ℕ) × Member from_states r × IsWay (λ s e. Member (next s) e) r way q

-- the new set has the states, behind the old ones
pub record Inserts (old states new : List ℕ) : Type 0 where
  pub more : List ℕ
  pub keys : new ≡ old ++ more
  pub only : (x : ℕ) → Member more x → Member states x
  pub added : (x : ℕ) → Member states x → Member new x

-- some x of the list leads from q to e
abbrev pub From : {X : Type 0} → (X → ℕ) → (X → ℕ) → List X → ℕ → ℕ → Type 0
From {X} key value xs q e = (x : X) × Member xs x × (key x ≡ q) × (value x ≡ e)

-- the new steps are the old ones and those of the list
abbrev pub AddsSteps : {X : Type 0} → (X → ℕ) → (X → ℕ) → List X → (ℕ → List ℕ) → (ℕ → List ℕ) → Type 0
AddsSteps key value xs old new = (q e : ℕ) → Member (new q) e ↔ (Member (old q) e ⊎ From key value xs q e)
