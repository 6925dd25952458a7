-- Edges found by their state, and by their state and letter.
use Rattle.std.specs.Prelude.{◌≡◌, ℕ, ◌&&◌, List, map, filter, nat_eq}
use Rattle.nwa_base.specs.declared.letters.Letter.{Letter}
use Rattle.nwa_base.specs.Letters.{same_letter}

-- the edges that leave q
abbrev pub leaving : ℕ → List (ℕ × Letter × ℕ) → List (ℕ × Letter × ℕ)
leaving q edges = filter (λ e. nat_eq e.0 q) edges

-- the edges that lead to q
abbrev pub entering : ℕ → List (ℕ × Letter × ℕ) → List (ℕ × Letter × ℕ)
entering q edges = filter (λ e. nat_eq e.2 q) edges

-- where the edges lead that leave q by a
abbrev pub ends : ℕ → Letter → List (ℕ × Letter × ℕ) → List ℕ
ends q a edges = map (λ e. e.2) (filter (λ e. nat_eq e.0 q && same_letter e.1 a) edges)

-- the return edges that leave q
abbrev pub backs_leaving : ℕ → List (ℕ × ℕ × Letter × ℕ) → List (ℕ × ℕ × Letter × ℕ)
backs_leaving q edges = filter (λ e. nat_eq e.0 q) edges

-- the return edges that leave q, where p was the state before the call
abbrev pub backs_between : ℕ → ℕ → List (ℕ × ℕ × Letter × ℕ) → List (ℕ × ℕ × Letter × ℕ)
backs_between q p edges = filter (λ e. nat_eq e.0 q && nat_eq e.1 p) edges

-- where the return edges lead that leave q by a, where p was the state before the call
abbrev pub back_ends : ℕ → ℕ → Letter → List (ℕ × ℕ × Letter × ℕ) → List ℕ
back_ends q p a edges = map (λ e. e.3) (filter (λ e. (nat_eq e.0 q && nat_eq e.1 p) && same_letter e.2 a) edges)

-- the edges are found by their state, and by their state and letter
pub record IsIndexed (edges : List (ℕ × Letter × ℕ)) (by_state : ℕ → List (ℕ × Letter × ℕ)) (by_letter : ℕ → Letter → List ℕ) : Type 0 where
  pub states : (q : ℕ) → by_state q ≡ leaving q edges
  pub letters : (q : ℕ) (a : Letter) → by_letter q a ≡ ends q a edges

-- the return edges are found by their state, by their two states, and by these and their letter
pub record IsBackIndexed (edges : List (ℕ × ℕ × Letter × ℕ)) (by_state : ℕ → List (ℕ × ℕ × Letter × ℕ)) (by_pair : ℕ → ℕ → List (ℕ × ℕ × Letter × ℕ)) (by_letter : ℕ → ℕ → Letter → List ℕ) : Type 0 where
  pub states : (q : ℕ) → by_state q ≡ backs_leaving q edges
  pub pairs : (q p : ℕ) → by_pair q p ≡ backs_between q p edges
  pub letters : (q p : ℕ) (a : Letter) → by_letter q p a ≡ back_ends q p a edges
