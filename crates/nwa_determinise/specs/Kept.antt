-- The sets of pairs that are kept under numbers.
use Rattle.std.specs.Prelude.{◌≡◌, ◌<◌, ◌⊎◌, ℕ, List, [], ◌∷◌, ◌++◌, length, map, slice_index_or}
use Rattle.nwa_base.specs.Members.{Member}
use Rattle.std.specs.Global.{Vec}
use Rattle.nwa_base.specs.Automata.{Automaton}

-- the automaton that is read, and the sets that are kept, each under its place
pub record Kept : Type 0 where
  pub nwa : Automaton
  pub sets : List (List (ℕ × ℕ))

-- the set of a number
abbrev pub set_at : Kept → ℕ → List (ℕ × ℕ)
set_at d s = slice_index_or d.sets s []

-- the automaton stays, and each set that was kept stays under its number
pub record Grows (old new : Kept) : Type 0 where
  pub nwa : new.nwa ≡ old.nwa
  pub more : List (List (ℕ × ℕ))
  pub sets : new.sets ≡ old.sets ++ more

-- no set that is kept is this list
abbrev pub AreOthers : List (List (ℕ × ℕ)) → List (ℕ × ℕ) → Type 0
AreOthers sets set = Member sets set → ⊥

-- Equal lists get one number: it is the number of a set that was kept already, or its set is none of those that were kept and
-- is put behind them.
abbrev pub HasOneNumber : Kept → Kept → ℕ → Type 0
HasOneNumber old new t =
    ((new ≡ old) × (t < length old.sets)) ⊎
    (AreOthers old.sets (set_at new t) × (new.sets ≡ old.sets ++ set_at new t ∷ []) × (t ≡ length old.sets))

-- the members of each vector
abbrev pub lists_of : List (Vec (ℕ × ℕ)) → List (List (ℕ × ℕ))
lists_of sets = map (λ s. s.items) sets
