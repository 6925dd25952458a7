-- Signatures of states.
use Rattle.std.specs.Prelude.{◌≡◌, ℕ, List, ◌++◌, Some, slice_get}
use Rattle.nwa_base.specs.Members.{Member}
use Rattle.nwa_base.specs.Automata.{Automaton}
use Rattle.nwa_reduce.specs.Ties.Naming.{AreDistinct}
use Rattle.nwa_reduce.specs.declared.marking.Mark.{Mark}
use Rattle.nwa_reduce.specs.Ties.Marks.{HasMark, Ascends}

-- the numbers are those of the state's marks in the table, in order and each once
pub record IsSignature (m : Automaton) (lead : ℕ → ℕ) (q : ℕ) (table : List Mark) (numbers : List ℕ) : Type 0 where
  pub ascends : Ascends numbers
  pub sound : (i : ℕ) → Member numbers i → (x : Mark) × HasMark m lead q x × (slice_get table i ≡ Some x)
  pub complete : (x : Mark) → HasMark m lead q x → (i : ℕ) × Member numbers i × (slice_get table i ≡ Some x)

-- the table grows, and the numbers are the signature of the state
pub record Signs (m : Automaton) (lead : ℕ → ℕ) (q : ℕ) (old new : List Mark) (numbers : List ℕ) : Type 0 where
  pub more : List Mark
  pub table : new ≡ old ++ more
  pub distinct : AreDistinct old → AreDistinct new
  pub signature : IsSignature m lead q new numbers
