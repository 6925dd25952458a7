-- States that are added one by one.
use Rattle.std.specs.Prelude.{◌≡◌, ◌⊎◌, ℕ, zero, suc, true, false, List, [], ◌∷◌, ◌++◌}
use Rattle.nwa_base.specs.Members.{Member}
use Rattle.letter_acts.specs.Invariant.{AreDistinct}
use Rattle.triple_rows.specs.declared.triples.Scoped.{Scoped}
use Rattle.triple_rows.specs.Triples.{truth_of}

-- the list with one more member, where it was not there
pub record AddsState (old : List Scoped) (s : Scoped) (new : List Scoped) : Type 0 where
  pub once : AreDistinct old → AreDistinct new
  pub there : Member new s
  pub kept : (t : Scoped) → Member old t → Member new t
  pub only : (t : Scoped) → Member new t → Member old t ⊎ (t ≡ s)

-- true and false of each procedure below a count, in the order of their numbers
abbrev pub truths_below : ℕ → List Scoped
truths_below zero = []
truths_below (suc n) = truths_below n ++ truth_of n true ∷ truth_of n false ∷ []
