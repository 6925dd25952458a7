-- The choice that a step takes of a list.
use Rattle.std.specs.Prelude.{ℤ, List, [], ◌∷◌, Option, None, Some}
use Rattle.boogie_run.specs.Needs.{Need, Nothing}

-- none where nothing is needed, and else the first; with what is left of the list
abbrev pub next_choice : Need → List ℤ → Option ℤ × List ℤ
next_choice Nothing choices = (None, choices)
next_choice n [] = (None, [])
next_choice n (z ∷ choices) = (Some z, choices)
