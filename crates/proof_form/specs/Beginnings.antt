-- With which lines the text of an annotation can begin, and how many of a list can stand.
use Rattle.std.specs.Prelude.{◌≡◌, ℕ, ◌+◌, ◌<◌, ◌≤◌, ◌^◌, true, List, [], ◌∷◌, ◌++◌, length, map, take, codes}
use Rattle.proof_form.specs.Annotations.{Content, is_annotation, item_lines, ended, rounds_line, form_lines, AreShort}
use Rattle.proof_form.specs.Standing.{end_line}

-- the header, with these lines behind it
abbrev pub with_header : ℕ → List ℕ → List (List ℕ) → List (List ℕ)
with_header rounds coarse ls = ended (codes "safe") ∷ (ended (rounds_line rounds) ∷ (map ended (form_lines coarse) ++ ls))

-- the lines are those of the text of an annotation
pub record AreText (ls : List (List ℕ)) : Type 0 where
  pub rounds : ℕ
  pub coarse : List ℕ
  pub annotation : Content
  pub small : rounds < 2 ^ 64
  pub short : AreShort coarse
  pub valid : is_annotation annotation ≡ true
  pub spelled : ls ≡ with_header rounds coarse (map ended (item_lines annotation) ++ end_line ∷ [])

-- the text of some annotation begins with these lines
pub record CanBegin (ls : List (List ℕ)) : Type 0 where
  pub more : List (List ℕ)
  pub text : AreText (ls ++ more)

-- The first n lines can stand, and the next cannot: no text begins with it too, or there is none. The lines are no whole text.
pub record StandOnly (n : ℕ) (ls : List (List ℕ)) : Type 0 where
  pub within : n ≤ length ls
  pub before : CanBegin (take n ls)
  pub next : n < length ls → CanBegin (take (n + 1) ls) → ⊥
  pub not_whole : AreText ls → ⊥
