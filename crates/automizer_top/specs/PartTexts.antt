-- The lines of texts that speak of parts, and how such a text is taken apart by them.
use Rattle.std.specs.Prelude.{ℕ, List, [], ◌∷◌, ◌++◌, Option, None, Some, codes, nat_eq, if◌then◌else◌}
use Rattle.std.specs.List.{concat}
use Rattle.std.specs.Fmt.{decimal}
use Rattle.std.specs.Str.{bytes_eq}
use Rattle.outer_io.specs.Lines.{lines_of}
use Rattle.proof_form.specs.Standing.{end_line}

-- the line behind which the verdicts on so many parts stand
abbrev pub modular_line : ℕ → List ℕ
modular_line count = codes "modular " ++ (decimal count ++ codes "\n")

-- the line of the part of the procedure with this name
abbrev pub part_line : List ℕ → List ℕ
part_line name = codes "part " ++ (name ++ codes "\n")

-- what stands behind this line, where the text begins with it
abbrev pub text_behind : List ℕ → List ℕ → Option (List ℕ)
text_behind [] text = Some text
text_behind (b ∷ bs) [] = None
text_behind (b ∷ bs) (x ∷ xs) = if nat_eq b x then text_behind bs xs else None

-- these lines up to the first that is `end`, with that one; all, where none is
abbrev pub through_end : List (List ℕ) → List (List ℕ)
through_end [] = []
through_end (l ∷ ls) = if bytes_eq l end_line then l ∷ [] else l ∷ through_end ls

-- those behind it
abbrev pub behind_end : List (List ℕ) → List (List ℕ)
behind_end [] = []
behind_end (l ∷ ls) = if bytes_eq l end_line then ls else behind_end ls

-- the annotation at the front of a text, by its lines and as a text: up to the first line `end`, or all; and what is left behind it
abbrev pub front_lines : List ℕ → List (List ℕ)
front_lines text = through_end (lines_of text)

abbrev pub front_text : List ℕ → List ℕ
front_text text = concat (front_lines text)

abbrev pub rest_text : List ℕ → List ℕ
rest_text text = concat (behind_end (lines_of text))
