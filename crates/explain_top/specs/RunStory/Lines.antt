-- Lines as they are written: notes behind notes, and the lines that a long story keeps.
use Rattle.std.specs.Prelude.{◌≡◌, ℕ, ◌+◌, ◌-◌, Bool, true, false, ◌||◌, nat_le, max, List, [], ◌∷◌, ◌++◌, take, drop, map, length, codes, if◌then◌else◌}
use Rattle.std.specs.List.{concat}
use Rattle.boogie_tree.specs.Printing.{continued}
use Rattle.explain_top.specs.declared.run_story.lines.Line.{Line}
use Rattle.explain_top.specs.declared.run_story.keeping.Lines.{Lines}
use Rattle.explain_top.specs.RunStory.Texts.{remark, most, left_out_line}

-- notes behind a line that has some already, or none yet
abbrev pub remarked : Bool → List (List ℕ) → List ℕ
remarked true ns = continued ns
remarked false ns = remark ns

abbrev pub has_notes : Bool → List (List ℕ) → Bool
has_notes noted [] = noted
has_notes noted (n ∷ ns) = true

-- The line is this text with these notes more.
pub record IsNoted (before : List ℕ) (has : Bool) (ns : List (List ℕ)) (line : Line) : Type 0 where
  pub text : line.text.items ≡ before ++ remarked has ns
  pub noted : line.noted ≡ has_notes has ns

-- It is another line with these notes more.
abbrev pub Adds : Line → List (List ℕ) → Line → Type 0
Adds a ns b = IsNoted a.text.items a.noted ns b

-- what stands before the next note
abbrev pub separator : Bool → List ℕ
separator true = codes ", "
separator false = codes "  // "

-- Of these lines all are kept, or the first as one text, and the last each for itself.
pub record Keeps (ls : List (List ℕ)) (k : Lines) : Type 0 where
  pub first : k.first.items ≡ concat (if k.all then ls else take most ls)
  pub last : map (λ l. l.items) k.last.items ≡ (if k.all then [] else drop (max most (length ls - most)) ls)

-- what stands between the first and the last of so many lines
abbrev pub gap : Bool → ℕ → List ℕ
gap all n = if all || nat_le n (most + most) then [] else left_out_line (n - (most + most))
