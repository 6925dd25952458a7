-- The texts of lines, and which lines of a long story are told.
use Rattle.std.specs.Prelude.{ℕ, ◌+◌, ◌-◌, Bool, ◌||◌, nat_le, List, [], ◌∷◌, ◌++◌, take, drop, length, codes, if◌then◌else◌}
use Rattle.std.specs.Fmt.{decimal}
use Rattle.boogie_tree.specs.Printing.{indent, listed}
use Rattle.explain_top.specs.RunStory.Items.{Item}

abbrev pub remark : List (List ℕ) → List ℕ
remark [] = []
remark (n ∷ ns) = codes "  // " ++ listed (n ∷ ns)

-- where a step stands that is made in so many open calls, and its item
abbrev pub place_text : Item → ℕ → List ℕ
place_text i calls = decimal i.at.line ++ (codes ":" ++ (decimal i.at.col ++ (codes " " ++ (indent calls ++ (i.text ++ i.end)))))

-- the line of a step, with what is to be told of it
abbrev pub told_line : Item → ℕ → List (List ℕ) → List ℕ
told_line i calls told = place_text i calls ++ (remark told ++ codes "\n")

-- how many lines stand at the beginning and at the end of a long story
abbrev pub most : ℕ
most = 100

abbrev pub left_out_line : ℕ → List ℕ
left_out_line n = codes ".. " ++ (decimal n ++ codes " steps ..\n")

-- all lines, or of a long story those of its beginning and of its end
abbrev pub shortened : Bool → List (List ℕ) → List (List ℕ)
shortened all ls =
    if all || nat_le (length ls) (most + most) then ls
    else take most ls ++ (left_out_line (length ls - (most + most)) ∷ drop (length ls - most) ls)
