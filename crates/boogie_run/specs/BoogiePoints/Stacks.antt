-- Steps on the blocks that are still to do.
use Rattle.std.specs.Prelude.{Bool, true, false, List, [], ◌∷◌}
use Rattle.typed_tree.specs.TypedTree.{TypedStatement, Label, TypedBlock, Empty, Then}
use Rattle.boogie_run.specs.BoogiePoints.Points.{Todo, Point, at_exit, before}

-- with another innermost block
abbrev pub with_top : Todo → List Todo → List Todo
with_top t [] = []
with_top t (x ∷ xs) = t ∷ xs

-- a block over another innermost one
abbrev pub over_top : Todo → Todo → List Todo → List Todo
over_top inner t [] = inner ∷ []
over_top inner t (x ∷ xs) = inner ∷ (t ∷ xs)

-- without the innermost block
abbrev pub without_top : List Todo → List Todo
without_top [] = []
without_top (x ∷ xs) = xs

abbrev pub is_label : TypedStatement → Bool
is_label (Label n) = true
is_label s = false

-- the point before these blocks, of which the innermost begins with a statement that takes a step
abbrev pub standing : List Todo → Point
standing [] = at_exit
standing (t ∷ ts) = before (t ∷ ts)

-- the same for one block over others, where it may be empty
abbrev pub standing_in : TypedBlock → Todo → List Todo → Point → Point
standing_in Empty t under after = after
standing_in (Then s b) t under after = before (t ∷ under)
