-- The numbers of labels.
use Rattle.std.specs.Prelude.{ℕ, Option, None, Some}
use Rattle.typed_tree.specs.TypedTree.{TypedStatement, Label}

-- the number of a label
abbrev pub label_number : TypedStatement → Option ℕ
label_number (Label n) = Some n
label_number s = None
