-- Labels to which jumps lead backwards.
use Rattle.std.specs.Prelude.{ℕ, Bool, true, false, ◌||◌, nat_eq, List, [], ◌∷◌, Option, None, Some, if◌then◌else◌}
use Rattle.std.specs.Str.{bytes_eq}
use Rattle.boogie_tree.specs.declared.tree.Name.{Name}
use Rattle.boogie_tree.specs.Tree as tree
use Rattle.typed_tree.specs.TypedTree.{TypedStatement, If, While, Goto, Label, TypedBlock, Empty, Then}

-- the labels that were passed, in text order, and those that a goto behind them names
pub record Labels : Type 0 where
  pub passed : ℕ → Bool
  pub backwards : ℕ → Bool

abbrev pub no_number : ℕ → Bool
no_number k = false

abbrev pub with_number : ℕ → (ℕ → Bool) → ℕ → Bool
with_number n test k = if nat_eq n k then true else test k

abbrev pub no_labels : Labels
no_labels = record { passed = no_number; backwards = no_number }

abbrev pub jump : ℕ → Labels → Labels
jump n l = if l.passed n then record l { backwards = with_number n l.backwards } else l

abbrev pub jumps : List ℕ → Labels → Labels
jumps [] l = l
jumps (n ∷ ns) l = jumps ns (jump n l)

abbrev mutual
  -- behind a statement
  pub passing : TypedStatement → Labels → Labels
  passing (Label n) l = record l { passed = with_number n l.passed }
  passing (Goto at ns) l = jumps ns l
  passing (If at g a b) l = passing_all b (passing_all a l)
  passing (While at g is b) l = passing_all b l
  passing s l = l

  pub passing_all : TypedBlock → Labels → Labels
  passing_all Empty l = l
  passing_all (Then s b) l = passing_all b (passing s l)

abbrev pub is_named : List ℕ → Option Name → Bool
is_named name None = false
is_named name (Some x) = bytes_eq name x.text

abbrev mutual
  -- a break in the statement names the label
  pub breaks_to : List ℕ → tree.Statement → Bool
  breaks_to name (tree.Break at x) = is_named name x
  breaks_to name (tree.If at g a b) = some_breaks_to name a || some_breaks_to name b
  breaks_to name (tree.While at g is b) = some_breaks_to name b
  breaks_to name s = false

  pub some_breaks_to : List ℕ → tree.Block → Bool
  some_breaks_to name tree.Empty = false
  some_breaks_to name (tree.Then s b) = breaks_to name s || some_breaks_to name b
