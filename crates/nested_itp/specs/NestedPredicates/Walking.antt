-- What is read off a word before its leaves are summed: the stamps of its rows and columns, and the frames at its positions.
use Rattle.std.specs.Prelude.{◌≡◌, ℕ, suc, ◌-◌, Bool, true, false, List, [], ◌∷◌, ◌++◌, Option, None, Some, IsSome}
use Rattle.std.specs.List.{AllByRecursion}
use Rattle.boogie_tree.specs.declared.tree.VarInfo.{VarInfo}
use Rattle.boogie_tree.specs.declared.tree.Column.{Column}
use Rattle.boogie_tree.specs.declared.tree.Ty.{Ty}
use Rattle.boogie_tree.specs.declared.tree.Ty.TheVariants.{Int, Bool as boolean}
use Rattle.nwa_base.specs.declared.letters.Kind.{Kind}
use Rattle.nwa_base.specs.declared.letters.Kind.TheVariants.{Inside, Call, Back}
use Rattle.nwa_base.specs.declared.letters.Letter.{Letter}
use Rattle.letter_acts.specs.Frames.{Columns}
use Rattle.letter_acts.specs.Acts.{Alphabet, act_of}
use Rattle.letter_acts.specs.Invariant.{type_at}
use Rattle.path_rows.specs.Versions.{PathStage, part_of}
use Rattle.nested_itp.specs.declared.nested_predicates.stamps.Stamps.{Stamps}
use Rattle.nested_itp.specs.NestedPredicates.Stamps.{row_stamps, column_stamps}
use Rattle.nested_itp.specs.NestedPredicates.Positions.{has_return}

-- each letter is one of the alphabet
abbrev pub AreLetters : Alphabet → List Letter → Type 0
AreLetters al w = AllByRecursion (λ a. IsSome (act_of al a)) w

-- ---- booleans

abbrev pub is_boolean : Option Ty → Bool
is_boolean None = false
is_boolean (Some Int) = false
is_boolean (Some boolean) = true

abbrev pub is_bool : (Column × VarInfo) → Bool
is_bool c = is_boolean (Some c.1.ty)

abbrev pub is_bool_at : Columns → ℕ → Bool
is_bool_at frame c = is_boolean (type_at frame c)

-- ---- stamps

-- the stamps of what a letter makes, which has this number, are added, wherever the path has come to
pub record ReadsLetter (al : Alphabet) (n : ℕ) (a : Letter) (old new : Stamps) : Type 0 where
  pub rows : (p : PathStage) → new.rows.items ≡ old.rows.items ++ row_stamps n (act_of al a) (part_of al a p)
  pub columns : (p : PathStage) → new.columns.items ≡ old.columns.items ++ column_stamps al n (act_of al a) (part_of al a p)

-- ---- returns

-- how many returns from calls before it the word has
abbrev pub unmatched_before : Kind → ℕ → ℕ
unmatched_before Inside later = later
unmatched_before Call later = later - 1
unmatched_before Back later = suc later

abbrev pub unmatched : List Letter → ℕ
unmatched [] = 0
unmatched (a ∷ w) = unmatched_before a.kind (unmatched w)

-- for each letter whether a call in its place has a return in the word
abbrev pub return_tests : List Letter → List Bool
return_tests [] = []
return_tests (a ∷ w) = has_return 0 w ∷ return_tests w
