-- Forms in order: what the code keeps of each form that it makes.
use Rattle.std.specs.Prelude.{ℤ, Bool, true, ◌&&◌, List, [], ◌∷◌, unsigned_abs}
use Rattle.std.specs.List.{list_all}
use Rattle.boogie_tree.specs.declared.tree.Column.{Column}
use Rattle.typed_tree.specs.AffineForm.{is_before, fits}

-- the column stands before each of the terms
abbrev pub stands_before : Column → List (Column × ℤ) → Bool
stands_before c ts = list_all (λ t. is_before c t.0) ts

-- the columns ascend
abbrev pub ascends : List (Column × ℤ) → Bool
ascends [] = true
ascends (t ∷ ts) = stands_before t.0 ts && ascends ts

-- each coefficient fits
abbrev pub terms_fit : List (Column × ℤ) → Bool
terms_fit ts = list_all (λ t. fits t.1) ts
