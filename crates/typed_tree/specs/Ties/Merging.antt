-- The terms of a sum, found from the fronts of two ascending lists.
use Rattle.std.specs.Prelude.{◌≡◌, ◌+◌, ◌<◌, ℤ, Bool, true, List, [], ◌∷◌, ◌++◌, Option, None, Some, length, if◌then◌else◌}
use Rattle.boogie_tree.specs.declared.tree.Column.{Column}
use Rattle.typed_tree.specs.declared.merging.Front.{Front}
use Rattle.typed_tree.specs.AffineForm.{form_is_zero, added_to}
use Rattle.typed_tree.specs.Ties.FormOrder.{ascends, terms_fit}

-- a term, unless its coefficient is 0
abbrev pub kept : Column → ℤ → Option (Column × ℤ)
kept c a = if form_is_zero a then None else Some (c, a)

-- a term in front, where there is one
abbrev pub put : Option (Column × ℤ) → List (Column × ℤ) → List (Column × ℤ)
put None ts = ts
put (Some t) ts = t ∷ ts

-- terms in order that fit
pub record AreTerms (ts : List (Column × ℤ)) : Type 0 where
  pub in_order : ascends ts ≡ true
  pub fit : terms_fit ts ≡ true

-- what is left of two lists once the first term of their sum is taken
pub record IsFront (a b : List (Column × ℤ)) (f : Front) : Type 0 where
  pub whole : added_to a b ≡ put f.term (added_to f.left.now f.right.now)
  pub fits : terms_fit (put f.term []) ≡ true
  pub left_terms : AreTerms f.left.now
  pub right_terms : AreTerms f.right.now
  pub fewer : length f.left.now + length f.right.now < length a + length b
