-- Texts that a mark parts.
use Rattle.std.specs.Prelude.{◌≡◌, ℕ, ◌<◌, ◌≤◌, ◌⊎◌, ◌++◌, List, [], length}
use Rattle.std.specs.Str.Pattern.{LacksTextAt}

-- the mark stands in the text first behind the front, and the back follows it
pub record IsAround (mark text front back : List ℕ) : Type 0 where
  pub whole : text ≡ front ++ (mark ++ back)
  pub first : (i : ℕ) → i < length front → LacksTextAt mark text i

-- the mark stands nowhere in the text, which is the front
pub record IsWhole (mark text front back : List ℕ) : Type 0 where
  pub whole : front ≡ text
  pub rest : back ≡ []
  pub nowhere : (i : ℕ) → i ≤ length text → LacksTextAt mark text i

-- the text before the first place where the mark stands, and behind the mark; without one all of it, and nothing
abbrev pub IsParted : (mark text front back : List ℕ) → Type 0
IsParted mark text front back = IsAround mark text front back ⊎ IsWhole mark text front back
