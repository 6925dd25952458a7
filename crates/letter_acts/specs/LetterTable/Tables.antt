-- What a table keeps of its edges where a call for one more is refused.
use Rattle.std.specs.Prelude.{◌≡◌, List, ◌++◌}
use Rattle.letter_acts.specs.LetterTable.Letters.{MarkedAct, Lettered}

-- the edges are the same, and so are the letters, to which others may have been added
pub record EdgesStay (old new : Lettered) : Type 0 where
  pub more : List MarkedAct
  pub acts : new.acts ≡ old.acts ++ more
  pub insides : new.insides ≡ old.insides
  pub calls : new.calls ≡ old.calls
  pub backs : new.backs ≡ old.backs
