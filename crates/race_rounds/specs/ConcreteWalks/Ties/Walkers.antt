-- Walkers, as contracts see them.
use Rattle.std.specs.Prelude.{Bool}

pub record Walking : Type 0 where
  -- whether a word was found
  pub found : Bool
