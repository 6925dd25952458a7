-- A sink in memory, as its contracts see it.
use Rattle.std.specs.Prelude.{ℕ, List}

-- what a sink in memory has: the bytes that it took, how many a call moves at most, the numbers of the calls that
-- fail, and how many calls there were and failed
pub record MemSinkState : Type 0 where
  pub taken : List ℕ
  pub most : ℕ
  pub fails : List ℕ
  pub calls : ℕ
  pub faults : ℕ
