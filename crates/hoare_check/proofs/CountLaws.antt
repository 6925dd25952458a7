-- How many columns a return writes.
use Rattle.std.proofs.Common.{◌≡◌, ◌+◌, ◌++◌, ℕ, List, length}
use Rattle.std.proofs.lemmas.List.{length-append}

pub written_counted : (globals locals : List ℕ) → length (globals ++ locals) ≡ length globals + length locals
written_counted globals locals = length-append globals locals
