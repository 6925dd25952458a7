-- The range of a list from a place to its end.
use Rattle.std.proofs.Common.{◌≡◌, ℕ, ◌-◌, List, length, take, drop, arith}
use Rattle.std.proofs.lemmas.List.{take_all, length-drop}

pub range_from : {X : Type 0} (xs : List X) (n : ℕ) → take (length xs - n) (drop n xs) ≡ drop n xs
range_from xs n = take_all (length xs - n) (drop n xs) (omega (arith, length-drop n xs))
