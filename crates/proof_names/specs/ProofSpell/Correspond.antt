-- Lists whose members correspond in order.
use Rattle.std.specs.Prelude.{List, [], ◌∷◌}

-- the lists are as long, and the members at each place are related
abbrev pub Correspond : {X Y : Type 0} → (X → Y → Type 0) → List X → List Y → Type 0
Correspond R [] [] = Unit {0}
Correspond R [] (y ∷ ys) = ⊥
Correspond R (x ∷ xs) [] = ⊥
Correspond R (x ∷ xs) (y ∷ ys) = R x y × Correspond R xs ys
