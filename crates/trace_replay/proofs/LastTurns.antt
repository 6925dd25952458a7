-- Behind the last turn of a loop that makes a list from another one.
use Rattle.std.proofs.Common.{◌≡◌, ◌∙◌, ℕ, ◌≤◌, List, [], ◌++◌, length, drop, sym, ap, append-nil}
use Rattle.trace_replay.proofs.ToldChoices.Steps.{drop_past}

pub last_turn : {X Y : Type 0} (F : List X → List Y) (xs : List X) (i : ℕ) (done whole : List Y) → F [] ≡ [] → length xs ≤ i → done ++ F (drop i xs) ≡ whole → done ≡ whole
last_turn F xs i done whole none l e = sym (append-nil done) ∙ ap (λ ys. done ++ ys) (sym none) ∙ ap (λ zs. done ++ F zs) (sym (drop_past xs i l)) ∙ e
