-- The end of a race.
use Rattle.std.proofs.Common.{◌≡◌, Result, Ok, Err}
use Rattle.std.specs.Prelude.{IfOk}

pub ok_then : {A B : Type 0} (r : Result A B) (x : A) (P : Type 0) → r ≡ Ok x → IfOk r (λ y. P) → P
ok_then (Ok y) x P e h = h
ok_then (Err y) x P e h = cc

pub ok_map : {A B : Type 0} (r : Result A B) (P Q : Type 0) → (P → Q) → IfOk r (λ y. P) → IfOk r (λ y. Q)
ok_map (Ok y) P Q f h = f h
ok_map (Err y) P Q f h = tt
