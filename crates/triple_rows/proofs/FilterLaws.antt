-- Lists of numbers that pass a test, read from the front: what one number more adds.
use Rattle.std.proofs.Common.{◌≡◌, ◌∙◌, ℕ, ◌+◌, ◌<◌, Bool, true, false, cond, List, [], ◌∷◌, ◌++◌, length, take, get_or, sym, ap}
use Rattle.std.specs.Prelude.{filter}
use Rattle.std.proofs.lemmas.List.{append-nil}
use Rattle.std.proofs.lemmas.List.Elements.{filter_more}

pub passed : (test : ℕ → Bool) (xs : List ℕ) (i : ℕ) (now new : List ℕ) → i < length xs → test (get_or xs i 0) ≡ true →
    now ≡ filter test (take i xs) → new ≡ now ++ get_or xs i 0 ∷ [] → new ≡ filter test (take (i + 1) xs)
passed test xs i now new l t h k =
    k ∙ ap (λ (ns : List ℕ). ns ++ get_or xs i 0 ∷ []) h ∙
    sym (filter_more test xs i 0 l ∙ ap (λ (b : Bool). filter test (take i xs) ++ cond b (get_or xs i 0 ∷ []) []) t)

pub missed : (test : ℕ → Bool) (xs : List ℕ) (i : ℕ) (now : List ℕ) → i < length xs → test (get_or xs i 0) ≡ false →
    now ≡ filter test (take i xs) → now ≡ filter test (take (i + 1) xs)
missed test xs i now l t h =
    h ∙ sym (filter_more test xs i 0 l ∙ ap (λ (b : Bool). filter test (take i xs) ++ cond b (get_or xs i 0 ∷ []) []) t ∙ append-nil (filter test (take i xs)))
