-- Numbers that pass a test behind others, read from the front: what one number more adds.
use Rattle.std.proofs.Common.{◌≡◌, ◌∙◌, ℕ, ◌+◌, ◌<◌, Bool, true, false, cond, List, [], ◌∷◌, ◌++◌, length, take, get_or, sym, ap, append_assoc}
use Rattle.std.specs.Prelude.{filter}
use Rattle.std.proofs.lemmas.List.{append-nil}
use Rattle.std.proofs.lemmas.List.Elements.{filter_more}

pub passed_behind : (test : ℕ → Bool) (front xs : List ℕ) (i : ℕ) (now new : List ℕ) → i < length xs → test (get_or xs i 0) ≡ true →
    now ≡ front ++ filter test (take i xs) → new ≡ now ++ get_or xs i 0 ∷ [] → new ≡ front ++ filter test (take (i + 1) xs)
passed_behind test front xs i now new l t h k =
    k ∙ ap (λ (ns : List ℕ). ns ++ get_or xs i 0 ∷ []) h ∙ append_assoc front (filter test (take i xs)) (get_or xs i 0 ∷ [])
    ∙ ap (λ (ns : List ℕ). front ++ ns) (sym (filter_more test xs i 0 l ∙ ap (λ (b : Bool). filter test (take i xs) ++ cond b (get_or xs i 0 ∷ []) []) t))

pub missed_behind : (test : ℕ → Bool) (front xs : List ℕ) (i : ℕ) (now : List ℕ) → i < length xs → test (get_or xs i 0) ≡ false →
    now ≡ front ++ filter test (take i xs) → now ≡ front ++ filter test (take (i + 1) xs)
missed_behind test front xs i now l t h =
    h ∙ ap (λ (ns : List ℕ). front ++ ns)
    (sym (filter_more test xs i 0 l ∙ ap (λ (b : Bool). filter test (take i xs) ++ cond b (get_or xs i 0 ∷ []) []) t ∙ append-nil (filter test (take i xs))))
