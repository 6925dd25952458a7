-- Loops that count the members of a list that pass a test.
use Rattle.std.proofs.Common.{◌≡◌, ◌∙◌, ℕ, suc, ◌+◌, ◌<◌, ◌≤◌, Bool, true, false, cond, List, ◌∷◌, length, drop, get_or, sym, ap, arith}
use Rattle.std.specs.Prelude.{filter}
use Rattle.std.proofs.lemmas.List.{drop_all}
use Rattle.letter_acts.specs.Frames.{places, added}
use Rattle.letter_acts.proofs.LoopLemmas.{drop_at}

pub places_pass : {X : Type 0} (test : X → Bool) (xs : List X) (i : ℕ) (x d : X) → x ≡ get_or xs i d → i < length xs → test x ≡ true →
    length (places test i (drop i xs)) ≡ length (places test (i + 1) (drop (i + 1) xs)) + 1
places_pass test xs i x d e l t =
    let next : i + 1 ≡ suc i = omega arith in
    let k = ap (λ ys. length (places test i ys)) (drop_at xs i x d e l) ∙ ap (λ b. length (added b i (places test (suc i) (drop (i + 1) xs)))) t in
    let m = ap (λ n. length (places test n (drop (i + 1) xs))) next in
    omega arith

pub places_miss : {X : Type 0} (test : X → Bool) (xs : List X) (i : ℕ) (x d : X) → x ≡ get_or xs i d → i < length xs → test x ≡ false →
    length (places test i (drop i xs)) ≡ length (places test (i + 1) (drop (i + 1) xs))
places_miss test xs i x d e l t =
    let next : i + 1 ≡ suc i = omega arith in
    ap (λ ys. length (places test i ys)) (drop_at xs i x d e l)
    ∙ ap (λ b. length (added b i (places test (suc i) (drop (i + 1) xs)))) t
    ∙ sym (ap (λ n. length (places test n (drop (i + 1) xs))) next)

pub places_end : {X : Type 0} (test : X → Bool) (xs : List X) (i : ℕ) → length xs ≤ i → length (places test i (drop i xs)) ≡ 0
places_end test xs i l = ap (λ ys. length (places test i ys)) (drop_all i xs l)

pub filter_pass : {X : Type 0} (test : X → Bool) (xs : List X) (i : ℕ) (x d : X) → x ≡ get_or xs i d → i < length xs → test x ≡ true →
    length (filter test (drop i xs)) ≡ length (filter test (drop (i + 1) xs)) + 1
filter_pass test xs i x d e l t = ap (λ ys. length (filter test ys)) (drop_at xs i x d e l) ∙ ap (λ b. length (cond b (x ∷ filter test (drop (i + 1) xs)) (filter test (drop (i + 1) xs)))) t ∙ omega arith

pub filter_miss : {X : Type 0} (test : X → Bool) (xs : List X) (i : ℕ) (x d : X) → x ≡ get_or xs i d → i < length xs → test x ≡ false →
    length (filter test (drop i xs)) ≡ length (filter test (drop (i + 1) xs))
filter_miss test xs i x d e l t = ap (λ ys. length (filter test ys)) (drop_at xs i x d e l) ∙ ap (λ b. length (cond b (x ∷ filter test (drop (i + 1) xs)) (filter test (drop (i + 1) xs)))) t

pub filter_end : {X : Type 0} (test : X → Bool) (xs : List X) (i : ℕ) → length xs ≤ i → length (filter test (drop i xs)) ≡ 0
filter_end test xs i l = ap (λ ys. length (filter test ys)) (drop_all i xs l)
