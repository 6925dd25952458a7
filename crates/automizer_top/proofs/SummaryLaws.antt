-- A text that is written part by part.
use Rattle.std.proofs.Common.{◌≡◌, ◌∙◌, ℕ, List, ◌++◌, ap, append_assoc}

pub five_written : (a b c d e t u v w x : List ℕ) → t ≡ a → u ≡ t ++ b → v ≡ u ++ c → w ≡ v ++ d → x ≡ w ++ e → x ≡ a ++ (b ++ (c ++ (d ++ e)))
five_written a b c d e t u v w x in_t in_u in_v in_w in_x =
    let second : u ≡ a ++ b = in_u ∙ ap (λ (y : List ℕ). y ++ b) in_t in
    let third : v ≡ (a ++ b) ++ c = in_v ∙ ap (λ (y : List ℕ). y ++ c) second in
    let fourth : w ≡ ((a ++ b) ++ c) ++ d = in_w ∙ ap (λ (y : List ℕ). y ++ d) third in
    in_x ∙ ap (λ (y : List ℕ). y ++ e) fourth ∙ simp append_assoc
