-- What is made of a text that is split at a mark, or of the whole text where it is not split.
use Rattle.std.proofs.Common.{◌≡◌, ℕ, ◌<◌, List, [], ◌++◌, length, take, drop, Option, None, Some, inl, inr, sym, ap, ◌∙◌, subst}
use Rattle.std.proofs.lemmas.List.{take-append-drop}
use Rattle.std.specs.Prelude.{MatchOption, unwrap_or}
use Rattle.std.specs.Str.Pattern.{FindsText, SplitsAroundMatch}
use Rattle.table_reading.specs.Parted.{IsParted}
use denote.Ref.{Bor}

pub parted_is : (mark text : List ℕ) (r : Option (Bor (List ℕ) × Bor (List ℕ))) (d t : Bor (List ℕ) × Bor (List ℕ)) → MatchOption r (FindsText mark text None) (λ x. SplitsAroundMatch (FindsText mark) text x.0.now x.1.now) →
    t ≡ unwrap_or r d → d.0.now ≡ text → d.1.now ≡ [] → IsParted mark text t.0.now t.1.now
parted_is mark text None d t h e a b =
    let x : t.0.now ≡ d.0.now = ap (λ (p : Bor (List ℕ) × Bor (List ℕ)). p.0.now) e in
    let y : t.1.now ≡ d.1.now = ap (λ (p : Bor (List ℕ) × Bor (List ℕ)). p.1.now) e in
    inr (record { whole = x ∙ a; rest = y ∙ b; nowhere = h })
parted_is mark text (Some s) d t h e a b =
    let x : t.0.now ≡ s.0.now = ap (λ (p : Bor (List ℕ) × Bor (List ℕ)). p.0.now) e in
    let y : t.1.now ≡ s.1.now = ap (λ (p : Bor (List ℕ) × Bor (List ℕ)). p.1.now) e in
    let front : take h.0 text ≡ t.0.now = sym (x ∙ h.3) in
    let back : drop h.1 text ≡ t.1.now = sym (y ∙ h.4) in
    let long : length t.0.now ≡ h.0 = ap (λ (xs : List ℕ). length xs) x ∙ h.6 in
    let split : text ≡ take h.0 text ++ (mark ++ drop h.1 text) = sym (take-append-drop h.0 text) ∙ ap (λ (xs : List ℕ). take h.0 text ++ xs) h.2.1.split in
    inl (record {
      whole = split ∙ ap (λ (xs : List ℕ). xs ++ (mark ++ drop h.1 text)) front ∙ ap (λ (xs : List ℕ). t.0.now ++ (mark ++ xs)) back;
      first = λ k l. h.2.0 k (subst (λ (m : ℕ). k < m) long l);
    })
