-- Terms that are made one by one from other terms.
use Rattle.std.proofs.Common.{◌≡◌, ℕ, ◌+◌, ◌<◌, ℤ, List, [], ◌∷◌, ◌++◌, map, length, get_or, drop, append_assoc, sym, ◌∙◌, ap}
use Rattle.std.proofs.lemmas.List.{drop_more}
use Rattle.cond_jumps.specs.declared.totals.Term.{Term}
use Rattle.cond_jumps.specs.LongView.{long}
use Rattle.cond_jumps.specs.Ties.Totals.{terms_of}
use Rattle.cond_jumps.proofs.MovingLemmas.{map_append}

-- each coefficient changed by f
abbrev pub changed : (ℤ → ℤ) → List (ℕ × ℤ) → List (ℕ × ℤ)
changed f ts = map (λ (t : ℕ × ℤ). (t.0, f t.1)) ts

-- one term more is made
pub term_turn : (f : ℤ → ℤ) (ts : List Term) (i : ℕ) (x y : Term) (done new : List Term) (whole : List (ℕ × ℤ)) → i < length ts → x ≡ get_or ts i x →
    y.column ≡ x.column → long y.coefficient ≡ f (long x.coefficient) → new ≡ done ++ y ∷ [] →
    terms_of done ++ changed f (terms_of (drop i ts)) ≡ whole → terms_of new ++ changed f (terms_of (drop (i + 1) ts)) ≡ whole
term_turn f ts i x y done new whole l h c v e w =
    let rest : List (ℕ × ℤ) = changed f (terms_of (drop (i + 1) ts)) in
    let a : terms_of new ≡ terms_of done ++ (y.column, long y.coefficient) ∷ [] =
    ap terms_of e ∙ map_append (λ (t : Term). (t.column, long t.coefficient)) done (y ∷ []) in
    let d : drop i ts ≡ x ∷ drop (i + 1) ts = drop_more ts i x l ∙ ap (λ (z : Term). z ∷ drop (i + 1) ts) (sym h) in
    let p : (y.column, long y.coefficient) ∷ rest ≡ (x.column, f (long x.coefficient)) ∷ rest = λ j. (c j, v j) ∷ rest in
    ap (λ (us : List (ℕ × ℤ)). us ++ rest) a ∙ append_assoc (terms_of done) ((y.column, long y.coefficient) ∷ []) rest
    ∙ ap (λ (us : List (ℕ × ℤ)). terms_of done ++ us) p
    ∙ sym (ap (λ (us : List Term). terms_of done ++ changed f (terms_of us)) d) ∙ w
