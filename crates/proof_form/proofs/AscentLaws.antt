-- The loop that tests whether numerals ascend.
use Rattle.std.proofs.Common.{◌≡◌, ℕ, ◌+◌, ◌-◌, ◌<◌, ◌≤◌, Bool, true, false, ◌&&◌, List, [], ◌∷◌, length, drop, get_or, refl, sym, ap, ◌∙◌, arith}
use Rattle.std.proofs.lemmas.List.{drop_more, length-drop}
use Rattle.proof_form.specs.declared.numerals.Numeral.{Numeral}
use Rattle.proof_form.specs.Numerals.{numeral_is_below}
use Rattle.proof_form.specs.Lines.{ascend}

-- two neighbours, and the others
neighbours : (ns : List Numeral) (i : ℕ) (a b : Numeral) → 0 < i → i < length ns → a ≡ get_or ns (i - 1) a → b ≡ get_or ns i b → ascend (drop (i - 1) ns) ≡ (numeral_is_below a b && ascend (drop i ns))
neighbours ns i a b p l e f =
    let k = i - 1 in
    let at : drop k ns ≡ a ∷ drop (k + 1) ns = drop_more ns k a (omega arith) ∙ ap (λ n. n ∷ drop (k + 1) ns) (sym e) in
    let next_is : k + 1 ≡ i = omega arith in
    let behind : drop i ns ≡ b ∷ drop (i + 1) ns = drop_more ns i b l ∙ ap (λ n. n ∷ drop (i + 1) ns) (sym f) in
    ap ascend at ∙ ap (λ (j : ℕ). ascend (a ∷ drop j ns)) next_is ∙ ap (λ ms. ascend (a ∷ ms)) behind ∙ ap (λ ms. numeral_is_below a b && ascend ms) (sym behind)

pub ascends : (ns : List Numeral) (i : ℕ) (a b : Numeral) (r : Bool) → 0 < i → i < length ns → a ≡ get_or ns (i - 1) a → b ≡ get_or ns i b → true ≡ numeral_is_below a b → ascend (drop (i - 1) ns) ≡ r → ascend (drop (i + 1 - 1) ns) ≡ r
ascends ns i a b r p l e f h k =
    let n = neighbours ns i a b p l e f in
    let m = rw (sym h) at n in
    let same : i + 1 - 1 ≡ i = omega arith in ap (λ (j : ℕ). ascend (drop j ns)) same ∙ sym m ∙ k

pub descends : (ns : List Numeral) (i : ℕ) (a b : Numeral) (r : Bool) → 0 < i → i < length ns → a ≡ get_or ns (i - 1) a → b ≡ get_or ns i b → false ≡ numeral_is_below a b → ascend (drop (i - 1) ns) ≡ r → false ≡ r
descends ns i a b r p l e f h k = let n = neighbours ns i a b p l e f in let m = rw (sym h) at n in sym m ∙ k

at_most_one : (ns : List Numeral) → length ns ≤ 1 → ascend ns ≡ true
at_most_one [] h = refl
at_most_one (n ∷ []) h = refl
at_most_one (n ∷ (m ∷ ns)) h = absurd (omega arith)

pub last_reached : (ns : List Numeral) (i : ℕ) (r : Bool) → length ns ≤ i → ascend (drop (i - 1) ns) ≡ r → true ≡ r
last_reached ns i r l k = sym (at_most_one (drop (i - 1) ns) (let d = length-drop (i - 1) ns in omega arith)) ∙ k
