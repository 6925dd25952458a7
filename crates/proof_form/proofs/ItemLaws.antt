-- Loops that write the lines of an annotation.
use Rattle.std.proofs.Common.{◌≡◌, ℕ, zero, suc, ◌+◌, ◌<◌, ◌≤◌, Bool, true, List, [], ◌∷◌, ◌++◌, length, map, drop, get_or, codes, refl, sym, ap, ◌∙◌, arith, append_assoc}
use Rattle.std.specs.List.{flat_map, list_all}
use Rattle.std.proofs.lemmas.List.{append-nil, drop_more, drop_all}
use Rattle.proof_form.specs.Annotations.{numbered, ended}
use Rattle.proof_form.proofs.RunLaws.{both_hold}

module _ {C X : Type 0} (view : C → X) where
  -- each item passes the test
  pub item_passes : (test : X → Bool) (xs : List C) (i : ℕ) (x : C) → list_all test (map view xs) ≡ true → i < length xs → x ≡ get_or xs i x → test (view x) ≡ true
  item_passes test [] i x h l e = absurd (omega arith)
  item_passes test (y ∷ xs) zero x h l e = let k = both_hold (test (view y)) _ h in ap (λ z. test (view z)) e ∙ k.0
  item_passes test (y ∷ xs) (suc i) x h l e = let k = both_hold (test (view y)) _ h in item_passes test xs i x k.1 (omega arith) e

  -- what is written, and the lines of all from the place i on
  abbrev pub with_lines : (ℕ → X → List ℕ) → ℕ → List ℕ → List C → ℕ → List ℕ
  with_lines text n new xs i = new ++ flat_map ended (numbered text (i + n) (map view (drop i xs)))

  next_lines : (text : ℕ → X → List ℕ) (n : ℕ) (xs : List C) (i : ℕ) (x : C) → i < length xs → x ≡ get_or xs i x
      → flat_map ended (numbered text (i + n) (map view (drop i xs))) ≡ ended (text (i + n) (view x)) ++ flat_map ended (numbered text (i + 1 + n) (map view (drop (i + 1) xs)))
  next_lines text n xs i x l e =
      let number : suc (i + n) ≡ i + 1 + n = omega arith in
      ap (λ ys. flat_map ended (numbered text (i + n) (map view ys))) (drop_more xs i x l) ∙ ap (λ y. ended (text (i + n) (view y)) ++ flat_map ended (numbered text (suc (i + n)) (map view (drop (i + 1) xs)))) (sym e)
      ∙ ap (λ (k : ℕ). ended (text (i + n) (view x)) ++ flat_map ended (numbered text k (map view (drop (i + 1) xs)))) number

  pub lines_begin : (text : ℕ → X → List ℕ) (n : ℕ) (new : List ℕ) (xs : List C) → with_lines text n new xs 0 ≡ new ++ flat_map ended (numbered text n (map view xs))
  lines_begin text n new xs = let e : 0 + n ≡ n = omega arith in ap (λ (k : ℕ). new ++ flat_map ended (numbered text k (map view xs))) e

  -- one line more
  pub one_line : (text : ℕ → X → List ℕ) (n : ℕ) (xs : List C) (i : ℕ) (x : C) (new word more all : List ℕ) → i < length xs → x ≡ get_or xs i x → word ≡ new ++ text (i + n) (view x) → more ≡ word ++ 10 ∷ []
      → with_lines text n new xs i ≡ all → with_lines text n more xs (i + 1) ≡ all
  one_line text n xs i x new word more all l e w m h =
      let rest = flat_map ended (numbered text (i + 1 + n) (map view (drop (i + 1) xs))) in
      let line : more ≡ new ++ ended (text (i + n) (view x)) = m ∙ ap (λ t. t ++ 10 ∷ []) w ∙ append_assoc new (text (i + n) (view x)) (10 ∷ []) in
      ap (λ t. t ++ rest) line ∙ append_assoc new (ended (text (i + n) (view x))) rest ∙ ap (λ t. new ++ t) (sym (next_lines text n xs i x l e)) ∙ h

  pub all_lines : (text : ℕ → X → List ℕ) (n : ℕ) (xs : List C) (i : ℕ) (new all : List ℕ) → length xs ≤ i → with_lines text n new xs i ≡ all → new ≡ all
  all_lines text n xs i new all l h = sym (append-nil new) ∙ ap (λ ys. new ++ flat_map ended (numbered text (i + n) (map view ys))) (sym (drop_all i xs l)) ∙ h

-- lines without numbers
pub ended_texts : {C X : Type 0} (view : C → X) (text : X → List ℕ) (xs : List C) → flat_map (λ x. ended (text (view x))) xs ≡ flat_map ended (map text (map view xs))
ended_texts view text [] = refl
ended_texts view text (x ∷ xs) = ap (λ t. ended (text (view x)) ++ t) (ended_texts view text xs)

pub ended_after : (new text word more : List ℕ) → word ≡ new ++ text → more ≡ word ++ 10 ∷ [] → more ≡ new ++ ended text
ended_after new text word more w m = m ∙ ap (λ t. t ++ 10 ∷ []) w ∙ append_assoc new text (10 ∷ [])

flat_joined : (a b : List (List ℕ)) → flat_map ended (a ++ b) ≡ flat_map ended a ++ flat_map ended b
flat_joined [] b = refl
flat_joined (l ∷ a) b = ap (λ r. ended l ++ r) (flat_joined a b) ∙ sym (append_assoc (ended l) (flat_map ended a) (flat_map ended b))

-- the lines of four lists, written one after another
pub kinds_written : (old p q r all : List ℕ) (a b c d : List (List ℕ)) → p ≡ old ++ flat_map ended a → q ≡ p ++ flat_map ended b → r ≡ q ++ flat_map ended c → all ≡ r ++ flat_map ended d
    → all ≡ old ++ flat_map ended (a ++ (b ++ (c ++ d)))
kinds_written old p q r all a b c d f g h k =
    let fa = flat_map ended a in
    let fb = flat_map ended b in
    let fc = flat_map ended c in
    let fd = flat_map ended d in
    let flat : flat_map ended (a ++ (b ++ (c ++ d))) ≡ fa ++ (fb ++ (fc ++ fd)) =
    flat_joined a (b ++ (c ++ d)) ∙ ap (λ t. fa ++ t) (flat_joined b (c ++ d) ∙ ap (λ t. fb ++ t) (flat_joined c d)) in
    k ∙ ap (λ t. t ++ fd) (h ∙ ap (λ t. t ++ fc) (g ∙ ap (λ t. t ++ fb) f))
    ∙ append_assoc ((old ++ fa) ++ fb) fc fd ∙ append_assoc (old ++ fa) fb (fc ++ fd) ∙ append_assoc old fa (fb ++ (fc ++ fd)) ∙ ap (λ t. old ++ t) (sym flat)

pub ended_plain : {X : Type 0} (text : X → List ℕ) (xs : List X) → flat_map (λ x. ended (text x)) xs ≡ flat_map ended (map text xs)
ended_plain text [] = refl
ended_plain text (x ∷ xs) = ap (λ t. ended (text x) ++ t) (ended_plain text xs)

-- the header, the items and the end, written one after another
pub whole_written : (a b c d e f number form items : List ℕ) → a ≡ codes "safe\nrounds " → b ≡ a ++ number → c ≡ b ++ 10 ∷ [] → d ≡ c ++ form → e ≡ d ++ items → f ≡ e ++ codes "end\n"
    → f ≡ ended (codes "safe") ++ (ended (codes "rounds " ++ number) ++ (form ++ (items ++ ended (codes "end"))))
whole_written a b c d e f number form items g h i j k l =
    let first = codes "safe\nrounds " in
    let last = codes "end\n" in
    let all : f ≡ ((((first ++ number) ++ 10 ∷ []) ++ form) ++ items) ++ last =
    l ∙ ap (λ t. t ++ last) (k ∙ ap (λ t. t ++ items) (j ∙ ap (λ t. t ++ form) (i ∙ ap (λ t. t ++ 10 ∷ []) (h ∙ ap (λ t. t ++ number) g)))) in
    all ∙ append_assoc (((first ++ number) ++ 10 ∷ []) ++ form) items last ∙ append_assoc ((first ++ number) ++ 10 ∷ []) form (items ++ last)
    ∙ ap (λ t. t ++ (form ++ (items ++ last))) (append_assoc first number (10 ∷ [])) ∙ append_assoc first (number ++ 10 ∷ []) (form ++ (items ++ last))
