-- The lines that are kept of a story.
use Rattle.std.proofs.Common.{◌≡◌, ℕ, zero, suc, ◌+◌, ◌-◌, ◌<◌, ◌≤◌, max, Bool, true, false, cond, ◌||◌, nat_le, List, [], ◌∷◌, ◌++◌, take, drop, map, length, refl, ap, sym, ◌∙◌, arith, append_assoc, length-append, length-drop}
use Rattle.std.specs.List.{concat}
use Rattle.std.proofs.lemmas.List.{take-append-le, drop-append-le, take-append-drop, length-map}
use Rattle.std.proofs.lemmas.List.Folds.{concat-append}
use Rattle.explain_top.specs.declared.run_story.keeping.Lines.{Lines}
use Rattle.explain_top.specs.RunStory.Texts.{most, left_out_line, shortened}
use Rattle.explain_top.specs.RunStory.Lines.{Keeps, gap}

right_unit : (xs : List ℕ) → xs ++ [] ≡ xs
right_unit [] = refl
right_unit (x ∷ xs) = ap (λ (ys : List ℕ). x ∷ ys) (right_unit xs)

take_all : (n : ℕ) (ls : List (List ℕ)) → length ls ≤ n → take n ls ≡ ls
take_all zero [] h = refl
take_all zero (l ∷ ls) h = absurd (omega arith)
take_all (suc n) [] h = refl
take_all (suc n) (l ∷ ls) h = ap (λ (ks : List (List ℕ)). l ∷ ks) (take_all n ls (omega arith))

drop_all : (n : ℕ) (ls : List (List ℕ)) → length ls ≤ n → drop n ls ≡ []
drop_all zero [] h = refl
drop_all zero (l ∷ ls) h = absurd (omega arith)
drop_all (suc n) [] h = refl
drop_all (suc n) (l ∷ ls) h = drop_all n ls (omega arith)

drop_one_more : (n : ℕ) (ls : List (List ℕ)) → drop 1 (drop n ls) ≡ drop (n + 1) ls
drop_one_more zero ls = refl
drop_one_more (suc n) [] = sym (drop_all (suc n + 1) [] (omega arith))
drop_one_more (suc n) (l ∷ ls) = let more : suc (n + 1) ≡ suc n + 1 = omega arith in drop_one_more n ls ∙ ap (λ (k : ℕ). drop k (l ∷ ls)) more

one_text : (l : List ℕ) → concat (l ∷ []) ≡ l
one_text l = right_unit l

all_texts : (ls : List (List ℕ)) (l : List ℕ) → concat (ls ++ l ∷ []) ≡ concat ls ++ l
all_texts ls l = concat-append ls (l ∷ []) ∙ ap (λ (t : List ℕ). concat ls ++ t) (one_text l)

-- from where on the last lines are kept of so many
abbrev behind : ℕ → ℕ
behind n = max most (n - most)

module _ (ls : List (List ℕ)) (l : List ℕ) where
  counted : length (ls ++ l ∷ []) ≡ length ls + 1
  counted = omega (arith, length-append ls (l ∷ []))

  front_text : (all : Bool) → (all ≡ false → length ls < most) → concat (cond all (ls ++ l ∷ []) (take most (ls ++ l ∷ []))) ≡ concat (cond all ls (take most ls)) ++ l
  front_text true h = all_texts ls l
  front_text false h =
      ap concat (take_all most (ls ++ l ∷ []) (let short : length ls < most = h refl in omega (arith, counted)))
      ∙ all_texts ls l
      ∙ ap (λ (ks : List (List ℕ)). concat ks ++ l) (sym (take_all most ls (let short : length ls < most = h refl in omega arith)))

  front_last : (all : Bool) → (all ≡ false → length ls < most) → cond all [] (drop (behind (length (ls ++ l ∷ []))) (ls ++ l ∷ [])) ≡ cond all [] (drop (behind (length ls)) ls)
  front_last true h = refl
  front_last false h =
      drop_all (behind (length (ls ++ l ∷ []))) (ls ++ l ∷ []) (let short : length ls < most = h refl in omega (arith, counted))
      ∙ sym (drop_all (behind (length ls)) ls (let short : length ls < most = h refl in omega arith))

  back_first : most ≤ length ls → take most (ls ++ l ∷ []) ≡ take most ls
  back_first h = take-append-le most ls (l ∷ []) h

  back_more : most ≤ length ls → length ls < most + most → drop (behind (length (ls ++ l ∷ []))) (ls ++ l ∷ []) ≡ drop (behind (length ls)) ls ++ l ∷ []
  back_more h k =
      let one : behind (length (ls ++ l ∷ [])) ≡ most = omega (arith, counted) in
      let two : behind (length ls) ≡ most = omega arith in
      ap (λ (n : ℕ). drop n (ls ++ l ∷ [])) one ∙ drop-append-le most ls (l ∷ []) h ∙ ap (λ (n : ℕ). drop n ls ++ l ∷ []) (sym two)

  back_full : most + most ≤ length ls → drop (behind (length (ls ++ l ∷ []))) (ls ++ l ∷ []) ≡ drop 1 (drop (behind (length ls)) ls) ++ l ∷ []
  back_full h =
      let one : behind (length (ls ++ l ∷ [])) ≡ behind (length ls) + 1 = omega (arith, counted) in
      ap (λ (n : ℕ). drop n (ls ++ l ∷ [])) one
      ∙ drop-append-le (behind (length ls) + 1) ls (l ∷ []) (omega arith)
      ∙ ap (λ (ks : List (List ℕ)). ks ++ l ∷ []) (sym (drop_one_more (behind (length ls)) ls))

-- a line that is kept among the first, or among all
pub kept_front : (ls : List (List ℕ)) (l : List ℕ) (a b : Lines) → b.all ≡ a.all → b.first.items ≡ a.first.items ++ l → b.last.items ≡ a.last.items →
    (a.all ≡ false → length ls < most) → Keeps ls a → Keeps (ls ++ l ∷ []) b
kept_front ls l a b same first last few k = record {
  first =
      first ∙ ap (λ (t : List ℕ). t ++ l) k.first ∙ sym (front_text ls l a.all few)
      ∙ ap (λ (all : Bool). concat (cond all (ls ++ l ∷ []) (take most (ls ++ l ∷ [])))) (sym same);
  last =
      ap (map (λ l. l.items)) last ∙ k.last ∙ sym (front_last ls l a.all few)
      ∙ ap (λ (all : Bool). cond all [] (drop (behind (length (ls ++ l ∷ []))) (ls ++ l ∷ []))) (sym same);
}

-- a line that is kept behind the first, with the one before that is forgotten for it, or none
pub kept_back : (ls : List (List ℕ)) (l : List ℕ) (a b : Lines) → b.all ≡ a.all → a.all ≡ false → b.first.items ≡ a.first.items → most ≤ length ls →
    map (λ l. l.items) b.last.items ≡ cond (nat_le most (length a.last.items)) (drop 1 (map (λ l. l.items) a.last.items)) (map (λ l. l.items) a.last.items) ++ l ∷ [] →
    Keeps ls a → Keeps (ls ++ l ∷ []) b
kept_back ls l a b same not_all first many last k =
    let none : b.all ≡ false = same ∙ not_all in
    let before : map (λ l. l.items) a.last.items ≡ drop (behind (length ls)) ls = k.last ∙ ap (λ (all : Bool). cond all [] (drop (behind (length ls)) ls)) not_all in
    let count : length a.last.items ≡ length ls - behind (length ls) = sym (length-map a.last.items (λ l. l.items)) ∙ ap length before ∙ length-drop (behind (length ls)) ls in
    record {
      first =
          first ∙ k.first ∙ ap (λ (all : Bool). concat (cond all ls (take most ls))) not_all
          ∙ ap concat (sym (back_first ls l many))
          ∙ ap (λ (all : Bool). concat (cond all (ls ++ l ∷ []) (take most (ls ++ l ∷ [])))) (sym none);
      last =
          last ∙ ap (λ (ks : List (List ℕ)). cond (nat_le most (length a.last.items)) (drop 1 ks) ks ++ l ∷ []) before
          ∙ by count (nat_le most (length a.last.items)) refl
          ∙ ap (λ (all : Bool). cond all [] (drop (behind (length (ls ++ l ∷ []))) (ls ++ l ∷ []))) (sym none);
    }
  where
    by : length a.last.items ≡ length ls - behind (length ls) → (b : Bool) → nat_le most (length a.last.items) ≡ b →
        cond b (drop 1 (drop (behind (length ls)) ls)) (drop (behind (length ls)) ls) ++ l ∷ [] ≡ drop (behind (length (ls ++ l ∷ []))) (ls ++ l ∷ [])
    by count true e = sym (back_full ls l (let full : most ≤ length a.last.items = grind (arith, e) in omega arith))
    by count false e = sym (back_more ls l many (let few : length a.last.items < most = grind (arith, e) in omega arith))

-- the text of what is kept
pub finished : (ls : List (List ℕ)) (a : Lines) (text : List ℕ) → text ≡ (a.first.items ++ gap a.all (length ls)) ++ concat (map (λ l. l.items) a.last.items) → Keeps ls a → text ≡ concat (shortened a.all ls)
finished ls a text is k =
    is ∙ (λ i. (k.first i ++ gap a.all (length ls)) ++ concat (k.last i)) ∙ by a.all (nat_le (length ls) (most + most)) refl
  where
    by : (all b : Bool) → nat_le (length ls) (most + most) ≡ b →
        (concat (cond all ls (take most ls)) ++ cond (all || b) [] (left_out_line (length ls - (most + most)))) ++ concat (cond all [] (drop (behind (length ls)) ls))
        ≡ concat (cond (all || b) ls (take most ls ++ (left_out_line (length ls - (most + most)) ∷ drop (length ls - most) ls)))
    by true b e = right_unit (concat ls ++ []) ∙ right_unit (concat ls)
    by false true e =
        let few : length ls ≤ most + most = grind (arith, e) in
        let all_first : behind (length ls) ≡ most = omega arith in
        ap (λ (t : List ℕ). t ++ concat (drop (behind (length ls)) ls)) (right_unit (concat (take most ls)))
        ∙ ap (λ (n : ℕ). concat (take most ls) ++ concat (drop n ls)) all_first
        ∙ sym (concat-append (take most ls) (drop most ls))
        ∙ ap concat (take-append-drop most ls)
    by false false e =
        let many : most + most < length ls = grind (arith, e) in
        let from : behind (length ls) ≡ length ls - most = omega arith in
        let line = left_out_line (length ls - (most + most)) in
        append_assoc (concat (take most ls)) line (concat (drop (behind (length ls)) ls))
        ∙ ap (λ (n : ℕ). concat (take most ls) ++ (line ++ concat (drop n ls))) from
        ∙ sym (concat-append (take most ls) (line ∷ drop (length ls - most) ls))
