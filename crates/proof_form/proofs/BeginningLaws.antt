-- The first wrong line is the first with which the text of no annotation begins.
use Rattle.std.proofs.Common.{◌≡◌, ℕ, zero, suc, ◌+◌, ◌-◌, ◌^◌, ◌<◌, ◌≤◌, true, List, [], ◌∷◌, ◌++◌, length, map, take, codes, inl, inr, refl, sym, ap, ◌∙◌, subst, arith, append_assoc}
use Rattle.std.proofs.lemmas.List.{append-nil, map-append}
use Rattle.proof_form.specs.Annotations.{Content, is_annotation, item_lines, ended, rounds_line, coarse_line, form_lines, AreShort}
use Rattle.proof_form.specs.Standing.{item_text, end_line, FirstWrong, no_content, IsCoarseLine, WrongBehindCoarse, WrongBehindForm, WrongBehindRounds, WrongBehindSafe, FirstWrongOfText}
use Rattle.proof_form.specs.Beginnings.{with_header, AreText, CanBegin, StandOnly}
use Rattle.proof_form.proofs.CoarseLaws.{short_more}
use Rattle.proof_form.proofs.SpelledLaws.{content_completes, header_not_wrong}
use Rattle.proof_form.proofs.WholeLaws.{item_more}

-- the lines of a text are not wrong
text_not_wrong : (ls : List (List ℕ)) (line : ℕ) → AreText ls → FirstWrongOfText ls line → ⊥
text_not_wrong ls line t wrong =
    header_not_wrong _ t.rounds t.coarse line t.annotation t.small t.short (content_completes t.annotation t.valid) (subst (λ ms. FirstWrongOfText ms line) t.spelled wrong)

-- Only the lines up to the wrong one count

wrong_from : (ls : List (List ℕ)) (m line : ℕ) (a : Content) → FirstWrong m a ls line → m ≤ line
wrong_from [] m line a h = omega arith
wrong_from (l ∷ ls) m line a (inl h) = let e = h.2 in omega arith
wrong_from (l ∷ ls) m line a (inr (inl h)) = let e = h.2 in omega arith
wrong_from (l ∷ ls) m line a (inr (inr h)) = let k = wrong_from ls (m + 1) line h.0 h.2 in omega arith

wrong_with_more : (ls : List (List ℕ)) (m k line : ℕ) (a : Content) (more : List (List ℕ)) → FirstWrong m a ls line → line ≡ m + k → k < length ls → FirstWrong m a (take (suc k) ls ++ more) line
wrong_with_more [] m k line a more h e l = absurd (omega arith)
wrong_with_more (x ∷ []) m k line a more (inl h) e l = absurd (h.1 refl)
wrong_with_more (x ∷ (y ∷ ls)) m zero line a more (inl h) e l = absurd (let f = h.2 in omega arith)
wrong_with_more (x ∷ (y ∷ ls)) m (suc k) line a more (inl h) e l = inl (h.0, λ none. (let no : ⊥ = cc in no), h.2)
wrong_with_more (x ∷ ls) m k line a more (inr (inl h)) e l = inr (inl h)
wrong_with_more (x ∷ ls) m zero line a more (inr (inr h)) e l = absurd (let f = wrong_from ls (m + 1) line h.0 h.2 in omega arith)
wrong_with_more (x ∷ ls) m (suc k) line a more (inr (inr h)) e l = inr (inr (h.0, h.1, wrong_with_more ls (m + 1) k line h.0 more h.2 (omega arith) (omega arith)))

-- The lines before the wrong one can stand

module _ (rounds : ℕ) (coarse : List ℕ) (small : rounds < 2 ^ 64) (short : AreShort coarse) where
  begins_with : (a : Content) → is_annotation a ≡ true → CanBegin (with_header rounds coarse (map ended (item_lines a)))
  begins_with a valid = record {
    more = end_line ∷ [];
    text = record { rounds = rounds; coarse = coarse; annotation = a; small = small; short = short; valid = valid; spelled = header_more (map ended (item_lines a)) (end_line ∷ []) };
  }
    where
      header_more : (xs ys : List (List ℕ)) → with_header rounds coarse xs ++ ys ≡ with_header rounds coarse (xs ++ ys)
      header_more xs ys = ap (λ ls. ended (codes "safe") ∷ (ended (rounds_line rounds) ∷ ls)) (append_assoc (map ended (form_lines coarse)) xs ys)

  begins_whole : (a : Content) → is_annotation a ≡ true → CanBegin (with_header rounds coarse (map ended (item_lines a) ++ end_line ∷ []))
  begins_whole a valid = record { more = []; text = record { rounds = rounds; coarse = coarse; annotation = a; small = small; short = short; valid = valid; spelled = append-nil _ } }

  nothing_more : (a : Content) → CanBegin (with_header rounds coarse (map ended (item_lines a))) → CanBegin (with_header rounds coarse (map ended (item_lines a) ++ []))
  nothing_more a h = subst (λ ls. CanBegin (with_header rounds coarse ls)) (sym (append-nil (map ended (item_lines a)))) h

  stand_before : (ls : List (List ℕ)) (m k line : ℕ) (a : Content) → is_annotation a ≡ true → FirstWrong m a ls line → line ≡ m + k → (k ≤ length ls) × CanBegin (with_header rounds coarse (map ended (item_lines a) ++ take k ls))
  stand_before [] m zero line a valid h e = (omega arith, nothing_more a (begins_with a valid))
  stand_before [] m (suc k) line a valid h e = absurd (omega arith)
  stand_before (l ∷ ls) m zero line a valid h e = (omega arith, nothing_more a (begins_with a valid))
  stand_before (l ∷ ls) m (suc k) line a valid (inl h) e =
      let one : k ≡ 0 = (let f = h.2 in omega arith) in
      (omega arith, subst (λ (j : ℕ). CanBegin (with_header rounds coarse (map ended (item_lines a) ++ l ∷ take j ls))) (sym one) (subst (λ x. CanBegin (with_header rounds coarse (map ended (item_lines a) ++ x ∷ []))) (sym h.0) (begins_whole a valid)))
  stand_before (l ∷ ls) m (suc k) line a valid (inr (inl h)) e = absurd (let f = h.2 in omega arith)
  stand_before (l ∷ ls) m (suc k) line a valid (inr (inr h)) e =
      let b = h.0 in
      let more = item_more a b h.1.item h.1.is h.1.added in
      let rest = stand_before ls (m + 1) k line b (more.valid valid) h.2 (omega arith) in
      let lines : map ended (item_lines b) ≡ map ended (item_lines a) ++ l ∷ [] =
      ap (map ended) more.lines ∙ map-append ended (item_lines a) (item_text a h.1.item ∷ []) ∙ ap (λ x. map ended (item_lines a) ++ x ∷ []) (sym h.1.spelled) in
      let all : map ended (item_lines b) ++ take k ls ≡ map ended (item_lines a) ++ l ∷ take k ls = ap (λ xs. xs ++ take k ls) lines ∙ append_assoc (map ended (item_lines a)) (l ∷ []) (take k ls) in
      ((let f = rest.0 in omega arith), subst (λ xs. CanBegin (with_header rounds coarse xs)) all rest.1)

-- The header

-- with another line of the rounds the header alone begins a text
begins_header : CanBegin []
begins_header = record { more = with_header 0 [] (end_line ∷ []); text = record { rounds = 0; coarse = []; annotation = no_content; small = omega arith; short = tt; valid = refl; spelled = refl } }

begins_safe : CanBegin (ended (codes "safe") ∷ [])
begins_safe = record {
  more = ended (rounds_line 0) ∷ (ended (codes "annotation 1") ∷ (end_line ∷ []));
  text = record { rounds = 0; coarse = []; annotation = no_content; small = omega arith; short = tt; valid = refl; spelled = refl };
}

begins_rounds : (n : ℕ) → n < 2 ^ 64 → CanBegin (ended (codes "safe") ∷ (ended (rounds_line n) ∷ []))
begins_rounds n small = record { more = ended (codes "annotation 1") ∷ (end_line ∷ []); text = record { rounds = n; coarse = []; annotation = no_content; small = small; short = tt; valid = refl; spelled = refl } }

-- with the line of another coarse letter `annotation 2` begins a text
begins_form : (n : ℕ) → n < 2 ^ 64 → CanBegin (ended (codes "safe") ∷ (ended (rounds_line n) ∷ (ended (codes "annotation 2") ∷ [])))
begins_form n small = record {
  more = ended (coarse_line 0) ∷ (end_line ∷ []);
  text = record { rounds = n; coarse = 0 ∷ []; annotation = no_content; small = small; short = (omega arith, tt); valid = refl; spelled = refl };
}

-- so many lines can stand, and the line counts from there
record Counted (ls : List (List ℕ)) (line n : ℕ) : Type 0 where
  is : line ≡ n + 1
  within : n ≤ length ls
  before : CanBegin (take n ls)
  kept : (more : List (List ℕ)) → n < length ls → FirstWrongOfText (take (n + 1) ls ++ more) line

from_counted : (ls : List (List ℕ)) (line n : ℕ) → FirstWrongOfText ls line → Counted ls line n → StandOnly n ls
from_counted ls line n wrong c = record {
  within = c.within;
  before = c.before;
  next = λ l b. text_not_wrong (take (n + 1) ls ++ b.more) line b.text (c.kept b.more l);
  not_whole = λ t. text_not_wrong ls line t wrong;
}

-- ---- behind the lines of coarse letters

-- So many of the lines behind those of these letters can stand, and the line counts from there.
record CountedBehind (rounds : ℕ) (coarse : List ℕ) (ls : List (List ℕ)) (n line k : ℕ) : Type 0 where
  is : line ≡ n + k
  within : k ≤ length ls
  before : CanBegin (with_header rounds coarse (take k ls))
  kept : (more : List (List ℕ)) → k < length ls → WrongBehindCoarse n (take (suc k) ls ++ more) line

-- one more letter is one more line
letter_more : (rounds c : ℕ) (cs : List ℕ) (n : ℕ) (ls : List (List ℕ)) → with_header rounds ((c ∷ cs) ++ n ∷ []) ls ≡ with_header rounds (c ∷ cs) (ended (coarse_line n) ∷ ls)
letter_more rounds c cs n ls =
    let lines : map ended (map coarse_line (cs ++ n ∷ [])) ≡ map ended (map coarse_line cs) ++ ended (coarse_line n) ∷ [] =
    ap (map ended) (map-append coarse_line cs (n ∷ [])) ∙ map-append ended (map coarse_line cs) (coarse_line n ∷ []) in
    ap (λ xs. ended (codes "safe") ∷ (ended (rounds_line rounds) ∷ (ended (codes "annotation 2") ∷ (ended (coarse_line c) ∷ xs))))
    (ap (λ xs. xs ++ ls) lines ∙ append_assoc (map ended (map coarse_line cs)) (ended (coarse_line n) ∷ []) ls)

counted_coarse : (ls : List (List ℕ)) (rounds c : ℕ) (cs : List ℕ) (n line : ℕ) → rounds < 2 ^ 64 → AreShort (c ∷ cs) → WrongBehindCoarse n ls line → (k : ℕ) × CountedBehind rounds (c ∷ cs) ls n line k
counted_coarse [] rounds c cs n line small short w =
    (0, record { is = omega arith; within = omega arith; before = begins_with rounds (c ∷ cs) small short no_content refl; kept = λ more low. absurd (omega arith) })
counted_coarse (l ∷ ls) rounds c cs n line small short (inl w) =
    let from = wrong_from (l ∷ ls) n line no_content w.1 in
    let is : line ≡ n + (line - n) = omega arith in
    let b = stand_before rounds (c ∷ cs) small short (l ∷ ls) n (line - n) line no_content refl w.1 is in
    (line - n, record { is = is; within = b.0; before = b.1; kept = λ more low. inl (w.0, wrong_with_more (l ∷ ls) n (line - n) line no_content more w.1 is low) })
counted_coarse (l ∷ ls) rounds c cs n line small short (inr w) =
    let rest = counted_coarse ls rounds c (cs ++ w.0 ∷ []) (n + 1) line small (short.0, short_more cs w.0 short.1 w.1.0) w.2 in
    let k = rest.0 in
    let lines : with_header rounds (c ∷ (cs ++ w.0 ∷ [])) (take k ls) ≡ with_header rounds (c ∷ cs) (l ∷ take k ls) =
    letter_more rounds c cs w.0 (take k ls) ∙ ap (λ x. with_header rounds (c ∷ cs) (x ∷ take k ls)) (sym w.1.1) in (
      suc k,
      record {
        is = (let e = rest.1.is in omega arith);
        within = (let e = rest.1.within in omega arith);
        before = subst CanBegin lines rest.1.before;
        kept = λ more low. inr (w.0, w.1, rest.1.kept more (omega arith));
      },
    )

-- ---- behind the header

header_is : (rounds : ℕ) (coarse : List ℕ) (l r : List ℕ) (xs : List (List ℕ)) → l ≡ ended (codes "safe") → r ≡ ended (rounds_line rounds) → with_header rounds coarse xs ≡ l ∷ (r ∷ (map ended (form_lines coarse) ++ xs))
header_is rounds coarse l r xs e f =
    ap (λ x. x ∷ (ended (rounds_line rounds) ∷ (map ended (form_lines coarse) ++ xs))) (sym e) ∙ ap (λ x. l ∷ (x ∷ (map ended (form_lines coarse) ++ xs))) (sym f)

-- behind `annotation 1`
counted_items : (l r t : List ℕ) (ls : List (List ℕ)) (line k rounds : ℕ) → rounds < 2 ^ 64 → l ≡ ended (codes "safe") → r ≡ ended (rounds_line rounds) → t ≡ ended (codes "annotation 1")
    → FirstWrong 4 no_content ls line → line ≡ 4 + k → Counted (l ∷ (r ∷ (t ∷ ls))) line (suc (suc (suc k)))
counted_items l r t ls line k rounds small e f g wrong is =
    let b = stand_before rounds [] small tt ls 4 k line no_content refl wrong is in
    let next : suc (suc (suc k)) + 1 ≡ suc (suc (suc (suc k))) = omega arith in
    let lines : with_header rounds [] (take k ls) ≡ l ∷ (r ∷ (t ∷ take k ls)) = header_is rounds [] l r (take k ls) e f ∙ ap (λ x. l ∷ (r ∷ (x ∷ take k ls))) (sym g) in
    record {
      is = omega arith;
      within = (let w = b.0 in omega arith);
      before = subst CanBegin lines b.1;
      kept = λ more low. subst (λ (j : ℕ). FirstWrongOfText (take j (l ∷ (r ∷ (t ∷ ls))) ++ more) line) (sym next)
          (inr (e, inr (rounds, small, f, inr (inl (g, wrong_with_more ls 4 k line no_content more wrong is (omega arith))))));
    }

-- behind `annotation 2` and the line of a coarse letter
counted_letters : (l r t u : List ℕ) (ls : List (List ℕ)) (c line rounds : ℕ) → rounds < 2 ^ 64 → l ≡ ended (codes "safe") → r ≡ ended (rounds_line rounds) → t ≡ ended (codes "annotation 2")
    → IsCoarseLine u c → WrongBehindCoarse 5 ls line → (n : ℕ) × Counted (l ∷ (r ∷ (t ∷ (u ∷ ls)))) line n
counted_letters l r t u ls c line rounds small e f g is wrong =
    let b = counted_coarse ls rounds c [] 5 line small (is.0, tt) wrong in
    let k = b.0 in
    let next : suc (suc (suc (suc k))) + 1 ≡ suc (suc (suc (suc (suc k)))) = omega arith in
    let lines : with_header rounds (c ∷ []) (take k ls) ≡ l ∷ (r ∷ (t ∷ (u ∷ take k ls))) =
    header_is rounds (c ∷ []) l r (take k ls) e f ∙ ap (λ x. l ∷ (r ∷ (x ∷ (ended (coarse_line c) ∷ take k ls)))) (sym g) ∙ ap (λ x. l ∷ (r ∷ (t ∷ (x ∷ take k ls)))) (sym is.1) in (
      suc (suc (suc (suc k))),
      record {
        is = (let w = b.1.is in omega arith);
        within = (let w = b.1.within in omega arith);
        before = subst CanBegin lines b.1.before;
        kept = λ more low. subst (λ (j : ℕ). FirstWrongOfText (take j (l ∷ (r ∷ (t ∷ (u ∷ ls)))) ++ more) line) (sym next)
            (inr (e, inr (rounds, small, f, inr (inr (g, inr (c, is, b.1.kept more (omega arith)))))));
      },
    )

counted_behind_form : (l r t : List ℕ) (ls : List (List ℕ)) (line rounds : ℕ) → rounds < 2 ^ 64 → l ≡ ended (codes "safe") → r ≡ ended (rounds_line rounds) → t ≡ ended (codes "annotation 2")
    → WrongBehindForm ls line → (n : ℕ) × Counted (l ∷ (r ∷ (t ∷ ls))) line n
counted_behind_form l r t [] line rounds small e f g w =
    let all = ap (λ x. x ∷ (ended (rounds_line rounds) ∷ (ended (codes "annotation 2") ∷ []))) (sym e) ∙ ap (λ x. l ∷ (x ∷ (ended (codes "annotation 2") ∷ []))) (sym f) ∙ ap (λ x. l ∷ (r ∷ (x ∷ []))) (sym g) in
    (3, record { is = w; within = omega arith; before = subst CanBegin all (begins_form rounds small); kept = λ more low. absurd (omega arith) })
counted_behind_form l r t (u ∷ ls) line rounds small e f g (inl w) =
    let all = ap (λ x. x ∷ (ended (rounds_line rounds) ∷ (ended (codes "annotation 2") ∷ []))) (sym e) ∙ ap (λ x. l ∷ (x ∷ (ended (codes "annotation 2") ∷ []))) (sym f) ∙ ap (λ x. l ∷ (r ∷ (x ∷ []))) (sym g) in
    (3, record { is = w.1; within = omega arith; before = subst CanBegin all (begins_form rounds small); kept = λ more low. inr (e, inr (rounds, small, f, inr (inr (g, inl w)))) })
counted_behind_form l r t (u ∷ ls) line rounds small e f g (inr w) = counted_letters l r t u ls w.0 line rounds small e f g w.1 w.2

counted_behind_rounds : (l r : List ℕ) (ls : List (List ℕ)) (line rounds : ℕ) → rounds < 2 ^ 64 → l ≡ ended (codes "safe") → r ≡ ended (rounds_line rounds) → WrongBehindRounds ls line → (n : ℕ) × Counted (l ∷ (r ∷ ls)) line n
counted_behind_rounds l r [] line rounds small e f w =
    let both = ap (λ x. x ∷ (ended (rounds_line rounds) ∷ [])) (sym e) ∙ ap (λ x. l ∷ (x ∷ [])) (sym f) in
    (2, record { is = w; within = omega arith; before = subst CanBegin both (begins_rounds rounds small); kept = λ more low. absurd (omega arith) })
counted_behind_rounds l r (t ∷ ls) line rounds small e f (inl w) =
    let both = ap (λ x. x ∷ (ended (rounds_line rounds) ∷ [])) (sym e) ∙ ap (λ x. l ∷ (x ∷ [])) (sym f) in
    (2, record { is = w.2; within = omega arith; before = subst CanBegin both (begins_rounds rounds small); kept = λ more low. inr (e, inr (rounds, small, f, inl w)) })
counted_behind_rounds l r (t ∷ ls) line rounds small e f (inr (inl w)) =
    let from = wrong_from ls 4 line no_content w.1 in
    (suc (suc (suc (line - 4))), counted_items l r t ls line (line - 4) rounds small e f w.0 w.1 (omega arith))
counted_behind_rounds l r (t ∷ ls) line rounds small e f (inr (inr w)) = counted_behind_form l r t ls line rounds small e f w.0 w.1

counted_behind_safe : (l : List ℕ) (ls : List (List ℕ)) (line : ℕ) → l ≡ ended (codes "safe") → WrongBehindSafe ls line → (n : ℕ) × Counted (l ∷ ls) line n
counted_behind_safe l [] line e w =
    (1, record { is = w; within = omega arith; before = subst (λ x. CanBegin (x ∷ [])) (sym e) begins_safe; kept = λ more low. absurd (omega arith) })
counted_behind_safe l (r ∷ ls) line e (inl w) =
    (1, record { is = w.1; within = omega arith; before = subst (λ x. CanBegin (x ∷ [])) (sym e) begins_safe; kept = λ more low. inr (e, inl w) })
counted_behind_safe l (r ∷ ls) line e (inr w) = counted_behind_rounds l r ls line w.0 w.1 e w.2 w.3

counted : (ls : List (List ℕ)) (line : ℕ) → FirstWrongOfText ls line → (n : ℕ) × Counted ls line n
counted [] line w = (0, record { is = w; within = omega arith; before = begins_header; kept = λ more low. absurd (omega arith) })
counted (l ∷ ls) line (inl w) = (0, record { is = w.1; within = omega arith; before = begins_header; kept = λ more low. inl w })
counted (l ∷ ls) line (inr w) = counted_behind_safe l ls line w.0 w.1

-- the first wrong line is the first with which no text begins, and the lines are no whole text
pub wrong_stands_only : (ls : List (List ℕ)) (line : ℕ) → FirstWrongOfText ls line → (n : ℕ) × (line ≡ n + 1) × StandOnly n ls
wrong_stands_only ls line w = let c = counted ls line w in (c.0, c.1.is, from_counted ls line c.0 w c.1)
