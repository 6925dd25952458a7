-- Lines of coarse letters: what is read of one, of as many as follow, and that no other line is one.
use Rattle.std.proofs.Common.{◌≡◌, ◌≢◌, ℕ, ◌+◌, ◌^◌, ◌<◌, ◌≤◌, Bool, false, nat_eq, List, [], ◌∷◌, ◌++◌, length, map, get_or, codes, Option, Some, None, Result, Ok, Err, ◌⊎◌, inl, inr, refl, sym, ap, ◌∙◌, subst, arith, length-append}
use Rattle.std.specs.Prelude.{OkIff}
use Rattle.std.specs.Result.{result_ok}
use Rattle.std.specs.List.{AllByRecursion, concat}
use Rattle.std.specs.Fmt.{decimal}
use Rattle.std.proofs.lemmas.Bool.{false≢true}
use Rattle.std.proofs.lemmas.Fmt.{decimal_injective}
use Rattle.std.proofs.lemmas.List.{append_cancel_left, append_cancel_right}
use Rattle.std.proofs.lemmas.Option.{none-some}
use Rattle.outer_io.specs.Lines.{lines_of}
use Rattle.proof_form.specs.declared.lines.StepLine.TheVariants as steps
use Rattle.proof_form.specs.Lines.{inside_triple, call_triple, back_triple}
use Rattle.proof_form.specs.Reading.{after}
use Rattle.proof_form.specs.Annotations.{Content, ended, coarse_line, form_lines, AreShort}
use Rattle.proof_form.specs.Standing.{Item, pred_item, triple_item, node_item, step_item, item_text, Adds, Completes, no_content, NoCoarseLine, FirstWrong, WrongBehindCoarse, WrongBehindForm, WrongBehindRounds}
use Rattle.proof_form.specs.TextReading.{first_line}
use Rattle.proof_form.specs.TextOutcomes.{LacksCoarse, ReadsLetter, coarse_lines, TakesFront}
use Rattle.proof_form.proofs.AfterLaws.{after_spells, after_reads}
use Rattle.proof_form.proofs.PlainLaws.{Plain, plain_append, plain_decimal}
use Rattle.proof_form.proofs.StandingLaws.{first_of_lines, unended, no_end, lines_joined}
use Rattle.proof_form.proofs.WholeLaws.{completes_not_wrong}

-- ---- what is read of one line

pub no_line_lacks_coarse : (text : List ℕ) → first_line text ≡ None → LacksCoarse (lines_of text)
no_line_lacks_coarse text h = here (unended text h)
  where
    here : ((text ≡ []) × (lines_of text ≡ [])) ⊎ (lines_of text ≡ text ∷ []) → LacksCoarse (lines_of text)
    here (inl e) = subst (λ ls. LacksCoarse ls) (sym e.1) tt
    here (inr e) = subst (λ ls. LacksCoarse ls) (sym e) (λ n is. no_end text (coarse_line n) h is.1)

pub other_word_lacks_coarse : (text l rest : List ℕ) → first_line text ≡ Some (l, rest) → after (codes "coarse ") l ≡ None → LacksCoarse (lines_of text)
other_word_lacks_coarse text l rest h none = subst (λ ls. LacksCoarse ls) (sym (first_of_lines text l rest h))
    (λ n is. none-some (decimal n) (sym none ∙ ap (after (codes "coarse ")) (append_cancel_right l (coarse_line n) (10 ∷ []) is.1) ∙ after_reads (codes "coarse ") (decimal n)))

pub other_number_lacks_coarse : (text l rest digits : List ℕ) → first_line text ≡ Some (l, rest) → after (codes "coarse ") l ≡ Some digits → ReadsLetter digits None → LacksCoarse (lines_of text)
other_number_lacks_coarse text l rest digits h word reads = subst (λ ls. LacksCoarse ls) (sym (first_of_lines text l rest h))
    (λ n is. reads n is.0 (append_cancel_left (codes "coarse ") digits (decimal n)
    (sym (after_spells (codes "coarse ") l digits word) ∙ append_cancel_right l (coarse_line n) (10 ∷ []) is.1)))

pub coarse_taken : (text l rest digits : List ℕ) (n : ℕ) → first_line text ≡ Some (l, rest) → after (codes "coarse ") l ≡ Some digits → digits ≡ decimal n → lines_of text ≡ ended (coarse_line n) ∷ lines_of rest
coarse_taken text l rest digits n h word is =
    first_of_lines text l rest h ∙ ap (λ m. ended m ∷ lines_of rest) (after_spells (codes "coarse ") l digits word ∙ ap (λ d. codes "coarse " ++ d) is)

-- a number has 32 bits, or the bytes write none that has
pub letter_read : {E : Type 0} (bytes : List ℕ) (n : ℕ) (r : Result ℕ E) (o : Option ℕ) → n < 2 ^ 64 → bytes ≡ decimal n → o ≡ result_ok r → OkIff r (n < 2 ^ 32) n → ReadsLetter bytes o
letter_read bytes n (Ok v) o low e is h =
    subst (λ (p : Option ℕ). ReadsLetter bytes p) (sym is) (subst (λ (k : ℕ). k < 2 ^ 32) (sym h.1) h.0, e ∙ ap decimal (sym h.1))
letter_read bytes n (Err z) o low e is h = subst (λ (p : Option ℕ). ReadsLetter bytes p) (sym is)
    (λ m small same. h (subst (λ (k : ℕ). k < 2 ^ 32) (decimal_injective m n (omega arith) low (sym same ∙ e)) small))

-- what follows a line is shorter
pub taken_shortens : (text l rest : List ℕ) → lines_of text ≡ ended l ∷ lines_of rest → length rest + 1 ≤ length text
taken_shortens text l rest e =
    let all : text ≡ ended l ++ rest = sym (lines_joined text) ∙ ap concat e ∙ ap (λ r. ended l ++ r) (lines_joined rest) in
    let a = ap length all in
    let b = length-append (ended l) rest in
    let c = length-append l (10 ∷ []) in omega arith

-- ---- what is read of as many as follow

-- the lines begin with those of these letters, and the others are those of the rest
pub record IsFront (text letters rest : List ℕ) : Type 0 where
  pub lines : lines_of text ≡ coarse_lines letters ++ lines_of rest
  pub short : AreShort letters
  pub within : length letters + length rest ≤ length text

pub front_begins : (text letters : List ℕ) → letters ≡ [] → IsFront text letters text
front_begins text letters e = subst (λ ns. IsFront text ns text) (sym e) (record { lines = refl; short = tt; within = omega arith })

pub short_more : (letters : List ℕ) (n : ℕ) → AreShort letters → n < 2 ^ 32 → AreShort (letters ++ n ∷ [])
short_more [] n s l = (l, tt)
short_more (m ∷ letters) n s l = (s.0, short_more letters n s.1 l)

coarse_more : (letters : List ℕ) (n : ℕ) (ls : List (List ℕ)) → coarse_lines letters ++ ended (coarse_line n) ∷ ls ≡ coarse_lines (letters ++ n ∷ []) ++ ls
coarse_more [] n ls = refl
coarse_more (m ∷ letters) n ls = ap (λ ms. ended (coarse_line m) ∷ ms) (coarse_more letters n ls)

pub front_goes_on : (text letters more rest behind : List ℕ) (n : ℕ) → more ≡ letters ++ n ∷ [] → n < 2 ^ 32 → lines_of rest ≡ ended (coarse_line n) ∷ lines_of behind → IsFront text letters rest → IsFront text more behind
front_goes_on text letters more rest behind n e small taken h =
    let shorter = taken_shortens rest (coarse_line n) behind taken in
    let count = length-append letters (n ∷ []) in
    let w = h.within in
    subst (λ ns. IsFront text ns behind) (sym e)
    (record {
      lines = h.lines ∙ ap (λ ls. coarse_lines letters ++ ls) taken ∙ coarse_more letters n (lines_of behind);
      short = short_more letters n h.short small;
      within = omega arith;
    })

pub front_ends : (text letters rest : List ℕ) → IsFront text letters rest → LacksCoarse (lines_of rest) → TakesFront text letters rest
front_ends text letters rest h last = record { lines = h.lines; short = h.short; last = last; within = h.within }

-- ---- no other line is one

-- whether the first byte is that of the line of a coarse letter
abbrev begins_as_coarse : List ℕ → Bool
begins_as_coarse [] = false
begins_as_coarse (b ∷ bs) = nat_eq b 99

item_no_coarse : (a : Content) (x : Item) (n : ℕ) → ended (item_text a x) ≡ ended (coarse_line n) → ⊥
item_no_coarse a (pred_item p) n e = false≢true (ap begins_as_coarse e)
item_no_coarse a (triple_item (inside_triple f l t r)) n e = false≢true (ap begins_as_coarse e)
item_no_coarse a (triple_item (call_triple f l t r)) n e = false≢true (ap begins_as_coarse e)
item_no_coarse a (triple_item (back_triple x f l t r)) n e = false≢true (ap begins_as_coarse e)
item_no_coarse a (node_item x) n e = false≢true (ap begins_as_coarse e)
item_no_coarse a (step_item (steps.Step f l t)) n e = false≢true (ap begins_as_coarse e)
item_no_coarse a (step_item (steps.Back x c l t)) n e = false≢true (ap begins_as_coarse e)

adds_no_coarse : (a b : Content) (l : List ℕ) → Adds a l b → NoCoarseLine l
adds_no_coarse a b l h = λ n is. item_no_coarse a h.item n (sym h.spelled ∙ is.1)

pub completes_lacks : (ls : List (List ℕ)) (a w : Content) → Completes a ls w → LacksCoarse ls
completes_lacks [] a w h = tt
completes_lacks (l ∷ ls) a w (inl h) = λ n is. false≢true (ap begins_as_coarse (sym h.0 ∙ is.1))
completes_lacks (l ∷ ls) a w (inr h) = adds_no_coarse a h.0 l h.1

-- whether the line is that of the second form
abbrev is_second : List ℕ → Bool
is_second l = nat_eq (get_or l 11 0) 50

pub forms_differ : ended (codes "annotation 1") ≡ ended (codes "annotation 2") → ⊥
forms_differ e = false≢true (ap is_second e)

-- ---- the lines of a text are not wrong

coarse_not_wrong : (letters : List ℕ) (body : List (List ℕ)) (n line : ℕ) (w : Content) → AreShort letters → Completes no_content body w → WrongBehindCoarse n (coarse_lines letters ++ body) line → ⊥
coarse_not_wrong [] [] n line w s k h = k
coarse_not_wrong [] (l ∷ ls) n line w s k (inl h) = completes_not_wrong (l ∷ ls) n line no_content w k h.1
coarse_not_wrong [] (l ∷ ls) n line w s k (inr h) = completes_lacks (l ∷ ls) no_content w k h.0 h.1
coarse_not_wrong (c ∷ cs) body n line w s k (inl h) = h.0 c (s.0, refl)
coarse_not_wrong (c ∷ cs) body n line w s k (inr h) = coarse_not_wrong cs body (n + 1) line w s.1 k h.2

pub form_not_wrong : (coarse : List ℕ) (body : List (List ℕ)) (line : ℕ) (w : Content) → AreShort coarse → Completes no_content body w → WrongBehindRounds (map ended (form_lines coarse) ++ body) line → ⊥
form_not_wrong [] body line w s k (inl h) = h.0 refl
form_not_wrong [] body line w s k (inr (inl h)) = completes_not_wrong body 4 line no_content w k h.1
form_not_wrong [] body line w s k (inr (inr h)) = forms_differ h.0
form_not_wrong (c ∷ cs) body line w s k (inl h) = h.1 refl
form_not_wrong (c ∷ cs) body line w s k (inr (inl h)) = forms_differ (sym h.0)
form_not_wrong (c ∷ cs) body line w s k (inr (inr (_, inl h))) = h.0 c (s.0, refl)
form_not_wrong (c ∷ cs) body line w s k (inr (inr (_, inr h))) = coarse_not_wrong cs body 5 line w s.1 k h.2

-- ---- what is read is wrong where the rest is

pub front_wrong : (letters : List ℕ) (ls : List (List ℕ)) (n line : ℕ) → AreShort letters → LacksCoarse ls → FirstWrong (length letters + n) no_content ls line → WrongBehindCoarse n (coarse_lines letters ++ ls) line
front_wrong [] [] n line s x h = h ∙ (let e : 0 + n ≡ n = omega arith in e)
front_wrong [] (l ∷ ls) n line s x h = let e : 0 + n ≡ n = omega arith in inl (x, subst (λ (k : ℕ). FirstWrong k no_content (l ∷ ls) line) e h)
front_wrong (c ∷ cs) ls n line s x h =
    let e : length (c ∷ cs) + n ≡ length cs + (n + 1) = omega arith in
    inr (c, (s.0, refl), front_wrong cs ls (n + 1) line s.1 x (subst (λ (k : ℕ). FirstWrong k no_content ls line) e h))

pub form_wrong : (letters : List ℕ) (ls : List (List ℕ)) (line : ℕ) → letters ≢ [] → AreShort letters → LacksCoarse ls → FirstWrong (length letters + 4) no_content ls line → WrongBehindForm (coarse_lines letters ++ ls) line
form_wrong [] ls line some s x h = absurd (some refl)
form_wrong (c ∷ cs) ls line some s x h =
    let e : length (c ∷ cs) + 4 ≡ length cs + 5 = omega arith in
    inr (c, (s.0, refl), front_wrong cs ls 5 line s.1 x (subst (λ (k : ℕ). FirstWrong k no_content ls line) e h))

pub no_front_wrong : (letters : List ℕ) (ls : List (List ℕ)) → letters ≡ [] → LacksCoarse ls → WrongBehindForm (coarse_lines letters ++ ls) 4
no_front_wrong letters ls e x = subst (λ (ns : List ℕ). WrongBehindForm (coarse_lines ns ++ ls) 4) (sym e) (here ls x)
  where
    here : (ls : List (List ℕ)) → LacksCoarse ls → WrongBehindForm ls 4
    here [] x = refl
    here (l ∷ ls) x = inl (x, refl)

-- ---- two fronts of the same lines

abbrev first_of : List (List ℕ) → List ℕ
first_of [] = []
first_of (l ∷ ls) = l

abbrev behind_one : List (List ℕ) → List (List ℕ)
behind_one [] = []
behind_one (l ∷ ls) = ls

same_coarse : (c d : List ℕ) (xs ys : List (List ℕ)) → AreShort c → AreShort d → LacksCoarse xs → LacksCoarse ys → coarse_lines c ++ xs ≡ coarse_lines d ++ ys → (c ≡ d) × (xs ≡ ys)
same_coarse [] [] xs ys s t x y e = (refl, e)
same_coarse [] (n ∷ d) xs ys s t x y e = absurd (let no : NoCoarseLine (ended (coarse_line n)) = subst (λ ls. LacksCoarse ls) e x in no n (t.0, refl))
same_coarse (m ∷ c) [] xs ys s t x y e = absurd (let no : NoCoarseLine (ended (coarse_line m)) = subst (λ ls. LacksCoarse ls) (sym e) y in no m (s.0, refl))
same_coarse (m ∷ c) (n ∷ d) xs ys s t x y e =
    let line : ended (coarse_line m) ≡ ended (coarse_line n) = ap first_of e in
    let digits : decimal m ≡ decimal n = append_cancel_left (codes "coarse ") (decimal m) (decimal n) (append_cancel_right (coarse_line m) (coarse_line n) (10 ∷ []) line) in
    let low : m < 2 ^ 64 = let l = s.0 in omega arith in
    let high : n < 2 ^ 64 = let l = t.0 in omega arith in
    let rest = same_coarse c d xs ys s.1 t.1 x y (ap behind_one e) in
    (ap (λ (k : ℕ). k ∷ c) (decimal_injective m n low high digits) ∙ ap (λ ns. n ∷ ns) rest.0, rest.1)

pub same_form : (c d : List ℕ) (xs ys : List (List ℕ)) → AreShort c → AreShort d → LacksCoarse xs → LacksCoarse ys → map ended (form_lines c) ++ xs ≡ map ended (form_lines d) ++ ys → (c ≡ d) × (xs ≡ ys)
same_form [] [] xs ys s t x y e = (refl, ap behind_one e)
same_form [] (n ∷ d) xs ys s t x y e = absurd (forms_differ (ap first_of e))
same_form (m ∷ c) [] xs ys s t x y e = absurd (forms_differ (sym (ap first_of e)))
same_form (m ∷ c) (n ∷ d) xs ys s t x y e = same_coarse (m ∷ c) (n ∷ d) xs ys s t x y (ap behind_one e)

-- ---- the lines have no newline inside

plain_coarse : (letters : List ℕ) → AreShort letters → AllByRecursion Plain (map coarse_line letters)
plain_coarse [] s = tt
plain_coarse (n ∷ ns) s = (plain_append (codes "coarse ") (decimal n) refl (plain_decimal n (let l = s.0 in omega arith)), plain_coarse ns s.1)

pub plain_form : (coarse : List ℕ) → AreShort coarse → AllByRecursion Plain (form_lines coarse)
plain_form [] s = (refl, tt)
plain_form (c ∷ cs) s = (refl, plain_coarse (c ∷ cs) s)
