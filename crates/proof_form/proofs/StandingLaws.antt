-- Lines: how a text falls into them, and which can stand where.
use Rattle.std.proofs.Common.{◌≡◌, ◌≢◌, ℕ, ◌+◌, ◌-◌, ◌<◌, ◌≤◌, Bool, true, false, cond, nat_eq, List, [], ◌∷◌, ◌++◌, length, take, drop, get_or, Option, Some, None, ◌⊎◌, inl, inr, refl, sym, ap, ◌∙◌, arith, append_assoc}
use Rattle.std.specs.List.{concat, list_all}
use Rattle.std.proofs.lemmas.Bool.Decides.{nat_tests}
use Rattle.std.proofs.lemmas.Bool.{eqb-true, ne_eqb, eq-eqb}
use Rattle.std.proofs.lemmas.List.{append-nil, drop_more, drop_all, take_more, take_rest}
use Rattle.std.proofs.lemmas.Option.{some_pair_parts, none-some}
use Rattle.outer_io.specs.Lines.{onto_first, lines_of}
use Rattle.proof_form.specs.Outcomes.{◌>>=◌}
use Rattle.proof_form.specs.Annotations.{ended}
use Rattle.proof_form.specs.TextReading.{first_line}
use Rattle.proof_form.proofs.AfterLaws.{bind_some}
use Rattle.proof_form.proofs.PlainLaws.{is_inside}
use Rattle.proof_form.proofs.RunLaws.{both_hold}

-- bytes in front of the first line
abbrev pub led_by : List ℕ → Option (List ℕ × List ℕ) → Option (List ℕ × List ℕ)
led_by front found = found >>= λ x. Some (front ++ x.0, x.1)

led_by_nothing : (o : Option (List ℕ × List ℕ)) → led_by [] o ≡ o
led_by_nothing None = refl
led_by_nothing (Some x) = refl

led_by_more : (front : List ℕ) (b : ℕ) (o : Option (List ℕ × List ℕ)) → led_by front (led_by (b ∷ []) o) ≡ led_by (front ++ b ∷ []) o
led_by_more front b None = refl
led_by_more front b (Some x) = ap (λ l. Some (l, x.1)) (sym (append_assoc front (b ∷ []) x.0))

pub line_begins : (text : List ℕ) → led_by (take 0 text) (first_line (drop 0 text)) ≡ first_line text
line_begins text = led_by_nothing (first_line text)

pub line_goes_on : (text : List ℕ) (i : ℕ) → i < length text → get_or text i 0 ≢ 10 → led_by (take i text) (first_line (drop i text)) ≡ first_line text
    → led_by (take (i + 1) text) (first_line (drop (i + 1) text)) ≡ first_line text
line_goes_on text i l ne h =
    let b = get_or text i 0 in
    let step : first_line (drop i text) ≡ led_by (b ∷ []) (first_line (drop (i + 1) text)) = ap first_line (drop_more text i 0 l) ∙ rw (ne_eqb b 10 ne) refl in
    ap (λ front. led_by front (first_line (drop (i + 1) text))) (take_more text i 0 l) ∙ sym (led_by_more (take i text) b (first_line (drop (i + 1) text))) ∙ ap (led_by (take i text)) (sym step) ∙ h

pub line_ends : (text : List ℕ) (i : ℕ) → i < length text → get_or text i 0 ≡ 10 → led_by (take i text) (first_line (drop i text)) ≡ first_line text
    → Some (take i text, take (length text - (i + 1)) (drop (i + 1) text)) ≡ first_line text
line_ends text i l e h =
    let step : first_line (drop i text) ≡ Some ([], drop (i + 1) text) = ap first_line (drop_more text i 0 l) ∙ rw (eq-eqb (get_or text i 0) 10 e) refl in
    ap (λ rest. Some (take i text, rest)) (take_rest text (i + 1)) ∙ ap (λ front. Some (front, drop (i + 1) text)) (sym (append-nil (take i text))) ∙ ap (led_by (take i text)) (sym step) ∙ h

pub no_line_ends : (text : List ℕ) (i : ℕ) → length text ≤ i → led_by (take i text) (first_line (drop i text)) ≡ first_line text → None ≡ first_line text
no_line_ends text i l h = ap (λ bs. led_by (take i text) (first_line bs)) (sym (drop_all i text l)) ∙ h

-- How a text falls into lines

-- the first line, and the others
pub first_of_lines : (bs l rest : List ℕ) → first_line bs ≡ Some (l, rest) → lines_of bs ≡ ended l ∷ lines_of rest
first_of_lines [] l rest h = absurd (let no : ⊥ = cc in no)
first_of_lines (b ∷ bs) l rest h = here b bs l rest (nat_eq b 10) refl h (first_of_lines bs)
  where
    here : (b : ℕ) (bs l rest : List ℕ) (t : Bool) → nat_eq b 10 ≡ t → cond t (Some ([], bs)) (led_by (b ∷ []) (first_line bs)) ≡ Some (l, rest)
        → ((l rest : List ℕ) → first_line bs ≡ Some (l, rest) → lines_of bs ≡ ended l ∷ lines_of rest) → cond t ((b ∷ []) ∷ lines_of bs) (onto_first b (lines_of bs)) ≡ ended l ∷ lines_of rest
    here b bs l rest true e h more =
        let p = some_pair_parts [] l bs rest h in
        ap (λ (c : ℕ). (c ∷ []) ∷ lines_of bs) (eqb-true b 10 e) ∙ ap (λ m. ended m ∷ lines_of bs) p.0 ∙ ap (λ r. ended l ∷ lines_of r) p.1
    here b bs l rest false e h more =
        let x = bind_some (first_line bs) (λ y. Some (b ∷ y.0, y.1)) (l, rest) h in
        let p = some_pair_parts (b ∷ x.0.0) l x.0.1 rest x.2 in
        ap (onto_first b) (more x.0.0 x.0.1 x.1) ∙ ap (λ m. ended m ∷ lines_of x.0.1) p.0 ∙ ap (λ r. ended l ∷ lines_of r) p.1

-- there is a line with an end
pub has_line : (x rest : List ℕ) → (y : List ℕ × List ℕ) × (first_line (x ++ 10 ∷ rest) ≡ Some y)
has_line [] rest = (([], rest), refl)
has_line (b ∷ x) rest = let y = has_line x rest in here b x rest (nat_eq b 10) y.0 y.1
  where
    here : (b : ℕ) (x rest : List ℕ) (t : Bool) (y : List ℕ × List ℕ) → first_line (x ++ 10 ∷ rest) ≡ Some y
        → (z : List ℕ × List ℕ) × (cond t (Some ([], x ++ 10 ∷ rest)) (led_by (b ∷ []) (first_line (x ++ 10 ∷ rest))) ≡ Some z)
    here b x rest true y e = (([], x ++ 10 ∷ rest), refl)
    here b x rest false y e = ((b ∷ y.0, y.1), ap (led_by (b ∷ [])) e)

-- no line has an end: there is none, or one that has no end
pub unended : (bs : List ℕ) → first_line bs ≡ None → ((bs ≡ []) × (lines_of bs ≡ [])) ⊎ (lines_of bs ≡ bs ∷ [])
unended [] h = inl (refl, refl)
unended (b ∷ bs) h = inr (here b bs (nat_eq b 10) h (unended bs))
  where
    led_none : (b : ℕ) (o : Option (List ℕ × List ℕ)) → led_by (b ∷ []) o ≡ None → o ≡ None
    led_none b None h = refl
    led_none b (Some x) h = absurd (let no : ⊥ = cc in no)

    one : (b : ℕ) (bs : List ℕ) → ((bs ≡ []) × (lines_of bs ≡ [])) ⊎ (lines_of bs ≡ bs ∷ []) → onto_first b (lines_of bs) ≡ (b ∷ bs) ∷ []
    one b bs (inl e) = ap (onto_first b) e.1 ∙ ap (λ cs. (b ∷ cs) ∷ []) (sym e.0)
    one b bs (inr e) = ap (onto_first b) e

    here : (b : ℕ) (bs : List ℕ) (t : Bool) → cond t (Some ([], bs)) (led_by (b ∷ []) (first_line bs)) ≡ None → (first_line bs ≡ None → ((bs ≡ []) × (lines_of bs ≡ [])) ⊎ (lines_of bs ≡ bs ∷ []))
        → cond t ((b ∷ []) ∷ lines_of bs) (onto_first b (lines_of bs)) ≡ (b ∷ bs) ∷ []
    here b bs true h more = absurd (let no : ⊥ = cc in no)
    here b bs false h more = one b bs (more (led_none b (first_line bs) h))

pub no_end : (bs x : List ℕ) → first_line bs ≡ None → bs ≡ ended x → ⊥
no_end bs x h e = let y = has_line x [] in none-some y.0 (sym h ∙ ap first_line e ∙ y.1)

-- what follows the first line is shorter
pub line_shortens : (bs l rest : List ℕ) → first_line bs ≡ Some (l, rest) → length rest + 1 ≤ length bs
line_shortens [] l rest h = absurd (let no : ⊥ = cc in no)
line_shortens (b ∷ bs) l rest h = here b bs l rest (nat_eq b 10) h (line_shortens bs)
  where
    here : (b : ℕ) (bs l rest : List ℕ) (t : Bool) → cond t (Some ([], bs)) (led_by (b ∷ []) (first_line bs)) ≡ Some (l, rest) → ((l rest : List ℕ) → first_line bs ≡ Some (l, rest) → length rest + 1 ≤ length bs)
        → length rest + 1 ≤ length (b ∷ bs)
    here b bs l rest true h more = let p = some_pair_parts [] l bs rest h in let e = ap length p.1 in omega arith
    here b bs l rest false h more =
        let x = bind_some (first_line bs) (λ y. Some (b ∷ y.0, y.1)) (l, rest) h in
        let p = some_pair_parts (b ∷ x.0.0) l x.0.1 rest x.2 in
        let e = ap length p.1 in
        let k = more x.0.0 x.0.1 x.1 in omega arith

-- the lines, one after another, are the text
onto_concat : (b : ℕ) (ls : List (List ℕ)) → concat (onto_first b ls) ≡ b ∷ concat ls
onto_concat b [] = refl
onto_concat b (l ∷ ls) = refl

pub lines_joined : (bs : List ℕ) → concat (lines_of bs) ≡ bs
lines_joined [] = refl
lines_joined (b ∷ bs) = here b (lines_of bs) (nat_eq b 10) ∙ ap (λ r. b ∷ r) (lines_joined bs)
  where
    here : (b : ℕ) (ls : List (List ℕ)) (t : Bool) → concat (cond t ((b ∷ []) ∷ ls) (onto_first b ls)) ≡ b ∷ concat ls
    here b ls true = refl
    here b ls false = onto_concat b ls

-- a line of bytes none of which is a newline
pub plain_line : (l rest : List ℕ) → list_all is_inside l ≡ true → first_line (l ++ 10 ∷ rest) ≡ Some (l, rest)
plain_line [] rest h = refl
plain_line (b ∷ l) rest h =
    let k = both_hold (is_inside b) _ h in
    rw (no_newline b k.0, plain_line l rest k.1) refl
  where
    no_newline : (b : ℕ) → is_inside b ≡ true → nat_eq b 10 ≡ false
    no_newline b h = grind (arith, nat_tests)

pub lines_of_plain : (l rest : List ℕ) → list_all is_inside l ≡ true → lines_of (ended l ++ rest) ≡ ended l ∷ lines_of rest
lines_of_plain l rest h = ap lines_of (append_assoc l (10 ∷ []) rest) ∙ first_of_lines (l ++ 10 ∷ rest) l rest (plain_line l rest h)
