-- How a text is taken apart: the first line, the annotation at its front, and the line of a part.
use Rattle.std.proofs.Common.{◌≡◌, ◌≢◌, ℕ, zero, suc, ◌+◌, ◌-◌, ◌<◌, ◌≤◌, List, [], ◌∷◌, ◌++◌, length, take, drop, get_or, Bool, true, false, not, cond, ◌&&◌, Option, None, Some, codes, ap, refl, sym, ◌∙◌, subst, arith, append_assoc, append-nil, nat_eq}
use Rattle.std.specs.Prelude.{MatchOption}
use Rattle.std.specs.List.{concat}
use Rattle.std.specs.Option.{option_map, option_and_then}
use Rattle.std.specs.Borrow.{Bor}
use Rattle.std.specs.Str.{bytes_eq}
use Rattle.std.proofs.lemmas.Bool.{eq-eqb, ne_eqb, and_parts, and_from, not-true}
use Rattle.std.proofs.lemmas.List.{take-append-drop, take-take, drop-drop, drop-take, length-append, length-drop}
use Rattle.outer_io.specs.Lines.{onto_first, lines_of}
use Rattle.proof_form.specs.Standing.{end_line}
use Rattle.proof_form.proofs.StandingLaws.{lines_joined}
use Rattle.trace_replay.proofs.Stripped.{stripped, not_in_front}
use Rattle.automizer_top.specs.PartTexts.{part_line, text_behind, through_end, behind_end, front_lines, front_text, rest_text}
use Rattle.automizer_top.proofs.PartAnswers.{behind_is}
use Rattle.automizer_top.proofs.PartFronts.{behind_append}
use Rattle.automizer_top.proofs.PartOnce.{concat_append, front_and_rest}

-- ---- what stands behind a line

none_behind : (line text : List ℕ) (o : Option (List ℕ)) → text_behind line text ≡ o → ((rest : List ℕ) → text ≢ line ++ rest) → None ≡ o
none_behind line text None e never = refl
none_behind line text (Some rest) e never = absurd (never rest (behind_is line text rest e))

-- as `strip_prefix` says it
pub stripped_behind : (line text : List ℕ) (r : Option (Bor (List ℕ))) →
    MatchOption r (bytes_eq (take (length line) text) line ≡ false) (λ x. (bytes_eq (take (length line) text) line ≡ true) × (x.now ≡ drop (length line) text) × (length x.now + length line ≡ length text)) →
    option_map (λ rest. rest.now) r ≡ text_behind line text
stripped_behind line text None h = none_behind line text (text_behind line text) refl (not_in_front line text h)
stripped_behind line text (Some x) h = sym (ap (text_behind line) (stripped line text x.now h) ∙ behind_append line x.now)

behind_by : (b x : ℕ) (cs bs xs : List ℕ) (t : Bool) → text_behind (cs ++ bs) xs ≡ option_and_then (text_behind bs) (text_behind cs xs) →
    cond t (text_behind (cs ++ bs) xs) None ≡ option_and_then (text_behind bs) (cond t (text_behind cs xs) None)
behind_by b x cs bs xs true h = h
behind_by b x cs bs xs false h = refl

-- behind two lines in a row
pub behind_both : (cs bs text : List ℕ) → text_behind (cs ++ bs) text ≡ option_and_then (text_behind bs) (text_behind cs text)
behind_both [] bs text = refl
behind_both (a ∷ cs) bs [] = refl
behind_both (a ∷ cs) bs (x ∷ xs) = behind_by a x cs bs xs (nat_eq a x) (behind_both cs bs xs)

-- the line of a part, taken off in three pieces
pub no_name_behind : (name text rest : List ℕ) → text_behind (codes "part ") text ≡ Some rest → text_behind name rest ≡ None → text_behind (part_line name) text ≡ None
no_name_behind name text rest e f =
    behind_both (codes "part ") (name ++ codes "\n") text ∙ ap (option_and_then (text_behind (name ++ codes "\n"))) e ∙ behind_both name (codes "\n") rest
    ∙ ap (option_and_then (text_behind (codes "\n"))) f

pub name_behind : (name text rest more : List ℕ) → text_behind (codes "part ") text ≡ Some rest → text_behind name rest ≡ Some more → text_behind (part_line name) text ≡ text_behind (codes "\n") more
name_behind name text rest more e f =
    behind_both (codes "part ") (name ++ codes "\n") text ∙ ap (option_and_then (text_behind (name ++ codes "\n"))) e ∙ behind_both name (codes "\n") rest
    ∙ ap (option_and_then (text_behind (codes "\n"))) f

-- the bytes from one place to a later one
pub bytes_between : (text : List ℕ) (at n : ℕ) → take (at + n - at) (drop at text) ≡ take n (drop at text)
bytes_between text at n = let e : at + n - at ≡ n = omega arith in ap (λ (k : ℕ). take k (drop at text)) e

-- ---- the first line

-- no byte is a newline
abbrev pub is_open : List ℕ → Bool
is_open [] = true
is_open (b ∷ bs) = not (nat_eq b 10) && is_open bs

open_more : (bs : List ℕ) (i : ℕ) → i < length bs → get_or bs i 0 ≢ 10 → is_open (take i bs) ≡ true → is_open (take (suc i) bs) ≡ true
open_more [] i l n h = absurd (omega arith)
open_more (b ∷ bs) zero l n h = and_from (not (nat_eq b 10)) true (ap not (ne_eqb b 10 n)) refl
open_more (b ∷ bs) (suc i) l n h =
    let p = and_parts (not (nat_eq b 10)) (is_open (take i bs)) h in
    and_from (not (nat_eq b 10)) (is_open (take (suc i) bs)) p.0 (open_more bs i (omega arith) n p.1)

pub open_next : (bs : List ℕ) (i : ℕ) → i < length bs → get_or bs i 0 ≢ 10 → is_open (take i bs) ≡ true → is_open (take (i + 1) bs) ≡ true
open_next bs i l n h = let e : suc i ≡ i + 1 = omega arith in subst (λ (k : ℕ). is_open (take k bs) ≡ true) e (open_more bs i l n h)

-- these bytes are the first line of the text
pub record IsFirstLine (text : List ℕ) (n : ℕ) : Type 0 where
  pub line : lines_of text ≡ take n text ∷ lines_of (drop n text)
  pub within : n ≤ length text
  pub some : 0 < n

line_ends : (bs : List ℕ) (i : ℕ) → i < length bs → get_or bs i 0 ≡ 10 → is_open (take i bs) ≡ true → lines_of bs ≡ take (suc i) bs ∷ lines_of (drop (suc i) bs)
line_ends [] i l e h = absurd (omega arith)
line_ends (b ∷ bs) zero l e h = ap (λ (t : Bool). cond t ((b ∷ []) ∷ lines_of bs) (onto_first b (lines_of bs))) (eq-eqb b 10 e)
line_ends (b ∷ bs) (suc i) l e h =
    let p = and_parts (not (nat_eq b 10)) (is_open (take i bs)) h in
    ap (λ (t : Bool). cond t ((b ∷ []) ∷ lines_of bs) (onto_first b (lines_of bs))) (not-true (nat_eq b 10) p.0) ∙ ap (onto_first b) (line_ends bs i (omega arith) e p.1)

pub line_ends_at : (bs : List ℕ) (i : ℕ) → i < length bs → get_or bs i 0 ≡ 10 → is_open (take i bs) ≡ true → IsFirstLine bs (i + 1)
line_ends_at bs i l e h =
    let k : suc i ≡ i + 1 = omega arith in
    record { line = subst (λ (n : ℕ). lines_of bs ≡ take n bs ∷ lines_of (drop n bs)) k (line_ends bs i l e h); within = omega arith; some = omega arith }

open_line : (b : ℕ) (bs : List ℕ) → is_open (b ∷ bs) ≡ true → lines_of (b ∷ bs) ≡ (b ∷ bs) ∷ []
open_line b [] h = let p = and_parts (not (nat_eq b 10)) true h in ap (λ (t : Bool). cond t ((b ∷ []) ∷ []) (onto_first b [])) (not-true (nat_eq b 10) p.0)
open_line b (c ∷ bs) h =
    let p = and_parts (not (nat_eq b 10)) (is_open (c ∷ bs)) h in
    ap (λ (t : Bool). cond t ((b ∷ []) ∷ lines_of (c ∷ bs)) (onto_first b (lines_of (c ∷ bs)))) (not-true (nat_eq b 10) p.0) ∙ ap (onto_first b) (open_line c bs p.1)

take_whole : (bs : List ℕ) (i : ℕ) → length bs ≤ i → take i bs ≡ bs
take_whole [] zero l = refl
take_whole [] (suc i) l = refl
take_whole (b ∷ bs) zero l = absurd (omega arith)
take_whole (b ∷ bs) (suc i) l = ap (λ (x : List ℕ). b ∷ x) (take_whole bs i (omega arith))

drop_whole : (bs : List ℕ) (i : ℕ) → length bs ≤ i → drop i bs ≡ []
drop_whole [] zero l = refl
drop_whole [] (suc i) l = refl
drop_whole (b ∷ bs) zero l = absurd (omega arith)
drop_whole (b ∷ bs) (suc i) l = drop_whole bs i (omega arith)

whole_line : (bs : List ℕ) → bs ≢ [] → is_open bs ≡ true → lines_of bs ≡ bs ∷ []
whole_line [] some h = absurd (some refl)
whole_line (b ∷ bs) some h = open_line b bs h

positive : (xs : List ℕ) → xs ≢ [] → 0 < length xs
positive [] n = absurd (n refl)
positive (x ∷ xs) n = omega arith

pub line_is_whole : (bs : List ℕ) (i : ℕ) → bs ≢ [] → length bs ≤ i → is_open (take i bs) ≡ true → IsFirstLine bs (length bs)
line_is_whole bs i some l h =
    let same : length bs ≤ length bs = omega arith in
    let open_bs : is_open bs ≡ true = subst (λ (x : List ℕ). is_open x ≡ true) (take_whole bs i l) h in
    let all : lines_of bs ≡ take (length bs) bs ∷ lines_of (drop (length bs) bs) =
    whole_line bs some open_bs ∙ (λ k. sym (take_whole bs (length bs) same) k ∷ lines_of (sym (drop_whole bs (length bs) same) k)) in
    record { line = all; within = same; some = positive bs some }

-- ---- the annotation at the front

-- the lines before this place, none of which is `end`
pub record Passed (text : List ℕ) (at lines : ℕ) : Type 0 where
  pub front : List (List ℕ)
  pub joined : concat front ≡ take at text
  pub many : length front ≡ lines
  pub through : front_lines text ≡ front ++ through_end (lines_of (drop at text))
  pub left : behind_end (lines_of text) ≡ behind_end (lines_of (drop at text))
  pub within : at ≤ length text
  pub few : lines ≤ at

pub passed_none : (text : List ℕ) → Passed text 0 0
passed_none text = record { front = []; joined = refl; many = refl; through = refl; left = refl; within = omega arith; few = omega arith }

more_lines : (front : List (List ℕ)) (line : List ℕ) → length (front ++ line ∷ []) ≡ length front + 1
more_lines front line = length-append front (line ∷ [])

more_bytes : (text : List ℕ) (at n : ℕ) → take (at + n) text ≡ take at text ++ take n (drop at text)
more_bytes text at n =
    let a : take at (take (at + n) text) ++ drop at (take (at + n) text) ≡ take (at + n) text = take-append-drop at (take (at + n) text) in
    let b : take at (take (at + n) text) ≡ take at text = take-take at (at + n) text (omega arith) in
    sym a ∙ (λ i. b i ++ drop-take at n text i)

joined_more : (text : List ℕ) (at n : ℕ) (front : List (List ℕ)) → concat front ≡ take at text → concat (front ++ take n (drop at text) ∷ []) ≡ take (at + n) text
joined_more text at n front e =
    concat_append front (take n (drop at text) ∷ []) ∙ ap (λ (x : List ℕ). concat front ++ x) (append-nil (take n (drop at text)))
    ∙ ap (λ (x : List ℕ). x ++ take n (drop at text)) e ∙ sym (more_bytes text at n)

drop_more : (text : List ℕ) (at n : ℕ) → drop n (drop at text) ≡ drop (at + n) text
drop_more text at n = drop-drop n at text

-- the next line is `end`, or it is not
step_through : (l : List ℕ) (ls : List (List ℕ)) (t : Bool) → bytes_eq l end_line ≡ t → through_end (l ∷ ls) ≡ cond t (l ∷ []) (l ∷ through_end ls)
step_through l ls t e = ap (λ (u : Bool). cond u (l ∷ []) (l ∷ through_end ls)) e

step_behind : (l : List ℕ) (ls : List (List ℕ)) (t : Bool) → bytes_eq l end_line ≡ t → behind_end (l ∷ ls) ≡ cond t ls (behind_end ls)
step_behind l ls t e = ap (λ (u : Bool). cond u ls (behind_end ls)) e

pub passed_more : (text : List ℕ) (at lines n : ℕ) → Passed text at lines → IsFirstLine (drop at text) n → bytes_eq (take n (drop at text)) end_line ≡ false → at + n ≤ length text →
    Passed text (at + n) (lines + 1)
passed_more text at lines n p f off l =
    let line : List ℕ = take n (drop at text) in
    let some : 0 < n = f.some in
    let few : lines ≤ at = p.few in
    record {
      front = p.front ++ line ∷ [];
      joined = joined_more text at n p.front p.joined;
      many = more_lines p.front line ∙ ap (λ (k : ℕ). k + 1) p.many;
      through = p.through
          ∙ ap (λ (ls : List (List ℕ)). p.front ++ through_end ls) f.line
          ∙ ap (λ (ls : List (List ℕ)). p.front ++ ls) (step_through line (lines_of (drop n (drop at text))) false off)
          ∙ sym (append_assoc p.front (line ∷ []) (through_end (lines_of (drop n (drop at text)))))
          ∙ ap (λ (x : List ℕ). (p.front ++ line ∷ []) ++ through_end (lines_of x)) (drop_more text at n);
      left = p.left ∙ ap behind_end f.line ∙ step_behind line (lines_of (drop n (drop at text))) false off ∙ ap (λ (x : List ℕ). behind_end (lines_of x)) (drop_more text at n);
      within = l;
      few = omega (arith, some, few);
    }

-- the annotation ends here
pub record IsFrontAt (text : List ℕ) (at lines : ℕ) : Type 0 where
  pub own : take at text ≡ front_text text
  pub many : lines ≡ length (front_lines text)
  pub rest : drop at text ≡ rest_text text
  pub few : lines ≤ length (take at text)

take_length : (xs : List ℕ) (n : ℕ) → n ≤ length xs → length (take n xs) ≡ n
take_length [] zero l = refl
take_length [] (suc n) l = absurd (omega arith)
take_length (x ∷ xs) zero l = refl
take_length (x ∷ xs) (suc n) l = ap suc (take_length xs n (omega arith))

pub passed_end : (text : List ℕ) (at lines n : ℕ) → Passed text at lines → IsFirstLine (drop at text) n → bytes_eq (take n (drop at text)) end_line ≡ true → at + n ≤ length text →
    IsFrontAt text (at + n) (lines + 1)
passed_end text at lines n p f on l =
    let line : List ℕ = take n (drop at text) in
    let some : 0 < n = f.some in
    let few : lines ≤ at = p.few in
    let many : length (take (at + n) text) ≡ at + n = take_length text (at + n) l in
    let front : front_lines text ≡ p.front ++ line ∷ [] =
    p.through ∙ ap (λ (ls : List (List ℕ)). p.front ++ through_end ls) f.line
    ∙ ap (λ (ls : List (List ℕ)). p.front ++ ls) (step_through line (lines_of (drop n (drop at text))) true on) in
    record {
      own = sym (ap concat front ∙ joined_more text at n p.front p.joined);
      many = sym (ap (λ (ls : List (List ℕ)). length ls) front ∙ more_lines p.front line ∙ ap (λ (k : ℕ). k + 1) p.many);
      rest = sym (ap concat (p.left ∙ ap behind_end f.line ∙ step_behind line (lines_of (drop n (drop at text))) true on) ∙ lines_joined (drop n (drop at text)) ∙ drop_more text at n);
      few = omega (arith, some, few, many);
    }

pub passed_all : (text : List ℕ) (at lines : ℕ) → Passed text at lines → length text ≤ at → IsFrontAt text at lines
passed_all text at lines p l =
    let none : drop at text ≡ [] = drop_whole text at l in
    let within : at ≤ length text = p.within in
    let few : lines ≤ at = p.few in
    let many : length (take at text) ≡ at = take_length text at within in
    let front : front_lines text ≡ p.front = p.through ∙ ap (λ (x : List ℕ). p.front ++ through_end (lines_of x)) none ∙ append-nil p.front in
    record {
      own = sym (ap concat front ∙ p.joined);
      many = sym (ap (λ (ls : List (List ℕ)). length ls) front ∙ p.many);
      rest = none ∙ sym (ap concat (p.left ∙ ap (λ (x : List ℕ). behind_end (lines_of x)) none));
      few = omega (arith, few, many);
    }

-- ---- slices

pub rest_of : (text : List ℕ) (at : ℕ) → at ≤ length text → take (length text - at) (drop at text) ≡ drop at text
rest_of text at l = let m = length-drop at text in take_whole (drop at text) (length text - at) (omega (arith, m, l))

pub slice_line : (text : List ℕ) (at n : ℕ) → at ≤ length text → IsFirstLine (take (length text - at) (drop at text)) n → IsFirstLine (drop at text) n
slice_line text at n l f = subst (λ (x : List ℕ). IsFirstLine x n) (rest_of text at l) f

pub line_within : (text : List ℕ) (at n : ℕ) → at ≤ length text → IsFirstLine (drop at text) n → at + n ≤ length text
line_within text at n l f = let m = length-drop at text in let k = f.within in omega (arith, m, k, l)

pub slice_test : (text last : List ℕ) (at n : ℕ) (t u : Bool) → t ≡ bytes_eq (take (at + n - at) (drop at text)) last → t ≡ u → last ≡ end_line → bytes_eq (take n (drop at text)) end_line ≡ u
slice_test text last at n t u e f g =
    subst (λ (x : List ℕ). bytes_eq x end_line ≡ u) (bytes_between text at n) (subst (λ (y : List ℕ). bytes_eq (take (at + n - at) (drop at text)) y ≡ u) g (sym e ∙ f))

-- ---- a part and what follows it

-- behind the line of a part and its annotation fewer bytes are left than lines and bytes before
pub left_is_less : (name left text own rest : List ℕ) (lines : ℕ) → text_behind (part_line name) left ≡ Some text → own ≡ front_text text → rest ≡ rest_text text → lines ≤ length own →
    lines + 1 + length rest ≤ length left
left_is_less name left text own rest lines e f g few =
    let n : length left ≡ length (part_line name ++ text) = ap (λ (x : List ℕ). length x) (behind_is (part_line name) left text e) in
    let m : length (part_line name ++ text) ≡ length (part_line name) + length text = length-append (part_line name) text in
    let k : length (part_line name) ≡ length (codes "part ") + length (name ++ codes "\n") = length-append (codes "part ") (name ++ codes "\n") in
    let a : length (front_text text ++ rest_text text) ≡ length text = ap (λ (x : List ℕ). length x) (front_and_rest text) in
    let b : length (front_text text ++ rest_text text) ≡ length (front_text text) + length (rest_text text) = length-append (front_text text) (rest_text text) in
    let c : length own ≡ length (front_text text) = ap (λ (x : List ℕ). length x) f in
    let d : length rest ≡ length (rest_text text) = ap (λ (x : List ℕ). length x) g in
    omega (arith, few, n, m, k, a, b, c, d)
