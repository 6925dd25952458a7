-- The first line that cannot stand there, of texts whose lines have given kinds.
use Rattle.std.proofs.Common.{◌≡◌, ◌⊎◌, ℕ, zero, suc, ◌<◌, ◌≤◌, true, false, not, nat_eq, List, [], ◌∷◌, ◌++◌, take, inl, inr, refl, sym, ap, ◌∙◌, arith, append_assoc}
use Rattle.std.specs.List.{AllByRecursion, concat}
use Rattle.std.specs.Fmt.{decimal}
use Rattle.std.proofs.lemmas.List.{append-nil}
use Rattle.outer_io.specs.Lines.{lines_of}
use Rattle.trace_replay.proofs.TextLines.{no_newline, no_newline-append, IsLine, line_first, lines_first, concat-lines_of}
use Rattle.proof_form.proofs.RunLaws.{both_hold}
use Rattle.proof_form.specs.declared.numerals.Numeral.{Numeral}
use Rattle.proof_form.specs.Numerals.{numeral_text}
use Rattle.proof_form.specs.Refutations.{leaf, refutation_text}
use Rattle.rank_lasso.specs.LassoText.{letters_text}
use Rattle.rank_lasso.specs.Lines.{HasNo, line_text, Content, nothing, letters, some_letters, terms, number, natural, tree, IsContent, LineKind, Stops, GoesOn}
use Rattle.rank_lasso.specs.Faults.{IsFirstFaultAs}
use Rattle.rank_lasso.proofs.Contents.{content_has_no_end}

-- ---- lines of given kinds

abbrev pub IsOfKind : LineKind → List ℕ → Type 0
IsOfKind k line = (content : List ℕ) × IsContent k.content content × (line ≡ line_text k.word content)

-- one line of each kind, in order
abbrev pub AreOfKinds : List LineKind → List (List ℕ) → Type 0
AreOfKinds [] [] = Unit {0}
AreOfKinds [] (l ∷ ls) = ⊥
AreOfKinds (k ∷ ks) [] = ⊥
AreOfKinds (k ∷ ks) (l ∷ ls) = IsOfKind k l × AreOfKinds ks ls

-- no word of a line has a newline
abbrev pub AreWords : List LineKind → Type 0
AreWords ks = AllByRecursion (λ k. HasNo 10 k.word) ks

plain : (bs : List ℕ) → HasNo 10 bs → no_newline bs ≡ true
plain [] h = refl
plain (b ∷ bs) h = let k = both_hold (not (nat_eq b 10)) _ h in rw (k.0, plain bs k.1) refl

is_line : (k : LineKind) (content : List ℕ) → HasNo 10 k.word → IsContent k.content content → IsLine (line_text k.word content)
is_line k content w h = record {
  body = k.word ++ content;
  plain = no_newline-append k.word content (plain k.word w) (plain content (content_has_no_end k.content content h));
  is = sym (append_assoc k.word content (10 ∷ []));
}

-- what is at the front is the first line
first_line : (k : LineKind) (content rest text : List ℕ) → HasNo 10 k.word → IsContent k.content content → text ≡ line_text k.word content ++ rest →
    lines_of text ≡ line_text k.word content ∷ lines_of rest
first_line k content rest text w h e = ap lines_of e ∙ line_first (line_text k.word content) rest (is_line k content w h)

are_lines : (ks : List LineKind) (lines : List (List ℕ)) → AreWords ks → AreOfKinds ks lines → AllByRecursion IsLine lines
are_lines [] [] w h = tt
are_lines [] (l ∷ ls) w h = absurd h
are_lines (k ∷ ks) [] w h = absurd h
are_lines (k ∷ ks) (l ∷ ls) w h = (rw (h.0.2) (is_line k h.0.0 w.0 h.0.1), are_lines ks ls w.1 h.1)

-- the lines of a text of such lines
pub lines_are : (ks : List LineKind) (lines : List (List ℕ)) → AreWords ks → AreOfKinds ks lines → lines_of (concat lines) ≡ lines
lines_are ks lines w h =
    ap lines_of (sym (append-nil (concat lines))) ∙ lines_first lines [] (are_lines ks lines w h) ∙ append-nil lines

-- ---- a line of each kind

abbrev zero_numeral : Numeral
zero_numeral = record { negative = false; digits = 48 ∷ [] }

abbrev example : Content → List ℕ
example nothing = []
example letters = []
example some_letters = letters_text (0 ∷ [])
example terms = []
example number = numeral_text zero_numeral
example natural = decimal 0
example tree = refutation_text (leaf ((zero_numeral, zero_numeral) ∷ []) ∷ [])

is_example : (c : Content) → IsContent c (example c)
is_example nothing = refl
is_example letters = ([], tt, refl)
is_example some_letters = (0 ∷ [], ((omega arith, tt), λ e. let n : ⊥ = cc in n), refl)
is_example terms = ([], tt, refl)
is_example number = (zero_numeral, refl, refl)
is_example natural = (0, omega arith, refl)
is_example tree = (leaf ((zero_numeral, zero_numeral) ∷ []) ∷ [], record { tree = refl; short = refl }, refl)

abbrev examples : List LineKind → List (List ℕ)
examples [] = []
examples (k ∷ ks) = line_text k.word (example k.content) ∷ examples ks

are_examples : (ks : List LineKind) → AreOfKinds ks (examples ks)
are_examples [] = tt
are_examples (k ∷ ks) = ((example k.content, is_example k.content, refl), are_examples ks)

-- ---- how far the text has such lines

-- with fewer lines than it has it begins as some text of these kinds does
begins : (ks : List LineKind) → AreWords ks → (text : List ℕ) (n : ℕ) → Stops GoesOn ks text n → (m : ℕ) → m ≤ n →
    (lines : List (List ℕ)) × AreOfKinds ks lines × (take m (lines_of text) ≡ take m lines)
begins [] w text n s zero l = ([], tt, refl)
begins [] w text n s (suc m) l = absurd (let e = s.0 in omega arith)
begins (k ∷ ks) w text n s zero l = (examples (k ∷ ks), are_examples (k ∷ ks), refl)
begins (k ∷ ks) w text zero s (suc m) l = absurd (omega arith)
begins (k ∷ ks) w text (suc n) s (suc m) l =
    let content = s.0 in
    let rest = s.1 in
    let more = begins ks w.1 rest n s.4 m (omega arith) in
    let line = line_text k.word content in
    (line ∷ more.0, ((content, s.2, refl), more.1), ap (take (suc m)) (first_line k content rest text w.0 s.2 s.3) ∙ ap (λ ls. line ∷ ls) more.2)

none_taken : (j : ℕ) (xs : List (List ℕ)) → take (suc j) xs ≡ [] → xs ≡ []
none_taken j [] e = refl
none_taken j (x ∷ xs) e = absurd (let n : ⊥ = cc in n)

one_taken : (j : ℕ) (xs : List (List ℕ)) (l : List ℕ) (ms : List (List ℕ)) → take (suc j) xs ≡ l ∷ ms → (ys : List (List ℕ)) × (xs ≡ l ∷ ys)
one_taken j [] l ms e = absurd (let n : ⊥ = cc in n)
one_taken j (x ∷ xs) l ms e = (xs, let same : x ≡ l = cc in ap (λ y. y ∷ xs) same)

-- what the first line of a text says of it
begun_by : (text l : List ℕ) (ys : List (List ℕ)) → lines_of text ≡ l ∷ ys → text ≡ l ++ concat ys
begun_by text l ys e = sym (concat-lines_of text) ∙ ap concat e

-- with more lines it does not
fails : (ks : List LineKind) → AreWords ks → (text : List ℕ) (n : ℕ) → Stops GoesOn ks text n → (j : ℕ) → n < j → (lines : List (List ℕ)) → AreOfKinds ks lines →
    take j (lines_of text) ≡ take j lines → ⊥
fails ks w text n s zero l lines h e = omega arith
fails [] w text n s (suc j) l [] h e = s.1 (sym (concat-lines_of text) ∙ ap concat (none_taken j (lines_of text) e))
fails [] w text n s (suc j) l (line ∷ lines) h e = h
fails (k ∷ ks) w text n s (suc j) l [] h e = h
fails (k ∷ ks) w text zero s (suc j) l (line ∷ lines) h e =
    let first = one_taken j (lines_of text) line (take j lines) e in
    s h.0.0 (concat first.0) h.0.1 (begun_by text line first.0 first.1 ∙ ap (λ x. x ++ concat first.0) h.0.2)
fails (k ∷ ks) w text (suc n) s (suc j) l (line ∷ lines) h e =
    let here = ap (take (suc j)) (first_line k s.0 s.1 text w.0 s.2 s.3) in
    let both : line_text k.word s.0 ∷ take j (lines_of s.1) ≡ line ∷ take j lines = sym here ∙ e in
    fails ks w.1 s.1 n s.4 j (omega arith) lines h.1 (let r : take j (lines_of s.1) ≡ take j lines = cc in r)

-- The text has lines of the first kinds so far, and of the others no farther: the line behind them is the first that cannot stand there.
pub first_fault : (AreOfForm : List (List ℕ) → Type 0) (ks hs : List LineKind) → AreWords ks → AreWords hs → ((lines : List (List ℕ)) → AreOfKinds ks lines → AreOfForm lines) →
    ((lines : List (List ℕ)) → AreOfForm lines → AreOfKinds ks lines ⊎ AreOfKinds hs lines) → (text : List ℕ) (n m : ℕ) → Stops GoesOn ks text n → Stops GoesOn hs text m → m ≤ n →
    IsFirstFaultAs AreOfForm text (suc n)
first_fault AreOfForm ks hs v w made parts text n m s t l = record {
  before = λ j h. let b = begins ks v text n s j (omega arith) in (b.0, made b.0 b.1, b.2);
  here = λ b. elim (parts b.0 b.1) [
    | inl a ↦ fails ks v text n s (suc n) (omega arith) b.0 a b.2
    | inr a ↦ fails hs w text m t (suc n) (omega arith) b.0 a b.2
  ];
}

-- of several kinds of texts none goes farther than the first
pub first_fault_among : {A : Type 0} (AreOfForm : List (List ℕ) → Type 0) (ks : List LineKind) (hs : A → List LineKind) → AreWords ks → ((a : A) → AreWords (hs a)) →
    ((lines : List (List ℕ)) → AreOfKinds ks lines → AreOfForm lines) → ((lines : List (List ℕ)) → AreOfForm lines → (a : A) × AreOfKinds (hs a) lines) →
    (text : List ℕ) (n : ℕ) → Stops GoesOn ks text n → ((a : A) → (m : ℕ) × Stops GoesOn (hs a) text m × (m ≤ n)) → IsFirstFaultAs AreOfForm text (suc n)
first_fault_among AreOfForm ks hs v w made parts text n s t = record {
  before = λ j h. let b = begins ks v text n s j (omega arith) in (b.0, made b.0 b.1, b.2);
  here = λ b.
      let p = parts b.0 b.1 in
      let m = t p.0 in
      fails (hs p.0) (w p.0) text m.0 m.1 (suc n) (omega (arith, m.2)) b.0 p.1 b.2;
}
