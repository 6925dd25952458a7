-- The lines of a text.
use Rattle.std.proofs.Common.{◌≡◌, ℕ, Bool, true, false, not, cond, ◌&&◌, nat_eq, List, [], ◌∷◌, ◌++◌, take, refl, sym, ap, ◌∙◌, append_assoc}
use Rattle.std.specs.List.{AllByRecursion, concat}
use Rattle.std.proofs.lemmas.Bool.{and_parts, and_from, not-true}
use Rattle.outer_io.specs.Lines.{onto_first, lines_of}

-- no byte ends a line
abbrev pub no_newline : List ℕ → Bool
no_newline [] = true
no_newline (b ∷ bs) = not (nat_eq b 10) && no_newline bs

pub no_newline-append : (xs ys : List ℕ) → no_newline xs ≡ true → no_newline ys ≡ true → no_newline (xs ++ ys) ≡ true
no_newline-append [] ys h k = k
no_newline-append (x ∷ xs) ys h k =
    let parts = and_parts (not (nat_eq x 10)) (no_newline xs) h in
    and_from (not (nat_eq x 10)) (no_newline (xs ++ ys)) parts.0 (no_newline-append xs ys parts.1 k)

-- a whole line: bytes and the newline that ends them
pub record IsLine (line : List ℕ) : Type 0 where
  pub body : List ℕ
  pub plain : no_newline body ≡ true
  pub is : line ≡ body ++ 10 ∷ []

body_first : (body rest : List ℕ) → no_newline body ≡ true → lines_of (body ++ 10 ∷ rest) ≡ (body ++ 10 ∷ []) ∷ lines_of rest
body_first [] rest h = refl
body_first (b ∷ bs) rest h =
    let parts = and_parts (not (nat_eq b 10)) (no_newline bs) h in
    rw (not-true (nat_eq b 10) parts.0) (ap (onto_first b) (body_first bs rest parts.1))

-- a whole line is the first of the text that begins with it
pub line_first : (line rest : List ℕ) → IsLine line → lines_of (line ++ rest) ≡ line ∷ lines_of rest
line_first line rest h =
    ap (λ l. lines_of (l ++ rest)) h.is
    ∙ ap lines_of (append_assoc h.body (10 ∷ []) rest)
    ∙ body_first h.body rest h.plain
    ∙ ap (λ l. l ∷ lines_of rest) (sym h.is)

-- whole lines are the first of the text that begins with them
pub lines_first : (lines : List (List ℕ)) (rest : List ℕ) → AllByRecursion IsLine lines → lines_of (concat lines ++ rest) ≡ lines ++ lines_of rest
lines_first [] rest h = refl
lines_first (l ∷ ls) rest h =
    ap lines_of (append_assoc l (concat ls) rest) ∙ line_first l (concat ls ++ rest) h.0 ∙ ap (λ xs. l ∷ xs) (lines_first ls rest h.1)

concat-onto_first : (b : ℕ) (lines : List (List ℕ)) → concat (onto_first b lines) ≡ b ∷ concat lines
concat-onto_first b [] = refl
concat-onto_first b (l ∷ ls) = refl

-- a text is its lines
pub concat-lines_of : (text : List ℕ) → concat (lines_of text) ≡ text
concat-lines_of [] = refl
concat-lines_of (b ∷ bs) = elim (nat_eq b 10) as (λ t. nat_eq b 10 ≡ t → concat (cond t ((b ∷ []) ∷ lines_of bs) (onto_first b (lines_of bs))) ≡ b ∷ bs) [
  | true ↦ λ e. ap (λ xs. b ∷ xs) (concat-lines_of bs)
  | false ↦ λ e. concat-onto_first b (lines_of bs) ∙ ap (λ xs. b ∷ xs) (concat-lines_of bs)
] refl

-- what the first line says of the text
begins : (lines : List (List ℕ)) (line : List ℕ) → take 1 lines ≡ line ∷ [] → (rest : List ℕ) × (concat lines ≡ line ++ rest)
begins [] line h = absurd (let n : ⊥ = cc in n)
begins (l ∷ ls) line h = (concat ls, let same : l ≡ line = cc in ap (λ x. x ++ concat ls) same)

pub first_line_is : (text line : List ℕ) → take 1 (lines_of text) ≡ line ∷ [] → (rest : List ℕ) × (text ≡ line ++ rest)
first_line_is text line h = let found = begins (lines_of text) line h in (found.0, sym (concat-lines_of text) ∙ found.1)

none_left : (lines : List (List ℕ)) → take 1 lines ≡ [] → lines ≡ []
none_left [] h = refl
none_left (l ∷ ls) h = absurd (let n : ⊥ = cc in n)

pub no_line_is : (text : List ℕ) → take 1 (lines_of text) ≡ [] → text ≡ []
no_line_is text h = sym (concat-lines_of text) ∙ ap concat (none_left (lines_of text) h)
