-- What the letter of a conjunction is worth.
use Rattle.std.specs.Prelude.{◌≡◌, ◌⊎◌, ℕ, ◌+◌, ℤ, false, List, [], ◌∷◌, ◌++◌, length}
use Rattle.lin_rows.specs.Rows.{RowsBelow}
use Rattle.cond_jumps.specs.Conjunctions.{Conjunction}
use Rattle.cond_jumps.specs.Lists.{IsMet}
use Rattle.cond_jumps.specs.FreeProducts.Letters.{MarkedConjunction, marked_letter}

-- The values of a frame and of further columns that meet a conjunction, together with the values of its products, meet its letter.
abbrev pub LettersFollow : Type 0
LettersFollow = (values products news : List ℤ) (c : Conjunction) →
    IsMet ((values ++ products) ++ news) c → IsMet (values ++ news) (marked_letter (length values) (length products) (length news) c).plain

-- Values that meet a letter that is not coarse meet the conjunction, whatever the values of its products are.
abbrev pub ExactLettersLead : Type 0
ExactLettersLead = (values products news : List ℤ) (c : Conjunction) → (marked_letter (length values) (length products) (length news) c).coarse ≡ false →
    IsMet (values ++ news) (marked_letter (length values) (length products) (length news) c).plain → IsMet ((values ++ products) ++ news) c

-- Without products a conjunction is its own letter, and exact.
abbrev pub PlainLetters : Type 0
PlainLetters = (low more : ℕ) (c : Conjunction) → marked_letter low 0 more c ≡ record { plain = c; coarse = false }

-- The rows of a letter name columns of the frame, further columns and its helpers alone.
abbrev pub LettersAreNarrow : Type 0
LettersAreNarrow = (low count more : ℕ) (c : Conjunction) → RowsBelow (((low + count) + more) + c.helpers) c.rows →
    RowsBelow ((low + more) + (marked_letter low count more c).plain.helpers) (marked_letter low count more c).plain.rows

-- the values meet a letter of the list
abbrev pub SomeLetterIsMet : List ℤ → List MarkedConjunction → Type 0
SomeLetterIsMet values [] = ⊥
SomeLetterIsMet values (l ∷ ls) = IsMet values l.plain ⊎ SomeLetterIsMet values ls

-- the values meet a letter of the list that is not coarse
abbrev pub SomeExactLetterIsMet : List ℤ → List MarkedConjunction → Type 0
SomeExactLetterIsMet values [] = ⊥
SomeExactLetterIsMet values (l ∷ ls) = ((l.coarse ≡ false) × IsMet values l.plain) ⊎ SomeExactLetterIsMet values ls
