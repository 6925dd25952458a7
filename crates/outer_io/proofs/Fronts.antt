-- What is known of a text while it is read piece by piece.
use Rattle.std.proofs.Common.{◌≡◌, ℕ, ◌+◌, ◌<◌, ◌≤◌, List, [], ◌++◌, length, take, drop, Option, None, Some, IfSome, refl, sym, ◌∙◌, ap, arith}
use Rattle.std.proofs.lemmas.List.{append-nil, append_assoc, length-append, take-append-drop}
use Rattle.std.proofs.Math.Seq.{drop-append-add}
use Rattle.outer_io.specs.Texts.{TakesAtMost}

-- the whole is the text and then what is left
abbrev pub IsFront : List ℕ → Option (List ℕ) → List ℕ → Type 0
IsFront text left whole = (rest : List ℕ) × (left ≡ Some rest) × (whole ≡ text ++ rest)

-- n bytes went from the front of the rest to the front of the piece
abbrev pub MovesPiece : ℕ → List ℕ → Option (List ℕ) → List ℕ → Type 0
MovesPiece n piece next rest = (n ≤ length rest) × (take n piece ≡ take n rest) × (next ≡ Some (drop n rest))

pub front-start : (left : Option (List ℕ)) → IfSome left (IsFront [] left)
front-start None = tt
front-start (Some rest) = (rest, refl, refl)

pub front-more : (start left next : Option (List ℕ)) (text piece : List ℕ) (n : ℕ) → IfSome start (IsFront text left)
    → IfSome left (MovesPiece n piece next) → IfSome start (IsFront (text ++ take n piece) next)
front-more None left next text piece n front moves = tt
front-more (Some whole) left next text piece n front moves =
    let moved : MovesPiece n piece next front.0 = rw front.1 at moves in
    (drop n front.0, moved.2, front.2 ∙ simp (append_assoc, moved.1, take-append-drop))

pub front-whole : (start left : Option (List ℕ)) (text : List ℕ) → IfSome start (IsFront text left)
    → IfSome left (λ rest. rest ≡ []) → IfSome start (λ whole. text ≡ whole)
front-whole None left text front ended = tt
front-whole (Some whole) left text front ended =
    let empty : front.0 ≡ [] = rw front.1 at ended in
    sym (front.2 ∙ ap (λ rest. text ++ rest) empty ∙ append-nil text)

pub front-takes : (start left next : Option (List ℕ)) (text piece : List ℕ) (n most : ℕ) → IfSome start (IsFront text left)
    → IfSome left (MovesPiece n piece next) → length text + n ≤ most → IfSome start (λ whole. TakesAtMost most whole next)
front-takes None left next text piece n most front moves within = tt
front-takes (Some whole) left next text piece n most front moves within =
    let moved : MovesPiece n piece next front.0 = rw front.1 at moves in
    (length text + n, within, moved.2 ∙ ap (λ rest. Some rest) (sym (drop-append-add text front.0 n) ∙ ap (λ all. drop (length text + n) all) (sym front.2)))

-- nothing has moved
nothing_moves : (left next : Option (List ℕ)) → next ≡ left → IfSome left (MovesPiece 0 [] next)
nothing_moves None next same = tt
nothing_moves (Some rest) next same = (omega arith, refl, same)

pub front-stays : (start left next : Option (List ℕ)) (text : List ℕ) (most : ℕ) → IfSome start (IsFront text left)
    → next ≡ left → length text ≤ most → IfSome start (λ whole. TakesAtMost most whole next)
front-stays start left next text most front same within =
    front-takes start left next text [] 0 most front (nothing_moves left next same) (omega arith)

pub front-longer : (start left next : Option (List ℕ)) (text piece : List ℕ) (n most : ℕ) → IfSome start (IsFront text left)
    → IfSome left (MovesPiece n piece next) → most < length text + n → IfSome start (λ whole. most < length whole)
front-longer None left next text piece n most front moves above = tt
front-longer (Some whole) left next text piece n most front moves above =
    let moved : MovesPiece n piece next front.0 = rw front.1 at moves in
    rw front.2 (omega (arith, length-append text front.0))
