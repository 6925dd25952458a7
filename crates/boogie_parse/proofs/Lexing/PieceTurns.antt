-- The pieces of a text, one after another.
use Rattle.std.proofs.Common.{◌≡◌, ℕ, zero, suc, ◌+◌, ◌-◌, ◌<◌, ◌≤◌, List, [], ◌∷◌, length, take, drop, None, Some, refl, ap, sym, subst, ◌∙◌, arith}
use Rattle.std.specs.Prelude.{nat_eq}
use Rattle.std.proofs.lemmas.Bool.{cond_both}
use Rattle.boogie_tree.specs.declared.span.Span.{Span}
use Rattle.boogie_parse.specs.Lexing.Places.{behind_byte, behind}
use Rattle.boogie_parse.specs.Lexing.Pieces.{Front, Skipped, Found, front, Piece, more_bytes, with_piece, pieces_from}
use Rattle.boogie_parse.specs.Ties.Turns.{length_of, front_of}
use Rattle.boogie_parse.proofs.Lexing.FrontLaws.{front_fits}

-- bytes that belong to what stands before move the place alone
pub pieces_from-pending : (n : ℕ) (here : Span) (bs : List ℕ) → pieces_from n here bs ≡ pieces_from 0 (behind (take n bs) here) (drop n bs)
unfolding pieces_from
pieces_from-pending zero here bs = refl
pieces_from-pending (suc n) here [] = refl
pieces_from-pending (suc n) here (b ∷ r) = pieces_from-pending n (behind_byte b here) r

-- the pieces behind the first `n` bytes
abbrev pub pieces_behind : ℕ → Span → List ℕ → List Piece
pieces_behind n here bs = pieces_from 0 (behind (take n bs) here) (drop n bs)

by_length : (n : ℕ) (here : Span) (b : ℕ) (r : List ℕ) → 0 < n → pieces_from (n - 1) (behind_byte b here) r ≡ pieces_behind n here (b ∷ r)
by_length zero here b r positive = absurd (omega arith)
by_length (suc n) here b r positive =
    let less : suc n - 1 ≡ n = omega arith in
    ap (λ k. pieces_from k (behind_byte b here) r) less ∙ pieces_from-pending n (behind_byte b here) r

behind_front : (f : Front) (here : Span) (b : ℕ) (r : List ℕ) → 0 < length_of f → pieces_from (more_bytes f) (behind_byte b here) r ≡ pieces_behind (length_of f) here (b ∷ r)
behind_front (Skipped n) here b r positive = by_length n here b r positive
behind_front (Found shape n) here b r positive = by_length n here b r positive

pub pieces_turn : (here : Span) (b : ℕ) (r : List ℕ) → pieces_from 0 here (b ∷ r) ≡ with_piece here (b ∷ r) (front b r) (pieces_behind (length_of (front b r)) here (b ∷ r))
unfolding pieces_from
pieces_turn here b r = ap (with_piece here (b ∷ r) (front b r)) (behind_front (front b r) here b r (front_fits b r).0)

-- what the text begins with has one byte or more, and no more than the text
pub front_of_fits : (f : Front) (rest : List ℕ) → Some f ≡ front_of rest → (0 < length_of f) × (length_of f ≤ length rest)
front_of_fits f [] is = cc
front_of_fits f (b ∷ r) is = let e : f ≡ front b r = cc in subst (λ g. (0 < length_of g) × (length_of g ≤ length (b ∷ r))) (sym e) (front_fits b r)

pub pieces_at : (f : Front) (here : Span) (rest : List ℕ) → Some f ≡ front_of rest → pieces_from 0 here rest ≡ with_piece here rest f (pieces_behind (length_of f) here rest)
pieces_at f here [] is = cc
pieces_at f here (b ∷ r) is =
    let e : f ≡ front b r = cc in
    subst (λ g. pieces_from 0 here (b ∷ r) ≡ with_piece here (b ∷ r) g (pieces_behind (length_of g) here (b ∷ r))) (sym e) (pieces_turn here b r)

-- a text that begins with nothing has no bytes
pub no_pieces : (here : Span) (rest : List ℕ) → None ≡ front_of rest → pieces_from 0 here rest ≡ []
unfolding pieces_from
no_pieces here [] is = refl
no_pieces here (b ∷ r) is = cc

byte_bounds : (b : ℕ) (here : Span) → ((behind_byte b here).line ≤ here.line + 1) × ((behind_byte b here).col ≤ here.col + 1)
byte_bounds b here = cond_both (nat_eq b 10) _ _ (λ (at : Span). (at.line ≤ here.line + 1) × (at.col ≤ here.col + 1)) (λ _. (omega arith, omega arith)) (λ _. (omega arith, omega arith))

-- bytes move a place by no more than their number
pub behind_bounds : (bs : List ℕ) (here : Span) → ((behind bs here).line ≤ here.line + length bs) × ((behind bs here).col ≤ here.col + length bs)
behind_bounds [] here = (omega arith, omega arith)
behind_bounds (b ∷ bs) here =
    let byte : ((behind_byte b here).line ≤ here.line + 1) × ((behind_byte b here).col ≤ here.col + 1) = byte_bounds b here in
    let more : ((behind bs (behind_byte b here)).line ≤ (behind_byte b here).line + length bs) × ((behind bs (behind_byte b here)).col ≤ (behind_byte b here).col + length bs) = behind_bounds bs (behind_byte b here) in
    (omega arith, omega arith)
