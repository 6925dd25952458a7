-- The pieces of the code: attributes over them, and how they grow, as their views see it.
use Rattle.std.proofs.Common.{◌≡◌, ℕ, ◌+◌, ◌<◌, List, [], ◌∷◌, ◌++◌, length, take, drop, map, get_or, None, Some, Err, Bor, ◌∙◌, sym, ap, arith, refl, append_assoc, append-nil}
use Rattle.std.proofs.Math.ListN.{length-map}
use Rattle.std.proofs.lemmas.List.{get_or-map, take-map, map_push}
use Rattle.boogie_tree.specs.declared.span.Span.{Span}
use Rattle.boogie_parse.specs.declared.fault.Fault.{Fault}
use Rattle.boogie_parse.specs.declared.lexer.piece.Piece.{Piece}
use Rattle.boogie_parse.specs.declared.lexer.piece.Shape.{Shape}
use Rattle.boogie_parse.specs.declared.lexer.piece.Shape.TheVariants as shapes
use Rattle.boogie_parse.specs.declared.lexer.piece.Front.{Front}
use Rattle.boogie_parse.specs.declared.lexer.piece.Front.TheVariants as fronts
use Rattle.boogie_parse.specs.Lexing.Places.{behind}
use Rattle.boogie_parse.specs.Lexing.Pieces as pure
use Rattle.boogie_parse.specs.Lexing.Pieces.{longer, pieces_from}
use Rattle.boogie_parse.specs.Lexing.Attributes.{braced_length}
use Rattle.boogie_parse.specs.Lexing.Lexed.{syntax_at}
use Rattle.boogie_parse.specs.Ties.PieceViews.{shape, piece, front}
use Rattle.boogie_parse.specs.Ties.Turns.{length_of, open_behind, first_stray, unless_stray, closed_attribute, attribute_length}
use Rattle.boogie_parse.proofs.Lexing.EnclosedLaws.{braces_go, braces_close, stray_goes, stray_found}
use Rattle.boogie_parse.proofs.Lexing.PieceTurns.{pieces_behind}

inside : (ps : List Piece) (at : ℕ) → at < length ps → at < length (map piece ps)
inside ps at h = omega (arith, length-map ps piece)

-- the piece as it stands among the views
seen : (ps : List Piece) (at : ℕ) (d : Piece) → at < length ps → piece (get_or ps at d) ≡ get_or (map piece ps) at (piece (get_or ps at d))
seen ps at d h = sym (get_or-map piece ps at d (piece (get_or ps at d)) h)

pub pieces_go : (ps : List Piece) (at inner more : ℕ) (d : Piece) → at < length ps → Some more ≡ open_behind inner (piece (get_or ps at d)) →
    longer at (braced_length inner (drop at (map piece ps))) ≡ longer (at + 1) (braced_length more (drop (at + 1) (map piece ps)))
pieces_go ps at inner more d h turn = braces_go (map piece ps) at inner more (piece (get_or ps at d)) (inside ps at h) (seen ps at d h) turn

pub pieces_close : (ps : List Piece) (at inner : ℕ) (d : Piece) → at < length ps → None ≡ open_behind inner (piece (get_or ps at d)) →
    longer at (braced_length inner (drop at (map piece ps))) ≡ Some (at + 1)
pieces_close ps at inner d h turn = braces_close (map piece ps) at inner (piece (get_or ps at d)) (inside ps at h) (seen ps at d h) turn

pub is_stray : (ps : List Piece) (at : ℕ) (d : Piece) → at < length ps → (get_or ps at d).shape ≡ shapes.Stray →
    first_stray (drop at (map piece ps)) ≡ Some (get_or ps at d).span
is_stray ps at d h stray = stray_found (map piece ps) at (piece (get_or ps at d)) (inside ps at h) (seen ps at d h) (ap shape stray)

pub no_stray : (ps : List Piece) (at : ℕ) (d : Piece) → at < length ps → ((get_or ps at d).shape ≡ shapes.Stray → ⊥) →
    first_stray (drop at (map piece ps)) ≡ first_stray (drop (at + 1) (map piece ps))
no_stray ps at d h fine = stray_goes (map piece ps) at (piece (get_or ps at d)) (inside ps at h) (seen ps at d h) (by_shape (get_or ps at d).shape fine)
  where
    by_shape : (s : Shape) → (s ≡ shapes.Stray → ⊥) → shape s ≡ pure.Stray → ⊥
    by_shape (shapes.Lexeme kind) fine e = let d : pure.Lexeme kind ≡ pure.Stray = e in fine (cc)
    by_shape shapes.Quoted fine e = let d : pure.Quoted ≡ pure.Stray = e in fine (cc)
    by_shape shapes.RealLiteral fine e = let d : pure.RealLiteral ≡ pure.Stray = e in fine (cc)
    by_shape shapes.LargeLiteral fine e = let d : pure.LargeLiteral ≡ pure.Stray = e in fine (cc)
    by_shape shapes.Stray fine e = fine refl

-- ---- an attribute, by its length and by what stands in it

pub stays_open : (here : Span) (ps : List Piece) (f : Fault) → None ≡ braced_length 0 (map piece ps) → f ≡ syntax_at here → Err f ≡ attribute_length here (map piece ps)
stays_open here ps f unclosed is = ap (λ (g : Fault). Err g) is ∙ ap (closed_attribute here (map piece ps)) unclosed

pub closes : (here : Span) (ps : List Piece) (n : ℕ) → Some n ≡ braced_length 0 (map piece ps) →
    unless_stray n (first_stray (map piece (take n ps))) ≡ attribute_length here (map piece ps)
closes here ps n closed =
    ap (λ qs. unless_stray n (first_stray qs)) (sym (take-map piece n ps))
    ∙ ap (closed_attribute here (map piece ps)) closed

-- ---- the pieces behind what was read

pub next_pieces : (here at : Span) (rest front after : List ℕ) (n m : ℕ) → n ≡ m → front ≡ take n rest → after ≡ drop n rest → at ≡ behind front here →
    pieces_behind m here rest ≡ pieces_from 0 at after
next_pieces here at rest front after n m same cut left is = cc

-- a piece that was found stands before those behind it
pub found_turn : (f : Front) (s : Shape) (n len : ℕ) (here : Span) (rest : List ℕ) (text : Bor (List ℕ)) (now more : List pure.Piece) →
    f ≡ fronts.Found s n → len ≡ length_of (front f) → text.now ≡ take len rest → now ≡ pure.with_piece here rest (front f) more →
    now ≡ piece (record { span = here; shape = s; text = text }) ∷ more
found_turn f s n len here rest text now more is long cut turn =
    let long_n : len ≡ n = long ∙ ap (λ (g : Front). length_of (front g)) is in
    turn ∙ ap (λ (g : Front). pure.with_piece here rest (front g) more) is
    ∙ ap (λ (bytes : List ℕ). (record { span = here; shape = shape s; text = bytes }) ∷ more) (sym (cut ∙ ap (λ k. take k rest) long_n))

-- nothing was found, so nothing is added
pub skipped_turn : (f : Front) (here : Span) (rest : List ℕ) (now more : List pure.Piece) → ((s : Shape) (n : ℕ) → f ≡ fronts.Found s n → ⊥) →
    now ≡ pure.with_piece here rest (front f) more → now ≡ more
skipped_turn (fronts.Skipped n) here rest now more none turn = turn
skipped_turn (fronts.Found s n) here rest now more none turn = absurd (none s n refl)

pub one_more : (old new : List Piece) (read : Piece) (now next all : List pure.Piece) →
    new ≡ old ++ read ∷ [] → now ≡ piece read ∷ next → map piece old ++ now ≡ all → map piece new ++ next ≡ all
one_more old new read now next all pushed turn found =
    ap (λ ps. map piece ps ++ next) pushed
    ∙ ap (λ ps. ps ++ next) (map_push piece old read)
    ∙ append_assoc (map piece old) (piece read ∷ []) next
    ∙ ap (λ ps. map piece old ++ ps) (sym turn)
    ∙ found

pub found_all : (found : List Piece) (now all : List pure.Piece) → map piece found ++ now ≡ all → now ≡ [] → map piece found ≡ all
found_all found now all h none = sym (append-nil (map piece found)) ∙ ap (λ ps. map piece found ++ ps) (sym none) ∙ h
