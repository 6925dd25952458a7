-- Tokens over the pieces that the code keeps.
use Rattle.std.proofs.Common.{◌≡◌, ℕ, ◌+◌, ◌-◌, ◌<◌, ◌≤◌, true, false, List, [], ◌∷◌, ◌++◌, length, take, drop, map, get_or, Result, Ok, Err, ◌∙◌, sym, ap, subst, add-one, append-nil, arith, length-drop}
use Rattle.std.proofs.Math.Seq.{drop-cons}
use Rattle.std.proofs.lemmas.List.{drop-drop, drop-map, drop_all, take_all}
use Rattle.boogie_parse.specs.declared.fault.Fault.{Fault}
use Rattle.boogie_parse.specs.declared.lexer.piece.Piece.{Piece}
use Rattle.boogie_parse.specs.declared.lexer.token.Token.{Token}
use Rattle.boogie_parse.specs.Lexing.Attributes.{begins_attribute}
use Rattle.boogie_parse.specs.Lexing.Lexed.{found_in}
use Rattle.boogie_parse.specs.Ties.PieceViews.{piece}
use Rattle.boogie_parse.specs.Ties.Turns.{attribute_length, judgement, with_tokens}
use Rattle.boogie_parse.proofs.Lexing.LexedTurns.{read, behind_attribute, behind_piece, read_attribute, read_piece, with_one_token}

-- the tokens of the pieces from one on
abbrev pub read_from : ℕ → List Piece → Result (List Token) Fault
read_from at ps = read (map piece (drop at ps))

piece_and_more : (ps : List Piece) (at : ℕ) (d : Piece) → at < length ps → map piece (drop at ps) ≡ piece (get_or ps at d) ∷ map piece (drop (at + 1) ps)
piece_and_more ps at d h =
    ap (map piece) (drop-cons ps at d h) ∙ ap (λ k. piece (get_or ps at d) ∷ map piece (drop k ps)) (sym (add-one at))

attribute_turn : (ps : List Piece) (at : ℕ) (d : Piece) → at < length ps →
    begins_attribute (piece (get_or ps at d)) (map piece (drop (at + 1) ps)) ≡ true →
    read_from at ps ≡ behind_attribute (map piece (drop (at + 1) ps)) (attribute_length (get_or ps at d).span (map piece (drop (at + 1) ps)))
attribute_turn ps at d h begins = ap read (piece_and_more ps at d h) ∙ read_attribute (piece (get_or ps at d)) (map piece (drop (at + 1) ps)) begins

-- the code's slice of the pieces behind one
pub tail_is : (ps : List Piece) (k : ℕ) → take (length ps - k) (drop k ps) ≡ drop k ps
tail_is ps k = take_all (length ps - k) (drop k ps) (omega (arith, length-drop k ps))

pub attribute_goes : (ts : List Token) (ps after : List Piece) (at n : ℕ) (d : Piece) (all : Result (List Token) Fault) → at < length ps → after ≡ drop (at + 1) ps →
    begins_attribute (piece (get_or ps at d)) (map piece after) ≡ true → attribute_length (get_or ps at d).span (map piece after) ≡ Ok n →
    with_tokens ts (read_from at ps) ≡ all → with_tokens ts (read_from (at + 1 + n) ps) ≡ all
attribute_goes ts ps after at n d all h tail begins_here closed_here so_far =
    let begins : begins_attribute (piece (get_or ps at d)) (map piece (drop (at + 1) ps)) ≡ true =
    subst (λ qs. begins_attribute (piece (get_or ps at d)) (map piece qs) ≡ true) tail begins_here in
    let closed : attribute_length (get_or ps at d).span (map piece (drop (at + 1) ps)) ≡ Ok n =
    subst (λ qs. attribute_length (get_or ps at d).span (map piece qs) ≡ Ok n) tail closed_here in
    ap (with_tokens ts)
    (ap (λ qs. read (map piece qs)) (sym (drop-drop n (at + 1) ps))
    ∙ ap read (sym (drop-map piece n (drop (at + 1) ps)))
    ∙ ap (behind_attribute (map piece (drop (at + 1) ps))) (sym closed)
    ∙ sym (attribute_turn ps at d h begins))
    ∙ so_far

pub attribute_fails : (ts : List Token) (ps after : List Piece) (at : ℕ) (d : Piece) (f : Fault) (all : Result (List Token) Fault) → at < length ps → after ≡ drop (at + 1) ps →
    begins_attribute (piece (get_or ps at d)) (map piece after) ≡ true → attribute_length (get_or ps at d).span (map piece after) ≡ Err f →
    with_tokens ts (read_from at ps) ≡ all → all ≡ Err f
attribute_fails ts ps after at d f all h tail begins_here fails_here so_far =
    let begins : begins_attribute (piece (get_or ps at d)) (map piece (drop (at + 1) ps)) ≡ true =
    subst (λ qs. begins_attribute (piece (get_or ps at d)) (map piece qs) ≡ true) tail begins_here in
    let fails : attribute_length (get_or ps at d).span (map piece (drop (at + 1) ps)) ≡ Err f =
    subst (λ qs. attribute_length (get_or ps at d).span (map piece qs) ≡ Err f) tail fails_here in
    sym so_far ∙ ap (with_tokens ts) (attribute_turn ps at d h begins ∙ ap (behind_attribute (map piece (drop (at + 1) ps))) fails)

piece_turn : (ps : List Piece) (at : ℕ) (d : Piece) → at < length ps →
    begins_attribute (piece (get_or ps at d)) (map piece (drop (at + 1) ps)) ≡ false →
    read_from at ps ≡ behind_piece (judgement (piece (get_or ps at d))) (read_from (at + 1) ps)
piece_turn ps at d h begins = ap read (piece_and_more ps at d h) ∙ read_piece (piece (get_or ps at d)) (map piece (drop (at + 1) ps)) begins

pub piece_goes : (ts more : List Token) (t : Token) (ps after : List Piece) (at : ℕ) (d : Piece) (all : Result (List Token) Fault) → at < length ps → after ≡ drop (at + 1) ps →
    begins_attribute (piece (get_or ps at d)) (map piece after) ≡ false → judgement (piece (get_or ps at d)) ≡ Ok t →
    more ≡ ts ++ t ∷ [] → with_tokens ts (read_from at ps) ≡ all → with_tokens more (read_from (at + 1) ps) ≡ all
piece_goes ts more t ps after at d all h tail begins_here judged pushed so_far =
    let begins : begins_attribute (piece (get_or ps at d)) (map piece (drop (at + 1) ps)) ≡ false =
    subst (λ qs. begins_attribute (piece (get_or ps at d)) (map piece qs) ≡ false) tail begins_here in
    ap (λ us. with_tokens us (read_from (at + 1) ps)) pushed
    ∙ with_one_token ts t (read_from (at + 1) ps)
    ∙ ap (with_tokens ts) (ap (λ j. behind_piece j (read_from (at + 1) ps)) (sym judged) ∙ sym (piece_turn ps at d h begins))
    ∙ so_far

pub piece_fails : (ts : List Token) (ps after : List Piece) (at : ℕ) (d : Piece) (f : Fault) (all : Result (List Token) Fault) → at < length ps → after ≡ drop (at + 1) ps →
    begins_attribute (piece (get_or ps at d)) (map piece after) ≡ false → judgement (piece (get_or ps at d)) ≡ Err f →
    with_tokens ts (read_from at ps) ≡ all → all ≡ Err f
piece_fails ts ps after at d f all h tail begins_here judged so_far =
    let begins : begins_attribute (piece (get_or ps at d)) (map piece (drop (at + 1) ps)) ≡ false =
    subst (λ qs. begins_attribute (piece (get_or ps at d)) (map piece qs) ≡ false) tail begins_here in
    sym so_far ∙ ap (with_tokens ts) (piece_turn ps at d h begins ∙ ap (λ j. behind_piece j (read_from (at + 1) ps)) judged)

pub all_read : (ts : List Token) (ps : List Piece) (at : ℕ) (all : Result (List Token) Fault) → length ps ≤ at → with_tokens ts (read_from at ps) ≡ all → all ≡ Ok ts
unfolding found_in
all_read ts ps at all h so_far =
    sym so_far ∙ ap (λ qs. with_tokens ts (read (map piece qs))) (drop_all at ps h) ∙ ap (λ (us : List Token). Ok us) (append-nil ts)
