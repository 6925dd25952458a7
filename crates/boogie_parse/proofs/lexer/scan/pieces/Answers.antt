use Rattle.boogie_parse.proofs.Lexing.PieceTurns.{front_of_fits, pieces_at, no_pieces, behind_bounds}
use Rattle.boogie_parse.proofs.Lexing.PieceViewLaws.{next_pieces, found_turn, skipped_turn, one_more, found_all}
use Rattle.std.proofs.Common.{◌≡◌, ap, sym, ◌∙◌, arith, option_map}
use Rattle.boogie_tree.specs.declared.span.Span.{Span}
use Rattle.std.proofs.Common.{List, ◌∷◌, ◌++◌, map, Vec, Global}
use Rattle.boogie_parse.specs.declared.lexer.piece.Piece.{Piece}
use Rattle.boogie_parse.specs.Lexing.Pieces as pure
use Rattle.boogie_parse.specs.Lexing.Pieces.{pieces_from, pieces}
use Rattle.boogie_parse.specs.Ties.PieceViews.{front, piece}
use Rattle.boogie_parse.proofs.lexer.scan.pieces.Goals as goal
use Rattle.boogie_parse.proofs.lexer.scan.pieces.Goals.{After-behind-here, in-Found+in_ok-push, in_default-front}

pub split_at-requires : goal.split_at-requires
split_at-requires c =
    let fits = front_of_fits (front c.in-Some.front) c.loop-front.rest.now (ap (option_map front) (sym c.in-Some.is) ∙ c.front_of.ensures) in
    omega (arith, fits)

pub loop-front-smaller : goal.loop-front-smaller
loop-front-smaller c =
    let fits = front_of_fits (front c.in-Some.front) c.loop-front.rest.now (ap (option_map front) (sym c.in-Some.is) ∙ c.front_of.ensures) in
    omega (arith, fits, c.split_at.ensures.back_len, c.len.ensures)

-- the pieces found and those behind the next place are all
found_next : (c : After-behind-here) → map piece c.match-front.found.items ++ pieces_from 0 c.behind-here.result c.split_at.result.1.now ≡ pieces c.args.text.now
found_next c =
    let turn = pieces_at (front c.in-Some.front) c.loop-front.here c.loop-front.rest.now (ap (option_map front) (sym c.in-Some.is) ∙ c.front_of.ensures) in
    let next = next_pieces c.loop-front.here c.behind-here.result c.loop-front.rest.now c.split_at.result.0.now c.split_at.result.1.now c.len.result _ c.len.ensures c.split_at.ensures.front c.split_at.ensures.back c.behind-here.ensures in
    elim c.match-front.branch [
      | in-Found+in_ok-push w ↦
          one_more c.loop-front.found.items c.match-front.found.items _ _ _ _ (ap (λ (v : Vec Piece Global). v.items) w.found-is ∙ w.in_ok-push.ensures.items)
          (found_turn c.in-Some.front w.in-Found.shape w.in-Found.field-1 c.len.result c.loop-front.here c.loop-front.rest.now c.split_at.result.0 _ _ w.in-Found.is c.len.ensures c.split_at.ensures.front turn
          ∙ ap (λ (ps : List pure.Piece). piece (record { span = c.loop-front.here; shape = w.in-Found.shape; text = c.split_at.result.0 }) ∷ ps) next)
          c.loop-front.invariant.found
      | in_default-front w ↦
          ap (λ (v : Vec Piece Global). map piece v.items ++ pieces_from 0 c.behind-here.result c.split_at.result.1.now) w.found-is
          ∙ ap (λ (ps : List pure.Piece). map piece c.loop-front.found.items ++ ps)
          (sym (skipped_turn c.in-Some.front c.loop-front.here c.loop-front.rest.now _ _ w.in_default-front.not-Found turn ∙ next))
          ∙ c.loop-front.invariant.found
    ]

pub loop-front-preserved : goal.loop-front-preserved
loop-front-preserved c =
    let at = c.behind-here.result in
    let read = c.split_at.result.0.now in
    let bounds = behind_bounds read c.loop-front.here in
    let line = ap (λ (s : Span). s.line) c.behind-here.ensures in
    let column = ap (λ (s : Span). s.col) c.behind-here.ensures in
    record {
      line = omega (arith, bounds, line);
      column = omega (arith, bounds, column);
      found = found_next c;
    }

pub returns : goal.returns
returns c = found_all _ _ _ c.loop-front.invariant.found (no_pieces c.loop-front.here c.loop-front.rest.now (ap (option_map front) (sym c.in_default.is) ∙ c.front_of.ensures))
