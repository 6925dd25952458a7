use Rattle.std.proofs.Common.{◌∙◌, sym, arith}
use Rattle.boogie_parse.proofs.Lexing.PieceViewLaws.{pieces_go, pieces_close}
use Rattle.boogie_parse.proofs.lexer.attributes.braced_length.Goals as goal

pub returns-in_default-clause-counted : goal.returns-in_default-clause-counted
returns-in_default-clause-counted c =
    sym (pieces_close c.args.pieces.now c.loop-i.i c.loop-i.inner _ c.loop-i-test.true (sym c.in_default.is ∙ c.open_behind.ensures.is)) ∙ c.loop-i.invariant.rest

pub loop-i-preserved : goal.loop-i-preserved
loop-i-preserved c = record {
  shallow = omega (arith, c.in-Some.ensures.bounds);
  rest = sym (pieces_go c.args.pieces.now c.loop-i.i c.loop-i.inner c.in-Some.open _ c.loop-i-test.true (sym c.in-Some.is ∙ c.open_behind.ensures.is)) ∙ c.loop-i.invariant.rest;
}
