use Rattle.std.proofs.Common.{◌∙◌, sym}
use Rattle.boogie_parse.proofs.Lexing.PieceViewLaws.{is_stray, no_stray}
use Rattle.boogie_parse.proofs.lexer.attributes.first_stray.Goals as goal

pub returns-in-Stray : goal.returns-in-Stray
returns-in-Stray c = sym (is_stray c.args.pieces.now c.loop-next.next-index _ c.loop-next-test.true c.in-Stray.is) ∙ c.loop-next.invariant

pub loop-next-preserved : goal.loop-next-preserved
loop-next-preserved c = sym (no_stray c.args.pieces.now c.loop-next.next-index _ c.loop-next-test.true c.in_default.not-Stray) ∙ c.loop-next.invariant
