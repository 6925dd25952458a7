use Rattle.std.proofs.Common.{◌+◌, ◌∙◌, sym, ap, arith, length, length-drop}
use Rattle.std.proofs.lemmas.Result.{err_from_is_err_and}
use Rattle.boogie_parse.proofs.Lexing.TokenTurns.{tail_is, attribute_goes, attribute_fails, piece_goes, piece_fails, all_read}
use Rattle.boogie_parse.proofs.lexer.tokens_of.Goals as goal

pub returns-in_err-at-clause-fault : goal.returns-in_err-at-clause-fault
returns-in_err-at-clause-fault c =
    let p = err_from_is_err_and c.from_residual.result c.from_residual.ensures.1 in
    rw (p.1, p.2)
    (λ _. attribute_fails _ c.args.pieces.now _ c.loop-at.at _ c.in_err-at.field-0.0 _ c.loop-at-test.true (tail_is c.args.pieces.now (c.loop-at.at + 1))
    (sym c.begins_attribute.ensures ∙ c.if-begins_attribute.true) (sym c.attribute_length.ensures.counted ∙ c.in_err-at.was) c.loop-at.invariant.rest)

pub loop-at-preserved-then-begins_attribute : goal.loop-at-preserved-then-begins_attribute
loop-at-preserved-then-begins_attribute c = record {
  within =
      omega (arith, c.in_ok-at.ensures.within, ap length (tail_is c.args.pieces.now (c.loop-at.at + 1)), length-drop (c.loop-at.at + 1) c.args.pieces.now);
  rest =
      attribute_goes _ c.args.pieces.now _ c.loop-at.at c.in_ok-at.field-0 _ _ c.loop-at-test.true (tail_is c.args.pieces.now (c.loop-at.at + 1))
      (sym c.begins_attribute.ensures ∙ c.if-begins_attribute.true) (sym c.attribute_length.ensures.counted ∙ c.in_ok-at.was) c.loop-at.invariant.rest;
}

pub returns-in_err-judged-clause-fault : goal.returns-in_err-judged-clause-fault
returns-in_err-judged-clause-fault c =
    let p = err_from_is_err_and c.from_residual-in_err-judged.result c.from_residual-in_err-judged.ensures.1 in
    rw (p.1, p.2)
    (λ real. piece_fails _ c.args.pieces.now _ c.loop-at.at _ c.in_err-judged.field-0.0 _ c.loop-at-test.true (tail_is c.args.pieces.now (c.loop-at.at + 1))
    (sym c.begins_attribute.ensures ∙ c.if-begins_attribute.false) (c.in_err-judged.ensures.fault real) c.loop-at.invariant.rest)

pub loop-at-preserved : goal.loop-at-preserved
loop-at-preserved c = record {
  within = omega arith;
  rest =
      piece_goes _ _ c.in_ok-judged.field-0 c.args.pieces.now _ c.loop-at.at _ _ c.loop-at-test.true (tail_is c.args.pieces.now (c.loop-at.at + 1))
      (sym c.begins_attribute.ensures ∙ c.if-begins_attribute.false) c.in_ok-judged.ensures.token c.in_ok-push.ensures.items c.loop-at.invariant.rest;
}

pub returns-clause-tokens : goal.returns-clause-tokens
returns-clause-tokens c = all_read _ c.args.pieces.now c.loop-at.at _ c.loop-at-test.false c.loop-at.invariant.rest
