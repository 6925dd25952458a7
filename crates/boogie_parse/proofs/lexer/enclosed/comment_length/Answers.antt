use Rattle.std.proofs.Common.{◌∙◌, sym, arith}
use Rattle.boogie_parse.proofs.Lexing.EnclosedLaws.{comment_goes, comment_closes, comment_stays}
use Rattle.boogie_parse.proofs.lexer.enclosed.comment_length.Goals as goal

pub loop-at-preserved : goal.loop-at-preserved
loop-at-preserved c =
    let turn = sym c.in-Some.is ∙ c.comment_turn.ensures.is in
    record {
      shallow = omega (arith, c.in-Some.ensures.bounds);
      within = omega (arith, c.in-Some.ensures.bounds);
      rest = sym (comment_goes c.args.text.now c.loop-at.at c.loop-at.inner c.in-Some.open c.in-Some.len c.loop-at-test.true turn) ∙ c.loop-at.invariant.rest;
    }

pub returns-clause-counted : goal.returns-clause-counted
returns-clause-counted c = sym (comment_stays c.args.text.now c.loop-at.at c.loop-at.inner c.loop-at-test.false) ∙ c.loop-at.invariant.rest

pub returns-in_default-clause-counted : goal.returns-in_default-clause-counted
returns-in_default-clause-counted c =
    let turn = sym c.in_default.is ∙ c.comment_turn.ensures.is in
    sym (comment_closes c.args.text.now c.loop-at.at c.loop-at.inner c.loop-at-test.true turn) ∙ c.loop-at.invariant.rest
