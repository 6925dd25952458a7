use Rattle.std.proofs.Common.{◌^◌, sym, arith}
use Rattle.boogie_tree.specs.Names.{is_digit}
use Rattle.proof_form.proofs.ListLaws.{each_passes}
use Rattle.rank_lasso.proofs.LetterLaws.{not_a_number, number_below}
use Rattle.explain_top.proofs.trace_story.reading.long_number.Goals as goal

pub returns-then-not-all_digits : goal.returns-then-not-all_digits
returns-then-not-all_digits c = λ n l. not_a_number c.args.word.now (sym c.if-not-all_digits.ensures) n (omega arith)

pub number_of-requires : goal.number_of-requires
number_of-requires c = each_passes is_digit c.args.word.now (sym c.if-not-all_digits.ensures)

pub returns : goal.returns
returns c = number_below (2 ^ 64) (omega arith) c.args.word.now c.in_ok-number_of.field-0 c.try_from.result c.ok.result c.try_from.ensures c.ok.ensures.value c.in_ok-number_of.ensures

pub returns-in_err-number_of : goal.returns-in_err-number_of
returns-in_err-number_of c = rw c.from_residual.ensures (λ n l. c.in_err-number_of.ensures n (omega arith))
