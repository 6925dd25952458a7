use Rattle.rank_lasso.proofs.LetterLaws.{no_letter}
use Rattle.rank_lasso.proofs.letters.letter_at.Goals as goal

pub returns-in_err-letter : goal.returns-in_err-letter
returns-in_err-letter c =
    rw c.from_residual-in_err-letter.ensures (no_letter c.args.bytes.now c.in_ok-word.word.now c.in_ok-word.rest.now c.in_ok-word.ensures c.in_err-letter.ensures)
