use Rattle.std.proofs.Common.{◌≡◌, ◌∷◌, ◌++◌}
use Rattle.std.specs.Fmt.{decimal}
use Rattle.std.specs.String.{string_bytes}
use Rattle.proof_form.proofs.WritingLaws.{with_rest}
use Rattle.rank_lasso.specs.LassoText.{letters_text}
use Rattle.rank_lasso.proofs.ranking_writing.push_letters.Given as goal

abbrev pub invariant-loop-letter : goal.invariant-loop-letter
invariant-loop-letter l = with_rest (λ n. 32 ∷ decimal n) (string_bytes l.text) l.letters l.letter-index ≡ (string_bytes l.fn.text ++ l.word) ++ letters_text l.letters
