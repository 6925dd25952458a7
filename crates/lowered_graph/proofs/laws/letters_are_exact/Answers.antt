use Rattle.lowered_graph.proofs.ExactLetters.{letters_exact, word_exact}
use Rattle.lowered_graph.proofs.laws.letters_are_exact.Goals as goal

pub returns-clause-letters : goal.returns-clause-letters
returns-clause-letters c = λ t v plain n. letters_exact t v plain n

pub returns-clause-words : goal.returns-clause-words
returns-clause-words c = λ t w v plain. word_exact t (letters_exact t v plain) w
