use Rattle.std.proofs.Common.{◌↔◌, List, Option, None, Some}
use Rattle.std.specs.Prelude.{MatchOption}
use Rattle.std.proofs.lemmas.Result.{IfOk-weaker}
use Rattle.nwa_base.specs.declared.letters.Letter.{Letter}
use Rattle.nwa_base.specs.Automata.{Automaton}
use Rattle.nwa_base.specs.Acceptance.{Accepts}
use Rattle.proof_reuse.proofs.CommonLaws.{none_left}
use Rattle.proof_reuse.proofs.common.common_word.Goals as goal

-- a word of what is left is one of both
word_left : (both p q : Automaton) (o : Option (List Letter)) → ((w : List Letter) → Accepts both w ↔ (Accepts p w × ((Accepts q w → ⊥) → ⊥))) →
    MatchOption o ((w : List Letter) → Accepts both w → ⊥) (λ w. Accepts both w × Accepts q w) → MatchOption o ((w : List Letter) → Accepts p w → Accepts q w → ⊥) (λ w. Accepts p w × Accepts q w)
word_left both p q None d h = λ w a b. none_left (d w) (h w) a b
word_left both p q (Some w) d h = (((d w).0 h.0).0, h.1)

pub word_of-word-requires : goal.word_of-word-requires
word_of-word-requires c = λ w a n. ((c.in_ok-both.ensures w).0 a).1 n

pub returns : goal.returns
returns c = IfOk-weaker c.word_of-word.result _ _ (λ o k. word_left c.in_ok-both.both c.args.first.now c.args.second.now o c.in_ok-both.ensures k) c.word_of-word.ensures
