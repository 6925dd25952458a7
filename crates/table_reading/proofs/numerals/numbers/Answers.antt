use Rattle.std.proofs.Common.{of_calls, ◌∙◌, ℕ, List, ap, subst, sym}
use Rattle.std.proofs.lemmas.Result.{IfOk-weaker}
use Rattle.std.specs.Str.Iter.{split_whitespace_rest, split_whitespace_steps}
use Rattle.table_reading.specs.Numbers.{IsNumberOf}
use Rattle.table_reading.specs.Words.{ArePaired}
use Rattle.table_reading.proofs.WordLaws.{no_word, first_word, words_collected}
use Rattle.table_reading.proofs.numerals.numbers.Goals as goal

pub returns : goal.returns
returns c = IfOk-weaker c.collect.result _ _ (λ v h.
    let found = words_collected split_whitespace_rest split_whitespace_steps _ IsNumberOf no_word first_word (λ f x y q k. search of_calls)
    c.args.text.now c.map.result h.0 (ap split_whitespace_rest c.map.ensures.source ∙ c.split_whitespace.ensures.rest) h.1 in
    (found.0, found.1, subst (λ (ns : List ℕ). ArePaired IsNumberOf found.0 ns) (sym h.2.0) found.2)) c.collect.ensures.ran
