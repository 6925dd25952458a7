use Rattle.std.proofs.Common.{ℕ, ◌<◌, pos, [], ◌∷◌, ◌++◌, codes, length, ap, ◌∙◌}
use Rattle.std.specs.Prelude.{ℤ, map}
use Rattle.std.specs.List.{flat_map}
use Rattle.proof_form.specs.Predicates.{term_text}
use Rattle.proof_form.proofs.WritingLaws.{all_written, viewed_texts}
use Rattle.rank_lasso.specs.Ties.Writing.{term_form}
use Rattle.rank_lasso.proofs.WritingLaws.{each_got, letters_written}
use Rattle.rank_lasso.proofs.ranking_writing.push_rank.Goals as goal

pub push_term-requires-clause-within : goal.push_term-requires-clause-within
push_term-requires-clause-within c =
    each_got (λ (u : ℕ × ℤ). u.0 < length c.args.frame.now) c.args.terms.now c.loop-term.term-index (0, pos 0) c.requires.over.within c.loop-term-test.true

pub returns-clause-written : goal.returns-clause-written
returns-clause-written c =
    let frame = c.args.frame.now in
    let terms = c.args.terms.now in
    let old = c.args.out.now.items in
    let text = flat_map term_text (map (term_form frame) terms) in
    letters_written old (codes "rank") c.loop-term.out.items c.push.new.self.items (10 ∷ []) text
    (all_written (λ (t : ℕ × ℤ). term_text (term_form frame t)) terms c.loop-term.term-index c.loop-term.out.items
    ((old ++ codes "rank") ++ flat_map (λ (t : ℕ × ℤ). term_text (term_form frame t)) terms) c.loop-term-test.false c.loop-term.invariant.written
    ∙ ap (λ x. (old ++ codes "rank") ++ x) (viewed_texts (term_form frame) term_text terms)) c.in_ok-push.ensures.items
