use Rattle.std.proofs.Common.{◌≡◌, ◌∙◌, ℕ, List, ap, map}
use Rattle.proof_reuse.specs.Ties.Choices.{numbers_in, pair_choices, begun_pairs}
use Rattle.proof_reuse.specs.Ties.Sets.{InsertsAll}
use Rattle.std.proofs.Common.{subst}
use Rattle.proof_reuse.proofs.SetLaws.{same_all}
use Rattle.proof_reuse.proofs.choosing.call_pair_choices.Goals as goal

pub returns : goal.returns
returns c =
    let more : c.in_ok-more.more.items ≡ begun_pairs c.args.preds.now c.args.caller =
    c.in_ok-more.ensures ∙ ap (map (λ (k : ℕ). (k, 0))) (c.deref.ensures.value ∙ c.in_ok-here.ensures) in
    same_all c.in_ok-choices.choices.keys c.add_pairs.new.set.keys (pair_choices c.args.preds.now c.args.pairs.now c.args.caller c.args.callee) (begun_pairs c.args.preds.now c.args.caller)
    c.in_ok-choices.ensures
    (subst (λ (l : List (ℕ × ℕ)). InsertsAll c.in_ok-choices.choices.keys l c.add_pairs.new.set.keys) more c.in_ok-add_pairs.ensures)
