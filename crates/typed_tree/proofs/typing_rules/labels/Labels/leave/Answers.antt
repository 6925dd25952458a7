use Rattle.std.proofs.Common.{◌≡◌, ◌-◌, ◌+◌, ℕ, arith, drop, ap, ◌∙◌}
use Rattle.std.proofs.lemmas.List.{drop-drop}
use Rattle.typed_tree.proofs.typing_rules.labels.Labels.leave.Goals as goal

pub loop-more-preserved : goal.loop-more-preserved
loop-more-preserved c =
    let e : (c.loop-more._more - c.args.count) + 1 ≡ (c.loop-more._more + 1) - c.args.count = omega arith in
    record {
      within = omega arith;
      rest = c.pop.ensures ∙ ap (drop 1) c.loop-more.invariant.rest ∙ drop-drop 1 (c.loop-more._more - c.args.count) c.args.self.now ∙ ap (λ (n : ℕ). drop n c.args.self.now) e;
    }

pub returns : goal.returns
returns c =
    c.loop-more.invariant.rest ∙ ap (λ (n : ℕ). drop n c.args.self.now) (omega arith)
