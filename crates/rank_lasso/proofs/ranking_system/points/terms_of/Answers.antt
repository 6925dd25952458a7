use Rattle.std.proofs.Common.{◌∙◌, pos, get_or, to_z, of_z, sym, ap, rules, FitsSigned}
use Rattle.std.specs.Int.{w128}
use Rattle.std.proofs.lemmas.Int.{to_z-of_z}
use Rattle.rank_lasso.proofs.RankingSystem.LeafLaws.{terms_from}
use Rattle.rank_lasso.proofs.RankingSystem.TakenLaws.{terms_taken, terms_passed, terms_end}
use Rattle.rank_lasso.proofs.ranking_system.points.terms_of.Goals as goal
use Rattle.rank_lasso.proofs.ranking_system.points.terms_of.Goals.{then-number-ne0+in_ok-push, else-number-ne0}

pub loop-i-preserved : goal.loop-i-preserved
loop-i-preserved c =
    let f : FitsSigned w128 (get_or c.args.numbers.now c.loop-i.i (pos 0)) = search rules in
    elim c.if-number-ne0.branch [
      | then-number-ne0+in_ok-push w ↦ rw w.terms-is
          (terms_taken c.args.numbers.now c.loop-i.i c.loop-i.terms.items w.push.new.self.items (terms_from 0 c.args.numbers.now) c.loop-i-test.true c.loop-i.invariant
          (λ e. w.if-number-ne0.true (ap (of_z w128) e)) (simp to_z-of_z at w.in_ok-push.ensures.items))
      | else-number-ne0 w ↦ rw w.terms-is
          (terms_passed c.args.numbers.now c.loop-i.i c.loop-i.terms.items (terms_from 0 c.args.numbers.now) c.loop-i-test.true c.loop-i.invariant (sym (to_z-of_z w128 (get_or c.args.numbers.now c.loop-i.i (pos 0)) f) ∙ ap (to_z w128) w.if-number-ne0.false))
    ]

pub returns : goal.returns
returns c = terms_end c.args.numbers.now c.loop-i.i c.loop-i.terms.items c.loop-i-test.false c.loop-i.invariant
