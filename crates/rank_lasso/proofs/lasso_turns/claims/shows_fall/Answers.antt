use Rattle.std.proofs.Common.{◌↔◌, ◌∙◌, ℕ, ℤ, pos, List, ◌++◌, IsTrue, IfOk, sym, ap, subst, lit<}
use Rattle.math_facts.specs.Terms.{opposite}
use Rattle.lin_rows.specs.Sums.{row_of, SumsFit}
use Rattle.lin_rows.specs.declared.types.RowKind.TheVariants.{Le}
use Rattle.rank_lasso.specs.LassoTurns.Made.{plain_turn}
use Rattle.rank_lasso.specs.LassoTurns.Claims.{at_versions, RefutesWith}
use Rattle.rank_lasso.proofs.LassoTurns.FitLaws.{fall_fits, at_first}
use Rattle.rank_lasso.proofs.lasso_turns.claims.shows_fall.Goals as goal

pub refutes_with-requires : goal.refutes_with-requires
refutes_with-requires c =
    λ r. subst (λ (v : List (ℕ × ℤ)). SumsFit v (pos 0))
    (sym (c.deref-2.ensures.value ∙ c.in_ok-given.ensures ∙ ap (λ (here : List ℕ). c.args.terms.now ++ opposite (at_versions here c.args.terms.now)) c.deref.ensures.value))
    (fall_fits c.args.turn.now.width c.args.terms.now c.requires.form c.args.turn.now.here.items c.requires.turn.long c.requires.turn.differ c.requires.turn.fresh (pos 0) (lit< tt))

pub returns : goal.returns
returns c =
    subst (λ (v : List (ℕ × ℤ)). IfOk c.refutes_with.result (λ yes. IsTrue yes ↔ RefutesWith (plain_turn c.args.turn.now) (row_of v Le (pos 0)) c.args.proof.now))
    (c.deref-2.ensures.value ∙ c.in_ok-given.ensures ∙ ap (λ (here : List ℕ). c.args.terms.now ++ opposite (at_versions here c.args.terms.now)) c.deref.ensures.value ∙
    ap (λ (v : List (ℕ × ℤ)). v ++ opposite (at_versions c.args.turn.now.here.items c.args.terms.now)) (sym (at_first c.args.turn.now.width c.args.terms.now c.requires.form.within)))
    c.refutes_with.ensures
